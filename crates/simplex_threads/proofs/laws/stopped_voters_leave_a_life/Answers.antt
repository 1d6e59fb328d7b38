use Rattle.simplex_threads.proofs.Leaving.{crash_leaves, step_leaves, start_leaves, starts_later}
use Rattle.simplex_threads.proofs.laws.stopped_voters_leave_a_life.Goals as goal

pub returns-clause-crashed : goal.returns-clause-crashed
returns-clause-crashed c = λ made past keep l low.
    crash_leaves c.steps_are_lived.ensures c.starts_are_lived.ensures c.knowledge_is_written.ensures made past l low c.crashes_are_lived.ensures keep

pub returns-clause-stepped : goal.returns-clause-stepped
returns-clause-stepped c = λ made past input now stop l low w.
    step_leaves c.steps_are_lived.ensures c.starts_are_lived.ensures c.knowledge_is_written.ensures made past l low input now stop w

pub returns-clause-started : goal.returns-clause-started
returns-clause-started c = start_leaves c.starts_are_lived.ensures

pub returns-clause-later : goal.returns-clause-later
returns-clause-later c = starts_later
