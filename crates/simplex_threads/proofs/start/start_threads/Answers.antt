use Rattle.simplex_engine.specs.Parts.{parts_of}
use Rattle.simplex_engine.specs.Stands.{CrewStands}
use Rattle.simplex_threads.proofs.start.start_threads.Goals as goal

pub returns-clause-batcher : goal.returns-clause-batcher
unfolding CrewStands
returns-clause-batcher g c = λ made past h.
    rw (← c.clock-now.ensures.value) (c.in_ok-run.ensures.batcher (parts_of made past) (c.in_ok-crew.ensures.over made past h))

pub returns-clause-resolver : goal.returns-clause-resolver
unfolding CrewStands
returns-clause-resolver g c = λ made past h.
    rw (← c.clock-now.ensures.value) (c.in_ok-run.ensures.resolver (parts_of made past) (c.in_ok-crew.ensures.over made past h))

pub returns-clause-voter : goal.returns-clause-voter
unfolding CrewStands
returns-clause-voter g c = λ made past h.
    rw (← c.clock-now.ensures.value, c.in_ok-crew.ensures.journal) (c.in_ok-run.ensures.voter (parts_of made past) (c.in_ok-crew.ensures.over made past h))

pub returns-clause-whole : goal.returns-clause-whole
unfolding CrewStands
returns-clause-whole g c = λ made past h.
    rw (← c.clock-now.ensures.value) (c.in_ok-run.ensures.whole (parts_of made past) (c.in_ok-crew.ensures.stands made past h))
