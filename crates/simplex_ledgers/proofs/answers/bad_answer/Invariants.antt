use Rattle.std.proofs.Common.{◌≡◌, ◌+◌, drop}
use Rattle.model_ledger.specs.Blocks.{is_sound}
use Rattle.law_ledger.specs.Answers.{bad_answer_from, bad_answer}
use Rattle.simplex_ledgers.proofs.answers.bad_answer.Given as goal

abbrev pub invariant-loop-place : goal.invariant-loop-place
invariant-loop-place l = bad_answer (is_sound l.blocks) l.setup l.entries l.events ≡ bad_answer_from (is_sound l.blocks) l.setup l.entries (l.place + 1) (drop l.place l.events)
