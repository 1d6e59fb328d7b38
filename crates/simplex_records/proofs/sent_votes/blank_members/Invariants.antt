use Rattle.std.proofs.Common.{◌≡◌, ℕ, length, false}
use Rattle.simplex_values.specs.declared.proposal.Subject.{Subject}
use Rattle.simplex_records.specs.Votes.{has_vote}
use Rattle.simplex_records.proofs.sent_votes.blank_members.Given as goal

abbrev pub invariant-loop : goal.invariant-loop
invariant-loop l = (length l.members.items ≡ l.counter) × ((at : ℕ) (s : Subject) → has_vote l.members.items at s ≡ false)
