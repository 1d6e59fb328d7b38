-- Small histories. Their messages are numbers, which wait behind the others where there is no room.
use Rattle.std.specs.Prelude.{ℕ, false, List, [], ◌∷◌, Some}
use Rattle.simplex_values.specs.declared.feedback.Feedback.TheVariants as feedback
use Rattle.simplex_mailbox.specs.Waiting.{put_last}
use Rattle.simplex_shared.specs.declared.op.Op.{Op}
use Rattle.simplex_shared.specs.declared.op.Op.TheVariants.{Put, Took, Shut}
use Rattle.simplex_shared.specs.History.{IsLegal}

-- legal where one message is ready at most
abbrev pub IsLegalHere : List (Op ℕ) → Type 0
IsLegalHere = IsLegal put_last (λ message. false) 1

-- two puts, of which the second finds no room, a take and a close
abbrev pub four_calls : List (Op ℕ)
four_calls = Put 0 2 feedback.Ok ∷ Put 0 4 feedback.Backoff ∷ Took 1 (Some 2) ∷ Shut 1 ∷ []
