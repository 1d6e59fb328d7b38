-- Small lives: three that are legal, and two that are not and send rivals.
use Rattle.std.specs.Prelude.{true, List, [], ◌∷◌, map}
use Rattle.simplex_values.specs.declared.proposal.Subject.{Subject}
use Rattle.simplex_values.specs.declared.proposal.Subject.TheVariants.{Notarize, Nullify, Finalize}
use Rattle.law_agreement.specs.WorldExamples.{first, rival, third, signed, round_of}
use Rattle.law_agreement.specs.Member.{Call, Start, StartAt, Take, Judge, Vote, Repeat, Sync, Send, Prune, Crash, newborn, run}

-- what a member sent in all these calls
abbrev pub sends : List Call → List Subject
sends calls = map (λ s. s.subject) (run newborn calls).sent

-- view 1 becomes final, view 2 is given up, and view 3 is notarized on view 1. The member crashes
-- once, and starts again at the end with view 1 as its floor
abbrev pub good_life : List Call
good_life =
    Start ∷ Vote (Notarize first) ∷ Sync 1 ∷ Send
    ∷ Take (signed (Notarize first)) ∷ Judge 1 true ∷ Vote (Finalize first) ∷ Sync 1 ∷ Send
    ∷ Crash (λ view. 0) ∷ Start
    ∷ Vote (Nullify (round_of 2)) ∷ Sync 2 ∷ Send ∷ Repeat (round_of 2) ∷ Send
    ∷ Take (signed (Finalize first)) ∷ Sync 1 ∷ Prune 1
    ∷ Take (signed (Nullify (round_of 2))) ∷ Vote (Notarize third) ∷ Sync 2 ∷ Sync 3 ∷ Send
    ∷ Crash (λ view. 0) ∷ StartAt first (0 ∷ 1 ∷ 2 ∷ []) ∷ []

-- a vote is made and lost before it is synced, so it was not sent, and its rival is voted for
abbrev pub lost_vote : List Call
lost_vote = Start ∷ Vote (Notarize first) ∷ Crash (λ view. 0) ∷ Start ∷ Vote (Notarize rival) ∷ Sync 1 ∷ Send ∷ []

-- a vote is made, and its record happens to be left
abbrev pub left_vote : List Call
left_vote = Start ∷ Vote (Notarize first) ∷ Crash (λ view. 1) ∷ Start ∷ []

-- a vote is sent before it is synced, and lost
abbrev pub early_send : List Call
early_send =
    Start ∷ Vote (Notarize first) ∷ Send ∷ Crash (λ view. 0) ∷ Start ∷ Vote (Notarize rival) ∷ Sync 1 ∷ Send ∷ []

-- a vote is pruned before anything is final
abbrev pub early_prune : List Call
early_prune =
    Start ∷ Vote (Notarize first) ∷ Sync 1 ∷ Send ∷ Prune 2 ∷ Crash (λ view. 0)
    ∷ Start ∷ Vote (Notarize rival) ∷ Sync 1 ∷ Send ∷ []
