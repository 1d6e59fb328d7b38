-- The calls that change a round, and what they leave known.
use Rattle.std.specs.Prelude.{ℕ, ◌||◌, List, [], ◌∷◌, Some}
use Rattle.std.specs.Option.{is_some}
use Rattle.simplex_wire.specs.declared.vote.Vote.{Vote}
use Rattle.simplex_wire.specs.declared.certificate.Certificate.{Certificate}
use Rattle.simplex_round.specs.Known.{Made, Known, nothing_known}
use Rattle.simplex_round.specs.Acceptance.{heard, heard_from}
use Rattle.simplex_round.specs.Forwarding.{after_certificate, forwarded_to_voter}
use Rattle.simplex_round.specs.Assembly.{Scheme, first_work, after_work}

-- a call that changes a round. A history is a list of calls, the newest first
pub data Call : Type 0 where
  AddNetwork : (sender : ℕ) → (vote : Vote) → Call
  AcceptVote : (vote : Vote) → Call
  SetLeader : (leader : ℕ) → Call
  RecordCertificate : (certificate : Certificate) → Call
  TryConstruct : (scheme : Scheme) → Call
  TryForward : (me : ℕ) → Call

-- what is known behind a call
unfoldable pub after_call : Made → Known → Call → Known
after_call made known (AddNetwork sender vote) = (heard_from known sender vote).known
after_call made known (AcceptVote vote) = (heard known vote).known
after_call made known (SetLeader leader) = record known { leader = Some leader }
after_call made known (RecordCertificate certificate) = after_certificate known certificate
after_call made known (TryConstruct scheme) = after_work known (first_work made scheme known)
after_call made known (TryForward me) =
    record known { forwarded = known.forwarded || is_some (forwarded_to_voter known me) }

-- what is known behind these calls since the round was made
unfoldable pub known_after : Made → List Call → Known
known_after made [] = nothing_known
known_after made (call ∷ before) = after_call made (known_after made before) call
