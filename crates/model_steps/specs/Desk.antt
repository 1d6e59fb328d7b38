-- What a voter's step has done so far.
use Rattle.std.specs.Prelude.{Bool, true, false, List, [], ◌∷◌, ◌++◌, map, Option, None}
use Rattle.simplex_values.specs.declared.plan.Channel.TheVariants as channels
use Rattle.simplex_values.specs.declared.plan.Recipients.TheVariants as recipients
use Rattle.simplex_wire.specs.declared.vote.Vote.{Vote}
use Rattle.simplex_wire.specs.declared.vote.Nullify.{Nullify}
use Rattle.simplex_wire.specs.declared.certificate.Certificate.{Certificate}
use Rattle.simplex_wire.specs.declared.certificate.Notarization.{Notarization}
use Rattle.simplex_wire.specs.declared.artifact.Artifact.{Artifact}
use Rattle.simplex_wire.specs.Fields.{artifact_round}
use Rattle.simplex_wire.specs.Message as format
use Rattle.simplex_types.specs.declared.activity.Activity.{Activity}
use Rattle.model_rules.specs.Known.{Made}
use Rattle.model_rules.specs.Calls as state
use Rattle.model_rules.specs.Pending.{Desk, Sought, told}
use Rattle.simplex_messages.specs.declared.call.Call.{Call}
use Rattle.simplex_messages.specs.declared.call.Call.TheVariants as calls
use Rattle.simplex_messages.specs.declared.handed.Handed.{Handed}
use Rattle.simplex_messages.specs.declared.handed.Handed.TheVariants as handed
use Rattle.simplex_messages.specs.declared.batcher.Message.TheVariants as batcher
use Rattle.simplex_messages.specs.declared.resolver.MailboxMessage.{MailboxMessage}
use Rattle.simplex_messages.specs.declared.resolver.MailboxMessage.TheVariants as resolver

-- what a step has done: to what is known and to the open requests; which certificates it added, which messages
-- it handed on and which calls it made; and what it has still to publish
pub record Doing : Type 0 where
  pub desk : Desk
  pub added : List Certificate
  pub handed : List Handed
  pub calls : List Call
  -- whether anything was appended
  pub wrote : Bool
  -- a verdict that was taken, and its notarization
  pub verdict : Option (Notarization × Bool)
  -- an own nullify, and for a repeated one the certificate that shows why the member is in its view
  pub nullify : Option (Nullify × Option Certificate)

-- nothing is done yet
abbrev pub begun : Desk → Doing
begun desk = record { desk = desk; added = []; handed = []; calls = []; wrote = false; verdict = None; nullify = None }

-- what is known, after one more call on the state
abbrev pub tell : Made → state.Call → Doing → Doing
tell made call doing = record doing { desk = told made call doing.desk }

abbrev pub make : Call → Doing → Doing
make call doing = record doing { calls = doing.calls ++ call ∷ [] }

abbrev pub hand : Handed → Doing → Doing
hand message doing = record doing { handed = doing.handed ++ message ∷ [] }

-- a record is appended to the section of its view
abbrev pub append : Artifact → Doing → Doing
append artifact doing =
    record doing { calls = doing.calls ++ calls.Append (artifact_round artifact).view artifact ∷ []; wrote = true }

abbrev pub resolve_of : Sought → MailboxMessage
resolve_of s = resolver.Resolve s.proposal s.view s.kind s.target

-- what the open requests lack is sought from the resolver
abbrev pub seek : Doing → Doing
seek doing =
    record doing {
      handed = doing.handed ++ map (λ s. handed.Resolver (resolve_of s)) doing.desk.sought;
      desk = record doing.desk { sought = [] };
    }

-- a vote goes to the own batcher, and to all
abbrev pub send_vote : Vote → Doing → Doing
send_vote vote doing =
    record doing {
      handed = doing.handed ++ handed.Batcher (batcher.Constructed vote) ∷ [];
      calls = doing.calls ++ calls.Send channels.Vote recipients.All (format.vote.spelling vote) ∷ [];
    }

-- a certificate goes to all
abbrev pub send_certificate : Certificate → Doing → Doing
send_certificate certificate doing =
    make (calls.Send channels.Certificate recipients.All (format.certificate.spelling certificate)) doing

abbrev pub report : Activity → Doing → Doing
report activity doing = make (calls.Report activity) doing
