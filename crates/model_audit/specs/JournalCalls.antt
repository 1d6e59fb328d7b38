-- Which calls of the journal a step makes.
use Rattle.std.specs.Prelude.{ℕ, ◌++◌, nat_lt, List, [], ◌∷◌, map, if◌then◌else◌}
use Rattle.simplex_values.specs.declared.answer.Answer.TheVariants as answers
use Rattle.simplex_wire.specs.declared.artifact.Artifact.{Artifact}
use Rattle.simplex_wire.specs.declared.artifact.Artifact.TheVariants as artifacts
use Rattle.simplex_wire.specs.declared.certificate.Certificate.{Certificate}
use Rattle.simplex_wire.specs.declared.vote.Vote.{Vote}
use Rattle.simplex_wire.specs.declared.vote.Vote.TheVariants as votes
use Rattle.simplex_wire.specs.Fields.{artifact_round}
use Rattle.model_rules.specs.declared.request.Asked.TheVariants as asks
use Rattle.model_rules.specs.Known.{Made, Fact, has_nullified}
use Rattle.model_rules.specs.Views.{current_of, least_active}
use Rattle.model_rules.specs.Calls.{takes_verdict}
use Rattle.simplex_messages.specs.declared.call.Call.{Call}
use Rattle.simplex_messages.specs.declared.call.Call.TheVariants as calls
use Rattle.simplex_messages.specs.declared.voter.Message.TheVariants as mail
use Rattle.model_steps.specs.Voter.{adds, record_of}
use Rattle.model_audit.specs.Taking.{Taking, Deadline, Mail, Reply, acted, touched, given_up, newly_known, votes_then}

-- ---- the calls of the journal that the rules make in a step

abbrev pub vote_record : Vote → Artifact
vote_record (votes.Notarize v) = artifacts.Notarize v
vote_record (votes.Nullify v) = artifacts.Nullify v
vote_record (votes.Finalize v) = artifacts.Finalize v

-- the certificate that is added
abbrev pub added_by : Made → List Fact → Taking → List Certificate
added_by made known (Mail (mail.Verified certificate)) = if adds made known certificate then certificate ∷ [] else []
added_by made known taking = []

-- the record of what is taken: of a nullify, the first time; of a certificate that is added; of a verdict
abbrev pub records_taken : Made → List Fact → Taking → List Artifact
records_taken made known Deadline =
    if has_nullified known (current_of made known) then [] else map vote_record (given_up made known Deadline)
records_taken made known (Mail message) = map record_of (added_by made known (Mail message))
records_taken made known (Reply (asks.Certify round payload) (answers.Verdict good)) =
    if takes_verdict known round.view then artifacts.Certification round good ∷ [] else []
records_taken made known taking = []

-- and of the votes on the view that is touched
abbrev pub known_then : Made → ℕ → List Fact → Taking → List Fact
known_then made now known taking =
    newly_known made known taking ++ acted made now known (added_by made known taking) taking

abbrev pub records_made : Made → ℕ → List Fact → Taking → List Artifact
records_made made now known taking =
    records_taken made known taking ++ map vote_record (votes_then made (known_then made now known taking) (touched made known taking))

abbrev pub append_of : Artifact → Call
append_of artifact = calls.Append (artifact_round artifact).view artifact

-- the section is synced where anything was appended
abbrev pub syncs_of : List Artifact → List Call
syncs_of [] = []
syncs_of (artifact ∷ rest) = calls.Sync (artifact_round artifact).view ∷ []

-- a prune where the least active view rises
abbrev pub prunes_of : Made → List Fact → List Fact → List Call
prunes_of made before after = if nat_lt (least_active made before) (least_active made after) then calls.Prune (least_active made after) ∷ [] else []

-- an append for each record, the sync, and the prune
unfoldable pub journal_calls : Made → ℕ → List Fact → Taking → List Call
journal_calls made now known taking =
    map append_of (records_made made now known taking) ++ syncs_of (records_made made now known taking)
    ++ prunes_of made known (known_then made now known taking)
