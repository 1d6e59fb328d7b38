-- A floor that was reported by an honest node is backed.
use Rattle.std.proofs.Common.{◌≡◌, ◌||◌, Bool, true, false, List, [], ◌∷◌, Option, Some, None, refl, sym, subst, ◌&&◌}
use Rattle.std.specs.List.{list_any}
use Rattle.simplex_wire.specs.declared.certificate.Certificate.TheVariants as certificates
use Rattle.simplex_wire.specs.declared.certificate.Finalization.{Finalization}
use Rattle.simplex_types.specs.declared.activity.Activity.TheVariants as activities
use Rattle.simplex_messages.specs.declared.call.Call.{Call}
use Rattle.simplex_messages.specs.declared.call.Call.TheVariants as calls
use Rattle.simplex_messages.specs.declared.step.Stop.{Stop}
use Rattle.simplex_transcript.specs.declared.event.Event.TheVariants as events
use Rattle.simplex_transcript.specs.declared.node.Node.{Node}
use Rattle.model_steps.specs.VoterLife.{rest}
use Rattle.model_run.specs.Life.{Noted}
use Rattle.model_run.specs.Entries.{reports, was_reported, is_own_floor, is_of_honest}
use Rattle.law_run.specs.Sayings.{Each, InCall}
use Rattle.law_run.specs.Saying.{InStart, InNoted}
use Rattle.law_run.proofs.StartFloors.{finals_same}
use Rattle.law_run.proofs.Backers.{Backers}
use Rattle.law_run.proofs.Good.{IsGood}

call_reports : (backers : Backers) (f : Finalization) (c : Call) → reports f c ≡ true → InCall (IsGood backers) c → IsGood backers (certificates.Finalization f)
call_reports backers f (calls.Report (activities.Finalization g)) e good = subst (λ x. IsGood backers (certificates.Finalization x)) (sym (finals_same f g e)) good
call_reports backers f (calls.Report (activities.Notarize v)) e good = cc
call_reports backers f (calls.Report (activities.Notarization v)) e good = cc
call_reports backers f (calls.Report (activities.Certification v)) e good = cc
call_reports backers f (calls.Report (activities.Nullify v)) e good = cc
call_reports backers f (calls.Report (activities.Nullification v)) e good = cc
call_reports backers f (calls.Report (activities.Finalize v)) e good = cc
call_reports backers f (calls.Report (activities.ConflictingNotarize v)) e good = cc
call_reports backers f (calls.Report (activities.ConflictingFinalize v)) e good = cc
call_reports backers f (calls.Report (activities.NullifyFinalize v)) e good = cc
call_reports backers f (calls.Append n a) e good = cc
call_reports backers f (calls.Sync n) e good = cc
call_reports backers f (calls.Prune n) e good = cc
call_reports backers f (calls.Send channel to bytes) e good = cc
call_reports backers f (calls.Relay payload plan) e good = cc
call_reports backers f (calls.Block who why) e good = cc

calls_report : (backers : Backers) (f : Finalization) (cs : List Call) → list_any (reports f) cs ≡ true → Each (InCall (IsGood backers)) cs → IsGood backers (certificates.Finalization f)
calls_report backers f [] e good = cc
calls_report backers f (c ∷ rest) e good = at (reports f c) refl (calls_report backers f rest)
  where
    at : (b : Bool) → reports f c ≡ b → (list_any (reports f) rest ≡ true → Each (InCall (IsGood backers)) rest → IsGood backers (certificates.Finalization f))
        → IsGood backers (certificates.Finalization f)
    at true h old = call_reports backers f c h good.0
    at false h old = old (subst (λ b. (b || list_any (reports f) rest) ≡ true) h e) good.1

pub reported_good : (backers : Backers) (f : Finalization) (before : List Noted) → was_reported backers.setting.setup before f ≡ true → Each (InNoted (IsGood backers)) before → IsGood backers (certificates.Finalization f)
unfolding was_reported
reported_good backers f [] e good = cc
reported_good backers f (noted ∷ before) e good = at (is_of_honest backers.setting.setup noted.entry.who) (list_any (reports f) noted.entry.calls) refl e (reported_good backers f before)
  where
    at : (a b : Bool) → list_any (reports f) noted.entry.calls ≡ b → ((a && b) || was_reported backers.setting.setup before f) ≡ true
        → (was_reported backers.setting.setup before f ≡ true → Each (InNoted (IsGood backers)) before → IsGood backers (certificates.Finalization f)) → IsGood backers (certificates.Finalization f)
    at true true h k old = (let new = good.0 in calls_report backers f noted.entry.calls h new.calls)
    at true false h k old = old k good.1
    at false b h k old = old k good.1

pub floor_good : (backers : Backers) (before : List Noted) (floor : Option Finalization) (node : Node) (stop : Stop) → is_own_floor backers.setting.setup before floor ≡ true → Each (InNoted (IsGood backers)) before
    → InStart (IsGood backers) (events.Start node floor stop)
floor_good backers before None node stop e good = tt
floor_good backers before (Some f) node stop e good = reported_good backers f before e good
