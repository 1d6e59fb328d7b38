-- Where no own vote stands and no packet, the values keep to their types.
use Rattle.std.proofs.Common.{◌≡◌, ◌&&◌, Bool, true, List, [], ◌∷◌, Result, Ok, Err, refl}
use Rattle.std.specs.List.{list_all}
use Rattle.simplex_wire.specs.declared.artifact.Artifact.{Artifact}
use Rattle.simplex_wire.specs.declared.artifact.Artifact.TheVariants as artifacts
use Rattle.simplex_messages.specs.declared.batcher.Message.TheVariants as batcher
use Rattle.simplex_messages.specs.declared.call.Call.{Call}
use Rattle.simplex_messages.specs.declared.call.Call.TheVariants as calls
use Rattle.simplex_messages.specs.declared.handed.Handed.{Handed}
use Rattle.simplex_messages.specs.declared.handed.Handed.TheVariants as handed
use Rattle.simplex_transcript.specs.declared.entry.Entry.{Entry}
use Rattle.simplex_transcript.specs.declared.entry.Packet.{Packet}
use Rattle.simplex_transcript.specs.declared.refusal.Refusal.{Refusal}
use Rattle.law_run.specs.Sayings.{Each}
use Rattle.law_run.specs.Fitting.{RecordFits, CallFits, HandedFits, IsOfBytes, IsTyped}
use Rattle.law_run.specs.Quiet.{is_others, is_quiet_call, is_quiet_message, is_none, is_quiet, is_quiet_run}
use Rattle.law_run.proofs.Good.{both}

each_where : {A : Type 0} (test : A → Bool) (P : A → Type 0) → ((x : A) → test x ≡ true → P x) → (xs : List A) → list_all test xs ≡ true → Each P xs
each_where test P one [] e = tt
each_where test P one (x ∷ xs) e = (let parts = both (test x) (list_all test xs) e in (one x parts.0, each_where test P one xs parts.1))

record_quiet : (a : Artifact) → is_others a ≡ true → RecordFits a
record_quiet (artifacts.Notarize v) e = cc
record_quiet (artifacts.Nullify v) e = cc
record_quiet (artifacts.Finalize v) e = cc
record_quiet (artifacts.Notarization c) e = tt
record_quiet (artifacts.Nullification c) e = tt
record_quiet (artifacts.Finalization c) e = tt
record_quiet (artifacts.Certification r good) e = tt

call_quiet : (c : Call) → is_quiet_call c ≡ true → CallFits c
call_quiet (calls.Append n a) e = record_quiet a e
call_quiet (calls.Sync n) e = tt
call_quiet (calls.Prune n) e = tt
call_quiet (calls.Send channel to bytes) e = tt
call_quiet (calls.Report activity) e = tt
call_quiet (calls.Relay payload plan) e = tt
call_quiet (calls.Block who why) e = tt

message_quiet : (h : Handed) → is_quiet_message h ≡ true → HandedFits h
message_quiet (handed.Batcher (batcher.Constructed v)) e = cc
message_quiet (handed.Batcher (batcher.Update current leader finalized proposal)) e = tt
message_quiet (handed.Voter message) e = tt
message_quiet (handed.Resolver message) e = tt
message_quiet (handed.Handler message) e = tt

none_fit : (ps : List Packet) → is_none ps ≡ true → Each IsOfBytes ps
none_fit [] e = tt
none_fit (p ∷ ps) e = cc

entry_quiet : (entry : Entry) → is_quiet entry ≡ true → IsTyped entry
entry_quiet entry e =
    let front = both (list_all is_quiet_message entry.handed && list_all is_quiet_call entry.calls) (is_none entry.packets) e in
    let parts = both (list_all is_quiet_message entry.handed) (list_all is_quiet_call entry.calls) front.0 in
    record {
      handed = each_where is_quiet_message HandedFits message_quiet entry.handed parts.0;
      calls = each_where is_quiet_call CallFits call_quiet entry.calls parts.1;
      bytes = none_fit entry.packets front.1;
    }

pub quiet_transcript : (r : Result (List Entry) Refusal) → is_quiet_run r ≡ true → (entries : List Entry) × (r ≡ Ok entries) × Each IsTyped entries
quiet_transcript (Ok entries) e = (entries, refl, each_where is_quiet IsTyped entry_quiet entries e)
quiet_transcript (Err refusal) e = cc
