-- What a record tells of a run is what the run has.
use mathlib.Core.Path.{fun_ext}
use Rattle.std.proofs.Common.{◌≡◌, ℕ, ◌||◌, false, List, [], ◌∷◌, ◌++◌, length, map, find, Option, Some, None, Result, Ok, Err, refl, sym, ap, subst}
use Rattle.std.specs.Prelude.{IsNone}
use Rattle.std.specs.List.{filter_map, list_any, cons_option}
use Rattle.std.specs.Option.{option_map_or, option_and_then}
use Rattle.std.proofs.lemmas.List.{length-map}
use Rattle.simplex_values.specs.declared.proposal.Subject.{Subject}
use Rattle.simplex_wire.specs.declared.certificate.Finalization.{Finalization}
use Rattle.simplex_types.specs.declared.activity.Activity.{Activity}
use Rattle.simplex_types.specs.declared.activity.Activity.TheVariants as activities
use Rattle.simplex_messages.specs.declared.call.Call.{Call}
use Rattle.simplex_messages.specs.declared.call.Call.TheVariants as calls
use Rattle.simplex_transcript.specs.declared.entry.Entry.{Entry}
use Rattle.simplex_transcript.specs.declared.event.Event.{Event}
use Rattle.simplex_transcript.specs.declared.node.Node.{Node}
use Rattle.simplex_transcript.specs.declared.node.Ref.{Ref}
use Rattle.simplex_transcript.specs.declared.refusal.RunError.{RunError}
use Rattle.simplex_transcript.specs.declared.setup.Setup.{Setup}
use Rattle.model_run.specs.Setting.{Setting}
use Rattle.model_run.specs.Life.{Noted, clock_of}
use Rattle.model_run.specs.Requests.{asked_since, request_number, packet_at, packet_for, if_for}
use Rattle.model_run.specs.SentVotes.{vote_sent, sent_votes, has_sent}
use Rattle.model_run.specs.Forged.{Signed, is_forged, signed_by_faulty, first_forged, unless_forged}
use Rattle.model_run.specs.Forged as forging
use Rattle.model_run.specs.Entries.{reports, was_reported, is_own_floor, made_of, entry_of}
use Rattle.model_audit.specs.Record.{call_of, record_entry}
use Rattle.model_audit.specs.Rebuilt.{call_for, rebuilt_entry, recorded}

pub counted : (before : List Noted) → length (map recorded before) ≡ length before
counted before = length-map before recorded

-- ---- the clock

pub same_clock : (before : List Noted) → clock_of (map recorded before) ≡ clock_of before
unfolding clock_of
same_clock [] = refl
same_clock (noted ∷ before) = rw (same_clock before) refl

-- ---- packets and requests

pub same_packet_at : (before : List Noted) (at : Ref) → packet_at (map recorded before) at ≡ packet_at before at
unfolding packet_at rebuilt_entry record_entry
same_packet_at [] at = refl
same_packet_at (noted ∷ before) at = rw (counted before, same_packet_at before at) refl

pub same_packet : (before : List Noted) (node : Node) (at : Ref) → packet_for (map recorded before) node at ≡ packet_for before node at
unfolding packet_for
same_packet before node at = ap (option_and_then (if_for node)) (same_packet_at before at)

pub same_asked_since : (before : List Noted) (node : Node) → asked_since (map recorded before) node ≡ asked_since before node
unfolding asked_since rebuilt_entry record_entry
same_asked_since [] node = refl
same_asked_since (noted ∷ before) node = rw (same_asked_since before node) refl

pub same_request : (before : List Noted) (node : Node) (at : Ref) → request_number (map recorded before) node at ≡ request_number before node at
unfolding request_number rebuilt_entry record_entry
same_request [] node at = refl
same_request (noted ∷ before) node at = rw (counted before, same_asked_since before node, same_request before node at) refl

-- ---- floors

same_report : (f : Finalization) (a : Activity) → option_map_or (reports f) (call_for (call_of (calls.Report a))) false ≡ reports f (calls.Report a)
same_report f (activities.Notarize v) = refl
same_report f (activities.Notarization c) = refl
same_report f (activities.Certification c) = refl
same_report f (activities.Nullify v) = refl
same_report f (activities.Nullification c) = refl
same_report f (activities.Finalize v) = refl
same_report f (activities.Finalization c) = refl
same_report f (activities.ConflictingNotarize e) = refl
same_report f (activities.ConflictingFinalize e) = refl
same_report f (activities.NullifyFinalize e) = refl

same_call : (f : Finalization) (c : Call) → option_map_or (reports f) (call_for (call_of c)) false ≡ reports f c
same_call f (calls.Append section artifact) = refl
same_call f (calls.Sync section) = refl
same_call f (calls.Prune least) = refl
same_call f (calls.Send channel to bytes) = refl
same_call f (calls.Report a) = same_report f a
same_call f (calls.Relay payload plan) = refl
same_call f (calls.Block member cause) = refl

same_calls : (f : Finalization) (made : List Call) → list_any (reports f) (filter_map call_for (map call_of made)) ≡ list_any (reports f) made
same_calls f [] = refl
same_calls f (c ∷ made) = at (call_for (call_of c)) (same_call f c) (same_calls f made)
  where
    at : (o : Option Call) → option_map_or (reports f) o false ≡ reports f c → list_any (reports f) (filter_map call_for (map call_of made)) ≡ list_any (reports f) made
        → list_any (reports f) (cons_option o (filter_map call_for (map call_of made))) ≡ (reports f c || list_any (reports f) made)
    at None e r = rw (sym e) r
    at (Some x) e r = rw (e, r) refl

pub same_reported : (setup : Setup) (before : List Noted) (f : Finalization) → was_reported setup (map recorded before) f ≡ was_reported setup before f
unfolding was_reported rebuilt_entry record_entry
same_reported setup [] f = refl
same_reported setup (noted ∷ before) f = rw (same_calls f noted.entry.calls, same_reported setup before f) refl

pub same_floor : (setup : Setup) (before : List Noted) (floor : Option Finalization) → is_own_floor setup (map recorded before) floor ≡ is_own_floor setup before floor
same_floor setup before None = refl
same_floor setup before (Some f) = same_reported setup before f

-- ---- what is forged

same_sent : (before : List Noted) (member : ℕ) → sent_votes (map recorded before) member ≡ sent_votes before member
unfolding sent_votes rebuilt_entry record_entry
same_sent [] member = refl
same_sent (noted ∷ before) member = ap (λ rest. filter_map (vote_sent member) noted.entry.packets ++ rest) (same_sent before member)

same_has_sent : (before : List Noted) (member : ℕ) (subject : Subject) → has_sent (map recorded before) member subject ≡ has_sent before member subject
unfolding has_sent
same_has_sent before member subject = rw (same_sent before member) refl

same_is_forged : (setup : Setup) (before : List Noted) (s : Signed) → is_forged setup (map recorded before) s ≡ is_forged setup before s
unfolding is_forged
same_is_forged setup before s = rw (same_has_sent before s.attestation.signer s.subject) refl

pub same_forged : (setup : Setup) (before : List Noted) (entry : Entry) → first_forged setup (map recorded before) (rebuilt_entry (record_entry entry)) ≡ first_forged setup before entry
unfolding first_forged rebuilt_entry record_entry
same_forged setup before entry = ap (λ test. find test (signed_by_faulty setup entry.packets)) (fun_ext (same_is_forged setup before))

ok_is : (a b : Noted) → ◌≡◌ {A = Result Noted RunError} (Ok a) (Ok b) → a ≡ b
ok_is a b h = cc

-- an entry of a run holds nothing that is forged
nothing_forged : (setup : Setup) (before : List Noted) (made : Result Noted RunError) (noted : Noted) → unless_forged setup before made ≡ Ok noted → IsNone (first_forged setup before noted.entry)
unfolding unless_forged
nothing_forged setup before (Err error) noted e = cc
nothing_forged setup before (Ok other) noted e = at (first_forged setup before other.entry) refl e
  where
    at : (o : Option Signed) → first_forged setup before other.entry ≡ o → forging.unless o other ≡ Ok noted → IsNone (first_forged setup before noted.entry)
    at None f h = subst (λ (n : Noted). IsNone (first_forged setup before n.entry)) (ok_is other noted h) (rw f refl)
    at (Some s) f h = cc

pub genuine : (setting : Setting) (before : List Noted) (event : Event) (noted : Noted) → entry_of setting before event ≡ Ok noted
    → IsNone (first_forged setting.setup (map recorded before) (rebuilt_entry (record_entry noted.entry)))
unfolding entry_of
genuine setting before event noted e =
    rw (same_forged setting.setup before noted.entry) (nothing_forged setting.setup before (made_of setting before event) noted e)
