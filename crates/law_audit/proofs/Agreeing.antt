-- The certificates of a record stand in the run.
use Rattle.std.proofs.Common.{◌≡◌, ℕ, Bool, true, false, List, [], ◌∷◌, ◌++◌, map, filter, Contains, Option, Some, None, refl, sym, subst, inl, inr, if◌then◌else◌}
use Rattle.std.specs.List.{filter_map, list_any, flat_map, cons_option}
use Rattle.std.specs.Option.{option_map_or}
use Rattle.std.proofs.lemmas.List.Elements.{Contains-append_left, Contains-append_right, Contains-append_cases}
use Rattle.simplex_wire.specs.declared.certificate.Certificate.{Certificate}
use Rattle.simplex_wire.specs.Fields.{certificate_subject}
use Rattle.simplex_types.specs.declared.activity.Activity.{Activity}
use Rattle.simplex_types.specs.declared.activity.Activity.TheVariants as activities
use Rattle.simplex_messages.specs.declared.call.Call.{Call}
use Rattle.simplex_messages.specs.declared.call.Call.TheVariants as calls
use Rattle.simplex_transcript.specs.declared.entry.Entry.{Entry}
use Rattle.simplex_transcript.specs.declared.setup.Setup.{Setup}
use Rattle.model_run.specs.Life.{Noted}
use Rattle.law_agreement.specs.Conflict.{Conflict}
use Rattle.law_agreement.proofs.ListFacts.{not_in_empty, Contains-here, Contains-there, Contains-cons_cases, Contains-from_filter}
use Rattle.law_run.specs.Backed.{IsVerifying, StandsIn, of_call, of_message, of_packet, standing_in}
use Rattle.law_run.specs.Safe.{AgreeAll, Stands}
use Rattle.model_audit.specs.Record.{call_of, record_entry}
use Rattle.model_audit.specs.Rebuilt.{call_for, rebuilt_entry, recorded}
use Rattle.model_audit.specs.Conflicts.{conflicts, is_verifying, standing_good, all_standing, has_conflict}
use Rattle.law_audit.proofs.Conflicting.{tested}

-- ---- of calls the same certificates are read

same_report : (a : Activity) → option_map_or of_call (call_for (call_of (calls.Report a))) [] ≡ of_call (calls.Report a)
same_report (activities.Notarize v) = refl
same_report (activities.Notarization c) = refl
same_report (activities.Certification c) = refl
same_report (activities.Nullify v) = refl
same_report (activities.Nullification c) = refl
same_report (activities.Finalize v) = refl
same_report (activities.Finalization c) = refl
same_report (activities.ConflictingNotarize e) = refl
same_report (activities.ConflictingFinalize e) = refl
same_report (activities.NullifyFinalize e) = refl

same_call : (c : Call) → option_map_or of_call (call_for (call_of c)) [] ≡ of_call c
same_call (calls.Append section artifact) = refl
same_call (calls.Sync section) = refl
same_call (calls.Prune least) = refl
same_call (calls.Send channel to bytes) = refl
same_call (calls.Report a) = same_report a
same_call (calls.Relay payload plan) = refl
same_call (calls.Block member cause) = refl

same_calls : (made : List Call) → flat_map of_call (filter_map call_for (map call_of made)) ≡ flat_map of_call made
same_calls [] = refl
same_calls (c ∷ made) = at (call_for (call_of c)) (same_call c) (same_calls made)
  where
    at : (o : Option Call) → option_map_or of_call o [] ≡ of_call c → flat_map of_call (filter_map call_for (map call_of made)) ≡ flat_map of_call made
        → flat_map of_call (cons_option o (filter_map call_for (map call_of made))) ≡ of_call c ++ flat_map of_call made
    at None e r = rw (sym e) r
    at (Some x) e r = rw (e, r) refl

-- ---- what stands in a record stands in the run

in_entry : (entry : Entry) (c : Certificate) → Contains (standing_in (rebuilt_entry (record_entry entry))) c → Contains (standing_in entry) c
unfolding rebuilt_entry record_entry
in_entry entry c k =
    let sent = flat_map of_packet entry.packets in
    let made = flat_map of_call entry.calls in
    let told = flat_map of_call (filter_map call_for (map call_of entry.calls)) in
    let handed = flat_map of_message entry.handed in
    elim (Contains-append_cases (entry.added ++ [] ++ told) sent c k) [
      | inl first ↦ elim (Contains-append_cases (entry.added ++ []) told c first) [
        | inl added ↦ elim (Contains-append_cases entry.added [] c added) [
          | inl a ↦ Contains-append_left (entry.added ++ handed ++ made) sent c (Contains-append_left (entry.added ++ handed) made c (Contains-append_left entry.added handed c a))
          | inr n ↦ absurd (not_in_empty c n)
        ]
        | inr m ↦ Contains-append_left (entry.added ++ handed ++ made) sent c (Contains-append_right (entry.added ++ handed) made c (subst (λ xs. Contains xs c) (same_calls entry.calls) m))
      ]
      | inr s ↦ Contains-append_right (entry.added ++ handed ++ made) sent c s
    ]

in_run : (setup : Setup) (before : List Noted) (c : Certificate) → Contains (all_standing setup (map recorded before)) c → StandsIn before c
unfolding all_standing standing_good StandsIn
in_run setup [] c k = absurd (not_in_empty c k)
in_run setup (noted ∷ before) c k =
    elim (Contains-append_cases (standing_good setup (recorded noted).entry) (all_standing setup (map recorded before)) c k) [
      | inl here ↦ inl (in_entry noted.entry c (Contains-from_filter (is_verifying setup) (standing_in (recorded noted).entry) c here))
      | inr rest ↦ inr (in_run setup before c rest)
    ]

passing : {X : Type 0} (p : X → Bool) (xs : List X) (x : X) → Contains (filter p xs) x → p x ≡ true
passing p [] x k = absurd (not_in_empty x k)
passing {X} p (y ∷ ys) x k = at (p y) refl k (passing p ys x)
  where
    at : (b : Bool) → p y ≡ b → Contains (if b then y ∷ filter p ys else filter p ys) x → (Contains (filter p ys) x → p x ≡ true) → p x ≡ true
    at true e c later = elim (Contains-cons_cases y (filter p ys) x c) [ inl same ↦ subst (λ (z : X). p z ≡ true) same e | inr r ↦ later r ]
    at false e c later = later c

here_stands : (setup : Setup) (before : List Noted) (noted : Noted) (c : Certificate) → Contains (standing_good setup (rebuilt_entry (record_entry noted.entry))) c → Stands setup (noted ∷ before) c
unfolding standing_good StandsIn
here_stands setup before noted c k =
    let entry = rebuilt_entry (record_entry noted.entry) in
    (inl (in_entry noted.entry c (Contains-from_filter (is_verifying setup) (standing_in entry) c k)), passing (is_verifying setup) (standing_in entry) c k)

verifying_before : (setup : Setup) (before : List Noted) (c : Certificate) → Contains (all_standing setup (map recorded before)) c → IsVerifying setup c
unfolding all_standing standing_good
verifying_before setup [] c k = absurd (not_in_empty c k)
verifying_before setup (noted ∷ before) c k =
    elim (Contains-append_cases (standing_good setup (recorded noted).entry) (all_standing setup (map recorded before)) c k) [
      | inl here ↦ passing (is_verifying setup) (standing_in (recorded noted).entry) c here
      | inr rest ↦ verifying_before setup before c rest
    ]

any_stands : (setup : Setup) (before : List Noted) (noted : Noted) (c : Certificate)
    → Contains (standing_good setup (rebuilt_entry (record_entry noted.entry)) ++ all_standing setup (map recorded before)) c → Stands setup (noted ∷ before) c
unfolding StandsIn
any_stands setup before noted c k =
    elim (Contains-append_cases (standing_good setup (rebuilt_entry (record_entry noted.entry))) (all_standing setup (map recorded before)) c k) [
      | inl here ↦ here_stands setup before noted c here
      | inr rest ↦ (inr (in_run setup before c rest), verifying_before setup before c rest)
    ]

-- ---- so none of them conflict

none_any : {X : Type 0} (test : X → Bool) (xs : List X) → ((x : X) → Contains xs x → test x ≡ false) → list_any test xs ≡ false
none_any test [] none = refl
none_any test (x ∷ xs) none = rw (none x (Contains-here x xs), none_any test xs (λ y k. none y (Contains-there x xs y k))) refl

untested : (length : ℕ) (a b : Certificate) → ¬ (Conflict length (certificate_subject a) (certificate_subject b)) → conflicts length (certificate_subject a) (certificate_subject b) ≡ false
untested length a b n = at (conflicts length (certificate_subject a) (certificate_subject b)) refl
  where
    at : (t : Bool) → conflicts length (certificate_subject a) (certificate_subject b) ≡ t → t ≡ false
    at true e = absurd (n ((tested length (certificate_subject a) (certificate_subject b)).0 e))
    at false e = refl

pub agrees : (setup : Setup) (before : List Noted) (noted : Noted) → AgreeAll setup (noted ∷ before) → has_conflict setup (map recorded before) (rebuilt_entry (record_entry noted.entry)) ≡ false
unfolding has_conflict
agrees setup before noted all =
    let here = standing_good setup (rebuilt_entry (record_entry noted.entry)) in
    let everywhere = here ++ all_standing setup (map recorded before) in
    none_any (λ (a : Certificate). list_any (λ (b : Certificate). conflicts setup.term (certificate_subject a) (certificate_subject b)) everywhere) here
    (λ a in_here. none_any (λ (b : Certificate). conflicts setup.term (certificate_subject a) (certificate_subject b)) everywhere
    (λ b in_all. untested setup.term a b (all a b (here_stands setup before noted a in_here) (any_stands setup before noted b in_all))))
