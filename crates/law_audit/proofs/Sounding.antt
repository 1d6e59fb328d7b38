-- What a record that is found sound holds.
use Rattle.std.proofs.Common.{◌≡◌, ℕ, ◌+◌, ◌⊎◌, ◌↔◌, ◌||◌, ◌&&◌, Bool, true, false, not, List, [], ◌∷◌, ◌++◌, length, Contains, Option, Some, None, is_some, refl, subst, inl, inr, if◌then◌else◌}
use Rattle.std.specs.Prelude.{IsNone}
use Rattle.std.specs.List.{list_any}
use Rattle.std.specs.Option.{is_none, option_or}
use Rattle.std.proofs.lemmas.List.Elements.{Contains-append_left, Contains-append_right}
use Rattle.simplex_wire.specs.declared.certificate.Certificate.{Certificate}
use Rattle.simplex_wire.specs.Fields.{certificate_subject}
use Rattle.simplex_transcript.specs.declared.event.Event.{Event}
use Rattle.simplex_transcript.specs.declared.entry.Entry.{Entry}
use Rattle.model_run.specs.Setting.{Setting}
use Rattle.model_run.specs.Life.{Noted}
use Rattle.model_run.specs.Run.{are_few}
use Rattle.model_run.specs.Setups.{first_bad}
use Rattle.law_agreement.specs.Conflict.{Conflict}
use Rattle.law_agreement.proofs.ListFacts.{not_in_empty, Contains-cons_cases, Contains-filter}
use Rattle.law_run.specs.Backed.{IsVerifying, StandsIn, standing_in}
use Rattle.law_run.specs.Safe.{AgreeAll}
use Rattle.model_audit.specs.declared.record.AuditEntry.{AuditEntry}
use Rattle.model_audit.specs.declared.record.AuditFault.{AuditFault}
use Rattle.model_audit.specs.declared.record.AuditFault.TheVariants as faults
use Rattle.model_audit.specs.declared.record.Verdict.{Verdict}
use Rattle.model_audit.specs.declared.record.Verdict.TheVariants.{Sound, Fault}
use Rattle.model_audit.specs.Rebuilt.{rebuilt}
use Rattle.model_audit.specs.Conflicts.{conflicts, is_verifying, standing_good, all_standing, has_conflict}
use Rattle.model_audit.specs.Holding.{rebuilt_from, all_rebuilt, IsFaultless, AreFaultless, IsSound}
use Rattle.model_audit.specs.Audit.{unless, fault_in, verdict_or, judged_from, audited}
use Rattle.law_audit.proofs.Conflicting.{tested, turned_round}

-- ---- one entry

none_of : {A : Type 0} (o p : Option A) → option_or o p ≡ None → (o ≡ None) × (p ≡ None)
none_of None p e = (refl, e)
none_of (Some x) p e = cc

none_or : {A : Type 0} (o p : Option A) → o ≡ None → p ≡ None → option_or o p ≡ None
none_or None p e f = f
none_or (Some x) p e f = cc

held : (b : Bool) (fault : AuditFault) → unless b fault ≡ None → b ≡ true
held true fault e = refl
held false fault e = cc

holds : (b : Bool) (fault : AuditFault) → b ≡ true → unless b fault ≡ None
holds true fault e = refl
holds false fault e = cc

not_held : (b : Bool) → not b ≡ true → b ≡ false
not_held true e = cc
not_held false e = refl

not_holds : (b : Bool) → b ≡ false → not b ≡ true
not_holds true e = cc
not_holds false e = refl

is_nothing : {A : Type 0} (o : Option A) → is_none o ≡ true → IsNone o
is_nothing None e = refl
is_nothing (Some x) e = cc

nothing_is : {A : Type 0} (o : Option A) → IsNone o → is_none o ≡ true
nothing_is None e = refl
nothing_is (Some x) e = cc

module _ (setting : Setting) where
  faultless : (before : List Noted) (event : Event) (e : AuditEntry) → fault_in setting before event e ≡ None → IsFaultless setting before event e
  unfolding fault_in
  faultless before event e h =
      let a = none_of _ _ h in
      let b = none_of _ _ a.1 in
      let c = none_of _ _ b.1 in
      let d = none_of _ _ c.1 in
      let f = none_of _ _ d.1 in
      record {
        fitting = held _ faults.Entry a.0;
        allowed = held _ faults.Condition b.0;
        genuine = is_nothing _ (held _ faults.Forged c.0);
        stored = held _ faults.Order d.0;
        ruled = held _ faults.Votes f.0;
        agrees = not_held _ (held _ faults.Conflict f.1);
      }

  no_fault : (before : List Noted) (event : Event) (e : AuditEntry) → IsFaultless setting before event e → fault_in setting before event e ≡ None
  unfolding fault_in
  no_fault before event e f =
      none_or _ _ (holds _ faults.Entry f.fitting)
      (none_or _ _ (holds _ faults.Condition f.allowed)
      (none_or _ _ (holds _ faults.Forged (nothing_is _ f.genuine))
      (none_or _ _ (holds _ faults.Order f.stored)
      (none_or _ _ (holds _ faults.Votes f.ruled)
      (holds _ faults.Conflict (not_holds _ f.agrees))))))

  -- ---- all entries

  found_sound : (number : ℕ) (o : Option AuditFault) (later : Verdict) → verdict_or number o later ≡ Sound → (o ≡ None) × (later ≡ Sound)
  found_sound number None later e = (refl, e)
  found_sound number (Some fault) later e = cc

  finds_sound : (number : ℕ) (o : Option AuditFault) (later : Verdict) → o ≡ None → later ≡ Sound → verdict_or number o later ≡ Sound
  finds_sound number None later e f = f
  finds_sound number (Some fault) later e f = cc

  judged_hold : (before : List Noted) (events : List Event) (entries : List AuditEntry) → judged_from setting before events entries ≡ Sound → AreFaultless setting before events entries
  unfolding judged_from AreFaultless
  judged_hold before [] [] h = tt
  judged_hold before [] (e ∷ entries) h = cc
  judged_hold before (event ∷ events) [] h = cc
  judged_hold before (event ∷ events) (e ∷ entries) h =
      let s = found_sound (length before + 1) (fault_in setting before event e) _ h in
      (faultless before event e s.0, judged_hold (rebuilt event e ∷ before) events entries s.1)

  hold_judged : (before : List Noted) (events : List Event) (entries : List AuditEntry) → AreFaultless setting before events entries → judged_from setting before events entries ≡ Sound
  unfolding judged_from AreFaultless
  hold_judged before [] [] h = refl
  hold_judged before [] (e ∷ entries) h = absurd h
  hold_judged before (event ∷ events) [] h = absurd h
  hold_judged before (event ∷ events) (e ∷ entries) h =
      finds_sound (length before + 1) (fault_in setting before event e) _ (no_fault before event e h.0) (hold_judged (rebuilt event e ∷ before) events entries h.1)

  if_good : {later : Verdict} (few : Bool) {A : Type 0} (bad : Option A) → (if few && not (is_some bad) then later else Fault 0 faults.Setup) ≡ Sound
      → (few ≡ true) × IsNone bad × (later ≡ Sound)
  if_good true None e = (refl, refl, e)
  if_good true (Some x) e = cc
  if_good false None e = cc
  if_good false (Some x) e = cc

  good_if : {later : Verdict} (few : Bool) {A : Type 0} (bad : Option A) → few ≡ true → IsNone bad → later ≡ Sound
      → (if few && not (is_some bad) then later else Fault 0 faults.Setup) ≡ Sound
  good_if true None f n e = e
  good_if true (Some x) f n e = cc
  good_if false bad f n e = cc

  pub sound_exactly : (events : List Event) (entries : List AuditEntry) → audited setting events entries ≡ Sound ↔ IsSound setting events entries
  unfolding audited
  sound_exactly events entries = (
    λ h. let g = if_good (are_few setting.setup events) (first_bad setting.setup) h in
        record { valid = record { few = g.0; good = g.1 }; faultless = judged_hold [] events entries g.2 },
    λ s. good_if (are_few setting.setup events) (first_bad setting.setup) s.valid.few s.valid.good (hold_judged [] events entries s.faultless),
  )

  -- ---- no two certificates conflict

  none_any : {A : Type 0} (test : A → Bool) (xs : List A) (x : A) → list_any test xs ≡ false → Contains xs x → test x ≡ false
  none_any test [] x e k = absurd (not_in_empty x k)
  none_any {A} test (y ∷ ys) x e k = elim (Contains-cons_cases y ys x k) [
    | inl same ↦ subst (λ (z : A). test z ≡ false) same (first (test y) (list_any test ys) e)
    | inr r ↦ none_any test ys x (second (test y) (list_any test ys) e) r
  ]
    where
      first : (a b : Bool) → (a || b) ≡ false → a ≡ false
      first true b h = cc
      first false b h = refl

      second : (a b : Bool) → (a || b) ≡ false → b ≡ false
      second true b h = cc
      second false b h = h

  AreApart : List Noted → Type 0
  AreApart [] = Unit {0}
  AreApart (noted ∷ before) = (has_conflict setting.setup before noted.entry ≡ false) × AreApart before

  apart_from : (before : List Noted) (events : List Event) (entries : List AuditEntry) → AreApart before → AreFaultless setting before events entries → AreApart (rebuilt_from before events entries)
  unfolding AreFaultless rebuilt_from AreApart
  apart_from before [] [] a h = a
  apart_from before [] (e ∷ entries) a h = absurd h
  apart_from before (event ∷ events) [] a h = absurd h
  apart_from before (event ∷ events) (e ∷ entries) a h = apart_from (rebuilt event e ∷ before) events entries (h.0.agrees, a) h.1

  in_before : (before : List Noted) (c : Certificate) → StandsIn before c → IsVerifying setting.setup c → Contains (all_standing setting.setup before) c
  unfolding StandsIn all_standing standing_good
  in_before [] c s v = absurd s
  in_before (noted ∷ before) c s v = elim s [
    | inl here ↦ Contains-append_left (standing_good setting.setup noted.entry) (all_standing setting.setup before) c (Contains-filter (is_verifying setting.setup) (standing_in noted.entry) c v here)
    | inr r ↦ Contains-append_right (standing_good setting.setup noted.entry) (all_standing setting.setup before) c (in_before before c r v)
  ]

  apart : (a b : Certificate) → conflicts setting.setup.term (certificate_subject a) (certificate_subject b) ≡ false → ¬ (Conflict setting.setup.term (certificate_subject a) (certificate_subject b))
  apart a b e c = let t = (tested setting.setup.term (certificate_subject a) (certificate_subject b)).1 c in cc

  with_here : (before : List Noted) (entry : Entry) (a b : Certificate) → has_conflict setting.setup before entry ≡ false → Contains (standing_good setting.setup entry) a
      → Contains (standing_good setting.setup entry ++ all_standing setting.setup before) b → ¬ (Conflict setting.setup.term (certificate_subject a) (certificate_subject b))
  unfolding has_conflict
  with_here before entry a b h in_a in_b =
      let all = standing_good setting.setup entry ++ all_standing setting.setup before in
      apart a b (none_any (λ (d : Certificate). conflicts setting.setup.term (certificate_subject a) (certificate_subject d)) all b
      (none_any (λ (c : Certificate). list_any (λ (d : Certificate). conflicts setting.setup.term (certificate_subject c) (certificate_subject d)) all) (standing_good setting.setup entry) a h in_a) in_b)

  all_agree : (noted : List Noted) → AreApart noted → AgreeAll setting.setup noted
  unfolding StandsIn standing_good AreApart
  all_agree [] h a b sa sb = λ c. sa.0
  all_agree (noted ∷ before) h a b sa sb =
      let here = standing_good setting.setup noted.entry in
      let earlier = all_standing setting.setup before in
      let good : (c : Certificate) → Contains (standing_in noted.entry) c → IsVerifying setting.setup c → Contains here c =
      (λ c k v. Contains-filter (is_verifying setting.setup) (standing_in noted.entry) c v k) in
      let everywhere : (c : Certificate) → Contains (standing_in noted.entry) c ⊎ StandsIn before c → IsVerifying setting.setup c → Contains (here ++ earlier) c =
      (λ c s v. elim s [ inl k ↦ Contains-append_left here earlier c (good c k v) | inr k ↦ Contains-append_right here earlier c (in_before before c k v) ]) in
      elim sa.0 [
        | inl ka ↦ with_here before noted.entry a b h.0 (good a ka sa.1) (everywhere b sb.0 sb.1)
        | inr ka ↦ elim sb.0 [
          | inl kb ↦ λ c. with_here before noted.entry b a h.0 (good b kb sb.1) (everywhere a sa.0 sa.1) (turned_round setting.setup.term (certificate_subject a) (certificate_subject b) c)
          | inr kb ↦ all_agree before h.1 a b (ka, sa.1) (kb, sb.1)
        ]
      ]

  pub sound_agrees : (events : List Event) (entries : List AuditEntry) → IsSound setting events entries → AgreeAll setting.setup (all_rebuilt events entries)
  unfolding AreApart
  sound_agrees events entries s = all_agree (all_rebuilt events entries) (apart_from [] events entries tt s.faultless)
