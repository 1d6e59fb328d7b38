-- What a replay of a journal's records makes known.
use Rattle.std.proofs.Common.{◌≡◌, ℕ, suc, ◌<◌, ◌≤◌, ◌==◌, ◌&&◌, not, Bool, true, false, nat_lt, nat_le, if◌then◌else◌, List, [], ◌∷◌, ◌++◌, take, filter, Contains, refl, ap, ◌∙◌, subst, inl, inr, arith, append-nil, append_assoc, eq-eqb, eqb-true, le_refl, lt-ltb, ltb-true, ltb-false, take-append-drop, drop}
use Rattle.std.specs.List.{Any}
use Rattle.std.proofs.lemmas.Bool.{cases_lt, eqb-false}
use Rattle.std.proofs.lemmas.List.Folds.{Any-from_list_any, list_any-from_Any}
use Rattle.std.proofs.lemmas.List.Elements.{Contains-append_left, Contains-append_right, Contains-append_cases, Contains-push, Contains-push_cases}
use Rattle.simplex_values.specs.declared.proposal.Proposal.{Proposal}
use Rattle.simplex_values.specs.declared.proposal.Subject.{Subject}
use Rattle.simplex_values.specs.declared.proposal.Subject.TheVariants.{Notarize, Nullify, Finalize}
use Rattle.law_agreement.specs.World.{Certificate, view_of}
use Rattle.law_agreement.specs.Artifacts.{Artifact, Own, Proved, Judged, artifact_view, finalized_view, greatest, last_finalized, notarizes, is_notarization, has_notarization, is_verdict, has_verdict, is_taken, replay}
use Rattle.law_agreement.proofs.ListFacts.{not_in_empty, Contains-here, Contains-there, Contains-cons_cases}
use Rattle.law_agreement.proofs.KnownFacts.{greatest_above, greatest_at}
use Rattle.law_agreement.proofs.Knowing.{Within, Knowing}
use Rattle.law_agreement.specs.Journal.{Section, opened, append_to, synced_section, sync, left, prune, kept, held}
use Rattle.law_agreement.proofs.JournalFacts.{Placed}

-- a notarization of this view is among these
abbrev pub Noted : List Artifact → ℕ → Type 0
Noted xs v = (p : Proposal) × (signers : List ℕ) × Contains xs (Proved (record { subject = Notarize p; signers = signers })) × (view_of p ≡ v)

-- each certificate of the one is in the other
abbrev pub ProvedWithin : List Artifact → List Artifact → Type 0
ProvedWithin xs ys = (c : Certificate) → Contains xs (Proved c) → Contains ys (Proved c)

pub Noted-within : (xs ys : List Artifact) → ProvedWithin xs ys → (v : ℕ) → Noted xs v → Noted ys v
Noted-within xs ys f v n = (n.0, n.1, f _ n.2, n.3)

notarized_of : (v : ℕ) (s : Subject) → notarizes v s ≡ true → (p : Proposal) × (s ≡ Notarize p) × (view_of p ≡ v)
notarized_of v (Notarize p) h = (p, refl, eqb-true (view_of p) v h)
notarized_of v (Nullify r) h = cc
notarized_of v (Finalize p) h = cc

notarization_of : (v : ℕ) (a : Artifact) → is_notarization v a ≡ true → (p : Proposal) × (signers : List ℕ) × (a ≡ Proved (record { subject = Notarize p; signers = signers })) × (view_of p ≡ v)
notarization_of v (Own s) h = cc
notarization_of v (Judged u b) h = cc
notarization_of v (Proved c) h =
    let n : (p : Proposal) × (c.subject ≡ Notarize p) × (view_of p ≡ v) = notarized_of v c.subject h in
    (n.0, c.signers, ap (λ (s : Subject). Proved (record { subject = s; signers = c.signers })) n.1, n.2)

pub Noted-from_test : (xs : List Artifact) (v : ℕ) → has_notarization v xs ≡ true → Noted xs v
Noted-from_test xs v h =
    let a : Any (λ x. is_notarization v x ≡ true) xs = Any-from_list_any (is_notarization v) xs h in
    let n : (p : Proposal) × (signers : List ℕ) × (a.1 ≡ Proved (record { subject = Notarize p; signers = signers })) × (view_of p ≡ v) = notarization_of v a.1 a.4 in
    let k : Contains xs a.1 = (a.0, a.2, a.3) in
    (n.0, n.1, subst (Contains xs) n.2 k, n.3)

pub test_from_Noted : (xs : List Artifact) (v : ℕ) → Noted xs v → has_notarization v xs ≡ true
test_from_Noted xs v n =
    list_any-from_Any (is_notarization v) xs (n.2.0, Proved (record { subject = Notarize n.0; signers = n.1 }), n.2.1, n.2.2, eq-eqb (view_of n.0) v n.3)

-- a verdict stands behind its notarization
abbrev pub Fit : List Artifact → Artifact → Type 0
Fit before (Own s) = Unit {0}
Fit before (Proved c) = Unit {0}
Fit before (Judged v verdict) = Noted before v

abbrev pub Ready : List Artifact → List Artifact → Type 0
Ready before [] = Unit {0}
Ready before (a ∷ rest) = Fit before a × Ready (before ++ a ∷ []) rest

Fit-wider : (xs ys : List Artifact) → ProvedWithin xs ys → (a : Artifact) → Fit xs a → Fit ys a
Fit-wider xs ys f (Own s) h = tt
Fit-wider xs ys f (Proved c) h = tt
Fit-wider xs ys f (Judged v b) h = Noted-within xs ys f v h

push_within : (xs ys : List Artifact) (a : Artifact) → ProvedWithin xs ys → ProvedWithin (xs ++ a ∷ []) (ys ++ a ∷ [])
push_within xs ys a f c h = elim (Contains-push_cases xs a (Proved c) h) [ inl o ↦ Contains-append_left ys (a ∷ []) (Proved c) (f c o) | inr e ↦ subst (Contains (ys ++ a ∷ [])) e (Contains-push ys a) ]

pub Ready-wider : (xs ys rest : List Artifact) → ProvedWithin xs ys → Ready xs rest → Ready ys rest
Ready-wider xs ys [] f h = tt
Ready-wider xs ys (a ∷ rest) f h = (Fit-wider xs ys f a h.0, Ready-wider (xs ++ a ∷ []) (ys ++ a ∷ []) rest (push_within xs ys a f) h.1)

pub Ready-append : (b xs ys : List Artifact) → Ready b xs → Ready (b ++ xs) ys → Ready b (xs ++ ys)
Ready-append b [] ys h k = rw append-nil at k
Ready-append b (a ∷ xs) ys h k = (h.0, Ready-append (b ++ a ∷ []) xs ys h.1 (rw append_assoc k))

pub Ready-front : (b xs ys : List Artifact) → Ready b (xs ++ ys) → Ready b xs
Ready-front b [] ys h = tt
Ready-front b (a ∷ xs) ys h = (h.0, Ready-front (b ++ a ∷ []) xs ys h.1)

Fit-above : (view : ℕ) (b b' : List Artifact) → ((c : Certificate) → view < artifact_view (Proved c) → Contains b (Proved c) → Contains b' (Proved c)) → (x : Artifact) → view < artifact_view x → Fit b x → Fit b' x
Fit-above view b b' f (Own s) lt k = tt
Fit-above view b b' f (Proved c) lt k = tt
Fit-above view b b' f (Judged v r) lt k = (k.0, k.1, f _ (omega (arith, lt, k.3)) k.2, k.3)

above_step : (view : ℕ) (b b' : List Artifact) (a : Artifact) (xs : List Artifact) (t : Bool) → nat_lt view (artifact_view a) ≡ t
    → ((c : Certificate) → view < artifact_view (Proved c) → Contains b (Proved c) → Contains b' (Proved c))
    → Fit b a
    → ((b'' : List Artifact) → ((c : Certificate) → view < artifact_view (Proved c) → Contains (b ++ a ∷ []) (Proved c) → Contains b'' (Proved c)) → Ready b'' xs)
    → Ready b' (if t then a ∷ xs else xs)
above_step view b b' a xs true e f h rest = (
  Fit-above view b b' f a (ltb-true view (artifact_view a) e) h,
  rest (b' ++ a ∷ []) (λ c lt k. elim (Contains-push_cases b a (Proved c) k) [ inl o ↦ Contains-append_left b' (a ∷ []) (Proved c) (f c lt o) | inr n ↦ subst (Contains (b' ++ a ∷ [])) n (Contains-push b' a) ]),
)
above_step view b b' a xs false e f h rest =
    rest b' (λ c lt k. elim (Contains-push_cases b a (Proved c) k) [ inl o ↦ f c lt o | inr n ↦ absurd (omega (arith, ltb-false view (artifact_view a) e, ap artifact_view n, lt)) ])

-- the records above a view are ready, since a verdict and its notarization have one view
pub Ready-filter : (view : ℕ) (b b' xs : List Artifact) → ((c : Certificate) → view < artifact_view (Proved c) → Contains b (Proved c) → Contains b' (Proved c)) → Ready b xs → Ready b' (filter (λ a. nat_lt view (artifact_view a)) xs)
Ready-filter view b b' [] f h = tt
Ready-filter view b b' (a ∷ rest) f h =
    above_step view b b' a (filter (λ x. nat_lt view (artifact_view x)) rest) (nat_lt view (artifact_view a)) refl f h.0 (λ b'' g. Ready-filter view (b ++ a ∷ []) b'' rest g h.1)

-- ---- a replay
abbrev next : List Artifact → Artifact → List Artifact
next known a = if is_taken known a then known ++ a ∷ [] else known

next_keeps_at : (known : List Artifact) (a : Artifact) (t : Bool) → Within known (if t then known ++ a ∷ [] else known)
next_keeps_at known a true b c = Contains-append_left known (a ∷ []) b c
next_keeps_at known a false b c = c

replay_keeps : (known xs : List Artifact) → Within known (replay known xs)
replay_keeps known [] b c = c
replay_keeps known (a ∷ rest) b c = replay_keeps (next known a) rest b (next_keeps_at known a (is_taken known a) b c)

next_within_at : (known : List Artifact) (a : Artifact) (t : Bool) → Within (if t then known ++ a ∷ [] else known) (known ++ a ∷ [])
next_within_at known a true b c = c
next_within_at known a false b c = Contains-append_left known (a ∷ []) b c

next_within : (known : List Artifact) (x : Artifact) (rest : List Artifact) → Within (next known x ++ rest) (known ++ x ∷ rest)
next_within known x rest b c =
    elim (Contains-append_cases (next known x) rest b c) [
      | inl l ↦ elim (Contains-push_cases known x b (next_within_at known x (is_taken known x) b l)) [
        | inl o ↦ Contains-append_left known (x ∷ rest) b o
        | inr e ↦ Contains-append_right known (x ∷ rest) b (0, omega arith, e)
      ]
      | inr r ↦ Contains-append_right known (x ∷ rest) b (Contains-there x rest b r)
    ]

pub replay_within : (known xs : List Artifact) → Within (replay known xs) (known ++ xs)
replay_within known [] b c = rw append-nil c
replay_within known (a ∷ rest) b c = next_within known a rest b (replay_within (next known a) rest b c)

greatest_within : (f : Artifact → ℕ) (xs ys : List Artifact) → Within xs ys → greatest f xs ≤ greatest f ys
greatest_within f xs ys w =
    elim (cases_lt 0 (greatest f xs)) [
      | inl pos ↦ let g : (x : Artifact) × Contains xs x × (f x ≡ greatest f xs) = greatest_at f xs pos in omega (arith, greatest_above f ys g.0 (w g.0 g.1), g.2)
      | inr none ↦ omega (arith, none)
    ]

-- a certificate is taken
taken_plain : (known : List Artifact) (c : Certificate) (t : Bool) → is_taken known (Proved c) ≡ t → Contains (if t then known ++ Proved c ∷ [] else known) (Proved c)
taken_plain known c true e = Contains-push known (Proved c)
taken_plain known c false e = cc

proved_next_at : (known : List Artifact) (a : Artifact) (t : Bool) → is_taken known a ≡ t → ProvedWithin (known ++ a ∷ []) (if t then known ++ a ∷ [] else known)
proved_next_at known a true e c k = k
proved_next_at known (Own s) false e c k = cc
proved_next_at known (Proved d) false e c k = cc
proved_next_at known (Judged v b) false e c k = elim (Contains-push_cases known (Judged v b) (Proved c) k) [ inl o ↦ o | inr n ↦ cc ]

-- no two verdicts on one view differ
abbrev pub OneVerdict : List Artifact → Type 0
OneVerdict xs = (view : ℕ) (x y : Bool) → Contains xs (Judged view x) → Contains xs (Judged view y) → x ≡ y

pub OneVerdict-within : (xs ys : List Artifact) → Within xs ys → OneVerdict ys → OneVerdict xs
OneVerdict-within xs ys w one view x y cx cy = one view x y (w (Judged view x) cx) (w (Judged view y) cy)

verdict_of : (view : ℕ) (a : Artifact) → is_verdict view a ≡ true → (y : Bool) × (a ≡ Judged view y)
verdict_of view (Own s) h = cc
verdict_of view (Proved c) h = cc
verdict_of view (Judged v b) h = (b, ap (λ w. Judged w b) (eqb-true v view h))

verdict_from_test : (xs : List Artifact) (view : ℕ) → has_verdict view xs ≡ true → (y : Bool) × Contains xs (Judged view y)
verdict_from_test xs view h =
    let a : Any (λ x. is_verdict view x ≡ true) xs = Any-from_list_any (is_verdict view) xs h in
    let n : (y : Bool) × (a.1 ≡ Judged view y) = verdict_of view a.1 a.4 in
    let k : Contains xs a.1 = (a.0, a.2, a.3) in
    (n.0, subst (Contains xs) n.1 k)

pub test_from_verdict : (xs : List Artifact) (view : ℕ) (y : Bool) → Contains xs (Judged view y) → has_verdict view xs ≡ true
test_from_verdict xs view y c = list_any-from_Any (is_verdict view) xs (c.0, Judged view y, c.1, c.2, eq-eqb view view refl)

-- the three parts of the test on a verdict
taken_from : (a b c : Bool) → a ≡ true → b ≡ true → c ≡ false → (a && b && not c) ≡ true
taken_from false b c p q r = cc
taken_from true false c p q r = cc
taken_from true true true p q r = cc
taken_from true true false p q r = refl

pub taken_parts : (a b c : Bool) → (a && b && not c) ≡ true → (a ≡ true) × (b ≡ true) × (c ≡ false)
taken_parts false b c h = cc
taken_parts true false c h = cc
taken_parts true true true h = cc
taken_parts true true false h = (refl, refl, refl)

-- a verdict that is not taken is known
judged_at : (known rest : List Artifact) (view : ℕ) (b : Bool) → OneVerdict (known ++ Judged view b ∷ rest) → is_taken known (Judged view b) ≡ false → Noted known view → last_finalized known < view
    → (t : Bool) → has_verdict view known ≡ t → Contains known (Judged view b)
judged_at known rest view b one e h lt true is =
    let k : (y : Bool) × Contains known (Judged view y) = verdict_from_test known view is in
    let same : k.0 ≡ b = one view k.0 b (Contains-append_left known (Judged view b ∷ rest) (Judged view k.0) k.1) (Contains-append_right known (Judged view b ∷ rest) (Judged view b) (Contains-here (Judged view b) rest)) in
    subst (λ y. Contains known (Judged view y)) same k.1
judged_at known rest view b one e h lt false is =
    let yes' : is_taken known (Judged view b) ≡ true = taken_from (nat_lt (last_finalized known) view) (has_notarization view known) (has_verdict view known) (lt-ltb (last_finalized known) view lt) (test_from_Noted known view h) is in
    cc

taken_at : (known rest : List Artifact) (a : Artifact) → OneVerdict (known ++ a ∷ rest) → (t : Bool) → is_taken known a ≡ t → Fit known a → last_finalized known < artifact_view a → Contains (if t then known ++ a ∷ [] else known) a
taken_at known rest a one true e h lt = Contains-push known a
taken_at known rest (Own s) one false e h lt = cc
taken_at known rest (Proved c) one false e h lt = cc
taken_at known rest (Judged v b) one false e h lt = judged_at known rest v b one e h lt (has_verdict v known) refl

-- each record above the last finalized view is known after the replay
pub replay_seen : (known xs : List Artifact) → Ready known xs → OneVerdict (known ++ xs) → (a : Artifact) → Contains xs a → last_finalized (replay known xs) < artifact_view a → Contains (replay known xs) a
replay_seen known [] h one a c lt = absurd (not_in_empty a c)
replay_seen known (x ∷ rest) h one a c lt =
    let after : List Artifact = next known x in
    let ready : Ready after rest = Ready-wider (known ++ x ∷ []) after rest (proved_next_at known x (is_taken known x) refl) h.1 in
    elim (Contains-cons_cases x rest a c) [
      | inl e ↦
          let low : last_finalized known ≤ last_finalized (replay after rest) = greatest_within finalized_view known (replay after rest) (λ b k. replay_keeps known (x ∷ rest) b k) in
          let here : Contains after x = taken_at known rest x one (is_taken known x) refl h.0 (omega (arith, low, lt, ap artifact_view e)) in
          replay_keeps after rest a (subst (Contains after) e here)
      | inr r ↦ replay_seen after rest ready (OneVerdict-within (after ++ rest) (known ++ x ∷ rest) (next_within known x rest) one) a r lt
    ]

-- a replay finalizes all that the records finalize
proved_after : (known xs : List Artifact) → ProvedWithin (known ++ xs) (replay known xs)
proved_after known [] c k = rw append-nil at k
proved_after known (a ∷ rest) c k =
    proved_after (next known a) rest c
    (elim (Contains-append_cases known (a ∷ rest) (Proved c) k) [
      | inl o ↦ Contains-append_left (next known a) rest (Proved c) (next_keeps_at known a (is_taken known a) (Proved c) o)
      | inr r ↦ elim (Contains-cons_cases a rest (Proved c) r) [
        | inl e ↦ Contains-append_left (next known a) rest (Proved c) (proved_next_at known a (is_taken known a) refl c (subst (Contains (known ++ a ∷ [])) e (Contains-push known a)))
        | inr t ↦ Contains-append_right (next known a) rest (Proved c) t
      ]
    ])

proved_of : (a : Artifact) → 0 < finalized_view a → (c : Certificate) × (a ≡ Proved c)
proved_of (Own s) h = absurd (omega (arith, h))
proved_of (Judged v b) h = absurd (omega (arith, h))
proved_of (Proved c) h = (c, refl)

pub replay_finalized : (known xs : List Artifact) → last_finalized (replay known xs) ≡ last_finalized (known ++ xs)
replay_finalized known xs =
    let up : last_finalized (replay known xs) ≤ last_finalized (known ++ xs) = greatest_within finalized_view (replay known xs) (known ++ xs) (replay_within known xs) in
    elim (cases_lt 0 (last_finalized (known ++ xs))) [
      | inl pos ↦
          let g : (x : Artifact) × Contains (known ++ xs) x × (finalized_view x ≡ last_finalized (known ++ xs)) = greatest_at finalized_view (known ++ xs) pos in
          let c : (d : Certificate) × (g.0 ≡ Proved d) = proved_of g.0 (omega (arith, g.2, pos)) in
          let in' : Contains (replay known xs) (Proved c.0) = proved_after known xs c.0 (subst (Contains (known ++ xs)) c.1 g.1) in
          omega (arith, greatest_above finalized_view (replay known xs) (Proved c.0) in', ap finalized_view c.1, g.2, up)
      | inr none ↦ omega (arith, none, up)
    ]

-- what goes with a plain reading goes with a replay
pub Knowing-replay : (journal known xs : List Artifact) → Ready known xs → OneVerdict (known ++ xs) → Knowing journal (known ++ xs) → Knowing journal (replay known xs)
Knowing-replay journal known xs ready one k =
    let same : last_finalized (replay known xs) ≡ last_finalized (known ++ xs) = replay_finalized known xs in
    record {
      finals = λ a c. omega (arith, k.finals a c, same);
      seen = λ a c lt. elim (Contains-append_cases known xs a (k.seen a c (omega (arith, lt, same)))) [ inl o ↦ replay_keeps known xs a o | inr r ↦ replay_seen known xs ready one a r lt ];
      stands = λ a c lt. k.stands a (replay_within known xs a c) (omega (arith, lt, same));
      floor = λ pos. let b = k.floor (omega (arith, pos, same)) in (b.0, b.1, omega (arith, b.2, same));
    }

-- ---- sections in rising order, each ready
abbrev pub Rising : ℕ → List Section → Type 0
Rising low [] = Unit {0}
Rising low (s ∷ rest) = (low ≤ s.view) × Rising (suc s.view) rest

abbrev pub ReadyAll : List Section → Type 0
ReadyAll [] = Unit {0}
ReadyAll (s ∷ rest) = Ready [] (s.synced ++ s.pending) × ReadyAll rest

Rising-lower : (low low' : ℕ) (j : List Section) → low' ≤ low → Rising low j → Rising low' j
Rising-lower low low' [] le h = tt
Rising-lower low low' (s ∷ rest) le h = (omega (arith, le, h.0), h.1)

pub held_above : (low : ℕ) (j : List Section) → Rising low j → Placed j → (a : Artifact) → Contains (held j) a → low ≤ artifact_view a
held_above low [] r p a c = absurd (not_in_empty a c)
held_above low (s ∷ rest) r p a c =
    elim (Contains-append_cases (s.synced ++ s.pending) (held rest) a c) [
      | inl l ↦ omega (arith, p.0 a l, r.0)
      | inr t ↦ omega (arith, held_above (suc s.view) rest r.1 p.1 a t, r.0)
    ]

append_rising_at : (v low : ℕ) (a : Artifact) → low ≤ v → (s : Section) (rest : List Section) (b c : Bool) → (s.view == v) ≡ b → nat_lt v s.view ≡ c → Rising low (s ∷ rest)
    → ((low' : ℕ) → low' ≤ v → Rising low' rest → Rising low' (append_to v a rest))
    → Rising low (if b then record s { pending = s.pending ++ a ∷ [] } ∷ rest else (if c then opened v a ∷ s ∷ rest else s ∷ append_to v a rest))
append_rising_at v low a le s rest true c e f r ih = r
append_rising_at v low a le s rest false true e f r ih = (le, (ltb-true v s.view f, r.1))
append_rising_at v low a le s rest false false e f r ih = (r.0, ih (suc s.view) (omega (arith, eqb-false s.view v e, ltb-false v s.view f)) r.1)

pub append_rising : (v low : ℕ) (a : Artifact) → low ≤ v → (j : List Section) → Rising low j → Rising low (append_to v a j)
append_rising v low a le [] r = (le, tt)
append_rising v low a le (s ∷ rest) r = append_rising_at v low a le s rest (s.view == v) (nat_lt v s.view) refl refl r (λ low' le' r'. append_rising v low' a le' rest r')

-- what is noted at a view is noted in its section
Fit-here : (s : Section) (rest : List Section) → Rising (suc s.view) rest → Placed (s ∷ rest) → (a : Artifact) → s.view ≡ artifact_view a → Fit (held (s ∷ rest)) a → Fit (s.synced ++ s.pending) a
Fit-here s rest r p (Own x) e h = tt
Fit-here s rest r p (Proved c) e h = tt
Fit-here s rest r p (Judged v b) e h =
    elim (Contains-append_cases (s.synced ++ s.pending) (held rest) _ h.2) [
      | inl l ↦ (h.0, h.1, l, h.3)
      | inr t ↦ absurd (omega (arith, held_above (suc s.view) rest r p.1 _ t, h.3, e))
    ]

Fit-there : (s : Section) (rest : List Section) → Placed (s ∷ rest) → (a : Artifact) → (s.view ≡ artifact_view a → ⊥) → Fit (held (s ∷ rest)) a → Fit (held rest) a
Fit-there s rest p (Own x) ne h = tt
Fit-there s rest p (Proved c) ne h = tt
Fit-there s rest p (Judged v b) ne h =
    elim (Contains-append_cases (s.synced ++ s.pending) (held rest) _ h.2) [
      | inl l ↦ let same : s.view ≡ v = omega (arith, p.0 _ l, h.3) in absurd (ne same)
      | inr t ↦ (h.0, h.1, t, h.3)
    ]

-- nothing is noted at a view below all sections
Fit-nowhere : (low : ℕ) (j : List Section) → Rising low j → Placed j → (a : Artifact) → artifact_view a < low → Fit (held j) a → Fit [] a
Fit-nowhere low j r p (Own x) lt h = tt
Fit-nowhere low j r p (Proved c) lt h = tt
Fit-nowhere low j r p (Judged v b) lt h = absurd (omega (arith, held_above low j r p _ h.2, h.3, lt))

append_ready_at : (v : ℕ) (a : Artifact) → artifact_view a ≡ v → (s : Section) (rest : List Section) (b c : Bool) → (s.view == v) ≡ b → nat_lt v s.view ≡ c → (low : ℕ) → Rising low (s ∷ rest) → Placed (s ∷ rest) → ReadyAll (s ∷ rest) → Fit (held (s ∷ rest)) a
    → (Fit (held rest) a → ReadyAll (append_to v a rest))
    → ReadyAll (if b then record s { pending = s.pending ++ a ∷ [] } ∷ rest else (if c then opened v a ∷ s ∷ rest else s ∷ append_to v a rest))
append_ready_at v a is s rest true c e f low r p h k ih = (
  rw (← append_assoc s.synced s.pending (a ∷ [])) (Ready-append [] (s.synced ++ s.pending) (a ∷ []) h.0 (Fit-here s rest r.1 p a (omega (arith, eqb-true s.view v e, is)) k, tt)),
  h.1,
)
append_ready_at v a is s rest false true e f low r p h k ih = ((Fit-nowhere s.view (s ∷ rest) (le_refl _, r.1) p a (omega (arith, ltb-true v s.view f, is)) k, tt), h)
append_ready_at v a is s rest false false e f low r p h k ih = (h.0, ih (Fit-there s rest p a (λ same. eqb-false s.view v e (same ∙ is)) k))

pub append_ready : (v : ℕ) (a : Artifact) → artifact_view a ≡ v → (low : ℕ) (j : List Section) → Rising low j → Placed j → ReadyAll j → Fit (held j) a → ReadyAll (append_to v a j)
append_ready v a is low [] r p h k = ((Fit-nowhere (suc v) [] tt tt a (omega (arith, is)) k, tt), tt)
append_ready v a is low (s ∷ rest) r p h k =
    append_ready_at v a is s rest (s.view == v) (nat_lt v s.view) refl refl low r p h k (λ k'. append_ready v a is (suc s.view) rest r.1 p.1 h.1 k')

-- ---- the other changes
sync_rising_at : (low : ℕ) (s : Section) (b : Bool) → low ≤ s.view → low ≤ (if b then synced_section s else s).view
sync_rising_at low s true h = h
sync_rising_at low s false h = h

same_view : (s : Section) (b : Bool) → s.view ≡ (if b then synced_section s else s).view
same_view s true = refl
same_view s false = refl

pub sync_rising : (v low : ℕ) (j : List Section) → Rising low j → Rising low (sync v j)
sync_rising v low [] r = tt
sync_rising v low (s ∷ rest) r = (sync_rising_at low s (s.view == v) r.0, subst (λ n. Rising (suc n) (sync v rest)) (same_view s (s.view == v)) (sync_rising v (suc s.view) rest r.1))

sync_ready_at : (s : Section) (b : Bool) → Ready [] (s.synced ++ s.pending) → Ready [] ((if b then synced_section s else s).synced ++ (if b then synced_section s else s).pending)
sync_ready_at s true h = rw append-nil h
sync_ready_at s false h = h

pub sync_ready : (v : ℕ) (j : List Section) → ReadyAll j → ReadyAll (sync v j)
sync_ready v [] h = tt
sync_ready v (s ∷ rest) h = (sync_ready_at s (s.view == v) h.0, sync_ready v rest h.1)

pub left_rising : (keep : ℕ → ℕ) (low : ℕ) (j : List Section) → Rising low j → Rising low (left keep j)
left_rising keep low [] r = tt
left_rising keep low (s ∷ rest) r = (r.0, left_rising keep (suc s.view) rest r.1)

pub left_ready : (keep : ℕ → ℕ) (j : List Section) → ReadyAll j → ReadyAll (left keep j)
left_ready keep [] h = tt
left_ready keep (s ∷ rest) h = (
  rw append-nil (Ready-front [] (s.synced ++ take (keep s.view) s.pending) (drop (keep s.view) s.pending) (rw (append_assoc, take-append-drop) h.0)),
  left_ready keep rest h.1,
)

prune_rising_at : (low : ℕ) (s : Section) (b : Bool) (ys : List Section) → low ≤ s.view → Rising (suc s.view) ys → Rising low (if b then s ∷ ys else ys)
prune_rising_at low s true ys h r = (h, r)
prune_rising_at low s false ys h r = Rising-lower (suc s.view) low ys (omega (arith, h)) r

pub prune_rising : (min low : ℕ) (j : List Section) → Rising low j → Rising low (prune min j)
prune_rising min low [] r = tt
prune_rising min low (s ∷ rest) r = prune_rising_at low s (nat_le min s.view) (prune min rest) r.0 (prune_rising min (suc s.view) rest r.1)

prune_ready_at : (s : Section) (b : Bool) (ys : List Section) → Ready [] (s.synced ++ s.pending) → ReadyAll ys → ReadyAll (if b then s ∷ ys else ys)
prune_ready_at s true ys h r = (h, r)
prune_ready_at s false ys h r = r

pub prune_ready : (min : ℕ) (j : List Section) → ReadyAll j → ReadyAll (prune min j)
prune_ready min [] h = tt
prune_ready min (s ∷ rest) h = prune_ready_at s (nat_le min s.view) (prune min rest) h.0 (prune_ready min rest h.1)

-- all that is kept, in section order, is ready
pub kept_ready : (j : List Section) → ReadyAll j → Ready [] (kept j)
kept_ready [] h = tt
kept_ready (s ∷ rest) h = Ready-append [] s.synced (kept rest) (Ready-front [] s.synced s.pending h.0) (Ready-wider [] s.synced (kept rest) (λ c k. absurd (not_in_empty (Proved c) k)) (kept_ready rest h.1))
