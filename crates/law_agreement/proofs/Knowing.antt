-- How what a member knows goes with what its journal holds, through each change.
use Rattle.std.proofs.Common.{◌≡◌, ℕ, ◌<◌, ◌≤◌, ◌⊎◌, Bool, true, false, max, nat_lt, nat_le, if◌then◌else◌, List, [], ◌∷◌, ◌++◌, filter, Contains, ap, subst, inl, inr, arith, lt-ltb, le-leb, leb-true}
use Rattle.std.proofs.lemmas.Bool.{cases_lt}
use Rattle.std.proofs.lemmas.List.Elements.{Contains-append_left, Contains-append_right, Contains-append_cases, Contains-push, Contains-push_cases}
use Rattle.simplex_values.specs.declared.proposal.Subject.{Subject}
use Rattle.simplex_values.specs.declared.proposal.Subject.TheVariants.{Notarize, Nullify, Finalize}
use Rattle.law_agreement.specs.World.{view_of}
use Rattle.law_agreement.specs.Artifacts.{Artifact, Own, Judged, subject_view, artifact_view, finalized_view, greatest, last_finalized}
use Rattle.law_agreement.proofs.ListFacts.{not_in_empty, Contains-filter, Contains-from_filter}
use Rattle.law_agreement.proofs.KnownFacts.{greatest_above, greatest_at, greatest-append, finalized_view-le}

abbrev pub Within : List Artifact → List Artifact → Type 0
Within xs ys = (a : Artifact) → Contains xs a → Contains ys a

-- a greater view is finalized
abbrev pub Outrun : List Artifact → ℕ → Type 0
Outrun journal v = (a : Artifact) × Contains journal a × (v < finalized_view a)

-- the record of this vote stands, and for a finalize the verdict too
abbrev pub Stands : List Artifact → Subject → Type 0
Stands journal (Notarize p) = Contains journal (Own (Notarize p))
Stands journal (Nullify r) = Contains journal (Own (Nullify r))
Stands journal (Finalize p) = Contains journal (Own (Finalize p)) × Contains journal (Judged (view_of p) true)

abbrev pub Keeps : List Artifact → Subject → Type 0
Keeps journal s = Stands journal s ⊎ Outrun journal (subject_view s)

pub record Knowing (journal known : List Artifact) : Type 0 where
  pub finals : (a : Artifact) → Contains journal a → finalized_view a ≤ last_finalized known
  pub seen : (a : Artifact) → Contains journal a → last_finalized known < artifact_view a → Contains known a
  pub stands : (a : Artifact) → Contains known a → last_finalized known < artifact_view a → Contains journal a
  pub floor : 0 < last_finalized known → (a : Artifact) × Contains journal a × (last_finalized known ≤ finalized_view a)

Stands-within : (xs ys : List Artifact) → Within xs ys → (s : Subject) → Stands xs s → Stands ys s
Stands-within xs ys w (Notarize p) h = w _ h
Stands-within xs ys w (Nullify r) h = w _ h
Stands-within xs ys w (Finalize p) h = (w _ h.0, w _ h.1)

pub Keeps-within : (xs ys : List Artifact) → Within xs ys → (s : Subject) → Keeps xs s → Keeps ys s
Keeps-within xs ys w s h = elim h [ inl st ↦ inl (Stands-within xs ys w s st) | inr o ↦ inr (o.0, w o.0 o.1, o.2) ]

pub Knowing-same : (xs ys known : List Artifact) → Within xs ys → Within ys xs → Knowing xs known → Knowing ys known
Knowing-same xs ys known f g k =
    record {
      finals = λ a c. k.finals a (g a c);
      seen = λ a c lt. k.seen a (g a c) lt;
      stands = λ a c lt. f a (k.stands a c lt);
      floor = λ pos. let b = k.floor pos in (b.0, f b.0 b.1, b.2);
    }

pub Knowing-push : (xs known : List Artifact) (a : Artifact) → Knowing xs known → Knowing (xs ++ a ∷ []) (known ++ a ∷ [])
Knowing-push xs known a k =
    let grown : last_finalized (known ++ a ∷ []) ≡ max (last_finalized known) (finalized_view a) = omega (arith, greatest-append finalized_view known (a ∷ [])) in
    record {
      finals = λ b c. elim (Contains-push_cases xs a b c) [ inl old ↦ omega (arith, k.finals b old, grown) | inr new ↦ omega (arith, ap finalized_view new, grown) ];
      seen = λ b c lt. elim (Contains-push_cases xs a b c) [
        | inl old ↦ Contains-append_left known (a ∷ []) b (k.seen b old (omega (arith, lt, grown)))
        | inr new ↦ subst (Contains (known ++ a ∷ [])) new (Contains-push known a)
      ];
      stands = λ b c lt. elim (Contains-push_cases known a b c) [
        | inl old ↦ Contains-append_left xs (a ∷ []) b (k.stands b old (omega (arith, lt, grown)))
        | inr new ↦ subst (Contains (xs ++ a ∷ [])) new (Contains-push xs a)
      ];
      floor = λ pos. elim (cases_lt (last_finalized known) (finalized_view a)) [
        | inl lt ↦ (a, Contains-push xs a, omega (arith, lt, grown))
        | inr ge ↦ let b : (c : Artifact) × Contains xs c × (last_finalized known ≤ finalized_view c) = k.floor (omega (arith, ge, grown, pos)) in
            (b.0, Contains-append_left xs (a ∷ []) b.0 b.1, omega (arith, b.2, ge, grown))
      ];
    }

-- what stands at or above this view
abbrev pub pruned : ℕ → List Artifact → List Artifact
pruned min xs = filter (λ a. nat_le min (artifact_view a)) xs

pruned_has : (min : ℕ) (xs : List Artifact) (a : Artifact) → min ≤ artifact_view a → Contains xs a → Contains (pruned min xs) a
pruned_has min xs a h c = Contains-filter (λ b. nat_le min (artifact_view b)) xs a (le-leb min (artifact_view a) h) c

pruned_within : (min : ℕ) (xs : List Artifact) → Within (pruned min xs) xs
pruned_within min xs a c = Contains-from_filter (λ b. nat_le min (artifact_view b)) xs a c

pub Knowing-pruned : (min : ℕ) (xs known : List Artifact) → min ≤ last_finalized known → Knowing xs known → Knowing (pruned min xs) known
Knowing-pruned min xs known le k =
    record {
      finals = λ a c. k.finals a (pruned_within min xs a c);
      seen = λ a c lt. k.seen a (pruned_within min xs a c) lt;
      stands = λ a c lt. pruned_has min xs a (omega (arith, le, lt)) (k.stands a c lt);
      floor = λ pos. let b : (c : Artifact) × Contains xs c × (last_finalized known ≤ finalized_view c) = k.floor pos in
          (b.0, pruned_has min xs b.0 (omega (arith, b.2, finalized_view-le b.0, le)) b.1, b.2);
    }

Stands-pruned : (min : ℕ) (xs : List Artifact) (s : Subject) → min ≤ subject_view s → Stands xs s → Stands (pruned min xs) s
Stands-pruned min xs (Notarize p) h st = pruned_has min xs (Own (Notarize p)) h st
Stands-pruned min xs (Nullify r) h st = pruned_has min xs (Own (Nullify r)) h st
Stands-pruned min xs (Finalize p) h st = (pruned_has min xs (Own (Finalize p)) h st.0, pruned_has min xs (Judged (view_of p) true) h st.1)

pub Keeps-pruned : (min : ℕ) (xs known : List Artifact) → min ≤ last_finalized known → Knowing xs known → (s : Subject) → Keeps xs s → Keeps (pruned min xs) s
Keeps-pruned min xs known le k s h = elim h [ inl st ↦ at st (cases_lt (subject_view s) min) | inr o ↦ far o (cases_lt (artifact_view o.0) min) ]
  where
    behind : (v : ℕ) → v < min → Outrun (pruned min xs) v
    behind v lt =
        let b : (c : Artifact) × Contains xs c × (last_finalized known ≤ finalized_view c) = k.floor (omega (arith, lt, le)) in
        (b.0, pruned_has min xs b.0 (omega (arith, b.2, finalized_view-le b.0, le)) b.1, omega (arith, b.2, lt, le))

    at : Stands xs s → (subject_view s < min) ⊎ (min ≤ subject_view s) → Keeps (pruned min xs) s
    at st (inl lt) = inr (behind (subject_view s) lt)
    at st (inr ge) = inl (Stands-pruned min xs s ge st)

    far : (o : Outrun xs (subject_view s)) → (artifact_view o.0 < min) ⊎ (min ≤ artifact_view o.0) → Keeps (pruned min xs) s
    far o (inl lt) = inr (behind (subject_view s) (omega (arith, lt, o.2, finalized_view-le o.0)))
    far o (inr ge) = inr (o.0, pruned_has min xs o.0 ge o.1, o.2)

-- the journal and what is known after a start at a floor
module _ (synced floor : List Artifact) (view : ℕ) (is : greatest finalized_view floor ≡ view) (low : (a : Artifact) → Contains floor a → artifact_view a ≤ view) where
  abbrev replayed : List Artifact
  replayed = floor ++ filter (λ a. nat_lt view (artifact_view a)) synced

  abbrev opened : Bool → List Artifact
  opened b = synced ++ (if b then [] else floor)

  last : last_finalized replayed ≡ max view (greatest finalized_view (filter (λ a. nat_lt view (artifact_view a)) synced))
  last = omega (arith, greatest-append finalized_view floor (filter (λ a. nat_lt view (artifact_view a)) synced), is)

  in_opened : (b : Bool) (a : Artifact) → Contains (opened b) a → Contains synced a ⊎ Contains floor a
  in_opened true a c = elim (Contains-append_cases synced [] a c) [ inl s ↦ inl s | inr n ↦ absurd (not_in_empty a n) ]
  in_opened false a c = Contains-append_cases synced floor a c

  kept : (a : Artifact) → Contains synced a → view < artifact_view a → Contains replayed a
  kept a c lt = Contains-append_right floor (filter (λ a. nat_lt view (artifact_view a)) synced) a (Contains-filter (λ b. nat_lt view (artifact_view b)) synced a (lt-ltb view (artifact_view a) lt) c)

  floor_at : (b : Bool) → nat_le view (last_finalized synced) ≡ b → view ≡ last_finalized replayed → (x : Artifact) → Contains floor x → finalized_view x ≡ last_finalized replayed → 0 < last_finalized replayed
      → (a : Artifact) × Contains (opened b) a × (last_finalized replayed ≤ finalized_view a)
  floor_at false t e x c f pos = (x, Contains-append_right synced floor x c, omega (arith, f))
  floor_at true t e x c f pos =
      let le : view ≤ last_finalized synced = leb-true view (last_finalized synced) t in
      let g : (a : Artifact) × Contains synced a × (finalized_view a ≡ last_finalized synced) = greatest_at finalized_view synced (omega (arith, le, e, pos)) in
      (g.0, Contains-append_left synced [] g.0 g.1, omega (arith, g.2, le, e))

  pub Knowing-start : (b : Bool) → nat_le view (last_finalized synced) ≡ b → Knowing (opened b) replayed
  Knowing-start b t =
      record {
        finals = λ a c. elim (in_opened b a c) [
          | inl s ↦ elim (cases_lt view (artifact_view a)) [
            | inl lt ↦ greatest_above finalized_view replayed a (kept a s lt)
            | inr ge ↦ omega (arith, ge, finalized_view-le a, last)
          ]
          | inr f ↦ omega (arith, greatest_above finalized_view floor a f, is, last)
        ];
        seen = λ a c lt. elim (in_opened b a c) [
          | inl s ↦ kept a s (omega (arith, lt, last))
          | inr f ↦ Contains-append_left floor (filter (λ a. nat_lt view (artifact_view a)) synced) a f
        ];
        stands = λ a c lt. elim (Contains-append_cases floor (filter (λ a. nat_lt view (artifact_view a)) synced) a c) [
          | inl f ↦ absurd (omega (arith, low a f, lt, last))
          | inr s ↦ Contains-append_left synced (if b then [] else floor) a (Contains-from_filter (λ a. nat_lt view (artifact_view a)) synced a s)
        ];
        floor = λ pos.
            let g : (a : Artifact) × Contains replayed a × (finalized_view a ≡ last_finalized replayed) = greatest_at finalized_view replayed pos in
            elim (Contains-append_cases floor (filter (λ a. nat_lt view (artifact_view a)) synced) g.0 g.1) [
              | inl f ↦ floor_at b t (omega (arith, greatest_above finalized_view floor g.0 f, is, last, g.2)) g.0 f g.2 pos
              | inr s ↦ (g.0, Contains-append_left synced (if b then [] else floor) g.0 (Contains-from_filter (λ a. nat_lt view (artifact_view a)) synced g.0 s), omega (arith, g.2))
            ];
      }
