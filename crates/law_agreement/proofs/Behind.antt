-- In each section a finalize stands behind the notarization of its proposal and the true verdict.
use Rattle.std.proofs.Common.{◌≡◌, ℕ, suc, ◌<◌, ◌==◌, Bool, true, false, nat_lt, nat_le, if◌then◌else◌, List, [], ◌∷◌, ◌++◌, take, drop, Contains, refl, sym, ap, ◌∙◌, subst, inl, inr, arith, append-nil, append_assoc, eqb-true, ltb-true, le_refl, take-append-drop}
use Rattle.std.proofs.lemmas.Bool.{eqb-false}
use Rattle.std.proofs.lemmas.List.Elements.{Contains-append_cases, Contains-append_left}
use Rattle.simplex_values.specs.declared.proposal.Proposal.{Proposal}
use Rattle.simplex_values.specs.declared.proposal.Subject.TheVariants.{Notarize, Nullify, Finalize}
use Rattle.law_agreement.specs.World.{view_of}
use Rattle.law_agreement.proofs.ListFacts.{not_in_empty, Contains-here, Contains-there, Contains-cons_cases}
use Rattle.law_agreement.specs.Artifacts.{Artifact, Own, Proved, Judged, artifact_view}
use Rattle.law_agreement.specs.Invariant.{IsGrounded}
use Rattle.law_agreement.specs.Journal.{Section, opened, append_to, append, append_all, synced_section, sync, left, prune, kept, held}
use Rattle.law_agreement.proofs.JournalFacts.{Placed, append_placed}
use Rattle.law_agreement.proofs.Replays.{Rising, append_rising, held_above}

-- what a finalize needs
abbrev pub Needs : List Artifact → Proposal → Type 0
Needs before p = ((signers : List ℕ) × Contains before (Proved (record { subject = Notarize p; signers = signers }))) × Contains before (Judged (view_of p) true)

-- a finalize stands behind it, and nothing is asked of other records
abbrev pub IsBehind : List Artifact → Artifact → Type 0
IsBehind before (Own (Finalize p)) = Needs before p
IsBehind before (Own (Notarize p)) = Unit {0}
IsBehind before (Own (Nullify r)) = Unit {0}
IsBehind before (Proved c) = Unit {0}
IsBehind before (Judged view verdict) = Unit {0}

abbrev AreBehind : List Artifact → List Artifact → Type 0
AreBehind before [] = Unit {0}
AreBehind before (a ∷ rest) = IsBehind before a × AreBehind (before ++ a ∷ []) rest

abbrev pub AllBehind : List Section → Type 0
AllBehind [] = Unit {0}
AllBehind (s ∷ rest) = AreBehind [] (s.synced ++ s.pending) × AllBehind rest

behind-append : (b xs ys : List Artifact) → AreBehind b xs → AreBehind (b ++ xs) ys → AreBehind b (xs ++ ys)
behind-append b [] ys h k = rw append-nil at k
behind-append b (a ∷ xs) ys h k = (h.0, behind-append (b ++ a ∷ []) xs ys h.1 (rw append_assoc k))

behind-front : (b xs ys : List Artifact) → AreBehind b (xs ++ ys) → AreBehind b xs
behind-front b [] ys h = tt
behind-front b (a ∷ xs) ys h = (h.0, behind-front (b ++ a ∷ []) xs ys h.1)

-- ---- an append

-- what is held at a view is held in its section
needs_here : (s : Section) (rest : List Section) → Rising (suc s.view) rest → Placed (s ∷ rest) → (p : Proposal) → s.view ≡ view_of p → Needs (held (s ∷ rest)) p → Needs (s.synced ++ s.pending) p
needs_here s rest r p q e h = ((h.0.0, here (Proved (record { subject = Notarize q; signers = h.0.0 })) refl h.0.1), here (Judged (view_of q) true) refl h.1)
  where
    here : (a : Artifact) → artifact_view a ≡ view_of q → Contains (held (s ∷ rest)) a → Contains (s.synced ++ s.pending) a
    here a is k = elim (Contains-append_cases (s.synced ++ s.pending) (held rest) a k) [
      | inl l ↦ l
      | inr t ↦ absurd (omega (arith, held_above (suc s.view) rest r p.1 a t, is, e))
    ]

needs_there : (s : Section) (rest : List Section) → Placed (s ∷ rest) → (p : Proposal) → (s.view ≡ view_of p → ⊥) → Needs (held (s ∷ rest)) p → Needs (held rest) p
needs_there s rest p q ne h = ((h.0.0, there (Proved (record { subject = Notarize q; signers = h.0.0 })) refl h.0.1), there (Judged (view_of q) true) refl h.1)
  where
    there : (a : Artifact) → artifact_view a ≡ view_of q → Contains (held (s ∷ rest)) a → Contains (held rest) a
    there a is k = elim (Contains-append_cases (s.synced ++ s.pending) (held rest) a k) [
      | inl l ↦ (let same : s.view ≡ view_of q = omega (arith, p.0 a l, is) in absurd (ne same))
      | inr t ↦ t
    ]

needs_nowhere : (low : ℕ) (j : List Section) → Rising low j → Placed j → (p : Proposal) → view_of p < low → Needs (held j) p → Needs [] p
needs_nowhere low j r p q lt h = absurd (omega (arith, held_above low j r p _ h.1, lt))

behind_here : (s : Section) (rest : List Section) → Rising (suc s.view) rest → Placed (s ∷ rest) → (a : Artifact) → s.view ≡ artifact_view a → IsBehind (held (s ∷ rest)) a → IsBehind (s.synced ++ s.pending) a
behind_here s rest r p (Own (Finalize q)) e h = needs_here s rest r p q e h
behind_here s rest r p (Own (Notarize q)) e h = tt
behind_here s rest r p (Own (Nullify q)) e h = tt
behind_here s rest r p (Proved c) e h = tt
behind_here s rest r p (Judged v b) e h = tt

behind_there : (s : Section) (rest : List Section) → Placed (s ∷ rest) → (a : Artifact) → (s.view ≡ artifact_view a → ⊥) → IsBehind (held (s ∷ rest)) a → IsBehind (held rest) a
behind_there s rest p (Own (Finalize q)) ne h = needs_there s rest p q ne h
behind_there s rest p (Own (Notarize q)) ne h = tt
behind_there s rest p (Own (Nullify q)) ne h = tt
behind_there s rest p (Proved c) ne h = tt
behind_there s rest p (Judged v b) ne h = tt

behind_nowhere : (low : ℕ) (j : List Section) → Rising low j → Placed j → (a : Artifact) → artifact_view a < low → IsBehind (held j) a → IsBehind [] a
behind_nowhere low j r p (Own (Finalize q)) lt h = needs_nowhere low j r p q lt h
behind_nowhere low j r p (Own (Notarize q)) lt h = tt
behind_nowhere low j r p (Own (Nullify q)) lt h = tt
behind_nowhere low j r p (Proved c) lt h = tt
behind_nowhere low j r p (Judged v b) lt h = tt

append_behind_at : (v : ℕ) (a : Artifact) → artifact_view a ≡ v → (s : Section) (rest : List Section) (b c : Bool) → (s.view == v) ≡ b → nat_lt v s.view ≡ c → (low : ℕ) → Rising low (s ∷ rest) → Placed (s ∷ rest) → AllBehind (s ∷ rest) → IsBehind (held (s ∷ rest)) a
    → (IsBehind (held rest) a → AllBehind (append_to v a rest))
    → AllBehind (if b then record s { pending = s.pending ++ a ∷ [] } ∷ rest else (if c then opened v a ∷ s ∷ rest else s ∷ append_to v a rest))
append_behind_at v a is s rest true c e f low r p h k ih = (
  rw (← append_assoc s.synced s.pending (a ∷ [])) (behind-append [] (s.synced ++ s.pending) (a ∷ []) h.0 (behind_here s rest r.1 p a (omega (arith, eqb-true s.view v e, is)) k, tt)),
  h.1,
)
append_behind_at v a is s rest false true e f low r p h k ih = ((behind_nowhere s.view (s ∷ rest) (le_refl _, r.1) p a (omega (arith, ltb-true v s.view f, is)) k, tt), h)
append_behind_at v a is s rest false false e f low r p h k ih = (h.0, ih (behind_there s rest p a (λ same. eqb-false s.view v e (same ∙ is)) k))

append_to_behind : (v : ℕ) (a : Artifact) → artifact_view a ≡ v → (low : ℕ) (j : List Section) → Rising low j → Placed j → AllBehind j → IsBehind (held j) a → AllBehind (append_to v a j)
append_to_behind v a is low [] r p h k = ((behind_nowhere (suc v) [] tt tt a (omega (arith, is)) k, tt), tt)
append_to_behind v a is low (s ∷ rest) r p h k =
    append_behind_at v a is s rest (s.view == v) (nat_lt v s.view) refl refl low r p h k (λ k'. append_to_behind v a is (suc s.view) rest r.1 p.1 h.1 k')

pub append_behind : (a : Artifact) (j : List Section) → Rising 0 j → Placed j → AllBehind j → IsBehind (held j) a → AllBehind (append a j)
append_behind a j r p h k = append_to_behind (artifact_view a) a refl 0 j r p h k

-- these need nothing before them
abbrev pub Free : List Artifact → Type 0
Free [] = Unit {0}
Free (a ∷ xs) = ((before : List Artifact) → IsBehind before a) × Free xs

pub append_all_behind : (xs : List Artifact) (j : List Section) → Free xs → Rising 0 j → Placed j → AllBehind j → AllBehind (append_all xs j)
append_all_behind [] j f r p h = h
append_all_behind (x ∷ xs) j f r p h =
    append_all_behind xs (append x j) f.1 (append_rising (artifact_view x) 0 x (omega arith) j r) (append_placed x j p) (append_behind x j r p h (f.0 (held j)))

-- ---- the other changes

sync_behind_at : (s : Section) (b : Bool) → AreBehind [] (s.synced ++ s.pending) → AreBehind [] ((if b then synced_section s else s).synced ++ (if b then synced_section s else s).pending)
sync_behind_at s true h = rw append-nil h
sync_behind_at s false h = h

pub sync_behind : (v : ℕ) (j : List Section) → AllBehind j → AllBehind (sync v j)
sync_behind v [] h = tt
sync_behind v (s ∷ rest) h = (sync_behind_at s (s.view == v) h.0, sync_behind v rest h.1)

pub left_behind : (keep : ℕ → ℕ) (j : List Section) → AllBehind j → AllBehind (left keep j)
left_behind keep [] h = tt
left_behind keep (s ∷ rest) h = (
  rw append-nil (behind-front [] (s.synced ++ take (keep s.view) s.pending) (drop (keep s.view) s.pending) (rw (append_assoc, take-append-drop) h.0)),
  left_behind keep rest h.1,
)

prune_behind_at : (s : Section) (b : Bool) (ys : List Section) → AreBehind [] (s.synced ++ s.pending) → AllBehind ys → AllBehind (if b then s ∷ ys else ys)
prune_behind_at s true ys h r = (h, r)
prune_behind_at s false ys h r = r

pub prune_behind : (min : ℕ) (j : List Section) → AllBehind j → AllBehind (prune min j)
prune_behind min [] h = tt
prune_behind min (s ∷ rest) h = prune_behind_at s (nat_le min s.view) (prune min rest) h.0 (prune_behind min rest h.1)

-- ---- where it stands

grounded_in : (b xs : List Artifact) (p : Proposal) → AreBehind b xs → Contains xs (Own (Finalize p))
    → (before : List Artifact) × (behind : List Artifact) × (xs ≡ before ++ Own (Finalize p) ∷ behind) × Needs (b ++ before) p
grounded_in b [] p h k = absurd (not_in_empty _ k)
grounded_in b (a ∷ xs) p h k = elim (Contains-cons_cases a xs (Own (Finalize p)) k) [
  | inl e ↦ ([], xs, ap (λ x. x ∷ xs) e, rw append-nil (subst (IsBehind b) e h.0))
  | inr r ↦ (let g = grounded_in (b ++ a ∷ []) xs p h.1 r in (a ∷ g.0, g.1, ap (λ ys. a ∷ ys) g.2, subst (λ ys. Needs ys p) (append_assoc b (a ∷ []) g.0) g.3))
]

pub kept_grounded : (j : List Section) (p : Proposal) → Placed j → AllBehind j → Contains (kept j) (Own (Finalize p)) → IsGrounded j p
kept_grounded [] p placed h k = absurd (not_in_empty _ k)
kept_grounded (s ∷ rest) p placed h k = elim (Contains-append_cases s.synced (kept rest) (Own (Finalize p)) k) [
  | inl here ↦ (let g = grounded_in [] s.synced p (behind-front [] s.synced s.pending h.0) here in
      record {
        section = s;
        here = Contains-here s rest;
        view = sym (placed.0 (Own (Finalize p)) (front here));
        grounded = record { before = g.0; behind = g.1; place = g.2; notarized = g.3.0; judged = g.3.1 };
      })
  | inr r ↦ (let g = kept_grounded rest p placed.1 h.1 r in record { section = g.section; here = Contains-there s rest g.section g.here; view = g.view; grounded = g.grounded })
]
  where
    front : Contains s.synced (Own (Finalize p)) → Contains (s.synced ++ s.pending) (Own (Finalize p))
    front c = Contains-append_left s.synced s.pending (Own (Finalize p)) c
