-- What a vote says of what its member knew.
use Rattle.std.proofs.Common.{◌≡◌, ℕ, zero, suc, ◌+◌, ◌-◌, ◌<◌, ◌≤◌, not, Bool, true, false, List, [], ◌∷◌, Option, Some, None, find, max, refl, sym, ap, ◌∙◌, inl, inr, ◌⊎◌, arith}
use Rattle.std.proofs.lemmas.Bool.{cases_eq}
use Rattle.std.proofs.lemmas.Grind.{common_steps}
use Rattle.std.specs.List.{range_with_len}
use Rattle.std.specs.Option.{option_map, option_or, is_none}
use Rattle.simplex_values.specs.declared.proposal.Proposal.{Proposal}
use Rattle.simplex_wire.specs.declared.vote.Notarize.{Notarize}
use Rattle.simplex_wire.specs.declared.vote.Finalize.{Finalize}
use Rattle.simplex_wire.specs.declared.certificate.Notarization.{Notarization}
use Rattle.simplex_wire.specs.declared.certificate.Finalization.{Finalization}
use Rattle.simplex_wire.specs.declared.certificate.Certificate.TheVariants as certificates
use Rattle.simplex_wire.specs.declared.vote.Vote.TheVariants as votes
use Rattle.model_rules.specs.Lists.{first_of, greatest_of}
use Rattle.model_rules.specs.Laws.{Notarizable, Finalizable}
use Rattle.simplex_values.specs.Terms.{greatest_view, next_of, term_index, term_end, next_term_start, is_in_window}
use Rattle.model_rules.specs.Known.{Made, Fact, Added, Taken, Answered, Judged, Voted, view_of, notarization_in, finalization_in, notarize_in, proposal_in, notarization_of, finalization_of, own_notarize, proposal_of}
use Rattle.model_rules.specs.Views.{current_of, opened_view, is_ahead}
use Rattle.model_rules.specs.Slot.{slot_of}
use Rattle.model_rules.specs.Ancestry.{is_covered, gap_between, has_ancestry}
use Rattle.model_rules.specs.Votes.{notarizes, notarize_at, signed_notarize, finalizes, finalize_at, signed_finalize, is_votable}

none_is_some : {A : Type 0} (a : A) → ◌≡◌ {A = Option A} None (Some a) → ⊥
none_is_some a e = cc

some_inj : {A : Type 0} (a b : A) → Some a ≡ Some b → a ≡ b
some_inj a b e = cc

-- where none of the numbers passes, each fails
pub find_none : (test : ℕ → Bool) (a n : ℕ) → find test (range_with_len a n) ≡ None → (u : ℕ) → a ≤ u → u < a + n → test u ≡ false
find_none test a zero e u l h = absurd (omega (arith, l, h))
find_none test a (suc n) e u l h = grind (arith, common_steps, e, l, h, find_none test (a + 1) n, cases_eq u a)

-- between a parent and a view with no gap, each view is covered
pub covered_between : (made : Made) (known : List Fact) (parent view u : ℕ) → is_none (gap_between made known parent view) ≡ true
    → parent < u → u < view → is_covered made known u ≡ true
unfolding gap_between
covered_between made known parent view u none l h =
    grind (arith, common_steps, none, l, h, find_none (λ v. not (is_covered made known v)) (parent + 1) (view - (parent + 1)))

-- a notarize is for the slot, and keeps the vote rule
pub notarize_parts : (made : Made) (known : List Fact) (view : ℕ) (n : Notarize) → notarize_at made known view ≡ Some n
    → (slot_of known view ≡ Some n.proposal) × (notarizes made known n.proposal ≡ true)
unfolding notarize_at signed_notarize
notarize_parts made known view n e = (grind (arith, common_steps, e), grind (arith, common_steps, e))

-- a finalize is for the slot, and keeps the vote rule
pub finalize_parts : (made : Made) (known : List Fact) (view : ℕ) (f : Finalize) → finalize_at made known view ≡ Some f
    → (slot_of known view ≡ Some f.proposal) × (finalizes made known view ≡ true)
unfolding finalize_at signed_finalize
finalize_parts made known view f e = (grind (arith, common_steps, e), grind (arith, common_steps, e))

-- one of the two is the answer
either : {A : Type 0} (o p : Option A) (a : A) → option_or o p ≡ Some a → (o ≡ Some a) ⊎ (p ≡ Some a)
either None p a e = inr e
either (Some x) p a e = inl e

-- what each answer has, the first answer has
pub first_of-each : {E A : Type 0} (pick : E → Option A) (P : A → Type 0) → ((x : E) (a : A) → pick x ≡ Some a → P a)
    → (past : List E) (a : A) → first_of pick past ≡ Some a → P a
unfolding first_of
first_of-each pick P each [] a e = absurd (none_is_some a e)
first_of-each pick P each (x ∷ past) a e =
    elim (either (first_of pick past) (pick x) a e) [ inl h ↦ first_of-each pick P each past a h | inr h ↦ each x a h ]

notarization_view : (view : ℕ) (fact : Fact) (n : Notarization) → notarization_in view fact ≡ Some n → view_of n.proposal ≡ view
notarization_view view (Added (certificates.Notarization m) now) n e = grind (arith, e)
notarization_view view _ n e = cc

finalization_view : (view : ℕ) (fact : Fact) (f : Finalization) → finalization_in view fact ≡ Some f → view_of f.proposal ≡ view
finalization_view view (Added (certificates.Finalization g) now) f e = grind (arith, e)
finalization_view view _ f e = cc

notarize_view : (view : ℕ) (fact : Fact) (n : Notarize) → notarize_in view fact ≡ Some n → view_of n.proposal ≡ view
notarize_view view (Voted (votes.Notarize m)) n e = grind (arith, e)
notarize_view view _ n e = cc

proposal_view_is : (view : ℕ) (fact : Fact) (p : Proposal) → proposal_in view fact ≡ Some p → view_of p ≡ view
proposal_view_is view (Taken q) p e = grind (arith, e)
proposal_view_is view (Answered q) p e = grind (arith, e)
proposal_view_is view _ p e = cc

mapped : {A B : Type 0} (f : A → B) (o : Option A) (b : B) → option_map f o ≡ Some b → (a : A) × (o ≡ Some a) × (f a ≡ b)
mapped f None b e = absurd (none_is_some b e)
mapped f (Some a) b e = (a, refl, some_inj (f a) b e)

-- the slot's proposal is of its view
pub slot_view : (known : List Fact) (view : ℕ) (p : Proposal) → slot_of known view ≡ Some p → view_of p ≡ view
unfolding slot_of notarization_of finalization_of own_notarize proposal_of
slot_view known view p e =
    elim (either _ _ p e) [
      | inl h ↦ (let m = mapped (λ (n : Notarization). n.proposal) _ p h in
          ap view_of (sym m.2) ∙ first_of-each (notarization_in view) (λ n. view_of n.proposal ≡ view) (notarization_view view) known m.0 m.1)
      | inr k ↦ (elim (either _ _ p k) [
        | inl h ↦ (let m = mapped (λ (n : Finalization). n.proposal) _ p h in
            ap view_of (sym m.2) ∙ first_of-each (finalization_in view) (λ n. view_of n.proposal ≡ view) (finalization_view view) known m.0 m.1)
        | inr l ↦ (elim (either _ _ p l) [
          | inl h ↦ (let m = mapped (λ (n : Notarize). n.proposal) _ p h in
              ap view_of (sym m.2) ∙ first_of-each (notarize_in view) (λ n. view_of n.proposal ≡ view) (notarize_view view) known m.0 m.1)
          | inr h ↦ first_of-each (proposal_in view) (λ q. view_of q ≡ view) (proposal_view_is view) known p h
        ])
      ])
    ]

-- a term ends at or behind each of its views
term_end_above : (length view : ℕ) → 0 < length → view ≤ greatest_view → view ≤ term_end length view
unfolding term_end term_index
term_end_above length view some low = grind arith

opened_low : (length : ℕ) (fact : Fact) → opened_view length fact ≤ greatest_view
unfolding next_term_start next_of
opened_low length (Added (certificates.Notarization n) now) = omega arith
opened_low length (Added (certificates.Nullification n) now) = omega arith
opened_low length (Added (certificates.Finalization f) now) = omega arith
opened_low length (Judged view true now) = omega arith
opened_low length (Judged view false now) = omega arith
opened_low length _ = omega arith

greatest_low : (length : ℕ) (known : List Fact) → greatest_of (opened_view length) known ≤ greatest_view
unfolding greatest_of
greatest_low length [] = omega arith
greatest_low length (fact ∷ known) = omega (arith, opened_low length fact, greatest_low length known)

-- a member votes in no view before its current one
pub votable_above : (made : Made) (known : List Fact) (view : ℕ) → 0 < made.term_length → is_votable made known view ≡ true → current_of made known ≤ view
unfolding is_votable is_ahead is_in_window next_term_start next_of current_of
votable_above made known view some e =
    grind (
      arith,
      common_steps,
      e,
      greatest_low made.term_length known,
      term_end_above made.term_length (max 1 (greatest_of (opened_view made.term_length) known)) some,
    )

pub notarizes_sound : (made : Made) (known : List Fact) (p : Proposal) → notarizes made known p ≡ true → Notarizable made known p
unfolding notarizes has_ancestry
notarizes_sound made known p e = record {
  parent = grind (arith, common_steps, e);
  covered = λ u l h. covered_between made known p.parent (view_of p) u (grind (arith, common_steps, e)) l h;
  current = λ some. votable_above made known (view_of p) some (grind (arith, common_steps, e));
  free = grind (arith, common_steps, e);
  stays = grind (arith, common_steps, e);
  checked = grind (arith, common_steps, e);
}

pub finalizes_sound : (made : Made) (known : List Fact) (view : ℕ) → finalizes made known view ≡ true → Finalizable made known view
unfolding finalizes
finalizes_sound made known view e = record {
  verdict = grind (arith, common_steps, e);
  above = grind (arith, common_steps, e);
  free = grind (arith, common_steps, e);
  ungated = grind (arith, common_steps, e);
}
