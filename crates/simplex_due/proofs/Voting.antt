-- The votes on a view, one by one.
use Rattle.std.proofs.Common.{◌≡◌, ℕ, ◌<◌, ◌++◌, ◌∷◌, [], max, nat_lt, Bool, true, false, map, List, Option, Some, None, refl, ap, ◌∙◌, arith}
use Rattle.std.proofs.lemmas.Grind.{common_steps}
use Rattle.std.specs.Option.{option_or}
use Rattle.simplex_values.specs.declared.proposal.Proposal.{Proposal}
use Rattle.simplex_values.specs.Covers.{covers}
use Rattle.simplex_wire.specs.declared.vote.Notarize.{Notarize}
use Rattle.simplex_wire.specs.declared.vote.Vote.TheVariants as votes
use Rattle.model_rules.specs.Ancestry.{has_true_verdict}
use Rattle.model_rules.specs.Known.{Made, Fact, Voted, has_nullified, has_finalized, own_notarize, verdict_of, notarization_of, finalization_of, proposal_of}
use Rattle.model_rules.specs.Lists.{first_of, greatest_of}
use Rattle.model_rules.specs.Slot.{slot_of}
use Rattle.model_rules.specs.Views.{last_finalized}
use Rattle.model_rules.specs.Votes.{notarizes, notarize_at, finalizes, finalize_at, is_gated}
use Rattle.model_rules.proofs.Soundness.{slot_view, notarize_parts, notarizes_sound}
use Rattle.simplex_state.proofs.Gates.{gate_closed}
use Rattle.law_member.specs.VoterVotes.{votes_of, votes_on}

-- ---- in a view that was given up

unnotarized_by : (made : Made) (known : List Fact) (view : ℕ) (slot : Option Proposal) → slot_of known view ≡ slot → has_nullified known view ≡ true
    → notarize_at made known view ≡ None
unfolding notarize_at notarizes
unnotarized_by made known view None e given = grind (arith, common_steps, e)
unnotarized_by made known view (Some p) e given = let v = slot_view known view p e in grind (arith, common_steps, e, v, given)

covers_itself : (length view : ℕ) → covers length view view ≡ true
unfolding covers
covers_itself length view = grind (arith, common_steps)

unfinalized_by : (made : Made) (known : List Fact) (view : ℕ) (above : Bool) → nat_lt (last_finalized known) view ≡ above → has_nullified known view ≡ true
    → finalizes made known view ≡ false
unfolding finalizes
unfinalized_by made known view false e given = grind (arith, common_steps, e)
unfinalized_by made known view true e given =
    let gated = gate_closed made known view view given (grind (arith, common_steps, e)) (covers_itself made.term_length view) in
    grind (arith, common_steps, gated)

unfinalized : (made : Made) (known : List Fact) (view : ℕ) → has_nullified known view ≡ true → finalize_at made known view ≡ None
unfolding finalize_at
unfinalized made known view given = grind (arith, common_steps, unfinalized_by made known view _ refl given)

-- ---- behind an own notarize

slot_or : (a b d : Option Proposal) (p : Proposal) → option_or a (option_or b (option_or None d)) ≡ Some p
    → option_or a (option_or b (option_or (Some p) d)) ≡ Some p
slot_or None None d p e = refl
slot_or None (Some y) d p e = e
slot_or (Some x) b d p e = e

or_none : {A : Type 0} (o : Option A) → option_or o None ≡ o
or_none None = refl
or_none (Some x) = refl

no_less : (n : ℕ) → max 0 n ≡ n
no_less n = omega arith

module _ (made : Made) (known : List Fact) (view : ℕ) (n : Notarize) (e : notarize_at made known view ≡ Some n) where
  slot_is : slot_of known view ≡ Some n.proposal
  slot_is = (notarize_parts made known view n e).0

  slot_kept : slot_of (Voted (votes.Notarize n) ∷ known) view ≡ Some n.proposal
  unfolding slot_of own_notarize notarization_of finalization_of proposal_of first_of
  slot_kept =
      let parts = notarize_parts made known view n e in
      let v = slot_view known view n.proposal parts.0 in
      let sound = notarizes_sound made known n.proposal parts.1 in
      grind (arith, common_steps, slot_is, v, sound.free, or_none, slot_or)

  finalizes_kept : finalizes made (Voted (votes.Notarize n) ∷ known) view ≡ finalizes made known view
  unfolding finalizes has_true_verdict verdict_of has_finalized is_gated last_finalized first_of greatest_of
  finalizes_kept = grind (arith, common_steps, or_none, no_less)

  finalize_kept : finalize_at made (Voted (votes.Notarize n) ∷ known) view ≡ finalize_at made known view
  unfolding finalize_at
  finalize_kept = grind (arith, common_steps, slot_is, slot_kept, finalizes_kept)

-- ---- the votes on a view

votes_with : (made : Made) (known : List Fact) (view : ℕ) (given : Option Notarize) → notarize_at made known view ≡ given
    → votes_on made known view
    ≡ votes_of votes.Notarize given ++ votes_of votes.Finalize (finalize_at made (map Voted (votes_of votes.Notarize given) ++ known) view)
unfolding votes_on
votes_with made known view given e =
    ap
    (λ (o : Option Notarize). votes_of votes.Notarize o ++ votes_of votes.Finalize (finalize_at made (map Voted (votes_of votes.Notarize o) ++ known) view))
    e

votes_by : (made : Made) (known : List Fact) (view : ℕ) (given : Option Notarize) → notarize_at made known view ≡ given
    → votes_on made known view ≡ votes_of votes.Notarize given ++ votes_of votes.Finalize (finalize_at made known view)
votes_by made known view None e = votes_with made known view None e
votes_by made known view (Some n) e =
    votes_with made known view (Some n) e
    ∙ ap (λ f. votes_of votes.Notarize (Some n) ++ votes_of votes.Finalize f) (finalize_kept made known view n e)

-- the own notarize makes no difference to the finalize
pub votes_are : (made : Made) (known : List Fact) (view : ℕ)
    → votes_on made known view ≡ votes_of votes.Notarize (notarize_at made known view) ++ votes_of votes.Finalize (finalize_at made known view)
votes_are made known view = votes_by made known view (notarize_at made known view) refl

-- none is given
pub votes_given_up : (made : Made) (known : List Fact) (view : ℕ) → has_nullified known view ≡ true → votes_on made known view ≡ []
votes_given_up made known view given =
    votes_by made known view None (unnotarized_by made known view _ refl given) ∙ ap (votes_of votes.Finalize) (unfinalized made known view given)
