-- The votes that are due at a deadline.
use Rattle.std.proofs.Common.{◌≡◌, ℕ, ◌++◌, ◌∷◌, [], Bool, true, false, map, List, Option, Some, None, if◌then◌else◌, refl, sym, ap, ◌∙◌, arith}
use Rattle.std.proofs.lemmas.Grind.{common_steps}
use Rattle.simplex_wire.specs.declared.certificate.Certificate.{Certificate}
use Rattle.simplex_wire.specs.declared.vote.Nullify.{Nullify}
use Rattle.simplex_wire.specs.declared.vote.Vote.TheVariants as votes
use Rattle.model_rules.specs.Known.{Made, Fact, Voted, has_nullified}
use Rattle.model_rules.specs.Views.{current_of}
use Rattle.model_rules.specs.Votes.{nullify_at}
use Rattle.simplex_state.proofs.Gates.{nullify_view}
use Rattle.law_member.specs.Learned.{added_at}
use Rattle.law_member.specs.VoterVotes.{votes_of, votes_on}
use Rattle.model_audit.specs.Taking.{Deadline, learned, touched, newly_known, given_up, votes_due}
use Rattle.simplex_due.proofs.Voting.{votes_given_up}

nullified_more : (now : ℕ) (added : List Certificate) (known : List Fact) (view : ℕ)
    → has_nullified (map (added_at now) added ++ known) view ≡ has_nullified known view
unfolding has_nullified
nullified_more now [] known view = refl
nullified_more now (certificate ∷ added) known view = nullified_more now added known view

nullified_here : (known : List Fact) (n : Nullify) (view : ℕ) → n.round.view ≡ view → has_nullified (Voted (votes.Nullify n) ∷ known) view ≡ true
unfolding has_nullified
nullified_here known n view e = grind (arith, common_steps, e)

module _ (made : Made) (known : List Fact) (now : ℕ) (added : List Certificate) where
  abbrev view : ℕ
  view = current_of made known

  abbrev behind : List Fact
  behind = map (added_at now) added ++ known

  due_by : (newly : List Fact) → newly_known made known Deadline ≡ newly
      → votes_due made now known added Deadline ≡ votes_of votes.Nullify (nullify_at made view) ++ votes_on made (newly ++ behind) view
  unfolding votes_due touched learned
  due_by newly e = ap (λ facts. votes_of votes.Nullify (nullify_at made view) ++ votes_on made (facts ++ behind) view) e

  newly_by : (gave_up : Bool) (nullify : Option Nullify) → has_nullified known view ≡ gave_up → nullify_at made view ≡ nullify
      → newly_known made known Deadline ≡ (if gave_up then [] else map Voted (votes_of votes.Nullify nullify))
  newly_by gave_up nullify g n =
      ap (λ b. if b then [] else map Voted (votes_of votes.Nullify (nullify_at made view))) g
      ∙ ap (λ (o : Option Nullify). if gave_up then [] else map Voted (votes_of votes.Nullify o)) n

  -- it was given up before
  pub due_again : has_nullified known view ≡ true → votes_due made now known added Deadline ≡ votes_of votes.Nullify (nullify_at made view) ++ []
  due_again given =
      due_by [] (newly_by true _ given refl)
      ∙ ap (λ more. votes_of votes.Nullify (nullify_at made view) ++ more) (votes_given_up made behind view (nullified_more now added known view ∙ given))

  -- it is given up now
  pub due_now : (n : Nullify) → has_nullified known view ≡ false → nullify_at made view ≡ Some n
      → votes_due made now known added Deadline ≡ votes_of votes.Nullify (nullify_at made view) ++ []
  due_now n given e =
      due_by (Voted (votes.Nullify n) ∷ []) (newly_by false (Some n) given e)
      ∙ ap (λ more. votes_of votes.Nullify (nullify_at made view) ++ more)
      (votes_given_up made (Voted (votes.Nullify n) ∷ behind) view (nullified_here behind n view (nullify_view made view n e)))

  -- the scheme does not sign it
  pub due_unsigned : has_nullified known view ≡ false → nullify_at made view ≡ None → votes_due made now known added Deadline ≡ votes_on made behind view
  due_unsigned given e =
      due_by [] (newly_by false None given e) ∙ ap (λ (o : Option Nullify). votes_of votes.Nullify o ++ votes_on made behind view) e

  -- ---- by what was read

  pub again : (at : ℕ) (nullify : Option Nullify) → at ≡ view → nullify ≡ nullify_at made at → has_nullified known at ≡ true
      → votes_of votes.Nullify nullify ++ [] ≡ votes_due made now known added Deadline
  again at nullify here is given =
      ap (λ (o : Option Nullify). votes_of votes.Nullify o ++ []) (is ∙ ap (nullify_at made) here)
      ∙ sym (due_again (sym (ap (has_nullified known) here) ∙ given))

  pub first : (at : ℕ) (nullify : Option Nullify) (n : Nullify) → at ≡ view → nullify ≡ nullify_at made at → has_nullified known at ≡ false → nullify ≡ Some n
      → votes_of votes.Nullify nullify ++ [] ≡ votes_due made now known added Deadline
  first at nullify n here is given some =
      ap (λ (o : Option Nullify). votes_of votes.Nullify o ++ []) (is ∙ ap (nullify_at made) here)
      ∙ sym (due_now n (sym (ap (has_nullified known) here) ∙ given) (sym (is ∙ ap (nullify_at made) here) ∙ some))

  pub unsigned : (at : ℕ) (nullify : Option Nullify) → at ≡ view → nullify ≡ nullify_at made at → has_nullified known at ≡ false → nullify ≡ None
      → votes_on made behind at ≡ votes_due made now known added Deadline
  unsigned at nullify here is given none =
      ap (votes_on made behind) here
      ∙ sym (due_unsigned (sym (ap (has_nullified known) here) ∙ given) (sym (is ∙ ap (nullify_at made) here) ∙ none))
