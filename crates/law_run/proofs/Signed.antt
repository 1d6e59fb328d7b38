-- Each own vote that a step of a voter hands on is signed by the voter's scheme.
use Rattle.std.proofs.Common.{◌≡◌, ℕ, ◌++◌, List, [], ◌∷◌, map, Option, Some, None, refl, sym, subst}
use Rattle.std.specs.Option.{option_map_or}
use Rattle.simplex_wire.specs.declared.vote.Vote.{Vote}
use Rattle.simplex_wire.specs.declared.vote.Vote.TheVariants as votes
use Rattle.simplex_journal.specs.Journal.{Section}
use Rattle.simplex_messages.specs.declared.handed.Handed.{Handed}
use Rattle.simplex_messages.specs.declared.handed.Handed.TheVariants as handed
use Rattle.simplex_messages.specs.declared.batcher.Message.TheVariants as batcher
use Rattle.simplex_messages.specs.declared.step.Stop.{Stop}
use Rattle.simplex_messages.specs.declared.voter.VoterInput.{VoterInput}
use Rattle.simplex_messages.specs.declared.voter.VoterInput.TheVariants as inputs
use Rattle.model_rules.specs.Known.{Made, Fact, Voted}
use Rattle.model_rules.specs.Views.{current_of}
use Rattle.model_rules.specs.Votes.{notarize_at, finalize_at, nullify_at}
use Rattle.model_steps.specs.Desk.{Doing}
use Rattle.model_steps.specs.Performed.{stop_place, whole, broken, performed}
use Rattle.model_steps.specs.Voter.{Standing, acted, stepped}
use Rattle.law_member.specs.VoterVotes.{constructed_votes, votes_of, votes_on, nullifies, votes_at_end, votes_by_rule}
use Rattle.law_member.proofs.VoterStepping.{step_tells}
use Rattle.law_member.specs.Storing.{IsSigned}
use Rattle.law_member.proofs.Signing.{notarize_signed, finalize_signed, nullify_signed}
use Rattle.law_run.specs.Sayings.{Each}
use Rattle.law_run.proofs.Speaking.{Each-append}

-- what holds of an own vote that is handed on
abbrev pub InOwn : (Vote → Type 0) → Handed → Type 0
InOwn P (handed.Batcher (batcher.Constructed v)) = P v
InOwn P _ = Unit {0}

-- ---- the votes that the rules give

votes_each : {A : Type 0} (P : Vote → Type 0) (kind : A → Vote) (o : Option A) → ((a : A) → o ≡ Some a → P (kind a)) → Each P (votes_of kind o)
votes_each P kind None h = tt
votes_each P kind (Some a) h = (h a refl, tt)

on_signed : (made : Made) (known : List Fact) (view : ℕ) → Each (IsSigned made) (votes_on made known view)
unfolding votes_on
on_signed made known view =
    let notarized = votes_of votes.Notarize (notarize_at made known view) in
    let later = map Voted notarized ++ known in
    Each-append (IsSigned made) notarized (votes_of votes.Finalize (finalize_at made later view))
    (votes_each (IsSigned made) votes.Notarize (notarize_at made known view) (notarize_signed made known view))
    (votes_each (IsSigned made) votes.Finalize (finalize_at made later view) (finalize_signed made later view))

nullifies_signed : (made : Made) (known : List Fact) (input : VoterInput) → Each (IsSigned made) (nullifies made known input)
nullifies_signed made known inputs.Timer = votes_each (IsSigned made) votes.Nullify (nullify_at made (current_of made known)) (nullify_signed made (current_of made known))
nullifies_signed made known (inputs.Mail message) = tt
nullifies_signed made known inputs.Propose = tt
nullifies_signed made known inputs.Verify = tt
nullifies_signed made known inputs.Certify = tt

end_signed : (made : Made) (outcome : Doing × Option ℕ) → Each (IsSigned made) (votes_at_end made outcome)
end_signed made (after, None) = tt
end_signed made (after, Some view) = on_signed made after.desk.known view

pub rule_signed : (made : Made) (now : ℕ) (standing : Standing) (input : VoterInput) → Each (IsSigned made) (votes_by_rule made now standing input)
unfolding votes_by_rule
rule_signed made now standing input = at (acted made now standing input)
  where
    at : (o : Option (Doing × Option ℕ)) → Each (IsSigned made) (option_map_or (λ outcome. nullifies made standing.desk.known input ++ votes_at_end made outcome) o [])
    at None = tt
    at (Some outcome) = Each-append (IsSigned made) (nullifies made standing.desk.known input) (votes_at_end made outcome) (nullifies_signed made standing.desk.known input) (end_signed made outcome)

-- ---- what is handed on

own_each : (P : Vote → Type 0) (hs : List Handed) → Each P (constructed_votes hs) → Each (InOwn P) hs
own_each P [] h = tt
own_each P (handed.Batcher (batcher.Constructed v) ∷ rest) h = (h.0, own_each P rest h.1)
own_each P (handed.Batcher (batcher.Update current leader finalized proposal) ∷ rest) h = (tt, own_each P rest h)
own_each P (handed.Voter message ∷ rest) h = (tt, own_each P rest h)
own_each P (handed.Resolver message ∷ rest) h = (tt, own_each P rest h)
own_each P (handed.Handler message ∷ rest) h = (tt, own_each P rest h)

step_signed : (made : Made) (now : ℕ) (input : VoterInput) (standing : Standing) (d : Doing) → stepped made now standing input ≡ Some d → Each (InOwn (IsSigned made)) d.handed
step_signed made now input standing d e =
    let t = step_tells made now input standing d e in
    own_each (IsSigned made) d.handed (subst (Each (IsSigned made)) (sym t.constructed) (rule_signed made now standing input))

-- a step that is broken hands on nothing
pub performed_signed : (made : Made) (now : ℕ) (input : VoterInput) (standing : Standing) (stop : Stop) (d : Doing) (js : List Section) → stepped made now standing input ≡ Some d
    → Each (InOwn (IsSigned made)) (performed stop d js).out.handed
unfolding performed
performed_signed made now input standing stop d js e = at (stop_place stop d.calls)
  where
    at : (o : Option ℕ) → Each (InOwn (IsSigned made)) (option_map_or (broken stop d js) o (whole d js)).out.handed
    at None = step_signed made now input standing d e
    at (Some place) = tt
