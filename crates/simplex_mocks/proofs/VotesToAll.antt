-- Votes to all, one after another.
use Rattle.std.proofs.Common.{◌≡◌, refl, ◌++◌, List, [], ◌∷◌, Option, Some, None}
use Rattle.std.specs.Prelude.{map, option_map, option_to_list}
use Rattle.std.specs.List.{cons_option}
use Rattle.simplex_values.specs.declared.plan.Recipients.TheVariants as recipients
use Rattle.simplex_values.specs.declared.proposal.Subject.{Subject}
use Rattle.simplex_wire.specs.declared.attestation.Attestation.{Attestation}
use Rattle.simplex_wire.specs.declared.vote.Vote.{Vote}
use Rattle.model_faults.specs.Heard.{own_vote, to_all, votes_to_all}
use Rattle.model_faults.specs.Equivocator.{to_members}

-- the vote on the first subject, and then those on the others
pub one_more : (attests : Subject → Option Attestation) (first : Subject) (others : List Subject)
    → votes_to_all attests (first ∷ others) ≡ option_to_list (option_map (to_members recipients.All) (own_vote attests first)) ++ votes_to_all attests others
unfolding votes_to_all
one_more attests first others = by_vote (own_vote attests first)
  where
    by_vote : (vote : Option Vote) → map to_all (cons_option vote (Rattle.std.specs.Prelude.filter_map (own_vote attests) others))
        ≡ option_to_list (option_map (to_members recipients.All) vote) ++ map to_all (Rattle.std.specs.Prelude.filter_map (own_vote attests) others)
    by_vote None = refl
    by_vote (Some vote) = refl

-- no vote is no message
pub votes_none : (attests : Subject → Option Attestation) → votes_to_all attests [] ≡ []
unfolding votes_to_all
votes_none attests = refl

-- the vote on one subject alone
pub one : (attests : Subject → Option Attestation) (subject : Subject)
    → [] ++ option_to_list (option_map (to_members recipients.All) (own_vote attests subject)) ≡ votes_to_all attests (subject ∷ [])
unfolding votes_to_all
one attests subject = by_vote (own_vote attests subject)
  where
    by_vote : (vote : Option Vote) → option_to_list (option_map (to_members recipients.All) vote) ≡ map to_all (cons_option vote [])
    by_vote None = refl
    by_vote (Some vote) = refl
