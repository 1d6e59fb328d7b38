-- Which of the votes that go out are nullifies.
use Rattle.std.proofs.Common.{◌≡◌, ℕ, ◌≤◌, List, [], ◌++◌, map, filter, length, Option, Some, None, refl, ap, ◌∙◌, arith, append-nil}
use Rattle.std.proofs.lemmas.List.Elements.{filter-append}
use Rattle.simplex_wire.specs.declared.vote.Notarize.{Notarize}
use Rattle.simplex_wire.specs.declared.vote.Nullify.{Nullify}
use Rattle.simplex_wire.specs.declared.vote.Finalize.{Finalize}
use Rattle.simplex_wire.specs.declared.vote.Vote.{Vote}
use Rattle.simplex_wire.specs.declared.vote.Vote.TheVariants as votes
use Rattle.simplex_messages.specs.declared.voter.VoterInput.{VoterInput}
use Rattle.simplex_messages.specs.declared.voter.VoterInput.TheVariants as inputs
use Rattle.model_rules.specs.Known.{Made, Fact, Voted}
use Rattle.model_rules.specs.Views.{current_of}
use Rattle.model_rules.specs.Votes.{notarize_at, nullify_at, finalize_at}
use Rattle.model_steps.specs.Desk.{Doing}
use Rattle.model_steps.specs.Voter.{Standing, stepped}
use Rattle.law_member.specs.VoterVotes.{constructed_votes, is_nullify, votes_of, votes_on, nullifies, votes_at_end}
use Rattle.law_member.proofs.VoterStepping.{step_tells}

-- ---- none behind the first

no_notarize : (o : Option Notarize) → filter is_nullify (votes_of votes.Notarize o) ≡ []
no_notarize None = refl
no_notarize (Some n) = refl

no_finalize : (o : Option Finalize) → filter is_nullify (votes_of votes.Finalize o) ≡ []
no_finalize None = refl
no_finalize (Some f) = refl

both_none : (xs ys : List Vote) → filter is_nullify xs ≡ [] → filter is_nullify ys ≡ [] → filter is_nullify (xs ++ ys) ≡ []
both_none xs ys p q = filter-append is_nullify xs ys ∙ ap (λ vs. vs ++ filter is_nullify ys) p ∙ q

none_at_end : (made : Made) (outcome : Doing × Option ℕ) → filter is_nullify (votes_at_end made outcome) ≡ []
unfolding votes_on
none_at_end made (d, None) = refl
none_at_end made (d, Some view) =
    let notarizes = votes_of votes.Notarize (notarize_at made d.desk.known view) in
    both_none notarizes (votes_of votes.Finalize (finalize_at made (map Voted notarizes ++ d.desk.known) view))
    (no_notarize (notarize_at made d.desk.known view)) (no_finalize (finalize_at made (map Voted notarizes ++ d.desk.known) view))

all_nullifies : (o : Option Nullify) → filter is_nullify (votes_of votes.Nullify o) ≡ votes_of votes.Nullify o
all_nullifies None = refl
all_nullifies (Some n) = refl

due_are_nullifies : (made : Made) (known : List Fact) (input : VoterInput) → filter is_nullify (nullifies made known input) ≡ nullifies made known input
due_are_nullifies made known (inputs.Mail message) = refl
due_are_nullifies made known inputs.Timer = all_nullifies (nullify_at made (current_of made known))
due_are_nullifies made known inputs.Propose = refl
due_are_nullifies made known inputs.Verify = refl
due_are_nullifies made known inputs.Certify = refl

-- the nullifies among a step's votes are those that are due
pub nullifies_are : (made : Made) (now : ℕ) (input : VoterInput) (s : Standing) (d : Doing) → stepped made now s input ≡ Some d
    → filter is_nullify (constructed_votes d.handed) ≡ nullifies made s.desk.known input
nullifies_are made now input s d e =
    let t = step_tells made now input s d e in
    let due = nullifies made s.desk.known input in
    let behind = votes_at_end made t.outcome in
    ap (filter is_nullify) (t.constructed ∙ t.votes) ∙ filter-append is_nullify due behind
    ∙ ap (λ vs. filter is_nullify due ++ vs) (none_at_end made t.outcome) ∙ append-nil (filter is_nullify due) ∙ due_are_nullifies made s.desk.known input

-- ---- at most one goes out

one_at_most : (o : Option Nullify) → length (votes_of votes.Nullify o) ≤ 1
one_at_most None = omega arith
one_at_most (Some n) = omega arith

due_at_most_one : (made : Made) (known : List Fact) (input : VoterInput) → length (nullifies made known input) ≤ 1
due_at_most_one made known (inputs.Mail message) = omega arith
due_at_most_one made known inputs.Timer = one_at_most (nullify_at made (current_of made known))
due_at_most_one made known inputs.Propose = omega arith
due_at_most_one made known inputs.Verify = omega arith
due_at_most_one made known inputs.Certify = omega arith

pub nullifies_once : (made : Made) (now : ℕ) (input : VoterInput) (s : Standing) (d : Doing) → stepped made now s input ≡ Some d
    → length (filter is_nullify (constructed_votes d.handed)) ≤ 1
nullifies_once made now input s d e = omega (arith, ap length (nullifies_are made now input s d e), due_at_most_one made s.desk.known input)
