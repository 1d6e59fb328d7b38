-- A whole step.
use Rattle.std.proofs.Common.{◌≡◌, ℕ, false, List, [], ◌++◌, map, All, Option, Some, None, refl, inl, inr, ◌⊎◌, option_to_list, sym, ap, ◌∙◌, subst, append-nil}
use Rattle.std.specs.Option.{option_map, option_map_or, option_and_then}
use Rattle.std.proofs.lemmas.List.Elements.{filter_map-append}
use Rattle.simplex_wire.specs.declared.vote.Notarize.{Notarize}
use Rattle.simplex_wire.specs.declared.vote.Finalize.{Finalize}
use Rattle.simplex_wire.specs.declared.vote.Vote.{Vote}
use Rattle.simplex_wire.specs.declared.vote.Vote.TheVariants as votes
use Rattle.simplex_messages.specs.declared.voter.VoterInput.{VoterInput}
use Rattle.model_rules.specs.Known.{Made, Fact, Voted}
use Rattle.model_rules.specs.Views.{current_of}
use Rattle.model_rules.specs.Votes.{notarize_at, finalize_at}
use Rattle.model_steps.specs.Desk.{Doing}
use Rattle.model_steps.specs.Voter.{Standing, acted, finished, stepped}
use Rattle.law_member.specs.Sections.{touched_view, IsOfSection}
use Rattle.law_member.specs.VoterVotes.{vote_packets, packet_of, constructed_votes, votes_of, votes_on, nullifies, votes_at_end, votes_by_rule}
use Rattle.law_member.specs.Learned.{lasting, facts_of_step, additions, added_at, publications, publication_of, publications_of}
use Rattle.law_member.specs.Tidings.{of_proposals, tidings, MayLearn}
use Rattle.law_member.specs.Syncs.{unsynced}
use Rattle.law_member.specs.Outgoing.{MayGoOut}
use Rattle.law_member.proofs.Tallies.{Due, once_synced, Tallied}
use Rattle.law_member.proofs.Syncing.{Guarded}
use Rattle.law_member.proofs.VoterEnding.{step_finishes}
use Rattle.law_member.proofs.VoterActing.{step_acts}
use Rattle.law_member.proofs.Adding.{some_is}

-- ---- which votes are publications

no_notarize : (now : ℕ) (o : Option Notarize) → publications_of now (votes_of votes.Notarize o) ≡ []
no_notarize now None = refl
no_notarize now (Some n) = refl

no_finalize : (now : ℕ) (o : Option Finalize) → publications_of now (votes_of votes.Finalize o) ≡ []
no_finalize now None = refl
no_finalize now (Some f) = refl

both_none : (now : ℕ) (xs ys : List Vote) → publications_of now xs ≡ [] → publications_of now ys ≡ [] → publications_of now (xs ++ ys) ≡ []
both_none now xs ys p q = filter_map-append (publication_of now) xs ys ∙ ap (λ facts. facts ++ publications_of now ys) p ∙ q

no_nullify_at_end : (now : ℕ) (made : Made) (outcome : Doing × Option ℕ) → publications_of now (votes_at_end made outcome) ≡ []
unfolding votes_on
no_nullify_at_end now made (d, None) = refl
no_nullify_at_end now made (d, Some view) =
    let notarizes = votes_of votes.Notarize (notarize_at made d.desk.known view) in
    both_none now notarizes (votes_of votes.Finalize (finalize_at made (map Voted notarizes ++ d.desk.known) view))
    (no_notarize now (notarize_at made d.desk.known view)) (no_finalize now (finalize_at made (map Voted notarizes ++ d.desk.known) view))

due_alone : (now : ℕ) (made : Made) (due : List Vote) (outcome : Doing × Option ℕ) → publications_of now (due ++ votes_at_end made outcome) ≡ publications_of now due
due_alone now made due outcome =
    filter_map-append (publication_of now) due (votes_at_end made outcome)
    ∙ ap (λ facts. publications_of now due ++ facts) (no_nullify_at_end now made outcome)
    ∙ append-nil (publications_of now due)

-- ---- the laws

may_learn : (learned news : Option Fact) (before after : List Fact) → (learned ≡ None) ⊎ (learned ≡ news) → after ≡ option_to_list learned ++ before → MayLearn news before after
may_learn learned news before after (inl none) e = inl (e ∙ ap (λ o. option_to_list o ++ before) none)
may_learn learned news before after (inr same) e = inr (e ∙ ap (λ o. option_to_list o ++ before) same)

pub record Tells (made : Made) (now : ℕ) (input : VoterInput) (s : Standing) (d : Doing) : Type 0 where
  pub sections : All (IsOfSection (touched_view made now s input)) d.calls
  pub written : lasting d.desk.known ≡ facts_of_step now d.calls ++ lasting s.desk.known
  pub new : additions d.desk.known ≡ map (added_at now) d.added ++ additions s.desk.known
  pub published : publications d.desk.known ≡ publications_of now (constructed_votes d.handed) ++ publications s.desk.known
  pub learned : MayLearn (tidings s input) (of_proposals s.desk.known) (of_proposals d.desk.known)
  pub packets : vote_packets d.calls ≡ map packet_of (votes_by_rule made now s input)
  pub constructed : constructed_votes d.handed ≡ votes_by_rule made now s input
  pub guarded : Guarded [] d.calls
  pub stored : unsynced d.calls ≡ []
  pub shown : All (MayGoOut (additions d.desk.known)) d.calls
  pub outcome : Doing × Option ℕ
  pub votes : votes_by_rule made now s input ≡ nullifies made s.desk.known input ++ votes_at_end made outcome

touched_is : (made : Made) (now : ℕ) (s : Standing) (input : VoterInput) (outcome : Doing × Option ℕ) → acted made now s input ≡ Some outcome → touched_view made now s input ≡ outcome.1
unfolding touched_view
touched_is made now s input outcome e = ap (λ (o : Option (Doing × Option ℕ)). option_and_then (λ x. x.1) o) e

votes_are : (made : Made) (now : ℕ) (s : Standing) (input : VoterInput) (outcome : Doing × Option ℕ) → acted made now s input ≡ Some outcome
    → votes_by_rule made now s input ≡ nullifies made s.desk.known input ++ votes_at_end made outcome
unfolding votes_by_rule
votes_are made now s input outcome e =
    ap (λ (o : Option (Doing × Option ℕ)). option_map_or (λ x. nullifies made s.desk.known input ++ votes_at_end made x) o []) e

pub step_tells : (made : Made) (now : ℕ) (input : VoterInput) (s : Standing) (d : Doing) → stepped made now s input ≡ Some d → Tells made now input s d
unfolding stepped
step_tells made now input s d e = at (acted made now s input) refl e
  where
    one : (after : Doing) (o : Option ℕ) → acted made now s input ≡ Some (after, o) → finished made now (current_of made s.desk.known) (after, o) ≡ d → Tells made now input s d
    one after o f same =
        let known = s.desk.known in
        let due = nullifies made known input in
        let acts = step_acts now made s input (after, o) f in
        let had : Due = record { votes = due; learned = acts.learned; synced = false } in
        let t : Tallied now known o (once_synced had) (due ++ votes_at_end made (after, o)) d =
        subst (Tallied now known o (once_synced had) (due ++ votes_at_end made (after, o))) same
        (step_finishes now known made (current_of made known) after o had refl acts.flag acts.shown acts.tally acts.waits acts.ends) in
        let ruled = votes_are made now s input (after, o) f in
        let all = sym ruled in
        record {
          sections = subst (λ touched. All (IsOfSection touched) d.calls) (sym (touched_is made now s input (after, o) f)) t.sections;
          written = t.written;
          new = t.new;
          published = t.published ∙ ap (λ facts. facts ++ publications known) (sym (ap (publications_of now) t.constructed ∙ due_alone now made due (after, o)));
          learned = may_learn acts.learned (tidings s input) (of_proposals known) (of_proposals d.desk.known) acts.told t.learned;
          packets = t.packets ∙ ap (map packet_of) all;
          constructed = t.constructed ∙ all;
          guarded = t.guarded;
          stored = t.stored refl;
          shown = t.shown;
          outcome = (after, o);
          votes = ruled;
        }

    at : (o : Option (Doing × Option ℕ)) → acted made now s input ≡ o → option_map (finished made now (current_of made s.desk.known)) o ≡ Some d → Tells made now input s d
    at None f h = cc
    at (Some outcome) f h = one outcome.0 outcome.1 f (some_is _ d h)
