-- What a state keeps behind one more fact that moves it or changes a set.
use Rattle.std.proofs.Common.{◌≡◌, ℕ, ◌<◌, ◌≤◌, ◌^◌, ◌==◌, ◌&&◌, ◌||◌, nat_lt, true, false, List, ◌∷◌, Option, Some, None, refl, arith, if◌then◌else◌}
use Rattle.std.proofs.lemmas.Grind.{common_steps}
use Rattle.std.specs.Prelude.{unwrap_or}
use Rattle.std.specs.BTreeMap.{BTreeMap}
use Rattle.std.specs.BTreeSet.{BTreeSet}
use Rattle.std.specs.Option.{option_map, is_some}
use Rattle.simplex_values.specs.declared.ask.Kind.{Kind}
use Rattle.simplex_wire.specs.declared.vote.Nullify.{Nullify}
use Rattle.simplex_wire.specs.declared.vote.Vote.TheVariants as votes
use Rattle.simplex_wire.specs.declared.certificate.Notarization.{Notarization}
use Rattle.simplex_wire.specs.declared.certificate.Nullification.{Nullification}
use Rattle.simplex_wire.specs.declared.certificate.Finalization.{Finalization}
use Rattle.simplex_wire.specs.declared.certificate.Certificate.TheVariants as certificates
use Rattle.simplex_wire.specs.declared.certificate.CertificateKind.TheVariants as kinds
use Rattle.model_rules.specs.Lists.{first_of, greatest_of}
use Rattle.model_rules.specs.Known.{Made, Fact, Added, Judged, Voted, Broadcast, MissingAsked, view_of, notarization_of, nullification_of, finalization_of, was_broadcast, verdict_of, has_nullified}
use Rattle.model_rules.specs.Views.{least_active, last_finalized}
use Rattle.model_rules.specs.Ancestry.{is_covered, has_true_verdict, has_false_verdict}
use Rattle.model_rules.specs.Requests.{is_unjudged, is_kind}
use Rattle.model_rules.specs.Calls.{unsent_notarization, unsent_nullification, unsent_finalization}
use Rattle.simplex_wire.specs.declared.scheme.Scheme as scheme
use Rattle.simplex_types.specs.declared.elector.Elector as elector
use Rattle.simplex_state.specs.declared.rounds.RoundRecord.{RoundRecord}
use Rattle.simplex_state.specs.declared.held.Held.{Held}
use Rattle.simplex_state.specs.declared.missing.Missing.{Missing}
use Rattle.simplex_state.specs.declared.progress.Progress.{Progress}
use Rattle.simplex_state.specs.declared.ranges.Ranges.{Ranges}
use Rattle.simplex_state.specs.declared.state.State.{State}
use Rattle.simplex_values.specs.Terms.{next_of, term_index, next_term_start}
use Rattle.simplex_values.specs.Covers.{covers}
use Rattle.simplex_values.specs.Maps.{found, has}
use Rattle.simplex_state.specs.Missing.{is_asked}
use Rattle.simplex_state.specs.Ranges.{holds}
use Rattle.simplex_state.specs.Rounds.{round_in, learn_round}
use Rattle.simplex_state.specs.Progress.{progress_of, learn_progress, opens, ends}
use Rattle.simplex_state.specs.Certificates.{held, held_notarization, held_nullification, held_finalization}
use Rattle.simplex_state.specs.Stands.{Keeps, covered_in}
use Rattle.simplex_state.proofs.Facts.{round_step, progress_step, option_or-none}
use Rattle.simplex_state.proofs.Publishing.{published_same, published_moved, unpublished_later}
use Rattle.simplex_state.proofs.Sound.{sound_other, timely_step}

module _ {S L : Type 0} {g : scheme.Ghosts S} {h : elector.Ghosts L} where
  -- the member gave a view up
  pub keeps_nullify : (state : State S L g h) (made : Made) (known : List Fact) (n : Nullify) (nullified' : Ranges)
      → Keeps state made known
      → ((q : ℕ) → holds nullified' q ≡ (n.round.view == q || holds state.nullified q))
      → Keeps (record state { nullified = nullified' }) made (Voted (votes.Nullify n) ∷ known)
  unfolding learn_progress learn_round opens ends least_active last_finalized has_nullified has_false_verdict has_true_verdict is_covered is_unjudged verdict_of notarization_of nullification_of finalization_of was_broadcast held_notarization held_nullification held_finalization unsent_notarization unsent_nullification unsent_finalization first_of greatest_of
  keeps_nullify state made known n nullified' k nullified_are =
      let f = Voted (votes.Nullify n) in
      let w = progress_step made f known in
      record {
        attest = k.attest;
        leads = k.leads;
        settings = k.settings;
        progress = grind (arith, common_steps, k.progress, w);
        active = grind (arith, common_steps, k.active, w);
        ahead = grind (arith, common_steps, k.ahead, w);
        sound = sound_other f known refl k.sound;
        held = record {
          notarizations = λ v. grind (arith, common_steps, k.held.notarizations v, option_or-none);
          nullifications = λ v. grind (arith, common_steps, k.held.nullifications v, option_or-none);
          finalizations = λ v. grind (arith, common_steps, k.held.finalizations v, option_or-none);
        };
        timely = timely_step made f known (omega arith) k.timely;
        rounds = λ view. grind (arith, common_steps, k.rounds view, w, round_step f known view);
        published = published_same made f known _ refl (grind (arith, common_steps, w)) k.published;
        unpublished = unpublished_later made f known refl (grind (arith, common_steps, w)) k.unpublished;
        nullified = λ view. grind (arith, common_steps, k.nullified view, nullified_are view, w);
        failed = λ view. grind (arith, common_steps, k.failed view, option_or-none);
        certified = λ view. grind (arith, common_steps, k.certified view, option_or-none, w);
        covered = λ view. grind (arith, common_steps, k.covered view, w);
        whole = λ view lies. grind (arith, common_steps, k.whole view lies);
        waiting = λ view. grind (arith, common_steps, k.waiting view, option_or-none);
        missing = λ p v kind. grind (arith, common_steps, k.missing p v kind, w);
        notarizations = λ view. grind (arith, common_steps, k.notarizations view, option_or-none, w);
        finalizations = λ view. grind (arith, common_steps, k.finalizations view, option_or-none, w);
        nullifications = λ view. grind (arith, common_steps, k.nullifications view, option_or-none, w);
        unsent_notarizations = λ view. grind (arith, common_steps, k.unsent_notarizations view, option_or-none);
        unsent_nullifications = λ view. grind (arith, common_steps, k.unsent_nullifications view, option_or-none);
        unsent_finalizations = λ view. grind (arith, common_steps, k.unsent_finalizations view, option_or-none);
      }

  -- a verdict is taken
  pub keeps_good : (state : State S L g h) (made : Made) (known : List Fact) (v : ℕ) (now : ℕ) (progress' : Progress) (published' : Option ℕ) (rounds' : BTreeMap ℕ RoundRecord) (certified' : BTreeSet ℕ)
      → Keeps state made known
      → state.gave_up ≡ false
      → now < 2 ^ 63
      → verdict_of known v ≡ None
      → progress' ≡ opens made.term_length (next_of v) now state.progress
      → published' ≡ (if nat_lt state.progress.current (next_of v) then None else state.published)
      → ((q : ℕ) → (progress_of made known).pruned ≤ q → round_in rounds' q ≡ learn_round (Judged v true now) q (round_in state.rounds q))
      → ((q : ℕ) → has certified' q ≡ (v == q || has state.certified q))
      → Keeps (record state { progress = progress'; published = published'; rounds = rounds'; certified = certified' }) made (Judged v true now ∷ known)
  unfolding learn_progress learn_round opens ends least_active last_finalized has_nullified has_false_verdict has_true_verdict is_covered is_unjudged verdict_of notarization_of nullification_of finalization_of was_broadcast held_notarization held_nullification held_finalization unsent_notarization unsent_nullification unsent_finalization first_of greatest_of
  keeps_good state made known v now progress' published' rounds' certified' k given_up stamp none progress_is published_is rounds_are certified_are =
      let f = Judged v true now in
      let w = progress_step made f known in
      record {
        attest = k.attest;
        leads = k.leads;
        settings = k.settings;
        progress = grind (arith, common_steps, k.progress, w, progress_is);
        active = grind (arith, common_steps, k.active, w);
        ahead = grind (arith, common_steps, k.ahead, w);
        sound = sound_other f known refl k.sound;
        held = record {
          notarizations = λ v. grind (arith, common_steps, k.held.notarizations v, option_or-none);
          nullifications = λ v. grind (arith, common_steps, k.held.nullifications v, option_or-none);
          finalizations = λ v. grind (arith, common_steps, k.held.finalizations v, option_or-none);
        };
        timely = timely_step made f known (stamp) k.timely;
        rounds = λ view. grind (arith, common_steps, k.rounds view, w, round_step f known view, rounds_are view);
        published = published_moved made f known (next_of v) _ _ refl (grind (arith, common_steps, w)) k.published k.unpublished (grind (arith, common_steps, k.progress, published_is));
        unpublished = unpublished_later made f known refl (grind (arith, common_steps, w)) k.unpublished;
        nullified = λ view. grind (arith, common_steps, k.nullified view, given_up);
        failed = λ view. grind (arith, common_steps, k.failed view, option_or-none, none);
        certified = λ view. grind (arith, common_steps, k.certified view, option_or-none, w, certified_are view, none);
        covered = λ view. grind (arith, common_steps, k.covered view, w);
        whole = λ view lies. grind (arith, common_steps, k.whole view lies);
        waiting = λ view. grind (arith, common_steps, k.waiting view, option_or-none);
        missing = λ p v kind. grind (arith, common_steps, k.missing p v kind, w);
        notarizations = λ view. grind (arith, common_steps, k.notarizations view, option_or-none, w);
        finalizations = λ view. grind (arith, common_steps, k.finalizations view, option_or-none, w);
        nullifications = λ view. grind (arith, common_steps, k.nullifications view, option_or-none, w);
        unsent_notarizations = λ view. grind (arith, common_steps, k.unsent_notarizations view, option_or-none);
        unsent_nullifications = λ view. grind (arith, common_steps, k.unsent_nullifications view, option_or-none);
        unsent_finalizations = λ view. grind (arith, common_steps, k.unsent_finalizations view, option_or-none);
      }

  pub keeps_bad : (state : State S L g h) (made : Made) (known : List Fact) (v : ℕ) (now : ℕ) (rounds' : BTreeMap ℕ RoundRecord) (failed' : Ranges)
      → Keeps state made known
      → now < 2 ^ 63
      → verdict_of known v ≡ None
      → ((q : ℕ) → (progress_of made known).pruned ≤ q → round_in rounds' q ≡ learn_round (Judged v false now) q (round_in state.rounds q))
      → ((q : ℕ) → holds failed' q ≡ (v == q || holds state.failed q))
      → Keeps (record state { rounds = rounds'; failed = failed' }) made (Judged v false now ∷ known)
  unfolding learn_progress learn_round opens ends least_active last_finalized has_nullified has_false_verdict has_true_verdict is_covered is_unjudged verdict_of notarization_of nullification_of finalization_of was_broadcast held_notarization held_nullification held_finalization unsent_notarization unsent_nullification unsent_finalization first_of greatest_of
  keeps_bad state made known v now rounds' failed' k stamp none rounds_are failed_are =
      let f = Judged v false now in
      let w = progress_step made f known in
      record {
        attest = k.attest;
        leads = k.leads;
        settings = k.settings;
        progress = grind (arith, common_steps, k.progress, w);
        active = grind (arith, common_steps, k.active, w);
        ahead = grind (arith, common_steps, k.ahead, w);
        sound = sound_other f known refl k.sound;
        held = record {
          notarizations = λ v. grind (arith, common_steps, k.held.notarizations v, option_or-none);
          nullifications = λ v. grind (arith, common_steps, k.held.nullifications v, option_or-none);
          finalizations = λ v. grind (arith, common_steps, k.held.finalizations v, option_or-none);
        };
        timely = timely_step made f known (stamp) k.timely;
        rounds = λ view. grind (arith, common_steps, k.rounds view, w, round_step f known view, rounds_are view);
        published = published_same made f known _ refl (grind (arith, common_steps, w)) k.published;
        unpublished = unpublished_later made f known refl (grind (arith, common_steps, w)) k.unpublished;
        nullified = λ view. grind (arith, common_steps, k.nullified view, w);
        failed = λ view. grind (arith, common_steps, k.failed view, option_or-none, failed_are view, none);
        certified = λ view. grind (arith, common_steps, k.certified view, option_or-none, w, none);
        covered = λ view. grind (arith, common_steps, k.covered view, w);
        whole = λ view lies. grind (arith, common_steps, k.whole view lies);
        waiting = λ view. grind (arith, common_steps, k.waiting view, option_or-none);
        missing = λ p v kind. grind (arith, common_steps, k.missing p v kind, w);
        notarizations = λ view. grind (arith, common_steps, k.notarizations view, option_or-none, w);
        finalizations = λ view. grind (arith, common_steps, k.finalizations view, option_or-none, w);
        nullifications = λ view. grind (arith, common_steps, k.nullifications view, option_or-none, w);
        unsent_notarizations = λ view. grind (arith, common_steps, k.unsent_notarizations view, option_or-none);
        unsent_nullifications = λ view. grind (arith, common_steps, k.unsent_nullifications view, option_or-none);
        unsent_finalizations = λ view. grind (arith, common_steps, k.unsent_finalizations view, option_or-none);
      }

  -- a certificate is known
  pub keeps_notarization : (state : State S L g h) (made : Made) (known : List Fact) (n : Notarization) (now : ℕ) (rounds' : BTreeMap ℕ RoundRecord) (waiting' : BTreeSet ℕ) (notarizations' : BTreeMap ℕ (Held Notarization))
      → Keeps state made known
      → now < 2 ^ 63
      → (progress_of made known).pruned ≤ view_of n.proposal
      → ((q : ℕ) → (progress_of made known).pruned ≤ q → round_in rounds' q ≡ learn_round (Added (certificates.Notarization n) now) q (round_in state.rounds q))
      → ((q : ℕ) → has waiting' q ≡ (view_of n.proposal == q || has state.waiting q))
      → ((q : ℕ) → found notarizations' q ≡ (if view_of n.proposal == q then Some (unwrap_or (found state.notarizations q) (held false n)) else found state.notarizations q))
      → Keeps (record state { rounds = rounds'; waiting = waiting'; notarizations = notarizations' }) made (Added (certificates.Notarization n) now ∷ known)
  unfolding learn_progress learn_round opens ends least_active last_finalized has_nullified has_false_verdict has_true_verdict is_covered is_unjudged verdict_of notarization_of nullification_of finalization_of was_broadcast held_notarization held_nullification held_finalization unsent_notarization unsent_nullification unsent_finalization first_of greatest_of
  keeps_notarization state made known n now rounds' waiting' notarizations' k stamp active rounds_are waiting_are held_are =
      let f = Added (certificates.Notarization n) now in
      let w = progress_step made f known in
      record {
        attest = k.attest;
        leads = k.leads;
        settings = k.settings;
        progress = grind (arith, common_steps, k.progress, w);
        active = grind (arith, common_steps, k.active, w);
        ahead = grind (arith, common_steps, k.ahead, w);
        sound = sound_other f known refl k.sound;
        held = record {
          notarizations = λ v. grind (arith, common_steps, k.held.notarizations v, option_or-none);
          nullifications = λ v. grind (arith, common_steps, k.held.nullifications v, option_or-none);
          finalizations = λ v. grind (arith, common_steps, k.held.finalizations v, option_or-none);
        };
        timely = timely_step made f known (stamp) k.timely;
        rounds = λ view. grind (arith, common_steps, k.rounds view, w, round_step f known view, rounds_are view);
        published = published_same made f known _ refl (grind (arith, common_steps, w)) k.published;
        unpublished = unpublished_later made f known refl (grind (arith, common_steps, w)) k.unpublished;
        nullified = λ view. grind (arith, common_steps, k.nullified view, w);
        failed = λ view. grind (arith, common_steps, k.failed view, option_or-none);
        certified = λ view. grind (arith, common_steps, k.certified view, option_or-none, w);
        covered = λ view. grind (arith, common_steps, k.covered view, w);
        whole = λ view lies. grind (arith, common_steps, k.whole view lies);
        waiting = λ view. grind (arith, common_steps, k.waiting view, option_or-none, waiting_are view);
        missing = λ p v kind. grind (arith, common_steps, k.missing p v kind, w);
        notarizations = λ view. grind (arith, common_steps, k.notarizations view, option_or-none, w, held_are view, k.held.notarizations view);
        finalizations = λ view. grind (arith, common_steps, k.finalizations view, option_or-none, w);
        nullifications = λ view. grind (arith, common_steps, k.nullifications view, option_or-none, w);
        unsent_notarizations = λ view. grind (arith, common_steps, k.unsent_notarizations view, option_or-none, held_are view, k.held.notarizations view, k.notarizations view, active);
        unsent_nullifications = λ view. grind (arith, common_steps, k.unsent_nullifications view, option_or-none);
        unsent_finalizations = λ view. grind (arith, common_steps, k.unsent_finalizations view, option_or-none);
      }

  pub keeps_nullification : (state : State S L g h) (made : Made) (known : List Fact) (n : Nullification) (now : ℕ) (progress' : Progress) (published' : Option ℕ) (covered' : BTreeMap ℕ ℕ) (whole' : Ranges) (nullifications' : BTreeMap ℕ (Held Nullification))
      → Keeps state made known
      → state.gave_up ≡ false
      → now < 2 ^ 63
      → (progress_of made known).pruned ≤ n.round.view
      → progress' ≡ opens made.term_length (next_term_start made.term_length n.round.view) now state.progress
      → published' ≡ (if nat_lt state.progress.current (next_term_start made.term_length n.round.view) then None else state.published)
      → ((q : ℕ) → covered_in made.term_length covered' q ≡ (covers made.term_length n.round.view q || covered_in made.term_length state.covered q))
      → ((q : ℕ) → holds whole' (term_index made.term_length q) ≡ true → (covers made.term_length n.round.view q || holds state.whole (term_index made.term_length q)) ≡ true)
      → ((q : ℕ) → found nullifications' q ≡ (if n.round.view == q then Some (unwrap_or (found state.nullifications q) (held false n)) else found state.nullifications q))
      → Keeps (record state { progress = progress'; published = published'; covered = covered'; whole = whole'; nullifications = nullifications' }) made (Added (certificates.Nullification n) now ∷ known)
  unfolding learn_progress learn_round opens ends least_active last_finalized has_nullified has_false_verdict has_true_verdict is_covered is_unjudged verdict_of notarization_of nullification_of finalization_of was_broadcast held_notarization held_nullification held_finalization unsent_notarization unsent_nullification unsent_finalization first_of greatest_of
  keeps_nullification state made known n now progress' published' covered' whole' nullifications' k given_up stamp active progress_is published_is covered_are whole_are held_are =
      let f = Added (certificates.Nullification n) now in
      let w = progress_step made f known in
      record {
        attest = k.attest;
        leads = k.leads;
        settings = k.settings;
        progress = grind (arith, common_steps, k.progress, w, progress_is);
        active = grind (arith, common_steps, k.active, w);
        ahead = grind (arith, common_steps, k.ahead, w);
        sound = sound_other f known refl k.sound;
        held = record {
          notarizations = λ v. grind (arith, common_steps, k.held.notarizations v, option_or-none);
          nullifications = λ v. grind (arith, common_steps, k.held.nullifications v, option_or-none);
          finalizations = λ v. grind (arith, common_steps, k.held.finalizations v, option_or-none);
        };
        timely = timely_step made f known (stamp) k.timely;
        rounds = λ view. grind (arith, common_steps, k.rounds view, w, round_step f known view);
        published = published_moved made f known (next_term_start made.term_length n.round.view) _ _ refl (grind (arith, common_steps, w)) k.published k.unpublished (grind (arith, common_steps, k.progress, published_is));
        unpublished = unpublished_later made f known refl (grind (arith, common_steps, w)) k.unpublished;
        nullified = λ view. grind (arith, common_steps, k.nullified view, given_up);
        failed = λ view. grind (arith, common_steps, k.failed view, option_or-none);
        certified = λ view. grind (arith, common_steps, k.certified view, option_or-none, w);
        covered = λ view. grind (arith, common_steps, k.covered view, w, covered_are view);
        whole = λ view lies. grind (arith, common_steps, k.whole view, whole_are view lies);
        waiting = λ view. grind (arith, common_steps, k.waiting view, option_or-none);
        missing = λ p v kind. grind (arith, common_steps, k.missing p v kind, w);
        notarizations = λ view. grind (arith, common_steps, k.notarizations view, option_or-none, w);
        finalizations = λ view. grind (arith, common_steps, k.finalizations view, option_or-none, w);
        nullifications = λ view. grind (arith, common_steps, k.nullifications view, option_or-none, w, held_are view, k.held.nullifications view, active);
        unsent_notarizations = λ view. grind (arith, common_steps, k.unsent_notarizations view, option_or-none);
        unsent_nullifications = λ view. grind (arith, common_steps, k.unsent_nullifications view, option_or-none, held_are view, k.held.nullifications view, k.nullifications view, active);
        unsent_finalizations = λ view. grind (arith, common_steps, k.unsent_finalizations view, option_or-none);
      }

  pub keeps_finalization : (state : State S L g h) (made : Made) (known : List Fact) (n : Finalization) (now : ℕ) (progress' : Progress) (published' : Option ℕ) (rounds' : BTreeMap ℕ RoundRecord) (finalizations' : BTreeMap ℕ (Held Finalization))
      → Keeps state made known
      → state.gave_up ≡ false
      → now < 2 ^ 63
      → (progress_of made known).pruned ≤ view_of n.proposal
      → progress' ≡ ends made.term_length (view_of n.proposal) now state.progress
      → published' ≡ (if nat_lt state.progress.current (next_of (view_of n.proposal)) then None else state.published)
      → ((q : ℕ) → (progress_of made known).pruned ≤ q → round_in rounds' q ≡ learn_round (Added (certificates.Finalization n) now) q (round_in state.rounds q))
      → ((q : ℕ) → found finalizations' q ≡ (if view_of n.proposal == q then Some (unwrap_or (found state.finalizations q) (held false n)) else found state.finalizations q))
      → Keeps (record state { progress = progress'; published = published'; rounds = rounds'; finalizations = finalizations' }) made (Added (certificates.Finalization n) now ∷ known)
  unfolding learn_progress learn_round opens ends least_active last_finalized has_nullified has_false_verdict has_true_verdict is_covered is_unjudged verdict_of notarization_of nullification_of finalization_of was_broadcast held_notarization held_nullification held_finalization unsent_notarization unsent_nullification unsent_finalization first_of greatest_of
  keeps_finalization state made known n now progress' published' rounds' finalizations' k given_up stamp active progress_is published_is rounds_are held_are =
      let f = Added (certificates.Finalization n) now in
      let w = progress_step made f known in
      record {
        attest = k.attest;
        leads = k.leads;
        settings = k.settings;
        progress = grind (arith, common_steps, k.progress, w, progress_is);
        active = grind (arith, common_steps, k.active, w);
        ahead = grind (arith, common_steps, k.ahead, w);
        sound = sound_other f known refl k.sound;
        held = record {
          notarizations = λ v. grind (arith, common_steps, k.held.notarizations v, option_or-none);
          nullifications = λ v. grind (arith, common_steps, k.held.nullifications v, option_or-none);
          finalizations = λ v. grind (arith, common_steps, k.held.finalizations v, option_or-none);
        };
        timely = timely_step made f known (stamp) k.timely;
        rounds = λ view. grind (arith, common_steps, k.rounds view, w, round_step f known view, rounds_are view);
        published = published_moved made f known (next_of (view_of n.proposal)) _ _ refl (grind (arith, common_steps, w)) k.published k.unpublished (grind (arith, common_steps, k.progress, published_is));
        unpublished = unpublished_later made f known refl (grind (arith, common_steps, w)) k.unpublished;
        nullified = λ view. grind (arith, common_steps, k.nullified view, given_up);
        failed = λ view. grind (arith, common_steps, k.failed view, option_or-none);
        certified = λ view. grind (arith, common_steps, k.certified view, option_or-none, w);
        covered = λ view. grind (arith, common_steps, k.covered view, w);
        whole = λ view lies. grind (arith, common_steps, k.whole view lies);
        waiting = λ view. grind (arith, common_steps, k.waiting view, option_or-none);
        missing = λ p v kind. grind (arith, common_steps, k.missing p v kind, w);
        notarizations = λ view. grind (arith, common_steps, k.notarizations view, option_or-none, w);
        finalizations = λ view. grind (arith, common_steps, k.finalizations view, option_or-none, w, held_are view, k.held.finalizations view);
        nullifications = λ view. grind (arith, common_steps, k.nullifications view, option_or-none, w);
        unsent_notarizations = λ view. grind (arith, common_steps, k.unsent_notarizations view, option_or-none);
        unsent_nullifications = λ view. grind (arith, common_steps, k.unsent_nullifications view, option_or-none);
        unsent_finalizations = λ view. grind (arith, common_steps, k.unsent_finalizations view, option_or-none, held_are view, k.held.finalizations view, k.finalizations view, active);
      }

  -- a certificate counts as sent
  pub keeps_sent_notarization : (state : State S L g h) (made : Made) (known : List Fact) (v : ℕ) (notarizations' : BTreeMap ℕ (Held Notarization))
      → Keeps state made known
      → is_some (notarization_of known v) ≡ true
      → ((q : ℕ) → found notarizations' q ≡ (if v == q then option_map (λ h. held true h.certificate) (found state.notarizations q) else found state.notarizations q))
      → Keeps (record state { notarizations = notarizations' }) made (Broadcast kinds.Notarization v ∷ known)
  unfolding learn_progress learn_round opens ends least_active last_finalized has_nullified has_false_verdict has_true_verdict is_covered is_unjudged verdict_of notarization_of nullification_of finalization_of was_broadcast held_notarization held_nullification held_finalization unsent_notarization unsent_nullification unsent_finalization first_of greatest_of
  keeps_sent_notarization state made known v notarizations' k some held_are =
      let f = Broadcast kinds.Notarization v in
      let w = progress_step made f known in
      record {
        attest = k.attest;
        leads = k.leads;
        settings = k.settings;
        progress = grind (arith, common_steps, k.progress, w);
        active = grind (arith, common_steps, k.active, w);
        ahead = grind (arith, common_steps, k.ahead, w);
        sound = sound_other f known refl k.sound;
        held = record {
          notarizations = λ u. grind (arith, common_steps, k.held.notarizations u, some, option_or-none);
          nullifications = λ u. grind (arith, common_steps, k.held.nullifications u, some, option_or-none);
          finalizations = λ u. grind (arith, common_steps, k.held.finalizations u, some, option_or-none);
        };
        timely = timely_step made f known (omega arith) k.timely;
        rounds = λ view. grind (arith, common_steps, k.rounds view, w, round_step f known view);
        published = published_same made f known _ refl (grind (arith, common_steps, w)) k.published;
        unpublished = unpublished_later made f known refl (grind (arith, common_steps, w)) k.unpublished;
        nullified = λ view. grind (arith, common_steps, k.nullified view, w);
        failed = λ view. grind (arith, common_steps, k.failed view, option_or-none);
        certified = λ view. grind (arith, common_steps, k.certified view, option_or-none, w);
        covered = λ view. grind (arith, common_steps, k.covered view, w);
        whole = λ view lies. grind (arith, common_steps, k.whole view lies);
        waiting = λ view. grind (arith, common_steps, k.waiting view, option_or-none);
        missing = λ p v kind. grind (arith, common_steps, k.missing p v kind, w);
        notarizations = λ view. grind (arith, common_steps, k.notarizations view, option_or-none, w, held_are view);
        finalizations = λ view. grind (arith, common_steps, k.finalizations view, option_or-none, w);
        nullifications = λ view. grind (arith, common_steps, k.nullifications view, option_or-none, w);
        unsent_notarizations = λ view. grind (arith, common_steps, k.unsent_notarizations view, option_or-none, held_are view);
        unsent_nullifications = λ view. grind (arith, common_steps, k.unsent_nullifications view, option_or-none);
        unsent_finalizations = λ view. grind (arith, common_steps, k.unsent_finalizations view, option_or-none);
      }

  -- a certificate counts as sent
  pub keeps_sent_nullification : (state : State S L g h) (made : Made) (known : List Fact) (v : ℕ) (nullifications' : BTreeMap ℕ (Held Nullification))
      → Keeps state made known
      → is_some (nullification_of known v) ≡ true
      → ((q : ℕ) → found nullifications' q ≡ (if v == q then option_map (λ h. held true h.certificate) (found state.nullifications q) else found state.nullifications q))
      → Keeps (record state { nullifications = nullifications' }) made (Broadcast kinds.Nullification v ∷ known)
  unfolding learn_progress learn_round opens ends least_active last_finalized has_nullified has_false_verdict has_true_verdict is_covered is_unjudged verdict_of notarization_of nullification_of finalization_of was_broadcast held_notarization held_nullification held_finalization unsent_notarization unsent_nullification unsent_finalization first_of greatest_of
  keeps_sent_nullification state made known v nullifications' k some held_are =
      let f = Broadcast kinds.Nullification v in
      let w = progress_step made f known in
      record {
        attest = k.attest;
        leads = k.leads;
        settings = k.settings;
        progress = grind (arith, common_steps, k.progress, w);
        active = grind (arith, common_steps, k.active, w);
        ahead = grind (arith, common_steps, k.ahead, w);
        sound = sound_other f known refl k.sound;
        held = record {
          notarizations = λ u. grind (arith, common_steps, k.held.notarizations u, some, option_or-none);
          nullifications = λ u. grind (arith, common_steps, k.held.nullifications u, some, option_or-none);
          finalizations = λ u. grind (arith, common_steps, k.held.finalizations u, some, option_or-none);
        };
        timely = timely_step made f known (omega arith) k.timely;
        rounds = λ view. grind (arith, common_steps, k.rounds view, w, round_step f known view);
        published = published_same made f known _ refl (grind (arith, common_steps, w)) k.published;
        unpublished = unpublished_later made f known refl (grind (arith, common_steps, w)) k.unpublished;
        nullified = λ view. grind (arith, common_steps, k.nullified view, w);
        failed = λ view. grind (arith, common_steps, k.failed view, option_or-none);
        certified = λ view. grind (arith, common_steps, k.certified view, option_or-none, w);
        covered = λ view. grind (arith, common_steps, k.covered view, w);
        whole = λ view lies. grind (arith, common_steps, k.whole view lies);
        waiting = λ view. grind (arith, common_steps, k.waiting view, option_or-none);
        missing = λ p v kind. grind (arith, common_steps, k.missing p v kind, w);
        notarizations = λ view. grind (arith, common_steps, k.notarizations view, option_or-none, w);
        finalizations = λ view. grind (arith, common_steps, k.finalizations view, option_or-none, w);
        nullifications = λ view. grind (arith, common_steps, k.nullifications view, option_or-none, w, held_are view);
        unsent_notarizations = λ view. grind (arith, common_steps, k.unsent_notarizations view, option_or-none);
        unsent_nullifications = λ view. grind (arith, common_steps, k.unsent_nullifications view, option_or-none, held_are view);
        unsent_finalizations = λ view. grind (arith, common_steps, k.unsent_finalizations view, option_or-none);
      }

  -- a certificate counts as sent
  pub keeps_sent_finalization : (state : State S L g h) (made : Made) (known : List Fact) (v : ℕ) (finalizations' : BTreeMap ℕ (Held Finalization))
      → Keeps state made known
      → is_some (finalization_of known v) ≡ true
      → ((q : ℕ) → found finalizations' q ≡ (if v == q then option_map (λ h. held true h.certificate) (found state.finalizations q) else found state.finalizations q))
      → Keeps (record state { finalizations = finalizations' }) made (Broadcast kinds.Finalization v ∷ known)
  unfolding learn_progress learn_round opens ends least_active last_finalized has_nullified has_false_verdict has_true_verdict is_covered is_unjudged verdict_of notarization_of nullification_of finalization_of was_broadcast held_notarization held_nullification held_finalization unsent_notarization unsent_nullification unsent_finalization first_of greatest_of
  keeps_sent_finalization state made known v finalizations' k some held_are =
      let f = Broadcast kinds.Finalization v in
      let w = progress_step made f known in
      record {
        attest = k.attest;
        leads = k.leads;
        settings = k.settings;
        progress = grind (arith, common_steps, k.progress, w);
        active = grind (arith, common_steps, k.active, w);
        ahead = grind (arith, common_steps, k.ahead, w);
        sound = sound_other f known refl k.sound;
        held = record {
          notarizations = λ u. grind (arith, common_steps, k.held.notarizations u, some, option_or-none);
          nullifications = λ u. grind (arith, common_steps, k.held.nullifications u, some, option_or-none);
          finalizations = λ u. grind (arith, common_steps, k.held.finalizations u, some, option_or-none);
        };
        timely = timely_step made f known (omega arith) k.timely;
        rounds = λ view. grind (arith, common_steps, k.rounds view, w, round_step f known view);
        published = published_same made f known _ refl (grind (arith, common_steps, w)) k.published;
        unpublished = unpublished_later made f known refl (grind (arith, common_steps, w)) k.unpublished;
        nullified = λ view. grind (arith, common_steps, k.nullified view, w);
        failed = λ view. grind (arith, common_steps, k.failed view, option_or-none);
        certified = λ view. grind (arith, common_steps, k.certified view, option_or-none, w);
        covered = λ view. grind (arith, common_steps, k.covered view, w);
        whole = λ view lies. grind (arith, common_steps, k.whole view lies);
        waiting = λ view. grind (arith, common_steps, k.waiting view, option_or-none);
        missing = λ p v kind. grind (arith, common_steps, k.missing p v kind, w);
        notarizations = λ view. grind (arith, common_steps, k.notarizations view, option_or-none, w);
        finalizations = λ view. grind (arith, common_steps, k.finalizations view, option_or-none, w, held_are view);
        nullifications = λ view. grind (arith, common_steps, k.nullifications view, option_or-none, w);
        unsent_notarizations = λ view. grind (arith, common_steps, k.unsent_notarizations view, option_or-none);
        unsent_nullifications = λ view. grind (arith, common_steps, k.unsent_nullifications view, option_or-none);
        unsent_finalizations = λ view. grind (arith, common_steps, k.unsent_finalizations view, option_or-none, held_are view);
      }

  -- what is missing below a proposal was asked for
  pub keeps_missing : (state : State S L g h) (made : Made) (known : List Fact) (p v : ℕ) (kind : Kind) (missing' : Missing)
      → Keeps state made known
      → ((q u : ℕ) (other : Kind) → is_asked missing' q u other ≡ ((p == q && v == u && is_kind kind other) || is_asked state.missing q u other))
      → Keeps (record state { missing = missing' }) made (MissingAsked p v kind ∷ known)
  unfolding learn_progress learn_round opens ends least_active last_finalized has_nullified has_false_verdict has_true_verdict is_covered is_unjudged verdict_of notarization_of nullification_of finalization_of was_broadcast held_notarization held_nullification held_finalization unsent_notarization unsent_nullification unsent_finalization first_of greatest_of
  keeps_missing state made known p v kind missing' k missing_are =
      let f = MissingAsked p v kind in
      let w = progress_step made f known in
      record {
        attest = k.attest;
        leads = k.leads;
        settings = k.settings;
        progress = grind (arith, common_steps, k.progress, w);
        active = grind (arith, common_steps, k.active, w);
        ahead = grind (arith, common_steps, k.ahead, w);
        sound = sound_other f known refl k.sound;
        held = record {
          notarizations = λ u. grind (arith, common_steps, k.held.notarizations u, option_or-none);
          nullifications = λ u. grind (arith, common_steps, k.held.nullifications u, option_or-none);
          finalizations = λ u. grind (arith, common_steps, k.held.finalizations u, option_or-none);
        };
        timely = timely_step made f known (omega arith) k.timely;
        rounds = λ view. grind (arith, common_steps, k.rounds view, w, round_step f known view);
        published = published_same made f known _ refl (grind (arith, common_steps, w)) k.published;
        unpublished = unpublished_later made f known refl (grind (arith, common_steps, w)) k.unpublished;
        nullified = λ view. grind (arith, common_steps, k.nullified view, w);
        failed = λ view. grind (arith, common_steps, k.failed view, option_or-none);
        certified = λ view. grind (arith, common_steps, k.certified view, option_or-none, w);
        covered = λ view. grind (arith, common_steps, k.covered view, w);
        whole = λ view lies. grind (arith, common_steps, k.whole view lies);
        waiting = λ view. grind (arith, common_steps, k.waiting view, option_or-none);
        missing = λ q u other. grind (arith, common_steps, k.missing q u other, w, missing_are q u other);
        notarizations = λ view. grind (arith, common_steps, k.notarizations view, option_or-none, w);
        finalizations = λ view. grind (arith, common_steps, k.finalizations view, option_or-none, w);
        nullifications = λ view. grind (arith, common_steps, k.nullifications view, option_or-none, w);
        unsent_notarizations = λ view. grind (arith, common_steps, k.unsent_notarizations view, option_or-none);
        unsent_nullifications = λ view. grind (arith, common_steps, k.unsent_nullifications view, option_or-none);
        unsent_finalizations = λ view. grind (arith, common_steps, k.unsent_finalizations view, option_or-none);
      }
