-- What a state keeps behind a certificate that is known again and need not be sent, also of a view that was forgotten.
use Rattle.std.proofs.Common.{◌≡◌, ℕ, ◌<◌, ◌≤◌, ◌^◌, ◌==◌, ◌||◌, nat_lt, true, false, List, ◌∷◌, Option, Some, None, refl, sym, ◌∙◌, arith, if◌then◌else◌}
use Rattle.std.proofs.lemmas.Grind.{common_steps}
use Rattle.std.specs.Prelude.{unwrap_or}
use Rattle.std.specs.BTreeMap.{BTreeMap}
use Rattle.std.specs.Option.{option_map}
use Rattle.simplex_wire.specs.declared.certificate.Notarization.{Notarization}
use Rattle.simplex_wire.specs.declared.certificate.Nullification.{Nullification}
use Rattle.simplex_wire.specs.declared.certificate.Finalization.{Finalization}
use Rattle.simplex_wire.specs.declared.certificate.Certificate.TheVariants as certificates
use Rattle.simplex_wire.specs.declared.certificate.CertificateKind.TheVariants as kinds
use Rattle.simplex_values.specs.Terms.{next_of, term_index, next_term_start}
use Rattle.simplex_values.specs.Covers.{covers}
use Rattle.simplex_values.specs.Maps.{found}
use Rattle.model_rules.specs.Lists.{first_of, greatest_of}
use Rattle.model_rules.specs.Known.{Made, Fact, Added, Broadcast, view_of, notarization_of, nullification_of, finalization_of, was_broadcast, verdict_of, has_nullified}
use Rattle.model_rules.specs.Views.{least_active, last_finalized}
use Rattle.model_rules.specs.Ancestry.{is_covered, has_true_verdict, has_false_verdict}
use Rattle.model_rules.specs.Requests.{is_unjudged}
use Rattle.model_rules.specs.Calls.{unsent_notarization, unsent_nullification, unsent_finalization}
use Rattle.simplex_wire.specs.declared.scheme.Scheme as scheme
use Rattle.simplex_types.specs.declared.elector.Elector as elector
use Rattle.simplex_state.specs.declared.held.Held.{Held}
use Rattle.simplex_state.specs.declared.progress.Progress.{Progress}
use Rattle.simplex_state.specs.declared.ranges.Ranges.{Ranges}
use Rattle.simplex_state.specs.Ranges.{holds}
use Rattle.simplex_state.specs.declared.state.State.{State}
use Rattle.simplex_state.specs.Rounds.{learn_round}
use Rattle.simplex_state.specs.Progress.{progress_of, learn_progress, opens, ends}
use Rattle.simplex_state.specs.Certificates.{held, certificate_in, held_notarization, held_nullification, held_finalization}
use Rattle.simplex_state.specs.Stands.{Keeps, covered_in}
use Rattle.simplex_state.proofs.Facts.{round_step, progress_step, option_or-none}
use Rattle.simplex_state.proofs.Publishing.{published_same, published_moved, unpublished_later}
use Rattle.simplex_state.proofs.Sound.{sound_other, timely_step}

-- a view that was forgotten is not later than the last final one
past_final : (made : Made) (known : List Fact) (view : ℕ) → (progress_of made known).pruned ≤ least_active made known → view < (progress_of made known).pruned
    → view ≤ last_finalized known
unfolding least_active
past_final made known view active past = omega (arith, active, past)

-- its finalization moves nobody
still_ended : (made : Made) (known : List Fact) (view now : ℕ) → (progress_of made known).pruned ≤ least_active made known
    → (progress_of made known).pruned ≤ (progress_of made known).current → view < (progress_of made known).pruned
    → ends made.term_length view now (progress_of made known) ≡ progress_of made known
unfolding ends opens next_of least_active progress_of
still_ended made known view now active ahead past = grind (arith, common_steps, active, ahead, past)

module _ {S L : Type 0} {g : scheme.Ghosts S} {h : elector.Ghosts L} where
  pub keeps_past_notarization : (state : State S L g h) (made : Made) (known : List Fact) (n : Notarization) (now : ℕ) (notarizations' : BTreeMap ℕ (Held Notarization))
      → Keeps state made known
      → now < 2 ^ 63
      → view_of n.proposal < (progress_of made known).pruned
      → ((q : ℕ) → found notarizations' q ≡ (if view_of n.proposal == q then option_map (λ h. held true h.certificate) (found state.notarizations q) else found state.notarizations q))
      → Keeps (record state { notarizations = notarizations' }) made (Broadcast kinds.Notarization (view_of n.proposal) ∷ Added (certificates.Notarization n) now ∷ known)
  unfolding learn_progress learn_round least_active last_finalized has_nullified has_false_verdict has_true_verdict is_covered is_unjudged verdict_of notarization_of nullification_of finalization_of was_broadcast held_notarization held_nullification held_finalization unsent_notarization unsent_nullification unsent_finalization first_of greatest_of
  keeps_past_notarization state made known n now notarizations' k stamp past held_are =
      let f = Added (certificates.Notarization n) now in
      let g = Broadcast kinds.Notarization (view_of n.proposal) in
      let w = progress_step made g (f ∷ known) ∙ progress_step made f known in
      let late = past_final made known (view_of n.proposal) k.active past in
      record {
        attest = k.attest;
        leads = k.leads;
        settings = k.settings;
        progress = k.progress ∙ sym w;
        active = grind (arith, common_steps, k.active, w);
        ahead = grind (arith, common_steps, k.ahead, w);
        sound = sound_other g (f ∷ known) refl (sound_other f known refl k.sound);
        held = record {
          notarizations = λ u. grind (arith, common_steps, k.held.notarizations u, option_or-none);
          nullifications = λ u. grind (arith, common_steps, k.held.nullifications u, option_or-none);
          finalizations = λ u. grind (arith, common_steps, k.held.finalizations u, option_or-none);
        };
        timely = timely_step made g (f ∷ known) (omega arith) (timely_step made f known stamp k.timely);
        rounds = λ view. grind (arith, common_steps, k.rounds view, w, past, round_step g (f ∷ known) view, round_step f known view);
        published = published_same made g (f ∷ known) _ refl (grind (arith, common_steps, progress_step made g (f ∷ known))) (published_same made f known _ refl (grind (arith, common_steps, progress_step made f known)) k.published);
        unpublished = unpublished_later made g (f ∷ known) refl (grind (arith, common_steps, progress_step made g (f ∷ known))) (unpublished_later made f known refl (grind (arith, common_steps, progress_step made f known)) k.unpublished);
        nullified = λ view. grind (arith, common_steps, k.nullified view, w);
        failed = λ view. grind (arith, common_steps, k.failed view, option_or-none);
        certified = λ view. grind (arith, common_steps, k.certified view, option_or-none, w);
        covered = λ view. grind (arith, common_steps, k.covered view, w);
        whole = λ view lies. grind (arith, common_steps, k.whole view lies);
        waiting = λ view. grind (arith, common_steps, k.waiting view, option_or-none, late);
        missing = λ p v kind. grind (arith, common_steps, k.missing p v kind, w);
        notarizations = λ view. grind (arith, common_steps, k.notarizations view, option_or-none, w, past, held_are view);
        finalizations = λ view. grind (arith, common_steps, k.finalizations view, option_or-none, w);
        nullifications = λ view. grind (arith, common_steps, k.nullifications view, option_or-none, w);
        unsent_notarizations = λ view. grind (arith, common_steps, k.unsent_notarizations view, option_or-none, held_are view);
        unsent_nullifications = λ view. grind (arith, common_steps, k.unsent_nullifications view, option_or-none);
        unsent_finalizations = λ view. grind (arith, common_steps, k.unsent_finalizations view, option_or-none);
      }

  pub keeps_past_finalization : (state : State S L g h) (made : Made) (known : List Fact) (n : Finalization) (now : ℕ) (finalizations' : BTreeMap ℕ (Held Finalization))
      → Keeps state made known
      → now < 2 ^ 63
      → view_of n.proposal < (progress_of made known).pruned
      → ((q : ℕ) → found finalizations' q ≡ (if view_of n.proposal == q then option_map (λ h. held true h.certificate) (found state.finalizations q) else found state.finalizations q))
      → Keeps (record state { finalizations = finalizations' }) made (Broadcast kinds.Finalization (view_of n.proposal) ∷ Added (certificates.Finalization n) now ∷ known)
  unfolding learn_progress learn_round least_active last_finalized has_nullified has_false_verdict has_true_verdict is_covered is_unjudged verdict_of notarization_of nullification_of finalization_of was_broadcast held_notarization held_nullification held_finalization unsent_notarization unsent_nullification unsent_finalization first_of greatest_of
  keeps_past_finalization state made known n now finalizations' k stamp past held_are =
      let f = Added (certificates.Finalization n) now in
      let g = Broadcast kinds.Finalization (view_of n.proposal) in
      let late = past_final made known (view_of n.proposal) k.active past in
      let w = progress_step made g (f ∷ known) ∙ (progress_step made f known ∙ still_ended made known (view_of n.proposal) now k.active k.ahead past) in
      record {
        attest = k.attest;
        leads = k.leads;
        settings = k.settings;
        progress = k.progress ∙ sym w;
        active = grind (arith, common_steps, k.active, w, late);
        ahead = grind (arith, common_steps, k.ahead, w);
        sound = sound_other g (f ∷ known) refl (sound_other f known refl k.sound);
        held = record {
          notarizations = λ u. grind (arith, common_steps, k.held.notarizations u, option_or-none);
          nullifications = λ u. grind (arith, common_steps, k.held.nullifications u, option_or-none);
          finalizations = λ u. grind (arith, common_steps, k.held.finalizations u, option_or-none);
        };
        timely = timely_step made g (f ∷ known) (omega arith) (timely_step made f known stamp k.timely);
        rounds = λ view. grind (arith, common_steps, k.rounds view, w, past, round_step g (f ∷ known) view, round_step f known view);
        published = published_same made g (f ∷ known) _ refl (grind (arith, common_steps, progress_step made g (f ∷ known))) (published_same made f known _ refl (grind (arith, common_steps, progress_step made f known, still_ended made known (view_of n.proposal) now k.active k.ahead past)) k.published);
        unpublished = unpublished_later made g (f ∷ known) refl (grind (arith, common_steps, progress_step made g (f ∷ known))) (unpublished_later made f known refl (grind (arith, common_steps, progress_step made f known, still_ended made known (view_of n.proposal) now k.active k.ahead past)) k.unpublished);
        nullified = λ view. grind (arith, common_steps, k.nullified view, w);
        failed = λ view. grind (arith, common_steps, k.failed view, option_or-none);
        certified = λ view. grind (arith, common_steps, k.certified view, option_or-none, w);
        covered = λ view. grind (arith, common_steps, k.covered view, w);
        whole = λ view lies. grind (arith, common_steps, k.whole view lies);
        waiting = λ view. grind (arith, common_steps, k.waiting view, option_or-none, late);
        missing = λ p v kind. grind (arith, common_steps, k.missing p v kind, w);
        notarizations = λ view. grind (arith, common_steps, k.notarizations view, option_or-none, w);
        finalizations = λ view. grind (arith, common_steps, k.finalizations view, option_or-none, w, past, held_are view);
        nullifications = λ view. grind (arith, common_steps, k.nullifications view, option_or-none, w);
        unsent_notarizations = λ view. grind (arith, common_steps, k.unsent_notarizations view, option_or-none);
        unsent_nullifications = λ view. grind (arith, common_steps, k.unsent_nullifications view, option_or-none);
        unsent_finalizations = λ view. grind (arith, common_steps, k.unsent_finalizations view, option_or-none, held_are view);
      }

  pub keeps_kept_nullification : (state : State S L g h) (made : Made) (known : List Fact) (n : Nullification) (now : ℕ) (progress' : Progress) (published' : Option ℕ) (covered' : BTreeMap ℕ ℕ) (whole' : Ranges) (nullifications' : BTreeMap ℕ (Held Nullification))
      → Keeps state made known
      → state.gave_up ≡ false
      → now < 2 ^ 63
      → progress' ≡ opens made.term_length (next_term_start made.term_length n.round.view) now state.progress
      → published' ≡ (if nat_lt state.progress.current (next_term_start made.term_length n.round.view) then None else state.published)
      → ((q : ℕ) → covered_in made.term_length covered' q ≡ (covers made.term_length n.round.view q || covered_in made.term_length state.covered q))
      → ((q : ℕ) → holds whole' (term_index made.term_length q) ≡ true → (covers made.term_length n.round.view q || holds state.whole (term_index made.term_length q)) ≡ true)
      → ((q : ℕ) → found nullifications' q ≡ (if n.round.view == q then Some (held true (unwrap_or (certificate_in (found state.nullifications q)) n)) else found state.nullifications q))
      → Keeps (record state { progress = progress'; published = published'; covered = covered'; whole = whole'; nullifications = nullifications' }) made (Broadcast kinds.Nullification n.round.view ∷ Added (certificates.Nullification n) now ∷ known)
  unfolding learn_progress learn_round opens ends least_active last_finalized has_nullified has_false_verdict has_true_verdict is_covered is_unjudged verdict_of notarization_of nullification_of finalization_of was_broadcast held_notarization held_nullification held_finalization unsent_notarization unsent_nullification unsent_finalization first_of greatest_of
  keeps_kept_nullification state made known n now progress' published' covered' whole' nullifications' k given_up stamp progress_is published_is covered_are whole_are held_are =
      let f = Added (certificates.Nullification n) now in
      let g = Broadcast kinds.Nullification n.round.view in
      let w = progress_step made g (f ∷ known) ∙ progress_step made f known in
      let published_now = published_moved made f known (next_term_start made.term_length n.round.view) state.published published' refl (grind (arith, common_steps, progress_step made f known)) k.published k.unpublished (grind (arith, common_steps, k.progress, published_is)) in
      record {
        attest = k.attest;
        leads = k.leads;
        settings = k.settings;
        progress = grind (arith, common_steps, k.progress, w, progress_is);
        active = grind (arith, common_steps, k.active, w);
        ahead = grind (arith, common_steps, k.ahead, w);
        sound = sound_other g (f ∷ known) refl (sound_other f known refl k.sound);
        held = record {
          notarizations = λ u. grind (arith, common_steps, k.held.notarizations u, option_or-none);
          nullifications = λ u. grind (arith, common_steps, k.held.nullifications u, option_or-none);
          finalizations = λ u. grind (arith, common_steps, k.held.finalizations u, option_or-none);
        };
        timely = timely_step made g (f ∷ known) (omega arith) (timely_step made f known stamp k.timely);
        rounds = λ view. grind (arith, common_steps, k.rounds view, w, round_step g (f ∷ known) view, round_step f known view);
        published = published_same made g (f ∷ known) _ refl (grind (arith, common_steps, progress_step made g (f ∷ known))) published_now;
        unpublished = unpublished_later made g (f ∷ known) refl (grind (arith, common_steps, progress_step made g (f ∷ known))) (unpublished_later made f known refl (grind (arith, common_steps, progress_step made f known)) k.unpublished);
        nullified = λ view. grind (arith, common_steps, k.nullified view, given_up);
        failed = λ view. grind (arith, common_steps, k.failed view, option_or-none);
        certified = λ view. grind (arith, common_steps, k.certified view, option_or-none, w);
        covered = λ view. grind (arith, common_steps, k.covered view, w, covered_are view);
        whole = λ view lies. grind (arith, common_steps, k.whole view, whole_are view lies);
        waiting = λ view. grind (arith, common_steps, k.waiting view, option_or-none);
        missing = λ p v kind. grind (arith, common_steps, k.missing p v kind, w);
        notarizations = λ view. grind (arith, common_steps, k.notarizations view, option_or-none, w);
        finalizations = λ view. grind (arith, common_steps, k.finalizations view, option_or-none, w);
        nullifications = λ view. grind (arith, common_steps, k.nullifications view, option_or-none, w, held_are view);
        unsent_notarizations = λ view. grind (arith, common_steps, k.unsent_notarizations view, option_or-none);
        unsent_nullifications = λ view. grind (arith, common_steps, k.unsent_nullifications view, option_or-none, held_are view);
        unsent_finalizations = λ view. grind (arith, common_steps, k.unsent_finalizations view, option_or-none);
      }
