-- What a state keeps where it forgets what is no longer asked for.
use Rattle.std.proofs.Common.{◌≡◌, ℕ, ◌<◌, ◌≤◌, List, ◌∷◌, Option, refl, arith}
use Rattle.std.proofs.lemmas.Grind.{common_steps}
use Rattle.std.specs.BTreeMap.{BTreeMap}
use Rattle.std.specs.BTreeSet.{BTreeSet}
use Rattle.simplex_values.specs.declared.ask.Kind.{Kind}
use Rattle.simplex_wire.specs.declared.certificate.Notarization.{Notarization}
use Rattle.simplex_wire.specs.declared.certificate.Nullification.{Nullification}
use Rattle.simplex_wire.specs.declared.certificate.Finalization.{Finalization}
use Rattle.model_rules.specs.Lists.{first_of, greatest_of}
use Rattle.model_rules.specs.Known.{Made, Fact, Pruned, notarization_of, nullification_of, finalization_of, was_broadcast, verdict_of, has_nullified}
use Rattle.model_rules.specs.Views.{least_active, last_finalized}
use Rattle.model_rules.specs.Ancestry.{is_covered, has_true_verdict, has_false_verdict}
use Rattle.model_rules.specs.Requests.{is_unjudged}
use Rattle.model_rules.specs.Calls.{unsent_notarization, unsent_nullification, unsent_finalization}
use Rattle.simplex_wire.specs.declared.scheme.Scheme as scheme
use Rattle.simplex_types.specs.declared.elector.Elector as elector
use Rattle.simplex_state.specs.declared.rounds.RoundRecord.{RoundRecord}
use Rattle.simplex_state.specs.declared.held.Held.{Held}
use Rattle.simplex_state.specs.declared.missing.Missing.{Missing}
use Rattle.simplex_state.specs.declared.progress.Progress.{Progress}
use Rattle.simplex_state.specs.declared.state.State.{State}
use Rattle.simplex_values.specs.Terms.{next_term_start, term_index}
use Rattle.simplex_values.specs.Maps.{found, has}
use Rattle.simplex_state.specs.Missing.{is_asked}
use Rattle.simplex_state.specs.Rounds.{round_in, learn_round}
use Rattle.simplex_state.specs.Progress.{progress_of, learn_progress, opens, ends}
use Rattle.simplex_state.specs.Certificates.{unsent_in, held_notarization, held_nullification, held_finalization}
use Rattle.simplex_state.specs.Stands.{Keeps, covered_in}
use Rattle.simplex_state.proofs.Facts.{round_step, progress_step, option_or-none}
use Rattle.simplex_state.proofs.Publishing.{published_same, unpublished_later}
use Rattle.simplex_state.proofs.Gates.{term_rises}
use Rattle.simplex_state.proofs.Sound.{sound_other, timely_step}

module _ {S L : Type 0} {g : scheme.Ghosts S} {h : elector.Ghosts L} where
  pub keeps_pruned : (state : State S L g h) (made : Made) (known : List Fact) (v : ℕ) (progress' : Progress) (rounds' : BTreeMap ℕ RoundRecord) (certified' : BTreeSet ℕ) (covered' : BTreeMap ℕ ℕ) (waiting' : BTreeSet ℕ) (missing' : Missing) (notarizations' : BTreeMap ℕ (Held Notarization)) (nullifications' : BTreeMap ℕ (Held Nullification)) (finalizations' : BTreeMap ℕ (Held Finalization))
      → Keeps state made known
      → v ≡ least_active made known
      → v ≤ (progress_of made known).current
      → (progress_of made known).pruned ≤ v
      → progress' ≡ record state.progress { pruned = v }
      → ((q : ℕ) → v ≤ q → round_in rounds' q ≡ round_in state.rounds q)
      → ((q : ℕ) → v ≤ q → has certified' q ≡ has state.certified q)
      → ((q : ℕ) → v ≤ q → covered_in made.term_length covered' q ≡ covered_in made.term_length state.covered q)
      → ((q : ℕ) → v ≤ q → has waiting' q ≡ has state.waiting q)
      → ((p u : ℕ) (kind : Kind) → v ≤ p → is_asked missing' p u kind ≡ is_asked state.missing p u kind)
      → ((q : ℕ) → v ≤ q → found notarizations' q ≡ found state.notarizations q)
      → ((q : ℕ) → unsent_in (found notarizations' q) ≡ unsent_in (found state.notarizations q))
      → ((q : ℕ) → v ≤ q → found nullifications' q ≡ found state.nullifications q)
      → ((q : ℕ) → (progress_of made known).current ≤ next_term_start made.term_length q → found nullifications' q ≡ found state.nullifications q)
      → ((q : ℕ) → unsent_in (found nullifications' q) ≡ unsent_in (found state.nullifications q))
      → ((q : ℕ) → v ≤ q → found finalizations' q ≡ found state.finalizations q)
      → ((q : ℕ) → unsent_in (found finalizations' q) ≡ unsent_in (found state.finalizations q))
      → Keeps (record state { progress = progress'; rounds = rounds'; certified = certified'; covered = covered'; waiting = waiting'; missing = missing'; notarizations = notarizations'; nullifications = nullifications'; finalizations = finalizations' }) made (Pruned v ∷ known)
  unfolding learn_progress learn_round opens ends least_active last_finalized has_nullified has_false_verdict has_true_verdict is_covered is_unjudged verdict_of notarization_of nullification_of finalization_of was_broadcast held_notarization held_nullification held_finalization unsent_notarization unsent_nullification unsent_finalization first_of greatest_of
  keeps_pruned state made known v progress' rounds' certified' covered' waiting' missing' notarizations' nullifications' finalizations' k active_is ahead_is rises progress_is rounds_are certified_are covered_are waiting_are missing_are notarized unsent_notarized nullified_are opening unsent_nullified finalized unsent_finalized =
      let f = Pruned v in
      let w = progress_step made f known in
      record {
        attest = k.attest;
        leads = k.leads;
        settings = k.settings;
        progress = grind (arith, common_steps, k.progress, w, progress_is, rises);
        active = grind (arith, common_steps, k.active, w, active_is, rises);
        ahead = grind (arith, common_steps, k.ahead, w, ahead_is, rises);
        sound = sound_other f known refl k.sound;
        held = record {
          notarizations = λ v. grind (arith, common_steps, k.held.notarizations v, option_or-none);
          nullifications = λ v. grind (arith, common_steps, k.held.nullifications v, option_or-none);
          finalizations = λ v. grind (arith, common_steps, k.held.finalizations v, option_or-none);
        };
        timely = timely_step made f known (omega arith) k.timely;
        rounds = λ view. grind (arith, common_steps, k.rounds view, w, round_step f known view, rounds_are view, rises);
        published = published_same made f known _ refl (grind (arith, common_steps, w)) k.published;
        unpublished = unpublished_later made f known refl (grind (arith, common_steps, w)) k.unpublished;
        nullified = λ view. grind (arith, common_steps, k.nullified view, w);
        failed = λ view. grind (arith, common_steps, k.failed view, option_or-none);
        certified = λ view. grind (arith, common_steps, k.certified view, option_or-none, w, certified_are view, rises);
        covered = λ view. grind (arith, common_steps, k.covered view, w, covered_are view, rises);
        whole = λ view lies. grind (arith, common_steps, k.whole view lies);
        waiting = λ view. grind (arith, common_steps, k.waiting view, option_or-none, waiting_are view, active_is);
        missing = λ p u kind. grind (arith, common_steps, k.missing p u kind, w, missing_are p u kind, rises);
        notarizations = λ view. grind (arith, common_steps, k.notarizations view, option_or-none, w, notarized view, rises);
        finalizations = λ view. grind (arith, common_steps, k.finalizations view, option_or-none, w, finalized view, rises);
        nullifications = λ view. grind (arith, common_steps, k.nullifications view, option_or-none, w, nullified_are view, opening view, rises);
        unsent_notarizations = λ view. grind (arith, common_steps, k.unsent_notarizations view, option_or-none, unsent_notarized view);
        unsent_nullifications = λ view. grind (arith, common_steps, k.unsent_nullifications view, option_or-none, unsent_nullified view);
        unsent_finalizations = λ view. grind (arith, common_steps, k.unsent_finalizations view, option_or-none, unsent_finalized view);
      }

-- up from a view, the terms' nullified views stay
pub covers_stay : (length : ℕ) (before after : BTreeMap ℕ ℕ) (least q : ℕ) → 0 < length
    → ((t : ℕ) → term_index length least ≤ t → found after t ≡ found before t)
    → least ≤ q → covered_in length after q ≡ covered_in length before q
unfolding covered_in
covers_stay length before after least q some same le = grind (arith, same (term_index length q) (term_rises length least q some le))
