-- What a state keeps where the member gives the current view up.
use Rattle.std.proofs.Common.{◌≡◌, ℕ, ◌<◌, ◌^◌, ◌==◌, ◌||◌, ◌∷◌, ◌++◌, Bool, true, false, List, Option, Some, refl, arith}
use Rattle.std.proofs.lemmas.Grind.{common_steps}
use Rattle.simplex_wire.specs.declared.vote.Nullify.{Nullify}
use Rattle.simplex_wire.specs.declared.vote.Vote.TheVariants as votes
use Rattle.model_rules.specs.Lists.{first_of, last_of, greatest_of}
use Rattle.model_rules.specs.Known.{Made, Fact, Voted, Published, notarization_of, nullification_of, finalization_of, was_broadcast, verdict_of, has_nullified}
use Rattle.model_rules.specs.Views.{least_active, last_finalized, current_of}
use Rattle.model_rules.specs.Ancestry.{is_covered, has_true_verdict, has_false_verdict}
use Rattle.model_rules.specs.Deadline.{published_at}
use Rattle.model_rules.specs.Requests.{is_unjudged}
use Rattle.model_rules.specs.Calls.{nullify_facts, unsent_notarization, unsent_nullification, unsent_finalization}
use Rattle.simplex_wire.specs.declared.scheme.Scheme as scheme
use Rattle.simplex_types.specs.declared.elector.Elector as elector
use Rattle.simplex_state.specs.declared.ranges.Ranges.{Ranges}
use Rattle.simplex_state.specs.declared.state.State.{State}
use Rattle.simplex_state.specs.Ranges.{holds}
use Rattle.simplex_state.specs.Rounds.{learn_round}
use Rattle.simplex_state.specs.Progress.{progress_of, learn_progress, opens, ends}
use Rattle.simplex_state.specs.Certificates.{held_notarization, held_nullification, held_finalization}
use Rattle.simplex_state.specs.Stands.{Keeps}
use Rattle.simplex_state.proofs.Facts.{round_step, progress_step, option_or-none}
use Rattle.simplex_state.proofs.Publishing.{published_same, unpublished_later}
use Rattle.simplex_state.proofs.Sound.{sound_other, timely_step}

-- of the current view nothing else is published, of later ones nothing
published_now : (known : List Fact) (v now : ℕ) → Some now ≡ published_at (Published v now ∷ known) v
unfolding published_at last_of
published_now known v now = grind (arith, common_steps)

unpublished_now : (known : List Fact) (v now q : ℕ) → v < q → published_at (Published v now ∷ known) q ≡ published_at known q
unfolding published_at last_of
unpublished_now known v now q later = grind (arith, common_steps, later)

module _ {S L : Type 0} {g : scheme.Ghosts S} {h : elector.Ghosts L} where
  -- the view goes to those given up before
  pub keeps_put_away : (state : State S L g h) (made : Made) (known : List Fact) (nullified' : Ranges)
      → Keeps state made known
      → state.gave_up ≡ true
      → ((q : ℕ) → holds nullified' q ≡ (state.progress.current == q || holds state.nullified q))
      → Keeps (record state { gave_up = false; nullified = nullified' }) made known
  keeps_put_away state made known nullified' k given_up nullified_are =
      record {
        attest = k.attest;
        leads = k.leads;
        settings = k.settings;
        progress = k.progress;
        active = k.active;
        ahead = k.ahead;
        sound = k.sound;
        held = k.held;
        timely = k.timely;
        rounds = k.rounds;
        published = k.published;
        unpublished = k.unpublished;
        nullified = λ view. grind (arith, common_steps, k.nullified view, given_up, nullified_are view, k.progress);
        failed = k.failed;
        certified = k.certified;
        covered = k.covered;
        whole = k.whole;
        waiting = k.waiting;
        missing = k.missing;
        notarizations = k.notarizations;
        finalizations = k.finalizations;
        nullifications = k.nullifications;
        unsent_notarizations = k.unsent_notarizations;
        unsent_nullifications = k.unsent_nullifications;
        unsent_finalizations = k.unsent_finalizations;
      }

  -- a view that was given up is given up again
  keeps_again : (state : State S L g h) (made : Made) (known : List Fact) (v : ℕ)
      → Keeps state made known
      → v ≡ (progress_of made known).current
      → has_nullified known v ≡ true
      → Keeps (record state { gave_up = true }) made known
  keeps_again state made known v k current again =
      record {
        attest = k.attest;
        leads = k.leads;
        settings = k.settings;
        progress = k.progress;
        active = k.active;
        ahead = k.ahead;
        sound = k.sound;
        held = k.held;
        timely = k.timely;
        rounds = k.rounds;
        published = k.published;
        unpublished = k.unpublished;
        nullified = λ view. grind (arith, common_steps, k.nullified view, current, again);
        failed = k.failed;
        certified = k.certified;
        covered = k.covered;
        whole = k.whole;
        waiting = k.waiting;
        missing = k.missing;
        notarizations = k.notarizations;
        finalizations = k.finalizations;
        nullifications = k.nullifications;
        unsent_notarizations = k.unsent_notarizations;
        unsent_nullifications = k.unsent_nullifications;
        unsent_finalizations = k.unsent_finalizations;
      }

  -- the current view is given up
  keeps_gave_up : (state : State S L g h) (made : Made) (known : List Fact) (n : Nullify)
      → Keeps state made known
      → n.round.view ≡ (progress_of made known).current
      → Keeps (record state { gave_up = true }) made (Voted (votes.Nullify n) ∷ known)
  unfolding learn_progress learn_round opens ends least_active last_finalized has_nullified has_false_verdict has_true_verdict is_covered is_unjudged verdict_of notarization_of nullification_of finalization_of was_broadcast held_notarization held_nullification held_finalization unsent_notarization unsent_nullification unsent_finalization first_of greatest_of
  keeps_gave_up state made known n k current =
      let f = Voted (votes.Nullify n) in
      let w = progress_step made f known in
      record {
        attest = k.attest;
        leads = k.leads;
        settings = k.settings;
        progress = grind (arith, common_steps, k.progress, w);
        active = grind (arith, common_steps, k.active, w);
        ahead = grind (arith, common_steps, k.ahead, w);
        sound = sound_other f known refl k.sound;
        held = record {
          notarizations = λ v. grind (arith, common_steps, k.held.notarizations v, option_or-none);
          nullifications = λ v. grind (arith, common_steps, k.held.nullifications v, option_or-none);
          finalizations = λ v. grind (arith, common_steps, k.held.finalizations v, option_or-none);
        };
        timely = timely_step made f known (omega arith) k.timely;
        rounds = λ view. grind (arith, common_steps, k.rounds view, w, round_step f known view);
        published = published_same made f known _ refl (grind (arith, common_steps, w)) k.published;
        unpublished = unpublished_later made f known refl (grind (arith, common_steps, w)) k.unpublished;
        nullified = λ view. grind (arith, common_steps, k.nullified view, current, w);
        failed = λ view. grind (arith, common_steps, k.failed view, option_or-none);
        certified = λ view. grind (arith, common_steps, k.certified view, option_or-none, w);
        covered = λ view. grind (arith, common_steps, k.covered view, w);
        whole = λ view lies. grind (arith, common_steps, k.whole view lies);
        waiting = λ view. grind (arith, common_steps, k.waiting view, option_or-none);
        missing = λ p v kind. grind (arith, common_steps, k.missing p v kind, w);
        notarizations = λ view. grind (arith, common_steps, k.notarizations view, option_or-none, w);
        finalizations = λ view. grind (arith, common_steps, k.finalizations view, option_or-none, w);
        nullifications = λ view. grind (arith, common_steps, k.nullifications view, option_or-none, w);
        unsent_notarizations = λ view. grind (arith, common_steps, k.unsent_notarizations view, option_or-none);
        unsent_nullifications = λ view. grind (arith, common_steps, k.unsent_nullifications view, option_or-none);
        unsent_finalizations = λ view. grind (arith, common_steps, k.unsent_finalizations view, option_or-none);
      }

  -- its nullify goes out
  keeps_published : (state : State S L g h) (made : Made) (known : List Fact) (v now : ℕ)
      → Keeps state made known
      → now < 2 ^ 63
      → v ≡ (progress_of made known).current
      → Keeps (record state { published = Some now }) made (Published v now ∷ known)
  unfolding learn_progress learn_round opens ends least_active last_finalized has_nullified has_false_verdict has_true_verdict is_covered is_unjudged verdict_of notarization_of nullification_of finalization_of was_broadcast held_notarization held_nullification held_finalization unsent_notarization unsent_nullification unsent_finalization first_of greatest_of
  keeps_published state made known v now k stamp current =
      let f = Published v now in
      let w = progress_step made f known in
      record {
        attest = k.attest;
        leads = k.leads;
        settings = k.settings;
        progress = grind (arith, common_steps, k.progress, w);
        active = grind (arith, common_steps, k.active, w);
        ahead = grind (arith, common_steps, k.ahead, w);
        sound = sound_other f known refl k.sound;
        held = record {
          notarizations = λ v. grind (arith, common_steps, k.held.notarizations v, option_or-none);
          nullifications = λ v. grind (arith, common_steps, k.held.nullifications v, option_or-none);
          finalizations = λ v. grind (arith, common_steps, k.held.finalizations v, option_or-none);
        };
        timely = timely_step made f known stamp k.timely;
        rounds = λ view. grind (arith, common_steps, k.rounds view, w, round_step f known view);
        published = grind (arith, common_steps, published_now known v now, current, w);
        unpublished = λ view later. grind (arith, common_steps, unpublished_now known v now view, k.unpublished view, current, w, later);
        nullified = λ view. grind (arith, common_steps, k.nullified view, w);
        failed = λ view. grind (arith, common_steps, k.failed view, option_or-none);
        certified = λ view. grind (arith, common_steps, k.certified view, option_or-none, w);
        covered = λ view. grind (arith, common_steps, k.covered view, w);
        whole = λ view lies. grind (arith, common_steps, k.whole view lies);
        waiting = λ view. grind (arith, common_steps, k.waiting view, option_or-none);
        missing = λ p v kind. grind (arith, common_steps, k.missing p v kind, w);
        notarizations = λ view. grind (arith, common_steps, k.notarizations view, option_or-none, w);
        finalizations = λ view. grind (arith, common_steps, k.finalizations view, option_or-none, w);
        nullifications = λ view. grind (arith, common_steps, k.nullifications view, option_or-none, w);
        unsent_notarizations = λ view. grind (arith, common_steps, k.unsent_notarizations view, option_or-none);
        unsent_nullifications = λ view. grind (arith, common_steps, k.unsent_nullifications view, option_or-none);
        unsent_finalizations = λ view. grind (arith, common_steps, k.unsent_finalizations view, option_or-none);
      }

  gives_up : (state : State S L g h) (made : Made) (known : List Fact) (n : Nullify) (now : ℕ) (again : Bool) → has_nullified known n.round.view ≡ again
      → Keeps state made known
      → now < 2 ^ 63
      → n.round.view ≡ (progress_of made known).current
      → Keeps (record state { gave_up = true; published = Some now }) made (nullify_facts known n.round.view now n ++ known)
  unfolding learn_progress
  gives_up state made known n now true e k stamp current =
      rw e (keeps_published (record state { gave_up = true }) made known n.round.view now
      (keeps_again state made known n.round.view k current e)
      stamp
      current)
  gives_up state made known n now false e k stamp current =
      rw e (keeps_published (record state { gave_up = true }) made (Voted (votes.Nullify n) ∷ known) n.round.view now
      (keeps_gave_up state made known n k current)
      stamp
      (grind (arith, common_steps, current, progress_step made (Voted (votes.Nullify n)) known)))

  -- the current view is given up, and its nullify goes out
  pub keeps_given_up : (state : State S L g h) (made : Made) (known : List Fact) (n : Nullify) (now : ℕ)
      → Keeps state made known
      → now < 2 ^ 63
      → n.round.view ≡ current_of made known
      → Keeps (record state { gave_up = true; published = Some now }) made (nullify_facts known n.round.view now n ++ known)
  unfolding progress_of
  keeps_given_up state made known n now k stamp current = gives_up state made known n now _ refl k stamp current
