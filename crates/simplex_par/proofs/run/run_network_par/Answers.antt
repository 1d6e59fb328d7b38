use Rattle.std.proofs.Common.{◌≡◌, Bool, true, false, List, Result, Ok, Err, refl}
use Rattle.std.specs.Result.{IfOk}
use Rattle.std.proofs.lemmas.Result.{IfOk-weaker, IfErr-weaker}
use Rattle.simplex_transcript.specs.declared.event.Event.{Event}
use Rattle.simplex_transcript.specs.declared.refusal.Refusal.{Refusal}
use Rattle.simplex_transcript.specs.declared.setup.Setup.{Setup}
use Rattle.model_run.specs.Setting.{at_epoch_genesis}
use Rattle.model_run.specs.Run.{Run}
use Rattle.law_run.specs.Complete.{HasRun}
use Rattle.simplex_network.specs.Answer.{is_memory}
use Rattle.simplex_par.proofs.run.run_network_par.Goals as goal

-- what follows from two facts of the same transcript
both : {A E : Type 0} (r : Result A E) (P Q R : A → Type 0) → ((a : A) → P a → Q a → R a) → IfOk r P → IfOk r Q → IfOk r R
both (Ok a) P Q R f p q = f a p q
both (Err e) P Q R f p q = p

-- what has a run is refused for want of memory alone
memory_alone : (setup : Setup) (events : List Event) (refusal : Refusal) → HasRun (at_epoch_genesis setup) events
    → (is_memory refusal.error ≡ false → Run setup events ≡ Err refusal) → is_memory refusal.error ≡ true
memory_alone setup events refusal made why = by (is_memory refusal.error) why
  where
    by : (b : Bool) → (b ≡ false → Run setup events ≡ Err refusal) → b ≡ true
    by true k = refl
    by false k = let refused = k refl in let is = made.1 in cc

pub returns-clause-safe : goal.returns-clause-safe
returns-clause-safe g c =
    both c.run_typed.result _ _ _ (λ transcript made typed. c.runs_are_safe.ensures (at_epoch_genesis c.args.setup.now) c.args.events.now transcript.entries made typed)
    c.run_typed.ensures.done c.run_typed.ensures.typed

pub returns-clause-one_chain : goal.returns-clause-one_chain
returns-clause-one_chain g c =
    both c.run_typed.result _ _ _
    (λ transcript made typed. c.transcripts_report_one_chain.ensures (at_epoch_genesis c.args.setup.now) c.args.events.now transcript.entries made (c.runs_are_safe.ensures (at_epoch_genesis c.args.setup.now) c.args.events.now transcript.entries made typed))
    c.run_typed.ensures.done c.run_typed.ensures.typed

pub returns-clause-limit : goal.returns-clause-limit
returns-clause-limit g c =
    both c.run_typed.result _ _ _ (λ transcript made typed. c.payloads_keep_the_limit.ensures (at_epoch_genesis c.args.setup.now) c.args.events.now transcript.entries made typed)
    c.run_typed.ensures.done c.run_typed.ensures.typed

pub returns-clause-entries : goal.returns-clause-entries
returns-clause-entries g c =
    IfOk-weaker c.run_typed.result _ _
    (λ transcript made. c.runs_have_one_entry_each.ensures (at_epoch_genesis c.args.setup.now) c.args.events.now transcript.entries made) c.run_typed.ensures.done

pub returns-clause-possible : goal.returns-clause-possible
returns-clause-possible g c =
    IfOk-weaker c.run_typed.result _ _
    (λ transcript made. c.runs_are_possible.ensures (at_epoch_genesis c.args.setup.now) c.args.events.now transcript.entries made) c.run_typed.ensures.done

pub returns-clause-complete : goal.returns-clause-complete
returns-clause-complete g c =
    IfErr-weaker c.run_typed.result _ _
    (λ refusal why proper. memory_alone c.args.setup.now c.args.events.now refusal (c.possible_events_run.ensures (at_epoch_genesis c.args.setup.now) c.args.events.now proper) why)
    c.run_typed.ensures.refused
