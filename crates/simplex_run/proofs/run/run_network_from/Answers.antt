use Rattle.std.proofs.Common.{◌≡◌, Bool, true, false, List, Result, Ok, Err, refl}
use Rattle.std.specs.Result.{IfOk}
use Rattle.std.proofs.lemmas.Result.{IfOk-weaker, IfErr-weaker}
use Rattle.simplex_transcript.specs.declared.event.Event.{Event}
use Rattle.simplex_transcript.specs.declared.refusal.Refusal.{Refusal}
use Rattle.model_run.specs.Setting.{Setting, setting_of}
use Rattle.model_run.specs.Run.{RunFrom}
use Rattle.law_run.specs.Complete.{HasRun}
use Rattle.simplex_network.specs.Answer.{is_memory}
use Rattle.simplex_run.proofs.run.run_network_from.Goals as goal

-- what follows from two facts of the same transcript
both : {A E : Type 0} (r : Result A E) (P Q R : A → Type 0) → ((a : A) → P a → Q a → R a) → IfOk r P → IfOk r Q → IfOk r R
both (Ok a) P Q R f p q = f a p q
both (Err e) P Q R f p q = p

-- what has a run is refused for want of memory alone
memory_alone : (setting : Setting) (events : List Event) (refusal : Refusal) → HasRun setting events
    → (is_memory refusal.error ≡ false → RunFrom setting events ≡ Err refusal) → is_memory refusal.error ≡ true
memory_alone setting events refusal made why = by (is_memory refusal.error) why
  where
    by : (b : Bool) → (b ≡ false → RunFrom setting events ≡ Err refusal) → b ≡ true
    by true k = refl
    by false k = let refused = k refl in let is = made.1 in cc

pub returns-clause-safe : goal.returns-clause-safe
returns-clause-safe c =
    both c.run_typed.result _ _ _ (λ transcript made typed. c.runs_are_safe.ensures (setting_of c.args.setup.now c.args.genesis) c.args.events.now transcript.entries made typed)
    c.run_typed.ensures.done c.run_typed.ensures.typed

pub returns-clause-one_chain : goal.returns-clause-one_chain
returns-clause-one_chain c =
    both c.run_typed.result _ _ _
    (λ transcript made typed. c.transcripts_report_one_chain.ensures (setting_of c.args.setup.now c.args.genesis) c.args.events.now transcript.entries made (c.runs_are_safe.ensures (setting_of c.args.setup.now c.args.genesis) c.args.events.now transcript.entries made typed))
    c.run_typed.ensures.done c.run_typed.ensures.typed

pub returns-clause-limit : goal.returns-clause-limit
returns-clause-limit c =
    both c.run_typed.result _ _ _ (λ transcript made typed. c.payloads_keep_the_limit.ensures (setting_of c.args.setup.now c.args.genesis) c.args.events.now transcript.entries made typed)
    c.run_typed.ensures.done c.run_typed.ensures.typed

pub returns-clause-entries : goal.returns-clause-entries
returns-clause-entries c =
    IfOk-weaker c.run_typed.result _ _
    (λ transcript made. c.runs_have_one_entry_each.ensures (setting_of c.args.setup.now c.args.genesis) c.args.events.now transcript.entries made) c.run_typed.ensures.done

pub returns-clause-possible : goal.returns-clause-possible
returns-clause-possible c =
    IfOk-weaker c.run_typed.result _ _
    (λ transcript made. c.runs_are_possible.ensures (setting_of c.args.setup.now c.args.genesis) c.args.events.now transcript.entries made) c.run_typed.ensures.done

pub returns-clause-complete : goal.returns-clause-complete
returns-clause-complete c =
    IfErr-weaker c.run_typed.result _ _
    (λ refusal why proper. memory_alone (setting_of c.args.setup.now c.args.genesis) c.args.events.now refusal (c.possible_events_run.ensures (setting_of c.args.setup.now c.args.genesis) c.args.events.now proper) why)
    c.run_typed.ensures.refused
