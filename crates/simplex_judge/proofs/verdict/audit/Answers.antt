use Rattle.std.proofs.Common.{◌≡◌, sym, ap, subst, ◌∙◌}
use Rattle.std.specs.Prelude.{◌↔◌}
use Rattle.std.proofs.lemmas.Result.{IfOk-weaker}
use Rattle.model_run.specs.Setting.{at_epoch_genesis}
use Rattle.model_audit.specs.declared.record.Verdict.{Verdict}
use Rattle.model_audit.specs.declared.record.Verdict.TheVariants.{Sound}
use Rattle.model_audit.specs.Audit.{audited}
use Rattle.model_audit.specs.Holding.{IsSound}
use Rattle.simplex_judge.proofs.verdict.audit.Goals as goal

pub returns-clause-verdict : goal.returns-clause-verdict
returns-clause-verdict c = c.verdict_on.ensures

pub returns-clause-sound : goal.returns-clause-sound
returns-clause-sound c =
    IfOk-weaker c.verdict_on.result _ _
    (λ verdict is. subst (λ (v : Verdict). v ≡ Sound ↔ IsSound (at_epoch_genesis c.args.setup.now) c.args.events.now c.args.entries.now) (sym is)
    (c.sound_records_hold.ensures.exactly (at_epoch_genesis c.args.setup.now) c.args.events.now c.args.entries.now))
    c.verdict_on.ensures

pub returns-clause-agrees : goal.returns-clause-agrees
returns-clause-agrees c =
    IfOk-weaker c.verdict_on.result _ _
    (λ verdict is sound. c.sound_records_hold.ensures.agrees (at_epoch_genesis c.args.setup.now) c.args.events.now c.args.entries.now
    ((c.sound_records_hold.ensures.exactly (at_epoch_genesis c.args.setup.now) c.args.events.now c.args.entries.now).0 (sym is ∙ sound)))
    c.verdict_on.ensures

pub returns-clause-recorded : goal.returns-clause-recorded
returns-clause-recorded c =
    IfOk-weaker c.verdict_on.result _ _
    (λ verdict is transcript run typed same. is ∙ ap (audited (at_epoch_genesis c.args.setup.now) c.args.events.now) same
    ∙ c.records_of_runs_are_sound.ensures (at_epoch_genesis c.args.setup.now) c.args.events.now transcript run typed)
    c.verdict_on.ensures
