use Rattle.std.proofs.Common.{◌≡◌, List, subst, rules}
use Rattle.simplex_transcript.specs.declared.event.Event.{Event}
use Rattle.model_run.specs.Setting.{setting_of}
use Rattle.simplex_run.specs.WholeRuns.{WholeRunFrom}
use Rattle.simplex_epochs.proofs.Epochs.{made_whole}
use Rattle.simplex_epochs.proofs.run.run_whole.Goals as goal

pub returns-in-Ok-clause-ok : goal.returns-in-Ok-clause-ok
returns-in-Ok-clause-ok c =
    let setting = setting_of c.args.input.now.setup c.args.at.genesis in
    let events = c.as_slice.result.now in
    let transcript = c.in-Ok.transcript in
    let made = c.in-Ok.ensures in
    let same : events ≡ c.args.input.now.events = search rules in
    subst (λ (given : List Event). WholeRunFrom setting given transcript) same
    (made_whole setting events transcript made.done made.entries made.network made.safe made.one_chain made.limit)
