use Rattle.std.proofs.Common.{◌∙◌}
use Rattle.simplex_case.proofs.Casing.{allow-tick, allow-inject, allow-start, allow-deliver, allow-step, allow-answer, allow-crash, packet-is}
use Rattle.simplex_case.proofs.case.Case.allows.Goals as goal

pub returns-in-Tick : goal.returns-in-Tick
returns-in-Tick c = λ setting before same stand ends. allow-tick setting before c.args.self.now.clock c.in-Tick.ms _ c.args.event.now c.in-Tick.is stand.clock stand.early c.saturating_sub.ensures

pub returns-in-Inject : goal.returns-in-Inject
returns-in-Inject c =
    λ setting before same stand ends. allow-inject setting c.args.setup.now before c.in-Inject.member c.in-Inject.channel c.in-Inject.to c.in-Inject.bytes _ _ _ c.args.event.now same c.in-Inject.is c.both.ensures
    (rw c.as_slice.ensures at c.exist.ensures) c.is_faulty_member.ensures

pub returns-in-Start : goal.returns-in-Start
returns-in-Start c =
    λ setting before same stand ends. allow-start setting c.args.setup.now before c.in-Start.node c.in-Start.floor c.in-Start.stop _ _ _ _ c.args.event.now same c.in-Start.is c.three.ensures
    c.is_node.ensures (c.is_running.ensures c.args.prior.now before stand) (c.is_own_floor.ensures c.args.setup.now c.args.prior.now before stand)

pub returns-in-Deliver : goal.returns-in-Deliver
returns-in-Deliver c =
    λ setting before same stand ends. allow-deliver setting c.args.setup.now before c.in-Deliver.node c.in-Deliver.packet c.args.at_end _ _ _ _ _ c.args.event.now same c.in-Deliver.is ends c.four.ensures
    c.is_node-in-Deliver.ensures (c.is_running-in-Deliver.ensures c.args.prior.now before stand)
    (c.has_packet_for.ensures ∙ packet-is c.args.prior.now before c.in-Deliver.node c.in-Deliver.packet stand.items) c.goes_on.ensures

pub returns-in-Step : goal.returns-in-Step
returns-in-Step c =
    λ setting before same stand ends. allow-step setting c.args.setup.now before c.in-Step.node c.in-Step.source c.in-Step.stop c.args.at_end _ _ _ _ c.args.event.now same c.in-Step.is ends c.three-in-Step.ensures
    c.is_node-in-Step.ensures (c.is_running-in-Step.ensures c.args.prior.now before stand) c.goes_on-in-Step.ensures

pub returns-in-Answer : goal.returns-in-Answer
returns-in-Answer c =
    λ setting before same stand ends. allow-answer setting c.args.setup.now before c.in-Answer.node c.in-Answer.request c.in-Answer.answer _ _ _ _ _ c.args.event.now same c.in-Answer.is c.four-in-Answer.ensures
    c.is_node-in-Answer.ensures c.runs_engine.ensures (c.runs.ensures c.args.prior.now before stand) (c.is_pending.ensures before stand)

pub returns-in-Crash : goal.returns-in-Crash
returns-in-Crash c =
    λ setting before same stand ends. allow-crash setting c.args.setup.now before c.in-Crash.node _ _ _ c.args.event.now same c.in-Crash.is c.both-in-Crash.ensures
    c.is_node-in-Crash.ensures (c.is_running-in-Crash.ensures c.args.prior.now before stand)
