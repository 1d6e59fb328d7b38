use Rattle.std.proofs.Common.{◌∙◌}
use Rattle.simplex_scripts.proofs.Upcoming.{upcoming_delivery, upcoming_step, upcoming_verdict}
use Rattle.simplex_scripts.proofs.play.Play.next.Goals as goal

pub returns-in-Some : goal.returns-in-Some
returns-in-Some c = upcoming_step c.args.self.now c.args.nodes.now c.as_slice.result.now c.in-Some.event c.as_slice.ensures.value c.in-Some.ensures

pub returns-in-Some-next_verdict : goal.returns-in-Some-next_verdict
returns-in-Some-next_verdict c =
    upcoming_verdict c.args.self.now c.args.nodes.now c.as_slice.result.now c.as_slice-2.result.now c.in-Some-next_verdict.event c.as_slice.ensures.value
    c.in_default.ensures (c.as_slice-2.ensures.value ∙ c.in_ok-open.ensures) c.in-Some-next_verdict.ensures

pub returns : goal.returns
returns c =
    upcoming_delivery c.args.self.now c.args.nodes.now c.as_slice.result.now c.as_slice-2.result.now c.waiting.result.now c.next_delivery-delivery.result
    c.as_slice.ensures.value c.in_default.ensures (c.as_slice-2.ensures.value ∙ c.in_ok-open.ensures) c.in_default-next_verdict.ensures
    c.waiting.ensures c.next_delivery-delivery.ensures
