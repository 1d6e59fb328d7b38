use Rattle.std.proofs.Common.{sym, ◌∙◌}
use Rattle.simplex_network.proofs.Preparing.{prepares-deliver, prepares-step, prepares-answer, bars-lacks, bars-deliver, bars-step, bars-answer}
use Rattle.simplex_network.proofs.network.Network.given.Goals as goal

pub returns-in_default-clause-reason : goal.returns-in_default-clause-reason
returns-in_default-clause-reason c = λ whole. bars-lacks c.args.self.now c.args.node _ _ _ _ c.requires.steps c.in-Deliver.is c.in_default.ensures

pub returns-then-is_at_end-clause-reason : goal.returns-then-is_at_end-clause-reason
returns-then-is_at_end-clause-reason c =
    λ whole. bars-deliver c.args.self.now c.args.node _ _ c.args.event.now _ c.in-Some.packet.now c.requires.steps c.in-Deliver.is c.in-Some.ensures (sym c.is_at_end.ensures ∙ c.if-is_at_end.true)

pub returns-in_ok-input-in-Deliver-clause-is : goal.returns-in_ok-input-in-Deliver-clause-is
returns-in_ok-input-in-Deliver-clause-is c =
    prepares-deliver c.args.self.now c.args.node _ _ _ _ _ _ c.requires.steps c.in-Deliver.is c.args.self.now.good c.in-Some.ensures (sym c.is_at_end.ensures ∙ c.if-is_at_end.false) c.in_ok-input-in-Deliver.ensures

pub returns-then-is_at_end-2-clause-reason : goal.returns-then-is_at_end-2-clause-reason
returns-then-is_at_end-2-clause-reason c = λ whole. bars-step c.args.self.now c.args.node _ _ _ _ _ c.requires.steps c.in-Step.is (sym c.is_at_end-in-Step.ensures ∙ c.if-is_at_end-2.true)

pub returns-else-is_at_end-2-clause-is : goal.returns-else-is_at_end-2-clause-is
returns-else-is_at_end-2-clause-is c = prepares-step c.args.self.now c.args.node _ _ _ _ _ c.requires.steps c.in-Step.is (sym c.is_at_end-in-Step.ensures ∙ c.if-is_at_end-2.false)

pub returns-in_default-request_number-clause-reason : goal.returns-in_default-request_number-clause-reason
returns-in_default-request_number-clause-reason c = λ whole. bars-answer c.args.self.now c.args.node _ _ _ _ _ c.requires.steps c.in-Answer.is c.in_default-request_number.ensures

pub returns-in-Some-request_number-clause-is : goal.returns-in-Some-request_number-clause-is
returns-in-Some-request_number-clause-is c = prepares-answer c.args.self.now c.args.node _ _ _ _ _ _ c.requires.steps c.in-Answer.is c.in-Some-request_number.ensures
