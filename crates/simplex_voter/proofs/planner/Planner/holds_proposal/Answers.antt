use Rattle.std.proofs.Common.{◌∙◌, sym, ap, List}
use Rattle.model_rules.specs.Known.{Fact}
use Rattle.model_rules.specs.Ancestry.{is_certified}
use Rattle.simplex_voter.proofs.Reading.{known-is}
use Rattle.simplex_voter.proofs.Sources.{proposal-held-none, proposal-held}
use Rattle.simplex_voter.proofs.planner.Planner.holds_proposal.Goals as goal

pub returns-in_default : goal.returns-in_default
returns-in_default g c = λ made answers desk s. sym (proposal-held-none s c.args.now c.in_default.is)

pub returns-in-Preparing : goal.returns-in-Preparing
returns-in-Preparing g c = λ made answers desk s. c.is_some.ensures ∙ sym (proposal-held s c.args.now c.in-Some.pending c.in-Some.is _ c.in-Preparing.is)

pub returns-in-Proposing : goal.returns-in-Proposing
returns-in-Proposing g c = λ made answers desk s. c.is_some-in-Proposing.ensures ∙ sym (proposal-held s c.args.now c.in-Some.pending c.in-Some.is _ c.in-Proposing.is)

pub returns-in-Held : goal.returns-in-Held
returns-in-Held g c = λ made answers desk s.
    c.parent_certified.ensures.answer made s.calls s.state ∙ ap (λ (known : List Fact). is_certified known c.in-Some.pending.context.parent.view) (sym (known-is s))
    ∙ sym (proposal-held s c.args.now c.in-Some.pending c.in-Some.is _ c.in-Held.is)

pub returns-in-Waiting : goal.returns-in-Waiting
returns-in-Waiting g c = λ made answers desk s. sym (proposal-held s c.args.now c.in-Some.pending c.in-Some.is _ c.in-Waiting.is)

pub returns-in-Closed : goal.returns-in-Closed
returns-in-Closed g c = λ made answers desk s. sym (proposal-held s c.args.now c.in-Some.pending c.in-Some.is _ c.in-Closed.is)
