use Rattle.std.proofs.Common.{◌+◌, ap, sym, ◌∙◌}
use Rattle.model_audit.specs.Rebuilt.{rebuilt}
use Rattle.simplex_case.proofs.Casing.{case-more, packets-of}
use Rattle.simplex_case.proofs.Sending.{on-ok}
use Rattle.simplex_case.proofs.case.Case.take.Goals as goal

pub returns : goal.returns
returns c =
    on-ok c.take_votes.result
    (λ votes setting before same stand allowed. case-more c.args.self.now _ setting c.args.setup.now c.args.prior.now before c.args.event.now c.args.entry.now same allowed stand
    c.clock_behind-self.ensures c.in_ok-take_at_desk.ensures.count
    (λ node. c.in_ok-take_at_desk.ensures.stand before (ap (λ n. n + 1) stand.items.count) stand.seats node stand.desks)
    (λ asks. c.in_ok-take_answer.ensures before c.args.entry.now asks stand.answers)
    c.in_ok-take_reports.ensures
    (votes before (rebuilt c.args.event.now c.args.entry.now) (packets-of c.args.event.now c.args.entry.now ∙ sym c.as_slice.ensures) stand.votes))
    c.take_votes.ensures
