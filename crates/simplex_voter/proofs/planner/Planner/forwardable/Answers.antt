use Rattle.std.proofs.Common.{sym, ◌∙◌, arith}
use Rattle.simplex_voter.proofs.Before.{before-admitted}
use Rattle.simplex_voter.proofs.Reading.{known-is}
use Rattle.simplex_voter.proofs.planner.Planner.forwardable.Goals as goal

pub returns : goal.returns
returns g c = λ made answers doing s.
    let admitted = before-admitted made doing.desk.known s.retains (rw (known-is s) (rw (← c.last_finalized-finalized.ensures made s.calls s.state) (omega arith))) in
    let refused = sym (c.admits_certificate.ensures made s.calls s.state) ∙ c.if-admits_certificate.false in
    let current = c.current_view-current.ensures made s.calls s.state in
    let before = c.saturating_sub-before.ensures in
    let active = rw (known-is s, ← current, ← before) at admitted in
    cc
