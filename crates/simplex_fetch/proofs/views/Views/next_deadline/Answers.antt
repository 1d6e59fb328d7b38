use Rattle.std.proofs.Common.{◌≡◌, [], rules, arith}
use Rattle.std.proofs.lemmas.List.{nil_from_length}
use Rattle.std.proofs.lemmas.Grind.{common_steps}
use Rattle.simplex_fetch.proofs.Deadlines.{least-is, least-missing}
use Rattle.simplex_fetch.proofs.views.Views.next_deadline.Goals as goal

pub returns-in_err-deadline : goal.returns-in_err-deadline
returns-in_err-deadline c =
    let empty : c.self.inside.timers.keys ≡ [] = nil_from_length c.self.inside.timers.keys (search rules) in
    let is = least-missing c.self.inside.entries.entries c.self.inside.timers.keys c.self.inside.numbers.entries c.self.invariant.0 empty in
    grind (arith, common_steps, is, c.self.view_is)

pub returns : goal.returns
returns c =
    let is = least-is c.self.inside.entries.entries c.self.inside.timers.keys c.self.inside.numbers.entries c.self.invariant.0 c.in_ok-deadline.field-0.now c.in_ok-deadline.ensures.member c.in_ok-deadline.ensures.least in
    grind (arith, common_steps, is, c.self.view_is)
