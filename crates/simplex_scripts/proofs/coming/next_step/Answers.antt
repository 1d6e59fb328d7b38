use Rattle.std.proofs.Common.{◌≡◌, arith, drop, length}
use Rattle.std.proofs.lemmas.List.{nil_from_length}
use Rattle.simplex_scripts.proofs.Going.{split_copied}
use Rattle.simplex_scripts.proofs.Holding.{holding_all, holding_found, holding_over}
use Rattle.simplex_scripts.proofs.coming.next_step.Goals as goal

pub loop-rest-init : goal.loop-rest-init
loop-rest-init c = holding_all c.args.network.now c.args.now c.args.among.now c.args.nodes.now

pub returns-in-Some : goal.returns-in-Some
returns-in-Some c =
    holding_found c.args.network.now c.args.now c.args.among.now c.loop-rest.rest.now (drop 1 c.loop-rest.rest.now) c.args.nodes.now _ c.in-Some.held
    c.step.result (split_copied c.loop-rest.rest.now _ c.in-len1-up.len_at_least) c.loop-rest.invariant c.in-Some.ensures c.step.ensures

pub returns : goal.returns
returns c =
    let none : length c.loop-rest.rest.now ≡ 0 = omega arith in
    holding_over c.args.network.now c.args.now c.args.among.now c.loop-rest.rest.now c.args.nodes.now (nil_from_length c.loop-rest.rest.now none)
    c.loop-rest.invariant
