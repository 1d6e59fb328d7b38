use Rattle.std.proofs.Common.{◌≡◌, ◌+◌, ◌-◌, length, arith, ap}
use Rattle.model_resolver.specs.Fetcher.{unblocked, others_of}
use Rattle.simplex_fetch.proofs.Others.{taken, taken_ends, length_others}
use Rattle.simplex_fetch.proofs.peers.count_unblocked.Goals as goal

pub loop-member-init : goal.loop-member-init
loop-member-init c =
    let config = c.args.config.now in
    let blocked = c.args.blocked.now.keys in
    let n : c.config.inside.0.1.0 ≡ config.n = cc in
    let all : c.into_iter-member-iterator.result ≡ blocked = cc in
    let same = ap (taken config.me config.n) all in
    let first : c.config.inside.0.1.0 - 1 ≡ length (unblocked blocked (others_of config)) + taken config.me config.n c.into_iter-member-iterator.result =
    omega (arith, n, same, length_others config blocked c.iter-member-items.ensures.ordered c.requires.me) in
    first

pub returns : goal.returns
returns c =
    let config = c.args.config.now in
    let none = taken_ends config.me config.n c.loop-member.member-iterator c.in-None.ensures.steps.0 in
    omega (arith, none, c.loop-member.invariant)
