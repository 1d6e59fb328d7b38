use Rattle.std.proofs.Common.{◌≡◌, ◌<◌, arith, ap, sym, ◌∙◌, Some}
use Rattle.simplex_fetch.specs.Peers.{behind}
use Rattle.simplex_fetch.proofs.Others.{found_below, found_there, fewer_others, passed_over, passed_stops, passed_ends, passed_moves}
use Rattle.simplex_fetch.proofs.peers.unblocked_at.Goals as goal

pub other_at-peer-requires : goal.other_at-peer-requires
other_at-peer-requires c =
    let fits : c.config.inside.0.1.0 < 4294967296 = omega arith in
    let n : c.config.inside.0.1.0 ≡ c.args.config.now.n = cc in
    omega (arith, n, fits, fewer_others c.args.config.now c.args.blocked.now.keys c.requires.me)

pub returns-then-peer-member : goal.returns-then-peer-member
returns-then-peer-member c =
    let config = c.args.config.now in
    let blocked = c.args.blocked.now.keys in
    let stops = passed_stops config.me c.loop-member.peer c.in-Some.member.now c.next.new.self c.loop-member.member-iterator c.in-Some.ensures.steps c.if-peer-member.true in
    found_there config blocked c.args.place c.iter-member-items.ensures.ordered c.requires.within ∙ ap Some (sym c.loop-member.invariant ∙ stops)

pub behind-peer-requires : goal.behind-peer-requires
behind-peer-requires c =
    let config = c.args.config.now in
    let blocked = c.args.blocked.now.keys in
    let mine = c.config.inside.0.0.0 in
    let fits : c.config.inside.0.1.0 < 4294967296 = omega arith in
    let n : c.config.inside.0.1.0 ≡ config.n = cc in
    let me : mine ≡ config.me = cc in
    let below = found_below config blocked c.args.place c.iter-member-items.ensures.ordered c.requires.within in
    let moves = passed_moves mine c.loop-member.peer c.in-Some.member.now c.next.new.self c.loop-member.member-iterator c.in-Some.ensures.steps c.if-peer-member.false c.if-member-me.true in
    let same = ap (λ k. passed_over k c.loop-member.peer c.loop-member.member-iterator) me in
    let fit : behind mine c.loop-member.peer < 4294967296 = omega (arith, below, moves, same, n, fits, c.loop-member.invariant) in
    fit

pub invariant_of-result-2 : goal.invariant_of-result-2
invariant_of-result-2 c =
    let config = c.args.config.now in
    let blocked = c.args.blocked.now.keys in
    let fits : c.config.inside.0.1.0 < 4294967296 = omega arith in
    let n : c.config.inside.0.1.0 ≡ config.n = cc in
    let below = found_below config blocked c.args.place c.iter-member-items.ensures.ordered c.requires.within in
    let ends = passed_ends config.me c.loop-member.peer c.loop-member.member-iterator c.in-None.ensures.steps.0 in
    omega (arith, below, ends, n, fits, c.loop-member.invariant)

pub returns : goal.returns
returns c =
    let config = c.args.config.now in
    let blocked = c.args.blocked.now.keys in
    let ends = passed_ends config.me c.loop-member.peer c.loop-member.member-iterator c.in-None.ensures.steps.0 in
    found_there config blocked c.args.place c.iter-member-items.ensures.ordered c.requires.within ∙ ap Some (sym c.loop-member.invariant ∙ ends)
