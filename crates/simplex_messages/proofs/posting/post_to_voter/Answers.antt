use Rattle.std.proofs.Common.{◌≡◌, ◌∙◌, ◌∷◌, ◌+◌, [], ap, sym, refl, drop, arith}
use Rattle.std.specs.Prelude.{filter_map}
use Rattle.std.proofs.lemmas.List.{drop_more, drop_all}
use Rattle.simplex_messages.specs.Handing.{for_voter}
use Rattle.simplex_messages.proofs.posting.post_to_voter.Goals as goal

pub loop-message-preserved : goal.loop-message-preserved
loop-message-preserved g c = λ after h.
    let left = drop (c.loop-message.message-index + 1) c.args.handed.now in
    let next : drop c.loop-message.message-index c.args.handed.now ≡ c.message-item.result ∷ left =
    drop_more c.args.handed.now c.loop-message.message-index c.message-item.result (omega arith) ∙ ap (λ y. y ∷ left) (sym c.message-item.is) in
    c.loop-message.invariant after (rw next (c.in_ok-post_one.ensures (filter_map for_voter left) after h))

pub returns : goal.returns
returns g c =
    let none : drop c.loop-message.message-index c.args.handed.now ≡ [] = drop_all c.loop-message.message-index c.args.handed.now (omega arith) in
    c.loop-message.invariant _ (rw none refl)
