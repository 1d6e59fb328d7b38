use Rattle.std.proofs.Common.{◌≡◌, ◌++◌, ℕ, List, ap, ◌∙◌, rules}
use Rattle.std.specs.Prelude.{string_bytes}
use Rattle.model_rules.specs.declared.request.Asked.{Asked}
use Rattle.simplex_trace.specs.Items.{item, request_text}
use Rattle.simplex_trace.proofs.Written.{placed_more}
use Rattle.simplex_trace.proofs.items.push_requests.Goals as goal

pub loop-place-preserved : goal.loop-place-preserved
loop-place-preserved c =
    let f : ℕ × Asked → List ℕ = λ placed. item (request_text c.args.event placed) in
    let base = string_bytes c.args.text.now in
    let all = c.args.requests.now in
    let i = c.loop-place.place in
    let x = c.index-requests-place.result in
    let pushed : string_bytes c.push_item.new.text ≡ string_bytes c.loop-place.text ++ f (i, x) = search rules in
    pushed ∙ ap (λ (bytes : List ℕ). bytes ++ f (i, x)) c.loop-place.invariant ∙ placed_more f base all i x c.loop-place-test.true c.index-requests-place.is
