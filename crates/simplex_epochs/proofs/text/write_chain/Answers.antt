use Rattle.std.proofs.Common.{◌≡◌, ◌+◌, ◌++◌, ℕ, List, ap, ◌∙◌, rules}
use Rattle.std.specs.Prelude.{string_bytes}
use Rattle.model_epochs.specs.Lines.{entry_line}
use Rattle.simplex_logs.proofs.Written.{lines_more}
use Rattle.simplex_epochs.proofs.text.write_chain.Goals as goal

pub loop-place-preserved : goal.loop-place-preserved
loop-place-preserved c =
    let f = entry_line c.args.member in
    let base = string_bytes c.args.text.now in
    let chain = c.args.chain.now in
    let i = c.loop-place.place in
    let placed = c.index-chain-place.result in
    let pushed : string_bytes c.push_str.new.self ≡ string_bytes c.loop-place.text ++ f (i + 1, placed) = search rules in
    pushed ∙ ap (λ (bytes : List ℕ). bytes ++ f (i + 1, placed)) c.loop-place.invariant
    ∙ lines_more f base chain i placed c.loop-place-test.true c.index-chain-place.is
