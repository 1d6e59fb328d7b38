use Rattle.std.proofs.Common.{rules, ◌≡◌, ◌++◌, ℕ, List, ap, ◌∙◌, get_or}
use Rattle.std.specs.Prelude.{string_bytes}
use Rattle.law_ledger.specs.Lines.{account_line}
use Rattle.simplex_ledgers.proofs.Lining.{lines_more}
use Rattle.simplex_ledgers.proofs.text.write_balances.Goals as goal

pub loop-place-preserved : goal.loop-place-preserved
loop-place-preserved c =
    let base = string_bytes c.args.text.now in
    let balances = c.args.balances.now in
    let i = c.loop-place.place in
    let pushed : string_bytes c.push_str.new.self ≡ string_bytes c.loop-place.text ++ account_line (i, get_or balances i 0) = search rules in
    pushed ∙ ap (λ (bytes : List ℕ). bytes ++ account_line (i, get_or balances i 0)) c.loop-place.invariant
    ∙ lines_more account_line base balances i 0 c.loop-place-test.true
