use Rattle.std.proofs.Common.{◌≡◌, ◌+◌, ◌++◌, ℕ, List, ap, ◌∙◌, rules}
use Rattle.std.specs.Prelude.{string_bytes}
use Rattle.law_log.specs.Lines.{entry_line}
use Rattle.simplex_logs.proofs.Written.{lines_more}
use Rattle.simplex_logs.proofs.text.write_log.Goals as goal

pub loop-place-preserved : goal.loop-place-preserved
loop-place-preserved c =
    let f = entry_line c.args.node.now in
    let base = string_bytes c.args.text.now in
    let log = c.args.log.now in
    let i = c.loop-place.place in
    let entry = c.index-log-place.result in
    let pushed : string_bytes c.push_str.new.self ≡ string_bytes c.loop-place.text ++ f (i + 1, entry) = search rules in
    pushed ∙ ap (λ (bytes : List ℕ). bytes ++ f (i + 1, entry)) c.loop-place.invariant
    ∙ lines_more f base log i entry c.loop-place-test.true c.index-log-place.is
