use Rattle.std.proofs.Common.{◌≡◌, ◌++◌, ℕ, List, ap, ◌∙◌, rules}
use Rattle.std.specs.Prelude.{string_bytes}
use Rattle.simplex_messages.specs.declared.handed.Handed.{Handed}
use Rattle.simplex_trace.specs.Items.{item, mail_text}
use Rattle.simplex_trace.proofs.Written.{item_more}
use Rattle.simplex_trace.proofs.items.push_mail.Goals as goal

pub loop-message-preserved : goal.loop-message-preserved
loop-message-preserved c =
    let f : Handed → List ℕ = λ message. item (mail_text message) in
    let base = string_bytes c.args.text.now in
    let all = c.args.handed.now in
    let i = c.loop-message.message-index in
    let x = c.message-item.result in
    let pushed : string_bytes c.push_item.new.text ≡ string_bytes c.loop-message.text ++ f x = search rules in
    pushed ∙ ap (λ (bytes : List ℕ). bytes ++ f x) c.loop-message.invariant ∙ item_more f base all i x c.loop-message-test.true c.message-item.is
