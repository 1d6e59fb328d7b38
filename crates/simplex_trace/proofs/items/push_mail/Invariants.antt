use Rattle.std.proofs.Common.{◌≡◌, ◌++◌, take}
use Rattle.std.specs.Prelude.{string_bytes}
use Rattle.std.specs.List.{flat_map}
use Rattle.simplex_trace.specs.Items.{item, mail_text}
use Rattle.simplex_trace.proofs.items.push_mail.Given as goal

abbrev pub invariant-loop-message : goal.invariant-loop-message
invariant-loop-message l =
    string_bytes l.text ≡ string_bytes l.fn.text ++ flat_map (λ message. item (mail_text message)) (take l.message-index l.handed)
