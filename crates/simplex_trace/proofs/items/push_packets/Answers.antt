use Rattle.std.proofs.Common.{◌≡◌, ◌++◌, ℕ, List, ap, ◌∙◌, rules}
use Rattle.std.specs.Prelude.{string_bytes}
use Rattle.simplex_transcript.specs.declared.entry.Packet.{Packet}
use Rattle.simplex_trace.specs.Items.{item, packet_text}
use Rattle.simplex_trace.proofs.Written.{placed_more}
use Rattle.simplex_trace.proofs.items.push_packets.Goals as goal

pub loop-place-preserved : goal.loop-place-preserved
loop-place-preserved c =
    let f : ℕ × Packet → List ℕ = λ placed. item (packet_text c.args.event placed) in
    let base = string_bytes c.args.text.now in
    let all = c.args.packets.now in
    let i = c.loop-place.place in
    let x = c.index-packets-place.result in
    let pushed : string_bytes c.push_item.new.text ≡ string_bytes c.loop-place.text ++ f (i, x) = search rules in
    pushed ∙ ap (λ (bytes : List ℕ). bytes ++ f (i, x)) c.loop-place.invariant ∙ placed_more f base all i x c.loop-place-test.true c.index-packets-place.is
