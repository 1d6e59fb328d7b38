use Rattle.std.proofs.Common.{refl, sym, ap, ◌∙◌, length, ◌+◌}
use Rattle.std.specs.Prelude.{Some, Ok}
use Rattle.simplex_transcript.specs.declared.entry.Took.TheVariants as tooks
use Rattle.simplex_records.specs.Events.{spoken_entry}
use Rattle.simplex_network.specs.Stands.{entered}
use Rattle.simplex_network.proofs.Polled.{same-ok}
use Rattle.simplex_network.proofs.Places.{node-member}
use Rattle.simplex_network.proofs.Events.{noted_hearing, hear-lacks, hear-is}
use Rattle.simplex_network.proofs.Speaking.{network-says, network-heard, network-unheard}
use Rattle.simplex_network.proofs.network.Network.hear.Goals as goal

pub returns-in_default-clause-reason : goal.returns-in_default-clause-reason
returns-in_default-clause-reason c =
    λ whole setting before s none. hear-lacks setting before c.args.node c.args.at (rw s.given at c.requires) none (sym (c.in_default.ensures setting.setup before s.records))

pub returns-in-Err-clause-reason : goal.returns-in-Err-clause-reason
returns-in-Err-clause-reason c =
    λ whole setting before s none.
    let made = (network-says c.args.self.now setting before c.args.node c.in-Some.packet.now _ _ s none (rw c.as_slice.ensures at c.in_ok-sent.ensures.sends) c.in_ok-packets.ensures) in
    hear-is setting before c.args.node c.args.at c.in-Some.packet.now (rw s.given at c.requires) none (sym (c.in-Some.ensures setting.setup before s.records))
    ∙ (rw s.given at (c.in-Err.ensures.some whole)) before (noted_hearing setting.setup before c.args.node c.args.at c.in-Some.packet.now) s.records (rw c.as_slice-2.ensures (sym made))

pub returns-in-Err-clause-stays : goal.returns-in-Err-clause-stays
returns-in-Err-clause-stays c =
    λ whole setting before s none. network-unheard c.args.self.now _ setting before c.args.node refl refl refl refl refl s none c.in-Err.ensures.of c.in_ok-sent.ensures.unmoved

pub returns-in_ok-entry-in-Ok-clause-stands : goal.returns-in_ok-entry-in-Ok-clause-stands
returns-in_ok-entry-in-Ok-clause-stands c =
    λ setting before noted s none is.
    let made = (network-says c.args.self.now setting before c.args.node c.in-Some.packet.now _ _ s none (rw c.as_slice.ensures at c.in_ok-sent.ensures.sends) c.in_ok-packets.ensures) in
    let tested = hear-is setting before c.args.node c.args.at c.in-Some.packet.now (rw s.given at c.requires) none (sym (c.in-Some.ensures setting.setup before s.records))
    ∙ (rw s.given at c.in-Ok.ensures.none) before (noted_hearing setting.setup before c.args.node c.args.at c.in-Some.packet.now) s.records (rw c.as_slice-2.ensures (sym made)) in
    rw (same-ok noted _ _ is tested)
    (network-heard c.args.self.now _ setting before c.args.node c.args.at c.in-Some.packet.now _ _ refl refl refl refl s (rw s.given at (node-member c.args.self.now.setup c.args.node c.requires)) none (sym (c.in-Some.ensures setting.setup before s.records)) made
    (rw c.as_slice.ensures at c.in_ok-sent.ensures.stands)
    (c.in_ok-entry-in-Ok.ensures.entry setting.setup before s.records ∙ ap (λ ps. spoken_entry (length before + 1) c.args.node (Some (tooks.Packet c.args.at)) ps) made)
    c.in_ok-entry-in-Ok.ensures.stands)

pub returns-in_ok-entry-in-Ok-clause-entry : goal.returns-in_ok-entry-in-Ok-clause-entry
returns-in_ok-entry-in-Ok-clause-entry c =
    λ setting before s none.
    let made = (network-says c.args.self.now setting before c.args.node c.in-Some.packet.now _ _ s none (rw c.as_slice.ensures at c.in_ok-sent.ensures.sends) c.in_ok-packets.ensures) in
    let tested = hear-is setting before c.args.node c.args.at c.in-Some.packet.now (rw s.given at c.requires) none (sym (c.in-Some.ensures setting.setup before s.records))
    ∙ (rw s.given at c.in-Ok.ensures.none) before (noted_hearing setting.setup before c.args.node c.args.at c.in-Some.packet.now) s.records (rw c.as_slice-2.ensures (sym made)) in
    ap (λ r. entered r) tested
    ∙ ap (λ e. Ok e) (sym (c.in_ok-entry-in-Ok.ensures.entry setting.setup before s.records ∙ ap (λ ps. spoken_entry (length before + 1) c.args.node (Some (tooks.Packet c.args.at)) ps) made))
