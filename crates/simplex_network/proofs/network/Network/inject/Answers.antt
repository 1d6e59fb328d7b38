use Rattle.std.proofs.Common.{refl, sym, ap, ◌∙◌, length, ◌+◌}
use Rattle.std.specs.Prelude.{None, Ok}
use Rattle.model_run.specs.Kinds.{node_of}
use Rattle.simplex_records.specs.Events.{spoken_entry}
use Rattle.simplex_network.specs.Stands.{entered}
use Rattle.simplex_network.proofs.Polled.{same-ok}
use Rattle.simplex_network.proofs.Places.{member-below}
use Rattle.simplex_network.proofs.Events.{noted_bytes, inject-missing, inject-honest, inject-is}
use Rattle.simplex_network.proofs.Speaking.{network-spoke}
use Rattle.simplex_network.proofs.network.Network.inject.Goals as goal

pub returns-then-not-exist-clause-reason : goal.returns-then-not-exist-clause-reason
returns-then-not-exist-clause-reason c =
    λ whole setting before s. inject-missing setting before _ _ _ _ (rw (s.given, c.as_slice.ensures) at (sym c.exist.ensures ∙ c.if-not-exist.true))

pub returns-then-is_honest-clause-reason : goal.returns-then-is_honest-clause-reason
returns-then-is_honest-clause-reason c =
    λ whole setting before s. inject-honest setting before _ _ _ _ (rw (s.given, c.as_slice.ensures) at (sym c.exist.ensures ∙ c.if-not-exist.false))
    (rw s.given at (sym c.is_honest.ensures ∙ c.if-is_honest.true))

pub returns-in-Err-clause-reason : goal.returns-in-Err-clause-reason
returns-in-Err-clause-reason c =
    λ whole setting before s.
    inject-is setting before c.args.member c.args.channel c.args.to.now c.args.bytes.now
    (rw (s.given, c.as_slice.ensures) at (sym c.exist.ensures ∙ c.if-not-exist.false)) (rw s.given at (sym c.is_honest.ensures ∙ c.if-is_honest.false))
    ∙ (rw s.given at (c.in-Err.ensures.some whole)) before (noted_bytes before c.args.member c.args.channel c.args.to.now c.args.bytes.now) s.records
    (rw (c.as_slice-2.ensures, c.in_ok-packets.ensures) refl)

pub returns-in_ok-entry-in-Ok-clause-stands : goal.returns-in_ok-entry-in-Ok-clause-stands
returns-in_ok-entry-in-Ok-clause-stands c =
    λ setting before noted s is.
    let tested = inject-is setting before c.args.member c.args.channel c.args.to.now c.args.bytes.now
    (rw (s.given, c.as_slice.ensures) at (sym c.exist.ensures ∙ c.if-not-exist.false)) (rw s.given at (sym c.is_honest.ensures ∙ c.if-is_honest.false))
    ∙ (rw s.given at c.in-Ok.ensures.none) before (noted_bytes before c.args.member c.args.channel c.args.to.now c.args.bytes.now) s.records
    (rw (c.as_slice-2.ensures, c.in_ok-packets.ensures) refl) in
    rw (same-ok noted _ _ is tested)
    (network-spoke c.args.self.now _ setting before c.args.member c.args.channel c.args.to.now c.args.bytes.now _ _ refl refl refl refl refl s
    (member-below setting.setup c.args.member _ (rw s.given at (sym c.exist.ensures ∙ c.if-not-exist.false)))
    (rw s.given at (sym c.is_honest.ensures ∙ c.if-is_honest.false)) c.in_ok-packets.ensures
    (c.in_ok-entry-in-Ok.ensures.entry setting.setup before s.records ∙ ap (λ ps. spoken_entry (length before + 1) (node_of c.args.member) None ps) c.in_ok-packets.ensures) c.in_ok-entry-in-Ok.ensures.stands)

pub returns-in_ok-entry-in-Ok-clause-entry : goal.returns-in_ok-entry-in-Ok-clause-entry
returns-in_ok-entry-in-Ok-clause-entry c =
    λ setting before s.
    let tested = inject-is setting before c.args.member c.args.channel c.args.to.now c.args.bytes.now
    (rw (s.given, c.as_slice.ensures) at (sym c.exist.ensures ∙ c.if-not-exist.false)) (rw s.given at (sym c.is_honest.ensures ∙ c.if-is_honest.false))
    ∙ (rw s.given at c.in-Ok.ensures.none) before (noted_bytes before c.args.member c.args.channel c.args.to.now c.args.bytes.now) s.records
    (rw (c.as_slice-2.ensures, c.in_ok-packets.ensures) refl) in
    ap (λ r. entered r) tested ∙ ap (λ e. Ok e) (sym (c.in_ok-entry-in-Ok.ensures.entry setting.setup before s.records ∙ ap (λ ps. spoken_entry (length before + 1) (node_of c.args.member) None ps) c.in_ok-packets.ensures))
