-- Which certificates are held.
use Rattle.std.specs.Prelude.{ℕ, Bool, List, Option, Some, None, if◌then◌else◌}
use Rattle.std.specs.Option.{option_map, option_and_then}
use Rattle.simplex_wire.specs.declared.certificate.Notarization.{Notarization}
use Rattle.simplex_wire.specs.declared.certificate.Nullification.{Nullification}
use Rattle.simplex_wire.specs.declared.certificate.Finalization.{Finalization}
use Rattle.simplex_wire.specs.declared.certificate.CertificateKind.TheVariants as kinds
use Rattle.model_rules.specs.Known.{Fact, notarization_of, nullification_of, finalization_of, was_broadcast}
use Rattle.simplex_state.specs.declared.held.Held.{Held}

-- this certificate, and whether it was sent
abbrev pub held : {C : Type 0} → Bool → C → Held C
held sent certificate = record { certificate = certificate; sent = sent }

-- the certificate, where it has still to be sent
abbrev pub unsent_in : {C : Type 0} → Option (Held C) → Option C
unsent_in kept = option_and_then (λ h. if h.sent then None else Some h.certificate) kept

abbrev pub certificate_in : {C : Type 0} → Option (Held C) → Option C
certificate_in kept = option_map (λ h. h.certificate) kept

-- the certificates of a view, and whether they were sent
unfoldable pub held_notarization : List Fact → ℕ → Option (Held Notarization)
held_notarization known view =
    option_map (held (was_broadcast known kinds.Notarization view)) (notarization_of known view)

unfoldable pub held_nullification : List Fact → ℕ → Option (Held Nullification)
held_nullification known view =
    option_map (held (was_broadcast known kinds.Nullification view)) (nullification_of known view)

unfoldable pub held_finalization : List Fact → ℕ → Option (Held Finalization)
held_finalization known view =
    option_map (held (was_broadcast known kinds.Finalization view)) (finalization_of known view)
