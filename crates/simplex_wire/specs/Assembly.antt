-- The certificates that are assembled from votes.
use Rattle.std.specs.Prelude.{List, Result, Ok, Err}
use Rattle.simplex_wire.specs.declared.scheme.AssemblyError.{AssemblyError}
use Rattle.simplex_wire.specs.declared.attestation.Attestation.{Attestation}
use Rattle.simplex_values.specs.declared.proposal.Proposal.{Proposal}
use Rattle.simplex_values.specs.declared.round.Round.{Round}
use Rattle.simplex_wire.specs.declared.certificate.Notarization.{Notarization}
use Rattle.simplex_wire.specs.declared.certificate.Nullification.{Nullification}
use Rattle.simplex_wire.specs.declared.certificate.Finalization.{Finalization}

-- the certificate of this proposal or round that assembling gave
abbrev pub notarization_of : Proposal → Result (List Attestation) AssemblyError → Result Notarization AssemblyError
notarization_of proposal (Ok list) = Ok (record { proposal = proposal; certificate = list })
notarization_of proposal (Err e) = Err e

abbrev pub nullification_of : Round → Result (List Attestation) AssemblyError → Result Nullification AssemblyError
nullification_of round (Ok list) = Ok (record { round = round; certificate = list })
nullification_of round (Err e) = Err e

abbrev pub finalization_of : Proposal → Result (List Attestation) AssemblyError → Result Finalization AssemblyError
finalization_of proposal (Ok list) = Ok (record { proposal = proposal; certificate = list })
finalization_of proposal (Err e) = Err e
