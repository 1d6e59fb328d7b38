-- How the scheme of a member of each kind fails it.
use Rattle.std.specs.Prelude.{Bool, true, Option}
use Rattle.simplex_values.specs.declared.proposal.Subject.{Subject}
use Rattle.simplex_wire.specs.declared.attestation.Attestation.{Attestation}
use Rattle.simplex_transcript.specs.declared.setup.MemberKind.{MemberKind}
use Rattle.simplex_transcript.specs.declared.setup.MemberKind.TheVariants as kinds
use Rattle.model_faults.specs.declared.behavior.Behavior.{Behavior}
use Rattle.model_faults.specs.declared.behavior.Behavior.TheVariants as behaviors
use Rattle.model_faults.specs.Wrapped as faults

abbrev pub behavior_of : MemberKind → Behavior
behavior_of kinds.Corrupt = behaviors.CorruptSignature
behavior_of kinds.Unrecovering = behaviors.RecoveryFailure
behavior_of _ = behaviors.Honest

-- what the scheme of a member of this kind attests, over the scheme inside
abbrev pub wrapped_attests : MemberKind → (Subject → Option Attestation)
    → (Subject → Attestation → Bool) → Subject → Option Attestation
wrapped_attests kind attests verifies subject = faults.wrapped_attests (behavior_of kind) attests verifies subject

-- whether it makes certificates of a quorum
abbrev pub wrapped_recovers : MemberKind → Bool
wrapped_recovers kind = faults.wrapped_recovers (behavior_of kind) true
