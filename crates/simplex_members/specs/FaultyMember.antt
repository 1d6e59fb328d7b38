-- A faulty member without an engine that has heard these messages, the newest first.
use Rattle.std.specs.Prelude.{◌≡◌, ℕ, Bool, true, false, List, Option}
use Rattle.simplex_values.specs.declared.proposal.Subject.{Subject}
use Rattle.simplex_wire.specs.declared.attestation.Attestation.{Attestation}
use Rattle.simplex_types.specs.declared.keyed.Keyed.{Keyed}
use Rattle.simplex_types.specs.Keyed.{keyed_attests}
use Rattle.simplex_transcript.specs.declared.setup.Setup.{Setup}
use Rattle.simplex_transcript.specs.declared.setup.MemberKind.{MemberKind}
use Rattle.simplex_transcript.specs.declared.setup.MemberKind.TheVariants as kinds
use Rattle.model_run.specs.Members.{kind_of}
use Rattle.model_run.specs.Mocks.{Heard, attests_of, words_for, equivocator_of}
use Rattle.simplex_mocks.specs.Conflicting as conflicting
use Rattle.simplex_mocks.specs.Equivocating as equivocating
use Rattle.simplex_mocks.specs.Remembering as remembering
use Rattle.simplex_members.specs.Leading.{elects}
use Rattle.simplex_members.specs.declared.faulty_member.FaultyMember.{FaultyMember}
use Rattle.simplex_members.specs.declared.faulty_member.FaultyMember.TheVariants as faulty

-- it votes under another member's number
abbrev pub is_impersonator : MemberKind → Bool
is_impersonator kinds.Impersonator = true
is_impersonator _ = false

abbrev pub signs : Keyed → Subject → Option Attestation
signs scheme = keyed_attests scheme.key_base scheme.me

-- It is of the setup's kind for this member, and signs and draws as this member. An impersonator, a nuller, a
-- nullify-only member and a reconfigurer are seen as their schemes.
unfoldable pub FaultyStands : FaultyMember → Setup → ℕ → List Heard → Type 0
FaultyStands faulty.Silent setup member past = kind_of setup member ≡ kinds.Silent
FaultyStands (faulty.Conflicter c) setup member past =
    (kind_of setup member ≡ kinds.Conflicter)
    × conflicting.StandsFor signs c (attests_of setup member) (words_for setup member) past
FaultyStands (faulty.Equivocator e) setup member past =
    (kind_of setup member ≡ kinds.Equivocator)
    × equivocating.StandsFor signs (λ s. s.me) (λ s. s.participants) elects e (equivocator_of setup member) past
FaultyStands (faulty.Impersonator scheme) setup member past =
    (kind_of setup member ≡ kinds.Impersonator) × (signs scheme ≡ attests_of setup member)
FaultyStands (faulty.Nuller scheme) setup member past =
    (kind_of setup member ≡ kinds.Nuller) × (signs scheme ≡ attests_of setup member)
FaultyStands (faulty.NullifyOnly scheme) setup member past =
    (kind_of setup member ≡ kinds.NullifyOnly) × (signs scheme ≡ attests_of setup member)
FaultyStands (faulty.Outdated o) setup member past =
    (delta : ℕ) × (kind_of setup member ≡ kinds.Outdated delta)
    × remembering.StandsFor signs o (attests_of setup member) delta past
FaultyStands (faulty.Reconfigurer scheme) setup member past =
    (kind_of setup member ≡ kinds.Reconfigurer) × (signs scheme ≡ attests_of setup member)

-- whichever member it is, and whatever it has heard, this holds of it
abbrev pub OfItsPast : FaultyMember → (Setup → ℕ → List Heard → Type 0) → Type 0
OfItsPast member Holds =
    (setup : Setup) (number : ℕ) (past : List Heard) → FaultyStands member setup number past → Holds setup number past
