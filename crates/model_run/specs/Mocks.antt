-- What a faulty member without an engine sends when it hears a packet.
use Rattle.std.specs.Prelude.{ℕ, List, [], Option, Some}
use Rattle.simplex_values.specs.declared.proposal.Subject.{Subject}
use Rattle.simplex_wire.specs.declared.attestation.Attestation.{Attestation}
use Rattle.simplex_types.specs.Keyed.{keyed_attests}
use Rattle.simplex_transcript.specs.declared.setup.Setup.{Setup}
use Rattle.simplex_transcript.specs.declared.setup.MemberKind.{MemberKind}
use Rattle.simplex_transcript.specs.declared.setup.MemberKind.TheVariants as kinds
pub use Rattle.model_faults.specs.declared.sent.Sent.{Sent}
pub use Rattle.model_faults.specs.Heard.{Heard}
use Rattle.model_faults.specs.Words.{Words, words_of, member_seed}
use Rattle.model_faults.specs.Conflicter.{conflicter_sends}
use Rattle.model_faults.specs.Equivocator.{equivocator_sends}
use Rattle.model_faults.specs.Equivocator as equivocator
use Rattle.model_faults.specs.Impersonator.{impersonator_sends}
use Rattle.model_faults.specs.Nuller.{nuller_sends}
use Rattle.model_faults.specs.NullifyOnly.{nullify_only_sends}
use Rattle.model_faults.specs.Outdated.{outdated_sends}
use Rattle.model_faults.specs.Reconfigurer.{reconfigurer_sends}
use Rattle.model_run.specs.Kinds.{members_of}
use Rattle.model_run.specs.Twins.{elected}

-- what the member signs, and its random words
abbrev pub attests_of : Setup → ℕ → Subject → Option Attestation
attests_of setup member = keyed_attests setup.key_base (Some member)

abbrev pub words_for : Setup → ℕ → Words
words_for setup member = words_of (member_seed setup.key_base member)

-- what an equivocator was made with
abbrev pub equivocator_of : Setup → ℕ → equivocator.Made
equivocator_of setup member =
    record {
      attests = attests_of setup member;
      leader = elected setup;
      me = Some member;
      members = members_of setup;
      epoch = setup.epoch;
      words = words_for setup member;
    }

-- what this member, of this kind, sends for what it hears now, behind what it heard before, the newest first
unfoldable pub heard_by : Setup → ℕ → MemberKind → List Heard → Heard → List Sent
heard_by setup member kinds.Conflicter past now =
    conflicter_sends (attests_of setup member) (words_for setup member) past now
heard_by setup member kinds.Equivocator past now = equivocator_sends (equivocator_of setup member) past now
heard_by setup member kinds.Impersonator past now = impersonator_sends (attests_of setup member) now
heard_by setup member kinds.Nuller past now = nuller_sends (attests_of setup member) now
heard_by setup member kinds.NullifyOnly past now = nullify_only_sends (attests_of setup member) now
heard_by setup member (kinds.Outdated delta) past now = outdated_sends (attests_of setup member) delta past now
heard_by setup member kinds.Reconfigurer past now = reconfigurer_sends (attests_of setup member) now
heard_by setup member kind past now = []
