-- The words for what has a name.
use Rattle.std.specs.Prelude.{ℕ, List, codes}
use Rattle.simplex_types.specs.declared.cause.BlockCause.{BlockCause}
use Rattle.simplex_types.specs.declared.cause.BlockCause.TheVariants as causes
use Rattle.simplex_types.specs.declared.activity.Activity.{Activity}
use Rattle.simplex_types.specs.declared.activity.Activity.TheVariants as activities
use Rattle.simplex_wire.specs.declared.artifact.Artifact.{Artifact}
use Rattle.simplex_wire.specs.declared.artifact.Artifact.TheVariants as artifacts

abbrev pub record_word : Artifact → List ℕ
record_word (artifacts.Notarize v) = codes "notarize"
record_word (artifacts.Notarization c) = codes "notarization"
record_word (artifacts.Certification round good) = codes "certification"
record_word (artifacts.Nullify v) = codes "nullify"
record_word (artifacts.Nullification c) = codes "nullification"
record_word (artifacts.Finalize v) = codes "finalize"
record_word (artifacts.Finalization c) = codes "finalization"

abbrev pub report_word : Activity → List ℕ
report_word (activities.Notarize v) = codes "notarize"
report_word (activities.Notarization c) = codes "notarization"
report_word (activities.Certification c) = codes "certification"
report_word (activities.Nullify v) = codes "nullify"
report_word (activities.Nullification c) = codes "nullification"
report_word (activities.Finalize v) = codes "finalize"
report_word (activities.Finalization c) = codes "finalization"
report_word (activities.ConflictingNotarize e) = codes "evidence ConflictingNotarize"
report_word (activities.ConflictingFinalize e) = codes "evidence ConflictingFinalize"
report_word (activities.NullifyFinalize e) = codes "evidence NullifyFinalize"

abbrev pub cause_word : BlockCause → List ℕ
cause_word causes.Undecodable = codes "undecodable bytes"
cause_word causes.WrongEpoch = codes "a wrong epoch"
cause_word causes.InvalidCertificate = codes "an invalid certificate"
cause_word causes.WrongSender = codes "a vote of another signer"
cause_word causes.ConflictingVotes = codes "conflicting votes"
cause_word causes.NullifyAndFinalize = codes "nullifying and finalizing"
cause_word causes.InvalidSignature = codes "an invalid signature"
cause_word causes.LeaderConflict = codes "a contradicted proposal"
cause_word causes.InvalidResponse = codes "an invalid response"
