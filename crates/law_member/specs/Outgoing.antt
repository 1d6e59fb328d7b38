-- What a step sends and reports.
use Rattle.std.specs.Prelude.{ℕ, ◌≡◌, List, Contains}
use Rattle.simplex_values.specs.declared.plan.Channel.TheVariants as channels
use Rattle.simplex_values.specs.declared.plan.Recipients.TheVariants as recipients
use Rattle.simplex_wire.specs.declared.certificate.Certificate.{Certificate}
use Rattle.simplex_wire.specs.declared.certificate.Certificate.TheVariants as certificates
use Rattle.simplex_wire.specs.Message as format
use Rattle.simplex_types.specs.declared.activity.Activity.TheVariants as activities
use Rattle.simplex_messages.specs.declared.call.Call.{Call}
use Rattle.simplex_messages.specs.declared.call.Call.TheVariants as calls
use Rattle.model_rules.specs.Known.{Fact, Added}

-- the certificate was added, whenever that was
abbrev pub IsAdded : List Fact → Certificate → Type 0
IsAdded known certificate = (now : ℕ) × Contains known (Added certificate now)

-- Of what a step sends and reports: a vote; a certificate that was added, which goes to all; and the report of one.
-- Nothing goes out on the resolver's channel, and nothing else is reported
abbrev pub MayGoOut : List Fact → Call → Type 0
MayGoOut known (calls.Send channels.Vote to bytes) = Unit {0}
MayGoOut known (calls.Send channels.Certificate to bytes) =
    (certificate : Certificate) × IsAdded known certificate
    × (bytes ≡ format.certificate.spelling certificate) × (to ≡ recipients.All)
MayGoOut known (calls.Send channels.Resolver to bytes) = ⊥
MayGoOut known (calls.Report (activities.Notarization n)) = IsAdded known (certificates.Notarization n)
MayGoOut known (calls.Report (activities.Certification n)) = IsAdded known (certificates.Notarization n)
MayGoOut known (calls.Report (activities.Nullification n)) = IsAdded known (certificates.Nullification n)
MayGoOut known (calls.Report (activities.Finalization f)) = IsAdded known (certificates.Finalization f)
MayGoOut known (calls.Report _) = ⊥
MayGoOut known _ = Unit {0}
