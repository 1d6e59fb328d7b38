-- What honest members of a cluster report as final.
use Rattle.std.specs.Prelude.{ℕ, Contains}
use Rattle.simplex_wire.specs.declared.certificate.Finalization.{Finalization}
use Rattle.simplex_types.specs.declared.activity.Activity.TheVariants as activities
use Rattle.simplex_messages.specs.declared.call.Call.TheVariants as calls
use Rattle.law_run.specs.OneChain.{AreOfOneChain}
use Rattle.law_cluster.specs.Signatures.{calls_of}
use Rattle.law_cluster.specs.Cluster.{Cluster, IsHonest}

-- an honest member reported it in one of its lives
abbrev pub IsReported : Cluster → Finalization → Type 0
IsReported c f = (member : ℕ) × IsHonest c member
    × Contains (calls_of (c.lives member)) (calls.Report (activities.Finalization f))

-- each two of these are of one chain
abbrev pub ReportOneChain : Cluster → Type 0
ReportOneChain c = (f g : Finalization) → IsReported c f → IsReported c g → AreOfOneChain f.proposal g.proposal
