-- Whom the reports of a run do not blame.
use Rattle.std.specs.Prelude.{List, [], ◌∷◌, ◌++◌, All, if◌then◌else◌}
use Rattle.simplex_transcript.specs.declared.node.Node.{Node}
use Rattle.simplex_messages.specs.declared.handed.Handed.{Handed}
use Rattle.model_steps.specs.Batcher.{Made, Timed, step_out}
use Rattle.model_run.specs.Life.{Noted, is_of}
use Rattle.law_agreement.specs.World.{Sent}
use Rattle.law_member.specs.Life.{AreSent}
use Rattle.law_run.specs.Histories.{calls_of}
use Rattle.law_member.specs.Evidence.{BlameNot, subjects_of}
use Rattle.law_member.specs.Wire.{Fits, AreItsOwn}

-- all that the actors of a node handed on, in order
unfoldable pub handed_of : Node → List Noted → List Handed
handed_of node [] = []
handed_of node (noted ∷ before) =
    if is_of node noted.event then handed_of node before ++ noted.entry.handed else handed_of node before

-- The packets of the node are votes on these subjects. Where these fit, a batcher that is given nothing under the
-- member's name but what the node sent and handed on reports no evidence that names the member
pub record IsNotBlamed (noted : List Noted) (node : Node) : Type 0 where
  pub sent : List Sent
  pub packets : AreSent (calls_of node noted) (subjects_of sent)
  pub spared : All Fits (subjects_of sent) → (made : Made) (past : List Timed) (given : Timed)
      → AreItsOwn node.member (calls_of node noted) (handed_of node noted) (given ∷ past)
      → BlameNot node.member (step_out made past given).calls
