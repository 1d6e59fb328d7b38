-- A node of a run is a member that no batcher blames.
use Rattle.std.proofs.Common.{◌≡◌, ◌<◌, Bool, true, false, List, [], ◌∷◌, ◌++◌, refl, if◌then◌else◌}
use Rattle.simplex_transcript.specs.declared.node.Node.{Node}
use Rattle.model_run.specs.Setting.{Setting}
use Rattle.model_run.specs.Life.{Noted, is_of}
use Rattle.law_agreement.specs.World.{Sent}
use Rattle.law_agreement.specs.Member.{newborn, run}
use Rattle.law_agreement.proofs.Invariant.{sent_in_order}
use Rattle.law_member.specs.Life.{AreVotesSent}
use Rattle.law_member.proofs.Constructing.{AreVotesSent-append}
use Rattle.law_run.specs.Histories.{AreConstructed, IsLivedBy, calls_of}
use Rattle.law_run.specs.Evidence.{handed_of, IsNotBlamed}
use Rattle.law_member.proofs.Arriving.{authentic}
use Rattle.law_member.proofs.Blaming.{not_blamed}

-- each own vote that the node handed on was sent
handed_sent : (node : Node) (noted : List Noted) (sent : List Sent) → AreConstructed node noted sent → AreVotesSent sent (handed_of node noted)
unfolding handed_of AreConstructed
handed_sent node [] sent h = tt
handed_sent node (noted ∷ before) sent h = at (is_of node noted.event) refl (handed_sent node before sent h.1)
  where
    at : (b : Bool) → is_of node noted.event ≡ b → AreVotesSent sent (handed_of node before)
        → AreVotesSent sent (if b then handed_of node before ++ noted.entry.handed else handed_of node before)
    at true e rest = AreVotesSent-append sent (handed_of node before) noted.entry.handed rest (h.0 e)
    at false e rest = rest

pub node_spared : (setting : Setting) (noted : List Noted) (node : Node) → 0 < setting.setup.term → IsLivedBy setting noted node → IsNotBlamed noted node
node_spared setting noted node pos lived =
    let sent : List Sent = (run newborn lived.calls).sent in
    record {
      sent = sent;
      packets = lived.votes;
      spared = λ fits made past given own.
          not_blamed made past given node.member setting.setup.term sent (sent_in_order setting.setup.term pos lived.calls lived.legal)
          (authentic node.member (calls_of node noted) (handed_of node noted) sent fits lived.votes (handed_sent node noted sent lived.constructed) (given ∷ past) own);
    }
