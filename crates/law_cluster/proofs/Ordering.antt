-- The votes of all lives of a member are those of one life, which are in order.
use Rattle.std.proofs.Common.{ℕ, ◌<◌, List, sym, subst}
use Rattle.std.specs.List.{flat_map}
use Rattle.law_agreement.specs.Member.{newborn, run}
use Rattle.law_agreement.proofs.Invariant.{sent_in_order, sent_alone}
use Rattle.law_member.specs.Evidence.{subjects_of}
use Rattle.law_member.specs.Life.{AreSent}
use Rattle.law_run.proofs.Agreeing.{into_flat_map}
use Rattle.law_cluster.specs.Lives.{Group, Life, AreLives}
use Rattle.law_cluster.specs.Signatures.{calls_of}
use Rattle.law_cluster.specs.Order.{IsWellSent}
use Rattle.law_cluster.proofs.Living.{floor_in, lives_lived}

pub well_sent : (group : Group) (member : ℕ) (lives : List Life) → 0 < group.term → AreLives group member lives → IsWellSent group lives
well_sent group member lives pos are =
    let l = lives_lived group member (flat_map floor_in lives) lives are (λ x k c m. into_flat_map floor_in lives x c k m) in
    record {
      votes = (run newborn l.calls).sent;
      sent = subst (λ xs. AreSent (calls_of lives) (subjects_of xs)) (sym l.sends) l.votes;
      alone = sent_alone group.term pos l.calls l.legal;
      order = sent_in_order group.term pos l.calls l.legal;
    }
