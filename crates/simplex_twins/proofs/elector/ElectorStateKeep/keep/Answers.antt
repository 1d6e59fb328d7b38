use Rattle.std.proofs.Common.{IsTrue}
use Rattle.std.proofs.Props.{props}
use Rattle.simplex_twins.specs.Leaders.{are_members}
use Rattle.simplex_twins.proofs.States.{same_fields}
use Rattle.simplex_twins.proofs.elector.ElectorStateKeep.keep.Goals as goal

-- src/elector.rt:152:5
pub returns : goal.returns
returns g c = same_fields (λ fallback leaders. IsTrue (are_members leaders (g.E.Elector.built_for fallback))) (λ fallback leaders members. record { fallback = fallback; leaders = leaders; members = members }) (λ a b. hlevel props) _ _ _ _ c.in_ok-keep.ensures c.in_ok-keep-2.ensures _ c.args.self.now.members
