-- Loops that lead from one standing to another.
use Rattle.std.proofs.Common.{◌≡◌, ℕ, List, [], ◌∷◌, subst}
use Rattle.model_steps.specs.Batcher.{Made, Standing, Doing, worked, worked_all}
use Rattle.simplex_batcher.specs.Working.{with_lead, with_leads}

-- where the views so far led, and that those that are left lead from there where all lead
pub record Led (Stands : Standing → Type 0) (made : Made) (before : Standing) (all left : List ℕ) : Type 0 where
  pub standing : Standing
  pub stands : Stands standing
  pub ends : with_leads made left standing ≡ with_leads made all before

-- what was done so far, and that those that are left lead from there where all lead
pub record Done (Stands : Doing → Type 0) (made : Made) (before : Doing) (all left : List ℕ) : Type 0 where
  pub doing : Doing
  pub stands : Stands doing
  pub ends : worked_all made left doing ≡ worked_all made all before

-- one view more
pub led-item : (Before After : Standing → Type 0) (made : Made) (before : Standing) (all left rest : List ℕ) (x : ℕ)
    → left ≡ x ∷ rest → ((standing : Standing) → Before standing → After (with_lead made x standing))
    → Led Before made before all left → Led After made before all rest
led-item Before After made before all left rest x is item l =
    record { standing = with_lead made x l.standing; stands = item l.standing l.stands; ends = rw is at l.ends }

pub done-item : (Before After : Doing → Type 0) (made : Made) (before : Doing) (all left rest : List ℕ) (x : ℕ)
    → left ≡ x ∷ rest → ((doing : Doing) → Before doing → After (worked made x doing))
    → Done Before made before all left → Done After made before all rest
unfolding worked_all
done-item Before After made before all left rest x is item d =
    record { doing = worked made x d.doing; stands = item d.doing d.stands; ends = rw is at d.ends }

-- all views led
pub led-end : (Stands : Standing → Type 0) (made : Made) (before : Standing) (all left : List ℕ) → left ≡ [] → Led Stands made before all left → Stands (with_leads made all before)
led-end Stands made before all left none l =
    let e : l.standing ≡ with_leads made all before = rw none at l.ends in subst Stands e l.stands

pub done-end : (Stands : Doing → Type 0) (made : Made) (before : Doing) (all left : List ℕ) → left ≡ [] → Done Stands made before all left → Stands (worked_all made all before)
unfolding worked_all
done-end Stands made before all left none d =
    let e : d.doing ≡ worked_all made all before = rw none at d.ends in subst Stands e d.stands
