-- Loops that lead from what was done to what is done.
use Rattle.std.proofs.Common.{◌≡◌, List, [], ◌∷◌, ◌∙◌, ap, subst}
use Rattle.model_resolver.specs.declared.out.Out.{Out}
use Rattle.model_resolver.specs.declared.retire.Retire.{Retire}
use Rattle.simplex_resolver.specs.declared.work.Work.{Work}
use Rattle.model_resolver.specs.Resolver.{Doing, called, called_all, minded, minded_all, retiring, retiring_all}
use Rattle.simplex_resolver.specs.Stands.{work_of}

-- what was done so far, and that what is left leads from there where all leads
pub record Called (work : Work) (before : Doing) (all left : List Out) : Type 0 where
  pub doing : Doing
  pub does : work ≡ work_of doing
  pub ends : called_all left doing ≡ called_all all before

pub record Minded (Stands : Doing → Type 0) (before : Doing) (all left : List Out) : Type 0 where
  pub doing : Doing
  pub stands : Stands doing
  pub ends : minded_all left doing ≡ minded_all all before

pub record Retired (Stands : Doing → Type 0) (before : Doing) (all left : List Retire) : Type 0 where
  pub doing : Doing
  pub stands : Stands doing
  pub ends : retiring_all left doing ≡ retiring_all all before

-- one more
pub called-item : (work next : Work) (before : Doing) (all left rest : List Out) (x : Out)
    → left ≡ x ∷ rest → ((doing : Doing) → work ≡ work_of doing → next ≡ work_of (called x doing))
    → Called work before all left → Called next before all rest
unfolding called_all
called-item work next before all left rest x is item d =
    record { doing = called x d.doing; does = item d.doing d.does; ends = rw is at d.ends }

pub minded-item : (Before After : Doing → Type 0) (before : Doing) (all left rest : List Out) (x : Out)
    → left ≡ x ∷ rest → ((doing : Doing) → Before doing → After (minded x doing))
    → Minded Before before all left → Minded After before all rest
unfolding minded_all
minded-item Before After before all left rest x is item d =
    record { doing = minded x d.doing; stands = item d.doing d.stands; ends = rw is at d.ends }

pub retired-item : (Before After : Doing → Type 0) (before : Doing) (all left rest : List Retire) (x : Retire)
    → left ≡ x ∷ rest → ((doing : Doing) → Before doing → After (retiring x doing))
    → Retired Before before all left → Retired After before all rest
unfolding retiring_all
retired-item Before After before all left rest x is item d =
    record { doing = retiring x d.doing; stands = item d.doing d.stands; ends = rw is at d.ends }

-- none is left
pub called-end : (work : Work) (before : Doing) (all left : List Out) → left ≡ [] → Called work before all left → work ≡ work_of (called_all all before)
unfolding called_all
called-end work before all left none d =
    let e : d.doing ≡ called_all all before = rw none at d.ends in d.does ∙ ap work_of e

pub minded-end : (Stands : Doing → Type 0) (before : Doing) (all left : List Out) → left ≡ [] → Minded Stands before all left → Stands (minded_all all before)
unfolding minded_all
minded-end Stands before all left none d =
    let e : d.doing ≡ minded_all all before = rw none at d.ends in subst Stands e d.stands

pub retired-end : (Stands : Doing → Type 0) (before : Doing) (all left : List Retire) → left ≡ [] → Retired Stands before all left → Stands (retiring_all all before)
unfolding retiring_all
retired-end Stands before all left none d =
    let e : d.doing ≡ retiring_all all before = rw none at d.ends in subst Stands e d.stands
