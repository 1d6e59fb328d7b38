use Rattle.std.proofs.Common.{◌≡◌, ◌==◌, ℕ, Bool, true, false, Some, None, refl, ap, sym, ◌∙◌, eqb-true, if◌then◌else◌}
use Rattle.model_log.specs.Ends.{end_in}
use Rattle.model_log.specs.Links.{links_of, finals_of}
use Rattle.model_log.specs.Log.{gap_at, gap_of, greatest}
use Rattle.simplex_log.specs.Stands.{StandsFor}
use Rattle.simplex_log.proofs.finalized_log.FinalizedLog.gap.Goals as goal

gap_some : (n : ℕ) → (n ≡ 0 → ⊥) → Some n ≡ gap_at n
gap_some n ne = at (n == 0) refl
  where
    at : (b : Bool) → (n == 0) ≡ b → Some n ≡ (if n == 0 then None else Some n)
    at true e = absurd (ne (eqb-true n 0 e))
    at false e = rw e refl

pub returns-then-self-eq0 : goal.returns-then-self-eq0
unfolding StandsFor gap_of
returns-then-self-eq0 g c = λ verifies taken stands.
    let links = links_of verifies taken in
    let kept = c.args.self.now.kept in
    let foot : kept.«end» ≡ end_in links (greatest (finals_of verifies taken)) = (stands.1).end_is ∙ ap (end_in links) (stands.1).last_is in
    sym (ap gap_at (sym foot ∙ c.if-self-eq0.true))

pub returns-else-self-eq0 : goal.returns-else-self-eq0
unfolding StandsFor gap_of
returns-else-self-eq0 g c = λ verifies taken stands.
    let links = links_of verifies taken in
    let kept = c.args.self.now.kept in
    let foot : kept.«end» ≡ end_in links (greatest (finals_of verifies taken)) = (stands.1).end_is ∙ ap (end_in links) (stands.1).last_is in
    gap_some kept.«end» c.if-self-eq0.false ∙ ap gap_at foot
