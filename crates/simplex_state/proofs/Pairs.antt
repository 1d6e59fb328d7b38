-- Pairs of views.
use Rattle.std.proofs.Common.{◌≡◌, ◌==◌, ℕ, ◌&&◌, arith}
use Rattle.std.proofs.lemmas.Grind.{common_steps}
use Rattle.std.specs.Cmp.{unsigned_tied}
use Rattle.std.specs.BTreeMap.{is_at}
use Rattle.simplex_state.specs.Missing.{pair_cmp}

-- two pairs are equal where their parts are
pub pair_at : (first second : ℕ) (p : ℕ × ℕ) → is_at (pair_cmp (first, second)) p ≡ (p.0 == first && p.1 == second)
pair_at first second p = grind (arith, common_steps, unsigned_tied first p.0, unsigned_tied second p.1)
