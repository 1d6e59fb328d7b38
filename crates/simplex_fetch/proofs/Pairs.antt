-- Pairs of a deadline and a view.
use Rattle.std.proofs.Common.{◌≡◌, ◌==◌, ℕ, ◌&&◌, arith}
use Rattle.std.proofs.lemmas.Grind.{common_steps}
use Rattle.std.specs.Cmp.{unsigned_tied}
use Rattle.std.specs.BTreeMap.{is_at}
use Rattle.simplex_fetch.specs.Index.{pair_cmp}

-- two pairs are equal where their parts are
pub pair_at : (d v : ℕ) (p : ℕ × ℕ) → is_at (pair_cmp (d, v)) p ≡ (p.0 == d && p.1 == v)
pair_at d v p = grind (arith, common_steps, unsigned_tied d p.0, unsigned_tied v p.1)
