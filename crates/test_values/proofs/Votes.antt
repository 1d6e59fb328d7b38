-- Facts of three votes.
use Rattle.std.proofs.Common.{◌<◌, ℕ, zero, suc, [], ◌∷◌, slice_index_or, arith}

-- a fact of three votes, at each place of their list
pub at_each : {A : Type 0} → (P : A → Type 0) (x y z : A) → P x → P y → P z → (k : ℕ) (d : A) → k < 3 → P (slice_index_or (x ∷ y ∷ z ∷ []) k d)
at_each P x y z a b c zero d h = a
at_each P x y z a b c (suc zero) d h = b
at_each P x y z a b c (suc (suc zero)) d h = c
at_each P x y z a b c (suc (suc (suc k))) d h = absurd (omega arith)
