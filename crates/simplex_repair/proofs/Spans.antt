-- Ranges of views, one view more.
use Rattle.std.proofs.Common.{◌≡◌, ℕ, zero, suc, ◌+◌, ◌<◌, ◌≤◌, ◌==◌, ◌&&◌, ◌||◌, max, if◌then◌else◌, true, false, Option, Some, None, arith}
use Rattle.std.proofs.lemmas.Grind.{common_steps}
use Rattle.std.specs.Option.{is_some, option_or, option_map}
use Rattle.std.specs.Prelude.{unwrap_or}
use Rattle.simplex_repair.specs.Taken.{last_at, reaches}

-- what is there is the last
pub last_here : (lasts : ℕ → Option ℕ) (n e : ℕ) → lasts n ≡ Some e → last_at lasts n ≡ Some e
unfolding last_at
last_here lasts zero e h = h
last_here lasts (suc n) e h = grind (arith, common_steps, h)

-- where nothing follows, it stays the last
pub last_up_to : (lasts : ℕ → Option ℕ) (first e n : ℕ) → lasts first ≡ Some e → first ≤ n → ((q : ℕ) → first < q → q ≤ n → lasts q ≡ None) → last_at lasts n ≡ Some e
unfolding last_at
last_up_to lasts first e zero h le free = grind (arith, common_steps, h, le)
last_up_to lasts first e (suc n) h le free =
    grind (arith, common_steps, h, le, last_here lasts first e h, free (suc n), last_up_to lasts first e n h)

-- where nothing stands there is none
pub last_none : (lasts : ℕ → Option ℕ) (n : ℕ) → ((q : ℕ) → q ≤ n → lasts q ≡ None) → last_at lasts n ≡ None
unfolding last_at
last_none lasts zero none = none 0 (omega arith)
last_none lasts (suc n) none = (let here = none (suc n) (omega arith) in let rest = last_none lasts n (λ q l. none q (omega (arith, l))) in grind (arith, common_steps, here, rest))

-- a range goes on from its first view over this one, and what stood behind the view is cut off
pub record Joins (old new : ℕ → Option ℕ) (first view last : ℕ) (cut : Option ℕ) : Type 0 where
  pub open_at : reaches (last_at old view) view ≡ false
  pub bound : first ≤ view
  pub free : (q : ℕ) → first < q → q ≤ view → old q ≡ None
  pub before : (q : ℕ) → first ≤ q → q < view → reaches (last_at old q) q ≡ true
  pub cut_is : (e : ℕ) → cut ≡ Some e → old (view + 1) ≡ Some e
  pub last_is : last ≡ unwrap_or (option_map (max view) cut) view
  pub new_is : (q : ℕ) → new q ≡ (if first == q then Some last else if is_some cut && view + 1 == q then None else old q)

below : (old new : ℕ → Option ℕ) (first view last : ℕ) (cut : Option ℕ) → Joins old new first view last cut → (q : ℕ) → q < first → last_at new q ≡ last_at old q
unfolding last_at
below old new first view last cut j zero lt = grind (arith, common_steps, lt, j.new_is 0, j.bound)
below old new first view last cut j (suc q) lt = grind (arith, common_steps, lt, j.new_is (suc q), j.bound, below old new first view last cut j q)

inside : (old new : ℕ → Option ℕ) (first view last : ℕ) (cut : Option ℕ) → Joins old new first view last cut → (q : ℕ) → first ≤ q → q ≤ view → last_at new q ≡ Some last
inside old new first view last cut j q le up =
    last_up_to new first last q (grind (arith, common_steps, j.new_is first)) le (λ t l h. grind (arith, common_steps, j.new_is t, j.free t, l, h, up))

-- the new range reaches behind the view what the old one there reached
reach_same : (cut before : Option ℕ) (view last w : ℕ) → last ≡ unwrap_or (option_map (max view) cut) view → reaches before view ≡ false → view < w
    → reaches (Some last) w ≡ reaches (option_or cut before) w
unfolding reaches
reach_same None None view last w e o lt = grind (arith, common_steps, e, lt)
reach_same None (Some b) view last w e o lt = grind (arith, common_steps, e, o, lt)
reach_same (Some c) before view last w e o lt = grind (arith, common_steps, e, lt)

behind : (old new : ℕ → Option ℕ) (first view last : ℕ) (cut : Option ℕ) → Joins old new first view last cut → (q w : ℕ) → view < q → view < w
    → reaches (last_at new q) w ≡ reaches (last_at old q) w
unfolding last_at
behind old new first view last cut j zero w lt up = absurd (omega (arith, lt))
behind old new first view last cut j (suc q) w lt up =
    grind (
      arith,
      common_steps,
      lt,
      j.bound,
      j.new_is (suc q),
      j.cut_is,
      inside old new first view last cut j view j.bound,
      reach_same cut (last_at old view) view last w j.last_is j.open_at up,
      behind old new first view last cut j q w,
    )

at_view : (old new : ℕ → Option ℕ) (first view last : ℕ) (cut : Option ℕ) → Joins old new first view last cut → view ≤ last
at_view old new first view last None j = grind (arith, common_steps, j.last_is)
at_view old new first view last (Some c) j = grind (arith, common_steps, j.last_is)

pub joined : (old new : ℕ → Option ℕ) (first view last : ℕ) (cut : Option ℕ) → Joins old new first view last cut → (q : ℕ)
    → reaches (last_at new q) q ≡ (view == q || reaches (last_at old q) q)
unfolding reaches
joined old new first view last cut j q =
    grind (
      arith,
      common_steps,
      j.bound,
      j.before q,
      below old new first view last cut j q,
      inside old new first view last cut j q,
      behind old new first view last cut j q q,
      at_view old new first view last cut j,
    )
