-- What is left of one list of records, of which the first are synced.
use Rattle.std.proofs.Common.{◌≡◌, ◌≤◌, ℕ, ◌+◌, ◌-◌, ap, ◌∙◌, min, List, [], ◌++◌, length, take, drop, arith, length-drop}
use Rattle.std.proofs.lemmas.Grind.{common_steps}
use Rattle.std.proofs.Math.Seq.{take-add, take-length}
use Rattle.std.proofs.lemmas.List.{nil_from_length, length-take-le}
use Rattle.simplex_wire.specs.declared.artifact.Artifact.{Artifact}
use Rattle.simplex_journal.specs.Memory.{Lists}

-- The synced ones are first, and behind them the first pending ones.
pub take-kept : {X : Type 0} (items : List X) (synced keep : ℕ) → synced ≤ length items
    → take (synced + min keep (length items - synced)) items ≡ take synced items ++ take keep (drop synced items)
take-kept items synced keep within = grind (arith, common_steps, take-add synced (min keep (length items - synced)) items)

-- Behind the first so many none is left.
pub drop-kept : {X : Type 0} (items : List X) (n : ℕ) → n ≤ length items → drop n (take n items) ≡ []
drop-kept items n within = nil_from_length (drop n (take n items)) (omega (arith, length-drop n (take n items), length-take-le n items within))

-- The first so many of the first so many are these.
pub take-again : {X : Type 0} (items : List X) (n : ℕ) → n ≤ length items → take n (take n items) ≡ take n items
take-again items n within =
    ap (λ k. take k (take n items)) (let is : n ≡ length (take n items) = omega (arith, length-take-le n items within) in is) ∙ take-length (take n items)

-- Records that are cut behind the first pending ones, and are all synced.
pub crashed_records : (items left : List Artifact) (synced keep n : ℕ) → synced ≤ length items → n ≡ min keep (length items - synced) → left ≡ take (synced + n) items
    → let cut : Lists = record { synced = take (synced + n) left; pending = drop (synced + n) left } in
    cut ≡ record { synced = take synced items ++ take keep (drop synced items); pending = [] }
crashed_records items left synced keep n within count is =
    let fits : synced + n ≤ length items = omega arith in
    let kept : take (synced + n) left ≡ take synced items ++ take keep (drop synced items) =
    rw (is, take-again items (synced + n) fits, count) (take-kept items synced keep within) in
    let none : drop (synced + n) left ≡ [] = rw is (drop-kept items (synced + n) fits) in
    cc
