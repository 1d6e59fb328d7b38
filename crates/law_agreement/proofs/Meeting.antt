-- Two quorums share a member that is not faulty.
use Rattle.std.proofs.Common.{◌≡◌, ℕ, ◌<◌, ◌≤◌, true, false, List, length, Contains, arith}
use Rattle.simplex_values.specs.Quorum.{max_faulty, quorum_of}
use Rattle.law_agreement.specs.Quorums.{IsQuorum}
use Rattle.law_agreement.proofs.Counting.{has, has_Contains, has-from_Contains, count_from, count_from-has, rising_count, RisesFrom-increasing, Found, found}

-- a quorum has as many members as it is long
quorum_count : (n : ℕ) (a : List ℕ) → IsQuorum n a → quorum_of n ≤ count_from (has a) 0 n
quorum_count n a q =
    let long : length a ≤ count_from (has a) 0 n = rising_count 0 n a (RisesFrom-increasing 0 a (λ h. omega arith) q.rising) (λ j d lt. omega (arith, q.members j d lt)) in
    omega (arith, long, q.enough)

pub record Meets (n : ℕ) (faulty a b : List ℕ) : Type 0 where
  pub member : ℕ
  pub below : member < n
  pub first : Contains a member
  pub second : Contains b member
  pub good : ¬ (Contains faulty member)

pub quorums_meet : (n : ℕ) (faulty a b : List ℕ) → 0 < n → length faulty ≤ max_faulty n → IsQuorum n a → IsQuorum n b → Meets n faulty a b
quorums_meet n faulty a b pos few qa qb =
    let bad : count_from (has faulty) 0 n ≤ length faulty = count_from-has faulty 0 n in
    let ca : quorum_of n ≤ count_from (has a) 0 n = quorum_count n a qa in
    let cb : quorum_of n ≤ count_from (has b) 0 n = quorum_count n b qb in
    let f : Found (has a) (has b) (has faulty) 0 n = found (has a) (has b) (has faulty) 0 n (omega (arith, bad, ca, cb, few)) in
    record {
      member = f.at;
      below = omega (arith, f.below);
      first = has_Contains a f.at f.first;
      second = has_Contains b f.at f.second;
      good = λ c. let yes' : has faulty f.at ≡ true = has-from_Contains faulty f.at c in let no' : has faulty f.at ≡ false = f.good in cc;
    }
