-- Certificates that are taken in, from the last to the first.
use Rattle.std.proofs.Common.{◌≡◌, ℕ, suc, ◌+◌, ◌<◌, ◌≤◌, ◌++◌, ◌∷◌, map, drop, length, get_or, List, ap, sym, ◌∙◌, arith}
use Rattle.std.proofs.Math.Seq.{drop-cons, drop-length}
use Rattle.simplex_wire.specs.declared.certificate.Certificate.{Certificate}
use Rattle.model_rules.specs.Known.{Fact, Added}
use Rattle.law_member.specs.Learned.{added_at}

-- none yet
pub all_left : (now : ℕ) (added : List Certificate) (known : List Fact) → known ≡ map (added_at now) (drop (length added) added) ++ known
all_left now added known = sym (ap (λ certificates. map (added_at now) certificates ++ known) (drop-length added))

-- all
pub none_left : (now left : ℕ) (added : List Certificate) (known : List Fact) → left ≤ 0
    → map (added_at now) (drop left added) ++ known ≡ map (added_at now) added ++ known
none_left now left added known le =
    let e : left ≡ 0 = omega (arith, le) in
    ap (λ at. map (added_at now) (drop at added) ++ known) e

-- one more
pub one_less : (now i left : ℕ) (added : List Certificate) (certificate : Certificate) (known : List Fact) → left ≡ i + 1 → i < length added
    → certificate ≡ get_or added i certificate
    → Added certificate now ∷ (map (added_at now) (drop left added) ++ known) ≡ map (added_at now) (drop i added) ++ known
one_less now i left added certificate known e below is =
    let behind : left ≡ suc i = omega (arith, e) in
    ap (λ c. Added c now ∷ (map (added_at now) (drop left added) ++ known)) is
    ∙ ap (λ at. Added (get_or added i certificate) now ∷ (map (added_at now) (drop at added) ++ known)) behind
    ∙ ap (λ certificates. map (added_at now) certificates ++ known) (sym (drop-cons added i certificate below))
