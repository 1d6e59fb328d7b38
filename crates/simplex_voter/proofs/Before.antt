-- The view before the current one is active.
use Rattle.std.proofs.Common.{◌≡◌, ℕ, ◌+◌, ◌-◌, ◌<◌, ◌≤◌, ◌^◌, min, max, List, [], ◌∷◌, true, arith}
use Rattle.std.proofs.lemmas.Bool.Decides.{nat_tests}
use Rattle.simplex_values.specs.Terms.{next_of}
use Rattle.model_rules.specs.Known.{Made, Fact, Added, Judged}
use Rattle.simplex_wire.specs.declared.certificate.Certificate.TheVariants as certificates
use Rattle.model_rules.specs.Lists.{greatest_of}
use Rattle.model_rules.specs.Views.{finalized_view, opened_view, last_finalized, current_of, least_active, admits_certificate}

-- what opens a view is at least one above what is final, up to the greatest view
fact-opens : (length : ℕ) (fact : Fact) → min (finalized_view fact + 1) (2 ^ 64 - 1) ≤ max 1 (opened_view length fact)
unfolding next_of
fact-opens length (Added (certificates.Finalization f) now) = omega arith
fact-opens length (Added (certificates.Nullification n) now) = omega arith
fact-opens length (Judged view true now) = omega arith
fact-opens length _ = omega arith

pub final-opened : (length : ℕ) (known : List Fact) → min (greatest_of finalized_view known + 1) (2 ^ 64 - 1) ≤ max 1 (greatest_of (opened_view length) known)
unfolding greatest_of
final-opened length [] = omega arith
final-opened length (fact ∷ known) = omega (arith, fact-opens length fact, final-opened length known)

pub before-admitted : (made : Made) (known : List Fact) → 0 < made.retention → last_finalized known < 2 ^ 64
    → admits_certificate made known (current_of made known - 1) ≡ true
unfolding admits_certificate least_active last_finalized current_of
before-admitted made known retains fits = grind (arith, nat_tests, final-opened made.term_length known)
