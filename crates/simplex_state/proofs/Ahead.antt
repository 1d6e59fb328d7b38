-- The current view is not before what was pruned.
use Rattle.std.proofs.Common.{ℕ, ◌≤◌, List, [], ◌∷◌, arith}
use Rattle.simplex_values.specs.Terms.{greatest_view, next_of}
use Rattle.simplex_wire.specs.declared.certificate.Certificate.TheVariants as certificates
use Rattle.model_rules.specs.Lists.{greatest_of}
use Rattle.model_rules.specs.Known.{Made, Fact, Added}
use Rattle.model_rules.specs.Views.{last_finalized, current_of, least_active, finalized_view, opened_view}
use Rattle.simplex_state.specs.Progress.{progress_of}

-- a final view opens the next one
final_opens : (length : ℕ) (fact : Fact) → finalized_view fact ≤ greatest_view → finalized_view fact ≤ opened_view length fact
unfolding next_of
final_opens length (Added (certificates.Finalization f) now) low = omega (arith, low)
final_opens length (Added (certificates.Notarization f) now) low = omega arith
final_opens length (Added (certificates.Nullification f) now) low = omega arith
final_opens length _ low = omega arith

finals_open : (length : ℕ) (known : List Fact) → greatest_of finalized_view known ≤ greatest_view → greatest_of finalized_view known ≤ greatest_of (opened_view length) known
unfolding greatest_of
finals_open length [] low = omega arith
finals_open length (fact ∷ known) low = (let rest = finals_open length known (omega (arith, low)) in let here = final_opens length fact (omega (arith, low)) in omega (arith, rest, here))

-- the last final view is not later than the current one
pub last_below : (made : Made) (known : List Fact) → last_finalized known ≤ greatest_view → last_finalized known ≤ current_of made known
unfolding last_finalized current_of
last_below made known low = (let w = finals_open made.term_length known low in omega (arith, w))

-- what was pruned lies below each view from the current one on
pub pruned_below : (made : Made) (known : List Fact) → (progress_of made known).pruned ≤ least_active made known → last_finalized known ≤ greatest_view
    → (progress_of made known).pruned ≤ current_of made known
unfolding least_active
pruned_below made known active low = (let w = last_below made known low in omega (arith, active, w))
