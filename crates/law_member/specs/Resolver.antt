-- What is asked for, and why.
use Rattle.std.specs.Prelude.{◌≡◌, ℕ, true, false, List, All}
use Rattle.std.specs.Option.{IfSome}
use Rattle.simplex_values.specs.declared.ask.Ask.{Ask}
use Rattle.simplex_values.specs.declared.ask.Kind.TheVariants as kinds
use Rattle.simplex_values.specs.declared.ask.Until.TheVariants as untils
use Rattle.model_rules.specs.Repair.{RepairCall, is_gap, is_settled}
use Rattle.model_resolver.specs.Views.{entry_at}
use Rattle.model_resolver.specs.Resolver.{Made, Standing}

-- the ask for the view has no answer yet
abbrev pub IsUnsettled : ℕ → List RepairCall → ℕ → Ask → Type 0
IsUnsettled length held view ask = is_settled length held view ask.kind ≡ false

-- where the ask stands until the floor, it is for the nullification of the view, and the view is a gap
abbrev pub IsForGap : ℕ → List RepairCall → ℕ → Ask → Type 0
IsForGap length held view ask = ask.until ≡ untils.Floor
    → (ask.kind ≡ kinds.Nullification) × (is_gap length held view ≡ true)

-- each ask for the view that a resolver has given its fetcher, and that still stands, is so
abbrev pub AllAsks : Made → Standing → ℕ → (ℕ → List RepairCall → ℕ → Ask → Type 0) → Type 0
AllAsks made standing view Is =
    IfSome (entry_at standing.fetcher.views view)
    (λ entry. All (λ arrival. Is made.term standing.held view arrival.ask) entry.arrivals)
