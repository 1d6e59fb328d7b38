-- That requests on view 0 name the genesis digest.
use Rattle.std.specs.Prelude.{ℕ, ◌≡◌, List}
use Rattle.simplex_values.specs.declared.round.Context.{Context}
use Rattle.model_rules.specs.declared.request.Asked.{Asked}
use Rattle.model_rules.specs.declared.request.Asked.TheVariants as asks
use Rattle.model_run.specs.Life.{Noted}
use Rattle.law_run.specs.Sayings.{Each}

-- where the parent is view 0 its payload is this digest
abbrev pub IsRootedContext : List ℕ → Context → Type 0
IsRootedContext genesis context = context.parent.view ≡ 0 → context.parent.payload ≡ genesis

-- so it is with the request's context
abbrev pub IsRooted : List ℕ → Asked → Type 0
IsRooted genesis (asks.Prepare context) = IsRootedContext genesis context
IsRooted genesis (asks.Propose context) = IsRootedContext genesis context
IsRooted genesis (asks.Verify context payload) = IsRootedContext genesis context
IsRooted genesis (asks.Certify round payload) = Unit {0}

-- and with each request of a run
abbrev pub AreRooted : List ℕ → List Noted → Type 0
AreRooted genesis noted = Each (λ (n : Noted). Each (IsRooted genesis) n.entry.asked) noted
