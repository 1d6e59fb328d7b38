-- What was asked for below proposals that wait to be verified.
use Rattle.std.specs.Prelude.{ℕ, Bool}
use Rattle.std.specs.Ordering.{nat_cmp, ordering_then}
use Rattle.std.specs.declared.cmp.Ordering.{Ordering}
use Rattle.std.specs.List.{list_any}
use Rattle.std.specs.BTreeMap.{is_at}
use Rattle.std.specs.BTreeSet.{BTreeSet}
use Rattle.simplex_values.specs.declared.ask.Kind.{Kind}
use Rattle.simplex_values.specs.declared.ask.Kind.TheVariants.{Notarization, Nullification}
use Rattle.simplex_state.specs.declared.missing.Missing.{Missing}

-- by the first view, and at one first view by the second
abbrev pub pair_cmp : ℕ × ℕ → ℕ × ℕ → Ordering
pair_cmp x y = ordering_then (nat_cmp x.0 y.0) (nat_cmp x.1 y.1)

-- whether the two views are in the set
unfoldable pub has_pair : BTreeSet (ℕ × ℕ) → ℕ → ℕ → Bool
has_pair pairs first second = list_any (is_at (pair_cmp (first, second))) pairs.keys

-- whether for a proposal of the first view the certificate of this kind of the second was asked for
unfoldable pub is_asked : Missing → ℕ → ℕ → Kind → Bool
is_asked missing proposal view Notarization = has_pair missing.notarizations proposal view
is_asked missing proposal view Nullification = has_pair missing.nullifications proposal view
