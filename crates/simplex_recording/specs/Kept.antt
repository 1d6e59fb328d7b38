-- What is kept by view, payload and member.
use Rattle.std.specs.Prelude.{ℕ, Bool, false, List, [], Option, Some, None, unwrap_or}
use Rattle.std.specs.Global.{Vec}
use Rattle.std.specs.List.{list_any}
use Rattle.std.specs.Ordering.{nat_cmp, ordering_then}
use Rattle.std.specs.declared.cmp.Ordering.{Ordering}
use Rattle.std.specs.Cmp.Lexicographic.{slice_cmp}
use Rattle.std.specs.BTreeMap.{BTreeMap, is_at}
use Rattle.std.specs.BTreeMap as tree
use Rattle.std.specs.BTreeSet.{BTreeSet}
use Rattle.simplex_types.specs.declared.activity.Activity.{Activity}
use Rattle.simplex_values.specs.Maps.{found}
use Rattle.simplex_recording.specs.declared.at_view.AtView.{AtView}
use Rattle.simplex_recording.specs.declared.finalized.Finalized.{Finalized}

-- by view, then payload, then member
abbrev pub cast_cmp : ℕ × List ℕ × ℕ → ℕ × List ℕ × ℕ → Ordering
cast_cmp x y = ordering_then (ordering_then (nat_cmp x.0 y.0) (slice_cmp nat_cmp x.1 y.1)) (nat_cmp x.2 y.2)

-- whether the member voted for the payload in the view
unfoldable pub has_cast : BTreeSet (ℕ × List ℕ × ℕ) → ℕ → List ℕ → ℕ → Bool
has_cast casts view payload signer = list_any (is_at (cast_cmp (view, payload, signer))) casts.keys

-- by view, then member
abbrev pub pair_cmp : ℕ × ℕ → ℕ × ℕ → Ordering
pair_cmp x y = ordering_then (nat_cmp x.0 y.0) (nat_cmp x.1 y.1)

-- whether the member gave the view up
unfoldable pub has_pair : BTreeSet (ℕ × ℕ) → ℕ → ℕ → Bool
has_pair pairs view signer = list_any (is_at (pair_cmp (view, signer))) pairs.keys

-- no certificates
abbrev pub nothing : AtView
nothing =
    record {
      is_certified = false;
      notarization = None;
      certification = None;
      nullification = None;
      finalization = None;
    }

-- the certificates that are kept of the view
unfoldable pub kept_at : BTreeMap ℕ AtView → ℕ → AtView
kept_at views view = unwrap_or (found views view) nothing

-- how many finalizations there were
abbrev pub count_in : Option Finalized → ℕ
count_in None = 0
count_in (Some kept) = kept.count

-- the items, or none
abbrev pub items_in : Option (Vec Activity) → List Activity
items_in None = []
items_in (Some list) = list.items

-- the evidence that is kept against the member in the view
unfoldable pub evidence_in : BTreeMap (ℕ × ℕ) (Vec Activity) → ℕ → ℕ → List Activity
evidence_in lists view member = items_in (tree.get_by (pair_cmp (view, member)) lists)
