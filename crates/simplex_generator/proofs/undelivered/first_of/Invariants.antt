use Rattle.std.proofs.Common.{◌≡◌, ◌≤◌, ◌-◌, ◌++◌, length, take, drop}
use Rattle.std.specs.Prelude.{filter}
use Rattle.std.specs.List.{list_any}
use Rattle.model_run.specs.Kinds.{is_same_node}
use Rattle.simplex_generator.proofs.undelivered.first_of.Given as goal

abbrev pub invariant-loop-parcel : goal.invariant-loop-parcel
invariant-loop-parcel l = record {
  first : l.first.items ++ take (64 - length l.first.items) (filter (λ parcel. list_any (is_same_node parcel.node) l.nodes) (drop l.at l.parcels.items))
      ≡ take 64 (filter (λ parcel. list_any (is_same_node parcel.node) l.nodes) l.parcels.items);
  few : length l.first.items ≤ 64;
  within : l.at ≤ length l.parcels.items;
}

abbrev pub decreases-loop-parcel : goal.decreases-loop-parcel
decreases-loop-parcel l = length l.parcels.items - l.at
