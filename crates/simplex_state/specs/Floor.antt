-- Which views were forgotten.
use Rattle.std.specs.Prelude.{ℕ, nat_le, Bool, List}
use Rattle.simplex_wire.specs.declared.artifact.Artifact.{Artifact}
use Rattle.simplex_wire.specs.Fields.{artifact_round}
use Rattle.model_rules.specs.Lists.{greatest_of}
use Rattle.model_rules.specs.Known.{Fact}
use Rattle.model_rules.specs.Calls.{pruned_view}

-- whether the view was not forgotten
abbrev pub keeps_view : List Fact → ℕ → Bool
keeps_view known view = nat_le (greatest_of pruned_view known) view

-- whether the record's view was not
abbrev pub keeps_record : List Fact → Artifact → Bool
keeps_record known artifact = nat_le (greatest_of pruned_view known) (artifact_round artifact).view
