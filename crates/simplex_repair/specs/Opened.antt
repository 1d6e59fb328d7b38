-- A name for what proofs of this crate unfold together.
use Rattle.std.specs.Prelude.{⊤}
use Rattle.model_rules.specs.Lists.{first_of, greatest_of}
use Rattle.model_rules.specs.Repair.{covering_nullification, final_view, finalization_held, is_failed, is_final, is_good, notarization_held, nullification_held, repair_floor, top_of}
use Rattle.simplex_repair.specs.Stands.{StandsFor}

-- what is held, and how far it is final
unfoldable pub held : ⊤
unfolding StandsFor first_of greatest_of notarization_held nullification_held finalization_held is_good is_failed
    final_view repair_floor is_final covering_nullification top_of
held = tt
