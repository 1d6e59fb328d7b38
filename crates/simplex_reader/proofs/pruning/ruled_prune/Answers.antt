use Rattle.simplex_reader.proofs.Ruled.{ruled_if_by}
use Rattle.simplex_reader.proofs.pruning.ruled_prune.Goals as goal

pub prune_behind-requires : goal.prune_behind-requires
prune_behind-requires g c = record { few = c.in_ok-records.ensures.few }

pub returns : goal.returns
returns g c = λ made facts now k signs.
    ruled_if_by made now facts _ c.in_ok-records.records c.least_active-before.result c.least_active-after.result _
    (c.in_ok-records.ensures.counts made facts now k signs)
    (c.least_active-before.ensures made facts k)
    (c.least_active-after.ensures made _ (c.in_ok-records.ensures.knows made facts now k))
    c.prune_behind.ensures
