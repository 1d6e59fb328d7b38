use Rattle.std.proofs.Common.{refl}
use Rattle.simplex_records.proofs.Asked.{no-desks, desks-grown, desks-new}
use Rattle.simplex_records.proofs.records.blank_desks.Goals as goal

pub loop-init : goal.loop-init
loop-init c = rw c.new-desks.ensures.items (refl, no-desks)

pub loop-preserved : goal.loop-preserved
loop-preserved c =
    desks-grown c.loop.desks.items _ c.new.result c.loop.counter c.in_ok-push.ensures.items c.loop.invariant c.new.ensures.places c.new.ensures.numbers

pub returns-clause-stands : goal.returns-clause-stands
returns-clause-stands c = desks-new _ c.loop.invariant.1
