use Rattle.simplex_network.proofs.Standing.{stands-grows, stands-enters, stands-refuses, stands-stays}
use Rattle.simplex_network.proofs.network.Network.apply.Goals as goal

pub returns-in-Ok-clause-stands : goal.returns-in-Ok-clause-stands
returns-in-Ok-clause-stands c = stands-grows _ _ _ _ c.entry_is_typed.ensures c.in-Ok.ensures.stands c.in-Ok.ensures.entry

pub returns-in-Ok-clause-entry : goal.returns-in-Ok-clause-entry
returns-in-Ok-clause-entry c =
    stands-enters _ _ _ c.only_impersonators_and_injected_bytes_forge.ensures.taken c.entry_is_typed.ensures c.in-Ok.ensures.entry

pub returns-in-Err-clause-reason : goal.returns-in-Err-clause-reason
returns-in-Err-clause-reason c = λ whole. stands-refuses _ _ _ (c.in-Err.ensures.reason whole)

pub returns-in-Err-clause-stays : goal.returns-in-Err-clause-stays
returns-in-Err-clause-stays c = λ whole. stands-stays _ _ (c.in-Err.ensures.stays whole)
