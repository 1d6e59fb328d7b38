use Rattle.std.proofs.Common.{rules}
use Rattle.simplex_disk.proofs.Syncs.{counted_each}
use Rattle.simplex_disk.proofs.syncing.count_each.Goals as goal

pub returns-clause-counted : goal.returns-clause-counted
returns-clause-counted c = counted_each _ _ (λ k v b w f' t. search rules) _ _ c.retain.ensures.filtered
