use Rattle.std.proofs.Common.{rules}
use Rattle.std.proofs.lemmas.Map.Made.{map_same_pairs}
use Rattle.simplex_journal.proofs.Entries.{synced_lists, all_synced-entries}
use Rattle.simplex_journal.proofs.sections.sync_each.Goals as goal

pub returns : goal.returns
returns c = rw (map_same_pairs _ synced_lists _ (λ k v b w f' t. search rules) c.args.sections.now.entries c.retain.new.self.entries c.retain.ensures.filtered) (all_synced-entries c.args.sections.now.entries)
