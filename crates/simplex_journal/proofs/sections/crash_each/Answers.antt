use Rattle.std.proofs.Common.{rules}
use Rattle.std.proofs.lemmas.Map.Made.{map_same_pairs}
use Rattle.simplex_journal.proofs.Entries.{crashed_lists, crashed-entries}
use Rattle.simplex_journal.proofs.sections.crash_each.Goals as goal

pub returns : goal.returns
returns c = rw (map_same_pairs _ (crashed_lists c.args.keep) _ (λ k v b w f' t. search rules) c.args.sections.now.entries c.retain.new.self.entries c.retain.ensures.filtered) (crashed-entries c.args.keep c.args.sections.now.entries)
