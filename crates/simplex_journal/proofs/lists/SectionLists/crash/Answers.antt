use Rattle.std.proofs.Common.{◌≡◌, ◌≤◌, rules, ◌-◌, min, length}
use Rattle.simplex_journal.proofs.SectionCrash.{crashed_records}
use Rattle.simplex_journal.proofs.lists.SectionLists.crash.Goals as goal

pub returns : goal.returns
returns c =
    let count : c.min-kept.result ≡ min c.args.keep (length c.self.inside.records.items - c.self.inside.synced) = search rules in
    let within : c.self.inside.synced ≤ length c.self.inside.records.items = search rules in
    rw (← c.self.view_is) (crashed_records c.self.inside.records.items c.truncate.new.self.items c.self.inside.synced c.args.keep c.min-kept.result within count c.truncate.ensures.items)
