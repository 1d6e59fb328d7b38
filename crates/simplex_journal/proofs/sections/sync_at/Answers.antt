use Rattle.std.proofs.Common.{◌≡◌, rules, sym, Some, None}
use Rattle.std.specs.Ordering.{nat_cmp}
use Rattle.std.specs.Map.{lookup}
use Rattle.std.specs.BTreeMap.{is_at}
use Rattle.simplex_journal.proofs.Entries.{synced_at-none, synced_at-some}
use Rattle.simplex_journal.proofs.sections.sync_at.Goals as goal

pub returns-in-Some : goal.returns-in-Some
returns-in-Some c =
    let found : lookup (is_at (nat_cmp c.args.number)) c.args.sections.now.entries ≡ Some c.in-Some.lists.now = search rules in
    rw ((c.get_mut.follows.holds c.sync.new.self).0, c.sync.ensures) (synced_at-some c.args.number c.args.sections.now.entries c.in-Some.lists.now found)

pub returns-in_default : goal.returns-in_default
returns-in_default c =
    let absent : lookup (is_at (nat_cmp c.args.number)) c.args.sections.now.entries ≡ None = search rules in
    rw c.get_mut.follows.holds-at-none (sym (synced_at-none c.args.number c.args.sections.now.entries absent))
