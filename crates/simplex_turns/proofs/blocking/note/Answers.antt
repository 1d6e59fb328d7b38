use Rattle.std.proofs.Common.{◌≡◌, ◌∙◌, ap, rules}
use Rattle.std.specs.Ordering.{nat_cmp}
use Rattle.std.specs.BTreeSet.{insert_key}
use Rattle.model_resolver.specs.Asks.{holds_member}
use Rattle.simplex_turns.proofs.Blocked.{holds-insert}
use Rattle.simplex_turns.proofs.blocking.note.Goals as goal

pub returns-in_ok-insert-in-Block : goal.returns-in_ok-insert-in-Block
returns-in_ok-insert-in-Block c = λ q.
    let added : c.insert.new.self.keys ≡ insert_key nat_cmp c.args.blocked.now.keys c.in-Block.member = search rules in
    rw c.in-Block.is (ap (λ l. holds_member l q) added ∙ holds-insert c.args.blocked.now.keys c.in-Block.member q)
