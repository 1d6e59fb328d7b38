use Rattle.std.proofs.Common.{◌≡◌, sym, subst}
use Rattle.std.specs.List.{All}
use Rattle.simplex_shared.specs.Passes.{SharedMailbox, Viewer}
use Rattle.simplex_shared.proofs.Listed.{unused_are_of}
use Rattle.simplex_shared.proofs.mailbox.RecordedMailbox.new.Goals as goal

pub returns-clause-own : goal.returns-clause-own
returns-clause-own g c =
    let mailbox : SharedMailbox = record { table = c.in_ok-lock.lock.table.shared.table_id; terms = record { capacity = c.args.capacity; passes = c.args.passes } } in
    subst (All (λ (pass : Viewer g.row.M.Denot). pass.mailbox ≡ mailbox)) (sym c.in_ok-passes.ensures.passes) (unused_are_of mailbox c.args.passes)
