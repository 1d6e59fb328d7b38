use Rattle.std.proofs.Common.{List, [], ap, ◌∙◌}
use Rattle.std.specs.List.{filter_map}
use Rattle.simplex_journal.specs.Contents.{kept}
use Rattle.model_audit.specs.declared.record.AuditCall.{AuditCall}
use Rattle.model_audit.specs.Order.{are_in_order}
use Rattle.model_audit.specs.Rebuilt.{call_for}
use Rattle.simplex_reader.proofs.Following.{stored_is}
use Rattle.simplex_reader.proofs.Listing.{if-ok}
use Rattle.simplex_reader.proofs.reader.Reader.stores_first.Goals as goal

pub returns : goal.returns
returns c =
    if-ok c.stores_first.result
    (λ stored is setting before node follows.
    stored_is c.args.self.now setting before node c.args.entry.now stored
    (is ∙ ap (λ (calls : List AuditCall). are_in_order (kept c.args.self.now.stored) [] (filter_map call_for calls)) c.as_slice.ensures)
    follows)
    c.stores_first.ensures
