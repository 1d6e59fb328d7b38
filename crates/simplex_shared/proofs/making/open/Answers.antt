use Rattle.std.proofs.Common.{[], ◌∷◌, ◌++◌, Some, refl, ap, ◌∙◌}
use Rattle.simplex_mailbox.specs.Mail.{no_mail}
use Rattle.simplex_shared.specs.Desk.{Recorded}
use Rattle.simplex_shared.specs.History.{caller_of, IsLegal}
use Rattle.simplex_shared.proofs.Keeps.{begins_at}
use Rattle.simplex_shared.proofs.making.open.Goals as goal

pub new-requires-2 : goal.new-requires-2
new-requires-2 g c =
    let d = c.in_ok-new.field-0 in
    let is = c.in_ok-new.ensures in
    let slots = c.in_ok-push.ensures.items ∙ ap (λ l. l ++ Some d ∷ []) c.new-slots.ensures.items in
    begins_at (λ (d : Recorded g.row.M.Denot). d.log) (λ d. d.mail.capacity) caller_of (IsLegal g.M.Policy.handle g.M.Requested.is_skipped) c.args.terms.now d _ _
    (no_mail c.args.terms.now.capacity, refl) (ap (λ (d : Recorded g.row.M.Denot). d.log) is) (ap (λ (d : Recorded g.row.M.Denot). d.mail.capacity) is) refl slots
