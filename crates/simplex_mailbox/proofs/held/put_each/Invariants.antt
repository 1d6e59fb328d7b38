use Rattle.std.proofs.Common.{◌≡◌, length}
use Rattle.simplex_mailbox.specs.Mail.{all_enqueued}
use Rattle.simplex_mailbox.proofs.held.put_each.Given as goal

-- what is left, put into the mailbox as it is now, makes of it what all does of the mailbox as it was
abbrev pub invariant-loop-message : goal.invariant-loop-message
invariant-loop-message g l =
    all_enqueued g.M.Policy.handle l.mailbox l.messages.items ≡ all_enqueued g.M.Policy.handle l.fn.mailbox l.fn.messages.items

abbrev pub decreases-loop-message : goal.decreases-loop-message
decreases-loop-message g l = length l.messages.items
