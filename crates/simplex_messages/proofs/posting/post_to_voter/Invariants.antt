use Rattle.std.proofs.Common.{drop}
use Rattle.std.specs.Prelude.{filter_map}
use Rattle.simplex_mailbox.specs.Post.{Posted}
use Rattle.simplex_messages.specs.Handing.{for_voter}
use Rattle.simplex_messages.proofs.posting.post_to_voter.Given as goal

-- what is posted behind the messages that are left is posted behind all
abbrev pub invariant-loop-message : goal.invariant-loop-message
invariant-loop-message g l =
    (after : g.row.V.Denot) → Posted g.V.Post.puts l.post (filter_map for_voter (drop l.message-index l.handed)) after
    → Posted g.V.Post.puts l.fn.post (filter_map for_voter l.handed) after
