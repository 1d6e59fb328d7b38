-- A name for what a clause unfolds to compute a sample.
use Rattle.std.specs.Prelude.{⊤}
use Rattle.simplex_mailbox.specs.Waiting.{in_turn}
use Rattle.simplex_messages.specs.Policies.{batcher_handled, handled_by_view, handler_handled, resolver_handled, voter_handled}

-- what becomes of mail by the policies of the mailboxes
unfoldable pub policies : ⊤
unfolding handled_by_view voter_handled resolver_handled batcher_handled handler_handled in_turn
policies = tt
