-- Whose packets are refused.
use Rattle.std.specs.Prelude.{◌≡◌, ℕ, List, [], Some}
use Rattle.simplex_messages.specs.declared.step.Outcome.TheVariants as outcomes
use Rattle.simplex_transcript.specs.declared.entry.Entry.{Entry}
use Rattle.simplex_transcript.specs.declared.entry.Took.TheVariants as tooks
use Rattle.simplex_transcript.specs.declared.node.Node.{Node}
use Rattle.simplex_transcript.specs.declared.node.Ref.{Ref}
use Rattle.model_resolver.specs.Asks.{holds_member}
use Rattle.model_resolver.specs.Resolver.{blocked_after}
use Rattle.model_steps.specs.Engine.{EngineMade, Did, is_blocked, resolver_past}
use Rattle.model_run.specs.Life.{Noted}
use Rattle.model_run.specs.Blocked.{has_blocked}

-- the node took the packet, and did nothing with it
pub record IsRefused (at : Ref) (entry : Entry) : Type 0 where
  pub outcome : entry.outcome ≡ outcomes.Refused
  pub took : entry.took ≡ Some (tooks.Packet at)
  pub added : entry.added ≡ []
  pub asked : entry.asked ≡ []
  pub dropped : entry.dropped ≡ []
  pub handed : entry.handed ≡ []
  pub calls : entry.calls ≡ []
  pub packets : entry.packets ≡ []

-- whom a running engine refuses, and whom its resolver does not ask, is whom a call of the node blocked since its start
pub record AreOneSet (before : List Noted) (node : Node) (made : EngineMade)
    (past : List Did) (member : ℕ) : Type 0 where
  pub refused : is_blocked past member ≡ has_blocked before node member
  pub unasked : holds_member (blocked_after made.resolver (resolver_past past)) member ≡ has_blocked before node member
