-- What a resolver's step may call and hand on.
use Rattle.std.specs.Prelude.{◌≡◌, Bool, true, false, [], None}
use Rattle.std.specs.List.{list_all}
use Rattle.simplex_values.specs.declared.plan.Channel.TheVariants as channels
use Rattle.simplex_messages.specs.declared.voter.Message.TheVariants as voter
use Rattle.simplex_messages.specs.declared.call.Call.{Call}
use Rattle.simplex_messages.specs.declared.call.Call.TheVariants as calls
use Rattle.simplex_messages.specs.declared.handed.Handed.{Handed}
use Rattle.simplex_messages.specs.declared.handed.Handed.TheVariants as handed
use Rattle.simplex_messages.specs.declared.step.StepOut.{StepOut}
use Rattle.model_steps.specs.Engine.{Did, given_to_voter, given_to_batcher}

-- a member is blocked, or bytes are sent on the resolver channel
abbrev pub is_call_of_resolver : Call → Bool
is_call_of_resolver (calls.Block member cause) = true
is_call_of_resolver (calls.Send channels.Resolver to bytes) = true
is_call_of_resolver _ = false

-- a message for its own handler, or a certificate for the voter
abbrev pub is_handed_by_resolver : Handed → Bool
is_handed_by_resolver (handed.Handler message) = true
is_handed_by_resolver (handed.Voter (voter.Verified certificate)) = true
is_handed_by_resolver _ = false

-- nothing else, and nothing of the voter's
pub record IsOfResolver (out : StepOut) : Type 0 where
  pub calls : list_all is_call_of_resolver out.calls ≡ true
  pub handed : list_all is_handed_by_resolver out.handed ≡ true
  pub added : out.added ≡ []
  pub asked : out.asked ≡ []
  pub dropped : out.dropped ≡ []

-- what it took is neither the voter's nor the batcher's
pub record IsApart (did : Did) : Type 0 where
  pub voter : given_to_voter did ≡ None
  pub batcher : given_to_batcher did ≡ None
