-- What an application does with a message, and what it is at first.
use Rattle.std.specs.Prelude.{◌≡◌, ℕ, false, List, [], Option}
use Rattle.simplex_values.specs.declared.answer.Answer.{Answer}
use Rattle.simplex_values.specs.declared.answer.Handoff.TheVariants as handoffs
use Rattle.simplex_values.specs.declared.round.Context.{Context}
use Rattle.simplex_values.specs.declared.round.Round.{Round}
use Rattle.simplex_mocks.specs.declared.message.Message.{Message}
use Rattle.simplex_mocks.specs.declared.message.Message.TheVariants as messages
use Rattle.simplex_mocks.specs.Relay.{Place}
use Rattle.simplex_application.specs.declared.app_step.AppStep.{AppStep}
use Rattle.simplex_application.specs.declared.prepared.Prepared.{Prepared}
use Rattle.simplex_application.specs.Application.{App, prepared, on_prepare, on_propose, on_verify, on_certify, on_broadcast, relayed_by, Shows}

-- at first no flag is set, and nothing is known
abbrev pub at_first : App
at_first = record {
  settings = record {
    fails_verification = false;
    drops_proposals = false;
    stalls_proposals = false;
    handoff = handoffs.Wait;
    drops_verifications = false;
  };
  pending = [];
  seen = [];
  waiters = [];
}

-- what the closures may answer, and that they were told
pub record Closures : Type 1 where
  pub controls : Round → Prepared → Option Answer → Type 0
  pub certifies : Round → List ℕ → Option Answer → Type 0
  pub told : Context → Type 0
  pub told_of : Context → List ℕ → Type 0

-- what is done with a message by the application of a member: the step, what is known then, and the relay then
abbrev pub Handles : Closures → (me : ℕ) → App → (word : ℕ) → List Place → Message → AppStep → App → List Place → Type 0
Handles by me app word relay (messages.Prepare context request) step after relay-after =
    by.told context
    × ((answer : Option Answer) × by.controls context.round (prepared app context word) answer
    × Shows (on_prepare app context request word answer) step after)
    × (relay-after ≡ relay)
Handles by me app word relay (messages.Propose context request) step after relay-after =
    by.told context × Shows (on_propose app context request word) step after × (relay-after ≡ relay)
Handles by me app word relay (messages.Verify context payload request) step after relay-after =
    by.told_of context payload × Shows (on_verify app context payload request) step after × (relay-after ≡ relay)
Handles by me app word relay (messages.Certify round payload request) step after relay-after =
    ((answer : Option Answer) × by.certifies round payload answer × Shows (on_certify app request answer) step after)
    × (relay-after ≡ relay)
Handles by me app word relay (messages.Broadcast payload plan) step after relay-after =
    Shows (on_broadcast app payload plan) step after
    × (relay-after ≡ relayed_by relay me (on_broadcast app payload plan).relays)
