-- The parts of an engine: what each actor was made with and was given, what the mailboxes hold, and who is blocked.
use Rattle.std.specs.Prelude.{ℕ, List, [], ◌∷◌, ◌++◌}
use Rattle.std.specs.List.{filter_map}
use Rattle.simplex_values.specs.declared.answer.Answer.{Answer}
use Rattle.simplex_mailbox.specs.Mail.{Mail, no_mail, all_enqueued, after_recv}
use Rattle.simplex_messages.specs.declared.batcher.Message as batcher_message
use Rattle.simplex_messages.specs.declared.voter.Message as voter_message
use Rattle.simplex_messages.specs.declared.resolver.MailboxMessage.{MailboxMessage}
use Rattle.simplex_messages.specs.declared.call.Call.{Call}
use Rattle.simplex_messages.specs.declared.step.Outcome.{Outcome}
use Rattle.simplex_messages.specs.declared.step.StepOut.{StepOut}
use Rattle.simplex_messages.specs.Step.{blocked_by_calls}
use Rattle.simplex_messages.specs.Policies.{batcher_handled, voter_handled, resolver_handled}
use Rattle.model_steps.specs.Performed.{Performed}
use Rattle.model_steps.specs.Batcher.{Made, Timed}
use Rattle.model_steps.specs.VoterLife.{VoterMade, Given, Answered}
use Rattle.model_resolver.specs.Resolver as resolving
use Rattle.model_steps.specs.Engine.{EngineMade, Did, for_batcher, for_voter, for_resolver, none_skipped, voter_in, voter_past, batcher_past, resolver_past, blocked_told, blocked_in, batcher_mail, voter_mail, resolver_mail}

pub record Parts : Type 0 where
  pub voter : VoterMade
  pub given : List Given
  pub batcher : Made
  pub timed : List Timed
  pub resolver : resolving.Made
  pub asked : List resolving.Given
  pub to_batcher : Mail batcher_message.Message
  pub to_voter : Mail voter_message.Message
  pub to_resolver : Mail MailboxMessage
  pub blocked : List ℕ

-- those that a history makes
unfoldable pub parts_of : EngineMade → List Did → Parts
parts_of made past =
    record {
      voter = voter_in made past;
      given = voter_past past;
      batcher = made.batcher;
      timed = batcher_past past;
      resolver = made.resolver;
      asked = resolver_past past;
      to_batcher = batcher_mail made past;
      to_voter = voter_mail made past;
      to_resolver = resolver_mail made past;
      blocked = blocked_in past;
    }

-- those of an engine whose voter was just made, at this clock
abbrev pub first_parts : EngineMade → ℕ → Parts
first_parts made start =
    record {
      voter = made.voter start;
      given = [];
      batcher = made.batcher;
      timed = [];
      resolver = made.resolver;
      asked = [];
      to_batcher = no_mail made.capacity;
      to_voter = no_mail made.capacity;
      to_resolver = no_mail made.capacity;
      blocked = [];
    }

-- once these calls of the resolver blocked members
abbrev pub shutting : List Call → Parts → Parts
shutting made parts = record parts { blocked = blocked_by_calls made ++ parts.blocked }

-- once these calls of the batcher or the voter blocked members, and the resolver was told
abbrev pub telling : List Call → Parts → Parts
telling made parts = record (shutting made parts) { asked = blocked_told made ++ parts.asked }

-- once the voter was given this, handed on what it did, and the resolver was told whom it blocked
abbrev pub after_voter : Given → StepOut → Parts → Parts
after_voter given out parts =
    record (telling out.calls parts) {
      given = given ∷ parts.given;
      to_batcher = all_enqueued batcher_handled parts.to_batcher (filter_map for_batcher out.handed);
      to_resolver = all_enqueued resolver_handled parts.to_resolver (filter_map for_resolver out.handed);
    }

-- once the voter took an answer
abbrev pub after_answer : ℕ → Answer → Parts → Parts
after_answer number answer parts = record parts { given = Answered number answer ∷ parts.given }

-- once the batcher was given this, handed on what it did, and the resolver was told whom it blocked
abbrev pub after_batcher : Timed → StepOut → Parts → Parts
after_batcher timed out parts =
    record (telling out.calls parts) {
      timed = timed ∷ parts.timed;
      to_voter = all_enqueued voter_handled parts.to_voter (filter_map for_voter out.handed);
    }

-- once the resolver was given this, and handed on what it did. Messages for its own handler it keeps itself
abbrev pub after_resolver : resolving.Given → StepOut → Parts → Parts
after_resolver given out parts =
    record (shutting out.calls parts) {
      asked = given ∷ parts.asked;
      to_voter = all_enqueued voter_handled parts.to_voter (filter_map for_voter out.handed);
    }

-- once the front of a mailbox was taken
abbrev pub after_batcher_mail : Parts → Parts
after_batcher_mail parts = record parts { to_batcher = after_recv none_skipped parts.to_batcher }

abbrev pub after_voter_mail : Parts → Parts
after_voter_mail parts = record parts { to_voter = after_recv none_skipped parts.to_voter }

abbrev pub after_resolver_mail : Parts → Parts
after_resolver_mail parts = record parts { to_resolver = after_recv none_skipped parts.to_resolver }

-- once the front of the mailbox of the resolver's handler was taken
abbrev pub after_handler_mail : Parts → Parts
after_handler_mail parts = record parts { asked = resolving.HandlerTaken ∷ parts.asked }

-- how a step ended, and what it gave
abbrev pub ended : Performed → Outcome × StepOut
ended performed = (performed.outcome, performed.out)
