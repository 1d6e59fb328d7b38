-- What a run of an engine's actors on threads gives.
use Rattle.std.specs.Prelude.{◌≡◌, ℕ, Bool, List, ◌++◌, All, length, map, Option}
use Rattle.simplex_journal.specs.Journal.{Section}
use Rattle.simplex_mailbox.specs.Mail.{Mail}
use Rattle.simplex_messages.specs.declared.batcher.Message as batcher_message
use Rattle.simplex_messages.specs.declared.voter.Message as voter_message
use Rattle.simplex_messages.specs.declared.resolver.MailboxMessage.{MailboxMessage}
use Rattle.simplex_messages.specs.declared.step.StepOut.{StepOut}
use Rattle.simplex_messages.specs.Handing.{for_batcher, for_voter, for_resolver}
use Rattle.simplex_messages.specs.Policies.{batcher_handled, voter_handled, resolver_handled}
use Rattle.simplex_shared.specs.declared.op.Op.{Op}
use Rattle.simplex_shared.specs.declared.op.Op.TheVariants.{Took}
use Rattle.simplex_shared.specs.Calls.{calls_by}
use Rattle.simplex_shared.specs.History.{caller_of}
use Rattle.model_steps.specs.VoterLife.{place_of}
use Rattle.model_steps.specs.Engine.{none_skipped}
use Rattle.simplex_engine.specs.Parts.{Parts}
use Rattle.simplex_turns.specs.declared.feed.Delivery.{Delivery}
use Rattle.simplex_turns.specs.declared.feed.FeedItem.{FeedItem}
use Rattle.simplex_turns.specs.Turns.{outs_of, after}
use Rattle.simplex_turns.specs.Handing.{Puts, Filled, IsRecord, handed_on}
use Rattle.simplex_turns.specs.Batching.{BatcherPlace, batcher_turn}
use Rattle.simplex_turns.specs.Resolving.{ResolverPlace, resolver_turn}
use Rattle.simplex_turns.specs.Voting.{VoterPlace, Turn, voter_turn, outcomes_of, leave, unstopped}
use Rattle.simplex_turns.specs.Threads.{Ended, IsFree, took_of}
use Rattle.simplex_threads.specs.declared.run.ThreadRun.{ThreadRun}

-- ---- what the record of a mailbox says

module _ {M : Type 0} where
  -- The calls of the actor whose mailbox it is: it puts what the mailbox held, and nothing else. Then it takes, once a turn,
  -- and gets these.
  pub record Takes (skips : M → Bool) (mailbox : Mail M) (taken : List (Option M)) (calls : List (Op M)) : Type 0 where
    pub first : List (Op M)
    pub fills : Filled skips mailbox first
    pub all : calls ≡ first ++ map (Took 0) taken

-- ---- what each actor gave

-- where the turns of the actors of an engine with these parts begin
abbrev pub batcher_start : Parts → List Delivery → BatcherPlace
batcher_start parts feed = record { past = parts.timed; feed = feed; blocked = parts.blocked }

abbrev pub resolver_start : Parts → List Delivery → ResolverPlace
resolver_start parts feed = record { past = parts.asked; feed = feed }

abbrev pub voter_start : Parts → ℕ → List FeedItem → VoterPlace
voter_start parts now feed = record { past = parts.given; now = now; feed = feed }

-- the batcher made so many turns: what they gave is what its rules give for what the record says that it took, and for its
-- feed, all at one clock
pub record BatcherRan (parts : Parts) (now turns : ℕ) (feed : List Delivery) (log : List (Op batcher_message.Message))
    (outs : List StepOut) : Type 0 where
  pub taken : List (Option batcher_message.Message)
  pub count : length taken ≡ turns
  pub calls : Takes none_skipped parts.to_batcher taken (calls_by caller_of 0 log)
  pub gave : outs ≡ outs_of (batcher_turn parts.batcher now) (batcher_start parts feed) taken
  pub is_record : IsRecord batcher_handled none_skipped parts.to_batcher.capacity 2 log

pub record ResolverRan (parts : Parts) (now turns : ℕ) (feed : List Delivery) (log : List (Op MailboxMessage))
    (outs : List StepOut) : Type 0 where
  pub taken : List (Option MailboxMessage)
  pub count : length taken ≡ turns
  pub calls : Takes none_skipped parts.to_resolver taken (calls_by caller_of 0 log)
  pub gave : outs ≡ outs_of (resolver_turn parts.resolver now) (resolver_start parts feed) taken
  pub is_record : IsRecord resolver_handled none_skipped parts.to_resolver.capacity 2 log

-- The voter made so many turns, or those up to one that a failing call of the journal ended: then the journal's count of
-- faults rose. In each turn there is a stop that none became by what the journal did, with which its rules give what it gave,
-- and leave what the journal holds.
pub record VoterRan (parts : Parts) (now turns : ℕ) (feed : List FeedItem) (log : List (Op voter_message.Message))
    (outs : List StepOut) (faults_before faults_now : ℕ) (sections : List Section) : Type 0 where
  pub did : List Turn
  pub free : All IsFree did
  pub ended : Ended turns (outcomes_of parts.voter (voter_start parts now feed) did) faults_before faults_now
  pub calls : Takes none_skipped parts.to_voter (map took_of did) (calls_by caller_of 0 log)
  pub gave : outs ≡ outs_of (voter_turn parts.voter) (voter_start parts now feed) did
  pub journal : sections ≡ leave parts.voter (voter_start parts now feed) did
  pub is_record : IsRecord voter_handled none_skipped parts.to_voter.capacity 3 log

-- over a journal of which no call fails all turns were made, and no stop is any but none
pub record VoterRanWhole (parts : Parts) (now turns : ℕ) (feed : List FeedItem) (log : List (Op voter_message.Message))
    (outs : List StepOut) (sections : List Section) : Type 0 where
  pub taken : List (Option voter_message.Message)
  pub count : length taken ≡ turns
  pub calls : Takes none_skipped parts.to_voter taken (calls_by caller_of 0 log)
  pub gave : outs ≡ outs_of (voter_turn parts.voter) (voter_start parts now feed) (map unstopped taken)
  pub journal : sections ≡ (place_of parts.voter
      (after (voter_turn parts.voter) (voter_start parts now feed) (map unstopped taken)).past).sections

-- ---- what went from one to another

-- each other pass of a mailbox put what its actor handed on for that mailbox, in order, and made no other call
pub record IsHandedOn {J : Type 0} (run : ThreadRun J) : Type 0 where
  pub voter_to_batcher : Puts (handed_on for_batcher run.voter.items) (calls_by caller_of 1 run.logs.batcher)
  pub batcher_to_voter : Puts (handed_on for_voter run.batcher.items) (calls_by caller_of 1 run.logs.voter)
  pub resolver_to_voter : Puts (handed_on for_voter run.resolver.items) (calls_by caller_of 2 run.logs.voter)
  pub voter_to_resolver : Puts (handed_on for_resolver run.voter.items) (calls_by caller_of 1 run.logs.resolver)
