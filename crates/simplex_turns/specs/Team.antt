-- What holds of the actors of an engine on threads.
use Rattle.std.specs.Prelude.{◌≡◌, ◌<◌, ◌^◌, All, List}
use Rattle.simplex_wire.specs.declared.scheme.Scheme as scheme
use Rattle.simplex_types.specs.declared.elector.Elector as elector
use Rattle.simplex_journal.specs.declared.journal.Journal as journal
use Rattle.simplex_messages.specs.Policies.{batcher_handled, voter_handled, resolver_handled}
use Rattle.simplex_shared.specs.declared.op.Op.{Op}
use Rattle.simplex_shared.specs.Calls.{calls_by}
use Rattle.simplex_shared.specs.History.{caller_of}
use Rattle.simplex_shared.specs.Passes.{Viewer, calls_of}
use Rattle.model_steps.specs.Engine.{none_skipped}
use Rattle.simplex_turns.specs.declared.batcher.BatcherThread.{BatcherThread}
use Rattle.simplex_turns.specs.declared.logs.Logs.{Logs}
use Rattle.simplex_turns.specs.declared.mailboxes.Mailboxes.{Mailboxes}
use Rattle.simplex_turns.specs.declared.resolver.ResolverThread.{ResolverThread}
use Rattle.simplex_turns.specs.declared.team.Team.{Team}
use Rattle.simplex_turns.specs.declared.voter.VoterThread.{VoterThread}
use Rattle.simplex_turns.specs.Handing.{IsRecord}
use Rattle.simplex_turns.specs.Threads.{IsInTime}

-- the log has the calls of the pass that the pass knows of, and no others of it
abbrev pub Has : {M : Type 0} → List (Op M) → Viewer M → Type 0
Has log pass = calls_by caller_of pass.number log ≡ calls_of pass

-- an actor whose clock is a time, and whose passes are of these mailboxes, may run
module _ {S : Type 0} {s : scheme.Ghosts S} where
  abbrev pub BatcherMayRun : BatcherThread S s → Mailboxes → Type 0
  BatcherMayRun thread boxes =
      (thread.now < 2 ^ 63) × (thread.own.mailbox ≡ boxes.batcher) × (thread.voter.mailbox ≡ boxes.voter)

  abbrev pub ResolverMayRun : ResolverThread S s → Mailboxes → Type 0
  ResolverMayRun thread boxes =
      (thread.now < 2 ^ 63) × (thread.own.mailbox ≡ boxes.resolver) × (thread.voter.mailbox ≡ boxes.voter)

module _ {S L J : Type 0} {s : scheme.Ghosts S} {l : elector.Ghosts L} {j : journal.Ghosts J} where
  abbrev pub VoterMayRun : VoterThread S L J s l j → Mailboxes → Type 0
  VoterMayRun thread boxes =
      (thread.now < 2 ^ 63) × All IsInTime thread.feed.items
      × (thread.own.mailbox ≡ boxes.voter) × (thread.batcher.mailbox ≡ boxes.batcher)
      × (thread.resolver.mailbox ≡ boxes.resolver)

  -- their passes are of the mailboxes that they share
  pub record ShareMailboxes (team : Team S L J s l j) : Type 0 where
    pub batcher_own : team.batcher.own.mailbox ≡ team.boxes.batcher
    pub batcher_voter : team.batcher.voter.mailbox ≡ team.boxes.voter
    pub voter_own : team.voter.own.mailbox ≡ team.boxes.voter
    pub voter_batcher : team.voter.batcher.mailbox ≡ team.boxes.batcher
    pub voter_resolver : team.voter.resolver.mailbox ≡ team.boxes.resolver
    pub resolver_own : team.resolver.own.mailbox ≡ team.boxes.resolver
    pub resolver_voter : team.resolver.voter.mailbox ≡ team.boxes.voter

  -- the logs are the records of these mailboxes, with the calls of all passes
  pub record Records (team : Team S L J s l j) (logs : Logs) : Type 0 where
    pub batcher : IsRecord batcher_handled none_skipped team.boxes.batcher.terms.capacity
        team.boxes.batcher.terms.passes logs.batcher
    pub voter : IsRecord voter_handled none_skipped team.boxes.voter.terms.capacity
        team.boxes.voter.terms.passes logs.voter
    pub resolver : IsRecord resolver_handled none_skipped team.boxes.resolver.terms.capacity
        team.boxes.resolver.terms.passes logs.resolver
    pub batcher_own : Has logs.batcher team.batcher.own
    pub voter_batcher : Has logs.batcher team.voter.batcher
    pub voter_own : Has logs.voter team.voter.own
    pub batcher_voter : Has logs.voter team.batcher.voter
    pub resolver_voter : Has logs.voter team.resolver.voter
    pub resolver_own : Has logs.resolver team.resolver.own
    pub voter_resolver : Has logs.resolver team.voter.resolver
