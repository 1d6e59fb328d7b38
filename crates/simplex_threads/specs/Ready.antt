-- The actors of an engine before their turns on threads.
use Rattle.std.specs.Prelude.{◌≡◌, ℕ, []}
use Rattle.simplex_wire.specs.declared.scheme.Scheme as scheme
use Rattle.simplex_types.specs.declared.elector.Elector as elector
use Rattle.simplex_journal.specs.declared.journal.Journal as journal
use Rattle.simplex_shared.specs.Passes.{calls_of}
use Rattle.model_steps.specs.Engine.{none_skipped}
use Rattle.simplex_engine.specs.declared.crew.Crew.{Crew}
use Rattle.simplex_turns.specs.declared.team.Team.{Team}
use Rattle.simplex_turns.specs.Handing.{Filled}
use Rattle.simplex_turns.specs.Team.{ShareMailboxes}
use Rattle.simplex_threads.specs.declared.run.Feed.{Feed}

module _ {S L J : Type 0} {s : scheme.Ghosts S} {l : elector.Ghosts L} {j : journal.Ghosts J} where
  -- The actors of the crew, each at this clock with its part of the feed and its passes. The mailboxes that they share were
  -- filled with what those of the crew hold, and no other call was made.
  pub record IsReady (crew : Crew S L J s l j) (now : ℕ) (feed : Feed) (team : Team S L J s l j) : Type 0 where
    pub share : ShareMailboxes team
    pub batcher : team.batcher.actor ≡ crew.batcher
    pub voter : team.voter.actor ≡ crew.voter
    pub resolver : team.resolver.actor ≡ crew.resolver
    pub clocks : (team.batcher.now ≡ now) × (team.voter.now ≡ now) × (team.resolver.now ≡ now)
    pub batcher_blocked : team.batcher.blocked ≡ crew.blocked
    pub batcher_feed : team.batcher.feed.items ≡ feed.batcher.items
    pub voter_feed : team.voter.feed.items ≡ feed.voter.items
    pub resolver_feed : team.resolver.feed.items ≡ feed.resolver.items
    pub takers : (team.batcher.own.number ≡ 0) × (team.voter.own.number ≡ 0) × (team.resolver.own.number ≡ 0)
    pub givers : (team.voter.batcher.number ≡ 1) × (team.voter.resolver.number ≡ 1) × (team.batcher.voter.number ≡ 1)
        × (team.resolver.voter.number ≡ 2)
    pub batcher_filled : Filled none_skipped crew.boxes.batcher (calls_of team.batcher.own)
    pub voter_filled : Filled none_skipped crew.boxes.voter (calls_of team.voter.own)
    pub resolver_filled : Filled none_skipped crew.boxes.resolver (calls_of team.resolver.own)
    pub unused : (calls_of team.voter.batcher ≡ []) × (calls_of team.voter.resolver ≡ [])
        × (calls_of team.batcher.voter ≡ []) × (calls_of team.resolver.voter ≡ [])
    pub batcher_terms : team.boxes.batcher.terms ≡ record { capacity = crew.boxes.batcher.capacity; passes = 2 }
    pub voter_terms : team.boxes.voter.terms ≡ record { capacity = crew.boxes.voter.capacity; passes = 3 }
    pub resolver_terms : team.boxes.resolver.terms ≡ record { capacity = crew.boxes.resolver.capacity; passes = 2 }
