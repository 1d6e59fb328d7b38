-- What a vote that the rules give says of what the member knew, fact by fact.
use Rattle.std.specs.Prelude.{◌≡◌, ℕ, ◌<◌, ◌↔◌, Bool, true, List, Contains}
use Rattle.simplex_values.specs.Terms.{greatest_view, term_index}
use Rattle.simplex_wire.specs.declared.vote.Vote.TheVariants as votes
use Rattle.simplex_wire.specs.declared.vote.Notarize.{Notarize}
use Rattle.simplex_wire.specs.declared.vote.Nullify.{Nullify}
use Rattle.simplex_wire.specs.declared.vote.Finalize.{Finalize}
use Rattle.model_rules.specs.Known.{Made, Fact, Judged, Voted, view_of}
use Rattle.model_rules.specs.Views.{last_finalized, current_of}

-- no view from this one on is final, and the member neither voted for a proposal of the view nor gave it up
pub record IsUntouched (known : List Fact) (view : ℕ) : Type 0 where
  pub above : last_finalized known < view
  pub first : (vote : Notarize) → Contains known (Voted (votes.Notarize vote)) → ¬ (view_of vote.proposal ≡ view)
  pub kept : (vote : Nullify) → Contains known (Voted (votes.Nullify vote)) → ¬ (vote.round.view ≡ view)

-- The view has a true verdict, is not final and got no vote for that. What the member gave up of its term since
-- the last final view lies behind it.
pub record IsOpen (made : Made) (known : List Fact) (view : ℕ) : Type 0 where
  pub judged : (now : ℕ) × Contains known (Judged view true now)
  pub above : last_finalized known < view
  pub first : (vote : Finalize) → Contains known (Voted (votes.Finalize vote)) → ¬ (view_of vote.proposal ≡ view)
  pub gate : (vote : Nullify) → Contains known (Voted (votes.Nullify vote)) → last_finalized known < vote.round.view
      → term_index made.term_length vote.round.view ≡ term_index made.term_length view → view < vote.round.view

-- The member gives up the view that it is in, which is above each final view and each with a true verdict, unless
-- views end there. The vote is a repeat exactly where it was given before.
pub record IsGivenUp (made : Made) (known : List Fact) (repeated : Bool) (nullify : Nullify) : Type 0 where
  pub epoch : nullify.round.epoch ≡ made.epoch
  pub current : nullify.round.view ≡ current_of made known
  pub above : current_of made known < greatest_view → last_finalized known < nullify.round.view
  pub unjudged : current_of made known < greatest_view → (view now : ℕ) → Contains known (Judged view true now)
      → view < nullify.round.view
  pub again : (repeated ≡ true)
      ↔ ((vote : Nullify) × Contains known (Voted (votes.Nullify vote)) × (vote.round.view ≡ nullify.round.view))
