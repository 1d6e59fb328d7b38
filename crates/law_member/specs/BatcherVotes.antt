-- Which votes came, and which were accepted.
use Rattle.std.specs.Prelude.{ℕ, ◌≡◌, ◌⊎◌, ◌==◌, ◌&&◌, Bool, true, false, List, [], ◌∷◌, Ok, All}
use Rattle.simplex_wire.specs.declared.vote.Vote.{Vote}
use Rattle.simplex_wire.specs.Format.{whole}
use Rattle.simplex_wire.specs.Message as format
use Rattle.simplex_round.specs.Votes.{vote_signer}
use Rattle.simplex_round.specs.Known.{Known}
use Rattle.simplex_round.specs.Acceptance.{heard}
use Rattle.simplex_messages.specs.declared.batcher.BatcherInput.{BatcherInput}
use Rattle.simplex_messages.specs.declared.batcher.BatcherInput.TheVariants as input
use Rattle.simplex_messages.specs.declared.batcher.Message.TheVariants as batcher
use Rattle.model_steps.specs.Batcher.{Made, Timed, Standing, standing_after, round_for, known_in, vote_view, vote_epoch, retains_view, admits_view}

-- the input brings the vote, from its signer in a packet, or from the voter as an own vote
abbrev pub Brings : BatcherInput → Vote → Type 0
Brings (input.Vote sender bytes) vote = (sender ≡ vote_signer vote) × (whole format.vote bytes ≡ Ok vote)
Brings (input.Mail (batcher.Constructed own)) vote = own ≡ vote
Brings (input.Mail (batcher.Update current leader finalized proposal)) vote = ⊥
Brings (input.Certificate sender bytes) vote = ⊥

-- one of these inputs brought it
unfoldable pub Came : List Timed → Vote → Type 0
Came [] vote = ⊥
Came (given ∷ before) vote = Brings given.input vote ⊎ Came before vote

-- whether the batcher takes it there: a packet's vote where it is of the epoch, and its view is kept and admitted; an
-- own vote where its view is kept
abbrev pub takes : Made → Standing → BatcherInput → Vote → Bool
takes made standing (input.Vote sender bytes) vote =
    vote_epoch vote == made.epoch
    && (retains_view made standing (vote_view vote) && admits_view made standing (vote_view vote))
takes made standing (input.Mail message) vote = retains_view made standing (vote_view vote)
takes made standing (input.Certificate sender bytes) vote = false

-- the input brings the vote, the batcher takes it, and the round of its view accepts it
pub record Accepts (made : Made) (before : List Timed) (given : Timed) (vote : Vote) : Type 0 where
  pub brings : Brings given.input vote
  pub is_taken : takes made (standing_after made before) given.input vote ≡ true
  pub accepts : (heard (known_in (round_for made (standing_after made before) (vote_view vote))) vote).accepted ≡ true

-- one of these inputs brought it, and then it was accepted
unfoldable pub Accepted : Made → List Timed → Vote → Type 0
Accepted made [] vote = ⊥
Accepted made (given ∷ before) vote = Accepts made before given vote ⊎ Accepted made before vote

-- each vote of the round is such
pub record HoldsOnly (accepted : Vote → Type 0) (known : Known) : Type 0 where
  pub notarizes : All (λ b. accepted b.vote) known.notarizes
  pub others : All (λ b. accepted b.vote) known.others

-- and it is of this view
abbrev pub IsOf : ℕ → (Vote → Type 0) → Vote → Type 0
IsOf view accepted vote = accepted vote × (vote_view vote ≡ view)
