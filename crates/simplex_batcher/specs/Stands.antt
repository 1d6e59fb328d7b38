-- For which histories a batcher stands.
use Rattle.std.specs.Prelude.{◌≡◌, ℕ, Bool, List, ◌∷◌, Option}
use Rattle.std.specs.Option.{option_map}
use Rattle.simplex_values.specs.declared.proposal.Subject.{Subject}
use Rattle.simplex_wire.specs.declared.attestation.Attestation.{Attestation}
use Rattle.simplex_wire.specs.declared.scheme.Scheme as scheme
use Rattle.simplex_round.specs.Assembly.{as_scheme}
use Rattle.simplex_round.specs.Known as low
use Rattle.model_steps.specs.Batcher.{Made, Timed, Standing, Doing, RoundHistory, standing_after}
use Rattle.simplex_batcher.specs.declared.config.Config.{Config}
use Rattle.simplex_batcher.specs.declared.actor.Actor.{Actor}
use Rattle.simplex_messages.specs.Step.{no_out}
use Rattle.simplex_messages.specs.declared.step.StepOut.{StepOut}
use Rattle.simplex_batcher.specs.Rounds.{round_at, round_of}
use Rattle.simplex_batcher.specs.Activity.{last_seen}

-- the work of a step that has done so much
abbrev pub work_of : Doing → StepOut
work_of doing = record no_out { handed = doing.handed; calls = doing.calls }

module _ {S : Type 0} where
  -- what the rules say a batcher of this configuration was made with
  unfoldable pub batcher_made : (S → Subject → Attestation → Bool) → (S → Bool) → (S → ℕ) → (S → Option ℕ) → Config S → Made
  batcher_made verifies recovers members member config = record {
    scheme = as_scheme (verifies config.scheme) (recovers config.scheme) (members config.scheme);
    me = member config.scheme;
    members = members config.scheme;
    epoch = config.epoch;
    floor = config.floor;
    retention = config.view_retention;
    lookahead = config.lookahead;
    track = config.track_historical_votes;
    skip = config.skip;
    forward = config.forward;
  }

module _ {S : Type 0} {s : scheme.Ghosts S} where
  -- the batcher stands there: each round of it stands for the history that the view's round has
  pub record IsAt (actor : Actor S s) (made : Made) (standing : Standing) : Type 0 where
    pub made_is : made ≡ batcher_made s.verifies s.recovers s.members s.member actor.config
    pub current_is : standing.current ≡ actor.rounds.current
    pub leader_is : standing.leader ≡ actor.leader
    pub finalized_is : standing.finalized ≡ actor.finalized
    pub hinted_is : standing.hinted ≡ actor.hinted
    pub seen_is : (q : ℕ) → last_seen actor.seen q ≡ standing.seen q
    pub round_is : (q : ℕ) → round_at actor.rounds q ≡ option_map round_of (standing.rounds q)

  -- the batcher stands where the step is, the work is what the step has done, and these views are to be worked
  pub record Stands (actor : Actor S s) (work : StepOut) (dirty : List ℕ) (made : Made) (doing : Doing) : Type 0 where
    pub stands : IsAt actor made doing.standing
    pub does : work ≡ work_of doing
    pub marks : dirty ≡ doing.dirty

  -- the batcher stands for the inputs that it was given since it was made
  unfoldable pub StandsFor : Actor S s → Made → List Timed → Type 0
  StandsFor actor made past = IsAt actor made (standing_after made past)

  -- whatever history the old batcher stands for, the new one stands for it with the input behind it
  abbrev pub Takes : Actor S s → Actor S s → Timed → Type 0
  Takes old new given =
      (made : Made) (past : List Timed) → StandsFor old made past → StandsFor new made (given ∷ past)

  -- whatever history the batcher stands for, the answer is the rule's
  abbrev pub Answers : {R : Type 0} → Actor S s → (Made → List Timed → R) → R → Type 0
  Answers actor rule answer = (made : Made) (past : List Timed) → StandsFor actor made past → answer ≡ rule made past

  -- wherever the old batcher stands, the new one stands where this leads
  abbrev pub Moves : Actor S s → Actor S s → (Made → Standing → Standing) → Type 0
  Moves old new change =
      (made : Made) (standing : Standing) → IsAt old made standing → IsAt new made (change made standing)

  -- wherever the batcher stands, the answer is the rule's
  abbrev pub Reads : {R : Type 0} → Actor S s → (Made → Standing → R) → R → Type 0
  Reads actor rule answer = (made : Made) (standing : Standing) → IsAt actor made standing → answer ≡ rule made standing

  -- wherever the batcher stands and whatever history the round has, the answer is the rule's
  abbrev pub ReadsRound : {R : Type 0} → Actor S s → low.Standing → (Made → RoundHistory → R) → R → Type 0
  ReadsRound actor round rule answer =
      (made : Made) (standing : Standing) (history : RoundHistory) → IsAt actor made standing
      → round ≡ round_of history → answer ≡ rule made history

  -- whatever the step had done before, it has done this with it since
  abbrev pub Does : Actor S s → StepOut → Actor S s → StepOut → (Made → Doing → Doing) → Type 0
  Does old before new after change =
      (dirty : List ℕ) (made : Made) (doing : Doing) → Stands old before dirty made doing → Stands new after dirty made (change made doing)

  -- the same, where it may mark views
  abbrev pub Marks : Actor S s → StepOut → List ℕ → Actor S s → StepOut → List ℕ → (Made → Doing → Doing) → Type 0
  Marks old before dirty new after marked change =
      (made : Made) (doing : Doing) → Stands old before dirty made doing → Stands new after marked made (change made doing)

  -- wherever the old batcher stood, the step has done what the rule says, and this is its work
  pub record Worked (actor : Actor S s) (work : StepOut) (made : Made) (doing : Doing) : Type 0 where
    pub stands : IsAt actor made doing.standing
    pub does : work ≡ work_of doing

  abbrev pub WorksAs : Actor S s → Actor S s → StepOut → (Made → Standing → Doing) → Type 0
  WorksAs old new work rule =
      (made : Made) (standing : Standing) → IsAt old made standing → Worked new work made (rule made standing)
