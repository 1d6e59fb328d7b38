-- The state behind a fact that only the record of its view keeps.
use Rattle.std.proofs.Common.{◌≡◌, ℕ, ◌<◌, ◌≤◌, ◌^◌, ◌∙◌, true, List, ◌∷◌, Option, sym}
use Rattle.std.specs.BTreeMap.{BTreeMap}
use Rattle.std.specs.BTreeSet.{BTreeSet}
use Rattle.std.specs.Option.{is_some}
use Rattle.model_rules.specs.Known.{Made, Fact, notarization_of}
use Rattle.model_rules.specs.Requests.{is_unjudged}
use Rattle.simplex_wire.specs.declared.scheme.Scheme as scheme
use Rattle.simplex_types.specs.declared.elector.Elector as elector
use Rattle.simplex_state.specs.declared.rounds.RoundRecord.{RoundRecord}
use Rattle.simplex_state.specs.declared.state.State.{State}
use Rattle.simplex_values.specs.Maps.{has}
use Rattle.simplex_state.specs.Rounds.{round_in, learn_round}
use Rattle.simplex_state.specs.Progress.{progress_of, learn_progress}
use Rattle.simplex_state.specs.Stands.{Keeps}
use Rattle.simplex_state.proofs.Quiet.{keeps_quiet, is_round_fact}
use Rattle.simplex_state.proofs.Sound.{sound_other, timely_step, is_no_proposal, stamp_of}

module _ {S L : Type 0} {g : scheme.Ghosts S} {h : elector.Ghosts L} where
  pub keeps_record : (state : State S L g h) (made : Made) (known : List Fact) (f : Fact) (rounds : BTreeMap ℕ RoundRecord)
      → Keeps state made known
      → is_round_fact f ≡ true
      → is_no_proposal f ≡ true
      → stamp_of f < 2 ^ 63
      → learn_progress made f state.progress ≡ state.progress
      → ((q : ℕ) → round_in rounds q ≡ learn_round f q (round_in state.rounds q))
      → Keeps (record state { rounds = rounds }) made (f ∷ known)
  keeps_record state made known f rounds k is_round is_none stamp p e =
      keeps_quiet state made f known rounds state.progress k is_round
      (sound_other f known is_none k.sound)
      (timely_step made f known stamp k.timely)
      (sym p)
      e

  -- nothing more is known. The records below the last pruned view, and what waits for nothing, may be anything
  pub keeps_same : (state : State S L g h) (made : Made) (known : List Fact) (rounds' : BTreeMap ℕ RoundRecord) (waiting' : BTreeSet ℕ)
      → Keeps state made known
      → ((q : ℕ) → (progress_of made known).pruned ≤ q → round_in rounds' q ≡ round_in state.rounds q)
      → ((q : ℕ) → is_some (notarization_of known q) ≡ true → is_unjudged known q ≡ true → has waiting' q ≡ true)
      → Keeps (record state { rounds = rounds'; waiting = waiting' }) made known
  keeps_same state made known rounds' waiting' k rounds_are waiting_are =
      record {
        attest = k.attest;
        leads = k.leads;
        settings = k.settings;
        progress = k.progress;
        active = k.active;
        ahead = k.ahead;
        sound = k.sound;
        held = k.held;
        timely = k.timely;
        rounds = λ view low. rounds_are view low ∙ k.rounds view low;
        nullified = k.nullified;
        published = k.published;
        unpublished = k.unpublished;
        failed = k.failed;
        certified = k.certified;
        covered = k.covered;
        whole = k.whole;
        waiting = waiting_are;
        missing = k.missing;
        notarizations = k.notarizations;
        finalizations = k.finalizations;
        nullifications = k.nullifications;
        unsent_notarizations = k.unsent_notarizations;
        unsent_nullifications = k.unsent_nullifications;
        unsent_finalizations = k.unsent_finalizations;
      }
