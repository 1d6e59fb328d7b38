-- The engine that a setup makes for a member is one of the setup's group.
use Rattle.std.proofs.Common.{◌≡◌, ℕ, ◌^◌, ◌<◌, List, Some, refl, arith}
use Rattle.simplex_values.specs.declared.proposal.Subject.{Subject}
use Rattle.simplex_values.specs.declared.proposal.Subject.TheVariants as subjects
use Rattle.simplex_wire.specs.declared.attestation.Attestation.{Attestation}
use Rattle.simplex_wire.specs.declared.vote.Vote.TheVariants as votes
use Rattle.simplex_types.specs.declared.floor.Floor.{Floor}
use Rattle.simplex_journal.specs.Journal.{Section}
use Rattle.simplex_transcript.specs.declared.setup.Setup.{Setup}
use Rattle.model_run.specs.Members.{members_of, kind_of, rules_of, batcher_of, resolver_of, engine_of}
use Rattle.model_run.specs.Setting.{Setting}
use Rattle.model_run.specs.Wrapped.{wrapped_recovers}
use Rattle.law_member.proofs.Schemes.{keyed_fits}
use Rattle.law_run.proofs.Good.{IsSized}
use Rattle.law_run.proofs.Signing.{rules_own}
use Rattle.law_cluster.specs.Lives.{IsFloorOf, IsRulesOf, IsEngineOf}
use Rattle.law_cluster.specs.Nodes.{group_of}

sized : (setup : Setup) (member : ℕ) → member < members_of setup → members_of setup < 2 ^ 16 → IsSized setup
sized setup member below few = record { some = omega (arith, below); few = wider (members_of setup) few; fewer = few }
  where
    wider : (n : ℕ) → n < 2 ^ 16 → n < 2 ^ 32
    wider n h = omega (arith, h)

-- whatever it signs, it signs as the member: each signature is that of a vote
signs_own : (setting : Setting) (member start : ℕ) → member < members_of setting.setup → members_of setting.setup < 2 ^ 16 → (s : Subject) (a : Attestation) → (rules_of setting member start).signs s ≡ Some a → a.signer ≡ member
signs_own setting member start below few (subjects.Notarize p) a e =
    (let own = rules_own setting member start below (sized setting.setup member below few) (votes.Notarize (record { proposal = p; attestation = a })) e in own.0)
signs_own setting member start below few (subjects.Nullify r) a e =
    (let own = rules_own setting member start below (sized setting.setup member below few) (votes.Nullify (record { round = r; attestation = a })) e in own.0)
signs_own setting member start below few (subjects.Finalize p) a e =
    (let own = rules_own setting member start below (sized setting.setup member below few) (votes.Finalize (record { proposal = p; attestation = a })) e in own.0)

rules_fit : (setting : Setting) (member start : ℕ) → member < members_of setting.setup → members_of setting.setup < 2 ^ 16 → IsRulesOf (group_of setting.setup) member (rules_of setting member start)
unfolding rules_of
rules_fit setting member start below few = record { term = refl; epoch = refl; signs = signs_own setting member start below few }

pub engine_fits : (setting : Setting) (member : ℕ) (floor : Floor) (sections : List Section) → member < members_of setting.setup → members_of setting.setup < 2 ^ 16 → IsFloorOf (group_of setting.setup) floor
    → IsEngineOf (group_of setting.setup) member sections (engine_of setting member floor sections)
unfolding engine_of batcher_of resolver_of
engine_fits setting member floor sections below few sound =
    record {
      journal = λ now. refl;
      floor = floor;
      stands = λ now. refl;
      sound = sound;
      rules = λ now. rules_fit setting member now below few;
      scheme = keyed_fits (batcher_of setting.setup member floor) setting.setup.key_base (wrapped_recovers (kind_of setting.setup member)) refl;
      counts = refl;
      verifies = refl;
      resolver_counts = refl;
      resolver_verifies = refl;
    }
