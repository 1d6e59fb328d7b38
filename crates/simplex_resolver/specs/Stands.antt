-- For which histories a resolver stands.
use Rattle.std.specs.Prelude.{◌≡◌, ℕ, Bool, List, ◌∷◌, Option, unwrap_or}
use Rattle.simplex_values.specs.declared.proposal.Subject.{Subject}
use Rattle.simplex_wire.specs.declared.attestation.Attestation.{Attestation}
use Rattle.simplex_wire.specs.declared.scheme.Scheme as scheme
use Rattle.simplex_repair.specs.Stands as repairs
use Rattle.simplex_resolver.specs.declared.config.Config.{Config}
use Rattle.simplex_resolver.specs.declared.actor.Actor.{Actor}
use Rattle.simplex_resolver.specs.declared.work.Work.{Work}
use Rattle.model_resolver.specs.Resolver.{Made, Given, Standing, Doing, standing_after}

-- the work of a step that has done so much
abbrev pub work_of : Doing → Work
work_of doing = record { handed = doing.handed; blocks = doing.blocks; sends = doing.sends }

module _ {S : Type 0} where
  -- what the rules say a resolver of this configuration was made with. One of no member asks as member 0
  unfoldable pub resolver_made : (S → Subject → Attestation → Bool) → (S → ℕ) → (S → Option ℕ) → Config S → Made
  resolver_made verifies members member config = record {
    verifies = verifies config.scheme;
    members = members config.scheme;
    epoch = config.epoch;
    term = config.term_length;
    handler_size = config.handler_size;
    fetching = record {
      me = unwrap_or (member config.scheme) 0;
      n = members config.scheme;
      fetch_timeout = config.fetch_timeout;
      fetch_retry_delay = config.fetch_retry_delay;
    };
  }

module _ {S : Type 0} {s : scheme.Ghosts S} where
  -- the resolver stands there
  pub record IsAt (actor : Actor S s) (made : Made) (standing : Standing) : Type 0 where
    pub made_is : made ≡ resolver_made s.verifies s.members s.member actor.config
    pub held_is : repairs.StandsFor actor.repair made.term standing.held
    pub fetcher_is : actor.fetcher ≡ standing.fetcher
    pub handler_is : actor.handler ≡ standing.handler

  -- the resolver stands where the step is, and the work is what the step has done
  pub record Stands (actor : Actor S s) (work : Work) (made : Made) (doing : Doing) : Type 0 where
    pub stands : IsAt actor made doing.standing
    pub does : work ≡ work_of doing

  -- the resolver stands for what it was given since it was made
  unfoldable pub StandsFor : Actor S s → Made → List Given → Type 0
  StandsFor actor made past = IsAt actor made (standing_after made past)

  -- whatever history the old resolver stands for, the new one stands for it with this behind
  abbrev pub Takes : Actor S s → Actor S s → Given → Type 0
  Takes old new given =
      (made : Made) (past : List Given) → StandsFor old made past → StandsFor new made (given ∷ past)

  -- whatever history the resolver stands for, the answer is the rule's
  abbrev pub Answers : {R : Type 0} → Actor S s → (Made → List Given → R) → R → Type 0
  Answers actor rule answer = (made : Made) (past : List Given) → StandsFor actor made past → answer ≡ rule made past

  -- wherever the resolver stands, the answer is the rule's
  abbrev pub Reads : {R : Type 0} → Actor S s → (Made → Standing → R) → R → Type 0
  Reads actor rule answer = (made : Made) (standing : Standing) → IsAt actor made standing → answer ≡ rule made standing

  -- whatever the step had done before, it has done this with it since
  abbrev pub Does : Actor S s → Work → Actor S s → Work → (Made → Doing → Doing) → Type 0
  Does old before new after change =
      (made : Made) (doing : Doing) → Stands old before made doing → Stands new after made (change made doing)

  -- wherever the old resolver stood, the step has done what the rule says, and this is its work
  abbrev pub WorksAs : Actor S s → Actor S s → Work → (Made → Standing → Doing) → Type 0
  WorksAs old new work rule =
      (made : Made) (standing : Standing) → IsAt old made standing → Stands new work made (rule made standing)
