-- Which calls a state stands for.
use Rattle.std.specs.Prelude.{◌≡◌, ℕ, ◌==◌, ◌^◌, ◌-◌, ◌<◌, ◌≤◌, ◌&&◌, ◌||◌, nat_le, Bool, true, false, List, ◌∷◌, Option, None, IfSome}
use Rattle.std.specs.List.{list_any}
use Rattle.std.specs.Option.{option_map_or, is_some}
use Rattle.std.specs.BTreeMap.{BTreeMap}
use Rattle.simplex_values.specs.declared.proposal.Proposal.{Proposal}
use Rattle.simplex_values.specs.declared.proposal.Subject.{Subject}
use Rattle.simplex_values.specs.declared.ask.Kind.{Kind}
use Rattle.simplex_values.specs.declared.round.Round.{Round}
use Rattle.simplex_values.specs.declared.terms.Terms.{Terms}
use Rattle.simplex_values.specs.Terms.{term_index, next_term_start}
use Rattle.simplex_wire.specs.declared.attestation.Attestation.{Attestation}
use Rattle.simplex_wire.specs.declared.certificate.CertificateKind.TheVariants as kinds
use Rattle.simplex_wire.specs.declared.scheme.Scheme as scheme
use Rattle.simplex_types.specs.declared.elector.Elector as elector
use Rattle.model_rules.specs.Known.{Made, Fact, view_of, was_answered, was_approved, was_broadcast, has_nullified, notarization_of, nullification_of, finalization_of}
use Rattle.model_rules.specs.Views.{least_active}
use Rattle.model_rules.specs.Ancestry.{is_covered, has_true_verdict, has_false_verdict}
use Rattle.model_rules.specs.Deadline.{published_at}
use Rattle.model_rules.specs.Requests.{is_unjudged, is_missing_in}
use Rattle.model_rules.specs.Calls.{Call, known_of, unsent_notarization, unsent_nullification, unsent_finalization}
use Rattle.simplex_state.specs.declared.config.StateConfig.{StateConfig}
use Rattle.simplex_state.specs.declared.settings.Settings.{Settings}
use Rattle.simplex_state.specs.declared.state.State.{State}
use Rattle.simplex_values.specs.Maps.{found, has}
use Rattle.simplex_state.specs.Missing.{is_asked}
use Rattle.simplex_state.specs.Ranges.{holds}
use Rattle.simplex_state.specs.Rounds.{round_in, round_of, is_named}
use Rattle.simplex_state.specs.Progress.{progress_of}
use Rattle.simplex_state.specs.Certificates.{unsent_in, held_notarization, held_nullification, held_finalization}

-- a view is covered where its term has a nullified view that is not later
unfoldable pub covered_in : ℕ → BTreeMap ℕ ℕ → ℕ → Bool
covered_in length covered view = option_map_or (λ least. nat_le least view) (found covered (term_index length view)) false

-- the settings are what the state was made with, within the limits
pub record IsMadeWith (settings : Settings) (made : Made) : Type 0 where
  pub me : settings.me ≡ made.me
  pub epoch : settings.epoch ≡ made.epoch
  pub genesis : settings.genesis ≡ made.genesis
  pub term_length : settings.terms.length ≡ made.term_length
  pub lookahead : settings.terms.lookahead ≡ made.lookahead
  pub stall_timeout : settings.terms.stall_timeout ≡ made.stall_timeout
  pub leader_timeout : settings.leader_timeout ≡ made.leader_timeout
  pub certification_timeout : settings.certification_timeout ≡ made.certification_timeout
  pub timeout_retry : settings.timeout_retry ≡ made.timeout_retry
  pub skip_budget : settings.skip_budget ≡ made.skip_budget
  pub retention : settings.view_retention ≡ made.retention
  pub handoff : settings.handoff ≡ made.handoff
  pub some_length : 0 < made.term_length
  pub some_retention : 0 < made.retention
  pub leader_limit : made.leader_timeout ≤ 2 ^ 62
  pub certification_limit : made.certification_timeout ≤ 2 ^ 62
  pub retry_limit : made.timeout_retry ≤ 2 ^ 62
  pub stall_limit : IfSome made.stall_timeout (λ stall. stall ≤ 2 ^ 62)

-- each proposal that the application made or verified is the one that its view's record names
pub record IsSound (known : List Fact) : Type 0 where
  pub answers : (p : Proposal) → was_answered known p ≡ ((round_of known (view_of p)).answered && is_named (round_of known (view_of p)).proposed p)
  pub approvals : (p : Proposal) → was_approved known p ≡ ((round_of known (view_of p)).approved && is_named (round_of known (view_of p)).asked p)
  pub answered : (view : ℕ) → (round_of known view).answered ≡ true → is_some (round_of known view).proposed ≡ true
  pub approved : (view : ℕ) → (round_of known view).approved ≡ true → is_some (round_of known view).asked ≡ true

-- what was sent is held
pub record IsHeld (known : List Fact) : Type 0 where
  pub notarizations : (view : ℕ) → was_broadcast known kinds.Notarization view ≡ true → is_some (notarization_of known view) ≡ true
  pub nullifications : (view : ℕ) → was_broadcast known kinds.Nullification view ≡ true → is_some (nullification_of known view) ≡ true
  pub finalizations : (view : ℕ) → was_broadcast known kinds.Finalization view ≡ true → is_some (finalization_of known view) ≡ true

-- no clock is later than the greatest that a call may have
pub record IsTimely (made : Made) (known : List Fact) : Type 0 where
  pub entered : (progress_of made known).entered < 2 ^ 63
  pub term_entered : (progress_of made known).term_entered < 2 ^ 63
  pub finalized_at : (progress_of made known).finalized_at < 2 ^ 63
  pub published : (view : ℕ) → IfSome (published_at known view) (λ at. at < 2 ^ 63)

module _ {S L : Type 0} where
  -- what a configuration says of the member, by what its scheme signs, whose it is, whom its elector elects and how it cuts terms
  unfoldable pub made_of : (S → Subject → Option Attestation) → (S → Option ℕ) → (L → Round → ℕ) → (L → Terms) → StateConfig S L → ℕ → Made
  made_of attests member elects cuts config start =
      record {
        signs = attests config.scheme;
        me = member config.scheme;
        elects = elects config.elector;
        epoch = config.epoch;
        genesis = config.genesis;
        term_length = (cuts config.elector).length;
        lookahead = (cuts config.elector).lookahead;
        stall_timeout = (cuts config.elector).stall_timeout;
        leader_timeout = config.leader_timeout;
        certification_timeout = config.certification_timeout;
        timeout_retry = config.timeout_retry;
        skip_budget = config.skip_budget;
        retention = config.view_retention;
        handoff = config.handoff;
        start = start;
      }

  -- the configuration keeps the limits, and its elector was built for the scheme's members
  pub record IsConfigured (members : S → ℕ) (built_for : L → ℕ) (cuts : L → Terms) (config : StateConfig S L) : Type 0 where
    pub built : built_for config.elector ≡ members config.scheme
    pub epoch : config.epoch ≤ 2 ^ 64 - 2
    pub lookahead : (cuts config.elector).lookahead ≤ 2 ^ 32
    pub some_retention : 0 < config.view_retention
    pub retention : config.view_retention ≤ 2 ^ 32
    pub some_leader_timeout : 0 < config.leader_timeout
    pub leader_timeout : config.leader_timeout ≤ config.certification_timeout
    pub certification_timeout : config.certification_timeout ≤ 2 ^ 62
    pub some_retry : 0 < config.timeout_retry
    pub timeout_retry : config.timeout_retry ≤ 2 ^ 62
    pub stall_timeout : IfSome (cuts config.elector).stall_timeout (λ stall. (config.certification_timeout < stall) × (stall ≤ 2 ^ 62))

module _ {S L : Type 0} {s : scheme.Ghosts S} {l : elector.Ghosts L} where
  -- the state keeps what is known, but for what is below the last pruned view and cannot be asked for any more
  pub record Keeps (state : State S L s l) (made : Made) (known : List Fact) : Type 0 where
    pub attest : s.attests state.scheme ≡ made.signs
    pub leads : l.elects state.elector ≡ made.elects
    pub settings : IsMadeWith state.settings made
    pub progress : state.progress ≡ progress_of made known
    pub active : (progress_of made known).pruned ≤ least_active made known
    pub ahead : (progress_of made known).pruned ≤ (progress_of made known).current
    pub sound : IsSound known
    pub held : IsHeld known
    pub timely : IsTimely made known
    pub rounds : (view : ℕ) → (progress_of made known).pruned ≤ view → round_in state.rounds view ≡ round_of known view
    pub published : state.published ≡ published_at known (progress_of made known).current
    pub unpublished : (view : ℕ) → (progress_of made known).current < view → published_at known view ≡ None
    pub nullified : (view : ℕ) → ((state.gave_up && view == (progress_of made known).current) || holds state.nullified view) ≡ has_nullified known view
    pub failed : (view : ℕ) → holds state.failed view ≡ has_false_verdict known view
    pub certified : (view : ℕ) → (progress_of made known).pruned ≤ view → has state.certified view ≡ has_true_verdict known view
    pub covered : (view : ℕ) → (progress_of made known).pruned ≤ view → covered_in made.term_length state.covered view ≡ is_covered made known view
    pub whole : (view : ℕ) → holds state.whole (term_index made.term_length view) ≡ true → is_covered made known view ≡ true
    pub waiting : (view : ℕ) → is_some (notarization_of known view) ≡ true → is_unjudged known view ≡ true → has state.waiting view ≡ true
    pub missing : (proposal view : ℕ) (kind : Kind) → (progress_of made known).pruned ≤ proposal
        → is_asked state.missing proposal view kind ≡ list_any (is_missing_in proposal view kind) known
    pub notarizations : (view : ℕ) → (progress_of made known).pruned ≤ view → found state.notarizations view ≡ held_notarization known view
    pub finalizations : (view : ℕ) → (progress_of made known).pruned ≤ view → found state.finalizations view ≡ held_finalization known view
    pub nullifications : (view : ℕ) → (nat_le (progress_of made known).pruned view || nat_le (progress_of made known).current (next_term_start made.term_length view)) ≡ true
        → found state.nullifications view ≡ held_nullification known view
    pub unsent_notarizations : (view : ℕ) → unsent_in (found state.notarizations view) ≡ unsent_notarization known view
    pub unsent_nullifications : (view : ℕ) → unsent_in (found state.nullifications view) ≡ unsent_nullification known view
    pub unsent_finalizations : (view : ℕ) → unsent_in (found state.finalizations view) ≡ unsent_finalization known view

  -- the state stands for the calls that it was given, the newest first
  unfoldable pub StandsFor : State S L s l → Made → List Call → Type 0
  StandsFor state made calls = Keeps state made (known_of made calls)

  -- whatever calls the old state stands for, the new one stands for them with this one behind
  abbrev pub Takes : State S L s l → State S L s l → Call → Type 0
  Takes old new call = (made : Made) (calls : List Call) → StandsFor old made calls → StandsFor new made (call ∷ calls)

  -- whatever calls the old state stands for, the new one stands for them
  abbrev pub Stays : State S L s l → State S L s l → Type 0
  Stays old new = (made : Made) (calls : List Call) → StandsFor old made calls → StandsFor new made calls

  -- whatever calls the state stands for, the answer is the rule's at what is known after them
  abbrev pub Answers : {R : Type 0} → State S L s l → (Made → List Fact → R) → R → Type 0
  Answers state rule answer = (made : Made) (calls : List Call) → StandsFor state made calls → answer ≡ rule made (known_of made calls)
