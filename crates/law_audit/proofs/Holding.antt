-- In a run the journal of a node holds no own nullify but those that the setup's rules sign.
use Rattle.std.proofs.Common.{◌≡◌, ℕ, Bool, true, false, List, [], ◌∷◌, Option, Some, None, refl, sym, ap, ◌∙◌, subst, inl, inr, if◌then◌else◌}
use Rattle.simplex_values.specs.declared.proposal.Subject.{Subject}
use Rattle.simplex_wire.specs.declared.attestation.Attestation.{Attestation}
use Rattle.simplex_journal.specs.Journal.{Section, crashed, replayed}
use Rattle.simplex_messages.specs.declared.step.Stop.{Stop}
use Rattle.simplex_transcript.specs.declared.entry.Took.{Took}
use Rattle.simplex_transcript.specs.declared.entry.Took.TheVariants as tooks
use Rattle.simplex_transcript.specs.declared.event.Event.{Event}
use Rattle.simplex_transcript.specs.declared.event.Event.TheVariants as events
use Rattle.simplex_transcript.specs.declared.event.StepSource.{StepSource}
use Rattle.simplex_transcript.specs.declared.node.Node.{Node}
use Rattle.model_rules.specs.Known.{Made}
use Rattle.model_steps.specs.Desk.{Doing}
use Rattle.model_steps.specs.Performed.{performed}
use Rattle.model_steps.specs.Voter as voter
use Rattle.model_steps.specs.VoterLife.{VoterMade, Place, Given, Stepped, Answered, rest, place_of}
use Rattle.model_steps.specs.Engine as engine
use Rattle.model_steps.specs.Engine.{EngineMade, Did, Began, by_voter, runs, sections_of, started_at, voter_in, voter_past}
use Rattle.model_run.specs.Setting.{Setting}
use Rattle.model_run.specs.Kinds.{runs_engine}
use Rattle.model_run.specs.Members.{floor_of, rules_of, engine_of}
use Rattle.model_run.specs.Life.{Noted, Life, Stopped, Running, clock_of, is_of, going_on, sections_in, after, life_in}
use Rattle.model_run.specs.Entries as entries
use Rattle.model_run.specs.Entries.{noted_with, noted_blank}
use Rattle.law_run.specs.Histories.{IsRun}
use Rattle.law_run.proofs.Further.{same_self, life_then, life_still}
use Rattle.law_run.proofs.Events.{place_in, engine_at, given_start, begun_gives, place_same, place_then, step_place, idle_place, start_sections}
use Rattle.law_requests.specs.Steps.{IsQuiet, IsVoters}
use Rattle.law_requests.specs.Turns.{HasStarted, HasHeard, HasStepped, WasAnswered, HasCrashed, IsTurnOf}
use Rattle.law_requests.proofs.Steps.{any_step, heard_quiet}
use Rattle.law_requests.proofs.Turning.{entry_turns}
use Rattle.law_requests.proofs.Pruning.{pruned_in}
use Rattle.law_audit.specs.Recording.{IsTakenSo}
use Rattle.law_audit.proofs.Taken.{taking_read}
use Rattle.law_audit.proofs.Signed.{AreSigned, signed_crashed, signed_performed, signed_start, step_signed, started_signed}

module _ (setting : Setting) (node : Node) where
  -- how the scheme of the setup signs for its member
  abbrev pub signs_of : Subject → Option Attestation
  signs_of = (rules_of setting node.member 0).signs

  abbrev S : List Section → Type 0
  S = AreSigned (rules_of setting node.member 0).signs

  same_signs : (start : ℕ) → (rules_of setting node.member start).signs ≡ (rules_of setting node.member 0).signs
  unfolding rules_of
  same_signs start = refl

  sections_on : (made : EngineMade) (past : List Did) → sections_in (going_on made past) ≡ sections_of made past
  sections_on made past = at (runs past)
    where
      at : (b : Bool) → sections_in (if b then Running made past else Stopped (sections_of made past)) ≡ sections_of made past
      at true = refl
      at false = refl

  -- a turn of the engine that leaves these sections
  leaves : (made : EngineMade) (past : List Did) (did : Did) (place : Place) → place_in made (did ∷ past) ≡ place → S place.sections → S (sections_in (going_on made (did ∷ past)))
  unfolding sections_of
  leaves made past did place same h = subst S (sym (sections_on made (did ∷ past) ∙ ap (λ (p : Place). p.sections) same)) h

  quiet_place : (made : EngineMade) (past : List Did) (did : Did) → IsQuiet did → place_in made (did ∷ past) ≡ place_in made past
  quiet_place made past did q =
      (let p = place_same made did past q.given q.start in ap (λ (v : VoterMade). place_of v (voter_past (did ∷ past))) p.0 ∙ ap (place_of (voter_in made past)) p.1)

  given_place : (made : EngineMade) (past : List Did) (did : Did) (given : Given) → engine.given_to_voter did ≡ Some given → engine.is_start did.taken ≡ false → place_in made (did ∷ past) ≡ place_of (voter_in made past) (given ∷ voter_past past)
  given_place made past did given g s = (let p = place_then made did past given g s in ap (λ (v : VoterMade). place_of v (voter_past (did ∷ past))) p.0 ∙ ap (place_of (voter_in made past)) p.1)

  -- the engine of the node keeps the setup's rules
  abbrev HasRules : Life → Type 0
  HasRules (Stopped sections) = Unit {0}
  HasRules (Running made past) = (start : ℕ) → (made.voter start).rules ≡ rules_of setting node.member start

  abbrev Holds : Life → Type 0
  Holds l = S (sections_in l) × HasRules l

  rules_on : (made : EngineMade) (past : List Did) → ((start : ℕ) → (made.voter start).rules ≡ rules_of setting node.member start) → HasRules (going_on made past)
  rules_on made past h = at (runs past)
    where
      at : (b : Bool) → HasRules (if b then Running made past else Stopped (sections_of made past))
      at true = h
      at false = tt

  start_holds : (made : EngineMade) (floor : _) (stop : Stop) (js : List Section) (now : ℕ) → made ≡ engine_at setting node floor js → S js
      → (let did = by_voter Began now stop (given_start setting node floor js now stop) in Holds (going_on (engine_at setting node floor js) (did ∷ [])))
  unfolding sections_of started_at voter_past engine_of
  start_holds made floor stop js now e h =
      let did = by_voter Began now stop (given_start setting node floor js now stop) in
      let eng = engine_at setting node floor js in
      let d = voter.started (rules_of setting node.member now) now (floor_of setting.genesis floor) (replayed js) in (
        subst S (sym (sections_on eng (did ∷ []) ∙ start_sections (eng.voter now) now stop))
            (signed_start (rules_of setting node.member 0).signs stop (floor_of setting.genesis floor) d js (started_signed (rules_of setting node.member 0).signs (rules_of setting node.member now) now (floor_of setting.genesis floor) (replayed js)) h),
        rules_on eng (did ∷ []) (λ start. refl),
      )

  module _ (before : List Noted) (ran : IsRun setting before) (good : runs_engine setting.setup node.member ≡ true) where
    voters_hold : (made : EngineMade) (past : List Did) (running : life_in setting before node ≡ Running made past) (source : StepSource) (now : ℕ) (stop : Stop) (did : Did) → IsVoters made past source now stop did
        → Holds (Running made past) → S (sections_in (going_on made (did ∷ past)))
    unfolding sections_of
    voters_hold made past running source now stop did v h = at (voter.stepped (voter_in made past).rules now (place_in made past).standing v.input) refl
      where
        there : place_in made (did ∷ past) ≡ place_of (voter_in made past) (Stepped v.input now stop ∷ voter_past past)
        there = given_place made past did (Stepped v.input now stop) v.given v.start

        at : (o : Option Doing) → voter.stepped (voter_in made past).rules now (place_in made past).standing v.input ≡ o → S (sections_in (going_on made (did ∷ past)))
        at None g = leaves made past did (place_in made past) (there ∙ idle_place (voter_in made past) (voter_past past) v.input now stop g) h.0
        at (Some d) g =
            let s = (place_in made past).standing in
            let js = (place_in made past).sections in
            let later : Place = record { standing = rest d s.answers; sections = (performed stop d js).sections } in
            let t : IsTakenSo before node s source (entries.took_of before node made past did) v.input = taking_read setting before node made past source now stop did v d ran good running g in
            let signs : (voter_in made past).rules.signs ≡ (rules_of setting node.member 0).signs = ap (λ (m : Made). m.signs) (h.1 (started_at past)) ∙ same_signs (started_at past) in
            leaves made past did later (there ∙ step_place (voter_in made past) (voter_past past) v.input now stop d g)
            (subst (λ (f : Subject → Option Attestation). AreSigned f (performed stop d js).sections) signs
            (signed_performed (voter_in made past).rules.signs stop d js
            (step_signed (voter_in made past).rules now s v.input t.taking t.takes (pruned_in setting before node made past ran good running) d g)
            (subst (λ (f : Subject → Option Attestation). AreSigned f js) (sym signs) h.0)))

    module _ (old : Holds (life_in setting before node)) where
      abbrev At : Noted → Type 0
      At noted = Holds (life_in setting (noted ∷ before) node)

      still : (noted : Noted) → is_of node noted.event ≡ false → At noted
      still noted e = subst Holds (sym (life_still setting noted before node e)) old

      goes : (noted : Noted) → is_of node noted.event ≡ true → Holds (after setting noted.event noted.did (life_in setting before node)) → At noted
      goes noted e h = subst Holds (sym (life_then setting noted before node e)) h

      ready : (made : EngineMade) (past : List Did) → life_in setting before node ≡ Running made past → Holds (Running made past)
      ready made past running = subst Holds running old

      turns : (made : EngineMade) (past : List Did) (event : Event) (took : Option Took) (did : Did) → life_in setting before node ≡ Running made past → is_of node event ≡ true
          → after setting event (Some did) (Running made past) ≡ going_on made (did ∷ past) → S (sections_in (going_on made (did ∷ past))) → At (noted_with setting.setup before event node took did)
      turns made past event took did running of on h =
          goes (noted_with setting.setup before event node took did) of
          (subst (λ (l : Life). Holds (after setting event (Some did) l)) (sym running) (subst Holds (sym on) (h, rules_on made (did ∷ past) (ready made past running).1)))

      started : (noted : Noted) → HasStarted setting before node noted → At noted
      unfolding after
      started noted b =
          let now = clock_of before in
          let eng = engine_at setting node b.floor b.sections in
          let did = engine.begun eng now b.stop in
          let event = events.Start node b.floor b.stop in
          let held : S b.sections = (subst Holds b.stopped old).0 in
          subst At b.is
          (goes (noted_with setting.setup before event node (Some tooks.Floor) did) (same_self node)
          (subst (λ (l : Life). Holds (going_on (engine_of setting node.member (floor_of setting.genesis b.floor) (sections_in l)) (did ∷ []))) (sym b.stopped)
          (subst (λ (x : Did). Holds (going_on eng (x ∷ []))) (sym (begun_gives setting node b.floor b.sections now b.stop)) (start_holds eng b.floor b.stop b.sections now refl held))))

      heard : (noted : Noted) → HasHeard setting before node noted → At noted
      unfolding after sections_of
      heard noted b =
          let did = engine.heard b.made b.past b.packet.from.member b.packet.channel b.packet.bytes (clock_of before) in
          let q = heard_quiet b.made b.past b.packet.from.member b.packet.channel b.packet.bytes (clock_of before) in
          subst At b.is
          (turns b.made b.past (events.Deliver node b.ref) (Some (tooks.Packet b.ref)) did b.running (same_self node) refl
          (leaves b.made b.past did (place_in b.made b.past) (quiet_place b.made b.past did q) (ready b.made b.past b.running).0))

      stepped : (noted : Noted) → HasStepped setting before node noted → At noted
      unfolding after sections_of
      stepped noted b =
          let now = clock_of before in
          let did = engine.stepped b.made b.past b.source now b.stop in
          subst At b.is
          (turns b.made b.past (events.Step node b.source b.stop) (entries.took_of before node b.made b.past did) did b.running (same_self node) refl
          (elim (any_step b.made b.past b.source now b.stop) [
            | inl q ↦ leaves b.made b.past did (place_in b.made b.past) (quiet_place b.made b.past did q) (ready b.made b.past b.running).0
            | inr v ↦ voters_hold b.made b.past b.running b.source now b.stop did v (ready b.made b.past b.running)
          ]))

      replied : (noted : Noted) → WasAnswered setting before node noted → At noted
      unfolding after sections_of place_of
      replied noted b =
          let did = engine.replied b.number b.answer (clock_of before) in
          let s = (place_in b.made b.past).standing in
          let later : Place = record { standing = voter.answered b.number b.answer s; sections = (place_in b.made b.past).sections } in
          subst At b.is
          (turns b.made b.past (events.Answer node b.ref b.answer) None did b.running (same_self node) refl
          (leaves b.made b.past did later (given_place b.made b.past did (Answered b.number b.answer) refl refl) (ready b.made b.past b.running).0))

      crashed_then : (noted : Noted) → HasCrashed setting before node noted → At noted
      unfolding after
      crashed_then noted b =
          subst At b.is
          (goes (noted_blank before (events.Crash node) (Some node)) (same_self node)
          (subst (λ (l : Life). Holds (Stopped (crashed 0 (sections_in l)))) (sym b.running) (signed_crashed (rules_of setting node.member 0).signs 0 (sections_of b.made b.past) (ready b.made b.past b.running).0, tt)))

      turned : (noted : Noted) → IsTurnOf setting before node noted → At noted
      turned noted t = elim t [
        | inl e ↦ still noted e
        | inr a ↦ elim a [
          | inl s ↦ started noted s
          | inr b ↦ elim b [
            | inl h ↦ heard noted h
            | inr c ↦ elim c [
              | inl p ↦ stepped noted p
              | inr d ↦ elim d [
                | inl w ↦ replied noted w
                | inr z ↦ crashed_then noted z
              ]
            ]
          ]
        ]
      ]

  pub holds : runs_engine setting.setup node.member ≡ true → (noted : List Noted) → IsRun setting noted → Holds (life_in setting noted node)
  unfolding IsRun life_in
  holds good [] ran = (tt, tt)
  holds good (noted ∷ before) ran = turned before ran.2 good (holds good before ran.2) noted (entry_turns setting before node good ran.0 noted ran.1)
