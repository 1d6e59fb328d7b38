-- For which doing a planner stands.
use Rattle.std.specs.Prelude.{◌≡◌, ℕ, ◌<◌, nat_lt, Bool, true, false, List, [], ◌∷◌, ◌++◌, map, unwrap_or, Option, Some, None, if◌then◌else◌}
use Rattle.std.specs.Option.{option_map, option_map_or, is_some}
use Rattle.std.specs.List.{list_any}
use Rattle.simplex_values.specs.declared.answer.Answer.{Answer}
use Rattle.simplex_wire.specs.declared.certificate.Certificate.{Certificate}
use Rattle.simplex_wire.specs.declared.vote.Nullify.{Nullify}
use Rattle.simplex_wire.specs.declared.certificate.Certificate.TheVariants as certificates
use Rattle.simplex_wire.specs.declared.artifact.Artifact.{Artifact}
use Rattle.simplex_wire.specs.declared.artifact.Artifact.TheVariants as artifacts
use Rattle.simplex_wire.specs.Fields.{artifact_round}
use Rattle.simplex_types.specs.declared.activity.Activity.TheVariants as activities
use Rattle.simplex_types.specs.declared.floor.Floor.{Floor}
use Rattle.simplex_types.specs.declared.floor.Floor.TheVariants as floors
use Rattle.simplex_messages.specs.declared.handed.Handed.TheVariants as handed
use Rattle.simplex_messages.specs.declared.resolver.MailboxMessage.TheVariants as resolver
use Rattle.model_rules.specs.Deadline.{deadline_of}
use Rattle.model_rules.specs.Lists.{greatest_of}
use Rattle.model_rules.specs.Known.{Made, Fact, view_of}
use Rattle.model_rules.specs.Calls as state
use Rattle.model_rules.specs.Calls.{Call, known_of, pruned_view, replay_answer, certified_answer}
use Rattle.model_rules.specs.Pending.{Desk, Sought, Pending, pending_parent}
use Rattle.model_rules.specs.Ancestry.{is_certified}
use Rattle.model_rules.specs.declared.request.ProposalState.TheVariants.{Waiting}
use Rattle.simplex_values.specs.declared.answer.Handoff.{Handoff}
use Rattle.simplex_values.specs.declared.answer.Handoff.TheVariants as handoffs
use Rattle.simplex_wire.specs.declared.scheme.Scheme as schemes
use Rattle.simplex_types.specs.declared.elector.Elector as electors
use Rattle.simplex_state.specs.Stands as low
use Rattle.simplex_messages.specs.declared.voter.VoterInput.{VoterInput}
use Rattle.model_steps.specs.Desk.{Doing, begun, hand, append, tell, report}
use Rattle.model_steps.specs.Voter.{Standing, stepped, proposal_stands, stage, propose, block_for, record_of, sync, is_final_from, activity_of, certificate_in, report_if, updated_if, replay_verdict, replay_record}
use Rattle.simplex_voter.specs.Arrivals.{pending_of, opened_of, Arrived}
use Rattle.simplex_voter.specs.declared.planner.Missing.{Missing}
use Rattle.simplex_voter.specs.declared.planner.Planner.{Planner}

abbrev pub sought_of : Missing → Sought
sought_of m = record { proposal = m.proposal; view = m.view; kind = m.kind; target = m.target }

-- a change of the desk alone
abbrev pub on_desk : (Desk → Desk) → Doing → Doing
on_desk change doing = record doing { desk = change doing.desk }

-- a held payload is proposed once its parent is certified
abbrev pub take_held_payload : Made → Standing → Pending → List ℕ → Option (Doing × Option ℕ)
take_held_payload made s p payload =
    if is_certified s.desk.known (pending_parent p) then Some (propose made p payload (begun s.desk)) else None

-- the application's decision on a proposal for the next term
abbrev pub act_on_handoff : Made → Pending → Handoff (List ℕ) → Doing → Doing × Option ℕ
act_on_handoff made p handoffs.Wait doing = (proposal_stands p Waiting doing, None)
act_on_handoff made p (handoffs.Stage payload) doing = stage made p payload doing
act_on_handoff made p (handoffs.Vote payload) doing = propose made p payload doing

-- a nullify is published at the end of the step: the first is appended now, a repeat takes the certificate along
abbrev pub with_nullify : Option (Bool × Nullify) → Option Certificate → Doing → Doing
with_nullify None best doing = doing
with_nullify (Some (true, n)) best doing = record doing { nullify = Some (n, best) }
with_nullify (Some (false, n)) best doing = record (append (artifacts.Nullify n) doing) { nullify = Some (n, None) }

-- a certificate that was added is appended, its view's leader blocked where it contradicts it, and the resolver told
abbrev pub recorded : Certificate → Option ℕ → Doing → Doing
recorded certificate leader doing =
    hand (handed.Resolver (resolver.Updated certificate))
    (block_for leader (append (record_of certificate) (record doing { added = doing.added ++ certificate ∷ [] })))

-- nothing was forgotten
abbrev pub IsWhole : List Fact → Type 0
IsWhole known = greatest_of pruned_view known ≡ 0

-- the floor is told to the resolver and the reporter
abbrev pub tell_floor : Floor → Doing → Doing
tell_floor (floors.Genesis payload) doing = doing
tell_floor (floors.Finalized f) doing =
    report (activities.Finalization f) (hand (handed.Resolver (resolver.Updated (certificates.Finalization f))) doing)

-- whether the records hold a finalization of the floor's view or a later one, where the floor is one
abbrev pub holds_floor : Floor → List Artifact → Bool
holds_floor (floors.Genesis payload) records = true
holds_floor (floors.Finalized f) records = list_any (is_final_from (view_of f.proposal)) records

-- the floor is kept where it is not held
abbrev pub append_floor : Floor → Doing → Doing
append_floor (floors.Genesis payload) doing = doing
append_floor (floors.Finalized f) doing = sync (view_of f.proposal) (append (artifacts.Finalization f) doing)

-- a kept record that is no verdict
abbrev pub restore_record : Made → ℕ → Artifact → Doing → Doing
restore_record made now artifact doing =
    updated_if (certificate_in artifact)
    (report_if (activity_of artifact)
    (block_for (replay_answer made doing.desk.known artifact) (tell made (state.Replay artifact now) doing)))

-- a kept verdict
abbrev pub restore_verdict : Made → ℕ → ℕ → Bool → Doing → Doing
restore_verdict made now view good doing =
    replay_verdict good (certified_answer doing.desk.known view) (tell made (state.Certified view good now) doing)

-- the view and the verdict, where the kept record is one
abbrev pub verdict_in : Artifact → Option (ℕ × Bool)
verdict_in (artifacts.Certification round good) = Some (round.view, good)
verdict_in _ = None

-- a kept record, where it is above the floor's view
abbrev pub replay_above : Made → ℕ → ℕ → Doing → Artifact → Doing
replay_above made now floor doing artifact = if nat_lt floor (artifact_round artifact).view then replay_record made now doing artifact else doing

-- when the step of the timer is due, in milliseconds
unfoldable pub due_at : Made → List Fact → ℕ
due_at made known = (deadline_of made known).0

-- the next step begins with nothing done
abbrev pub rested : Doing → Doing
rested doing = begun (record doing.desk { asked = []; dropped = []; sought = [] })

-- what was found and done, where the rule says this
pub record Acted (Stands : Doing → Type 0) (before : Doing) (done : Option (Doing × Option ℕ)) (found : Option (Option ℕ)) : Type 0 where
  pub finds : found ≡ option_map (λ d. d.1) done
  pub does : Stands (option_map_or (λ d. d.0) done before)

-- what was done, where the rule says this
pub record Planned (Stands : Doing → Type 0) (before : Doing) (done : Option Doing) (held : Bool) : Type 0 where
  pub holds : held ≡ is_some done
  pub does : Stands (unwrap_or done before)

module _ {S L : Type 0} {s : schemes.Ghosts S} {l : electors.Ghosts L} where
  -- what the planner has done, where so much is known
  unfoldable pub doing_of : List Fact → Planner S L s l → Doing
  doing_of known planner =
      record {
        desk = record {
          known = known;
          proposal = option_map pending_of planner.proposal;
          verify = option_map opened_of planner.verify;
          certify = map opened_of planner.certify.items;
          opened = planner.opened;
          asked = planner.out.asked;
          dropped = planner.dropped.items;
          sought = map sought_of planner.missing.items;
        };
        added = planner.out.added;
        handed = planner.out.handed;
        calls = planner.out.calls;
        wrote = planner.wrote;
        verdict = planner.verdict;
        nullify = planner.nullify;
      }

  -- what the open requests keep of the answers
  abbrev pub Keeps : List (ℕ × Answer) → Planner S L s l → Type 0
  Keeps answers planner = Arrived answers planner.proposal planner.verify planner.certify.items planner.opened planner.arrivals

  -- the planner has done this, after these answers: what is known is what its state was told
  pub record Stands (planner : Planner S L s l) (made : Made) (answers : List (ℕ × Answer)) (doing : Doing) : Type 0 where
    pub calls : List Call
    pub state : low.StandsFor planner.state made calls
    pub retains : 0 < made.retention
    pub does : doing ≡ doing_of (known_of made calls) planner
    pub keeps : Keeps answers planner

  -- whatever the planner had done before, it has done this with it since
  abbrev pub Does : Planner S L s l → Planner S L s l → (Made → Doing → Doing) → Type 0
  Does old new change =
      (made : Made) (answers : List (ℕ × Answer)) (doing : Doing) → Stands old made answers doing → Stands new made answers (change made doing)

  -- whatever the planner has done, the answer is the rule's at what is known
  abbrev pub Knows : {R : Type 0} → Planner S L s l → (Made → List Fact → R) → R → Type 0
  Knows planner rule answer =
      (made : Made) (answers : List (ℕ × Answer)) (doing : Doing) → Stands planner made answers doing → answer ≡ rule made doing.desk.known

  -- whatever the planner has done, the answer is the rule's at that
  abbrev pub Finds : {R : Type 0} → Planner S L s l → (Made → Doing → R) → R → Type 0
  Finds planner rule answer =
      (made : Made) (answers : List (ℕ × Answer)) (doing : Doing) → Stands planner made answers doing → answer ≡ rule made doing

  -- whatever the planner stands at between two steps, it does with its source what the rule says
  abbrev pub Acts : Planner S L s l → Planner S L s l → (Made → Standing → Option (Doing × Option ℕ)) → Option (Option ℕ) → Type 0
  Acts old new rule found =
      (made : Made) (answers : List (ℕ × Answer)) (desk : Desk) → Stands old made answers (begun desk)
      → Acted (Stands new made answers) (begun desk) (rule made (record { desk = desk; answers = answers })) found

  -- whatever the planner stands at between two steps, it has done all that the step does, if its source held anything
  abbrev pub Plans : Planner S L s l → Planner S L s l → ℕ → VoterInput → Bool → Type 0
  Plans old new now input held =
      (made : Made) (answers : List (ℕ × Answer)) (desk : Desk) → Stands old made answers (begun desk)
      → Planned (Stands new made answers) (begun desk) (stepped made now (record { desk = desk; answers = answers }) input) held

  -- whatever the planner had done before, where nothing was forgotten yet, it has done this with it since
  abbrev pub Restores : Planner S L s l → Planner S L s l → (Made → Doing → Doing) → Type 0
  Restores old new change =
      (made : Made) (answers : List (ℕ × Answer)) (doing : Doing) → Stands old made answers doing → IsWhole doing.desk.known
      → Stands new made answers (change made doing)

  -- whatever the planner stands at between two steps, the answer is the rule's at that
  abbrev pub Says : {R : Type 0} → Planner S L s l → (Made → Standing → R) → R → Type 0
  Says planner rule answer =
      (made : Made) (answers : List (ℕ × Answer)) (desk : Desk) → Stands planner made answers (begun desk)
      → answer ≡ rule made (record { desk = desk; answers = answers })

  -- whatever the planner stands at between two steps, it stands at what becomes of it
  abbrev pub Becomes : Planner S L s l → Planner S L s l → (Standing → Standing) → Type 0
  Becomes old new change =
      (made : Made) (answers : List (ℕ × Answer)) (desk : Desk) → Stands old made answers (begun desk)
      → Stands new made (change (record { desk = desk; answers = answers })).answers (begun (change (record { desk = desk; answers = answers })).desk)
