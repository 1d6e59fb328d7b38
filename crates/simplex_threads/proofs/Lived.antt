-- A voter that has lived runs as a member does that made legal calls alone, and its scheme signs the own nullifies in its journal.
use Rattle.std.proofs.Common.{◌≡◌, ℕ, zero, suc, ◌-◌, ◌==◌, ◌<◌, ◌≤◌, max, Bool, true, false, List, [], ◌∷◌, ◌++◌, take, Contains, Option, Some, None, refl, sym, ap, ◌∙◌, subst, inl, inr, arith, if◌then◌else◌}
use Rattle.std.specs.Option.{option_map, option_map_or}
use Rattle.std.proofs.lemmas.List.Elements.{Contains-append_left, Contains-append_right, Contains-append_cases}
use Rattle.simplex_values.specs.Terms.{greatest_view}
use Rattle.simplex_values.specs.declared.answer.Answer.{Answer}
use Rattle.simplex_wire.specs.declared.artifact.Artifact.{Artifact}
use Rattle.simplex_wire.specs.declared.artifact.Artifact.TheVariants as artifacts
use Rattle.simplex_wire.specs.declared.vote.Nullify.{Nullify}
use Rattle.simplex_wire.specs.declared.vote.Vote.TheVariants as votes
use Rattle.simplex_types.specs.declared.floor.Floor.{Floor}
use Rattle.simplex_journal.specs.Journal.{Section, replayed, crashed}
use Rattle.simplex_journal.proofs.Contents.{replayed-synced_at}
use Rattle.simplex_journal.proofs.Records.{replayed-appended, Contains-crashed, Contains-pruned}
use Rattle.simplex_messages.specs.declared.call.Call.{Call}
use Rattle.simplex_messages.specs.declared.call.Call.TheVariants as calls
use Rattle.simplex_messages.specs.declared.step.Outcome.{Outcome}
use Rattle.simplex_messages.specs.declared.step.Outcome.TheVariants as outcomes
use Rattle.simplex_messages.specs.declared.step.Stop.{Stop}
use Rattle.simplex_messages.specs.declared.step.Stop.TheVariants as stops
use Rattle.simplex_messages.specs.declared.voter.VoterInput.{VoterInput}
use Rattle.model_rules.specs.Known.{Made, Fact, FloorAt, Added, Taken, Answered, Approved, Judged, Voted, Published, Expired, Failed, Broadcast, ProposalAsked, ProposalFreed, VerifyAsked, CertifyAsked, MissingAsked, ParentAsked, Pruned}
use Rattle.model_rules.specs.Lists.{greatest_of}
use Rattle.model_rules.specs.Views.{current_of, opened_view}
use Rattle.model_steps.specs.Desk.{Doing}
use Rattle.model_steps.specs.Performed.{Performed, performed, broken, whole, stop_place, stop_outcome, kept_by, after_call, after_calls, after_failing, failing_at}
use Rattle.model_steps.specs.Voter as voter
use Rattle.model_steps.specs.Voter.{Standing}
use Rattle.model_steps.specs.VoterLife as given
use Rattle.model_steps.specs.VoterLife.{VoterMade, Given, Place, rest, unreadable, start_at, unread, start_performed, place_of, start_given, step_given, idle}
use Rattle.model_steps.specs.Engine.{is_whole}
use Rattle.law_agreement.specs.Member as life
use Rattle.law_agreement.specs.Member.{Member, newborn, run, IsLegal}
use Rattle.law_agreement.proofs.CallFacts.{run-append, IsLegal-append}
use Rattle.law_agreement.proofs.ListFacts.{Contains-cons_cases}
use Rattle.law_member.specs.Life.{IsFloor, IsRunning, IsStopped, IsLeft, IsLived, IsBegun}
use Rattle.law_member.specs.Learned.{lasting, facts_of_step}
use Rattle.law_member.specs.Storing.{IsSigned}
use Rattle.law_member.proofs.Choices.{if_case}
use Rattle.law_member.proofs.Pruning.{was_there}
use Rattle.simplex_threads.specs.Laws.{IsOfLife, HasLived, view_at}
use Rattle.simplex_threads.proofs.Signed.{IsSignedRecord, IsSignedCall, AllSigned, step_signed, start_signed}

-- ---- the laws of steps and starts

abbrev pub StepsLive : Type 0
StepsLive =
    (made : Made) (now : ℕ) (input : VoterInput) (stop : Stop) (standing : Standing) (sections : List Section) (doing : Doing) (m : Member)
    → current_of made standing.desk.known < greatest_view → IsRunning made standing.desk.known sections m
    → voter.stepped made now standing input ≡ Some doing
    → IsLived made doing.desk.known (performed stop doing sections) m

abbrev pub StartsLive : Type 0
StartsLive =
    (made : Made) (now : ℕ) (floor : Floor) (stop : Stop) (sections : List Section) (m : Member)
    → IsFloor floor → IsStopped made sections m
    → (let doing = voter.started made now floor (replayed sections) in IsBegun made floor doing.desk.known (start_performed stop floor doing sections) m)

abbrev pub StepsWrite : Type 0
StepsWrite =
    (made : Made) (now : ℕ) (input : VoterInput) (standing : Standing) (doing : Doing) → voter.stepped made now standing input ≡ Some doing
    → lasting doing.desk.known ≡ facts_of_step now doing.calls ++ lasting standing.desk.known

-- ---- what a journal holds

-- the scheme signs the own nullifies in it
abbrev pub AreSigned : Made → List Section → Type 0
AreSigned made js = (a : Artifact) → Contains (replayed js) a → IsSignedRecord made a

pub each_record : (made : Made) (js : List Section) → ((v : Nullify) → Contains (replayed js) (artifacts.Nullify v) → IsSigned made (votes.Nullify v)) → AreSigned made js
each_record made js h (artifacts.Nullify v) c = h v c
each_record made js h (artifacts.Notarize v) c = tt
each_record made js h (artifacts.Finalize v) c = tt
each_record made js h (artifacts.Notarization v) c = tt
each_record made js h (artifacts.Nullification v) c = tt
each_record made js h (artifacts.Finalization v) c = tt
each_record made js h (artifacts.Certification r good) c = tt

module _ (made : Made) where
  appends : (n : ℕ) (a : Artifact) (js : List Section) → IsSignedRecord made a → AreSigned made js → AreSigned made (after_call (calls.Append n a) js)
  appends n a js g h x c =
      let split = replayed-appended n a js in
      elim (Contains-append_cases split.0 (a ∷ split.1) x (subst (λ (xs : List Artifact). Contains xs x) split.3 c)) [
        | inl before ↦ h x (subst (λ (xs : List Artifact). Contains xs x) (sym split.2) (Contains-append_left split.0 split.1 x before))
        | inr there ↦ elim (Contains-cons_cases a split.1 x there) [
          | inl same ↦ subst (IsSignedRecord made) same g
          | inr behind ↦ h x (subst (λ (xs : List Artifact). Contains xs x) (sym split.2) (Contains-append_right split.0 split.1 x behind))
        ]
      ]

  one_call : (c : Call) (js : List Section) → IsSignedCall made c → AreSigned made js → AreSigned made (after_call c js)
  one_call (calls.Append n a) js g h = appends n a js g h
  one_call (calls.Sync n) js g h = λ x c. h x (subst (λ (xs : List Artifact). Contains xs x) (replayed-synced_at n js) c)
  one_call (calls.Prune least) js g h = λ x c. h x (Contains-pruned least js x c)
  one_call (calls.Send channel to bytes) js g h = h
  one_call (calls.Report activity) js g h = h
  one_call (calls.Relay payload plan) js g h = h
  one_call (calls.Block who why) js g h = h

  all_calls : (cs : List Call) (js : List Section) → AllSigned made cs → AreSigned made js → AreSigned made (after_calls cs js)
  unfolding after_calls
  all_calls [] js g h = h
  all_calls (c ∷ rest) js g h = all_calls rest (after_call c js) g.1 (one_call c js g.0 h)

  pub signed_crashed : (keep : ℕ) (js : List Section) → AreSigned made js → AreSigned made (crashed keep js)
  signed_crashed keep js h x c = h x (Contains-crashed keep js x c)

  one_fails : (stop : Stop) (c : Call) (js : List Section) → AreSigned made js → AreSigned made (after_failing stop c js)
  one_fails (stops.Fail call keep) (calls.Prune least) js h = λ x c. h x (was_there keep least js x c)
  one_fails (stops.Fail call keep) (calls.Append n a) js h = h
  one_fails (stops.Fail call keep) (calls.Sync n) js h = h
  one_fails (stops.Fail call keep) (calls.Send channel to bytes) js h = h
  one_fails (stops.Fail call keep) (calls.Report activity) js h = h
  one_fails (stops.Fail call keep) (calls.Relay payload plan) js h = h
  one_fails (stops.Fail call keep) (calls.Block who why) js h = h
  one_fails stops.None c js h = h
  one_fails (stops.Cut call keep) c js h = h

  some_fails : (stop : Stop) (cs : List Call) (place : ℕ) (js : List Section) → AreSigned made js → AreSigned made (failing_at stop cs place js)
  some_fails stop [] place js h = h
  some_fails stop (c ∷ cs) place js h =
      if_case (AreSigned made) (place == 0) (after_failing stop c js) (failing_at stop cs (place - 1) js)
      (λ t. one_fails stop c js h) (λ f. some_fails stop cs (place - 1) js h)

  signed_take : (n : ℕ) (cs : List Call) → AllSigned made cs → AllSigned made (take n cs)
  signed_take zero cs h = tt
  signed_take (suc n) [] h = tt
  signed_take (suc n) (c ∷ cs) h = (h.0, signed_take n cs h.1)

  pub signed_performed : (stop : Stop) (d : Doing) (js : List Section) → AllSigned made d.calls → AreSigned made js → AreSigned made (performed stop d js).sections
  unfolding performed
  signed_performed stop d js g h = at (stop_place stop d.calls)
    where
      at : (o : Option ℕ) → AreSigned made (option_map_or (broken stop d js) o (whole d js)).sections
      at None = all_calls d.calls js g h
      at (Some place) =
          let done = after_calls (take place d.calls) js in
          signed_crashed (kept_by stop) (failing_at stop d.calls place done)
          (some_fails stop d.calls place done (all_calls (take place d.calls) js (signed_take place d.calls g) h))

  pub signed_start : (stop : Stop) (floor : Floor) (d : Doing) (js : List Section) → AllSigned made d.calls → AreSigned made js → AreSigned made (start_performed stop floor d js).sections
  unfolding start_performed
  signed_start stops.None floor d js g h = signed_performed stops.None d js g h
  signed_start (stops.Cut call keep) floor d js g h = signed_performed (stops.Cut call keep) d js g h
  signed_start (stops.Fail call keep) floor d js g h =
      if_case (λ (p : Performed). AreSigned made p.sections) (call == 1) (unread floor d keep js) (performed (stops.Fail (call - 1) keep) d js)
      (λ t. signed_crashed keep js h) (λ f. signed_performed (stops.Fail (call - 1) keep) d js g h)

-- ---- a step that was not broken off

whole_done : (stop : Stop) (d : Doing) (js : List Section) → is_whole (performed stop d js).outcome ≡ true → (performed stop d js).outcome ≡ outcomes.Done
unfolding performed
whole_done stop d js = at (stop_place stop d.calls)
  where
    ended : (s : Stop) → is_whole (stop_outcome s) ≡ true → stop_outcome s ≡ outcomes.Done
    ended stops.None w = refl
    ended (stops.Cut call keep) w = cc
    ended (stops.Fail call keep) w = cc

    at : (o : Option ℕ) → is_whole (option_map_or (broken stop d js) o (whole d js)).outcome ≡ true → (option_map_or (broken stop d js) o (whole d js)).outcome ≡ outcomes.Done
    at None w = refl
    at (Some place) w = ended stop w

start_done : (stop : Stop) (floor : Floor) (d : Doing) (js : List Section) → is_whole (start_performed stop floor d js).outcome ≡ true
    → ((start_performed stop floor d js).outcome ≡ outcomes.Done) × (unreadable stop ≡ false)
unfolding start_performed
start_done stops.None floor d js w = (whole_done stops.None d js w, refl)
start_done (stops.Cut call keep) floor d js w = (whole_done (stops.Cut call keep) d js w, refl)
start_done (stops.Fail call keep) floor d js w = at (call == 1) w
  where
    at : (b : Bool) → is_whole (if b then unread floor d keep js else performed (stops.Fail (call - 1) keep) d js).outcome ≡ true
        → ((if b then unread floor d keep js else performed (stops.Fail (call - 1) keep) d js).outcome ≡ outcomes.Done) × (b ≡ false)
    at true h = cc
    at false h = (whole_done (stops.Fail (call - 1) keep) d js h, refl)

-- ---- where a voter is

pub step_place : (made : VoterMade) (past : List Given) (input : VoterInput) (now : ℕ) (stop : Stop) (o : Option Doing) → voter.stepped made.rules now (place_of made past).standing input ≡ o
    → place_of made (given.Stepped input now stop ∷ past)
    ≡ option_map_or (λ d. record { standing = rest d (place_of made past).standing.answers; sections = (performed stop d (place_of made past).sections).sections }) o (place_of made past)
unfolding place_of
step_place made past input now stop o e =
    ap (λ (p : Option Doing). option_map_or (λ d. record { standing = rest d (place_of made past).standing.answers; sections = (performed stop d (place_of made past).sections).sections }) p (place_of made past)) e

pub step_gives : (made : VoterMade) (past : List Given) (input : VoterInput) (now : ℕ) (stop : Stop) (o : Option Doing) → voter.stepped made.rules now (place_of made past).standing input ≡ o
    → step_given made past input now stop ≡ option_map_or (λ d. performed stop d (place_of made past).sections) o (idle (place_of made past).sections)
unfolding step_given
step_gives made past input now stop o e = ap (λ (p : Option Doing). option_map_or (λ d. performed stop d (place_of made past).sections) p (idle (place_of made past).sections)) e

answered_known : (number : ℕ) (answer : Answer) (s : Standing) → (voter.answered number answer s).desk.known ≡ s.desk.known
unfolding voter.answered
answered_known number answer s = at (voter.takes_answer s number answer)
  where
    at : (b : Bool) → (if b
        then record {
          desk = record s.desk { proposal = option_map (voter.marked_answered number) s.desk.proposal };
          answers = s.answers ++ (number, answer) ∷ [];
        }
        else s).desk.known ≡ s.desk.known
    at true = refl
    at false = refl

-- ---- the current view never falls

no_view : (a b : ℕ) → a ≡ b → a ≡ max 0 b
no_view a b e = omega (arith, e)

-- facts that do not last open no view
lasting_opens : (length : ℕ) (known : List Fact) → greatest_of (opened_view length) (lasting known) ≡ greatest_of (opened_view length) known
unfolding greatest_of
lasting_opens length [] = refl
lasting_opens length (Added c now ∷ known) = ap (max (opened_view length (Added c now))) (lasting_opens length known)
lasting_opens length (Judged view good now ∷ known) = ap (max (opened_view length (Judged view good now))) (lasting_opens length known)
lasting_opens length (Voted v ∷ known) = ap (max 0) (lasting_opens length known)
lasting_opens length (FloorAt view payload ∷ known) = no_view _ _ (lasting_opens length known)
lasting_opens length (Taken p ∷ known) = no_view _ _ (lasting_opens length known)
lasting_opens length (Answered p ∷ known) = no_view _ _ (lasting_opens length known)
lasting_opens length (Approved p ∷ known) = no_view _ _ (lasting_opens length known)
lasting_opens length (Published view now ∷ known) = no_view _ _ (lasting_opens length known)
lasting_opens length (Expired view reason now ∷ known) = no_view _ _ (lasting_opens length known)
lasting_opens length (Failed view reason ∷ known) = no_view _ _ (lasting_opens length known)
lasting_opens length (Broadcast kind view ∷ known) = no_view _ _ (lasting_opens length known)
lasting_opens length (ProposalAsked view ∷ known) = no_view _ _ (lasting_opens length known)
lasting_opens length (ProposalFreed view ∷ known) = no_view _ _ (lasting_opens length known)
lasting_opens length (VerifyAsked p ∷ known) = no_view _ _ (lasting_opens length known)
lasting_opens length (CertifyAsked view ∷ known) = no_view _ _ (lasting_opens length known)
lasting_opens length (MissingAsked p view kind ∷ known) = no_view _ _ (lasting_opens length known)
lasting_opens length (ParentAsked p ∷ known) = no_view _ _ (lasting_opens length known)
lasting_opens length (Pruned view ∷ known) = no_view _ _ (lasting_opens length known)

opens_more : (length : ℕ) (more known : List Fact) → greatest_of (opened_view length) known ≤ greatest_of (opened_view length) (more ++ known)
unfolding greatest_of
opens_more length [] known = omega arith
opens_more length (fact ∷ more) known = (let later = opens_more length more known in omega (arith, later))

view_grows : (made : Made) (more before after : List Fact) → lasting after ≡ more ++ lasting before → current_of made before ≤ current_of made after
unfolding current_of
view_grows made more before after e =
    let f = opened_view made.term_length in
    let old : greatest_of f (lasting before) ≡ greatest_of f before = lasting_opens made.term_length before in
    let new : greatest_of f (lasting after) ≡ greatest_of f after = lasting_opens made.term_length after in
    let same : greatest_of f (lasting after) ≡ greatest_of f (more ++ lasting before) = ap (greatest_of f) e in
    let grown = opens_more made.term_length more (lasting before) in
    omega (arith, old, new, same, grown)

pub view_answered : (made : VoterMade) (past : List Given) (number : ℕ) (answer : Answer) → view_at made (given.Answered number answer ∷ past) ≡ view_at made past
unfolding place_of
view_answered made past number answer = ap (current_of made.rules) (answered_known number answer (place_of made past).standing)

pub view_stepped : StepsWrite → (made : VoterMade) (past : List Given) (input : VoterInput) (now : ℕ) (stop : Stop) → view_at made past ≤ view_at made (given.Stepped input now stop ∷ past)
view_stepped law made past input now stop = at (voter.stepped made.rules now (place_of made past).standing input) refl
  where
    at : (o : Option Doing) → voter.stepped made.rules now (place_of made past).standing input ≡ o → view_at made past ≤ view_at made (given.Stepped input now stop ∷ past)
    at None e = (let same = ap (λ (p : Place). current_of made.rules p.standing.desk.known) (step_place made past input now stop None e) in omega (arith, same))
    at (Some d) e =
        let same = ap (λ (p : Place). current_of made.rules p.standing.desk.known) (step_place made past input now stop (Some d) e) in
        let known = (place_of made past).standing.desk.known in
        let grown = view_grows made.rules (facts_of_step now d.calls) known d.desk.known (law made.rules now input (place_of made past).standing d e) in
        omega (arith, same, grown)

-- ---- the member that runs there

pub record Runs (made : VoterMade) (past : List Given) : Type 0 where
  pub calls : List life.Call
  pub legal : IsLegal made.rules.term_length newborn calls
  pub runs : IsRunning made.rules (place_of made past).standing.desk.known (place_of made past).sections (run newborn calls)
  pub signed : AreSigned made.rules (place_of made past).sections

module _ (made : VoterMade) where
  runs_started : StartsLive → (now : ℕ) (stop : Stop) → IsFloor made.floor → IsOfLife made.rules made.sections → is_whole (start_given made [] now stop).outcome ≡ true
      → Runs made (given.Started now stop ∷ [])
  unfolding place_of start_given
  runs_started law now stop floor l w =
      let d = start_at made now made.sections in
      let m = run newborn l.calls in
      let p = start_performed stop made.floor d made.sections in
      let x = law made.rules now made.floor stop made.sections m floor l.stopped in
      let done = start_done stop made.floor d made.sections w in
      let runs : IsRunning made.rules d.desk.known p.sections (run m x.calls) = subst (λ (o : Outcome). IsLeft made.rules d.desk.known o p.sections (run m x.calls)) done.0 x.left in
      let before : Standing = record { desk = voter.blank_desk; answers = [] } in
      let knows : List Fact = (if unreadable stop then before else rest d []).desk.known in
      let same : knows ≡ d.desk.known = ap (λ b. (if b then before else rest d []).desk.known) done.1 in
      record {
        calls = l.calls ++ x.calls;
        legal = IsLegal-append made.rules.term_length newborn l.calls x.calls l.legal x.legal;
        runs = subst (IsRunning made.rules knows p.sections) (sym (run-append newborn l.calls x.calls)) (subst (λ known. IsRunning made.rules known p.sections (run m x.calls)) (sym same) runs);
        signed = signed_start made.rules stop made.floor d made.sections (start_signed made.rules now made.floor (replayed made.sections)) (each_record made.rules made.sections l.signed);
      }

  runs_answered : (past : List Given) (number : ℕ) (answer : Answer) → Runs made past → Runs made (given.Answered number answer ∷ past)
  unfolding place_of
  runs_answered past number answer r =
      record {
        calls = r.calls;
        legal = r.legal;
        runs = subst (λ known. IsRunning made.rules known (place_of made past).sections (run newborn r.calls)) (sym (answered_known number answer (place_of made past).standing)) r.runs;
        signed = r.signed;
      }

  runs_stepped : StepsLive → (past : List Given) (input : VoterInput) (now : ℕ) (stop : Stop) → view_at made past < greatest_view → is_whole (step_given made past input now stop).outcome ≡ true
      → Runs made past → Runs made (given.Stepped input now stop ∷ past)
  runs_stepped law past input now stop low w r = at (voter.stepped made.rules now (place_of made past).standing input) refl
    where
      at : (o : Option Doing) → voter.stepped made.rules now (place_of made past).standing input ≡ o → Runs made (given.Stepped input now stop ∷ past)
      at None e =
          let same = sym (step_place made past input now stop None e) in
          record {
            calls = r.calls;
            legal = r.legal;
            runs = subst (λ (p : Place). IsRunning made.rules p.standing.desk.known p.sections (run newborn r.calls)) same r.runs;
            signed = subst (λ (p : Place). AreSigned made.rules p.sections) same r.signed;
          }
      at (Some d) e =
          let before = place_of made past in
          let m = run newborn r.calls in
          let p = performed stop d before.sections in
          let same = sym (step_place made past input now stop (Some d) e) in
          let x = law made.rules now input stop before.standing before.sections d m low r.runs e in
          let done = whole_done stop d before.sections (ap (λ (q : Performed). is_whole q.outcome) (sym (step_gives made past input now stop (Some d) e)) ∙ w) in
          let runs : IsRunning made.rules d.desk.known p.sections (run m x.calls) = subst (λ (o : Outcome). IsLeft made.rules d.desk.known o p.sections (run m x.calls)) done x.left in
          record {
            calls = r.calls ++ x.calls;
            legal = IsLegal-append made.rules.term_length newborn r.calls x.calls r.legal x.legal;
            runs = subst (λ (q : Place). IsRunning made.rules q.standing.desk.known q.sections (run newborn (r.calls ++ x.calls))) same
                (subst (IsRunning made.rules d.desk.known p.sections) (sym (run-append newborn r.calls x.calls)) runs);
            signed = subst (λ (q : Place). AreSigned made.rules q.sections) same
                (signed_performed made.rules stop d before.sections (step_signed made.rules now before.standing input d e) r.signed);
          }

pub lived_runs : StepsLive → StartsLive → StepsWrite → (made : VoterMade) (past : List Given) → HasLived made past → view_at made past < greatest_view → Runs made past
unfolding HasLived
lived_runs steps starts writes made [] l low = absurd l
lived_runs steps starts writes made (given.Started now stop ∷ past) l low =
    let first : Runs made (given.Started now stop ∷ []) =
    runs_started made starts now stop l.1 l.2 (subst (λ (older : List Given). is_whole (start_given made older now stop).outcome ≡ true) l.0 l.3) in
    subst (λ (older : List Given). Runs made (given.Started now stop ∷ older)) (sym l.0) first
lived_runs steps starts writes made (given.Stepped input now stop ∷ past) l low =
    let grown = view_stepped writes made past input now stop in
    let below : view_at made past < greatest_view = omega (arith, grown, low) in
    runs_stepped made steps past input now stop below l.1 (lived_runs steps starts writes made past l.0 below)
lived_runs steps starts writes made (given.Answered number answer ∷ past) l low =
    let same = view_answered made past number answer in
    runs_answered made past number answer (lived_runs steps starts writes made past l (omega (arith, same, low)))
