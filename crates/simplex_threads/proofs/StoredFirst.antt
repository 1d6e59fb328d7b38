-- A voter's turns store each vote before it goes out.
use Rattle.std.proofs.Common.{◌≡◌, ℕ, ◌<◌, ◌≤◌, max, true, List, [], ◌∷◌, ◌++◌, drop, map, All, Contains, Option, Some, None, refl, sym, ap, ◌∙◌, subst, inl, inr, arith}
use Rattle.std.specs.Option.{option_map_or}
use Rattle.std.proofs.lemmas.List.Elements.{All-head, All-tail}
use Rattle.simplex_mailbox.specs.Waiting.{front}
use Rattle.simplex_values.specs.Terms.{greatest_view}
use Rattle.simplex_values.specs.declared.answer.Answer.{Answer}
use Rattle.simplex_values.specs.declared.proposal.Subject.TheVariants as subjects
use Rattle.simplex_values.specs.declared.round.Round.{Round}
use Rattle.simplex_wire.specs.declared.artifact.Artifact.{Artifact}
use Rattle.simplex_wire.specs.declared.artifact.Artifact.TheVariants as artifacts
use Rattle.simplex_wire.specs.declared.attestation.Attestation.{Attestation}
use Rattle.simplex_wire.specs.declared.vote.Nullify.{Nullify}
use Rattle.simplex_wire.specs.declared.vote.Vote.{Vote}
use Rattle.simplex_wire.specs.declared.vote.Vote.TheVariants as votes
use Rattle.simplex_journal.specs.Journal.{Section, replayed}
use Rattle.simplex_journal.specs.Contents as journal
use Rattle.simplex_journal.proofs.Contents.{kept-rested}
use Rattle.simplex_messages.specs.declared.call.Call.{Call}
use Rattle.simplex_messages.specs.declared.step.Outcome.{Outcome}
use Rattle.simplex_messages.specs.declared.step.Outcome.TheVariants as outcomes
use Rattle.simplex_messages.specs.declared.step.Stop.{Stop}
use Rattle.simplex_messages.specs.declared.step.Stop.TheVariants as stops
use Rattle.simplex_messages.specs.declared.voter.Message.{Message}
use Rattle.simplex_messages.specs.declared.voter.VoterInput.{VoterInput}
use Rattle.simplex_messages.specs.declared.voter.VoterInput.TheVariants as inputs
use Rattle.model_rules.specs.Known.{Made}
use Rattle.model_steps.specs.Desk.{Doing}
use Rattle.model_steps.specs.Performed.{performed, broken, whole, stop_place, stop_outcome, Performed}
use Rattle.model_steps.specs.Voter.{Standing, takes_answer, stepped}
use Rattle.model_steps.specs.VoterLife.{VoterMade, Given, Answered, place_of, step_given}
use Rattle.model_steps.specs.Engine.{is_whole}
use Rattle.law_agreement.specs.Artifacts as member
use Rattle.law_agreement.specs.Journal as kept
use Rattle.law_agreement.specs.Member.{Member, newborn, run}
use Rattle.law_agreement.proofs.Invariant.{Lives, Lives-run, Lives-newborn}
use Rattle.law_agreement.proofs.JournalFacts.{held_kept}
use Rattle.law_agreement.proofs.ListFacts.{not_in_empty, Contains-here, Contains-there, Contains-cons_cases}
use Rattle.law_member.specs.Life.{memory_of, section_of, journal_of, IsEarlier}
use Rattle.law_member.specs.Storing.{IsRepeated, IsSigned, IsOwn, AreStoredFirst}
use Rattle.law_member.proofs.Choices.{if_case}
use Rattle.law_member.proofs.Replaying.{kept_is}
use Rattle.law_member.proofs.Silent.{some_is}
use Rattle.simplex_voter.specs.declared.kind.AskKind.{AskKind}
use Rattle.simplex_voter.specs.Turned.{IsOfJournal}
use Rattle.simplex_voter.specs.Unanswered.{unanswered}
use Rattle.simplex_turns.specs.declared.feed.FeedItem.{FeedItem}
use Rattle.simplex_turns.specs.declared.feed.FeedItem.TheVariants as items
use Rattle.simplex_turns.specs.Turns.{after}
use Rattle.simplex_turns.specs.Threads.{IsUnbroken, Ended, IsFree}
use Rattle.simplex_turns.specs.Voting.{VoterPlace, Found, Turn, holds_candidate, taken_by, replied, on_item, finds, voter_step, voter_turn, step_outcome, turn_outcome, outcomes_of}
use Rattle.simplex_threads.specs.Laws.{HasLived, view_at, view_behind, IsHeld, AllStoreFirst}
use Rattle.simplex_threads.proofs.Lived.{StepsLive, StartsLive, StepsWrite, step_gives, view_answered, view_stepped, Runs, lived_runs}

-- ---- a nullify that the member made before stands in the journal

kept_in : (js : List Section) (a : member.Artifact) → kept.waiting (journal_of js) ≡ [] → Contains (kept.held (journal_of js)) a → Contains (map memory_of (replayed js)) a
kept_in js a rest c = subst (λ xs. Contains xs a) (held_kept (journal_of js) rest ∙ kept_is js rest) c

from_map : (xs : List Artifact) (x : member.Artifact) → Contains (map memory_of xs) x → (a : Artifact) × Contains xs a × (memory_of a ≡ x)
from_map [] x c = absurd (not_in_empty x c)
from_map (y ∷ ys) x c =
    elim (Contains-cons_cases (memory_of y) (map memory_of ys) x c) [
      | inl e ↦ (y, Contains-here y ys, e)
      | inr r ↦ (let p = from_map ys x r in (p.0, Contains-there y ys p.0 p.1, p.2))
    ]

own_nullify : (a : Artifact) (round : Round) → memory_of a ≡ member.Own (subjects.Nullify round) → (w : Nullify) × (a ≡ artifacts.Nullify w) × (w.round ≡ round)
own_nullify (artifacts.Nullify w) round e = (w, refl, cc)
own_nullify (artifacts.Notarize v) round e = cc
own_nullify (artifacts.Finalize v) round e = cc
own_nullify (artifacts.Notarization c) round e = cc
own_nullify (artifacts.Nullification c) round e = cc
own_nullify (artifacts.Finalization c) round e = cc
own_nullify (artifacts.Certification r good) round e = cc

none_left : {X : Type 0} (xs ys : List X) → xs ++ ys ≡ [] → (xs ≡ []) × (ys ≡ [])
none_left [] ys e = (refl, e)
none_left (x ∷ xs) ys e = cc

map_none : {A B : Type 0} (f : A → B) (xs : List A) → map f xs ≡ [] → xs ≡ []
map_none f [] e = refl
map_none f (x ∷ xs) e = cc

at_rest : (js : List Section) → kept.waiting (journal_of js) ≡ [] → journal.waiting js ≡ []
unfolding journal_of journal.waiting
at_rest [] e = refl
at_rest (s ∷ rest) e =
    let p = none_left (map memory_of s.pending) (kept.waiting (map section_of rest)) e in
    ap (λ xs. xs ++ journal.waiting rest) (map_none memory_of s.pending p.0) ∙ at_rest rest p.1

-- two nullifies that the scheme signs are one, where they are of one round
one_nullify : (made : Made) (v w : Nullify) → w.round ≡ v.round → IsSigned made (votes.Nullify v) → IsSigned made (votes.Nullify w) → w ≡ v
one_nullify made v w same s t =
    let signed : w.attestation ≡ v.attestation = some_is w.attestation v.attestation (sym t ∙ ap (λ (r : Round). made.signs (subjects.Nullify r)) same ∙ s) in
    ap (λ (r : Round). let x : Nullify = record { round = r; attestation = w.attestation } in x) same
    ∙ ap (λ (a : Attestation). let x : Nullify = record { round = v.round; attestation = a } in x) signed

module _ (made : VoterMade) (past : List Given) (positive : 0 < made.rules.term_length) (r : Runs made past) where
  abbrev js : List Section
  js = (place_of made past).sections

  abbrev m : Member
  m = run newborn r.calls

  still : kept.waiting (journal_of js) ≡ []
  still = (let runs = r.runs in ap kept.waiting (sym runs.journal) ∙ runs.stored)

  lives : Lives made.rules.term_length m
  lives = Lives-run made.rules.term_length positive newborn r.calls r.legal (Lives-newborn made.rules.term_length)

  held : (v : Nullify) → IsOwn made.rules (votes.Nullify v) → IsEarlier m v → IsHeld js v
  held v own e =
      let runs = r.runs in
      let record_of = member.Own (subjects.Nullify v.round) in
      let stands : Contains (kept.held (journal_of js)) record_of = subst (λ j. Contains (kept.held j) record_of) runs.journal ((lives.running runs.up).knowing.stands record_of e.0 e.1) in
      let found = from_map (replayed js) record_of (kept_in js record_of still stands) in
      let w = own_nullify found.0 v.round found.2 in
      let there : Contains (replayed js) (artifacts.Nullify w.0) = subst (Contains (replayed js)) w.1 found.1 in
      let same : w.0 ≡ v = one_nullify made.rules v w.0 w.2 own.0 (r.signed (artifacts.Nullify w.0) there) in
      subst (λ xs. Contains xs (artifacts.Nullify v)) (sym (kept-rested js (at_rest js still)))
      (subst (λ (x : Nullify). Contains (replayed js) (artifacts.Nullify x)) same there)

  again : (v : Vote) → IsOwn made.rules v → IsRepeated (IsEarlier m) v → IsRepeated (IsHeld js) v
  again (votes.Nullify v) own h = held v own h
  again (votes.Notarize v) own h = absurd h
  again (votes.Finalize v) own h = absurd h

  pub first_held : (cs : List Call) → AreStoredFirst (IsEarlier m) (IsOwn made.rules) cs → AreStoredFirst (IsHeld js) (IsOwn made.rules) cs
  first_held cs first before behind to bytes e =
      let x = first before behind to bytes e in
      (x.0, x.1, elim x.2 [ inl s ↦ inl s | inr k ↦ inr (again x.0 x.3 k) ], x.3)

-- ---- how turns end

-- none but the last was broken off
abbrev FrontUnbroken : List Outcome → Type 0
FrontUnbroken [] = Unit {0}
FrontUnbroken (outcome ∷ []) = Unit {0}
FrontUnbroken (outcome ∷ next ∷ rest) = IsUnbroken outcome × FrontUnbroken (next ∷ rest)

each_unbroken : (ends : List Outcome) → All IsUnbroken ends → FrontUnbroken ends
each_unbroken [] h = tt
each_unbroken (outcome ∷ []) h = tt
each_unbroken (outcome ∷ next ∷ rest) h =
    (All-head IsUnbroken outcome (next ∷ rest) h, each_unbroken (next ∷ rest) (All-tail IsUnbroken outcome (next ∷ rest) h))

but_last : (front : List Outcome) (last : Outcome) → All IsUnbroken front → FrontUnbroken (front ++ last ∷ [])
but_last [] last h = tt
but_last (outcome ∷ []) last h = (All-head IsUnbroken outcome [] h, tt)
but_last (outcome ∷ next ∷ rest) last h =
    (All-head IsUnbroken outcome (next ∷ rest) h, but_last (next ∷ rest) last (All-tail IsUnbroken outcome (next ∷ rest) h))

front_unbroken : (turns : ℕ) (ends : List Outcome) (before now : ℕ) → Ended turns ends before now → FrontUnbroken ends
front_unbroken turns ends before now (inl h) = each_unbroken ends h.2
front_unbroken turns ends before now (inr h) = (let last = h.2 in subst FrontUnbroken (sym last.1) (but_last last.0 outcomes.Journal last.2))

-- a step that no stop cut, and that no failing call of the journal ended, is whole
ended_whole : (stop : Stop) → IsOfJournal stop → IsUnbroken (stop_outcome stop) → is_whole (stop_outcome stop) ≡ true
ended_whole stops.None free u = refl
ended_whole (stops.Cut call keep) free u = absurd free
ended_whole (stops.Fail call keep) free u = absurd (u refl)

performed_whole : (stop : Stop) (d : Doing) (js : List Section) → IsOfJournal stop → IsUnbroken (performed stop d js).outcome → is_whole (performed stop d js).outcome ≡ true
unfolding performed
performed_whole stop d js free = at (stop_place stop d.calls)
  where
    at : (o : Option ℕ) → IsUnbroken (option_map_or (broken stop d js) o (whole d js)).outcome → is_whole (option_map_or (broken stop d js) o (whole d js)).outcome ≡ true
    at None u = refl
    at (Some place) u = ended_whole stop free u

-- ---- a turn

module _ (made : VoterMade) where
  -- what a turn finds lies where the turn began, but for an answer
  record IsThere (past : List Given) (found : Found) : Type 0 where
    pub lived : HasLived made past → HasLived made found.0.past
    pub sections : (place_of made found.0.past).sections ≡ (place_of made past).sections
    pub view : view_at made found.0.past ≡ view_at made past

  same_past : (past : List Given) (place : VoterPlace) (input : Option VoterInput) → place.past ≡ past → IsThere past (place, input)
  same_past past place input e =
      record {
        lived = λ l. subst (HasLived made) (sym e) l;
        sections = ap (λ (p : List Given). (place_of made p).sections) e;
        view = ap (view_at made) e;
      }

  answered_there : (place : VoterPlace) (kind : AskKind) (number : ℕ) (answer : Answer) → IsThere place.past (record place { past = Answered number answer ∷ place.past }, Some (taken_by kind))
  unfolding HasLived place_of
  answered_there place kind number answer =
      record { lived = λ l. l; sections = refl; view = view_answered made place.past number answer }

  replied_there : (s : Standing) (place : VoterPlace) (kind : AskKind) (answer : Answer) (o : Option ℕ) → IsThere place.past (replied s place kind answer o)
  unfolding replied
  replied_there s place kind answer None = same_past place.past place None refl
  replied_there s place kind answer (Some number) =
      if_case (IsThere place.past) (takes_answer s number answer) (record place { past = Answered number answer ∷ place.past }, Some (taken_by kind)) (place, None)
      (λ t. answered_there place kind number answer) (λ f. same_past place.past place None refl)

  item_there : (place : VoterPlace) (o : Option FeedItem) → IsThere place.past (on_item made place o)
  item_there place None = same_past place.past place None refl
  item_there place (Some (items.Now ms)) = same_past place.past (record place { now = max place.now ms }) (Some inputs.Timer) refl
  item_there place (Some (items.Reply kind answer)) =
      let s = (place_of made place.past).standing in replied_there s place kind answer (unanswered s kind)

  found_there : (place : VoterPlace) (message : Option Message) → IsThere place.past (finds made place message)
  unfolding finds
  found_there place (Some message) = same_past place.past place (Some (inputs.Mail message)) refl
  found_there place None =
      let later : VoterPlace = record place { feed = drop 1 place.feed } in
      if_case (IsThere place.past) (holds_candidate (place_of made place.past).standing) (place, Some inputs.Propose) (on_item made later (front place.feed))
      (λ t. same_past place.past place (Some inputs.Propose) refl) (λ f. item_there later (front place.feed))

  -- a voter that has lived has lived behind a turn that was not broken off
  lived_step : (found : Found) (stop : Stop) → HasLived made found.0.past → is_whole (step_outcome made found stop) ≡ true → HasLived made (voter_step made found stop).0.past
  unfolding HasLived
  lived_step (place, None) stop l w = l
  lived_step (place, Some input) stop l w = (l, w)

  whole_step : (found : Found) (stop : Stop) → IsOfJournal stop → IsUnbroken (step_outcome made found stop) → is_whole (step_outcome made found stop) ≡ true
  whole_step (place, None) stop free u = refl
  whole_step (place, Some input) stop free u = at (stepped made.rules place.now (place_of made place.past).standing input) refl
    where
      at : (o : Option Doing) → stepped made.rules place.now (place_of made place.past).standing input ≡ o → is_whole (step_given made place.past input place.now stop).outcome ≡ true
      at None e = ap (λ (p : Performed). is_whole p.outcome) (step_gives made place.past input place.now stop None e)
      at (Some d) e =
          let same = step_gives made place.past input place.now stop (Some d) e in
          ap (λ (p : Performed). is_whole p.outcome) same
          ∙ performed_whole stop d (place_of made place.past).sections free (subst (λ (p : Performed). IsUnbroken p.outcome) same u)

  lived_turn : (place : VoterPlace) (turn : Turn) → HasLived made place.past → IsFree turn → IsUnbroken (step_outcome made (finds made place turn.0) turn.1)
      → HasLived made (voter_step made (finds made place turn.0) turn.1).0.past
  lived_turn place turn l free u =
      let found = finds made place turn.0 in
      let there = found_there place turn.0 in
      lived_step found turn.1 (there.lived l) (whole_step found turn.1 free u)

  pub turns_lived : (place : VoterPlace) (did : List Turn) → HasLived made place.past → All IsFree did → All IsUnbroken (outcomes_of made place did)
      → HasLived made (after (voter_turn made) place did).past
  unfolding after voter_turn turn_outcome outcomes_of
  turns_lived place [] l free u = l
  turns_lived place (turn ∷ rest) l free u =
      let found = finds made place turn.0 in
      let later = (voter_step made found turn.1).0 in
      let outcome = step_outcome made found turn.1 in
      turns_lived later rest (lived_turn place turn l (All-head IsFree turn rest free) (All-head IsUnbroken outcome (outcomes_of made later rest) u))
      (All-tail IsFree turn rest free) (All-tail IsUnbroken outcome (outcomes_of made later rest) u)

nothing_first : (Earlier : Nullify → Type 0) (Own : Vote → Type 0) → AreStoredFirst Earlier Own []
nothing_first Earlier Own [] behind to bytes e = cc
nothing_first Earlier Own (b ∷ before) behind to bytes e = cc

module _ (steps : StepsLive) (starts : StartsLive) (writes : StepsWrite) (made : VoterMade) (positive : 0 < made.rules.term_length) where
  step_first : (past : List Given) (input : VoterInput) (now : ℕ) (stop : Stop) → HasLived made past → view_at made past < greatest_view
      → AreStoredFirst (IsHeld (place_of made past).sections) (IsOwn made.rules) (step_given made past input now stop).out.calls
  step_first past input now stop l low = at (stepped made.rules now (place_of made past).standing input) refl
    where
      at : (o : Option Doing) → stepped made.rules now (place_of made past).standing input ≡ o
          → AreStoredFirst (IsHeld (place_of made past).sections) (IsOwn made.rules) (step_given made past input now stop).out.calls
      at None e =
          subst (λ (p : Performed). AreStoredFirst (IsHeld (place_of made past).sections) (IsOwn made.rules) p.out.calls) (sym (step_gives made past input now stop None e))
          (nothing_first (IsHeld (place_of made past).sections) (IsOwn made.rules))
      at (Some d) e =
          let before = place_of made past in
          let p = performed stop d before.sections in
          let r = lived_runs steps starts writes made past l low in
          let x = steps made.rules now input stop before.standing before.sections d (run newborn r.calls) low r.runs e in
          subst (λ (p : Performed). AreStoredFirst (IsHeld before.sections) (IsOwn made.rules) p.out.calls) (sym (step_gives made past input now stop (Some d) e))
          (first_held made past positive r p.out.calls x.first)

  view_step : (found : Found) (stop : Stop) → view_at made found.0.past ≤ view_at made (voter_step made found stop).0.past
  view_step (place, None) stop = omega arith
  view_step (place, Some input) stop = view_stepped writes made place.past input place.now stop

  first_step : (found : Found) (stop : Stop) → HasLived made found.0.past → view_at made found.0.past < greatest_view
      → AreStoredFirst (IsHeld (place_of made found.0.past).sections) (IsOwn made.rules) (voter_step made found stop).1.calls
  first_step (place, None) stop l low = nothing_first (IsHeld (place_of made place.past).sections) (IsOwn made.rules)
  first_step (place, Some input) stop l low = step_first place.past input place.now stop l low

  -- ---- turns, one after another

  view_turns : (place : VoterPlace) (did : List Turn) → view_at made place.past ≤ view_behind made place did
  unfolding after voter_turn
  view_turns place [] = omega arith
  view_turns place (turn ∷ rest) =
      let found = finds made place turn.0 in
      let there = found_there made place turn.0 in
      let same : view_at made found.0.past ≡ view_at made place.past = there.view in
      let grown = view_step found turn.1 in
      let later = view_turns (voter_step made found turn.1).0 rest in
      omega (arith, same, grown, later)

  turn_first : (place : VoterPlace) (turn : Turn) (rest : List Turn) → HasLived made place.past → view_behind made place (turn ∷ rest) < greatest_view
      → AreStoredFirst (IsHeld (place_of made place.past).sections) (IsOwn made.rules) (voter_step made (finds made place turn.0) turn.1).1.calls
  turn_first place turn rest l low =
      let found = finds made place turn.0 in
      let there = found_there made place turn.0 in
      let view : view_at made found.0.past ≡ view_at made place.past = there.view in
      let grown = view_turns place (turn ∷ rest) in
      let below : view_at made found.0.past < greatest_view = omega (arith, view, grown, low) in
      subst (λ (js : List Section). AreStoredFirst (IsHeld js) (IsOwn made.rules) (voter_step made found turn.1).1.calls) there.sections (first_step found turn.1 (there.lived l) below)

  all_first : (place : VoterPlace) (did : List Turn) → HasLived made place.past → view_behind made place did < greatest_view → All IsFree did
      → FrontUnbroken (outcomes_of made place did) → AllStoreFirst made place did
  unfolding AllStoreFirst after voter_turn turn_outcome outcomes_of
  all_first place [] l low free front = tt
  all_first place (turn ∷ []) l low free front = (turn_first place turn [] l low, tt)
  all_first place (turn ∷ next ∷ rest) l low free front = (
    turn_first place turn (next ∷ rest) l low,
    all_first (voter_step made (finds made place turn.0) turn.1).0 (next ∷ rest) (lived_turn made place turn l (All-head IsFree turn (next ∷ rest) free) front.0) low
        (All-tail IsFree turn (next ∷ rest) free) front.1,
  )

pub turns_first : StepsLive → StartsLive → StepsWrite → (made : VoterMade) (place : VoterPlace) (did : List Turn) (turns before now : ℕ)
    → 0 < made.rules.term_length → HasLived made place.past → view_behind made place did < greatest_view
    → All IsFree did → Ended turns (outcomes_of made place did) before now → AllStoreFirst made place did
turns_first steps starts writes made place did turns before now positive lived low free ended =
    all_first steps starts writes made positive place did lived low free
    (front_unbroken turns (outcomes_of made place did) before now ended)
