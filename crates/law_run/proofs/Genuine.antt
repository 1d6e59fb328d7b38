-- What the engines of a run say for a certificate verifies, and a floor stood in an entry before the start at it.
use Rattle.std.proofs.Common.{◌≡◌, ◌++◌, ◌&&◌, ◌||◌, ◌⊎◌, Bool, true, false, List, [], ◌∷◌, Contains, Ok, Option, Some, None, refl, sym, subst, inl, inr}
use Rattle.std.specs.List.{flat_map, list_any}
use Rattle.std.proofs.lemmas.List.Elements.{Contains-append_left, Contains-append_right}
use Rattle.simplex_wire.specs.declared.certificate.Certificate.{Certificate}
use Rattle.simplex_wire.specs.declared.certificate.Certificate.TheVariants as certificates
use Rattle.simplex_wire.specs.declared.certificate.Finalization.{Finalization}
use Rattle.simplex_types.specs.declared.activity.Activity.TheVariants as activities
use Rattle.simplex_messages.specs.declared.call.Call.{Call}
use Rattle.simplex_messages.specs.declared.call.Call.TheVariants as calls
use Rattle.simplex_messages.specs.declared.step.Stop.{Stop}
use Rattle.simplex_transcript.specs.declared.entry.Entry.{Entry}
use Rattle.simplex_transcript.specs.declared.event.Event.{Event}
use Rattle.simplex_transcript.specs.declared.event.Event.TheVariants as events
use Rattle.simplex_transcript.specs.declared.node.Node.{Node}
use Rattle.simplex_transcript.specs.declared.setup.Setup.{Setup}
use Rattle.model_run.specs.Setting.{Setting}
use Rattle.model_run.specs.Life.{Noted}
use Rattle.model_run.specs.Entries.{entry_of, reports, was_reported, is_own_floor, is_of_honest}
use Rattle.law_agreement.proofs.ListFacts.{not_in_empty, Contains-here, Contains-cons_cases}
use Rattle.law_run.specs.Histories.{IsRun}
use Rattle.law_run.proofs.StartFloors.{finals_same}
use Rattle.law_run.proofs.Turns.{entry_turn}
use Rattle.law_run.specs.Backed.{of_call, of_message, of_packet, standing_in, StandsIn}
use Rattle.law_run.specs.Genuine.{floor_in, AreGenuine}
use Rattle.law_run.specs.MostlyHonest.{IsMostlyHonest}
use Rattle.law_run.proofs.Good.{IsGood}
use Rattle.law_run.proofs.Standing.{in_start, in_said}
use Rattle.law_run.proofs.Worlds.{backers_of, fine_of, earlier}

-- ---- what was reported stands

call_stands : (f : Finalization) (c : Call) → reports f c ≡ true → Contains (of_call c) (certificates.Finalization f)
call_stands f (calls.Report (activities.Finalization g)) e = subst (λ x. Contains (certificates.Finalization g ∷ []) (certificates.Finalization x)) (sym (finals_same f g e)) (Contains-here (certificates.Finalization g) [])
call_stands f (calls.Report (activities.Notarize v)) e = cc
call_stands f (calls.Report (activities.Notarization v)) e = cc
call_stands f (calls.Report (activities.Certification v)) e = cc
call_stands f (calls.Report (activities.Nullify v)) e = cc
call_stands f (calls.Report (activities.Nullification v)) e = cc
call_stands f (calls.Report (activities.Finalize v)) e = cc
call_stands f (calls.Report (activities.ConflictingNotarize v)) e = cc
call_stands f (calls.Report (activities.ConflictingFinalize v)) e = cc
call_stands f (calls.Report (activities.NullifyFinalize v)) e = cc
call_stands f (calls.Append n a) e = cc
call_stands f (calls.Sync n) e = cc
call_stands f (calls.Prune n) e = cc
call_stands f (calls.Send channel to bytes) e = cc
call_stands f (calls.Relay payload plan) e = cc
call_stands f (calls.Block who why) e = cc

calls_stand : (f : Finalization) (cs : List Call) → list_any (reports f) cs ≡ true → Contains (flat_map of_call cs) (certificates.Finalization f)
calls_stand f [] e = cc
calls_stand f (c ∷ rest) e = at (reports f c) refl (calls_stand f rest)
  where
    at : (b : Bool) → reports f c ≡ b → (list_any (reports f) rest ≡ true → Contains (flat_map of_call rest) (certificates.Finalization f)) → Contains (of_call c ++ flat_map of_call rest) (certificates.Finalization f)
    at true h old = Contains-append_left (of_call c) (flat_map of_call rest) _ (call_stands f c h)
    at false h old = Contains-append_right (of_call c) (flat_map of_call rest) _ (old (subst (λ b. (b || list_any (reports f) rest) ≡ true) h e))

-- what the calls have stands in their entry
pub called_stands : (entry : Entry) (c : Certificate) → Contains (flat_map of_call entry.calls) c → Contains (standing_in entry) c
called_stands entry c k =
    Contains-append_left (entry.added ++ flat_map of_message entry.handed ++ flat_map of_call entry.calls) (flat_map of_packet entry.packets) c
    (Contains-append_right (entry.added ++ flat_map of_message entry.handed) (flat_map of_call entry.calls) c k)

reported_stands : (setup : Setup) (f : Finalization) (before : List Noted) → was_reported setup before f ≡ true → StandsIn before (certificates.Finalization f)
unfolding was_reported StandsIn
reported_stands setup f [] e = cc
reported_stands setup f (noted ∷ before) e = at (is_of_honest setup noted.entry.who) (list_any (reports f) noted.entry.calls) refl e (reported_stands setup f before)
  where
    at : (a b : Bool) → list_any (reports f) noted.entry.calls ≡ b → ((a && b) || was_reported setup before f) ≡ true → (was_reported setup before f ≡ true → StandsIn before (certificates.Finalization f))
        → Contains (standing_in noted.entry) (certificates.Finalization f) ⊎ StandsIn before (certificates.Finalization f)
    at true true h k old = inl (called_stands noted.entry _ (calls_stand f noted.entry.calls h))
    at true false h k old = inr (old k)
    at false b h k old = inr (old k)

-- ---- a floor stood before

floor_stood : (setup : Setup) (before : List Noted) (floor : Option Finalization) (node : Node) (stop : Stop) (c : Certificate) → is_own_floor setup before floor ≡ true → Contains (floor_in (events.Start node floor stop)) c → StandsIn before c
floor_stood setup before None node stop c e k = absurd (not_in_empty c k)
floor_stood setup before (Some f) node stop c e k = elim (Contains-cons_cases _ [] c k) [ inl same ↦ subst (StandsIn before) same (reported_stands setup f before e) | inr r ↦ absurd (not_in_empty c r) ]

start_stood : (setting : Setting) (before : List Noted) (event : Event) (noted : Noted) (c : Certificate) → entry_of setting before event ≡ Ok noted → Contains (floor_in noted.event) c → StandsIn before c
start_stood setting before event noted c e k = elim (entry_turn setting before event noted e) [
  | inl b ↦ floor_stood setting.setup before b.floor b.at b.stop c b.own (subst (λ (n : Noted). Contains (floor_in n.event) c) (sym b.is) k)
  | inr other ↦ elim other [
    | inl g ↦ absurd (in_start (λ x. ⊥) event c g.start (subst (λ (n : Noted). Contains (floor_in n.event) c) (sym g.is) k))
    | inr rest ↦ elim rest [
      | inl x ↦ absurd (not_in_empty c (subst (λ (n : Noted). Contains (floor_in n.event) c) (sym x.is) k))
      | inr last ↦ elim last [
        | inl t ↦ absurd (not_in_empty c (subst (λ (n : Noted). Contains (floor_in n.event) c) (sym t.is) k))
        | inr a ↦ absurd (in_start (λ x. ⊥) noted.event c a.start k)
      ]
    ]
  ]
]

-- ---- the law

pub run_genuine : (setting : Setting) (noted : List Noted) → IsMostlyHonest setting noted → AreGenuine setting.setup noted
unfolding AreGenuine IsRun
run_genuine setting [] o = tt
run_genuine setting (noted ∷ before) o =
    let backers = backers_of setting (noted ∷ before) in
    let fine = fine_of setting (noted ∷ before) o in (
      record {
        verifies = λ c k. (let good = in_said (IsGood backers) noted c fine.said.0 k in good.verifies);
        stood = λ c k. start_stood setting before o.ran.0 noted c o.ran.1 k;
      },
      run_genuine setting before (earlier setting noted before o),
    )
