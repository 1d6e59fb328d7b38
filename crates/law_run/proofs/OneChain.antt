-- Finalizations that engines report are of one chain, since they stand and verify, and none conflict.
use Rattle.std.proofs.Common.{◌≡◌, ℕ, ◌<◌, ◌≤◌, ◌⊎◌, Bool, true, false, List, [], ◌∷◌, map, reverse, Contains, Result, Ok, Err, refl, sym, ◌∙◌, subst, inl, inr, arith}
use mathlib.Core.List.{reverse_aux}
use Rattle.std.proofs.lemmas.Bool.{cases_lt}
use Rattle.simplex_values.specs.declared.proposal.Proposal.{Proposal}
use Rattle.simplex_values.specs.declared.proposal.Subject.{Subject}
use Rattle.simplex_values.specs.declared.proposal.Subject.TheVariants as subjects
use Rattle.simplex_values.specs.Proposal.{is_same_proposal}
use Rattle.simplex_values.proofs.Same.{proposals_same, proposal_itself}
use Rattle.simplex_wire.specs.declared.certificate.Certificate.TheVariants as certificates
use Rattle.simplex_wire.specs.declared.certificate.Finalization.{Finalization}
use Rattle.simplex_wire.specs.Fields.{certificate_subject}
use Rattle.simplex_transcript.specs.declared.entry.Entry.{Entry}
use Rattle.simplex_transcript.specs.declared.event.Event.{Event}
use Rattle.simplex_transcript.specs.declared.field.Field.TheVariants as fields
use Rattle.simplex_transcript.specs.declared.refusal.Refusal.{Refusal}
use Rattle.simplex_transcript.specs.declared.refusal.RunError.TheVariants as refusals
use Rattle.simplex_transcript.specs.declared.setup.Setup.{Setup}
use Rattle.simplex_types.specs.declared.activity.Activity.TheVariants as activities
use Rattle.simplex_messages.specs.declared.call.Call.TheVariants as calls
use Rattle.model_run.specs.Life.{Noted}
use Rattle.model_run.specs.Run.{refused, are_few, run, transcript_of, RunFrom}
use Rattle.model_run.specs.Setting.{Setting}
use Rattle.model_run.specs.Setups.{first_bad}
use Rattle.law_agreement.specs.Conflict.{Conflict, AreRivals, IsSkipped}
use Rattle.law_agreement.specs.World.{view_of}
use Rattle.law_agreement.proofs.ListFacts.{not_in_empty, Contains-here, Contains-there, Contains-cons_cases}
use Rattle.law_run.specs.Backed.{of_call, StandsIn}
use Rattle.law_run.specs.Founded.{IsOn}
use Rattle.law_run.specs.Genuine.{AreGenuine}
use Rattle.law_run.specs.Chains.{IsCertified, IsChain, end_view, IsOnEachChain}
use Rattle.law_run.specs.OneChain.{IsReported, IsReportedIn, AreOfOneChain, ReportOneChain}
use Rattle.law_run.specs.Safe.{Stands, AgreeAll, IsSafe, RunsSafely}
use Rattle.law_run.proofs.Agreeing.{called_said, into_flat_map}
use Rattle.law_run.proofs.Genuine.{called_stands}
use Rattle.law_run.proofs.BackingNaming.{from_map}
use Rattle.law_run.proofs.Ran.{not_refused, unbad}

-- ---- what is reported stands, and verifies

reported_stands : (setup : Setup) (noted : List Noted) (f : Finalization) → AreGenuine setup noted → IsReported noted f → Stands setup noted (certificates.Finalization f)
unfolding IsReported StandsIn AreGenuine
reported_stands setup [] f genuine h = absurd h
reported_stands setup (noted ∷ before) f genuine h = elim h [
  | inl k ↦ (let there = into_flat_map of_call noted.entry.calls (calls.Report (activities.Finalization f)) (certificates.Finalization f) k (Contains-here (certificates.Finalization f) []) in
      let it = genuine.0 in
      (inl (called_stands noted.entry _ there), it.verifies _ (called_said noted _ there)))
  | inr r ↦ (let s = reported_stands setup before f genuine.1 r in (inr s.0, s.1))
]

-- ---- no rivals, and none is skipped

not_rivals : (p q : Proposal) → ¬ (AreRivals p q) → view_of p ≡ view_of q → p ≡ q
not_rivals p q n e = at (is_same_proposal p q) refl
  where
    never : true ≡ false → ⊥
    never h = cc

    at : (b : Bool) → is_same_proposal p q ≡ b → p ≡ q
    at true h = proposals_same p q h
    at false h = absurd (n (e, λ same. never (sym (proposal_itself p) ∙ subst (λ r. is_same_proposal p r ≡ false) (sym same) h)))

not_skipped : (p q : Proposal) → ¬ (IsSkipped p q) → view_of p < view_of q → view_of p ≤ q.parent
not_skipped p q n lt = elim (cases_lt q.parent (view_of p)) [ inl low ↦ absurd (n (lt, low)) | inr le ↦ le ]

-- a final proposal beside one that a certificate names
module _ (length : ℕ) (p : Proposal) where
  rivals_conflict : (s : Subject) (q : Proposal) → IsOn s q → AreRivals p q → Conflict length (subjects.Finalize p) s
  rivals_conflict s q (inl e) r = subst (Conflict length (subjects.Finalize p)) (sym e) (inl r)
  rivals_conflict s q (inr e) r = subst (Conflict length (subjects.Finalize p)) (sym e) (inl r)

  skip_conflicts : (s : Subject) (q : Proposal) → IsOn s q → IsSkipped p q → Conflict length (subjects.Finalize p) s
  skip_conflicts s q (inl e) r = subst (Conflict length (subjects.Finalize p)) (sym e) (inr r)
  skip_conflicts s q (inr e) r = subst (Conflict length (subjects.Finalize p)) (sym e) (inr (inl r))

module _ (setup : Setup) (noted : List Noted) (agrees : AgreeAll setup noted) (f : Finalization) (stands : Stands setup noted (certificates.Finalization f)) where
  one_of_view : (q : Proposal) → IsCertified setup noted q → view_of f.proposal ≡ view_of q → f.proposal ≡ q
  one_of_view q c = not_rivals f.proposal q (λ r. agrees (certificates.Finalization f) c.0 stands c.1 (rivals_conflict setup.term f.proposal (certificate_subject c.0) q c.2 r))

  none_skips : (q : Proposal) → IsCertified setup noted q → view_of f.proposal < view_of q → view_of f.proposal ≤ q.parent
  none_skips q c = not_skipped f.proposal q (λ r. agrees (certificates.Finalization f) c.0 stands c.1 (skip_conflicts setup.term f.proposal (certificate_subject c.0) q c.2 r))

  first_of : (p : Proposal) (down : List Proposal) → IsChain setup noted p down → IsCertified setup noted p
  unfolding IsChain
  first_of p [] chain = chain
  first_of p (q ∷ down) chain = chain.0

  -- at its view stands it itself
  here : (p : Proposal) (down : List Proposal) → IsChain setup noted p down → view_of f.proposal ≤ view_of p → view_of p ≤ view_of f.proposal → Contains (p ∷ down) f.proposal
  here p down chain top low =
      let same : view_of f.proposal ≡ view_of p = omega (arith, top, low) in
      subst (Contains (p ∷ down)) (sym (one_of_view p (first_of p down chain) same)) (Contains-here p down)

  on_chain : (p : Proposal) (down : List Proposal) → IsChain setup noted p down → view_of f.proposal ≤ view_of p → end_view p down ≤ view_of f.proposal → Contains (p ∷ down) f.proposal
  unfolding IsChain
  on_chain p [] chain top low = here p [] chain top low
  on_chain p (q ∷ down) chain top low = elim (cases_lt (view_of f.proposal) (view_of p)) [
    | inl above ↦ (let le = none_skips p chain.0 above in Contains-there p (q ∷ down) f.proposal (on_chain q down chain.2 (omega (arith, le, chain.1)) low))
    | inr at ↦ here p (q ∷ down) chain top at
  ]

-- ---- the laws

pub reports_agree : (setup : Setup) (noted : List Noted) (f g : Finalization) → AreGenuine setup noted → AgreeAll setup noted → IsReported noted f → IsReported noted g → AreOfOneChain f.proposal g.proposal
reports_agree setup noted f g genuine agrees rf rg =
    let sf = reported_stands setup noted f genuine rf in
    let sg = reported_stands setup noted g genuine rg in
    let cf : IsCertified setup noted f.proposal = (certificates.Finalization f, sf, inr refl) in
    let cg : IsCertified setup noted g.proposal = (certificates.Finalization g, sg, inr refl) in
    record {
      same = one_of_view setup noted agrees f sf g.proposal cg;
      later = none_skips setup noted agrees f sf g.proposal cg;
      earlier = none_skips setup noted agrees g sg f.proposal cf;
    }

pub reports_on_chains : (setup : Setup) (noted : List Noted) (f : Finalization) → AreGenuine setup noted → AgreeAll setup noted → IsReported noted f → IsOnEachChain setup noted f.proposal
reports_on_chains setup noted f genuine agrees r p down = on_chain setup noted agrees f (reported_stands setup noted f genuine r) p down

-- ---- the entries of a transcript

-- what is in a list turned round is in the list
turned : {A : Type 0} (xs ys : List A) (x : A) → Contains (reverse_aux xs ys) x → Contains xs x ⊎ Contains ys x
turned [] ys x k = inr k
turned (y ∷ xs) ys x k = elim (turned xs (y ∷ ys) x k) [
  | inl front ↦ inl (Contains-there y xs x front)
  | inr back ↦ elim (Contains-cons_cases y ys x back) [ inl e ↦ inl (subst (Contains (y ∷ xs)) e (Contains-here y xs)) | inr r ↦ inr r ]
]

noted_reports : (noted : List Noted) (n : Noted) (f : Finalization) → Contains noted n → Contains n.entry.calls (calls.Report (activities.Finalization f)) → IsReported noted f
unfolding IsReported
noted_reports [] n f k h = absurd (not_in_empty n k)
noted_reports (x ∷ noted) n f k h = elim (Contains-cons_cases x noted n k) [
  | inl e ↦ inl (subst (λ (y : Noted). Contains y.entry.calls (calls.Report (activities.Finalization f))) (sym e) h)
  | inr r ↦ inr (noted_reports noted n f r h)
]

entries_report : (noted : List Noted) (f : Finalization) → IsReportedIn (reverse (map (λ (n : Noted). n.entry) noted)) f → IsReported noted f
entries_report noted f h = elim (turned (map (λ (n : Noted). n.entry) noted) [] h.0 h.1) [
  | inl k ↦ (let n = from_map (λ (n : Noted). n.entry) noted h.0 k in noted_reports noted n.0 f n.1 (subst (λ (e : Entry). Contains e.calls (calls.Report (activities.Finalization f))) (sym n.2) h.2))
  | inr none ↦ absurd (not_in_empty h.0 none)
]

pub transcript_agrees : (setting : Setting) (events : List Event) (entries : List Entry) → RunFrom setting events ≡ Ok entries → RunsSafely setting events → ReportOneChain entries
unfolding RunFrom
transcript_agrees setting events entries e safely f g hf hg =
    let few = not_refused (are_few setting.setup events) (refused (refusals.BadSetup fields.Events) 0) _ entries e in
    let parts = unbad (first_bad setting.setup) (transcript_of (run setting [] events)) entries few.1 in
    at (run setting [] events) refl parts.1
  where
    of : (noted : List Noted) → IsSafe setting noted → reverse (map (λ (n : Noted). n.entry) noted) ≡ entries → AreOfOneChain f.proposal g.proposal
    of noted safe same =
        reports_agree setting.setup noted f g safe.genuine safe.agrees (entries_report noted f (subst (λ es. IsReportedIn es f) (sym same) hf)) (entries_report noted g (subst (λ es. IsReportedIn es g) (sym same) hg))

    at : (r : Result (List Noted) Refusal) → run setting [] events ≡ r → transcript_of r ≡ Ok entries → AreOfOneChain f.proposal g.proposal
    at (Ok noted) ran k = of noted (safely noted ran) cc
    at (Err refusal) ran k = cc
