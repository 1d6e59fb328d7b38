-- When the rules give a vote, the member may make it.
use Rattle.std.proofs.Common.{◌≡◌, ℕ, ◌<◌, ◌≤◌, ◌==◌, ◌&&◌, ◌||◌, not, Bool, true, false, nat_lt, max, option_to_list, unwrap_or, List, [], ◌∷◌, Contains, Option, Some, None, refl, sym, ap, ◌∙◌, subst, arith, eqb-true, eq-eqb, if◌then◌else◌}
use Rattle.std.specs.List.{list_any}
use Rattle.std.specs.Option.{is_some, is_none, option_or}
use Rattle.std.proofs.lemmas.Grind.{common_steps}
use Rattle.std.proofs.lemmas.List.Folds.{list_any-append}
use Rattle.simplex_values.specs.declared.proposal.Proposal.{Proposal}
use Rattle.simplex_values.specs.declared.proposal.Subject.{Subject}
use Rattle.simplex_values.specs.declared.proposal.Subject.TheVariants as subjects
use Rattle.simplex_values.specs.declared.round.Round.{Round}
use Rattle.simplex_values.specs.Terms.{greatest_view, next_of, term_index}
use Rattle.simplex_values.specs.Covers.{covers}
use Rattle.simplex_wire.specs.declared.vote.Vote.{Vote}
use Rattle.simplex_wire.specs.declared.vote.Vote.TheVariants as votes
use Rattle.simplex_wire.specs.declared.vote.Notarize.{Notarize}
use Rattle.simplex_wire.specs.declared.vote.Nullify.{Nullify}
use Rattle.simplex_wire.specs.declared.vote.Finalize.{Finalize}
use Rattle.simplex_wire.specs.declared.certificate.Certificate.TheVariants as certificates
use Rattle.simplex_wire.specs.declared.certificate.Notarization.{Notarization}
use Rattle.simplex_wire.specs.declared.certificate.Nullification.{Nullification}
use Rattle.simplex_wire.specs.Fields.{vote_subject}
use Rattle.model_rules.specs.Lists.{first_of, greatest_of}
use Rattle.model_rules.specs.Known.{Made, Fact, Added, Judged, Voted, view_of, notarization_in, notarization_of, verdict_in, verdict_of, notarize_in, own_notarize, is_finalize_in, has_finalized}
use Rattle.model_rules.specs.Views as rules
use Rattle.model_rules.specs.Views.{current_of, opened_view, finalized_view}
use Rattle.model_rules.specs.Slot.{slot_of}
use Rattle.model_rules.specs.Ancestry.{is_covered, is_covered_in, has_true_verdict, has_ancestry}
use Rattle.model_rules.specs.Votes.{notarizes, notarize_at, finalize_at, is_gated, is_gate_in}
use Rattle.model_rules.specs.Calls.{takes_verdict}
use Rattle.model_rules.proofs.Soundness.{notarize_parts, finalize_parts, notarizes_sound, finalizes_sound, slot_view}
use Rattle.law_agreement.specs.World.{Knows, KnowsNullified}
use Rattle.law_agreement.specs.Terms.{Covers}
use Rattle.law_agreement.specs.Artifacts as member
use Rattle.law_agreement.specs.Artifacts.{Artifact}
use Rattle.law_agreement.specs.Votes.{MayVote}
use Rattle.law_agreement.proofs.KnownFacts.{certificates_has}
use Rattle.law_member.specs.Life.{statement_of, noted, remembered, IsInOrder}
use Rattle.law_member.proofs.Remembering.{in_memory, from_memory, final_is, first_some, first_none, none_passes, one_passes, at_most_greatest}

-- ---- what a remembered thing was

voted_of : (fact : Fact) (s : Subject) → noted fact ≡ Some (member.Own s) → (v : Vote) × (fact ≡ Voted v) × (vote_subject v ≡ s)
voted_of (Voted v) s e = (v, refl, cc)
voted_of (Added c now) s e = cc
voted_of (Judged view good now) s e = cc
voted_of _ s e = cc

judged_of : (fact : Fact) (view : ℕ) (good : Bool) → noted fact ≡ Some (member.Judged view good) → (now : ℕ) × (fact ≡ Judged view good now)
judged_of (Judged v g now) view good e = let same : v ≡ view = cc in let also : g ≡ good = cc in (now, cc)
judged_of (Voted v) view good e = cc
judged_of (Added c now) view good e = cc
judged_of _ view good e = cc

notarize_of : (v : Vote) (p : Proposal) → vote_subject v ≡ subjects.Notarize p → (n : Notarize) × (v ≡ votes.Notarize n) × (n.proposal ≡ p)
notarize_of (votes.Notarize n) p e = (n, refl, cc)
notarize_of (votes.Nullify n) p e = cc
notarize_of (votes.Finalize n) p e = cc

finalize_of : (v : Vote) (p : Proposal) → vote_subject v ≡ subjects.Finalize p → (n : Finalize) × (v ≡ votes.Finalize n) × (n.proposal ≡ p)
finalize_of (votes.Notarize n) p e = cc
finalize_of (votes.Nullify n) p e = cc
finalize_of (votes.Finalize n) p e = (n, refl, cc)

nullify_of : (v : Vote) (r : Round) → vote_subject v ≡ subjects.Nullify r → (n : Nullify) × (v ≡ votes.Nullify n) × (n.round ≡ r)
nullify_of (votes.Notarize n) r e = cc
nullify_of (votes.Nullify n) r e = (n, refl, cc)
nullify_of (votes.Finalize n) r e = cc

-- ---- what is known

covers_is : (length u w : ℕ) → covers length u w ≡ true → Covers length u w
unfolding covers
covers_is length u w e = (eqb-true (term_index length u) (term_index length w) (grind (arith, common_steps, e)), grind (arith, common_steps, e))

covering : (length view : ℕ) (fact : Fact) → is_covered_in length view fact ≡ true
    → (n : Nullification) × (now : ℕ) × (fact ≡ Added (certificates.Nullification n) now) × (covers length n.round.view view ≡ true)
covering length view (Added (certificates.Nullification n) now) e = (n, now, refl, e)
covering length view _ e = cc

pub knows_nullified : (made : Made) (known : List Fact) (view : ℕ) → is_covered made known view ≡ true
    → KnowsNullified made.term_length (member.certificates (remembered known)) view
unfolding is_covered
knows_nullified made known view e =
    let one = one_passes (is_covered_in made.term_length view) known e in
    let n = covering made.term_length view one.0 one.2 in
    let c = statement_of (certificates.Nullification n.0) in (
      n.0.round,
      (c.signers, certificates_has (remembered known) c (in_memory known one.0 (member.Proved c) one.1 (ap noted n.2))),
      covers_is made.term_length n.0.round.view view n.3,
    )

notarized : (view : ℕ) (fact : Fact) (n : Notarization) → notarization_in view fact ≡ Some n
    → (now : ℕ) × (fact ≡ Added (certificates.Notarization n) now)
notarized view (Added (certificates.Notarization m) now) n e = (now, at (view_of m.proposal == view) e)
  where
    at : (b : Bool) → (if b then Some m else None) ≡ Some n → Added (certificates.Notarization m) now ≡ Added (certificates.Notarization n) now
    at true h = cc
    at false h = cc
notarized view _ n e = cc

notarization_view_in : (view : ℕ) (fact : Fact) (n : Notarization) → notarization_in view fact ≡ Some n → view_of n.proposal ≡ view
notarization_view_in view (Added (certificates.Notarization m) now) n e = grind (arith, e)
notarization_view_in view _ n e = cc

pub notarization_view_of : (known : List Fact) (view : ℕ) (n : Notarization) → notarization_of known view ≡ Some n → view_of n.proposal ≡ view
unfolding notarization_of
notarization_view_of known view n e = let one = first_some (notarization_in view) known n e in notarization_view_in view one.0 n one.2

pub knows_notarized : (known : List Fact) (view : ℕ) (n : Notarization) → notarization_of known view ≡ Some n
    → Knows (member.certificates (remembered known)) (subjects.Notarize n.proposal)
unfolding notarization_of
knows_notarized known view n e =
    let one = first_some (notarization_in view) known n e in
    let a = notarized view one.0 n one.2 in
    let c = statement_of (certificates.Notarization n) in
    (c.signers, certificates_has (remembered known) c (in_memory known one.0 (member.Proved c) one.1 (ap noted a.1)))

verdict_at : (view : ℕ) (fact : Fact) (good : Bool) → verdict_in view fact ≡ Some good → (now : ℕ) × (fact ≡ Judged view good now)
verdict_at view (Judged v g now) good e = (now, at (v == view) refl e)
  where
    at : (b : Bool) → (v == view) ≡ b → (if b then Some g else None) ≡ Some good → Judged v g now ≡ Judged view good now
    at true f h = let same = eqb-true v view f in let also : g ≡ good = cc in cc
    at false f h = cc
verdict_at view _ good e = cc

pub verdict_is_known : (known : List Fact) (view : ℕ) → has_true_verdict known view ≡ true → Contains (remembered known) (member.Judged view true)
unfolding has_true_verdict verdict_of
verdict_is_known known view e =
    let some = at (first_of (verdict_in view) known) e in
    let one = first_some (verdict_in view) known true some in
    let j = verdict_at view one.0 true one.2 in
    in_memory known one.0 (member.Judged view true) one.1 (ap noted j.1)
  where
    at : (o : Option Bool) → unwrap_or o false ≡ true → o ≡ Some true
    at (Some b) h = ap Some h
    at None h = cc

-- ---- own votes

notarize_at_view : (v : Notarize) (view : ℕ) → view_of v.proposal ≡ view → notarize_in view (Voted (votes.Notarize v)) ≡ Some v
notarize_at_view v view e = grind (arith, common_steps, eq-eqb (view_of v.proposal) view e)

pub no_own_notarize : (known : List Fact) (view : ℕ) → own_notarize known view ≡ None
    → (q : Proposal) → view_of q ≡ view → ¬ (Contains (remembered known) (member.Own (subjects.Notarize q)))
unfolding own_notarize
no_own_notarize known view none q same c =
    let one = from_memory known (member.Own (subjects.Notarize q)) c in
    let v = voted_of one.0 (subjects.Notarize q) one.2 in
    let n = notarize_of v.0 q v.2 in
    let is : one.0 ≡ Voted (votes.Notarize n.0) = v.1 ∙ ap (λ x. Voted x) n.1 in
    let gone : notarize_in view one.0 ≡ None = first_none (notarize_in view) known one.0 none one.1 in
    let found : notarize_in view (Voted (votes.Notarize n.0)) ≡ Some n.0 = notarize_at_view n.0 view (ap view_of n.2 ∙ same) in
    cc (gone, ap (notarize_in view) is, found)

pub no_own_finalize : (known : List Fact) (view : ℕ) → has_finalized known view ≡ false
    → (q : Proposal) → view_of q ≡ view → ¬ (Contains (remembered known) (member.Own (subjects.Finalize q)))
unfolding has_finalized
no_own_finalize known view none q same c =
    let one = from_memory known (member.Own (subjects.Finalize q)) c in
    let v = voted_of one.0 (subjects.Finalize q) one.2 in
    let n = finalize_of v.0 q v.2 in
    let is : one.0 ≡ Voted (votes.Finalize n.0) = v.1 ∙ ap (λ x. Voted x) n.1 in
    let gone : is_finalize_in view one.0 ≡ false = none_passes (is_finalize_in view) known one.0 none one.1 in
    let found : is_finalize_in view (Voted (votes.Finalize n.0)) ≡ true = eq-eqb (view_of n.0.proposal) view (ap view_of n.2 ∙ same) in
    cc (gone, ap (is_finalize_in view) is, found)

covers_from : (length u w : ℕ) → Covers length u w → covers length u w ≡ true
unfolding covers
covers_from length u w c = grind (arith, common_steps, c.0, c.1)

pub no_gate : (made : Made) (known : List Fact) (view : ℕ) → is_gated made known view ≡ false
    → (r : Round) → rules.last_finalized known < r.view → Covers made.term_length r.view view → ¬ (Contains (remembered known) (member.Own (subjects.Nullify r)))
unfolding is_gated
no_gate made known view none r above c m =
    let one = from_memory known (member.Own (subjects.Nullify r)) m in
    let v = voted_of one.0 (subjects.Nullify r) one.2 in
    let n = nullify_of v.0 r v.2 in
    let is : one.0 ≡ Voted (votes.Nullify n.0) = v.1 ∙ ap (λ x. Voted x) n.1 in
    let test = is_gate_in made.term_length (rules.last_finalized known) view in
    let gone : test one.0 ≡ false = none_passes test known one.0 none one.1 in
    let found : (nat_lt (rules.last_finalized known) r.view && covers made.term_length r.view view) ≡ true =
    grind (arith, common_steps, above, covers_from made.term_length r.view view c) in
    let turned : test (Voted (votes.Nullify n.0)) ≡ true =
    ap (λ (x : Round). nat_lt (rules.last_finalized known) x.view && covers made.term_length x.view view) n.2 ∙ found in
    cc (gone, ap test is, turned)

-- ---- the votes

above_final : (made : Made) (known : List Fact) (p : Proposal) → notarizes made known p ≡ true → member.last_finalized (remembered known) < view_of p
unfolding notarizes has_ancestry
above_final made known p h = grind (arith, common_steps, h, final_is known)

pub may_notarize : (made : Made) (known : List Fact) (view : ℕ) (n : Notarize) → notarize_at made known view ≡ Some n
    → MayVote made.term_length (remembered known) (subjects.Notarize n.proposal)
may_notarize made known view n e =
    let parts = notarize_parts made known view n e in
    let sound = notarizes_sound made known n.proposal parts.1 in (
      above_final made known n.proposal parts.1,
      λ x low high. knows_nullified made known x (sound.covered x low high),
      λ q same. no_own_notarize known (view_of n.proposal) sound.free q same,
    )

final_below_one : (length : ℕ) (fact : Fact) → opened_view length fact < greatest_view → finalized_view fact < max 1 (opened_view length fact)
unfolding next_of
final_below_one length (Added (certificates.Notarization n) now) h = omega arith
final_below_one length (Added (certificates.Nullification n) now) h = omega arith
final_below_one length (Added (certificates.Finalization f) now) h = omega (arith, h)
final_below_one length (Judged view true now) h = omega arith
final_below_one length (Judged view false now) h = omega arith
final_below_one length _ h = omega arith

final_below : (length : ℕ) (known : List Fact) → greatest_of (opened_view length) known < greatest_view
    → greatest_of finalized_view known < max 1 (greatest_of (opened_view length) known)
unfolding greatest_of
final_below length [] h = omega arith
final_below length (fact ∷ known) h =
    omega (arith, h, final_below_one length fact (omega (arith, h)), final_below length known (omega (arith, h)))

pub final_below_current : (made : Made) (known : List Fact) → current_of made known < greatest_view → rules.last_finalized known < current_of made known
unfolding current_of rules.last_finalized
final_below_current made known h = final_below made.term_length known (omega (arith, h))

verdict_opens : (view : ℕ) (opened : ℕ) → next_of view ≤ opened → opened < greatest_view → view < opened
unfolding next_of
verdict_opens view opened h k = omega (arith, h, k)

opened_by : (made : Made) (known : List Fact) (fact : Fact) → Contains known fact → opened_view made.term_length fact ≤ current_of made known
unfolding current_of
opened_by made known fact c = omega (arith, at_most_greatest (opened_view made.term_length) known fact c)

pub may_nullify : (made : Made) (known : List Fact) (r : Round) → r.view ≡ current_of made known → current_of made known < greatest_view
    → MayVote made.term_length (remembered known) (subjects.Nullify r)
may_nullify made known r at low = (
  omega (arith, at, final_is known, final_below_current made known low),
  λ view covered judged.
      let one = from_memory known (member.Judged view true) judged in
      let j = judged_of one.0 view true one.2 in
      let opens : next_of view ≤ current_of made known =
      subst (λ n. n ≤ current_of made known) (ap (opened_view made.term_length) j.1) (opened_by made known one.0 one.1) in
      omega (arith, covered.1, at, verdict_opens view (current_of made known) opens low),
)

slot_is_notarized : (known : List Fact) (view : ℕ) (n : Notarization) (p : Proposal) → notarization_of known view ≡ Some n → slot_of known view ≡ Some p → n.proposal ≡ p
unfolding slot_of
slot_is_notarized known view n p e s = grind (arith, common_steps, e, s)

some_of : (o : Option Notarization) → is_some o ≡ true → (n : Notarization) × (o ≡ Some n)
some_of (Some n) h = (n, refl)
some_of None h = cc

some_true : (o : Option Bool) → unwrap_or o false ≡ true → o ≡ Some true
some_true (Some b) h = ap Some h
some_true None h = cc

notarized_by : (made : Made) (known : List Fact) (view : ℕ) → IsInOrder made known → has_true_verdict known view ≡ true → (n : Notarization) × (notarization_of known view ≡ Some n)
unfolding has_true_verdict verdict_of
notarized_by made known view order h =
    let one = first_some (verdict_in view) known true (some_true (first_of (verdict_in view) known) h) in
    let j = verdict_at view one.0 true one.2 in
    some_of (notarization_of known view) (order.judged view true j.0 (subst (Contains known) j.1 one.1))

pub may_finalize : (made : Made) (known : List Fact) (view : ℕ) (f : Finalize) → IsInOrder made known → finalize_at made known view ≡ Some f
    → MayVote made.term_length (remembered known) (subjects.Finalize f.proposal)
may_finalize made known view f order e =
    let parts = finalize_parts made known view f e in
    let sound = finalizes_sound made known view parts.1 in
    let here = slot_view known view f.proposal parts.0 in
    let n = notarized_by made known view order sound.verdict in
    let same = slot_is_notarized known view n.0 f.proposal n.1 parts.0 in (
      omega (arith, here, final_is known, sound.above),
      subst (λ v. Contains (remembered known) (member.Judged v true)) (sym here) (verdict_is_known known view sound.verdict),
      subst (λ (p : Proposal). Knows (member.certificates (remembered known)) (subjects.Notarize p)) same (knows_notarized known view n.0 n.1),
      λ q at. no_own_finalize known view sound.free q (at ∙ here),
      λ r above c. no_gate made known view sound.ungated r (omega (arith, above, final_is known)) (subst (Covers made.term_length r.view) here c),
    )

-- ---- verdicts

notarization_noted : (view : ℕ) (fact : Fact) → list_any (member.is_notarization view) (option_to_list (noted fact)) ≡ is_some (notarization_in view fact)
notarization_noted view (Added (certificates.Notarization n) now) = grind (arith, common_steps)
notarization_noted view (Added (certificates.Nullification n) now) = refl
notarization_noted view (Added (certificates.Finalization f) now) = refl
notarization_noted view (Voted v) = refl
notarization_noted view (Judged v good now) = refl
notarization_noted view _ = refl

verdict_noted : (view : ℕ) (fact : Fact) → list_any (member.is_verdict view) (option_to_list (noted fact)) ≡ is_some (verdict_in view fact)
verdict_noted view (Added c now) = refl
verdict_noted view (Voted v) = refl
verdict_noted view (Judged v good now) = grind (arith, common_steps)
verdict_noted view _ = refl

either_some : {A : Type 0} (o p : Option A) → is_some (option_or o p) ≡ (is_some o || is_some p)
either_some (Some a) p = refl
either_some None p = refl

looked_up : {A : Type 0} (test : Artifact → Bool) (pick : Fact → Option A)
    → ((fact : Fact) → list_any test (option_to_list (noted fact)) ≡ is_some (pick fact))
    → (known : List Fact) → list_any test (remembered known) ≡ is_some (first_of pick known)
unfolding remembered first_of
looked_up test pick each [] = refl
looked_up test pick each (fact ∷ known) =
    list_any-append test (remembered known) (option_to_list (noted fact))
    ∙ cc (looked_up test pick each known, each fact)
    ∙ sym (either_some (first_of pick known) (pick fact))

none_is_not : {A : Type 0} (o : Option A) → is_none o ≡ not (is_some o)
none_is_not (Some a) = refl
none_is_not None = refl

-- a verdict is taken by the rules exactly where the member takes it
pub taken_is : (known : List Fact) (view : ℕ) (good : Bool) → member.is_taken (remembered known) (member.Judged view good) ≡ takes_verdict known view
unfolding takes_verdict notarization_of verdict_of
taken_is known view good =
    cc (
      final_is known,
      looked_up (member.is_notarization view) (notarization_in view) (notarization_noted view) known,
      looked_up (member.is_verdict view) (verdict_in view) (verdict_noted view) known,
      none_is_not (first_of (verdict_in view) known),
    )
