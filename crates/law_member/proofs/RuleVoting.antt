-- What the vote rules say of each known fact.
use Rattle.std.proofs.Common.{◌≡◌, ℕ, ◌<◌, ◌==◌, ◌&&◌, ◌↔◌, Bool, true, false, nat_lt, max, unwrap_or, List, [], ◌∷◌, Contains, Option, Some, None, refl, sym, ap, subst, arith, eqb-true, eq-eqb, if◌then◌else◌}
use Rattle.std.specs.Option.{option_map}
use Rattle.std.proofs.lemmas.Grind.{common_steps}
use Rattle.simplex_values.specs.declared.proposal.Proposal.{Proposal}
use Rattle.simplex_values.specs.Terms.{greatest_view, next_of, term_index}
use Rattle.simplex_values.specs.Covers.{covers}
use Rattle.simplex_wire.specs.declared.vote.Vote.TheVariants as votes
use Rattle.simplex_wire.specs.declared.vote.Notarize.{Notarize}
use Rattle.simplex_wire.specs.declared.vote.Nullify.{Nullify}
use Rattle.simplex_wire.specs.declared.vote.Finalize.{Finalize}
use Rattle.simplex_wire.specs.declared.certificate.Certificate.TheVariants as certificates
use Rattle.model_rules.specs.Lists.{first_of, greatest_of}
use Rattle.model_rules.specs.Known.{Made, Fact, Added, Judged, Voted, view_of, verdict_in, verdict_of, notarize_in, own_notarize, is_nullify_in, has_nullified, is_finalize_in, has_finalized}
use Rattle.model_rules.specs.Views.{last_finalized, current_of, opened_view, finalized_view}
use Rattle.model_rules.specs.Ancestry.{has_true_verdict, has_ancestry}
use Rattle.model_rules.specs.Votes.{notarizes, notarize_at, finalize_at, is_gated, is_gate_in, nullify_at, signed_nullify}
use Rattle.model_rules.specs.Calls.{construct_nullify_answer}
use Rattle.model_rules.proofs.Soundness.{notarize_parts, finalize_parts, notarizes_sound, finalizes_sound, slot_view}
use Rattle.law_member.specs.RuleVotes.{IsUntouched, IsOpen, IsGivenUp}
use Rattle.law_member.proofs.Looking.{first_some, first_none, none_passes, one_passes, passes, at_most_greatest}

-- ---- own votes

no_notarize : (known : List Fact) (view : ℕ) → own_notarize known view ≡ None
    → (vote : Notarize) → Contains known (Voted (votes.Notarize vote)) → ¬ (view_of vote.proposal ≡ view)
unfolding own_notarize
no_notarize known view none vote c same =
    let gone : notarize_in view (Voted (votes.Notarize vote)) ≡ None = first_none (notarize_in view) known (Voted (votes.Notarize vote)) none c in
    let found : (if view_of vote.proposal == view then Some vote else None) ≡ Some vote = grind (arith, common_steps, eq-eqb (view_of vote.proposal) view same) in
    cc (gone, found)

no_nullify : (known : List Fact) (view : ℕ) → has_nullified known view ≡ false
    → (vote : Nullify) → Contains known (Voted (votes.Nullify vote)) → ¬ (vote.round.view ≡ view)
unfolding has_nullified
no_nullify known view none vote c same =
    let gone : is_nullify_in view (Voted (votes.Nullify vote)) ≡ false = none_passes (is_nullify_in view) known (Voted (votes.Nullify vote)) none c in
    cc (gone, eq-eqb vote.round.view view same)

no_finalize : (known : List Fact) (view : ℕ) → has_finalized known view ≡ false
    → (vote : Finalize) → Contains known (Voted (votes.Finalize vote)) → ¬ (view_of vote.proposal ≡ view)
unfolding has_finalized
no_finalize known view none vote c same =
    let gone : is_finalize_in view (Voted (votes.Finalize vote)) ≡ false = none_passes (is_finalize_in view) known (Voted (votes.Finalize vote)) none c in
    cc (gone, eq-eqb (view_of vote.proposal) view same)

no_gate : (made : Made) (known : List Fact) (view : ℕ) → is_gated made known view ≡ false
    → (vote : Nullify) → Contains known (Voted (votes.Nullify vote)) → last_finalized known < vote.round.view
    → term_index made.term_length vote.round.view ≡ term_index made.term_length view → view < vote.round.view
unfolding is_gated covers
no_gate made known view none vote c above term =
    let gone : (nat_lt (last_finalized known) vote.round.view && covers made.term_length vote.round.view view) ≡ false =
    none_passes (is_gate_in made.term_length (last_finalized known) view) known (Voted (votes.Nullify vote)) none c in
    grind (arith, common_steps, above, term, gone)

-- ---- notarize

above_final : (made : Made) (known : List Fact) (p : Proposal) → notarizes made known p ≡ true → last_finalized known < view_of p
unfolding notarizes has_ancestry
above_final made known p h = grind (arith, common_steps, h)

pub untouched : (made : Made) (known : List Fact) (view : ℕ) (vote : Notarize) → notarize_at made known view ≡ Some vote
    → (view_of vote.proposal ≡ view) × IsUntouched known view
untouched made known view vote e =
    let parts = notarize_parts made known view vote e in
    let here = slot_view known view vote.proposal parts.0 in
    let sound = notarizes_sound made known vote.proposal parts.1 in (
      here,
      subst (IsUntouched known) here (record {
        above = above_final made known vote.proposal parts.1;
        first = no_notarize known (view_of vote.proposal) sound.free;
        kept = no_nullify known (view_of vote.proposal) sound.stays;
      }),
    )

-- ---- finalize

verdict_at : (view : ℕ) (fact : Fact) (good : Bool) → verdict_in view fact ≡ Some good → (now : ℕ) × (fact ≡ Judged view good now)
verdict_at view (Judged v g now) good e = (now, at (v == view) refl e)
  where
    at : (b : Bool) → (v == view) ≡ b → (if b then Some g else None) ≡ Some good → Judged v g now ≡ Judged view good now
    at true f h = let same = eqb-true v view f in let also : g ≡ good = cc in cc
    at false f h = cc
verdict_at view _ good e = cc

some_true : (o : Option Bool) → unwrap_or o false ≡ true → o ≡ Some true
some_true (Some b) h = ap Some h
some_true None h = cc

judged_true : (known : List Fact) (view : ℕ) → has_true_verdict known view ≡ true → (now : ℕ) × Contains known (Judged view true now)
unfolding has_true_verdict verdict_of
judged_true known view h =
    let one = first_some (verdict_in view) known true (some_true (first_of (verdict_in view) known) h) in
    let j = verdict_at view one.0 true one.2 in
    (j.0, subst (Contains known) j.1 one.1)

pub is_open : (made : Made) (known : List Fact) (view : ℕ) (vote : Finalize) → finalize_at made known view ≡ Some vote
    → (view_of vote.proposal ≡ view) × IsOpen made known view
is_open made known view vote e =
    let parts = finalize_parts made known view vote e in
    let sound = finalizes_sound made known view parts.1 in (
      slot_view known view vote.proposal parts.0,
      record {
        judged = judged_true known view sound.verdict;
        above = sound.above;
        first = no_finalize known view sound.free;
        gate = no_gate made known view sound.ungated;
      },
    )

-- ---- nullify

final_below_one : (length : ℕ) (fact : Fact) → opened_view length fact < greatest_view → finalized_view fact < max 1 (opened_view length fact)
unfolding next_of
final_below_one length (Added (certificates.Notarization n) now) h = omega arith
final_below_one length (Added (certificates.Nullification n) now) h = omega arith
final_below_one length (Added (certificates.Finalization f) now) h = omega (arith, h)
final_below_one length (Judged view true now) h = omega arith
final_below_one length (Judged view false now) h = omega arith
final_below_one length _ h = omega arith

final_below : (length : ℕ) (known : List Fact) → greatest_of (opened_view length) known < greatest_view
    → greatest_of finalized_view known < max 1 (greatest_of (opened_view length) known)
unfolding greatest_of
final_below length [] h = omega arith
final_below length (fact ∷ known) h =
    omega (arith, h, final_below_one length fact (omega (arith, h)), final_below length known (omega (arith, h)))

final_below_current : (made : Made) (known : List Fact) → current_of made known < greatest_view → last_finalized known < current_of made known
unfolding current_of last_finalized
final_below_current made known h = final_below made.term_length known (omega (arith, h))

judged_below_current : (made : Made) (known : List Fact) (view now : ℕ) → Contains known (Judged view true now)
    → current_of made known < greatest_view → view < current_of made known
unfolding current_of next_of
judged_below_current made known view now c h =
    omega (arith, h, at_most_greatest (opened_view made.term_length) known (Judged view true now) c)

-- an own nullify of the view is known exactly where the rule says so
given : (known : List Fact) (view : ℕ) → (has_nullified known view ≡ true) ↔ ((vote : Nullify) × Contains known (Voted (votes.Nullify vote)) × (vote.round.view ≡ view))
unfolding has_nullified
given known view = (there, λ g. passes (is_nullify_in view) known (Voted (votes.Nullify g.0)) g.1 (eq-eqb g.0.round.view view g.2))
  where
    nullify_of : (fact : Fact) → is_nullify_in view fact ≡ true → (vote : Nullify) × (fact ≡ Voted (votes.Nullify vote)) × (vote.round.view ≡ view)
    nullify_of (Voted (votes.Nullify n)) e = (n, refl, eqb-true n.round.view view e)
    nullify_of _ e = cc

    there : has_nullified known view ≡ true → (vote : Nullify) × Contains known (Voted (votes.Nullify vote)) × (vote.round.view ≡ view)
    there e =
        let one = one_passes (is_nullify_in view) known e in
        let n = nullify_of one.0 one.2 in
        (n.0, subst (Contains known) n.1 one.1, n.2)

nullify_round : (made : Made) (view : ℕ) (vote : Nullify) → nullify_at made view ≡ Some vote → vote.round ≡ record { epoch = made.epoch; view = view }
unfolding nullify_at signed_nullify
nullify_round made view vote e = grind (arith, common_steps, e)

answer_parts : (o : Option Nullify) (known_before repeated : Bool) (vote : Nullify)
    → option_map {U = Bool × Nullify} (λ n. (known_before, n)) o ≡ Some (repeated, vote) → (o ≡ Some vote) × (known_before ≡ repeated)
answer_parts (Some n) known_before repeated vote e =
    let pair : ◌≡◌ {A = Bool × Nullify} (known_before, n) (repeated, vote) = cc in
    (ap (λ p. Some (p.1)) pair, ap (λ p. p.0) pair)
answer_parts None known_before repeated vote e = cc

pub given_up : (made : Made) (known : List Fact) (repeated : Bool) (vote : Nullify)
    → construct_nullify_answer made known (current_of made known) ≡ Some (repeated, vote) → IsGivenUp made known repeated vote
unfolding construct_nullify_answer
given_up made known repeated vote e =
    let parts = answer_parts (nullify_at made (current_of made known)) (has_nullified known (current_of made known)) repeated vote e in
    let round = nullify_round made (current_of made known) vote parts.0 in
    let here : vote.round.view ≡ current_of made known = ap (λ r. r.view) round in
    record {
      epoch = ap (λ r. r.epoch) round;
      current = here;
      above = λ low. omega (arith, here, final_below_current made known low);
      unjudged = λ low view now c. omega (arith, here, judged_below_current made known view now c low);
      again = subst (λ v. (repeated ≡ true) ↔ ((n : Nullify) × Contains known (Voted (votes.Nullify n)) × (n.round.view ≡ v))) (sym here)
          (subst (λ b. (b ≡ true) ↔ ((n : Nullify) × Contains known (Voted (votes.Nullify n)) × (n.round.view ≡ current_of made known))) parts.1 (given known (current_of made known)));
    }
