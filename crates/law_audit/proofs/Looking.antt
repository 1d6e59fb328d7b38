-- Each rule of votes answers the same on lists that are alike.
use mathlib.Core.Path.{fun_ext}
use Rattle.std.proofs.Common.{◌≡◌, ℕ, ◌+◌, ◌-◌, ◌&&◌, ◌||◌, not, max, Bool, true, false, cond, List, [], ◌∷◌, filter, find, Option, Some, None, refl, sym, ap, ◌∙◌, arith, if◌then◌else◌}
use Rattle.std.specs.List.{list_any, range_with_len}
use Rattle.std.specs.Option.{option_or, option_map_or, option_and_then}
use Rattle.simplex_values.specs.declared.proposal.Proposal.{Proposal}
use Rattle.simplex_wire.specs.declared.certificate.Notarization.{Notarization}
use Rattle.simplex_wire.specs.declared.certificate.Nullification.{Nullification}
use Rattle.simplex_wire.specs.declared.certificate.Finalization.{Finalization}
use Rattle.model_rules.specs.Lists.{first_of, greatest_of}
use Rattle.model_rules.specs.Known.{Made, Fact, FloorAt, Added, Taken, Answered, Approved, Judged, Voted, Published, Expired, Failed, Broadcast, ProposalAsked, ProposalFreed, VerifyAsked, CertifyAsked, MissingAsked, ParentAsked, Pruned, view_of, notarization_in, notarization_of, nullification_in, nullification_of, finalization_in, finalization_of, verdict_in, verdict_of, proposal_in, proposal_of, is_answer_in, was_answered, is_approval_in, was_approved, notarize_in, own_notarize, is_nullify_in, has_nullified, is_finalize_in, has_finalized}
use Rattle.model_rules.specs.Views.{finalized_view, last_finalized, opened_view, current_of, least_active, admits_certificate, admits_vote, is_ahead}
use Rattle.model_rules.specs.Slot.{slot_of, is_own_slot, records_proposal, records_answer}
use Rattle.model_rules.specs.Ancestry.{is_covered_in, is_covered, gap_between, has_true_verdict, is_certified, is_met, has_ancestry}
use Rattle.model_rules.specs.Votes.{is_vouched, is_unopposed, is_checked, is_votable, notarizes, is_gate_in, is_gated, finalizes, signed_notarize, notarize_at, finalize_at}
use Rattle.model_rules.specs.Calls.{takes_verdict, adds_notarization, adds_nullification, adds_finalization}
use Rattle.law_member.specs.Learned.{is_addition, additions}
use Rattle.law_member.specs.Tidings.{is_of_proposal}
use Rattle.model_audit.specs.Alike.{is_verdict, is_vote, AreAlike}

-- ---- looking up in a list, and in the part of it that counts

or_none : {A : Type 0} (o : Option A) → option_or o None ≡ o
or_none None = refl
or_none (Some a) = refl

or_false : (b : Bool) → (false || b) ≡ b
or_false b = refl

nothing_less : (n : ℕ) → max 0 n ≡ n
nothing_less n = omega arith

module _ (counts : Fact → Bool) where
  first_counts : {A : Type 0} (pick : Fact → Option A) → ((f : Fact) → counts f ≡ false → pick f ≡ None) → (known : List Fact) → first_of pick (filter counts known) ≡ first_of pick known
  unfolding first_of
  first_counts pick none [] = refl
  first_counts pick none (f ∷ known) = at (first_counts pick none known) (counts f) refl
    where
      at : first_of pick (filter counts known) ≡ first_of pick known → (b : Bool) → counts f ≡ b → first_of pick (cond b (f ∷ filter counts known) (filter counts known)) ≡ option_or (first_of pick known) (pick f)
      at same true e = ap (λ o. option_or o (pick f)) same
      at same false e = same ∙ sym (or_none (first_of pick known)) ∙ ap (λ o. option_or (first_of pick known) o) (sym (none f e))

  any_counts : (test : Fact → Bool) → ((f : Fact) → counts f ≡ false → test f ≡ false) → (known : List Fact) → list_any test (filter counts known) ≡ list_any test known
  any_counts test none [] = refl
  any_counts test none (f ∷ known) = at (any_counts test none known) (counts f) refl
    where
      at : list_any test (filter counts known) ≡ list_any test known → (b : Bool) → counts f ≡ b → list_any test (cond b (f ∷ filter counts known) (filter counts known)) ≡ (test f || list_any test known)
      at same true e = ap (λ b. test f || b) same
      at same false e = same ∙ ap (λ b. b || list_any test known) (sym (none f e))

  greatest_counts : (number : Fact → ℕ) → ((f : Fact) → counts f ≡ false → number f ≡ 0) → (known : List Fact) → greatest_of number (filter counts known) ≡ greatest_of number known
  unfolding greatest_of
  greatest_counts number none [] = refl
  greatest_counts number none (f ∷ known) = at (greatest_counts number none known) (counts f) refl
    where
      at : greatest_of number (filter counts known) ≡ greatest_of number known → (b : Bool) → counts f ≡ b → greatest_of number (cond b (f ∷ filter counts known) (filter counts known)) ≡ max (number f) (greatest_of number known)
      at same true e = ap (max (number f)) same
      at same false e = same ∙ sym (nothing_less (greatest_of number known)) ∙ ap (λ n. max n (greatest_of number known)) (sym (none f e))

-- ---- facts of one kind tell nothing of another

abbrev NoCertificate : Fact → Type 0
NoCertificate f =
    ((view : ℕ) → notarization_in view f ≡ None) × ((view : ℕ) → nullification_in view f ≡ None) × ((view : ℕ) → finalization_in view f ≡ None)
    × (finalized_view f ≡ 0) × ((length view : ℕ) → is_covered_in length view f ≡ false)

no_certificate : (f : Fact) → is_addition f ≡ false → NoCertificate f
no_certificate (FloorAt v p) e = (λ v. refl, λ v. refl, λ v. refl, refl, λ l v. refl)
no_certificate (Added c now) e = cc
no_certificate (Taken p) e = (λ v. refl, λ v. refl, λ v. refl, refl, λ l v. refl)
no_certificate (Answered p) e = (λ v. refl, λ v. refl, λ v. refl, refl, λ l v. refl)
no_certificate (Approved p) e = (λ v. refl, λ v. refl, λ v. refl, refl, λ l v. refl)
no_certificate (Judged v good now) e = (λ v. refl, λ v. refl, λ v. refl, refl, λ l v. refl)
no_certificate (Voted vote) e = (λ v. refl, λ v. refl, λ v. refl, refl, λ l v. refl)
no_certificate (Published v now) e = (λ v. refl, λ v. refl, λ v. refl, refl, λ l v. refl)
no_certificate (Expired v r now) e = (λ v. refl, λ v. refl, λ v. refl, refl, λ l v. refl)
no_certificate (Failed v r) e = (λ v. refl, λ v. refl, λ v. refl, refl, λ l v. refl)
no_certificate (Broadcast k v) e = (λ v. refl, λ v. refl, λ v. refl, refl, λ l v. refl)
no_certificate (ProposalAsked v) e = (λ v. refl, λ v. refl, λ v. refl, refl, λ l v. refl)
no_certificate (ProposalFreed v) e = (λ v. refl, λ v. refl, λ v. refl, refl, λ l v. refl)
no_certificate (VerifyAsked p) e = (λ v. refl, λ v. refl, λ v. refl, refl, λ l v. refl)
no_certificate (CertifyAsked v) e = (λ v. refl, λ v. refl, λ v. refl, refl, λ l v. refl)
no_certificate (MissingAsked p v k) e = (λ v. refl, λ v. refl, λ v. refl, refl, λ l v. refl)
no_certificate (ParentAsked p) e = (λ v. refl, λ v. refl, λ v. refl, refl, λ l v. refl)
no_certificate (Pruned v) e = (λ v. refl, λ v. refl, λ v. refl, refl, λ l v. refl)

no_verdict : (f : Fact) → is_verdict f ≡ false → (view : ℕ) → verdict_in view f ≡ None
no_verdict (FloorAt v p) e = λ w. refl
no_verdict (Added c now) e = λ w. refl
no_verdict (Taken p) e = λ w. refl
no_verdict (Answered p) e = λ w. refl
no_verdict (Approved p) e = λ w. refl
no_verdict (Judged v good now) e = λ w. cc
no_verdict (Voted vote) e = λ w. refl
no_verdict (Published v now) e = λ w. refl
no_verdict (Expired v r now) e = λ w. refl
no_verdict (Failed v r) e = λ w. refl
no_verdict (Broadcast k v) e = λ w. refl
no_verdict (ProposalAsked v) e = λ w. refl
no_verdict (ProposalFreed v) e = λ w. refl
no_verdict (VerifyAsked p) e = λ w. refl
no_verdict (CertifyAsked v) e = λ w. refl
no_verdict (MissingAsked p v k) e = λ w. refl
no_verdict (ParentAsked p) e = λ w. refl
no_verdict (Pruned v) e = λ w. refl

abbrev NoVote : Fact → Type 0
NoVote f =
    ((view : ℕ) → notarize_in view f ≡ None) × ((view : ℕ) → is_nullify_in view f ≡ false) × ((view : ℕ) → is_finalize_in view f ≡ false)
    × ((length finalized view : ℕ) → is_gate_in length finalized view f ≡ false)

no_vote : (f : Fact) → is_vote f ≡ false → NoVote f
no_vote (FloorAt v p) e = (λ v. refl, λ v. refl, λ v. refl, λ l f v. refl)
no_vote (Added c now) e = (λ v. refl, λ v. refl, λ v. refl, λ l f v. refl)
no_vote (Taken p) e = (λ v. refl, λ v. refl, λ v. refl, λ l f v. refl)
no_vote (Answered p) e = (λ v. refl, λ v. refl, λ v. refl, λ l f v. refl)
no_vote (Approved p) e = (λ v. refl, λ v. refl, λ v. refl, λ l f v. refl)
no_vote (Judged v good now) e = (λ v. refl, λ v. refl, λ v. refl, λ l f v. refl)
no_vote (Voted vote) e = cc
no_vote (Published v now) e = (λ v. refl, λ v. refl, λ v. refl, λ l f v. refl)
no_vote (Expired v r now) e = (λ v. refl, λ v. refl, λ v. refl, λ l f v. refl)
no_vote (Failed v r) e = (λ v. refl, λ v. refl, λ v. refl, λ l f v. refl)
no_vote (Broadcast k v) e = (λ v. refl, λ v. refl, λ v. refl, λ l f v. refl)
no_vote (ProposalAsked v) e = (λ v. refl, λ v. refl, λ v. refl, λ l f v. refl)
no_vote (ProposalFreed v) e = (λ v. refl, λ v. refl, λ v. refl, λ l f v. refl)
no_vote (VerifyAsked p) e = (λ v. refl, λ v. refl, λ v. refl, λ l f v. refl)
no_vote (CertifyAsked v) e = (λ v. refl, λ v. refl, λ v. refl, λ l f v. refl)
no_vote (MissingAsked p v k) e = (λ v. refl, λ v. refl, λ v. refl, λ l f v. refl)
no_vote (ParentAsked p) e = (λ v. refl, λ v. refl, λ v. refl, λ l f v. refl)
no_vote (Pruned v) e = (λ v. refl, λ v. refl, λ v. refl, λ l f v. refl)

abbrev NoProposal : Fact → Type 0
NoProposal f = ((view : ℕ) → proposal_in view f ≡ None) × ((q : Proposal) → is_answer_in q f ≡ false) × ((q : Proposal) → is_approval_in q f ≡ false)

no_proposal : (f : Fact) → is_of_proposal f ≡ false → NoProposal f
no_proposal (FloorAt v p) e = (λ v. refl, λ q. refl, λ q. refl)
no_proposal (Added c now) e = (λ v. refl, λ q. refl, λ q. refl)
no_proposal (Taken p) e = cc
no_proposal (Answered p) e = cc
no_proposal (Approved p) e = cc
no_proposal (Judged v good now) e = (λ v. refl, λ q. refl, λ q. refl)
no_proposal (Voted vote) e = (λ v. refl, λ q. refl, λ q. refl)
no_proposal (Published v now) e = (λ v. refl, λ q. refl, λ q. refl)
no_proposal (Expired v r now) e = (λ v. refl, λ q. refl, λ q. refl)
no_proposal (Failed v r) e = (λ v. refl, λ q. refl, λ q. refl)
no_proposal (Broadcast k v) e = (λ v. refl, λ q. refl, λ q. refl)
no_proposal (ProposalAsked v) e = (λ v. refl, λ q. refl, λ q. refl)
no_proposal (ProposalFreed v) e = (λ v. refl, λ q. refl, λ q. refl)
no_proposal (VerifyAsked p) e = (λ v. refl, λ q. refl, λ q. refl)
no_proposal (CertifyAsked v) e = (λ v. refl, λ q. refl, λ q. refl)
no_proposal (MissingAsked p v k) e = (λ v. refl, λ q. refl, λ q. refl)
no_proposal (ParentAsked p) e = (λ v. refl, λ q. refl, λ q. refl)
no_proposal (Pruned v) e = (λ v. refl, λ q. refl, λ q. refl)

-- a view is opened by a certificate or by a verdict
opens : (length : ℕ) (f : Fact) → is_addition f ≡ false → is_verdict f ≡ false → opened_view length f ≡ 0
opens length (FloorAt v p) d e = refl
opens length (Added c now) d e = cc
opens length (Taken p) d e = refl
opens length (Answered p) d e = refl
opens length (Approved p) d e = refl
opens length (Judged v good now) d e = cc
opens length (Voted vote) d e = refl
opens length (Published v now) d e = refl
opens length (Expired v r now) d e = refl
opens length (Failed v r) d e = refl
opens length (Broadcast k v) d e = refl
opens length (ProposalAsked v) d e = refl
opens length (ProposalFreed v) d e = refl
opens length (VerifyAsked p) d e = refl
opens length (CertifyAsked v) d e = refl
opens length (MissingAsked p v k) d e = refl
opens length (ParentAsked p) d e = refl
opens length (Pruned v) d e = refl

opened_apart : (length : ℕ) (known : List Fact) → greatest_of (opened_view length) known
    ≡ max (greatest_of (opened_view length) (filter is_addition known)) (greatest_of (opened_view length) (filter is_verdict known))
unfolding greatest_of
opened_apart length [] = refl
opened_apart length (f ∷ known) = at (opened_apart length known) (is_addition f) (is_verdict f) refl refl
  where
    at : greatest_of (opened_view length) known ≡ max (greatest_of (opened_view length) (filter is_addition known)) (greatest_of (opened_view length) (filter is_verdict known))
        → (c v : Bool) → is_addition f ≡ c → is_verdict f ≡ v → max (opened_view length f) (greatest_of (opened_view length) known)
        ≡ max (greatest_of (opened_view length) (cond c (f ∷ filter is_addition known) (filter is_addition known))) (greatest_of (opened_view length) (cond v (f ∷ filter is_verdict known) (filter is_verdict known)))
    at same true true d e = omega (arith, same)
    at same true false d e = omega (arith, same)
    at same false true d e = omega (arith, same)
    at same false false d e = omega (arith, same, opens length f d e)

-- what is final rests on certificates alone
pub finalized_by : (a b : List Fact) → additions a ≡ additions b → last_finalized a ≡ last_finalized b
unfolding last_finalized
finalized_by a b e =
    let none : (f : Fact) → is_addition f ≡ false → finalized_view f ≡ 0 = (λ f e. (no_certificate f e).3) in
    sym (greatest_counts is_addition finalized_view none a) ∙ ap (greatest_of finalized_view) e ∙ greatest_counts is_addition finalized_view none b

-- ---- two lists that are alike

module _ (a b : List Fact) (alike : AreAlike a b) where
  first_certificate : {A : Type 0} (pick : Fact → Option A) → ((f : Fact) → is_addition f ≡ false → pick f ≡ None) → first_of pick a ≡ first_of pick b
  first_certificate pick none = sym (first_counts is_addition pick none a) ∙ ap (first_of pick) alike.certificates ∙ first_counts is_addition pick none b

  pub same_notarization : (view : ℕ) → notarization_of a view ≡ notarization_of b view
  unfolding notarization_of
  same_notarization view = first_certificate (notarization_in view) (λ f e. (no_certificate f e).0 view)

  pub same_nullification : (view : ℕ) → nullification_of a view ≡ nullification_of b view
  unfolding nullification_of
  same_nullification view = first_certificate (nullification_in view) (λ f e. (no_certificate f e).1 view)

  pub same_finalization : (view : ℕ) → finalization_of a view ≡ finalization_of b view
  unfolding finalization_of
  same_finalization view = first_certificate (finalization_in view) (λ f e. (no_certificate f e).2 view)

  pub same_finalized : last_finalized a ≡ last_finalized b
  same_finalized = finalized_by a b alike.certificates

  pub same_covered : (made : Made) (view : ℕ) → is_covered made a view ≡ is_covered made b view
  unfolding is_covered
  same_covered made view =
      let test = is_covered_in made.term_length view in
      let none : (f : Fact) → is_addition f ≡ false → test f ≡ false = (λ f e. (no_certificate f e).4 made.term_length view) in
      sym (any_counts is_addition test none a) ∙ ap (list_any test) alike.certificates ∙ any_counts is_addition test none b

  pub same_verdict : (view : ℕ) → verdict_of a view ≡ verdict_of b view
  unfolding verdict_of
  same_verdict view =
      let none : (f : Fact) → is_verdict f ≡ false → verdict_in view f ≡ None = (λ f e. no_verdict f e view) in
      sym (first_counts is_verdict (verdict_in view) none a) ∙ ap (first_of (verdict_in view)) alike.judged ∙ first_counts is_verdict (verdict_in view) none b

  any_vote : (test : Fact → Bool) → ((f : Fact) → is_vote f ≡ false → test f ≡ false) → list_any test a ≡ list_any test b
  any_vote test none = sym (any_counts is_vote test none a) ∙ ap (list_any test) alike.voted ∙ any_counts is_vote test none b

  pub same_notarize : (view : ℕ) → own_notarize a view ≡ own_notarize b view
  unfolding own_notarize
  same_notarize view =
      let none : (f : Fact) → is_vote f ≡ false → notarize_in view f ≡ None = (λ f e. (no_vote f e).0 view) in
      sym (first_counts is_vote (notarize_in view) none a) ∙ ap (first_of (notarize_in view)) alike.voted ∙ first_counts is_vote (notarize_in view) none b

  pub same_nullified : (view : ℕ) → has_nullified a view ≡ has_nullified b view
  unfolding has_nullified
  same_nullified view = any_vote (is_nullify_in view) (λ f e. (no_vote f e).1 view)

  pub same_finalize : (view : ℕ) → has_finalized a view ≡ has_finalized b view
  unfolding has_finalized
  same_finalize view = any_vote (is_finalize_in view) (λ f e. (no_vote f e).2 view)

  any_proposal : (test : Fact → Bool) → ((f : Fact) → is_of_proposal f ≡ false → test f ≡ false) → list_any test a ≡ list_any test b
  any_proposal test none = sym (any_counts is_of_proposal test none a) ∙ ap (list_any test) alike.proposals ∙ any_counts is_of_proposal test none b

  pub same_proposal : (view : ℕ) → proposal_of a view ≡ proposal_of b view
  unfolding proposal_of
  same_proposal view =
      let none : (f : Fact) → is_of_proposal f ≡ false → proposal_in view f ≡ None = (λ f e. (no_proposal f e).0 view) in
      sym (first_counts is_of_proposal (proposal_in view) none a) ∙ ap (first_of (proposal_in view)) alike.proposals ∙ first_counts is_of_proposal (proposal_in view) none b

  pub same_answered : (p : Proposal) → was_answered a p ≡ was_answered b p
  unfolding was_answered
  same_answered p = any_proposal (is_answer_in p) (λ f e. (no_proposal f e).1 p)

  pub same_approved : (p : Proposal) → was_approved a p ≡ was_approved b p
  unfolding was_approved
  same_approved p = any_proposal (is_approval_in p) (λ f e. (no_proposal f e).2 p)

  same_gate : (made : Made) (finalized view : ℕ) → list_any (is_gate_in made.term_length finalized view) a ≡ list_any (is_gate_in made.term_length finalized view) b
  same_gate made finalized view = any_vote (is_gate_in made.term_length finalized view) (λ f e. (no_vote f e).3 made.term_length finalized view)

  -- ---- the current view

  pub same_current : (made : Made) → current_of made a ≡ current_of made b
  unfolding current_of
  same_current made =
      let number = opened_view made.term_length in
      let split : (known : List Fact) → greatest_of number known ≡ max (greatest_of number (filter is_addition known)) (greatest_of number (filter is_verdict known)) =
      opened_apart made.term_length in
      ap (max 1) (split a ∙ ap (λ xs. max (greatest_of number xs) (greatest_of number (filter is_verdict a))) alike.certificates
      ∙ ap (λ xs. max (greatest_of number (filter is_addition b)) (greatest_of number xs)) alike.judged ∙ sym (split b))

  -- ---- slots

  pub same_slot : (view : ℕ) → slot_of a view ≡ slot_of b view
  unfolding slot_of
  same_slot view = rw (same_notarization view, same_finalization view, same_notarize view, same_proposal view) refl

  same_own_slot : (view : ℕ) → is_own_slot a view ≡ is_own_slot b view
  unfolding is_own_slot
  same_own_slot view = ap (λ o. option_map_or (was_answered a) o false) (same_slot view) ∙ ap (λ f. option_map_or f (slot_of b view) false) (fun_ext same_answered)

  pub same_active : (made : Made) → least_active made a ≡ least_active made b
  unfolding least_active
  same_active made = rw same_finalized refl

  pub same_admits : (made : Made) (view : ℕ) → admits_certificate made a view ≡ admits_certificate made b view
  unfolding admits_certificate
  same_admits made view = rw (same_active made) refl

  same_admits_vote : (made : Made) (view : ℕ) → admits_vote made a view ≡ admits_vote made b view
  unfolding admits_vote
  same_admits_vote made view = rw (same_admits made view, same_current made) refl

  pub same_records : (made : Made) (p : Proposal) → records_proposal made a p ≡ records_proposal made b p
  unfolding records_proposal
  same_records made p = rw (same_admits_vote made (view_of p), same_finalized, same_slot (view_of p)) refl

  pub same_records_answer : (made : Made) (view : ℕ) → records_answer made a view ≡ records_answer made b view
  unfolding records_answer
  same_records_answer made view = rw (same_current made, same_slot view, same_nullified view) refl

  -- ---- ancestry

  same_true : (view : ℕ) → has_true_verdict a view ≡ has_true_verdict b view
  unfolding has_true_verdict
  same_true view = rw (same_verdict view) refl

  pub same_certified : (parent : ℕ) → is_certified a parent ≡ is_certified b parent
  unfolding is_certified
  same_certified parent = rw (same_finalized, same_true parent) refl

  same_gap : (made : Made) (parent view : ℕ) → gap_between made a parent view ≡ gap_between made b parent view
  unfolding gap_between
  same_gap made parent view = ap (λ (covered : ℕ → Bool). find (λ v. not (covered v)) (range_with_len (parent + 1) (view - (parent + 1)))) (fun_ext (same_covered made))

  same_met : (parent view : ℕ) → is_met a parent view ≡ is_met b parent view
  unfolding is_met
  same_met parent view = rw (same_notarize parent, same_nullified parent) refl

  same_ancestry : (made : Made) (parent view : ℕ) → has_ancestry made a parent view ≡ has_ancestry made b parent view
  unfolding has_ancestry
  same_ancestry made parent view = rw (same_finalized, same_gap made parent view, same_certified parent, same_met parent view) refl

  -- ---- votes

  same_vouched : (p : Proposal) → is_vouched a p ≡ is_vouched b p
  unfolding is_vouched
  same_vouched p = rw (same_notarize (view_of p), same_answered p, same_approved p) refl

  same_unopposed : (p : Proposal) → is_unopposed a p ≡ is_unopposed b p
  unfolding is_unopposed
  same_unopposed p = rw (same_notarization (view_of p), same_finalization (view_of p)) refl

  same_checked : (view : ℕ) → is_checked a view ≡ is_checked b view
  unfolding is_checked
  same_checked view =
      ap (λ o. option_map_or (λ p. is_vouched a p && is_unopposed a p) o false) (same_slot view)
      ∙ ap (λ f. option_map_or f (slot_of b view) false) (fun_ext {A = Proposal} (λ p. rw (same_vouched p, same_unopposed p) refl))

  same_ahead : (made : Made) (view : ℕ) → is_ahead made a view ≡ is_ahead made b view
  unfolding is_ahead
  same_ahead made view = rw (same_current made) refl

  same_votable : (made : Made) (view : ℕ) → is_votable made a view ≡ is_votable made b view
  unfolding is_votable
  same_votable made view = rw (same_current made, same_ahead made view, same_own_slot view) refl

  same_notarizes : (made : Made) (p : Proposal) → notarizes made a p ≡ notarizes made b p
  unfolding notarizes
  same_notarizes made p =
      rw (same_votable made (view_of p), same_checked (view_of p), same_ancestry made p.parent (view_of p), same_notarize (view_of p), same_nullified (view_of p)) refl

  pub same_notarize_at : (made : Made) (view : ℕ) → notarize_at made a view ≡ notarize_at made b view
  unfolding notarize_at
  same_notarize_at made view =
      ap (λ (o : Option Proposal). option_and_then (λ p. if notarizes made a p then signed_notarize made p else None) o) (same_slot view)
      ∙ ap (λ (test : Proposal → Bool). option_and_then (λ p. if test p then signed_notarize made p else None) (slot_of b view)) (fun_ext (same_notarizes made))

  same_gated : (made : Made) (view : ℕ) → is_gated made a view ≡ is_gated made b view
  unfolding is_gated
  same_gated made view = ap (λ n. list_any (is_gate_in made.term_length n view) a) same_finalized ∙ same_gate made (last_finalized b) view

  same_finalizes : (made : Made) (view : ℕ) → finalizes made a view ≡ finalizes made b view
  unfolding finalizes
  same_finalizes made view = rw (same_true view, same_finalized, same_finalize view, same_gated made view) refl

  pub same_finalize_at : (made : Made) (view : ℕ) → finalize_at made a view ≡ finalize_at made b view
  unfolding finalize_at
  same_finalize_at made view = rw (same_finalizes made view, same_slot view) refl

  -- ---- calls

  pub same_takes : (view : ℕ) → takes_verdict a view ≡ takes_verdict b view
  unfolding takes_verdict
  same_takes view = rw (same_finalized, same_notarization view, same_verdict view) refl

  pub same_adds_notarization : (made : Made) (n : Notarization) → adds_notarization made a n ≡ adds_notarization made b n
  unfolding adds_notarization
  same_adds_notarization made n = rw (same_admits made (view_of n.proposal), same_notarization (view_of n.proposal)) refl

  pub same_adds_nullification : (made : Made) (n : Nullification) → adds_nullification made a n ≡ adds_nullification made b n
  unfolding adds_nullification
  same_adds_nullification made n = rw (same_admits made n.round.view, same_nullification n.round.view) refl

  pub same_adds_finalization : (made : Made) (f : Finalization) → adds_finalization made a f ≡ adds_finalization made b f
  unfolding adds_finalization
  same_adds_finalization made f = rw (same_admits made (view_of f.proposal), same_finalization (view_of f.proposal)) refl
