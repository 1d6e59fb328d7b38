-- What stays sound behind one more fact: proposals made and verified, certificates sent, and clocks.
use Rattle.std.proofs.Common.{◌≡◌, ℕ, ◌<◌, ◌^◌, Bool, true, false, List, ◌∷◌, Some, None, refl, arith}
use Rattle.std.proofs.lemmas.Grind.{common_steps}
use Rattle.std.specs.Option.{IfSome}
use Rattle.simplex_values.specs.declared.proposal.Proposal.{Proposal}
use Rattle.simplex_values.specs.declared.timeout.TimeoutReason.TheVariants.{Inactivity}
use Rattle.simplex_wire.specs.declared.certificate.Certificate.TheVariants as certificates
use Rattle.simplex_wire.specs.declared.vote.Vote.TheVariants as votes
use Rattle.model_rules.specs.Lists.{last_of}
use Rattle.model_rules.specs.Known.{Made, Fact, FloorAt, Added, Taken, Answered, Approved, Judged, Voted, Published, Expired, Failed, Broadcast, ProposalAsked, ProposalFreed, VerifyAsked, CertifyAsked, MissingAsked, ParentAsked, Pruned, view_of, was_answered, was_approved}
use Rattle.model_rules.specs.Deadline.{published_at}
use Rattle.simplex_state.specs.declared.progress.Progress.{Progress}
use Rattle.simplex_state.specs.Rounds.{round_of, learn_round}
use Rattle.simplex_state.specs.Progress.{progress_of, learn_progress, opens, ends}
use Rattle.simplex_state.specs.Stands.{IsSound, IsTimely}
use Rattle.simplex_state.proofs.Facts.{round_step, progress_step}

false_true : false ≡ true → ⊥
false_true e = cc

none_true : {A : Type 0} → false ≡ true → A
none_true e = absurd (false_true e)

-- ---- proposals

-- facts that are no proposal taken, answered, verified or given to verify
abbrev pub is_no_proposal : Fact → Bool
is_no_proposal (Taken p) = false
is_no_proposal (Answered p) = false
is_no_proposal (Approved p) = false
is_no_proposal (VerifyAsked p) = false
is_no_proposal _ = true

-- such a fact leaves what a record says of these
learns_no_proposal : (f : Fact) (view : ℕ) (known : List Fact) → is_no_proposal f ≡ true
    → ((round_of (f ∷ known) view).answered ≡ (round_of known view).answered) × ((round_of (f ∷ known) view).proposed ≡ (round_of known view).proposed)
    × ((round_of (f ∷ known) view).approved ≡ (round_of known view).approved) × ((round_of (f ∷ known) view).asked ≡ (round_of known view).asked)
unfolding learn_round
learns_no_proposal (Taken p) view known e = none_true e
learns_no_proposal (Answered p) view known e = none_true e
learns_no_proposal (Approved p) view known e = none_true e
learns_no_proposal (VerifyAsked p) view known e = none_true e
learns_no_proposal (Added (certificates.Notarization n) now) view known e = let s = round_step (Added (certificates.Notarization n) now) known view in (grind (arith, common_steps, s), grind (arith, common_steps, s), grind (arith, common_steps, s), grind (arith, common_steps, s))
learns_no_proposal (Added (certificates.Nullification n) now) view known e = let s = round_step (Added (certificates.Nullification n) now) known view in (grind (arith, common_steps, s), grind (arith, common_steps, s), grind (arith, common_steps, s), grind (arith, common_steps, s))
learns_no_proposal (Added (certificates.Finalization n) now) view known e = let s = round_step (Added (certificates.Finalization n) now) known view in (grind (arith, common_steps, s), grind (arith, common_steps, s), grind (arith, common_steps, s), grind (arith, common_steps, s))
learns_no_proposal (Voted (votes.Notarize n)) view known e = let s = round_step (Voted (votes.Notarize n)) known view in (grind (arith, common_steps, s), grind (arith, common_steps, s), grind (arith, common_steps, s), grind (arith, common_steps, s))
learns_no_proposal (Voted (votes.Nullify n)) view known e = let s = round_step (Voted (votes.Nullify n)) known view in (grind (arith, common_steps, s), grind (arith, common_steps, s), grind (arith, common_steps, s), grind (arith, common_steps, s))
learns_no_proposal (Voted (votes.Finalize n)) view known e = let s = round_step (Voted (votes.Finalize n)) known view in (grind (arith, common_steps, s), grind (arith, common_steps, s), grind (arith, common_steps, s), grind (arith, common_steps, s))
learns_no_proposal (FloorAt a b) view known e = let s = round_step (FloorAt a b) known view in (grind (arith, common_steps, s), grind (arith, common_steps, s), grind (arith, common_steps, s), grind (arith, common_steps, s))
learns_no_proposal (Judged a b c) view known e = let s = round_step (Judged a b c) known view in (grind (arith, common_steps, s), grind (arith, common_steps, s), grind (arith, common_steps, s), grind (arith, common_steps, s))
learns_no_proposal (Published a b) view known e = let s = round_step (Published a b) known view in (grind (arith, common_steps, s), grind (arith, common_steps, s), grind (arith, common_steps, s), grind (arith, common_steps, s))
learns_no_proposal (Expired a b c) view known e = let s = round_step (Expired a b c) known view in (grind (arith, common_steps, s), grind (arith, common_steps, s), grind (arith, common_steps, s), grind (arith, common_steps, s))
learns_no_proposal (Failed a b) view known e = let s = round_step (Failed a b) known view in (grind (arith, common_steps, s), grind (arith, common_steps, s), grind (arith, common_steps, s), grind (arith, common_steps, s))
learns_no_proposal (Broadcast a b) view known e = let s = round_step (Broadcast a b) known view in (grind (arith, common_steps, s), grind (arith, common_steps, s), grind (arith, common_steps, s), grind (arith, common_steps, s))
learns_no_proposal (ProposalAsked a) view known e = let s = round_step (ProposalAsked a) known view in (grind (arith, common_steps, s), grind (arith, common_steps, s), grind (arith, common_steps, s), grind (arith, common_steps, s))
learns_no_proposal (ProposalFreed a) view known e = let s = round_step (ProposalFreed a) known view in (grind (arith, common_steps, s), grind (arith, common_steps, s), grind (arith, common_steps, s), grind (arith, common_steps, s))
learns_no_proposal (CertifyAsked a) view known e = let s = round_step (CertifyAsked a) known view in (grind (arith, common_steps, s), grind (arith, common_steps, s), grind (arith, common_steps, s), grind (arith, common_steps, s))
learns_no_proposal (MissingAsked a b c) view known e = let s = round_step (MissingAsked a b c) known view in (grind (arith, common_steps, s), grind (arith, common_steps, s), grind (arith, common_steps, s), grind (arith, common_steps, s))
learns_no_proposal (ParentAsked a) view known e = let s = round_step (ParentAsked a) known view in (grind (arith, common_steps, s), grind (arith, common_steps, s), grind (arith, common_steps, s), grind (arith, common_steps, s))
learns_no_proposal (Pruned a) view known e = let s = round_step (Pruned a) known view in (grind (arith, common_steps, s), grind (arith, common_steps, s), grind (arith, common_steps, s), grind (arith, common_steps, s))

same_answers : (f : Fact) (known : List Fact) (p : Proposal) → is_no_proposal f ≡ true → was_answered (f ∷ known) p ≡ was_answered known p
unfolding was_answered
same_answers (Taken p) known q e = none_true e
same_answers (Answered p) known q e = none_true e
same_answers (Approved p) known q e = none_true e
same_answers (VerifyAsked p) known q e = none_true e
same_answers _ known q e = refl

same_approvals : (f : Fact) (known : List Fact) (p : Proposal) → is_no_proposal f ≡ true → was_approved (f ∷ known) p ≡ was_approved known p
unfolding was_approved
same_approvals (Taken p) known q e = none_true e
same_approvals (Answered p) known q e = none_true e
same_approvals (Approved p) known q e = none_true e
same_approvals (VerifyAsked p) known q e = none_true e
same_approvals _ known q e = refl

pub sound_other : (f : Fact) (known : List Fact) → is_no_proposal f ≡ true → IsSound known → IsSound (f ∷ known)
sound_other f known e s =
    record {
      answers = λ p. (let w = learns_no_proposal f (view_of p) known e in grind (arith, w.0, w.1, s.answers p, same_answers f known p e));
      approvals = λ p. (let w = learns_no_proposal f (view_of p) known e in grind (arith, w.2, s.approvals p, same_approvals f known p e));
      answered = λ v. (let w = learns_no_proposal f v known e in grind (arith, w.0, w.1, s.answered v));
      approved = λ v. (let w = learns_no_proposal f v known e in grind (arith, w.2, s.approved v));
    }

-- a proposal is recorded where none stands
pub sound_taken : (known : List Fact) (p : Proposal) → (round_of known (view_of p)).proposed ≡ None → IsSound known → IsSound (Taken p ∷ known)
unfolding was_answered was_approved learn_round
sound_taken known p none s =
    record {
      answers = λ q. grind (arith, common_steps, none, s.answers q, s.answered (view_of p), round_step (Taken p) known (view_of q));
      approvals = λ q. grind (arith, common_steps, s.approvals q, round_step (Taken p) known (view_of q));
      answered = λ v. grind (arith, common_steps, s.answered v, round_step (Taken p) known v);
      approved = λ v. grind (arith, common_steps, s.approved v, round_step (Taken p) known v);
    }

pub sound_answered : (known : List Fact) (p : Proposal) → (round_of known (view_of p)).proposed ≡ None → IsSound known → IsSound (Answered p ∷ known)
unfolding was_answered was_approved learn_round
sound_answered known p none s =
    record {
      answers = λ q. grind (arith, common_steps, none, s.answers q, s.answered (view_of p), round_step (Answered p) known (view_of q));
      approvals = λ q. grind (arith, common_steps, s.approvals q, round_step (Answered p) known (view_of q));
      answered = λ v. grind (arith, common_steps, s.answered v, round_step (Answered p) known v);
      approved = λ v. grind (arith, common_steps, s.approved v, round_step (Answered p) known v);
    }

-- the proposal that the application was asked to verify is verified
pub sound_approved : (known : List Fact) (p : Proposal) → (round_of known (view_of p)).asked ≡ Some p → IsSound known → IsSound (Approved p ∷ known)
unfolding was_answered was_approved learn_round
sound_approved known p asked s =
    record {
      answers = λ q. grind (arith, common_steps, s.answers q, round_step (Approved p) known (view_of q));
      approvals = λ q. grind (arith, common_steps, asked, s.approvals q, s.approvals p, round_step (Approved p) known (view_of q));
      answered = λ v. grind (arith, common_steps, s.answered v, round_step (Approved p) known v);
      approved = λ v. grind (arith, common_steps, asked, s.approved v, round_step (Approved p) known v);
    }

pub sound_verify_asked : (known : List Fact) (p : Proposal) → (round_of known (view_of p)).asked ≡ None → IsSound known → IsSound (VerifyAsked p ∷ known)
unfolding was_answered was_approved learn_round
sound_verify_asked known p none s =
    record {
      answers = λ q. grind (arith, common_steps, s.answers q, round_step (VerifyAsked p) known (view_of q));
      approvals = λ q. grind (arith, common_steps, none, s.approvals q, s.approved (view_of p), round_step (VerifyAsked p) known (view_of q));
      answered = λ v. grind (arith, common_steps, s.answered v, round_step (VerifyAsked p) known v);
      approved = λ v. grind (arith, common_steps, s.approved v, round_step (VerifyAsked p) known v);
    }

-- ---- clocks

-- the clock of a fact that a deadline may count from
abbrev pub stamp_of : Fact → ℕ
stamp_of (Added c now) = now
stamp_of (Judged v good now) = now
stamp_of (Published v now) = now
stamp_of _ = 0

timely_progress : (made : Made) (f : Fact) (p : Progress) → stamp_of f < 2 ^ 63 → p.entered < 2 ^ 63 → p.term_entered < 2 ^ 63 → p.finalized_at < 2 ^ 63
    → ((learn_progress made f p).entered < 2 ^ 63) × ((learn_progress made f p).term_entered < 2 ^ 63) × ((learn_progress made f p).finalized_at < 2 ^ 63)
unfolding learn_progress opens ends
timely_progress made (Added (certificates.Notarization n) now) p s a b c = (a, b, c)
timely_progress made (Added (certificates.Nullification n) now) p s a b c = (grind (arith, common_steps, s, a), grind (arith, common_steps, s, b), grind (arith, common_steps, s, c))
timely_progress made (Added (certificates.Finalization n) now) p s a b c = (grind (arith, common_steps, s, a), grind (arith, common_steps, s, b), grind (arith, common_steps, s, c))
timely_progress made (Judged v true now) p s a b c = (grind (arith, common_steps, s, a), grind (arith, common_steps, s, b), grind (arith, common_steps, s, c))
timely_progress made (Judged v false now) p s a b c = (a, b, c)
timely_progress made (Expired v Inactivity now) p s a b c = (a, b, c)
timely_progress made (Expired v _ now) p s a b c = (a, b, c)
timely_progress made _ p s a b c = (a, b, c)

timely_published : (f : Fact) (known : List Fact) (view : ℕ) → stamp_of f < 2 ^ 63 → IfSome (published_at known view) (λ at. at < 2 ^ 63) → IfSome (published_at (f ∷ known) view) (λ at. at < 2 ^ 63)
unfolding published_at last_of
timely_published (Published v now) known view s e = grind (arith, common_steps, s, e)
timely_published _ known view s e = e

pub timely_step : (made : Made) (f : Fact) (known : List Fact) → stamp_of f < 2 ^ 63 → IsTimely made known → IsTimely made (f ∷ known)
timely_step made f known s t =
    let w = timely_progress made f (progress_of made known) s t.entered t.term_entered t.finalized_at in
    record {
      entered = grind (arith, w.0, progress_step made f known);
      term_entered = grind (arith, w.1, progress_step made f known);
      finalized_at = grind (arith, w.2, progress_step made f known);
      published = λ view. timely_published f known view s (t.published view);
    }
