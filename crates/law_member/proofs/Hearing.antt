-- What comes of hearing a vote in a round.
use Rattle.simplex_types.specs.declared.cause.BlockCause.{BlockCause}
use Rattle.simplex_types.specs.declared.cause.BlockCause.TheVariants.{WrongSender, ConflictingVotes, NullifyAndFinalize, InvalidSignature}
use Rattle.std.proofs.Common.{◌≡◌, ℕ, Bool, true, false, List, [], ◌∷◌, All, refl, sym, ap, subst, inl, inr, ◌∙◌, ◌⊎◌, arith}
use Rattle.std.specs.Prelude.{◌==◌, not, if◌then◌else◌, Option, Some, None}
use Rattle.std.specs.Option.{IfSome}
use Rattle.std.proofs.lemmas.Grind.{common_steps}
use Rattle.std.proofs.lemmas.Bool.Decides.{Decides-eqb}
use Rattle.std.proofs.lemmas.List.Elements.{All-nil, All-cons}
use Rattle.simplex_values.specs.declared.proposal.Subject.{Subject}
use Rattle.simplex_values.specs.Proposal.{is_same_proposal}
use Rattle.simplex_wire.specs.declared.attestation.Attestation.{Attestation}
use Rattle.simplex_wire.specs.declared.certificate.CertificateKind.{CertificateKind}
use Rattle.simplex_wire.specs.declared.certificate.CertificateKind.TheVariants as kinds
use Rattle.simplex_wire.specs.declared.vote.Vote.{Vote}
use Rattle.simplex_wire.specs.declared.vote.Nullify.{Nullify}
use Rattle.simplex_wire.specs.declared.vote.Finalize.{Finalize}
use Rattle.simplex_wire.specs.Fields.{vote_subject, vote_attestation}
use Rattle.simplex_wire.specs.declared.vote.Vote.TheVariants as votes
use Rattle.simplex_types.specs.declared.activity.Activity.{Activity}
use Rattle.simplex_types.specs.declared.activity.Activity.TheVariants as activities
use Rattle.simplex_round.specs.declared.ballot.Ballot.{Ballot}
use Rattle.simplex_round.specs.declared.evidence.Evidence.{Evidence}
use Rattle.simplex_round.specs.declared.evidence.Evidence.TheVariants as proofs
use Rattle.simplex_round.specs.Votes.{vote_signer, vote_kind}
use Rattle.simplex_round.specs.Known.{Known, side_of, with_side, ballot_of}
use Rattle.simplex_round.specs.Acceptance.{Heard, evidence_of, evidence_cause, was_given, with_given, evidence_activity, vote_activity, accused, heard_beside, heard, heard_from, with_accepted, unheard, placed}
use Rattle.model_steps.specs.Batcher.{vote_view}
use Rattle.law_member.specs.Reports.{conflict, SignedBoth, IsFounded}
use Rattle.law_member.proofs.Choices.{if_case, found_case, some_at}
use Rattle.law_member.proofs.Ballots.{GoodBallot, GoodBallots, GoodKnown, placed_each, placed_rise}

pub side_good : (verifies : Subject → Attestation → Bool) (accepted : Vote → Type 0) (known : Known) (kind : CertificateKind)
    → GoodKnown verifies accepted known → GoodBallots verifies accepted (side_of known kind)
side_good verifies accepted known kinds.Notarization good = good.notarizes
side_good verifies accepted known kinds.Nullification good = good.others
side_good verifies accepted known kinds.Finalization good = good.others

pub with_side_good : (verifies : Subject → Attestation → Bool) (accepted : Vote → Type 0) (known : Known) (kind : CertificateKind) (bs : List Ballot)
    → GoodKnown verifies accepted known → GoodBallots verifies accepted bs → GoodKnown verifies accepted (with_side known kind bs)
with_side_good verifies accepted known kinds.Notarization bs good new = record { notarizes = new; others = good.others }
with_side_good verifies accepted known kinds.Nullification bs good new = record { notarizes = good.notarizes; others = new }
with_side_good verifies accepted known kinds.Finalization bs good new = record { notarizes = good.notarizes; others = new }

-- the ballot of a member is one that it signed
ballot_signer : (bs : List Ballot) (member : ℕ) (b : Ballot) → ballot_of bs member ≡ Some b → vote_signer b.vote ≡ member
unfolding ballot_of
ballot_signer [] member b found = absurd (cc)
ballot_signer (first ∷ bs) member b found = grind (arith, common_steps, found, ballot_signer bs member b)

module _ (accepted came : Vote → Type 0) (old new : Vote) (same : vote_signer old ≡ vote_signer new) (view : vote_view old ≡ vote_view new) (was : accepted old) (old_came : came old) (new_came : came new) where
  both_signed : conflict old new ≡ true → SignedBoth accepted came old new
  both_signed conflicts = record { signer = same; view = view; conflicts = conflicts; came_first = old_came; came_second = new_came; one_accepted = inl was }

  -- where the later vote stands first
  both_signed_turned : conflict new old ≡ true → SignedBoth accepted came new old
  both_signed_turned conflicts = record { signer = sym same; view = sym view; conflicts = conflicts; came_first = new_came; came_second = old_came; one_accepted = inr was }

abbrev Founded : (Vote → Type 0) → (Vote → Type 0) → Option Evidence → Type 0
Founded accepted came proof = IfSome proof (λ e. IsFounded accepted came (evidence_activity e))

evidence_founded : (accepted came : Vote → Type 0) (old new : Vote) → vote_signer old ≡ vote_signer new → vote_view old ≡ vote_view new → accepted old → came old → came new
    → Founded accepted came (evidence_of old new)
evidence_founded accepted came (votes.Notarize a) (votes.Notarize b) same view was old new =
    if_case (Founded accepted came) (is_same_proposal a.proposal b.proposal) None (Some (proofs.Notarizes (record { first = a; second = b })))
    (λ h. tt) (λ h. both_signed accepted came (votes.Notarize a) (votes.Notarize b) same view was old new (ap not h))
evidence_founded accepted came (votes.Finalize a) (votes.Finalize b) same view was old new =
    if_case (Founded accepted came) (is_same_proposal a.proposal b.proposal) None (Some (proofs.Finalizes (record { first = a; second = b })))
    (λ h. tt) (λ h. both_signed accepted came (votes.Finalize a) (votes.Finalize b) same view was old new (ap not h))
evidence_founded accepted came (votes.Nullify a) (votes.Finalize b) same view was old new =
    both_signed accepted came (votes.Nullify a) (votes.Finalize b) same view was old new refl
evidence_founded accepted came (votes.Finalize a) (votes.Nullify b) same view was old new =
    both_signed_turned accepted came (votes.Finalize a) (votes.Nullify b) same view was old new refl
evidence_founded accepted came (votes.Notarize a) (votes.Nullify b) same view was old new = tt
evidence_founded accepted came (votes.Notarize a) (votes.Finalize b) same view was old new = tt
evidence_founded accepted came (votes.Nullify a) (votes.Notarize b) same view was old new = tt
evidence_founded accepted came (votes.Nullify a) (votes.Nullify b) same view was old new = tt
evidence_founded accepted came (votes.Finalize a) (votes.Notarize b) same view was old new = tt

vote_founded : (accepted came : Vote → Type 0) (vote : Vote) → accepted vote → IsFounded accepted came (vote_activity vote)
vote_founded accepted came (votes.Notarize v) was = was
vote_founded accepted came (votes.Nullify v) was = was
vote_founded accepted came (votes.Finalize v) was = was

-- for accepted votes these did what they are blocked for: who signed two that conflict, and who signed one that does not
-- verify
pub record Blames (verifies : Subject → Attestation → Bool) (accepted came : Vote → Type 0) (did : ℕ → BlockCause → Type 0) : Type 0 where
  pub conflicting : (first second : Vote) → vote_kind first ≡ vote_kind second → SignedBoth accepted came first second → did (vote_signer first) ConflictingVotes
  pub both : (n : Nullify) (f : Finalize) → SignedBoth accepted came (votes.Nullify n) (votes.Finalize f) → did n.attestation.signer NullifyAndFinalize
  pub invalid : (v : Vote) → accepted v → verifies (vote_subject v) (vote_attestation v) ≡ false → did (vote_signer v) InvalidSignature

-- the signer of what evidence names did that
abbrev Blamed : (did : ℕ → BlockCause → Type 0) → ℕ → Option Evidence → Type 0
Blamed did signer proof = IfSome proof (λ e. did signer (evidence_cause e))

evidence_blames : (verifies : Subject → Attestation → Bool) (accepted came : Vote → Type 0) (did : ℕ → BlockCause → Type 0) → Blames verifies accepted came did
    → (old new : Vote) → vote_signer old ≡ vote_signer new → Founded accepted came (evidence_of old new) → Blamed did (vote_signer new) (evidence_of old new)
evidence_blames verifies accepted came did blames (votes.Notarize a) (votes.Notarize b) same = at (is_same_proposal a.proposal b.proposal)
  where
    at : (t : Bool) → Founded accepted came (if t then None else Some (proofs.Notarizes (record { first = a; second = b })))
        → Blamed did b.attestation.signer (if t then None else Some (proofs.Notarizes (record { first = a; second = b })))
    at true founded = tt
    at false founded = subst (λ m. did m ConflictingVotes) same (blames.conflicting (votes.Notarize a) (votes.Notarize b) refl founded)
evidence_blames verifies accepted came did blames (votes.Finalize a) (votes.Finalize b) same = at (is_same_proposal a.proposal b.proposal)
  where
    at : (t : Bool) → Founded accepted came (if t then None else Some (proofs.Finalizes (record { first = a; second = b })))
        → Blamed did b.attestation.signer (if t then None else Some (proofs.Finalizes (record { first = a; second = b })))
    at true founded = tt
    at false founded = subst (λ m. did m ConflictingVotes) same (blames.conflicting (votes.Finalize a) (votes.Finalize b) refl founded)
evidence_blames verifies accepted came did blames (votes.Nullify a) (votes.Finalize b) same =
    λ founded. subst (λ m. did m NullifyAndFinalize) same (blames.both a b founded)
evidence_blames verifies accepted came did blames (votes.Finalize a) (votes.Nullify b) same = λ founded. blames.both b a founded
evidence_blames verifies accepted came did blames (votes.Notarize a) (votes.Nullify b) same = λ founded. tt
evidence_blames verifies accepted came did blames (votes.Notarize a) (votes.Finalize b) same = λ founded. tt
evidence_blames verifies accepted came did blames (votes.Nullify a) (votes.Notarize b) same = λ founded. tt
evidence_blames verifies accepted came did blames (votes.Nullify a) (votes.Nullify b) same = λ founded. tt
evidence_blames verifies accepted came did blames (votes.Finalize a) (votes.Notarize b) same = λ founded. tt

pub record GoodHeard (verifies : Subject → Attestation → Bool) (accepted came : Vote → Type 0) (did : ℕ → BlockCause → Type 0) (h : Heard) : Type 0 where
  pub known : GoodKnown verifies accepted h.known
  pub reports : All (IsFounded accepted came) h.reports
  pub blocks : All (λ (b : ℕ × BlockCause). did b.0 b.1) h.blocks

module _ (verifies : Subject → Attestation → Bool) (accepted came : Vote → Type 0) (did : ℕ → BlockCause → Type 0) (blames : Blames verifies accepted came did) (is_came : (v : Vote) → accepted v → came v) (view : ℕ) (is_of : (v : Vote) → came v → vote_view v ≡ view) (known : Known) (good : GoodKnown verifies accepted known) where
  unheard_good : GoodHeard verifies accepted came did (unheard known)
  unheard_good = record { known = good; reports = All-nil (IsFounded accepted came); blocks = All-nil (λ (b : ℕ × BlockCause). did b.0 b.1) }

  accused_good : (signer : ℕ) (proof : Option Evidence) → Founded accepted came proof → Blamed did signer proof → GoodHeard verifies accepted came did (accused known signer proof)
  unfolding accused
  accused_good signer None founded blamed = unheard_good
  accused_good signer (Some e) founded blamed =
      if_case (GoodHeard verifies accepted came did) (was_given e known.given) (unheard known)
      (record { accepted = false; reports = evidence_activity e ∷ []; blocks = (signer, evidence_cause e) ∷ []; known = record known { given = with_given e known.given } })
      (λ h. unheard_good)
      (λ h. record {
        known = record { notarizes = good.notarizes; others = good.others };
        reports = All-cons (IsFounded accepted came) (evidence_activity e) [] founded (All-nil (IsFounded accepted came));
        blocks = All-cons (λ (b : ℕ × BlockCause). did b.0 b.1) (signer, evidence_cause e) [] blamed (All-nil (λ (b : ℕ × BlockCause). did b.0 b.1));
      })

  placed_good : (vote : Vote) → accepted vote → ballot_of (side_of known (vote_kind vote)) (vote_signer vote) ≡ None
      → GoodBallots verifies accepted (placed (record { vote = vote; found = None }) (side_of known (vote_kind vote)))
  placed_good vote was none =
      let side = side_good verifies accepted known (vote_kind vote) good in
      record {
        each = placed_each (GoodBallot verifies accepted) (record { vote = vote; found = None }) (side_of known (vote_kind vote))
            (record { was_accepted = was; checked = λ valid e. absurd (cc e) }) side.each;
        rise = placed_rise 0 (record { vote = vote; found = None }) (side_of known (vote_kind vote)) (omega arith) none side.rise;
      }

  old_good : (vote : Vote) (old : Ballot) → ballot_of (side_of known (vote_kind vote)) (vote_signer vote) ≡ Some old → GoodBallot verifies accepted old
  unfolding ballot_of
  old_good vote old is =
      some_at (GoodBallot verifies accepted) (ballot_of (side_of known (vote_kind vote)) (vote_signer vote)) old is
      (found_case (GoodBallot verifies accepted) (λ (b : Ballot). vote_signer b.vote == vote_signer vote) (side_of known (vote_kind vote)) (side_good verifies accepted known (vote_kind vote) good).each)

  beside_good : (vote : Vote) (o : Option Ballot) → ballot_of (side_of known (vote_kind vote)) (vote_signer vote) ≡ o
      → ((heard_beside known vote o).accepted ≡ true → accepted vote) → came vote → GoodHeard verifies accepted came did (heard_beside known vote o)
  unfolding heard_beside with_accepted
  beside_good vote None is accepts comes =
      let was : accepted vote = accepts refl in
      record {
        known = with_side_good verifies accepted known (vote_kind vote) (placed (record { vote = vote; found = None }) (side_of known (vote_kind vote))) good (placed_good vote was is);
        reports = All-cons (IsFounded accepted came) (vote_activity vote) [] (vote_founded accepted came vote was) (All-nil (IsFounded accepted came));
        blocks = All-nil (λ (b : ℕ × BlockCause). did b.0 b.1);
      }
  beside_good vote (Some old) is accepts comes =
      let ballot = old_good vote old is in
      let same = ballot_signer (side_of known (vote_kind vote)) (vote_signer vote) old is in
      let founded = evidence_founded accepted came old.vote vote same
      (is_of old.vote (is_came old.vote ballot.was_accepted) ∙ sym (is_of vote comes)) ballot.was_accepted (is_came old.vote ballot.was_accepted) comes in
      accused_good (vote_signer vote) (evidence_of old.vote vote) founded (evidence_blames verifies accepted came did blames old.vote vote same founded)

  pub heard_good : (vote : Vote) → ((heard known vote).accepted ≡ true → accepted vote) → came vote → GoodHeard verifies accepted came did (heard known vote)
  unfolding heard
  heard_good vote accepts comes = beside_good vote (ballot_of (side_of known (vote_kind vote)) (vote_signer vote)) refl accepts comes

  pub heard_from_good : (sender : ℕ) (vote : Vote) → (sender ≡ vote_signer vote → (heard known vote).accepted ≡ true → accepted vote) → (sender ≡ vote_signer vote → came vote)
      → ((vote_signer vote == sender) ≡ false → did sender WrongSender)
      → GoodHeard verifies accepted came did (heard_from known sender vote)
  unfolding heard_from
  heard_from_good sender vote accepts comes wrong =
      if_case (GoodHeard verifies accepted came did) (vote_signer vote == sender) (heard known vote)
      (record { accepted = false; reports = []; blocks = (sender, WrongSender) ∷ []; known = known })
      (λ h. let is = sym ((Decides-eqb (vote_signer vote) sender).0 h) in heard_good vote (accepts is) (comes is))
      (λ h. record {
        known = good;
        reports = All-nil (IsFounded accepted came);
        blocks = All-cons (λ (b : ℕ × BlockCause). did b.0 b.1) (sender, WrongSender) [] (wrong h) (All-nil (λ (b : ℕ × BlockCause). did b.0 b.1));
      })

pub signed_more : (accepted came accepted_too came_too : Vote → Type 0) (first second : Vote) → ((v : Vote) → accepted v → accepted_too v) → ((v : Vote) → came v → came_too v)
    → SignedBoth accepted came first second → SignedBoth accepted_too came_too first second
signed_more accepted came accepted_too came_too first second more comes signed = record {
  signer = signed.signer;
  view = signed.view;
  conflicts = signed.conflicts;
  came_first = comes first signed.came_first;
  came_second = comes second signed.came_second;
  one_accepted = one signed.one_accepted;
}
  where
    one : accepted first ⊎ accepted second → accepted_too first ⊎ accepted_too second
    one (inl was) = inl (more first was)
    one (inr was) = inr (more second was)

-- what is founded on such votes is founded on more
pub founded_more : (accepted came accepted_too came_too : Vote → Type 0) → ((v : Vote) → accepted v → accepted_too v) → ((v : Vote) → came v → came_too v)
    → (activity : Activity) → IsFounded accepted came activity → IsFounded accepted_too came_too activity
founded_more accepted came accepted_too came_too more comes (activities.Notarize v) is = more (votes.Notarize v) is
founded_more accepted came accepted_too came_too more comes (activities.Nullify v) is = more (votes.Nullify v) is
founded_more accepted came accepted_too came_too more comes (activities.Finalize v) is = more (votes.Finalize v) is
founded_more accepted came accepted_too came_too more comes (activities.ConflictingNotarize e) is =
    signed_more accepted came accepted_too came_too (votes.Notarize e.first) (votes.Notarize e.second) more comes is
founded_more accepted came accepted_too came_too more comes (activities.ConflictingFinalize e) is =
    signed_more accepted came accepted_too came_too (votes.Finalize e.first) (votes.Finalize e.second) more comes is
founded_more accepted came accepted_too came_too more comes (activities.NullifyFinalize e) is =
    signed_more accepted came accepted_too came_too (votes.Nullify e.nullify) (votes.Finalize e.finalize) more comes is
founded_more accepted came accepted_too came_too more comes (activities.Notarization c) is = is
founded_more accepted came accepted_too came_too more comes (activities.Certification c) is = is
founded_more accepted came accepted_too came_too more comes (activities.Nullification c) is = is
founded_more accepted came accepted_too came_too more comes (activities.Finalization c) is = is
