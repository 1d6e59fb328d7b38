-- What honest members report verifies and is backed, so it is of one chain.
use Rattle.std.proofs.Common.{◌≡◌, ℕ, ◌<◌, ◌≤◌, Bool, true, false, refl, sym, ◌∙◌, subst, inl, inr}
use Rattle.std.proofs.lemmas.Bool.{cases_lt}
use Rattle.simplex_values.specs.declared.proposal.Proposal.{Proposal}
use Rattle.simplex_values.specs.declared.proposal.Subject.TheVariants as subjects
use Rattle.simplex_values.specs.Proposal.{is_same_proposal}
use Rattle.simplex_values.proofs.Same.{proposals_same, proposal_itself}
use Rattle.simplex_wire.specs.declared.certificate.Certificate.TheVariants as certificates
use Rattle.simplex_wire.specs.declared.certificate.Finalization.{Finalization}
use Rattle.simplex_types.specs.declared.activity.Activity.TheVariants as activities
use Rattle.simplex_messages.specs.declared.call.Call.TheVariants as calls
use Rattle.law_agreement.specs.Conflict.{Conflict, AreRivals, IsSkipped}
use Rattle.law_agreement.specs.World.{view_of}
use Rattle.law_agreement.proofs.Safety.{no_conflict}
use Rattle.law_member.specs.Life.{statement_of}
use Rattle.law_run.specs.OneChain.{AreOfOneChain}
use Rattle.law_run.specs.Sayings.{InCall}
use Rattle.law_cluster.specs.Cluster.{Cluster, IsMostlyHonest}
use Rattle.law_cluster.specs.Signatures.{calls_of}
use Rattle.law_cluster.specs.Reports.{IsReported, ReportOneChain}
use Rattle.law_cluster.proofs.Agreeing.{each_at, good_backed, lawful, lives_said, world}
use Rattle.law_cluster.proofs.Fine.{IsGood}
use Rattle.law_cluster.proofs.Members.{Counts, member_fine}

-- ---- no rivals, and none is skipped

not_rivals : (p q : Proposal) → ¬ (AreRivals p q) → view_of p ≡ view_of q → p ≡ q
not_rivals p q n e = at (is_same_proposal p q) refl
  where
    never : true ≡ false → ⊥
    never h = cc

    at : (b : Bool) → is_same_proposal p q ≡ b → p ≡ q
    at true h = proposals_same p q h
    at false h = absurd (n (e, λ same. never (sym (proposal_itself p) ∙ subst (λ r. is_same_proposal p r ≡ false) (sym same) h)))

not_skipped : (p q : Proposal) → ¬ (IsSkipped p q) → view_of p < view_of q → view_of p ≤ q.parent
not_skipped p q n lt = elim (cases_lt q.parent (view_of p)) [ inl low ↦ absurd (n (lt, low)) | inr le ↦ le ]

one_chain : (length : ℕ) (p q : Proposal) → ¬ (Conflict length (subjects.Finalize p) (subjects.Finalize q)) → AreOfOneChain p q
one_chain length p q n =
    record {
      same = not_rivals p q (λ r. n (inl r));
      later = not_skipped p q (λ s. n (inr (inl s)));
      earlier = not_skipped q p (λ s. n (inr (inr s)));
    }

-- ---- what is reported

module _ (c : Cluster) (o : IsMostlyHonest c) where
  reported_good : (f : Finalization) → IsReported c f → IsGood c.group (Counts c o) (certificates.Finalization f)
  reported_good f r =
      let fine = member_fine c o r.0 r.1 in
      each_at (InCall (IsGood c.group (Counts c o))) (calls_of (c.lives r.0)) (calls.Report (activities.Finalization f)) (lives_said c o r.0 (c.lives r.0) fine.each) r.2

  pub cluster_reports : ReportOneChain c
  cluster_reports f g rf rg =
      let a = certificates.Finalization f in
      let b = certificates.Finalization g in
      one_chain c.group.term f.proposal g.proposal
      (no_conflict (world c o) (lawful c o) (subjects.Finalize f.proposal) (subjects.Finalize g.proposal) (statement_of a).signers (statement_of b).signers
      (good_backed c o a (reported_good f rf)) (good_backed c o b (reported_good g rg)))
