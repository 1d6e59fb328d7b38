-- A vote that the rule gives goes with each vote that the journal keeps.
use Rattle.std.proofs.Common.{◌≡◌, ℕ, ◌<◌, ◌≤◌, true, List, [], ◌∷◌, ◌++◌, Contains, subst, inl, inr, arith}
use Rattle.std.proofs.lemmas.Bool.{cases_lt}
use Rattle.std.proofs.lemmas.List.Elements.{Contains-append_left, Contains-push}
use Rattle.simplex_values.specs.declared.proposal.Proposal.{Proposal}
use Rattle.simplex_values.specs.declared.proposal.Subject.{Subject}
use Rattle.simplex_values.specs.declared.proposal.Subject.TheVariants.{Notarize, Nullify, Finalize}
use Rattle.law_agreement.specs.Terms.{Covers}
use Rattle.law_agreement.specs.World.{KnowsFinalized, MayFollow, MayStand, view_of}
use Rattle.law_agreement.proofs.TermFacts.{Covers-zero}
use Rattle.law_agreement.specs.Artifacts.{Artifact, Own, Proved, Judged, last_finalized, certificates}
use Rattle.law_agreement.specs.Votes.{MayVote}
use Rattle.law_agreement.proofs.KnownFacts.{last_known, certificates_has}
use Rattle.law_agreement.proofs.Knowing.{Keeps, Knowing}

-- a nullified view that is covered by what is final has a final view behind it, which is known
final_behind : (length : ℕ) (known : List Artifact) (u w : ℕ) → 0 < length → u ≤ last_finalized known → last_finalized known < w → Covers length u w
    → KnowsFinalized (certificates known) u w
final_behind length known u w pos le lt covers =
    elim (cases_lt 0 (last_finalized known)) [
      | inl some ↦
          let l : (p : Proposal) × (signers : List ℕ) × Contains known (Proved (record { subject = Finalize p; signers = signers })) × (view_of p ≡ last_finalized known) = last_known known some in
          (l.0, (l.1, certificates_has known _ l.2), omega (arith, l.3, le), omega (arith, l.3, lt))
      | inr none ↦
          let at_zero : u ≡ 0 = omega (arith, none, le) in
          absurd (omega (arith, Covers-zero length w pos (subst (λ v. Covers length v w) at_zero covers), lt))
    ]

pub may_follow : (length : ℕ) (journal known : List Artifact) → 0 < length → Knowing journal known → (t s : Subject) → Keeps journal t → MayVote length known s → MayFollow length t s (certificates known)
may_follow length journal known pos k (Notarize p) (Notarize q) keeps r = λ e.
    elim keeps [
      | inl st ↦ absurd (r.2 p e (k.seen (Own (Notarize p)) st (omega (arith, e, r.0))))
      | inr o ↦ absurd (omega (arith, o.2, k.finals o.0 o.1, e, r.0))
    ]
may_follow length journal known pos k (Notarize p) (Nullify s) keeps r = tt
may_follow length journal known pos k (Notarize p) (Finalize q) keeps r = tt
may_follow length journal known pos k (Nullify n) (Notarize q) keeps r = tt
may_follow length journal known pos k (Nullify n) (Nullify s) keeps r = tt
may_follow length journal known pos k (Nullify n) (Finalize q) keeps r = λ covers.
    elim (cases_lt (last_finalized known) n.view) [
      | inl above ↦ elim keeps [
        | inl st ↦ absurd (r.4 n above covers (k.seen (Own (Nullify n)) st above))
        | inr o ↦ absurd (omega (arith, o.2, k.finals o.0 o.1, above))
      ]
      | inr below ↦ final_behind length known n.view (view_of q) pos below r.0 covers
    ]
may_follow length journal known pos k (Finalize p) (Notarize q) keeps r = tt
may_follow length journal known pos k (Finalize p) (Nullify s) keeps r = λ covers.
    elim keeps [
      | inl st ↦ r.1 (view_of p) covers (k.seen (Judged (view_of p) true) st.1 (omega (arith, covers.1, r.0)))
      | inr o ↦ omega (arith, o.2, k.finals o.0 o.1, covers.1, r.0)
    ]
may_follow length journal known pos k (Finalize p) (Finalize q) keeps r = λ e.
    elim keeps [
      | inl st ↦ absurd (r.3 p e (k.seen (Own (Finalize p)) st.0 (omega (arith, e, r.0))))
      | inr o ↦ absurd (omega (arith, o.2, k.finals o.0 o.1, e, r.0))
    ]

-- once its record is appended, the journal keeps the vote
pub vote_keeps : (length : ℕ) (journal known : List Artifact) → Knowing journal known → (s : Subject) → MayVote length known s → Keeps (journal ++ Own s ∷ []) s
vote_keeps length journal known k (Notarize p) r = inl (Contains-push journal (Own (Notarize p)))
vote_keeps length journal known k (Nullify n) r = inl (Contains-push journal (Own (Nullify n)))
vote_keeps length journal known k (Finalize p) r =
    inl (Contains-push journal (Own (Finalize p)), Contains-append_left journal (Own (Finalize p) ∷ []) (Judged (view_of p) true) (k.stands (Judged (view_of p) true) r.1 r.0))

-- a vote that the rule gives may stand
pub may_stand : (length : ℕ) (known : List Artifact) (s : Subject) → MayVote length known s → MayStand length s (certificates known)
may_stand length known (Notarize p) r = r.1
may_stand length known (Nullify n) r = tt
may_stand length known (Finalize p) r = r.2
