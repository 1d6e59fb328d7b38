-- Facts on what a member knows.
use Rattle.std.proofs.Common.{◌≡◌, ℕ, ◌<◌, ◌≤◌, max, List, [], ◌∷◌, ◌++◌, Contains, refl, sym, ap, ◌∙◌, subst, inl, inr, arith}
use Rattle.std.proofs.lemmas.Bool.{cases_lt}
use Rattle.simplex_values.specs.declared.proposal.Proposal.{Proposal}
use Rattle.simplex_values.specs.declared.proposal.Subject.{Subject}
use Rattle.simplex_values.specs.declared.proposal.Subject.TheVariants.{Notarize, Nullify, Finalize}
use Rattle.law_agreement.specs.World.{Certificate, view_of}
use Rattle.law_agreement.specs.Artifacts.{Artifact, Own, Proved, Judged, subject_view, artifact_view, finalized, finalized_view, greatest, last_finalized, certificates}
use Rattle.law_agreement.proofs.ListFacts.{not_in_empty, Contains-here, Contains-there, Contains-cons_cases}

pub greatest_above : (f : Artifact → ℕ) (xs : List Artifact) (x : Artifact) → Contains xs x → f x ≤ greatest f xs
greatest_above f [] x c = absurd (not_in_empty x c)
greatest_above f (y ∷ ys) x c =
    elim (Contains-cons_cases y ys x c) [
      | inl e ↦ omega (arith, ap f e)
      | inr r ↦ omega (arith, greatest_above f ys x r)
    ]

-- where the greatest value is not 0, an element has it
pub greatest_at : (f : Artifact → ℕ) (xs : List Artifact) → 0 < greatest f xs → (x : Artifact) × Contains xs x × (f x ≡ greatest f xs)
greatest_at f [] h = absurd (omega (arith, h))
greatest_at f (y ∷ ys) h =
    elim (cases_lt (f y) (greatest f ys)) [
      | inl lt ↦
          let r : (x : Artifact) × Contains ys x × (f x ≡ greatest f ys) = greatest_at f ys (omega (arith, lt)) in
          (r.0, Contains-there y ys r.0 r.1, omega (arith, r.2, lt))
      | inr ge ↦ (y, Contains-here y ys, omega (arith, ge))
    ]

pub greatest-append : (f : Artifact → ℕ) (xs ys : List Artifact) → greatest f (xs ++ ys) ≡ max (greatest f xs) (greatest f ys)
greatest-append f [] ys = omega arith
greatest-append f (x ∷ xs) ys = omega (arith, greatest-append f xs ys)

finalized-le : (s : Subject) → finalized s ≤ subject_view s
finalized-le (Notarize p) = omega arith
finalized-le (Nullify r) = omega arith
finalized-le (Finalize p) = omega arith

pub finalized_view-le : (a : Artifact) → finalized_view a ≤ artifact_view a
finalized_view-le (Own s) = omega arith
finalized_view-le (Proved c) = finalized-le c.subject
finalized_view-le (Judged v verdict) = omega arith

-- a known certificate is among the known certificates, and the other way round
pub certificates_has : (known : List Artifact) (c : Certificate) → Contains known (Proved c) → Contains (certificates known) c
certificates_has [] c k = absurd (not_in_empty (Proved c) k)
certificates_has (Own s ∷ xs) c k = elim (Contains-cons_cases (Own s) xs (Proved c) k) [ inl e ↦ cc | inr r ↦ certificates_has xs c r ]
certificates_has (Judged v b ∷ xs) c k = elim (Contains-cons_cases (Judged v b) xs (Proved c) k) [ inl e ↦ cc | inr r ↦ certificates_has xs c r ]
certificates_has (Proved d ∷ xs) c k =
    elim (Contains-cons_cases (Proved d) xs (Proved c) k) [
      | inl e ↦ let same : d ≡ c = cc in (0, omega arith, same)
      | inr r ↦ Contains-there d (certificates xs) c (certificates_has xs c r)
    ]

-- the finalization of the last finalized view is known
final_of : (s : Subject) → 0 < finalized s → (p : Proposal) × (s ≡ Finalize p)
final_of (Notarize p) h = absurd (omega (arith, h))
final_of (Nullify r) h = absurd (omega (arith, h))
final_of (Finalize p) h = (p, refl)

final_artifact : (a : Artifact) → 0 < finalized_view a → (p : Proposal) × (signers : List ℕ) × (a ≡ Proved (record { subject = Finalize p; signers = signers }))
final_artifact (Own s) h = absurd (omega (arith, h))
final_artifact (Judged v b) h = absurd (omega (arith, h))
final_artifact (Proved c) h =
    let f : (p : Proposal) × (c.subject ≡ Finalize p) = final_of c.subject h in
    (f.0, c.signers, ap (λ (s : Subject). Proved (record { subject = s; signers = c.signers })) f.1)

pub last_known : (known : List Artifact) → 0 < last_finalized known
    → (p : Proposal) × (signers : List ℕ) × Contains known (Proved (record { subject = Finalize p; signers = signers })) × (view_of p ≡ last_finalized known)
last_known known h =
    let g : (x : Artifact) × Contains known x × (finalized_view x ≡ last_finalized known) = greatest_at finalized_view known h in
    let f : (p : Proposal) × (signers : List ℕ) × (g.0 ≡ Proved (record { subject = Finalize p; signers = signers })) = final_artifact g.0 (omega (arith, g.2)) in
    (f.0, f.1, subst (λ (a : Artifact). Contains known a) f.2 g.1, ap finalized_view (sym f.2) ∙ g.2)

-- and each certificate among the known ones is known
pub certificates_from : (known : List Artifact) (c : Certificate) → Contains (certificates known) c → Contains known (Proved c)
certificates_from [] c k = absurd (not_in_empty c k)
certificates_from (Own s ∷ xs) c k = Contains-there (Own s) xs (Proved c) (certificates_from xs c k)
certificates_from (Judged v b ∷ xs) c k = Contains-there (Judged v b) xs (Proved c) (certificates_from xs c k)
certificates_from (Proved d ∷ xs) c k =
    elim (Contains-cons_cases d (certificates xs) c k) [
      | inl e ↦ (0, omega arith, ap (λ (x : Certificate). Proved x) e)
      | inr r ↦ Contains-there (Proved d) xs (Proved c) (certificates_from xs c r)
    ]
