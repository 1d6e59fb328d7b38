-- What a member keeps and knows: own votes, certificates, verdicts.
use Rattle.std.specs.Prelude.{ℕ, ◌==◌, ◌&&◌, Bool, true, false, not, max, nat_lt, if◌then◌else◌, List, [], ◌∷◌, ◌++◌}
use Rattle.std.specs.List.{list_any}
use Rattle.simplex_values.specs.declared.proposal.Subject.{Subject}
use Rattle.simplex_values.specs.declared.proposal.Subject.TheVariants.{Notarize, Nullify, Finalize}
use Rattle.law_agreement.specs.World.{Certificate, view_of}

-- an own vote, a certificate, or the application's verdict on the notarized proposal of a view
pub data Artifact : Type 0 where
  Own : Subject → Artifact
  Proved : Certificate → Artifact
  Judged : ℕ → Bool → Artifact

-- the view that a vote or a certificate is for
abbrev pub subject_view : Subject → ℕ
subject_view (Notarize p) = view_of p
subject_view (Nullify r) = r.view
subject_view (Finalize p) = view_of p

-- the view in whose section the record stands
abbrev pub artifact_view : Artifact → ℕ
artifact_view (Own s) = subject_view s
artifact_view (Proved c) = subject_view c.subject
artifact_view (Judged view verdict) = view

-- the view that a certificate on the subject makes final, or 0
abbrev pub finalized : Subject → ℕ
finalized (Notarize p) = 0
finalized (Nullify r) = 0
finalized (Finalize p) = view_of p

-- the view that the record makes final, or 0
abbrev pub finalized_view : Artifact → ℕ
finalized_view (Own s) = 0
finalized_view (Proved c) = finalized c.subject
finalized_view (Judged view verdict) = 0

-- the greatest number of a list of records, or 0
abbrev pub greatest : (Artifact → ℕ) → List Artifact → ℕ
greatest f [] = 0
greatest f (x ∷ xs) = max (f x) (greatest f xs)

-- the greatest view that is known to be final, or 0
abbrev pub last_finalized : List Artifact → ℕ
last_finalized known = greatest finalized_view known

-- the certificates among what is known
abbrev pub certificates : List Artifact → List Certificate
certificates [] = []
certificates (Own s ∷ rest) = certificates rest
certificates (Proved c ∷ rest) = c ∷ certificates rest
certificates (Judged view verdict ∷ rest) = certificates rest

-- whether the subject is to notarize a proposal of the view
abbrev pub notarizes : ℕ → Subject → Bool
notarizes view (Notarize p) = view_of p == view
notarizes view (Nullify r) = false
notarizes view (Finalize p) = false

-- whether the record is a notarization of the view
abbrev pub is_notarization : ℕ → Artifact → Bool
is_notarization view (Own s) = false
is_notarization view (Proved c) = notarizes view c.subject
is_notarization view (Judged v verdict) = false

-- whether a notarization of the view is known
abbrev pub has_notarization : ℕ → List Artifact → Bool
has_notarization view known = list_any (is_notarization view) known

-- whether the record is a verdict on the view
abbrev pub is_verdict : ℕ → Artifact → Bool
is_verdict view (Own s) = false
is_verdict view (Proved c) = false
is_verdict view (Judged v verdict) = v == view

-- whether a verdict on the view is known
abbrev pub has_verdict : ℕ → List Artifact → Bool
has_verdict view known = list_any (is_verdict view) known

-- a verdict is taken exactly where its view is above all that is final, its notarization is known and
-- no verdict on it is; all else is taken
abbrev pub is_taken : List Artifact → Artifact → Bool
is_taken known (Own s) = true
is_taken known (Proved c) = true
is_taken known (Judged view verdict) =
    nat_lt (last_finalized known) view && has_notarization view known && not (has_verdict view known)

-- what is known once these records are replayed, in order
abbrev pub replay : List Artifact → List Artifact → List Artifact
replay known [] = known
replay known (a ∷ rest) = replay (if is_taken known a then known ++ a ∷ [] else known) rest
