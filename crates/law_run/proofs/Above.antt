-- Each finalize that a member sent is for a view above 0.
use Rattle.std.proofs.Common.{◌≡◌, ℕ, ◌<◌, List, [], ◌∷◌, ◌++◌, map, Contains, refl, sym, subst, inl, inr, arith}
use Rattle.simplex_values.specs.declared.proposal.Proposal.{Proposal}
use Rattle.simplex_values.specs.declared.proposal.Subject.{Subject}
use Rattle.simplex_values.specs.declared.proposal.Subject.TheVariants.{Notarize, Nullify, Finalize}
use Rattle.law_agreement.specs.World.{Sent, view_of}
use Rattle.law_agreement.proofs.ListFacts.{not_in_empty, Contains-cons_cases, Contains-here, Contains-there}
use Rattle.law_agreement.specs.Artifacts.{Artifact, certificates}
use Rattle.law_agreement.specs.Votes.{MayVote}
use Rattle.law_agreement.specs.Member.{Member, Call, Start, StartAt, Take, Judge, Vote, Repeat, Sync, Send, Prune, Crash, newborn, published, happens, run, May, IsLegal}
use Rattle.law_agreement.specs.World as agreement

abbrev IsAbove : Subject → Type 0
IsAbove (Finalize p) = 0 < view_of p
IsAbove _ = Unit {0}

abbrev AllAbove : List Sent → Type 0
AllAbove [] = Unit {0}
AllAbove (s ∷ rest) = IsAbove s.subject × AllAbove rest

above-append : (xs ys : List Sent) → AllAbove xs → AllAbove ys → AllAbove (xs ++ ys)
above-append [] ys h k = k
above-append (x ∷ xs) ys h k = (h.0, above-append xs ys h.1 k)

may_above : (length : ℕ) (known : List Artifact) (s : Subject) → MayVote length known s → IsAbove s
may_above length known (Notarize p) h = tt
may_above length known (Nullify r) h = tt
may_above length known (Finalize p) h = omega (arith, h.0)

abbrev Above : Member → Type 0
Above m = AllAbove m.sent × AllAbove m.outbox

above_published : (m : Member) (box : List Sent) → AllAbove m.sent → AllAbove box → m.outbox ≡ box → Above (published m box)
above_published m [] h k e = (h, subst AllAbove (sym e) tt)
above_published m (s ∷ rest) h k e = (above-append m.sent (s ∷ []) h (k.0, tt), k.1)

above_happens : (length : ℕ) (m : Member) (call : Call) → May length m call → Above m → Above (happens m call)
above_happens length m Start may a = (a.0, tt)
above_happens length m (StartAt p signers) may a = (a.0, tt)
above_happens length m (Take c) may a = a
above_happens length m (Judge view verdict) may a = a
above_happens length m (Vote s) may a = (a.0, above-append m.outbox (record { subject = s; known = certificates m.known } ∷ []) a.1 (may_above length m.known s may.1, tt))
above_happens length m (Repeat r) may a = (a.0, above-append m.outbox (record { subject = Nullify r; known = certificates m.known } ∷ []) a.1 (tt, tt))
above_happens length m (Sync view) may a = a
above_happens length m Send may a = above_published m m.outbox a.0 a.1 refl
above_happens length m (Prune min) may a = a
above_happens length m (Crash keep) may a = (a.0, tt)

above_run : (length : ℕ) (m : Member) (calls : List Call) → IsLegal length m calls → Above m → Above (run m calls)
above_run length m [] legal a = a
above_run length m (call ∷ rest) legal a = above_run length (happens m call) rest legal.1 (above_happens length m call legal.0 a)

at_subject : (sent : List Sent) (s : Subject) → AllAbove sent → Contains (map (λ (x : Sent). x.subject) sent) s → IsAbove s
at_subject [] s a k = absurd (not_in_empty s k)
at_subject (x ∷ rest) s a k =
    elim (Contains-cons_cases x.subject (map (λ (y : Sent). y.subject) rest) s k) [
      | inl e ↦ subst IsAbove e a.0
      | inr r ↦ at_subject rest s a.1 r
    ]

pub sent_above : (length : ℕ) (calls : List Call) (s : Subject) → IsLegal length newborn calls → Contains (map (λ (x : Sent). x.subject) (run newborn calls).sent) s
    → (p : Proposal) → s ≡ Finalize p → 0 < view_of p
sent_above length calls s legal k p e = subst IsAbove e (at_subject (run newborn calls).sent s (above_run length newborn calls legal (tt, tt)).0 k)

-- a subject that was sent, with what was known then
pub sent_of : (sent : List Sent) (s : Subject) → Contains (map (λ (x : Sent). x.subject) sent) s → (known : List agreement.Certificate) × Contains sent (record { subject = s; known = known })
sent_of [] s k = absurd (not_in_empty s k)
sent_of (x ∷ rest) s k =
    elim (Contains-cons_cases x.subject (map (λ (y : Sent). y.subject) rest) s k) [
      | inl e ↦ (x.known, subst (λ t. Contains (x ∷ rest) (record { subject = t; known = x.known })) e (Contains-here x rest))
      | inr r ↦ (let p = sent_of rest s r in (p.0, Contains-there x rest _ p.1))
    ]
