-- What the tests find equal is equal, and what is equal they find so.
use Rattle.std.proofs.Common.{◌≡◌, ℕ, ◌==◌, ◌&&◌, Bool, true, false, List, refl, eqb-true}
use Rattle.std.specs.Str.{bytes_eq}
use Rattle.std.proofs.lemmas.Bool.{eq-eqb}
use Rattle.std.proofs.lemmas.Slice.Eq.{bytes_eq-Decides}
use Rattle.simplex_values.specs.declared.round.Round.{Round}
use Rattle.simplex_values.specs.declared.proposal.Proposal.{Proposal}
use Rattle.simplex_values.specs.Proposal.{is_same_round, is_same_proposal}

-- both tests pass where their conjunction does
pub both : (a b : Bool) → (a && b) ≡ true → (a ≡ true) × (b ≡ true)
both true b e = (refl, e)
both false b e = cc

and_true : (a b : Bool) → a ≡ true → b ≡ true → (a && b) ≡ true
and_true true b e f = f
and_true false b e f = cc

pub rounds_same : (r s : Round) → is_same_round r s ≡ true → r ≡ s
rounds_same r s e =
    let parts = both (r.epoch == s.epoch) (r.view == s.view) e in
    whole r.epoch s.epoch r.view s.view (eqb-true r.epoch s.epoch parts.0) (eqb-true r.view s.view parts.1)
  where
    whole : (a b v w : ℕ) → a ≡ b → v ≡ w → ◌≡◌ {A = Round} (record { epoch = a; view = v }) (record { epoch = b; view = w })
    whole a b v w i k = rw (i, k) refl

pub proposals_same : (p q : Proposal) → is_same_proposal p q ≡ true → p ≡ q
proposals_same p q e =
    let outer = both (is_same_round p.round q.round && p.parent == q.parent) (bytes_eq p.payload q.payload) e in
    let inner = both (is_same_round p.round q.round) (p.parent == q.parent) outer.0 in
    whole p.round q.round p.parent q.parent p.payload q.payload (rounds_same p.round q.round inner.0)
    (eqb-true p.parent q.parent inner.1) ((bytes_eq-Decides p.payload q.payload).0 outer.1)
  where
    whole : (a b : Round) (e f : ℕ) (x y : List ℕ) → a ≡ b → e ≡ f → x ≡ y
        → ◌≡◌ {A = Proposal} (record { round = a; parent = e; payload = x }) (record { round = b; parent = f; payload = y })
    whole a b e f x y i k l = rw (i, k, l) refl

pub proposal_itself : (p : Proposal) → is_same_proposal p p ≡ true
proposal_itself p =
    and_true (is_same_round p.round p.round && p.parent == p.parent) (bytes_eq p.payload p.payload)
    (and_true (is_same_round p.round p.round) (p.parent == p.parent)
    (and_true (p.round.epoch == p.round.epoch) (p.round.view == p.round.view) (eq-eqb p.round.epoch p.round.epoch refl) (eq-eqb p.round.view p.round.view refl))
    (eq-eqb p.parent p.parent refl)) ((bytes_eq-Decides p.payload p.payload).1 refl)
