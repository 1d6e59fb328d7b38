-- Each vote that the rules give is signed by the member's scheme.
use Rattle.std.proofs.Common.{◌≡◌, ℕ, Bool, true, false, List, Option, Some, None, refl, subst, if◌then◌else◌}
use Rattle.std.specs.Option.{option_map, option_and_then}
use Rattle.simplex_values.specs.declared.proposal.Proposal.{Proposal}
use Rattle.simplex_values.specs.declared.proposal.Subject.TheVariants as subjects
use Rattle.simplex_values.specs.declared.round.Round.{Round}
use Rattle.simplex_wire.specs.declared.attestation.Attestation.{Attestation}
use Rattle.simplex_wire.specs.declared.vote.Notarize.{Notarize}
use Rattle.simplex_wire.specs.declared.vote.Nullify.{Nullify}
use Rattle.simplex_wire.specs.declared.vote.Finalize.{Finalize}
use Rattle.simplex_wire.specs.declared.vote.Vote.TheVariants as votes
use Rattle.model_rules.specs.Known.{Made, Fact}
use Rattle.model_rules.specs.Slot.{slot_of}
use Rattle.model_rules.specs.Votes.{notarizes, finalizes, signed_notarize, signed_nullify, signed_finalize, notarize_at, finalize_at, nullify_at}
use Rattle.law_member.specs.Storing.{IsSigned}

some_is : {A : Type 0} (a b : A) → Some a ≡ Some b → a ≡ b
some_is a b e = cc

gives_some : {A B : Type 0} (P : B → Type 0) (f : A → Option B) (o : Option A) (b : B) → ((a : A) → f a ≡ Some b → P b) → option_and_then f o ≡ Some b → P b
gives_some P f None b each e = cc
gives_some P f (Some a) b each e = each a e

mapped : {A B : Type 0} (f : A → B) (o : Option A) (b : B) → option_map f o ≡ Some b → (a : A) × (o ≡ Some a) × (f a ≡ b)
mapped f None b e = cc
mapped f (Some a) b e = (a, refl, some_is (f a) b e)

-- ---- the three kinds

signed_notarize_is : (made : Made) (p : Proposal) (v : Notarize) → signed_notarize made p ≡ Some v → IsSigned made (votes.Notarize v)
unfolding signed_notarize
signed_notarize_is made p v e =
    let m = mapped (λ (a : Attestation). record { proposal = p; attestation = a }) (made.signs (subjects.Notarize p)) v e in
    subst (λ (n : Notarize). IsSigned made (votes.Notarize n)) m.2 m.1

signed_nullify_is : (made : Made) (r : Round) (v : Nullify) → signed_nullify made r ≡ Some v → IsSigned made (votes.Nullify v)
unfolding signed_nullify
signed_nullify_is made r v e =
    let m = mapped (λ (a : Attestation). record { round = r; attestation = a }) (made.signs (subjects.Nullify r)) v e in
    subst (λ (n : Nullify). IsSigned made (votes.Nullify n)) m.2 m.1

signed_finalize_is : (made : Made) (p : Proposal) (v : Finalize) → signed_finalize made p ≡ Some v → IsSigned made (votes.Finalize v)
unfolding signed_finalize
signed_finalize_is made p v e =
    let m = mapped (λ (a : Attestation). record { proposal = p; attestation = a }) (made.signs (subjects.Finalize p)) v e in
    subst (λ (n : Finalize). IsSigned made (votes.Finalize n)) m.2 m.1

pub notarize_signed : (made : Made) (known : List Fact) (view : ℕ) (v : Notarize) → notarize_at made known view ≡ Some v → IsSigned made (votes.Notarize v)
unfolding notarize_at
notarize_signed made known view v e =
    gives_some (λ (n : Notarize). IsSigned made (votes.Notarize n)) (λ p. if notarizes made known p then signed_notarize made p else None) (slot_of known view) v
    (λ p h. at (notarizes made known p) p h) e
  where
    at : (b : Bool) (p : Proposal) → (if b then signed_notarize made p else None) ≡ Some v → IsSigned made (votes.Notarize v)
    at true p h = signed_notarize_is made p v h
    at false p h = cc

pub finalize_signed : (made : Made) (known : List Fact) (view : ℕ) (v : Finalize) → finalize_at made known view ≡ Some v → IsSigned made (votes.Finalize v)
unfolding finalize_at
finalize_signed made known view v e = at (finalizes made known view) e
  where
    at : (b : Bool) → (if b then option_and_then (signed_finalize made) (slot_of known view) else None) ≡ Some v → IsSigned made (votes.Finalize v)
    at true h = gives_some (λ (n : Finalize). IsSigned made (votes.Finalize n)) (signed_finalize made) (slot_of known view) v (λ p k. signed_finalize_is made p v k) h
    at false h = cc

pub nullify_signed : (made : Made) (view : ℕ) (v : Nullify) → nullify_at made view ≡ Some v → IsSigned made (votes.Nullify v)
unfolding nullify_at
nullify_signed made view v e = signed_nullify_is made (record { epoch = made.epoch; view = view }) v e
