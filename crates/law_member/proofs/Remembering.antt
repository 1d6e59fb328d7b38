-- What is remembered, and what the rules read of what is known.
use Rattle.std.proofs.Common.{◌≡◌, ℕ, ◌≤◌, Bool, true, false, option_to_list, List, [], ◌∷◌, ◌++◌, Contains, Option, Some, None, refl, sym, ap, ◌∙◌, subst, inl, inr, ◌⊎◌, arith}
use Rattle.std.specs.List.{list_any}
use Rattle.std.specs.Option.{is_some, option_or}
use Rattle.std.proofs.lemmas.List.Folds.{Any-from_list_any, list_any-from_Any}
use Rattle.std.proofs.lemmas.List.Elements.{Contains-append_left, Contains-append_cases, Contains-push}
use Rattle.simplex_wire.specs.declared.certificate.Certificate.TheVariants as certificates
use Rattle.model_rules.specs.Lists.{first_of, greatest_of}
use Rattle.model_rules.specs.Known.{Fact, Added, Judged, Voted}
use Rattle.model_rules.specs.Views as rules
use Rattle.law_agreement.proofs.ListFacts.{not_in_empty, Contains-here, Contains-there, Contains-cons_cases}
use Rattle.law_agreement.specs.Artifacts as member
use Rattle.law_agreement.specs.Artifacts.{Artifact}
use Rattle.law_agreement.proofs.KnownFacts.{greatest-append}
use Rattle.law_member.specs.Life.{noted, remembered}

-- ---- a fact is remembered where agreement asks for it

pub in_memory : (known : List Fact) (fact : Fact) (a : Artifact) → Contains known fact → noted fact ≡ Some a → Contains (remembered known) a
unfolding remembered
in_memory [] fact a c e = absurd (not_in_empty fact c)
in_memory (x ∷ known) fact a c e =
    elim (Contains-cons_cases x known fact c) [
      | inl same ↦ subst (λ o. Contains (remembered known ++ option_to_list o) a) (sym (ap noted same ∙ e)) (Contains-push (remembered known) a)
      | inr there ↦ Contains-append_left (remembered known) (option_to_list (noted x)) a (in_memory known fact a there e)
    ]

noted_only : (o : Option Artifact) (a : Artifact) → Contains (option_to_list o) a → o ≡ Some a
noted_only None a c = absurd (not_in_empty a c)
noted_only (Some b) a c = elim (Contains-cons_cases b [] a c) [ inl e ↦ ap Some e | inr r ↦ absurd (not_in_empty a r) ]

pub from_memory : (known : List Fact) (a : Artifact) → Contains (remembered known) a → (fact : Fact) × Contains known fact × (noted fact ≡ Some a)
unfolding remembered
from_memory [] a c = absurd (not_in_empty a c)
from_memory (x ∷ known) a c =
    elim (Contains-append_cases (remembered known) (option_to_list (noted x)) a c) [
      | inl before ↦ let f = from_memory known a before in (f.0, Contains-there x known f.0 f.1, f.2)
      | inr now ↦ (x, Contains-here x known, noted_only (noted x) a now)
    ]

-- ---- what is final is the same

finalized_noted : (fact : Fact) → member.greatest member.finalized_view (option_to_list (noted fact)) ≡ rules.finalized_view fact
finalized_noted (Added (certificates.Notarization c) now) = omega arith
finalized_noted (Added (certificates.Nullification c) now) = omega arith
finalized_noted (Added (certificates.Finalization c) now) = omega arith
finalized_noted (Judged view good now) = omega arith
finalized_noted (Voted v) = omega arith
finalized_noted _ = omega arith

greatest_is : (known : List Fact) → member.last_finalized (remembered known) ≡ greatest_of rules.finalized_view known
unfolding remembered greatest_of
greatest_is [] = refl
greatest_is (fact ∷ known) =
    omega (arith, greatest-append member.finalized_view (remembered known) (option_to_list (noted fact)), greatest_is known, finalized_noted fact)

pub final_is : (known : List Fact) → member.last_finalized (remembered known) ≡ rules.last_finalized known
unfolding rules.last_finalized
final_is known = greatest_is known

-- ---- the first answer, and none

either_is : {A : Type 0} (o p : Option A) (a : A) → option_or o p ≡ Some a → (o ≡ Some a) ⊎ (p ≡ Some a)
either_is (Some b) p a e = inl e
either_is None p a e = inr e

neither_is : {A : Type 0} (o p : Option A) → option_or o p ≡ None → (o ≡ None) × (p ≡ None)
neither_is (Some b) p e = cc
neither_is None p e = (refl, e)

pub first_some : {A : Type 0} (pick : Fact → Option A) (known : List Fact) (a : A) → first_of pick known ≡ Some a
    → (fact : Fact) × Contains known fact × (pick fact ≡ Some a)
unfolding first_of
first_some pick [] a e = cc
first_some pick (x ∷ known) a e =
    elim (either_is (first_of pick known) (pick x) a e) [
      | inl before ↦ let r = first_some pick known a before in (r.0, Contains-there x known r.0 r.1, r.2)
      | inr now ↦ (x, Contains-here x known, now)
    ]

pub first_none : {A : Type 0} (pick : Fact → Option A) (known : List Fact) (fact : Fact) → first_of pick known ≡ None → Contains known fact → pick fact ≡ None
unfolding first_of
first_none pick [] fact e c = absurd (not_in_empty fact c)
first_none pick (x ∷ known) fact e c =
    let parts = neither_is (first_of pick known) (pick x) e in
    elim (Contains-cons_cases x known fact c) [
      | inl same ↦ ap pick (sym same) ∙ parts.1
      | inr there ↦ first_none pick known fact parts.0 there
    ]

some_or : {A : Type 0} (o : Option A) → (o ≡ None → ⊥) → is_some o ≡ true
some_or (Some b) f = refl
some_or None f = absurd (f refl)

none_is_not : {A : Type 0} {o : Option A} {a : A} → o ≡ None → o ≡ Some a → ⊥
none_is_not e f = cc

pub first_is_some : {A : Type 0} (pick : Fact → Option A) (known : List Fact) (fact : Fact) (a : A) → Contains known fact → pick fact ≡ Some a
    → is_some (first_of pick known) ≡ true
first_is_some pick known fact a c e = some_or (first_of pick known) (λ f. none_is_not (first_none pick known fact f c) e)

pub none_passes : (test : Fact → Bool) (known : List Fact) (fact : Fact) → list_any test known ≡ false → Contains known fact → test fact ≡ false
none_passes test known fact e c = at (test fact) refl
  where
    at : (b : Bool) → test fact ≡ b → b ≡ false
    at false f = refl
    at true f = absurd (cc (e, list_any-from_Any test known (c.0, fact, c.1, c.2, f)))

pub one_passes : (test : Fact → Bool) (known : List Fact) → list_any test known ≡ true → (fact : Fact) × Contains known fact × (test fact ≡ true)
one_passes test known e = let a = Any-from_list_any test known e in (a.1, (a.0, a.2, a.3), a.4)

pub at_most_greatest : {E : Type 0} (number : E → ℕ) (past : List E) (x : E) → Contains past x → number x ≤ greatest_of number past
unfolding greatest_of
at_most_greatest number [] x c = absurd (not_in_empty x c)
at_most_greatest number (y ∷ past) x c =
    elim (Contains-cons_cases y past x c) [
      | inl e ↦ omega (arith, ap number e)
      | inr r ↦ omega (arith, at_most_greatest number past x r)
    ]
