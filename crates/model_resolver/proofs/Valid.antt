-- What a valid answer is.
use Rattle.std.proofs.Common.{◌≡◌, ℕ, Bool, true, false, List, [], ◌∷◌, Some, None, Result, Ok, Err, if◌then◌else◌, refl, arith}
use Rattle.std.proofs.lemmas.Grind.{common_steps}
use Rattle.std.proofs.lemmas.List.Elements.{All-append, All-cons, All-nil}
use Rattle.std.specs.List.{All}
use Rattle.simplex_values.specs.Covers.{covers}
use Rattle.simplex_wire.specs.declared.error.DecodeError.{DecodeError}
use Rattle.simplex_wire.specs.declared.certificate.Certificate.{Certificate}
use Rattle.simplex_wire.specs.declared.certificate.Nullification.{Nullification}
use Rattle.simplex_wire.specs.declared.certificate.Certificate.TheVariants as certificates
use Rattle.simplex_wire.specs.Format.{whole}
use Rattle.simplex_wire.specs.Message as format
use Rattle.simplex_wire.specs.Certified.{is_certified}
use Rattle.simplex_wire.specs.Fields.{certificate_subject, certificate_signatures}
use Rattle.simplex_messages.specs.declared.voter.Message.TheVariants as voter
use Rattle.simplex_messages.specs.declared.handed.Handed.TheVariants as handed
use Rattle.model_resolver.specs.Resolver.{Made, Doing, is_valid, if_valid, validated, putting, leaving}
use Rattle.model_resolver.specs.Laws.{Verifies}
use Rattle.model_resolver.proofs.Keeping.{Keeps, HandsOn}

if-some : (test : Bool) (it other : Certificate) → (if test then Some it else None) ≡ Some other → (test ≡ true) × (it ≡ other)
if-some true it other same = (refl, grind (arith, common_steps, same))
if-some false it other same = grind (arith, common_steps, same)

read-valid : (made : Made) (view : ℕ) (read : Result Certificate DecodeError) (it : Certificate) → if_valid made view read ≡ Some it → is_valid made view it ≡ true
read-valid made view (Err fault) it same = grind (arith, common_steps, same)
read-valid made view (Ok certificate) it same = let both = if-some (is_valid made view certificate) certificate it same in rw both.1 at both.0

pub valid-answer : (made : Made) (view : ℕ) (bytes : List ℕ) (it : Certificate) → validated made view bytes ≡ Some it → is_valid made view it ≡ true
unfolding validated
valid-answer made view bytes it same = read-valid made view (whole format.certificate bytes) it same

pub answer-covers : (made : Made) (view : ℕ) (it : Nullification) → is_valid made view (certificates.Nullification it) ≡ true → covers made.term it.round.view view ≡ true
unfolding is_valid
answer-covers made view it valid = grind (arith, common_steps, valid)

pub answer-verifies : (made : Made) (view : ℕ) (it : Certificate) → is_valid made view it ≡ true
    → is_certified (made.verifies (certificate_subject it)) made.members (certificate_signatures it) ≡ true
unfolding is_valid
answer-verifies made view it valid = grind (arith, common_steps, valid)

-- what was handed on so far verifies
abbrev pub AllVerify : Made → Doing → Type 0
AllVerify made doing = All (Verifies made) doing.handed

pub verifying-kept : (made : Made) → Keeps (AllVerify made)
unfolding putting leaving
verifying-kept made = record {
  sent = λ to bytes doing p. p;
  blocked = λ member why doing p. p;
  put = λ message doing p. All-append (Verifies made) doing.handed (handed.Handler message ∷ []) p
      (All-cons (Verifies made) (handed.Handler message) [] (record {}) (All-nil (Verifies made)));
  left = λ id doing p. p;
  fetched = λ fetcher doing p. p;
  took = λ call doing p. p;
}

pub verifying-handed : (made : Made) → HandsOn made (AllVerify made)
verifying-handed made view bytes certificate same doing p =
    All-append (Verifies made) doing.handed (handed.Voter (voter.Verified certificate) ∷ []) p
    (All-cons (Verifies made) (handed.Voter (voter.Verified certificate)) [] (answer-verifies made view certificate (valid-answer made view bytes certificate same)) (All-nil (Verifies made)))
