-- What the voter of a member signs, whose scheme may be wrapped.
use Rattle.std.proofs.Common.{◌≡◌, ℕ, zero, suc, ◌+◌, ◌/◌, ◌%◌, ◌^◌, ◌<◌, not, Bool, true, false, List, [], ◌∷◌, map, find, slice_index, slice_set, bit_xor, Option, Some, None, refl, sym, ap, ◌∙◌, subst, arith, if◌then◌else◌}
use Rattle.std.proofs.Math.Pow.{pow-lt}
use Rattle.std.proofs.lemmas.List.{length-set}
use Rattle.std.proofs.lemmas.Nat.{mod_below, xor_of_8}
use Rattle.std.specs.List.{range_with_len}
use Rattle.std.specs.Option.{option_and_then}
use Rattle.simplex_wire.specs.declared.attestation.Attestation.{Attestation}
use Rattle.simplex_wire.specs.declared.certificate.Finalization.{Finalization}
use Rattle.simplex_wire.specs.declared.vote.Vote.{Vote}
use Rattle.simplex_wire.specs.Fields.{vote_subject, vote_attestation}
use Rattle.simplex_wire.specs.Fits.{IsBytes, IsRaw, FitsAttestation}
use Rattle.simplex_types.specs.Keyed.{signature_of, keyed_attests, keyed_verifies}
use Rattle.simplex_round.specs.Votes.{vote_signer}
use Rattle.model_rules.specs.Known.{Made}
use Rattle.simplex_journal.specs.Journal.{Section}
use Rattle.simplex_transcript.specs.declared.node.Node.{Node}
use Rattle.simplex_transcript.specs.declared.setup.Setup.{Setup}
use Rattle.model_run.specs.Setting.{Setting}
use Rattle.model_run.specs.Members.{members_of, rules_of, engine_of, kind_of}
use Rattle.law_run.proofs.Events.{engine_at}
use Rattle.law_run.proofs.Telling.{some_is}
use Rattle.law_run.proofs.Good.{IsSized, signature_raw}
use Rattle.law_member.specs.Storing.{IsSigned}
use Rattle.simplex_values.specs.declared.proposal.Subject.{Subject}
use Rattle.simplex_transcript.specs.declared.setup.MemberKind.{MemberKind}
use Rattle.simplex_transcript.specs.declared.setup.MemberKind.TheVariants as kinds
use Rattle.model_faults.specs.Wrapped as faults
use Rattle.model_run.specs.Wrapped.{wrapped_attests}

-- what the voter signs is the member's, and its signatures keep to their types
abbrev pub SignsOwn : ℕ → Made → Type 0
SignsOwn member rules = (v : Vote) → IsSigned rules v → (vote_signer v ≡ member) × FitsAttestation (vote_attestation v)

-- an attestation of the member that keeps to its types
abbrev pub IsMembers : ℕ → Attestation → Type 0
IsMembers member a = (a.signer ≡ member) × FitsAttestation a

-- ---- spoiled signatures

set_bytes : (bytes : List ℕ) (k b : ℕ) → b < 256 → IsBytes bytes → IsBytes (slice_set bytes k b)
set_bytes [] k b lt h i = h i
set_bytes (x ∷ bytes) zero b lt h zero = lt
set_bytes (x ∷ bytes) zero b lt h (suc i) = h (suc i)
set_bytes (x ∷ bytes) (suc k) b lt h zero = h zero
set_bytes (x ∷ bytes) (suc k) b lt h (suc i) = set_bytes bytes k b lt (λ j. h (suc j)) i

one_bit : (bit : ℕ) → 2 ^ (bit % 8) < 2 ^ 8
one_bit bit = pow-lt (mod_below bit 8 (omega arith))

turned_raw : (bit : ℕ) (bytes : List ℕ) → IsRaw 32 bytes → IsRaw 32 (faults.turned bit bytes)
unfolding faults.turned
turned_raw bit bytes r =
    let b = bit_xor (slice_index bytes (bit / 8)) (2 ^ (bit % 8)) in
    record {
      len = length-set bytes (bit / 8) b ∙ r.len;
      each = set_bytes bytes (bit / 8) b (xor_of_8 (slice_index bytes (bit / 8)) (2 ^ (bit % 8)) (r.each (bit / 8)) (one_bit bit)) r.each;
    }

found_one : (P : Attestation → Type 0) (test : Attestation → Bool) (f : ℕ → Attestation) → ((k : ℕ) → P (f k)) → (xs : List ℕ) (a : Attestation) → find test (map f xs) ≡ Some a → P a
found_one P test f each [] a e = cc
found_one P test f each (x ∷ xs) a e = at (test (f x)) e (found_one P test f each xs a)
  where
    at : (b : Bool) → (if b then Some (f x) else find test (map f xs)) ≡ Some a → (find test (map f xs) ≡ Some a → P a) → P a
    at true h more = subst P (some_is (f x) a h) (each x)
    at false h more = more h

corrupted_own : (verifies : Attestation → Bool) (member : ℕ) (b a : Attestation) → IsMembers member b → faults.corrupted verifies b ≡ Some a → IsMembers member a
unfolding faults.corrupted faults.all_turned
corrupted_own verifies member b a own e =
    found_one (IsMembers member) (λ changed. not (verifies changed)) (λ place. faults.with_turned b ((faults.first_bit b + place) % 256))
    (λ k. (own.0, (own.1.0, turned_raw ((faults.first_bit b + k) % 256) b.signature own.1.1))) (range_with_len 0 256) a e

-- ---- the scheme of a member

-- a scheme that spoils signatures signs as its member all the same
wrapped_own : (kind : MemberKind) (attests : Subject → Option Attestation) (verifies : Subject → Attestation → Bool) (subject : Subject) (member : ℕ) (a : Attestation)
    → ((b : Attestation) → attests subject ≡ Some b → IsMembers member b) → wrapped_attests kind attests verifies subject ≡ Some a → IsMembers member a
unfolding faults.wrapped_attests
wrapped_own kinds.Corrupt attests verifies subject member a own e = at (attests subject) refl e
  where
    at : (o : Option Attestation) → attests subject ≡ o → option_and_then (faults.corrupted (verifies subject)) o ≡ Some a → IsMembers member a
    at None h k = cc
    at (Some b) h k = corrupted_own (verifies subject) member b a (own b h) k
wrapped_own kinds.Honest attests verifies subject member a own e = own a e
wrapped_own kinds.Silent attests verifies subject member a own e = own a e
wrapped_own kinds.Conflicter attests verifies subject member a own e = own a e
wrapped_own kinds.Equivocator attests verifies subject member a own e = own a e
wrapped_own kinds.Impersonator attests verifies subject member a own e = own a e
wrapped_own kinds.Nuller attests verifies subject member a own e = own a e
wrapped_own kinds.NullifyOnly attests verifies subject member a own e = own a e
wrapped_own (kinds.Outdated delta) attests verifies subject member a own e = own a e
wrapped_own kinds.Reconfigurer attests verifies subject member a own e = own a e
wrapped_own kinds.Unrecovering attests verifies subject member a own e = own a e
wrapped_own kinds.Twin attests verifies subject member a own e = own a e

pub plain_attests : (attests : Subject → Option Attestation) (verifies : Subject → Attestation → Bool) (subject : Subject) → wrapped_attests kinds.Honest attests verifies subject ≡ attests subject
unfolding faults.wrapped_attests
plain_attests attests verifies subject = refl

pub keyed_own : (base member n : ℕ) (subject : Subject) (a : Attestation) → member < n → n < 2 ^ 32 → keyed_attests base (Some member) subject ≡ Some a → IsMembers member a
unfolding keyed_attests
keyed_own base member n subject a below few e =
    let one = some_is (record { signer = member; signature = signature_of base member subject }) a e in
    (sym (ap (λ (x : Attestation). x.signer) one), subst FitsAttestation one (omega (arith, below, few), signature_raw base member subject))

attests_own : (setup : Setup) (member : ℕ) (rules : Made) → member < members_of setup → IsSized setup
    → rules.signs ≡ wrapped_attests (kind_of setup member) (keyed_attests setup.key_base (Some member)) (keyed_verifies setup.key_base (members_of setup)) → SignsOwn member rules
attests_own setup member rules below sized is v e =
    wrapped_own (kind_of setup member) keyed (keyed_verifies setup.key_base (members_of setup)) (vote_subject v) member (vote_attestation v)
    (λ a h. keyed_own setup.key_base member (members_of setup) (vote_subject v) a below sized.few h) (sym (ap (λ f. f (vote_subject v)) is) ∙ e)
  where
    keyed : Subject → Option Attestation
    keyed = keyed_attests setup.key_base (Some member)

pub rules_own : (setting : Setting) (member start : ℕ) → member < members_of setting.setup → IsSized setting.setup → SignsOwn member (rules_of setting member start)
unfolding rules_of
rules_own setting member start below sized = attests_own setting.setup member (rules_of setting member start) below sized refl

pub engine_own : (setting : Setting) (at : Node) (floor : Option Finalization) (js : List Section) → at.member < members_of setting.setup → IsSized setting.setup → (start : ℕ) → SignsOwn at.member ((engine_at setting at floor js).voter start).rules
unfolding engine_of
engine_own setting at floor js below sized start = rules_own setting at.member start below sized
