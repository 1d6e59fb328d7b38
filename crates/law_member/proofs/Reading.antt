-- What is read from a packet is on the subject that was spelled.
use Rattle.std.proofs.Common.{◌≡◌, ℕ, Bool, true, false, cond, eqb, List, ◌++◌, length, Result, Ok, Err, sym, ap, ◌∙◌}
use Rattle.simplex_values.specs.declared.proposal.Proposal.{Proposal}
use Rattle.simplex_values.specs.declared.proposal.Subject.TheVariants as subjects
use Rattle.simplex_values.specs.declared.round.Round.{Round}
use Rattle.simplex_wire.specs.declared.attestation.Attestation.{Attestation}
use Rattle.simplex_wire.specs.declared.error.DecodeError.{DecodeError}
use Rattle.simplex_wire.specs.declared.vote.Notarize.{Notarize}
use Rattle.simplex_wire.specs.declared.vote.Nullify.{Nullify}
use Rattle.simplex_wire.specs.declared.vote.Finalize.{Finalize}
use Rattle.simplex_wire.specs.declared.vote.Vote.{Vote}
use Rattle.simplex_wire.specs.declared.vote.Vote.TheVariants as votes
use Rattle.simplex_wire.specs.Fields.{vote_subject}
use Rattle.simplex_wire.specs.Format.{◌>>=◌, Left, Format, both, seen_as, whole, ended}
use Rattle.simplex_wire.specs.Message as format
use Rattle.simplex_wire.specs.Message.{notarize, nullify, finalize, vote, proposal, round, attestation}
use Rattle.simplex_wire.proofs.Bytes.{bind_ok, ok_is}
use Rattle.simplex_wire.proofs.Formats.{IsFormat}
use Rattle.simplex_wire.proofs.Messages.{proposal_is, round_is}
use Rattle.law_member.specs.Wire.{Fits}

-- what two parts read to begins with what the first was spelled from
front : {A B : Type 0} (f : Format A) (g : Format B) (P : A → Type 0) → IsFormat f P → (end : ℕ) (a : A) (rest : List ℕ) → P a → (x : (A × B) × Left)
    → (both f g).reading (record { end = end; bytes = f.spelling a ++ rest }) ≡ Ok x → x.0.0 ≡ a
front {A} {B} f g P is end a rest fits x e =
    let left : Left = record { end = end; bytes = f.spelling a ++ rest } in
    let first = bind_ok (f.reading left) (λ p. g.reading p.1 >>= λ q. Ok ((p.0, q.0), q.1)) x e in
    let second = bind_ok (g.reading first.0.1) (λ q. Ok ((first.0.0, q.0), q.1)) x first.2 in
    let made : (A × B) × Left = ((first.0.0, second.0.0), second.0.1) in
    let read : first.0 ≡ (a, record { end = end; bytes = rest }) = ok_is first.0 (a, record { end = end; bytes = rest }) (sym first.1 ∙ is.again end a rest fits) in
    ap (λ (y : (A × B) × Left). y.0.0) (sym (ok_is made x second.2)) ∙ ap (λ (y : A × Left). y.0) read

front_seen : {A B C : Type 0} (to : A × B → C) (from : C → A × B) (f : Format A) (g : Format B) (P : A → Type 0) → IsFormat f P → (end : ℕ) (a : A) (rest : List ℕ) → P a → (x : C × Left)
    → (seen_as to from (both f g)).reading (record { end = end; bytes = f.spelling a ++ rest }) ≡ Ok x → (b : B) × (x.0 ≡ to (a, b))
front_seen {A} {B} {C} to from f g P is end a rest fits x e =
    let left : Left = record { end = end; bytes = f.spelling a ++ rest } in
    let pair = bind_ok ((both f g).reading left) (λ p. Ok (to p.0, p.1)) x e in
    let first : pair.0.0.0 ≡ a = front f g P is end a rest fits pair.0 pair.1 in
    let made : C × Left = (to pair.0.0, pair.0.1) in
    (pair.0.0.1, ap (λ (y : C × Left). y.0) (sym (ok_is made x pair.2)) ∙ ap (λ (y : A). to (y, pair.0.0.1)) first)

-- a reading behind a tag, as a variant
tagged : {A V : Type 0} (read : Result (A × Left) DecodeError) (variant : A → V) (x : V × Left) → (read >>= λ v. Ok (variant v.0, v.1)) ≡ Ok x
    → (y : A × Left) × (read ≡ Ok y) × (x.0 ≡ variant y.0)
tagged {A} {V} read variant x e =
    let y = bind_ok read (λ v. Ok (variant v.0, v.1)) x e in
    let made : V × Left = (variant y.0.0, y.0.1) in
    (y.0, y.1, ap (λ (z : V × Left). z.0) (sym (ok_is made x y.2)))

read_on : (v : Vote) (end : ℕ) (x : Vote × Left) → Fits (vote_subject v) → vote.reading (record { end = end; bytes = vote.spelling v }) ≡ Ok x → vote_subject x.0 ≡ vote_subject v
unfolding vote notarize nullify finalize
read_on (votes.Notarize v) end x fits e =
    let behind : Left = record { end = end; bytes = notarize.spelling v } in
    let y = tagged (notarize.reading behind) votes.Notarize x e in
    let z = front_seen (λ (p : Proposal × Attestation). record { proposal = p.0; attestation = p.1 }) (λ (n : Notarize). (n.proposal, n.attestation)) proposal attestation _ proposal_is end v.proposal (attestation.spelling v.attestation) fits y.0 y.1 in
    ap vote_subject y.2 ∙ ap (λ (n : Notarize). subjects.Notarize n.proposal) z.1
read_on (votes.Nullify v) end x fits e =
    let behind : Left = record { end = end; bytes = nullify.spelling v } in
    let y = tagged (nullify.reading behind) votes.Nullify x e in
    let z = front_seen (λ (p : Round × Attestation). record { round = p.0; attestation = p.1 }) (λ (n : Nullify). (n.round, n.attestation)) round attestation _ round_is end v.round (attestation.spelling v.attestation) fits y.0 y.1 in
    ap vote_subject y.2 ∙ ap (λ (n : Nullify). subjects.Nullify n.round) z.1
read_on (votes.Finalize v) end x fits e =
    let behind : Left = record { end = end; bytes = finalize.spelling v } in
    let y = tagged (finalize.reading behind) votes.Finalize x e in
    let z = front_seen (λ (p : Proposal × Attestation). record { proposal = p.0; attestation = p.1 }) (λ (n : Finalize). (n.proposal, n.attestation)) proposal attestation _ proposal_is end v.proposal (attestation.spelling v.attestation) fits y.0 y.1 in
    ap vote_subject y.2 ∙ ap (λ (n : Finalize). subjects.Finalize n.proposal) z.1

guard_ended : {A : Type 0} (b : Bool) (d : DecodeError) (x y : A) → cond b (Ok x) (Err d) ≡ Ok y → x ≡ y
guard_ended true d x y e = ok_is x y e
guard_ended false d x y e = absurd cc

-- a packet that was spelled from a vote reads to a vote on the same subject, whatever its signature
pub whole_on : (v w : Vote) → Fits (vote_subject v) → whole format.vote (format.vote.spelling v) ≡ Ok w → vote_subject w ≡ vote_subject v
whole_on v w fits e =
    let left : Left = record { end = length (vote.spelling v); bytes = vote.spelling v } in
    let read = bind_ok (vote.reading left) ended w e in
    let same : read.0.0 ≡ w = guard_ended (eqb (length read.0.1.bytes) 0) _ read.0.0 w read.2 in
    ap vote_subject (sym same) ∙ read_on v (length (vote.spelling v)) read.0 fits read.1
