-- Facts that no vote rests on.
use Rattle.std.proofs.Common.{◌≡◌, ℕ, Bool, true, false, List, [], ◌∷◌, ◌++◌, refl, sym, subst, append_assoc, arith, if◌then◌else◌}
use Rattle.simplex_values.specs.declared.timeout.TimeoutReason.{TimeoutReason}
use Rattle.simplex_values.specs.declared.timeout.TimeoutReason.TheVariants.{FailedCertification}
use Rattle.simplex_wire.specs.declared.certificate.CertificateKind.{CertificateKind}
use Rattle.model_rules.specs.Calls.{judged, takes_verdict}
use Rattle.model_rules.specs.Deadline.{expires, fails, triggered}
use Rattle.model_rules.specs.Known.{Made, Fact, Added, Taken, Answered, Approved, Judged, Voted, FloorAt, Broadcast, Expired, Failed}
use Rattle.simplex_known.specs.declared.known.Known.{Known}
use Rattle.simplex_known.specs.Knows.{Knows}
use Rattle.simplex_known.proofs.Facts.{learn_round}
use Rattle.simplex_known.proofs.Growing.{Grows, grows}

-- no vote rests on the fact
abbrev pub is_apart : Fact → Bool
is_apart (Added certificate now) = false
is_apart (Taken p) = false
is_apart (Answered p) = false
is_apart (Approved p) = false
is_apart (Judged view good now) = false
is_apart (Voted vote) = false
is_apart _ = true

none_true : {A : Type 0} → false ≡ true → A
none_true e = absurd cc

pub apart_grows : (kept : Known) (fact : Fact) → is_apart fact ≡ true → Grows kept kept fact
unfolding learn_round
apart_grows kept (Added certificate now) e = none_true e
apart_grows kept (Taken p) e = none_true e
apart_grows kept (Answered p) e = none_true e
apart_grows kept (Approved p) e = none_true e
apart_grows kept (Judged view good now) e = none_true e
apart_grows kept (Voted vote) e = none_true e
apart_grows kept _ e =
    record {
      rules = refl;
      length = refl;
      final = omega arith;
      current = omega arith;
      rounds = λ view. refl;
      given_up = λ view. refl;
      covers = λ covered stands. stands;
      answered = λ p. refl;
      approved = λ p. refl;
    }

-- such a fact changes nothing
pub apart_kept : (kept : Known) (made : Made) (known : List Fact) (fact : Fact) → is_apart fact ≡ true → Knows kept made known → Knows kept made (fact ∷ known)
apart_kept kept made known fact apart = grows kept kept fact (apart_grows kept fact apart) made known

-- ---- what a start makes known

-- nor does a vote rest on what fails a view
pub triggered_kept : (kept : Known) (made : Made) (before known : List Fact) (view : ℕ) (reason : TimeoutReason) (now : ℕ) → Knows kept made known
    → Knows kept made (triggered made before view reason now ++ known)
unfolding triggered
triggered_kept kept made before known view reason now k = at (expires made before view reason) (fails made before view reason)
  where
    at : (a b : Bool) → Knows kept made ((if a then Expired view reason now ∷ [] else if b then Failed view reason ∷ [] else []) ++ known)
    at true b = apart_kept kept made known (Expired view reason now) refl k
    at false true = apart_kept kept made known (Failed view reason) refl k
    at false false = k

-- a certificate that need not be sent
pub sent_kept : (kept : Known) (made : Made) (known : List Fact) (kind : CertificateKind) (view : ℕ) → Knows kept made known
    → Knows kept made (Broadcast kind view ∷ known)
sent_kept kept made known kind view = apart_kept kept made known (Broadcast kind view) refl

pub floor_kept : (kept : Known) (made : Made) (known : List Fact) (view : ℕ) (payload : List ℕ) → Knows kept made known
    → Knows kept made (FloorAt view payload ∷ known)
floor_kept kept made known view payload = apart_kept kept made known (FloorAt view payload) refl

-- a verdict that is taken, with the failure that a false one is; one that is not taken tells nothing
pub judged_kept : (new : Known) (made : Made) (known : List Fact) (view : ℕ) (good : Bool) (now : ℕ) → takes_verdict known view ≡ true
    → Knows new made (Judged view good now ∷ known) → Knows new made (judged made known view good now ++ known)
unfolding judged
judged_kept new made known view good now takes k =
    subst (λ b. Knows new made ((if b then failing ++ Judged view good now ∷ [] else []) ++ known)) (sym takes)
    (subst (Knows new made) (sym (append_assoc failing (Judged view good now ∷ []) known)) (at good))
  where
    failing : List Fact
    failing = if good then [] else triggered made known view FailedCertification now

    at : (b : Bool) → Knows new made ((if b then [] else triggered made known view FailedCertification now) ++ (Judged view good now ∷ known))
    at true = k
    at false = triggered_kept new made known (Judged view good now ∷ known) view FailedCertification now k

pub untaken_kept : (kept : Known) (made : Made) (known : List Fact) (view : ℕ) (good : Bool) (now : ℕ) → takes_verdict known view ≡ false
    → Knows kept made known → Knows kept made (judged made known view good now ++ known)
unfolding judged
untaken_kept kept made known view good now takes k =
    subst (λ b. Knows kept made ((if b then (if good then [] else triggered made known view FailedCertification now) ++ Judged view good now ∷ [] else []) ++ known))
    (sym takes) k
