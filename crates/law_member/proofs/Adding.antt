-- Which certificates were added.
use Rattle.std.proofs.Common.{◌≡◌, ℕ, ◌==◌, ◌-◌, cond, Bool, true, false, List, [], ◌∷◌, ◌++◌, Option, Some, None, refl, sym, ap, subst, inl, inr, ◌⊎◌, arith, if◌then◌else◌}
use Rattle.std.specs.Option.{option_or, option_map}
use Rattle.std.proofs.lemmas.List.Elements.{Contains-append_right}
use Rattle.simplex_values.specs.Terms.{next_term_start}
use Rattle.simplex_wire.specs.declared.vote.Nullify.{Nullify}
use Rattle.simplex_wire.specs.declared.certificate.Certificate.{Certificate}
use Rattle.simplex_wire.specs.declared.certificate.Certificate.TheVariants as certificates
use Rattle.simplex_wire.specs.declared.certificate.Notarization.{Notarization}
use Rattle.simplex_wire.specs.declared.certificate.Nullification.{Nullification}
use Rattle.simplex_wire.specs.declared.certificate.Finalization.{Finalization}
use Rattle.simplex_wire.specs.declared.certificate.CertificateKind.TheVariants as kinds
use Rattle.model_rules.specs.Lists.{first_of}
use Rattle.model_rules.specs.Known.{Made, Fact, Added, view_of, notarization_in, nullification_in, finalization_in, notarization_of, nullification_of, finalization_of, was_broadcast}
use Rattle.model_rules.specs.Views.{current_of}
use Rattle.model_rules.specs.Ancestry.{has_true_verdict}
use Rattle.model_rules.specs.Best.{greater, opening_nullification, best_certificate}
use Rattle.model_rules.specs.Calls.{unsent_notarization, unsent_nullification, unsent_finalization}
use Rattle.model_steps.specs.Desk.{Doing}
use Rattle.law_member.specs.Learned.{is_addition, additions}
use Rattle.law_member.specs.Outgoing.{IsAdded}

pub some_is : {A : Type 0} (a b : A) → Some a ≡ Some b → a ≡ b
some_is a b e = cc

either : {A : Type 0} (o p : Option A) (a : A) → option_or o p ≡ Some a → (o ≡ Some a) ⊎ (p ≡ Some a)
either None p a e = inr e
either (Some x) p a e = inl e

-- ---- among more facts

pub added_later : (more known : List Fact) (c : Certificate) → IsAdded known c → IsAdded (more ++ known) c
added_later more known c h = (h.0, Contains-append_right more known (Added c h.0) h.1)

added_behind : (fact : Fact) (known : List Fact) (c : Certificate) → IsAdded (additions known) c → IsAdded (additions (fact ∷ known)) c
added_behind fact known c h = at (is_addition fact)
  where
    at : (b : Bool) → IsAdded (cond b (fact ∷ additions known) (additions known)) c
    at true = added_later (fact ∷ []) (additions known) c h
    at false = h

added_first : (c : Certificate) (now : ℕ) (known : List Fact) → IsAdded (Added c now ∷ known) c
added_first c now known = (now, (0, omega arith, refl))

-- ---- what is looked up was added

found_added : {A : Type 0} (pick : Fact → Option A) (kind : A → Certificate) → ((fact : Fact) (a : A) → pick fact ≡ Some a → (now : ℕ) × (fact ≡ Added (kind a) now))
    → (known : List Fact) (a : A) → first_of pick known ≡ Some a → IsAdded (additions known) (kind a)
unfolding first_of
found_added pick kind each [] a e = cc
found_added pick kind each (fact ∷ known) a e = at (found_added pick kind each known a) (either (first_of pick known) (pick fact) a e)
  where
    at : (first_of pick known ≡ Some a → IsAdded (additions known) (kind a)) → (first_of pick known ≡ Some a) ⊎ (pick fact ≡ Some a) → IsAdded (additions (fact ∷ known)) (kind a)
    at found (inl h) = added_behind fact known (kind a) (found h)
    at found (inr h) =
        let m = each fact a h in
        subst (λ f. IsAdded (additions (f ∷ known)) (kind a)) (sym m.1) (added_first (kind a) m.0 (additions known))

notarization_added_in : (view : ℕ) (fact : Fact) (n : Notarization) → notarization_in view fact ≡ Some n → (now : ℕ) × (fact ≡ Added (certificates.Notarization n) now)
notarization_added_in view (Added (certificates.Notarization m) now) n e = at (view_of m.proposal == view) e
  where
    at : (b : Bool) → (if b then Some m else None) ≡ Some n → (t : ℕ) × (Added (certificates.Notarization m) now ≡ Added (certificates.Notarization n) t)
    at true h = (now, ap (λ x. Added (certificates.Notarization x) now) (some_is m n h))
    at false h = cc
notarization_added_in view _ n e = cc

nullification_added_in : (view : ℕ) (fact : Fact) (n : Nullification) → nullification_in view fact ≡ Some n → (now : ℕ) × (fact ≡ Added (certificates.Nullification n) now)
nullification_added_in view (Added (certificates.Nullification m) now) n e = at (m.round.view == view) e
  where
    at : (b : Bool) → (if b then Some m else None) ≡ Some n → (t : ℕ) × (Added (certificates.Nullification m) now ≡ Added (certificates.Nullification n) t)
    at true h = (now, ap (λ x. Added (certificates.Nullification x) now) (some_is m n h))
    at false h = cc
nullification_added_in view _ n e = cc

finalization_added_in : (view : ℕ) (fact : Fact) (n : Finalization) → finalization_in view fact ≡ Some n → (now : ℕ) × (fact ≡ Added (certificates.Finalization n) now)
finalization_added_in view (Added (certificates.Finalization m) now) n e = at (view_of m.proposal == view) e
  where
    at : (b : Bool) → (if b then Some m else None) ≡ Some n → (t : ℕ) × (Added (certificates.Finalization m) now ≡ Added (certificates.Finalization n) t)
    at true h = (now, ap (λ x. Added (certificates.Finalization x) now) (some_is m n h))
    at false h = cc
finalization_added_in view _ n e = cc

pub notarization_added : (known : List Fact) (view : ℕ) (n : Notarization) → notarization_of known view ≡ Some n → IsAdded (additions known) (certificates.Notarization n)
unfolding notarization_of
notarization_added known view n e = found_added (notarization_in view) certificates.Notarization (notarization_added_in view) known n e

nullification_added : (known : List Fact) (view : ℕ) (n : Nullification) → nullification_of known view ≡ Some n → IsAdded (additions known) (certificates.Nullification n)
unfolding nullification_of
nullification_added known view n e = found_added (nullification_in view) certificates.Nullification (nullification_added_in view) known n e

finalization_added : (known : List Fact) (view : ℕ) (f : Finalization) → finalization_of known view ≡ Some f → IsAdded (additions known) (certificates.Finalization f)
unfolding finalization_of
finalization_added known view f e = found_added (finalization_in view) certificates.Finalization (finalization_added_in view) known f e

unless : {A : Type 0} (b : Bool) (o : Option A) (a : A) → (if b then None else o) ≡ Some a → o ≡ Some a
unless true o a e = cc
unless false o a e = e

pub unsent_notarization_added : (known : List Fact) (view : ℕ) (n : Notarization) → unsent_notarization known view ≡ Some n → IsAdded (additions known) (certificates.Notarization n)
unfolding unsent_notarization
unsent_notarization_added known view n e = notarization_added known view n (unless (was_broadcast known kinds.Notarization view) (notarization_of known view) n e)

pub unsent_nullification_added : (known : List Fact) (view : ℕ) (n : Nullification) → unsent_nullification known view ≡ Some n → IsAdded (additions known) (certificates.Nullification n)
unfolding unsent_nullification
unsent_nullification_added known view n e = nullification_added known view n (unless (was_broadcast known kinds.Nullification view) (nullification_of known view) n e)

pub unsent_finalization_added : (known : List Fact) (view : ℕ) (f : Finalization) → unsent_finalization known view ≡ Some f → IsAdded (additions known) (certificates.Finalization f)
unfolding unsent_finalization
unsent_finalization_added known view f e = finalization_added known view f (unless (was_broadcast known kinds.Finalization view) (finalization_of known view) f e)

-- ---- the best certificate

abbrev pub IfAdded : List Fact → Option Certificate → Type 0
IfAdded known None = Unit {0}
IfAdded known (Some c) = IsAdded known c

if_behind : (fact : Fact) (known : List Fact) (o : Option Certificate) → IfAdded (additions known) o → IfAdded (additions (fact ∷ known)) o
if_behind fact known None h = tt
if_behind fact known (Some c) h = added_behind fact known c h

if_either : (known : List Fact) (o p : Option Certificate) → IfAdded known o → IfAdded known p → IfAdded known (option_or o p)
if_either known None p h k = k
if_either known (Some c) p h k = h

if_mapped : {A : Type 0} (known : List Fact) (kind : A → Certificate) (o : Option A) → ((a : A) → o ≡ Some a → IsAdded known (kind a)) → IfAdded known (option_map kind o)
if_mapped known kind None each = tt
if_mapped known kind (Some a) each = each a refl

opening_added : (length : ℕ) (known : List Fact) (view : ℕ) → IfAdded (additions known) (option_map certificates.Nullification (opening_nullification length known view))
unfolding opening_nullification
opening_added length [] view = tt
opening_added length (Added (certificates.Nullification n) now ∷ known) view = at (opening_added length known view) (next_term_start length n.round.view == view)
  where
    one : (other : Option Nullification) (b : Bool) → IfAdded (additions known) (option_map certificates.Nullification other)
        → IfAdded (Added (certificates.Nullification n) now ∷ additions known) (option_map certificates.Nullification (if b then Some n else other))
    one other true h = added_first (certificates.Nullification n) now (additions known)
    one other false h = if_behind (Added (certificates.Nullification n) now) known (option_map certificates.Nullification other) h

    at : IfAdded (additions known) (option_map certificates.Nullification (opening_nullification length known view)) → (b : Bool)
        → IfAdded (Added (certificates.Nullification n) now ∷ additions known) (option_map certificates.Nullification (
        if b then greater n (opening_nullification length known view) else opening_nullification length known view))
    at found true = one (opening_nullification length known view) _ found
    at found false = one (opening_nullification length known view) false found
opening_added length (Added (certificates.Notarization n) now ∷ known) view =
    if_behind (Added (certificates.Notarization n) now) known (option_map certificates.Nullification (opening_nullification length known view)) (opening_added length known view)
opening_added length (Added (certificates.Finalization f) now ∷ known) view =
    if_behind (Added (certificates.Finalization f) now) known (option_map certificates.Nullification (opening_nullification length known view)) (opening_added length known view)
opening_added length (_ ∷ known) view = opening_added length known view

pub best_added : (made : Made) (known : List Fact) → IfAdded (additions known) (best_certificate made known)
unfolding best_certificate
best_added made known =
    let before = current_of made known - 1 in
    if_either (additions known) (option_map certificates.Finalization (finalization_of known before)) _
    (if_mapped (additions known) certificates.Finalization (finalization_of known before) (finalization_added known before))
    (if_either (additions known) (if has_true_verdict known before then option_map certificates.Notarization (notarization_of known before) else None)
    (option_map certificates.Nullification (opening_nullification made.term_length known (current_of made known)))
    (at before (has_true_verdict known before)) (opening_added made.term_length known (current_of made known)))
  where
    at : (before : ℕ) (b : Bool) → IfAdded (additions known) (if b then option_map certificates.Notarization (notarization_of known before) else None)
    at before true = if_mapped (additions known) certificates.Notarization (notarization_of known before) (notarization_added known before)
    at before false = tt

-- ---- what has still to be published

-- what goes along with a nullify was added, and so was the notarization of a verdict
abbrev pub IsAlong : List Fact → Option (Nullify × Option Certificate) → Type 0
IsAlong known None = Unit {0}
IsAlong known (Some n) = IfAdded known n.1

abbrev pub IsJudged : List Fact → Option (Notarization × Bool) → Type 0
IsJudged known None = Unit {0}
IsJudged known (Some v) = IsAdded known (certificates.Notarization v.0)

abbrev pub Unpublished : List Fact → Doing → Type 0
Unpublished known d = IsAlong known d.nullify × IsJudged known d.verdict
