-- A walk over rising views gives what the known notarizations give.
use Rattle.std.proofs.Common.{◌≡◌, ℕ, zero, suc, ◌+◌, ◌<◌, ◌≤◌, ◌==◌, ◌&&◌, nat_le, Bool, true, false, List, [], ◌∷◌, length, map, filter, Option, Some, None, refl, sym, ap, ◌∙◌, inl, inr, arith, if◌then◌else◌}
use Rattle.std.proofs.lemmas.Grind.{common_steps}
use Rattle.std.proofs.lemmas.Bool.{cases_order}
use Rattle.std.specs.List.{list_any, filter_map, cons_option}
use Rattle.std.specs.Option.{option_or, option_and_then, is_some}
use Rattle.simplex_wire.specs.declared.certificate.Notarization.{Notarization}
use Rattle.simplex_wire.specs.declared.certificate.Certificate.TheVariants as certificates
use Rattle.model_rules.specs.Lists.{first_of}
use Rattle.model_rules.specs.Known.{Fact, Added, view_of, notarization_of}
use Rattle.model_rules.specs.Requests.{put_notarization, notarizations_of}
use Rattle.simplex_state.proofs.Facts.{option_or-none}

-- the views rise, from this one on
abbrev pub rises : ℕ → List ℕ → Bool
rises least [] = true
rises least (v ∷ vs) = nat_le least v && rises (v + 1) vs

-- the notarizations' views rise, from this one on
abbrev pub rise : ℕ → List Notarization → Bool
rise least [] = true
rise least (n ∷ ns) = nat_le least (view_of n.proposal) && rise (view_of n.proposal + 1) ns

-- the notarization of a view
abbrev pub notarization_at : List Notarization → ℕ → Option Notarization
notarization_at [] view = None
notarization_at (n ∷ ns) view = if view_of n.proposal == view then Some n else notarization_at ns view

-- whether the view is in the list
abbrev pub is_listed : ℕ → List ℕ → Bool
is_listed view vs = list_any (λ v. v == view) vs

-- ---- below the first view there is nothing

unlisted : (vs : List ℕ) (view least : ℕ) → rises least vs ≡ true → view < least → is_listed view vs ≡ false
unlisted [] view least r low = refl
unlisted (v ∷ vs) view least r low = grind (arith, common_steps, r, low, unlisted vs view (v + 1))

absent : (ns : List Notarization) (view least : ℕ) → rise least ns ≡ true → view < least → notarization_at ns view ≡ None
absent [] view least r low = refl
absent (n ∷ ns) view least r low = grind (arith, common_steps, r, low, absent ns view (view_of n.proposal + 1))

-- ---- the known notarizations rise, one a view, the first added

put_at : (n : Notarization) (ns : List Notarization) (view least : ℕ) → rise least ns ≡ true
    → notarization_at (put_notarization n ns) view ≡ option_or (notarization_at ns view) (if view_of n.proposal == view then Some n else None)
unfolding put_notarization
put_at n [] view least r = refl
put_at n (m ∷ ns) view least r =
    grind (arith, common_steps, r, put_at n ns view (view_of m.proposal + 1), absent ns view (view_of m.proposal + 1))

put_rises : (n : Notarization) (ns : List Notarization) (least : ℕ) → rise least ns ≡ true → least ≤ view_of n.proposal → rise least (put_notarization n ns) ≡ true
unfolding put_notarization
put_rises n [] least r le = grind (arith, common_steps, le)
put_rises n (m ∷ ns) least r le = grind (arith, common_steps, r, le, put_rises n ns (view_of m.proposal + 1))

pub known_rise : (known : List Fact) → rise 0 (notarizations_of known) ≡ true
unfolding notarizations_of
known_rise [] = refl
known_rise (Added (certificates.Notarization n) now ∷ known) = put_rises n (notarizations_of known) 0 (known_rise known) (omega arith)
known_rise (Added (certificates.Nullification n) now ∷ known) = known_rise known
known_rise (Added (certificates.Finalization n) now ∷ known) = known_rise known
known_rise (_ ∷ known) = known_rise known

pub known_at : (known : List Fact) (view : ℕ) → notarization_of known view ≡ notarization_at (notarizations_of known) view
unfolding notarizations_of notarization_of first_of
known_at [] view = refl
known_at (Added (certificates.Notarization n) now ∷ known) view =
    grind (arith, common_steps, put_at n (notarizations_of known) view 0 (known_rise known), known_at known view)
known_at (Added (certificates.Nullification n) now ∷ known) view = option_or-none _ ∙ known_at known view
known_at (Added (certificates.Finalization n) now ∷ known) view = option_or-none _ ∙ known_at known view
known_at (_ ∷ known) view = option_or-none _ ∙ known_at known view

-- ---- the walk

none_of : {A : Type 0} (o : Option A) → (is_some o ≡ true → false ≡ true) → o ≡ None
none_of None never = refl
none_of (Some x) never = absurd (let e = never refl in cc)

at_first : (n : Notarization) (ns : List Notarization) → notarization_at (n ∷ ns) (view_of n.proposal) ≡ Some n
at_first n ns = grind (arith, common_steps)

at_later : (n : Notarization) (ns : List Notarization) (view : ℕ) → view_of n.proposal < view → notarization_at (n ∷ ns) view ≡ notarization_at ns view
at_later n ns view later = grind (arith, common_steps, later)

listed_later : (v : ℕ) (vs : List ℕ) (view : ℕ) → v < view → is_listed view (v ∷ vs) ≡ true → is_listed view vs ≡ true
listed_later v vs view later e = grind (arith, common_steps, later, e)

-- fuel: more than both lists are long
pub gathers : {A : Type 0} (give : Notarization → Option A) (source : ℕ → Option Notarization) (fuel least : ℕ) (vs : List ℕ) (ns : List Notarization)
    → length vs + length ns ≤ fuel
    → rises least vs ≡ true
    → rise least ns ≡ true
    → ((v : ℕ) → least ≤ v → source v ≡ notarization_at ns v)
    → ((v : ℕ) → least ≤ v → is_some (option_and_then give (source v)) ≡ true → is_listed v vs ≡ true)
    → filter_map (λ v. option_and_then give (source v)) vs ≡ filter_map give ns
gathers give source fuel least [] [] fits up rising same listed = refl
gathers give source zero least [] (m ∷ ns) fits up rising same listed = absurd (omega (arith, fits))
gathers give source zero least (w ∷ vs) ns fits up rising same listed = absurd (omega (arith, fits))
gathers give source (suc fuel) least [] (m ∷ ns) fits up rising same listed =
    (let low : least ≤ view_of m.proposal = grind (arith, common_steps, rising) in
    let here : option_and_then give (source (view_of m.proposal)) ≡ give m = ap (option_and_then give) (same (view_of m.proposal) low ∙ at_first m ns) in
    let none : give m ≡ None = none_of (give m) (λ some. listed (view_of m.proposal) low (ap is_some here ∙ some)) in
    let rest = gathers give source fuel (view_of m.proposal + 1) [] ns (omega (arith, fits)) refl (grind (arith, common_steps, rising))
    (λ v later. same v (omega (arith, later, low)) ∙ at_later m ns v (omega (arith, later)))
    (λ v later some. listed v (omega (arith, later, low)) some) in
    rest ∙ sym (ap (λ o. cons_option o (filter_map give ns)) none))
gathers give source (suc fuel) least (w ∷ vs) [] fits up rising same listed =
    (let low : least ≤ w = grind (arith, common_steps, up) in
    let none : option_and_then give (source w) ≡ None = ap (option_and_then give) (same w low) in
    let rest = gathers give source fuel (w + 1) vs [] (omega (arith, fits)) (grind (arith, common_steps, up)) refl
    (λ v later. same v (omega (arith, later, low)))
    (λ v later some. listed_later w vs v (omega (arith, later)) (listed v (omega (arith, later, low)) some)) in
    ap (λ o. cons_option o (filter_map (λ v. option_and_then give (source v)) vs)) none ∙ rest)
gathers give source (suc fuel) least (w ∷ vs) (m ∷ ns) fits up rising same listed =
    (let low : least ≤ w = grind (arith, common_steps, up) in
    let below : least ≤ view_of m.proposal = grind (arith, common_steps, rising) in
    let after_w : rises (w + 1) vs ≡ true = grind (arith, common_steps, up) in
    let after_m : rise (view_of m.proposal + 1) ns ≡ true = grind (arith, common_steps, rising) in
    elim (cases_order w (view_of m.proposal)) [
      | inl is ↦
          (let here : source w ≡ Some m = same w low ∙ ap (notarization_at (m ∷ ns)) is ∙ at_first m ns in
          let rest = gathers give source fuel (w + 1) vs ns (omega (arith, fits)) after_w (rw is after_m)
          (λ v later. same v (omega (arith, later, low)) ∙ at_later m ns v (omega (arith, later, is)))
          (λ v later some. listed_later w vs v (omega (arith, later)) (listed v (omega (arith, later, low)) some)) in
          ap (λ o. cons_option (option_and_then give o) (filter_map (λ v. option_and_then give (source v)) vs)) here ∙ ap (cons_option (give m)) rest)
      | inr (inl less) ↦
          (let none : option_and_then give (source w) ≡ None = ap (option_and_then give) (same w low ∙ absent (m ∷ ns) w (view_of m.proposal) (grind (arith, common_steps, rising)) less) in
          let rest = gathers give source fuel (w + 1) vs (m ∷ ns) (omega (arith, fits)) after_w (grind (arith, common_steps, rising, less))
          (λ v later. same v (omega (arith, later, low)))
          (λ v later some. listed_later w vs v (omega (arith, later)) (listed v (omega (arith, later, low)) some)) in
          ap (λ o. cons_option o (filter_map (λ v. option_and_then give (source v)) vs)) none ∙ rest)
      | inr (inr more) ↦
          (let here : option_and_then give (source (view_of m.proposal)) ≡ give m = ap (option_and_then give) (same (view_of m.proposal) below ∙ at_first m ns) in
          let none : give m ≡ None = none_of (give m)
          (λ some. sym (unlisted (w ∷ vs) (view_of m.proposal) w (grind (arith, common_steps, up)) more) ∙ listed (view_of m.proposal) below (ap is_some here ∙ some)) in
          let rest = gathers give source fuel (view_of m.proposal + 1) (w ∷ vs) ns (omega (arith, fits)) (grind (arith, common_steps, up, more)) after_m
          (λ v later. same v (omega (arith, later, below)) ∙ at_later m ns v (omega (arith, later)))
          (λ v later some. listed v (omega (arith, later, below)) some) in
          rest ∙ sym (ap (λ o. cons_option o (filter_map give ns)) none))
    ])

-- what passes a test, in the form that it is given in
pub given : {A : Type 0} (test : Notarization → Bool) (shape : Notarization → A) (ns : List Notarization)
    → filter_map (λ n. if test n then Some (shape n) else None) ns ≡ map shape (filter test ns)
given test shape [] = refl
given test shape (n ∷ ns) = grind (arith, common_steps, given test shape ns)
