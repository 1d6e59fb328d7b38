-- A request's name leads to what its node asked.
use Rattle.std.proofs.Common.{◌≡◌, ℕ, ◌+◌, ◌<◌, ◌==◌, ◌&&◌, nat_lt, Bool, true, false, List, [], ◌∷◌, ◌++◌, length, Option, Some, None, refl, subst, ◌∙◌, inl, inr, arith, length-append, ltb-true, if◌then◌else◌}
use Rattle.std.specs.List.{slice_get}
use Rattle.std.proofs.lemmas.Option.{slice_get_cases}
use Rattle.model_rules.specs.declared.request.Asked.{Asked}
use Rattle.simplex_transcript.specs.declared.node.Node.{Node}
use Rattle.simplex_transcript.specs.declared.node.Ref.{Ref}
use Rattle.model_run.specs.Life.{Noted, is_of}
use Rattle.model_run.specs.Requests.{is_start, asked_since, request_number}
use Rattle.law_run.proofs.Telling.{some_is}
use Rattle.law_run.specs.Asked.{asked_at, asked_of}
use Rattle.law_run.proofs.AskedListing.{place_front, place_behind}

-- as many as are counted
pub asked_counts : (before : List Noted) (node : Node) → asked_since before node ≡ length (asked_of before node)
unfolding asked_since asked_of
asked_counts [] node = refl
asked_counts (noted ∷ before) node = at (is_of node noted.event) (is_start noted.event) (asked_counts before node)
  where
    at : (o s : Bool) → asked_since before node ≡ length (asked_of before node)
        → (if o then (if s then length noted.entry.asked else length noted.entry.asked + asked_since before node) else asked_since before node)
        ≡ length (if o then (if s then noted.entry.asked else asked_of before node ++ noted.entry.asked) else asked_of before node)
    at false s e = e
    at true true e = refl
    at true false e = omega (arith, e, length-append (asked_of before node) noted.entry.asked)

-- the request of this number, and at this place
abbrev pub Names : List Asked → Option Asked → ℕ → Type 0
Names asked at number = (x : Asked) × (slice_get asked number ≡ Some x) × (at ≡ Some x)

pub within : (xs : List Asked) (i : ℕ) → i < length xs → (x : Asked) × (slice_get xs i ≡ Some x)
within xs i lt = elim (slice_get_cases xs i).1 [
  | inl h ↦ (h.0, h.2)
  | inr h ↦ absurd (omega (arith, lt, h.0))
]

pub number_names : (before : List Noted) (node : Node) (at : Ref) (number : ℕ) → request_number before node at ≡ Some number → Names (asked_of before node) (asked_at before at) number
unfolding request_number asked_of asked_at
number_names [] node at number e = cc
number_names (noted ∷ before) node at number e =
    cases (length before + 1 == at.event) (is_of node noted.event) (nat_lt at.place (length noted.entry.asked)) (is_start noted.event) refl (number_names before node at number) e
  where
    old : List Asked
    old = asked_of before node

    new : List Asked
    new = noted.entry.asked

    cases : (b o w s : Bool) → nat_lt at.place (length new) ≡ w → (request_number before node at ≡ Some number → Names old (asked_at before at) number)
        → (if b then (if o && w then Some ((if s then 0 else asked_since before node) + at.place) else None) else if o && s then None else request_number before node at) ≡ Some number
        → Names (if o then (if s then new else old ++ new) else old) (if b then slice_get new at.place else asked_at before at) number
    cases true false w s lt rest e = cc
    cases true true false s lt rest e = cc
    cases true true true true lt rest e =
        let x = within new at.place (ltb-true at.place (length new) lt) in
        let n : at.place ≡ number = omega (arith, some_is _ number e) in
        (x.0, subst (λ (i : ℕ). slice_get new i ≡ Some x.0) n x.1, x.1)
    cases true true true false lt rest e =
        let x = within new at.place (ltb-true at.place (length new) lt) in
        let n : length old + at.place ≡ number = omega (arith, some_is _ number e, asked_counts before node) in
        (x.0, subst (λ (i : ℕ). slice_get (old ++ new) i ≡ Some x.0) n (place_behind old new at.place ∙ x.1), x.1)
    cases false true w true lt rest e = cc
    cases false true w false lt rest e = (let r = rest e in (r.0, place_front old new number r.0 r.1, r.2))
    cases false false w s lt rest e = rest e
