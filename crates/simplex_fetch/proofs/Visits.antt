-- Changes of views, one after the other.
use Rattle.std.proofs.Common.{◌≡◌, ◌≤◌, ℕ, List, [], ◌∷◌, ◌++◌, length, length-drop, drop, refl, sym, ap, ◌∙◌, append_assoc, append-nil, arith}
use Rattle.std.proofs.lemmas.List.{nil_from_length}
use Rattle.model_resolver.specs.declared.out.Out.{Out}
use Rattle.model_resolver.specs.Fetcher.{Machine, After, visited}

-- Of the views, some are left. What they come to from now on is what all come to from the start.
pub record Visiting (change : ℕ → Machine → After) (views : List ℕ) (start : Machine) (left : List ℕ) (now : Machine) (outs : List Out) : Type 0 where
  pub fetcher : (visited change left now).fetcher ≡ (visited change views start).fetcher
  pub wants : outs ++ (visited change left now).outs ≡ (visited change views start).outs

-- at the start all are left
pub visit_none : (change : ℕ → Machine → After) (views : List ℕ) (start : Machine) → Visiting change views start views start []
visit_none change views start = record { fetcher = refl; wants = refl }

-- one more view is changed
pub visit_more : (change : ℕ → Machine → After) (views : List ℕ) (start : Machine) (left : List ℕ) (now : Machine) (outs : List Out)
    (view : ℕ) (left' : List ℕ) (now' : Machine) (outs' : List Out)
    → Visiting change views start left now outs → left ≡ view ∷ left' → now' ≡ (change view now).fetcher → outs' ≡ outs ++ (change view now).outs
    → Visiting change views start left' now' outs'
unfolding visited
visit_more change views start left now outs view left' now' outs' v is stands wanted =
    let first : (visited change left now).fetcher ≡ (visited change left' (change view now).fetcher).fetcher = ap (λ l. (visited change l now).fetcher) is in
    let second : (visited change left now).outs ≡ (change view now).outs ++ (visited change left' (change view now).fetcher).outs = ap (λ l. (visited change l now).outs) is in
    record {
      fetcher = rw stands (sym first ∙ v.fetcher);
      wants = rw (stands, wanted) (append_assoc outs (change view now).outs _ ∙ ap (λ l. outs ++ l) (sym second) ∙ v.wants);
    }

-- at the end none is left
pub visit_fetcher : (change : ℕ → Machine → After) (views : List ℕ) (start : Machine) (left : List ℕ) (now : Machine) (outs : List Out)
    → Visiting change views start left now outs → left ≡ [] → now ≡ (visited change views start).fetcher
unfolding visited
visit_fetcher change views start left now outs v is = sym (ap (λ l. (visited change l now).fetcher) is) ∙ v.fetcher

pub visit_outs : (change : ℕ → Machine → After) (views : List ℕ) (start : Machine) (left : List ℕ) (now : Machine) (outs : List Out)
    → Visiting change views start left now outs → left ≡ [] → outs ≡ (visited change views start).outs
unfolding visited
visit_outs change views start left now outs v is =
    sym (append-nil outs) ∙ ap (λ l. outs ++ l) (sym (ap (λ l. (visited change l now).outs) is)) ∙ v.wants

-- behind the last there is nothing
pub dropped_all : (i : ℕ) (xs : List ℕ) → length xs ≤ i → drop i xs ≡ []
dropped_all i xs h = nil_from_length (drop i xs) (omega (arith, length-drop i xs))
