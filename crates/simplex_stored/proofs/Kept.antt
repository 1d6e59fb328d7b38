-- Sets of spellings, and synced records.
use Rattle.std.proofs.Common.{◌≡◌, ℕ, List, [], ◌∷◌, ◌++◌, Bool, true, false, cond, Option, Some, refl, sym, ap, subst, ◌∙◌}
use Rattle.std.specs.Prelude.{◌||◌}
use Rattle.std.specs.Global.{Vec}
use Rattle.std.specs.BTreeSet.{BTreeSet}
use Rattle.std.specs.BTreeSet as set
use Rattle.std.specs.Set.{KeepsOthers}
use Rattle.std.specs.Map.{IsKeyTest, AreApart, lookup}
use Rattle.std.specs.Cmp.Lexicographic.{slice_cmp}
use Rattle.std.proofs.lemmas.Cmp.{eq_by_cmp_equiv, nat_list_cmp_total, nat_list_eq_equiv}
use Rattle.std.specs.List.{list_any}
use Rattle.std.specs.Ordering.{nat_cmp, is_eq}
use Rattle.std.specs.Str.{bytes_eq}
use Rattle.std.proofs.lemmas.List.Folds.{list_any-append}
use Rattle.std.proofs.lemmas.Map.Text.{is_eq-slice_cmp}
use Rattle.std.proofs.lemmas.Slice.Eq.{bytes_eq-Decides}
use Rattle.simplex_wire.specs.declared.artifact.Artifact.{Artifact}
use Rattle.simplex_journal.specs.Contents.{kept}
use Rattle.simplex_journal.specs.Memory.{Lists, sections_of}

-- ---- the set

apart : (bs cs ks : List ℕ) → bytes_eq bs cs ≡ false → bytes_eq bs ks ≡ true → bytes_eq cs ks ≡ false
apart bs cs ks n y = nat_list_eq_equiv.symm cs ks ∙ sym (nat_list_eq_equiv.congr bs ks cs y) ∙ n

apart_in_order : (bs cs ks : List ℕ) → bytes_eq bs cs ≡ false → is_eq (slice_cmp nat_cmp bs ks) ≡ true → is_eq (slice_cmp nat_cmp cs ks) ≡ false
apart_in_order bs cs ks n y = is_eq-slice_cmp cs ks ∙ apart bs cs ks n (sym (is_eq-slice_cmp bs ks) ∙ y)

module _ {K : Type 0} (eq : K → K → Bool) (test : K → Bool) where
  other_keys : (old new : List K) → KeepsOthers eq test old new → (other : K → Bool) → IsKeyTest eq other → AreApart test other → list_any other new ≡ list_any other old
  unfolding KeepsOthers
  other_keys old new h = h

has : BTreeSet (Vec ℕ) → List ℕ → Bool
has s bytes = set.contains_by (λ kept. slice_cmp nat_cmp bytes kept.items) s

at : (s n : BTreeSet (Vec ℕ)) (bs cs : List ℕ) (b : Bool) → bytes_eq bs cs ≡ b → has n bs ≡ true → (bytes_eq bs cs ≡ false → has n cs ≡ has s cs)
    → has n cs ≡ (bytes_eq cs bs || has s cs)
unfolding has
at s n bs cs true e here other =
    let same : bs ≡ cs = (bytes_eq-Decides bs cs).0 e in
    subst (λ l. has n l ≡ true) same here ∙ ap (λ t. t || has s cs) (sym (nat_list_eq_equiv.symm cs bs ∙ e))
at s n bs cs false e here other = other e ∙ ap (λ t. t || has s cs) (sym (nat_list_eq_equiv.symm cs bs ∙ e))

pub spelling-added : (key : Vec ℕ) (s n : BTreeSet (Vec ℕ)) → set.UpdatesBy (λ (a b : Vec ℕ). slice_cmp nat_cmp a.items b.items) (λ (k : Vec ℕ). slice_cmp nat_cmp key.items k.items) s n true
    → (cs : List ℕ) → set.contains_by (λ (k : Vec ℕ). slice_cmp nat_cmp cs k.items) n ≡ (bytes_eq cs key.items || set.contains_by (λ (k : Vec ℕ). slice_cmp nat_cmp cs k.items) s)
unfolding has
spelling-added key s n h cs =
    at s n key.items cs (bytes_eq key.items cs) refl h.1
    (λ e. other_keys _ _ _ _ h.3 _ (λ x y. (eq_by_cmp_equiv nat_list_cmp_total).congr cs x.items y.items) (λ k. apart_in_order key.items cs k.items e))

-- ---- synced records

pub kept-more : (p : Artifact → Bool) (e : ℕ × Lists) (es : List (ℕ × Lists))
    → list_any p (kept (sections_of (e ∷ es))) ≡ (list_any p e.1.synced || list_any p (kept (sections_of es)))
unfolding kept sections_of
kept-more p e es = list_any-append p e.1.synced (kept (sections_of es))

or-true : (b : Bool) → (b || true) ≡ true
or-true true = refl
or-true false = refl

-- of the section that a look-up finds
pub kept-at : (p : Artifact → Bool) (test : ℕ → Bool) (es : List (ℕ × Lists)) (lists : Lists) → lookup test es ≡ Some lists → list_any p lists.synced ≡ true
    → list_any p (kept (sections_of es)) ≡ true
kept-at p test [] lists e have = cc
kept-at p test (x ∷ es) lists e have = kept-more p x es ∙ at (test x.0) e (λ later. kept-at p test es lists later have)
  where
    at : (b : Bool) → cond b (Some x.1) (lookup test es) ≡ Some lists → (lookup test es ≡ Some lists → list_any p (kept (sections_of es)) ≡ true)
        → (list_any p x.1.synced || list_any p (kept (sections_of es))) ≡ true
    at true f go =
        let same : x.1 ≡ lists = cc in
        ap (λ (l : Lists). list_any p l.synced || list_any p (kept (sections_of es))) same ∙ ap (λ b. b || list_any p (kept (sections_of es))) have
    at false f go = ap (λ b. list_any p x.1.synced || b) (go f) ∙ or-true (list_any p x.1.synced)

pub kept-found : (p : Artifact → Bool) (es rest : List (ℕ × Lists)) (e : ℕ × Lists) (records : List Artifact) (have whole : Bool)
    → es ≡ e ∷ rest → have ≡ list_any p records → records ≡ e.1.synced → have ≡ true → list_any p (kept (sections_of es)) ≡ whole → true ≡ whole
kept-found p es rest e records have whole first is same found so_far =
    sym (ap (λ l. list_any p (kept (sections_of l))) first ∙ kept-more p e rest
    ∙ ap (λ b. b || list_any p (kept (sections_of rest))) (ap (list_any p) (sym same) ∙ sym is ∙ found)) ∙ so_far

pub kept-next : (p : Artifact → Bool) (es rest : List (ℕ × Lists)) (e : ℕ × Lists) (records : List Artifact) (have whole : Bool)
    → es ≡ e ∷ rest → have ≡ list_any p records → records ≡ e.1.synced → have ≡ false → list_any p (kept (sections_of es)) ≡ whole
    → list_any p (kept (sections_of rest)) ≡ whole
kept-next p es rest e records have whole first is same unlike so_far =
    sym (ap (λ l. list_any p (kept (sections_of l))) first ∙ kept-more p e rest
    ∙ ap (λ b. b || list_any p (kept (sections_of rest))) (ap (list_any p) (sym same) ∙ sym is ∙ unlike)) ∙ so_far

pub kept-end : (p : Artifact → Bool) (es : List (ℕ × Lists)) (whole : Bool) → es ≡ [] → list_any p (kept (sections_of es)) ≡ whole → false ≡ whole
unfolding kept sections_of
kept-end p es whole none so_far = sym (ap (λ l. list_any p (kept (sections_of l))) none) ∙ so_far
