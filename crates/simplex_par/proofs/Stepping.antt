-- The tasks of a lane, stepped one after another, and changes of one lane.
use Rattle.std.proofs.Common.{◌≡◌, ◌≢◌, ℕ, ◌+◌, ◌<◌, ◌≤◌, ◌%◌, ◌==◌, mod-lt, append-nil, eq-eqb, Bool, true, false, List, [], ◌∷◌, ◌++◌, length, get_or, set, Option, Some, None, suc, zero, refl, sym, ap, ◌∙◌, subst, arith, eqb-true}
use Rattle.std.specs.List.{slice_get}
use Rattle.std.specs.Option.{option_to_list}
use Rattle.std.proofs.lemmas.List.{length-set, length_push}
use Rattle.std.proofs.lemmas.Option.{slice_get-get_or, slice_get_within}
use Rattle.simplex_par.specs.declared.lanes.Dealt.{Dealt}
use Rattle.simplex_par.specs.declared.lanes.Lane.{Lane}
use Rattle.simplex_par.specs.Lanes.{MakesStep, AllStep, EachLane, AreEmpty, if_own, PutsLast, TakesFirst}
use Rattle.simplex_par.proofs.Lists.{skip, pick, not_same, get-set, get-set_other}

-- so many are stepped, and the others are as they were
pub record Part (olds news : List Dealt) (k : ℕ) : Type 0 where
  pub count : length news ≡ length olds
  pub each : (at : ℕ) (new : Dealt) → slice_get news at ≡ Some new → (old : Dealt) × (slice_get olds at ≡ Some old) × ((at < k → MakesStep old new) × (k ≤ at → new ≡ old))

pub part-none : (olds : List Dealt) → Part olds olds 0
part-none olds = record { count = refl; each = λ at new is. (new, is, (λ lt. absurd (omega (arith, lt)), λ le. refl)) }

pub part-more : (olds mids news : List Dealt) (k : ℕ) (old new : Dealt) → k < length mids → old ≡ get_or mids k old → news ≡ set mids k new → MakesStep old new → Part olds mids k → Part olds news (k + 1)
part-more olds mids news k old new lt is set_is steps part =
    record { count = ap length set_is ∙ length-set mids k new ∙ part.count; each = λ at task there. by at task there (k == at) refl }
  where
    by : (at : ℕ) (task : Dealt) → slice_get news at ≡ Some task → (b : Bool) → (k == at) ≡ b
        → (was : Dealt) × (slice_get olds at ≡ Some was) × ((at < k + 1 → MakesStep was task) × (k + 1 ≤ at → task ≡ was))
    by at task there true e =
        let same : k ≡ at = eqb-true k at e in
        let it : task ≡ new = get-set mids k at new task (ap (λ list. slice_get list at) (sym set_is) ∙ there) same in
        let mid : slice_get mids k ≡ Some old = slice_get-get_or mids k old lt ∙ ap (λ t. Some t) (sym is) in
        let p = part.each k old mid in
        let was : old ≡ p.0 = p.2.1 (omega arith) in
        (p.0, ap (λ (n : ℕ). slice_get olds n) (sym same) ∙ p.1, (λ l. subst (λ t. MakesStep p.0 t) (sym it) (subst (λ t. MakesStep t new) was steps), λ l. absurd (omega (arith, l, same))))
    by at task there false e =
        let other : k ≢ at = not_same k at e in
        let p = part.each at task (sym (get-set_other mids k at new other) ∙ ap (λ list. slice_get list at) (sym set_is) ∙ there) in
        (p.0, p.1, (λ l. p.2.0 (below at k l other), λ l. p.2.1 (omega (arith, l))))
      where
        below : (a b : ℕ) → a < b + 1 → b ≢ a → a < b
        below a b l o = omega (arith, l, o)

pub part-all : (olds news : List Dealt) (k : ℕ) → length news ≤ k → Part olds news k → AllStep olds news
part-all olds news k all part =
    (part.count, λ at new is. let p = part.each at new is in let lt = slice_get_within news at new is in (p.0, p.1, p.2.0 (omega (arith, lt, all))))

-- ---- one lane is changed

pub one-lane : (R : ℕ → Lane → Lane → Type 0) (olds news : List Lane) (k : ℕ) (old new : Lane) → k < length olds → old ≡ get_or olds k old → news ≡ set olds k new
    → R k old new → ((worker : ℕ) (lane : Lane) → (k == worker) ≡ false → R worker lane lane) → EachLane R olds news
one-lane R olds news k old new lt is set_is here others =
    (ap length set_is ∙ length-set olds k new, λ worker lane there. by worker lane there (k == worker) refl)
  where
    by : (worker : ℕ) (lane : Lane) → slice_get news worker ≡ Some lane → (b : Bool) → (k == worker) ≡ b → (was : Lane) × (slice_get olds worker ≡ Some was) × R worker was lane
    by worker lane there true e =
        let same : k ≡ worker = eqb-true k worker e in
        let it : lane ≡ new = get-set olds k worker new lane (ap (λ list. slice_get list worker) (sym set_is) ∙ there) same in
        (old, ap (λ (n : ℕ). slice_get olds n) (sym same) ∙ slice_get-get_or olds k old lt ∙ ap (λ l. Some l) (sym is), subst (λ l. R worker old l) (sym it) (subst (λ (n : ℕ). R n old new) same here))
    by worker lane there false e =
        (lane, sym (get-set_other olds k worker new (not_same k worker e)) ∙ ap (λ list. slice_get list worker) (sym set_is) ∙ there, others worker lane e)

own_k : (n k : ℕ) → n ≡ k → (n == k) ≡ true
own_k n k e = eq-eqb n k e

pub put-last : (olds : List Lane) (place n : ℕ) (task : Dealt) (old new : Lane) → n ≡ length olds → 0 < length olds → old ≡ get_or olds (place % n) old
    → new.dealt.items ≡ old.dealt.items ++ task ∷ [] → PutsLast place task olds (set olds (place % n) new)
put-last olds place n task old new len some is puts =
    one-lane R olds (set olds (place % n) new) (place % n) old new (rw len (mod-lt place some)) is refl
    (puts ∙ ap (λ list. old.dealt.items ++ list) (sym (pick (place % length olds == place % n) (task ∷ []) [] (own_k (place % length olds) (place % n) (ap (λ (m : ℕ). place % m) (sym len))))))
    (λ worker lane other. sym (append-nil lane.dealt.items)
    ∙ ap (λ list. lane.dealt.items ++ list) (sym (skip (place % length olds == worker) (task ∷ []) [] (ap (λ (m : ℕ). place % m == worker) (sym len) ∙ other))))
  where
    R : ℕ → Lane → Lane → Type 0
    R worker old new = new.dealt.items ≡ old.dealt.items ++ if_own (length olds) worker place (task ∷ [])

no_items : (tasks : List Dealt) → length tasks ≡ 0 → tasks ≡ []
no_items [] e = refl
no_items (t ∷ tasks) e = absurd (omega (arith, e))

pub take-first : (olds : List Lane) (place n : ℕ) (task : Option Dealt) (old new : Lane) → n ≡ length olds → 0 < length olds → old ≡ get_or olds (place % n) old
    → old.dealt.items ≡ option_to_list task ++ new.dealt.items → (task ≡ None → length old.dealt.items ≡ 0) → TakesFirst place task olds (set olds (place % n) new)
take-first olds place n task old new len some is takes none =
    record {
      lanes = one-lane R olds (set olds (place % n) new) (place % n) old new (rw len (mod-lt place some)) is refl
          (takes ∙ ap (λ list. list ++ new.dealt.items) (sym (pick (place % length olds == place % n) (option_to_list task) [] (own_k (place % length olds) (place % n) (ap (λ (m : ℕ). place % m) (sym len))))))
          (λ worker lane other. ap (λ list. list ++ lane.dealt.items) (sym (skip (place % length olds == worker) (option_to_list task) [] (ap (λ (m : ℕ). place % m == worker) (sym len) ∙ other))));
      none = λ e lane there.
          let here : slice_get olds (place % length olds) ≡ Some old =
          ap (λ (m : ℕ). slice_get olds (place % m)) (sym len) ∙ slice_get-get_or olds (place % n) old (rw len (mod-lt place some)) ∙ ap (λ l. Some l) (sym is) in
          let same : lane ≡ old = same_some lane old (sym there ∙ here) in
          ap (λ l. l.dealt.items) same ∙ no_items old.dealt.items (none e);
    }
  where
    R : ℕ → Lane → Lane → Type 0
    R worker old new = old.dealt.items ≡ if_own (length olds) worker place (option_to_list task) ++ new.dealt.items

    same_some : (a b : Lane) → Some a ≡ Some b → a ≡ b
    same_some a b e = cc

-- ---- all lanes step

pub lanes-stepped : (olds news : List Lane) → length news ≡ length olds
    → ((i : ℕ) (d : Lane) → i < length olds → AllStep (get_or olds i d).dealt.items (get_or news i d).dealt.items) → EachLane (λ worker old new. AllStep old.dealt.items new.dealt.items) olds news
lanes-stepped olds news len each = (
  len,
  λ worker new is.
      let lt = slice_get_within news worker new is in
      let below : worker < length olds = omega (arith, lt, len) in
      let it : get_or news worker new ≡ new = same_some (get_or news worker new) new (sym (slice_get-get_or news worker new lt) ∙ is) in
      (get_or olds worker new, slice_get-get_or olds worker new below, subst (λ l. AllStep (get_or olds worker new).dealt.items l.dealt.items) it (each worker new below)),
)
  where
    same_some : (a b : Lane) → Some a ≡ Some b → a ≡ b
    same_some a b e = cc

-- ---- lanes are made

pub empty-none : AreEmpty 0 []
empty-none = (refl, λ worker lane is. absurd (cc))

empty_push : (lanes : List Lane) (new : Lane) → new.dealt.items ≡ [] → ((worker : ℕ) (lane : Lane) → slice_get lanes worker ≡ Some lane → lane.dealt.items ≡ [])
    → (worker : ℕ) (lane : Lane) → slice_get (lanes ++ new ∷ []) worker ≡ Some lane → lane.dealt.items ≡ []
empty_push [] new none all zero lane is = let e : lane ≡ new = cc in ap (λ l. l.dealt.items) e ∙ none
empty_push [] new none all (suc k) lane is = absurd (cc)
empty_push (x ∷ lanes) new none all zero lane is = all zero lane is
empty_push (x ∷ lanes) new none all (suc k) lane is = empty_push lanes new none (λ j l e. all (suc j) l e) k lane is

pub empty-more : (n : ℕ) (lanes news : List Lane) (new : Lane) → news ≡ lanes ++ new ∷ [] → new.dealt.items ≡ [] → AreEmpty n lanes → AreEmpty (n + 1) news
empty-more n lanes news new is none empty =
    (ap length is ∙ length_push lanes new ∙ ap (λ (m : ℕ). m + 1) empty.0, λ worker lane there. empty_push lanes new none empty.1 worker lane (ap (λ list. slice_get list worker) (sym is) ∙ there))
