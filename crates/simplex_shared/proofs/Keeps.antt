-- Each step keeps the rule.
use Rattle.std.proofs.Common.{◌≡◌, ◌≢◌, ◌⊎◌, inl, inr, ⊎_elim, ℕ, zero, suc, ◌+◌, ◌-◌, ◌%◌, ◌^◌, ◌<◌, ◌≤◌, List, [], ◌∷◌, ◌++◌, Bool, true, false, ◌==◌, length, drop, set, get_or, refl, sym, ap, ◌∙◌, subst, arith, eq-eqb, ne_eqb, length-append, append_assoc, append-nil}
use lib.Seq.{set-get_or}
use Rattle.std.specs.Prelude.{Option, Some, if◌then◌else◌}
use mathlib.Core.Logic.{dite}
use mathlib.Core.Option.{Option as Maybe, some, none, some-injective, some-ne-none}
use native.Mathlib.Decide.{ℕ_discrete}
use lib.ListN.{get_elem?}
use Rattle.atomic_table.specs.Table.{State, step, keeps, takes, gives, stepped, opening, Allows, Splits, Joins}
use Rattle.atomic_table.proofs.Lists.{at_set, at_longer, set_else, set_again, one_turn}
use Rattle.simplex_shared.specs.declared.view.Stage.{Stage}
use Rattle.simplex_shared.specs.declared.view.Stage.TheVariants.{Idle, Waiting, Holding}
use Rattle.simplex_shared.specs.declared.view.View.{View}
use Rattle.simplex_shared.specs.declared.terms.Terms.{Terms}
use Rattle.simplex_shared.specs.Calls.{calls_by as calls_by_of, StartsWith}
use Rattle.simplex_shared.specs.Lock.{all_parts, maker, maker_at, after_making, newcomer, bearer, informed, Belongs, at_stage, holding, added, seeing, Stands, total, parts_of, waits_at, waits, Quiet, ticket_of, MayDraw, Waits, Draws, Leaves, Sat as SatOf, Fits as FitsOf, Housed as HousedOf, Kept as KeptOf, GoesOn as GoesOnOf, Looks as LooksOf, Adds as AddsOf, Sees as SeesOf}
use Rattle.simplex_shared.proofs.Pushing.{calls_by-other}

set_at : {A : Type 0} (l : List A) (i : ℕ) (a b : A) → get_elem? l i ≡ some a → get_elem? (set l i b) i ≡ some b
set_at [] i a b e = absurd (some-ne-none a (sym e))
set_at (x ∷ xs) zero a b e = refl
set_at (x ∷ xs) (suc i) a b e = set_at xs i a b e

at_end : {A : Type 0} (l : List A) (a b : A) (j : ℕ) → get_elem? (l ++ a ∷ []) j ≡ some b → (get_elem? l j ≡ some b) ⊎ ((j ≡ length l) × (a ≡ b))
at_end [] a b zero e = inr (refl, some-injective a b e)
at_end [] a b (suc j) e = absurd (some-ne-none b (sym e))
at_end (x ∷ xs) a b zero e = inl e
at_end (x ∷ xs) a b (suc j) e = ⊎_elim (λ t. inl t) (λ t. inr (ap suc t.0, t.1)) (at_end xs a b j e)

module _ {D E : Type 0} (log_of : D → List E) (capacity_of : D → ℕ) (caller : E → ℕ) (Legal : ℕ → List E → Type 0) where
  abbrev V : Type 0
  V = View E

  abbrev Sat : Type 0
  Sat = SatOf D E

  abbrev calls_by : ℕ → List E → List E
  calls_by = calls_by_of caller

  abbrev Fits : List E → ℕ → ℕ → (ℕ → ℕ) → (ℕ → ℕ) → ℕ → Terms → ℕ → V → Type 0
  Fits = FitsOf log_of capacity_of caller Legal

  abbrev Housed : List E → List (Maybe (Option D)) → List V → ℕ → ℕ → Type 0
  Housed = HousedOf log_of capacity_of caller Legal

  abbrev Kept : State (Option D) V → Type 0
  Kept = KeptOf log_of capacity_of caller Legal

  abbrev GoesOn : V → List E → Type 0
  GoesOn = GoesOnOf log_of capacity_of caller Legal

  total_set : (f : V → ℕ) (views : List V) (i : ℕ) (v w : V) → get_elem? views i ≡ some v → total f (set views i w) + f v ≡ total f views + f w
  total_set f [] i v w e = absurd (some-ne-none v (sym e))
  total_set f (x ∷ xs) zero v w e = let same : f x ≡ f v = ap f (some-injective x v e) in omega arith
  total_set f (x ∷ xs) (suc i) v w e = let h = total_set f xs i v w e in omega arith

  total_snoc : (f : V → ℕ) (views : List V) (w : V) → total f (views ++ w ∷ []) ≡ total f views + f w
  total_snoc f [] w = omega arith
  total_snoc f (x ∷ xs) w = let h = total_snoc f xs w in omega arith

  total_le : (f g : V → ℕ) (views : List V) → ((j : ℕ) (v : V) → get_elem? views j ≡ some v → f v ≤ g v) → total f views ≤ total g views
  total_le f g [] below = omega arith
  total_le f g (x ∷ xs) below = let h = total_le f g xs (λ j v e. below (suc j) v e) in let k = below 0 x refl in omega arith

  -- what holds of each view, after a change of one
  each_set : (P : ℕ → V → Type 0) (views : List V) (i : ℕ) (w : V) → ((j : ℕ) (u : V) → j ≢ i → get_elem? views j ≡ some u → P j u) → P i w → (j : ℕ) (u : V) → get_elem? (set views i w) j ≡ some u → P j u
  each_set P views i w others mine j u e =
      ⊎_elim
      (λ (x : (j ≡ i) × (w ≡ u)). subst (λ (y : ℕ × V). P y.0 y.1) (λ k. (sym x.0 k, x.1 k)) mine)
      (λ (x : (j ≢ i) × (get_elem? views j ≡ some u)). others j u x.0 x.1)
      (at_set views i j w u e)

  each_snoc : (P : ℕ → V → Type 0) (views : List V) (w : V) → ((j : ℕ) (u : V) → get_elem? views j ≡ some u → P j u) → P (length views) w → (j : ℕ) (u : V) → get_elem? (views ++ w ∷ []) j ≡ some u → P j u
  each_snoc P views w others mine j u e =
      ⊎_elim
      (λ (x : get_elem? views j ≡ some u). others j u x)
      (λ (x : (j ≡ length views) × (w ≡ u)). subst (λ (y : ℕ × V). P y.0 y.1) (λ k. (sym x.0 k, x.1 k)) mine)
      (at_end views w u j e)

  -- a function of numbers, changed at one
  abbrev changed : (ℕ → ℕ) → ℕ → ℕ → ℕ → ℕ
  changed f at new k = if k == at then new else f k

  changed_here : (f : ℕ → ℕ) (at new k : ℕ) → k ≡ at → changed f at new k ≡ new
  changed_here f at new k e = ap (λ (b : Bool). if b then new else f k) (eq-eqb k at e)

  changed_else : (f : ℕ → ℕ) (at new k : ℕ) → k ≢ at → changed f at new k ≡ f k
  changed_else f at new k e = ap (λ (b : Bool). if b then new else f k) (ne_eqb k at e)

  pub starts_again : (log seen more : List E) → StartsWith log seen → StartsWith (log ++ more) seen
  starts_again log seen more s = (s.0 ++ more, ap (λ l. l ++ more) s.1 ∙ append_assoc seen s.0 more)

  starts_itself : (log : List E) → StartsWith log log
  starts_itself log = ([], sym (append-nil log))

  starts_empty : (log : List E) → StartsWith log []
  starts_empty log = (log, refl)

  pub drop_back : (xs ys : List E) → drop (length xs) (xs ++ ys) ≡ ys
  drop_back [] ys = refl
  drop_back (x ∷ xs) ys = drop_back xs ys

  abbrev Out : List V → ℕ → Type 0
  Out views holder = (v : V) × (get_elem? views holder ≡ some v) × (v.stage ≡ Holding)

  quiet_set : (views : List V) (i : ℕ) (v w : V) → get_elem? views i ≡ some v → (w.stage ≡ Holding → v.stage ≡ Holding) → Quiet views → Quiet (set views i w)
  quiet_set views i v w at back q = each_set (λ _ u. u.stage ≢ Holding) views i w (λ j u _ e. q j u e) (λ h. q i v at (back h))

  housed_set : (capacity : ℕ) (log : List E) (homes : List (Maybe (Option D))) (views : List V) (holder holder' i : ℕ) (v w : V) → get_elem? views i ≡ some v → (v.stage ≡ Holding → w.stage ≡ Holding) → (w.stage ≡ Holding → v.stage ≡ Holding)
      → ((u : V) → get_elem? views holder ≡ some u → u.stage ≡ Holding → holder' ≡ holder) → Housed log homes views holder capacity → Housed log homes (set views i w) holder' capacity
  housed_set capacity log homes views holder holder' i v w at same back_same moved h = ⊎_elim (λ (t : (d : D) × (homes ≡ some (Some d) ∷ []) × ((log_of d ≡ log) × (capacity_of d ≡ capacity)) × Quiet views). inl (t.0, t.1, t.2, quiet_set views i v w at back_same t.3))
      (λ (t : (homes ≡ none ∷ []) × Out views holder). let o = t.1 in let back = moved o.0 o.1 o.2 in inr (
        t.0,
        subst (Out (set views i w)) (sym back) (dite (ℕ_discrete holder i)
            (λ (e : holder ≡ i). let is : v ≡ o.0 = some-injective _ _ (sym at ∙ ap (get_elem? views) (sym e) ∙ o.1) in
            let there : get_elem? (set views i w) holder ≡ some w = ap (get_elem? (set views i w)) e ∙ set_at views i v w at in (w, there, same (ap (λ (x : V). x.stage) is ∙ o.2)))
            (λ (n : holder ≢ i). let there : get_elem? (set views i w) holder ≡ some o.0 = set_else views i holder w n ∙ o.1 in (o.0, there, o.2))),
      )) h

  abbrev St : Type 0
  St = State (Option D) V

  -- a step that changes no word and no list, where a seat's stage and rights stay
  moved : (s : St) (r : Kept s) (i id : ℕ) (cs : List (ℕ × Option D)) (v w : V) → get_elem? s.views id ≡ some v → w.parts ≡ v.parts → w.stage ≡ v.stage → Fits r.log r.drawn r.served r.turn r.seat r.made r.terms id w
      → Kept (stepped s i (get_or s.words i 0) id cs w keeps)
  moved s r i id cs v w at parts stage mine = subst (λ (ws : List ℕ). Kept record { words = ws; homes = s.homes; views = set s.views id w }) (sym (set-get_or s.words i 0)) record {
    log = r.log;
    drawn = r.drawn;
    served = r.served;
    turn = r.turn;
    seat = r.seat;
    made = r.made;
    terms = r.terms;
    bound = r.bound;
    words = r.words;
    legal = r.legal;
    housed = housed_set r.terms.capacity r.log s.homes s.views (r.turn r.served) (r.turn r.served) id v w at (λ e. stage ∙ e) (λ e. sym stage ∙ e) (λ _ _ _. refl) r.housed;
    shares = let t = total_set parts_of s.views id v w at in let a = r.shares in omega arith;
    waiting = let t = total_set waits s.views id v w at in let b : waits w ≡ waits v = ap waits_at stage in let a = r.waiting in omega arith;
    each = each_set (Fits r.log r.drawn r.served r.turn r.seat r.made r.terms) s.views id w (λ j u _ e. r.each j u e) mine;
    unmade = r.unmade;
  }

  drawn_stands : (log : List E) (drawn served : ℕ) (turn : ℕ → ℕ) (id j parts : ℕ) (seen : List E) (st : Stage) → Stands log drawn served turn j parts seen st → Stands log (drawn + 1) served (changed turn drawn id) j parts seen st
  drawn_stands log drawn served turn id j parts seen Idle k = tt
  drawn_stands log drawn served turn id j parts seen (Waiting g) k = let a = k.0 in let b = k.1 in (a, omega arith, changed_else turn drawn id g (λ e. omega arith) ∙ k.2, k.3)
  drawn_stands log drawn served turn id j parts seen Holding k = let a = k.0 in (omega arith, changed_else turn drawn id served (λ e. omega arith) ∙ k.1, k.2, k.3)

  next_ticket : (n : ℕ) → (n % 2 ^ 64 + 1) % 2 ^ 64 ≡ (n + 1) % 2 ^ 64
  next_ticket n = omega arith

  -- what a stage says, where it is known
  stands_at : (log : List E) (drawn served : ℕ) (turn seat : ℕ → ℕ) (made : ℕ) (terms : Terms) (id : ℕ) (v : V) (st : Stage) → v.stage ≡ st → Fits log drawn served turn seat made terms id v → Stands log drawn served turn id v.parts v.seen st
  stands_at log drawn served turn seat made terms id v st e f = subst (Stands log drawn served turn id v.parts v.seen) e f.4

  idle_not_holding : (st : Stage) → st ≡ Idle → st ≡ Holding → ⊥
  idle_not_holding st a b = cc

  waiting_not_holding : (st : Stage) (g : ℕ) → st ≡ Waiting g → st ≡ Holding → ⊥
  waiting_not_holding st g a b = cc

  -- the pass draws a ticket
  pub draws : (slots id : ℕ) (v : V) → v.stage ≡ Idle → 1 ≤ v.parts → Allows Kept slots id (v, []) 1 (λ n. (n + 1) % 2 ^ 64) (Draws (step slots 1 1 0 none) (v, []))
  draws slots id v idle part s r wide at small =
      let g : ℕ = r.drawn in
      let w = at_stage (Waiting g) v in
      let mine = r.each id v at in
      let F = Fits r.log (g + 1) r.served (changed r.turn g id) r.seat r.made r.terms in (
        w,
        keeps,
        tt,
        record {
          log = r.log;
          drawn = g + 1;
          served = r.served;
          turn = changed r.turn g id;
          seat = r.seat;
          made = r.made;
          terms = r.terms;
          bound = r.bound;
          words = ap (λ (ws : List ℕ). set ws 1 ((get_or ws 1 0 + 1) % 2 ^ 64)) r.words ∙ ap (λ (n : ℕ). length r.log ∷ n ∷ r.served % 2 ^ 64 ∷ []) (next_ticket g);
          legal = r.legal;
          housed = housed_set r.terms.capacity r.log s.homes s.views (r.turn r.served) (changed r.turn g id r.served) id v w at (λ e. absurd (idle_not_holding v.stage idle e)) (λ e. absurd (waiting_not_holding (Waiting g) g refl e))
              (λ u e holds. let k = stands_at r.log g r.served r.turn r.seat r.made r.terms (r.turn r.served) u Holding holds (r.each (r.turn r.served) u e) in let below = k.0 in changed_else r.turn g id r.served (λ x. omega arith)) r.housed;
          shares = let t = total_set parts_of s.views id v w at in let a = r.shares in omega arith;
          waiting = let t = total_set waits s.views id v w at in let b : waits v ≡ 0 = ap waits_at idle in let a = r.waiting in omega arith;
          each = each_set F s.views id w (λ j u other e. let f = r.each j u e in (f.0, f.1, f.2, f.3, drawn_stands r.log g r.served r.turn id j u.parts u.seen u.stage f.4))
              (mine.0, mine.1, mine.2, mine.3, (let a = r.waiting in (omega arith, omega arith, changed_here r.turn g id g refl, part)));
          unmade = r.unmade;
        },
        (refl, (g, ap (λ (ws : List ℕ). get_or ws 1 0) (sym r.words), refl)),
      )

  -- a seat that belongs has the terms of the value
  terms_of : (s : St) (r : Kept s) (id : ℕ) (v : V) → get_elem? s.views id ≡ some v → Belongs v → v.terms ≡ r.terms
  terms_of s r id v at belongs = let f = r.each id v at in ⊎_elim (λ m. (f.2 m).2) (λ m. (f.3 m).3) belongs

  goes_on_with : (s : St) (r : Kept s) (id : ℕ) (v : V) → get_elem? s.views id ≡ some v → GoesOn v r.log
  goes_on_with s r id v at =
      let f = r.each id v at in
      let b = r.bound in (
        f.0,
        f.1,
        (λ m. (f.3 m).2),
        (λ belongs. let is = terms_of s r id v at belongs in (
          subst (λ (t : Terms). Legal t.capacity r.log) (sym is) r.legal,
          (λ other above. let size : v.terms.passes ≡ r.terms.passes = ap (λ (t : Terms). t.passes) is in r.unmade other (omega arith)),
        )),
      )

  -- fewer tickets wait than word 1 can tell apart
  few : (s : St) (r : Kept s) → r.drawn ≤ r.served + all_parts
  few s r =
      let at_most : (st : Stage) (log : List E) (j parts : ℕ) (seen : List E) → Stands log r.drawn r.served r.turn j parts seen st → waits_at st ≤ parts = below r.drawn r.served r.turn in
      let t = total_le waits parts_of s.views (λ j v e. at_most v.stage r.log j v.parts v.seen (r.each j v e).4) in
      let a = r.waiting in let b = r.shares in omega arith
    where
      below : (drawn served : ℕ) (turn : ℕ → ℕ) (st : Stage) (log : List E) (j parts : ℕ) (seen : List E) → Stands log drawn served turn j parts seen st → waits_at st ≤ parts
      below drawn served turn Idle log j parts seen k = omega arith
      below drawn served turn (Waiting g) log j parts seen k = k.3
      below drawn served turn Holding log j parts seen k = k.3

  -- the pass whose turn it is finds the slot at home
  at_home : (s : St) (r : Kept s) (id g : ℕ) (v : V) → get_elem? s.views id ≡ some v → v.stage ≡ Waiting g → r.turn r.served ≡ id → (d : D) × (s.homes ≡ some (Some d) ∷ []) × ((log_of d ≡ r.log) × (capacity_of d ≡ r.terms.capacity)) × Quiet s.views
  at_home s r id g v at is own = ⊎_elim (λ t. t)
      (λ (t : (s.homes ≡ none ∷ []) × Out s.views (r.turn r.served)). let o = t.1 in
      let same : v ≡ o.0 = some-injective _ _ (sym at ∙ ap (get_elem? s.views) (sym own) ∙ o.1) in
      absurd (waiting_not_holding v.stage g is (ap (λ (x : V). x.stage) same ∙ o.2))) r.housed

  -- the pass looks whose turn it is, and takes the slot if it is its own
  pub looks : (slots id g : ℕ) (v : V) → v.stage ≡ Waiting g → Allows Kept slots id (v, []) 2 (λ n. n) (LooksOf log_of capacity_of caller Legal (step slots 2 0 0 none) (v, []))
  looks slots id g v is s r wide at small =
      let found : ℕ = get_or s.words 2 0 in
      let word : found ≡ r.served % 2 ^ 64 = ap (λ (ws : List ℕ). get_or ws 2 0) r.words in
      let mine = r.each id v at in
      let k = stands_at r.log r.drawn r.served r.turn r.seat r.made r.terms id v (Waiting g) is mine in
      let low : r.served ≤ g = k.0 in
      let high : g < r.drawn = k.1 in
      let near = few s r in
      let ticket : ticket_of v.stage ≡ g % 2 ^ 64 = ap ticket_of is in
      dite (ℕ_discrete found (ticket_of v.stage))
      (λ (hit : found ≡ ticket_of v.stage).
      let turn : r.served ≡ g = one_turn r.served g (2 ^ 64) low (omega arith) (sym word ∙ hit ∙ ticket) in
      let own : r.turn r.served ≡ id = ap r.turn turn ∙ k.2 in
      let h = at_home s r id g v at is own in
      let d : D = h.0 in
      let w = holding v (log_of d) in
      let F = Fits r.log r.drawn r.served r.turn r.seat r.made r.terms in
      let start : StartsWith r.log (log_of d) = subst (StartsWith r.log) (sym h.2.0) (starts_itself r.log) in
      let goes = goes_on_with s r id v at in (
        w,
        takes 0 (Some d),
        ap (λ (l : List (Maybe (Option D))). get_elem? l 0) h.1,
        subst (λ (ws : List ℕ). Kept record { words = ws; homes = set s.homes 0 none; views = set s.views id w }) (sym (set-get_or s.words 2 0)) record {
          log = r.log;
          drawn = r.drawn;
          served = r.served;
          turn = r.turn;
          seat = r.seat;
          made = r.made;
          terms = r.terms;
          bound = r.bound;
          words = r.words;
          legal = r.legal;
          housed = inr (ap (λ (l : List (Maybe (Option D))). set l 0 none) h.1, (w, (ap (get_elem? (set s.views id w)) own ∙ set_at s.views id v w at), refl));
          shares = let t = total_set parts_of s.views id v w at in let a = r.shares in omega arith;
          waiting = let t = total_set waits s.views id v w at in let b : waits v ≡ 1 = ap waits_at is in let a = r.waiting in omega arith;
          each = each_set F s.views id w (λ j u _ e. r.each j u e) (start, starts_empty r.log, mine.2, (λ m. let x = mine.3 m in (x.0, x.1, ap (calls_by v.number) (sym h.2.0), x.3)), (omega arith, own, h.2.0, k.3));
          unmade = r.unmade;
        },
        ((λ _. (d, refl, refl, subst (GoesOn v) (sym h.2.0) goes, (λ belongs. h.2.1 ∙ ap (λ (t : Terms). t.capacity) (sym (terms_of s r id v at belongs))))), (λ miss. absurd (miss hit))),
      ))
      (λ (miss : found ≢ ticket_of v.stage). (
        v,
        keeps,
        tt,
        moved s r 2 id [] v v at refl refl mine,
        ((λ hit. absurd (miss hit)), (λ _. refl)),
      ))

  other_stands : (log now : List E) (drawn served : ℕ) (turn : ℕ → ℕ) (id j parts : ℕ) (seen : List E) (st : Stage) → j ≢ id → turn served ≡ id → Stands log drawn served turn j parts seen st → Stands now drawn served turn j parts seen st
  other_stands log now drawn served turn id j parts seen Idle other own k = tt
  other_stands log now drawn served turn id j parts seen (Waiting g) other own k = k
  other_stands log now drawn served turn id j parts seen Holding other own k = absurd (other (sym k.1 ∙ own))

  next_length : (n : ℕ) (log : List E) (o : E) → n ≡ length log → n < 18446744073709551615 → (n + 1) % 2 ^ 64 ≡ length (log ++ o ∷ [])
  next_length n log o is small = omega (arith, length-append log (o ∷ []))

  -- the pass adds the last call of the log that it holds
  pub adds : (slots id : ℕ) (v : V) (d : D) (o : E) → v.stage ≡ Holding → v.member ≡ true → (log_of d) ≡ v.seen ++ o ∷ [] → caller o ≡ v.number → length v.seen < 18446744073709551615 → Legal v.terms.capacity (log_of d)
      → Allows Kept slots id (v, (0, Some d) ∷ []) 0 (λ n. (n + 1) % 2 ^ 64) (AddsOf log_of capacity_of caller Legal (step slots 0 1 0 none) (v, (0, Some d) ∷ []))
  adds slots id v d o is member grown by room ok s r wide at small =
      let now = (log_of d) in
      let w = added v now in
      let mine = r.each id v at in
      let k = stands_at r.log r.drawn r.served r.turn r.seat r.made r.terms id v Holding is mine in
      let own : r.turn r.served ≡ id = k.1 in
      let same : v.seen ≡ r.log = k.2 in
      let log : now ≡ r.log ++ o ∷ [] = grown ∙ ap (λ l. l ++ o ∷ []) same in
      let me = mine.3 member in
      let F = Fits now r.drawn r.served r.turn r.seat r.made r.terms in
      let later : (seen : List E) → StartsWith r.log seen → StartsWith now seen = λ seen h. subst (λ l. StartsWith l seen) (sym log) (starts_again r.log seen (o ∷ []) h) in
      let others : (n : ℕ) → n ≢ v.number → calls_by n now ≡ calls_by n r.log = λ n ne. ap (calls_by n) log ∙ calls_by-other caller n r.log o (λ e. ne (sym e ∙ by)) in
      let size : length v.seen ≡ length r.log = ap length same in (
        w,
        keeps,
        tt,
        record {
          log = now;
          drawn = r.drawn;
          served = r.served;
          turn = r.turn;
          seat = r.seat;
          made = r.made;
          terms = r.terms;
          bound = r.bound;
          words = ap (λ (ws : List ℕ). set ws 0 ((get_or ws 0 0 + 1) % 2 ^ 64)) r.words ∙ ap (λ (n : ℕ). n ∷ r.drawn % 2 ^ 64 ∷ r.served % 2 ^ 64 ∷ []) (next_length (length r.log) r.log o refl (omega arith) ∙ ap length (sym log));
          legal = subst (λ (t : Terms). Legal t.capacity now) me.3 ok;
          housed = ⊎_elim (λ (t : (d : D) × (s.homes ≡ some (Some d) ∷ []) × ((log_of d ≡ r.log) × (capacity_of d ≡ r.terms.capacity)) × Quiet s.views). absurd (t.3 id v at is))
              (λ (t : (s.homes ≡ none ∷ []) × Out s.views (r.turn r.served)). inr (t.0, (w, ap (get_elem? (set s.views id w)) own ∙ set_at s.views id v w at, is))) r.housed;
          shares = let t = total_set parts_of s.views id v w at in let a = r.shares in omega arith;
          waiting = let t = total_set waits s.views id v w at in let a = r.waiting in omega arith;
          each = each_set F s.views id w (λ j u other e. let f = r.each j u e in (
            later u.seen f.0,
            later u.told f.1,
            f.2,
            (λ m. let x = f.3 m in (x.0, x.1, others u.number (λ e. other (sym x.0 ∙ ap r.seat e ∙ me.0)) ∙ x.2, x.3)),
            other_stands r.log now r.drawn r.served r.turn id j u.parts u.seen u.stage other own f.4,
          ))
              (starts_itself now, later v.told mine.1, mine.2, (λ _. (me.0, me.1, refl, me.3)), subst (Stands now r.drawn r.served r.turn id v.parts now) (sym is) (k.0, own, refl, k.3));
          unmade = λ n above. let x = me.1 in others n (λ e. omega arith) ∙ r.unmade n above;
        },
        (refl, refl),
      )

  left_stands : (log : List E) (drawn served : ℕ) (turn : ℕ → ℕ) (id j parts : ℕ) (seen : List E) (st : Stage) → j ≢ id → turn served ≡ id → Stands log drawn served turn j parts seen st → Stands log drawn (served + 1) turn j parts seen st
  left_stands log drawn served turn id j parts seen Idle other own k = tt
  left_stands log drawn served turn id j parts seen (Waiting g) other own k =
      let low : served ≤ g = k.0 in
      let apart : g ≢ served = λ e. other (sym k.2 ∙ ap turn e ∙ own) in
      (omega arith, k.1, k.2, k.3)
  left_stands log drawn served turn id j parts seen Holding other own k = absurd (other (sym k.1 ∙ own))

  put_home : (capacity : ℕ) (log : List E) (homes : List (Maybe (Option D))) (views : List V) (holder : ℕ) (x : Maybe (Option D)) → Housed log homes views holder capacity → set homes 0 x ≡ x ∷ []
  put_home capacity log homes views holder x h = ⊎_elim (λ (t : (d : D) × (homes ≡ some (Some d) ∷ []) × ((log_of d ≡ log) × (capacity_of d ≡ capacity)) × Quiet views). ap (λ (l : List (Maybe (Option D))). set l 0 x) t.1)
      (λ (t : (homes ≡ none ∷ []) × Out views holder). ap (λ (l : List (Maybe (Option D))). set l 0 x) t.0) h

  -- the pass gives the slot back, and passes the turn
  pub leaves : (slots id : ℕ) (v : V) (d : D) → v.stage ≡ Holding → Belongs v → (log_of d) ≡ v.seen → capacity_of d ≡ v.terms.capacity → Allows Kept slots id (v, (0, Some d) ∷ []) 2 (λ n. (n + 1) % 2 ^ 64) (Leaves (step slots 2 1 0 none) (v, (0, Some d) ∷ []))
  leaves slots id v d is belongs same size s r wide at small =
      let w = at_stage Idle v in
      let mine = r.each id v at in
      let k = stands_at r.log r.drawn r.served r.turn r.seat r.made r.terms id v Holding is mine in
      let own : r.turn r.served ≡ id = k.1 in
      let F = Fits r.log r.drawn (r.served + 1) r.turn r.seat r.made r.terms in (
        w,
        gives,
        tt,
        record {
          log = r.log;
          drawn = r.drawn;
          served = r.served + 1;
          turn = r.turn;
          seat = r.seat;
          made = r.made;
          terms = r.terms;
          bound = r.bound;
          words = ap (λ (ws : List ℕ). set ws 2 ((get_or ws 2 0 + 1) % 2 ^ 64)) r.words ∙ ap (λ (n : ℕ). length r.log ∷ r.drawn % 2 ^ 64 ∷ n ∷ []) (next_ticket r.served);
          legal = r.legal;
          housed = inl (
            d,
            put_home r.terms.capacity r.log s.homes s.views (r.turn r.served) (some (Some d)) r.housed,
            (same ∙ k.2, size ∙ ap (λ (t : Terms). t.capacity) (terms_of s r id v at belongs)),
            each_set (λ _ u. u.stage ≢ Holding) s.views id w
                (λ j u other e holds. let x = stands_at r.log r.drawn r.served r.turn r.seat r.made r.terms j u Holding holds (r.each j u e) in other (sym x.1 ∙ own)) (λ e. idle_not_holding Idle refl e),
          );
          shares = let t = total_set parts_of s.views id v w at in let a = r.shares in omega arith;
          waiting = let t = total_set waits s.views id v w at in let b : waits v ≡ 1 = ap waits_at is in let a = r.waiting in omega arith;
          each = each_set F s.views id w (λ j u other e. let f = r.each j u e in (f.0, f.1, f.2, f.3, left_stands r.log r.drawn r.served r.turn id j u.parts u.seen u.stage other own f.4)) (mine.0, mine.1, mine.2, mine.3, tt);
          unmade = r.unmade;
        },
        (refl, refl),
      )

  seen_stands : (log : List E) (drawn served : ℕ) (turn : ℕ → ℕ) (j parts : ℕ) (seen : List E) (st : Stage) → Stands log drawn served turn j parts seen st → Stands log drawn served turn j parts log st
  seen_stands log drawn served turn j parts seen Idle k = tt
  seen_stands log drawn served turn j parts seen (Waiting g) k = k
  seen_stands log drawn served turn j parts seen Holding k = (k.0, k.1, refl, k.3)

  -- the pass sees the history so far
  pub sees : (slots id : ℕ) (m : Sat) → Allows Kept slots id m 0 (λ n. n) (SeesOf log_of capacity_of caller Legal (step slots 0 0 0 none) m)
  sees slots id m s r wide at small =
      let v = m.0 in
      let w = seeing v r.log in
      let mine = r.each id v at in (
        w,
        keeps,
        tt,
        moved s r 0 id m.1 v w at refl refl (starts_itself r.log, starts_empty r.log, mine.2, (λ m. let x = mine.3 m in (x.0, x.1, refl, x.3)), seen_stands r.log r.drawn r.served r.turn id v.parts v.seen v.stage mine.4),
        (
          refl,
          (
            r.log,
            refl,
            goes_on_with s r id v at,
            ap (λ (ws : List ℕ). get_or ws 0 0) (sym r.words),
            (λ e. let k = stands_at r.log r.drawn r.served r.turn r.seat r.made r.terms id v Holding e mine in sym k.2),
          ),
        ),
      )

  housed_snoc : (capacity : ℕ) (log : List E) (homes : List (Maybe (Option D))) (views : List V) (holder : ℕ) (w : V) → w.stage ≡ Idle → Housed log homes views holder capacity → Housed log homes (views ++ w ∷ []) holder capacity
  housed_snoc capacity log homes views holder w idle h = ⊎_elim
      (λ (t : (d : D) × (homes ≡ some (Some d) ∷ []) × ((log_of d ≡ log) × (capacity_of d ≡ capacity)) × Quiet views). inl (t.0, t.1, t.2, each_snoc (λ _ u. u.stage ≢ Holding) views w t.3 (idle_not_holding w.stage idle)))
      (λ (t : (homes ≡ none ∷ []) × Out views holder). inr (t.0, (t.1.0, at_longer views (w ∷ []) holder t.1.0 t.1.1, t.1.2))) h

  -- a new pass
  pub makes : (id : ℕ) (v : V) → v.makes ≡ true → v.member ≡ false → v.stage ≡ Idle → 1 ≤ v.parts → v.number < v.terms.passes → Splits Kept id v (after_making v) (newcomer v.terms v.number)
  makes id v making no_member idle room below s r at =
      let left = after_making v in
      let right = newcomer v.terms v.number in
      let mine = r.each id v at in
      let me = mine.2 making in
      let vs = set s.views id left in
      let seat : ℕ → ℕ = changed r.seat v.number (length vs) in
      let F = Fits r.log r.drawn r.served r.turn seat (r.made + 1) r.terms in
      let is : v.number ≡ r.made = me.0 in
      record {
        log = r.log;
        drawn = r.drawn;
        served = r.served;
        turn = r.turn;
        seat = seat;
        made = r.made + 1;
        terms = r.terms;
        bound = let size : v.terms.passes ≡ r.terms.passes = ap (λ (t : Terms). t.passes) me.2 in omega arith;
        words = r.words;
        legal = r.legal;
        housed = housed_snoc r.terms.capacity r.log s.homes vs (r.turn r.served) right refl (housed_set r.terms.capacity r.log s.homes s.views (r.turn r.served) (r.turn r.served) id v left at (λ e. e) (λ e. e) (λ _ _ _. refl) r.housed);
        shares = let t = total_set parts_of s.views id v left at in let u = total_snoc parts_of vs right in let a = r.shares in omega arith;
        waiting = let t = total_set waits s.views id v left at in let u = total_snoc waits vs right in let a = r.waiting in omega arith;
        each = each_snoc F vs right
            (each_set F s.views id left
            (λ j u other e. let f = r.each j u e in (
              f.0,
              f.1,
              (λ m. absurd (other ((f.2 m).1 ∙ sym me.1))),
              (λ m. let x = f.3 m in let low = x.1 in (changed_else r.seat v.number (length vs) u.number (λ y. omega arith) ∙ x.0, omega arith, x.2, x.3)),
              f.4,
            ))
            (mine.0, mine.1, (λ _. (ap (λ n. n + 1) is, me.1, me.2)), (λ m. absurd (true_false (sym no_member ∙ m))), subst (Stands r.log r.drawn r.served r.turn id (v.parts - 1) v.seen) (sym idle) tt))
            (starts_empty r.log, starts_empty r.log, (λ m. absurd (true_false m)), (λ _. (changed_here r.seat v.number (length vs) v.number refl, omega arith, r.unmade v.number (omega arith), me.2)), tt);
        unmade = λ n above. r.unmade n (omega arith);
      }
    where
      true_false : false ≡ true → ⊥
      true_false e = cc

  -- a seat that bears what the pass has seen
  pub tells : (id : ℕ) (v : V) → Splits Kept id v v (bearer v.seen)
  tells id v s r at =
      let right = bearer v.seen in
      let F = Fits r.log r.drawn r.served r.turn r.seat r.made r.terms in
      let same = set_again s.views id v at in
      subst (λ (vs : List V). Kept record { words = s.words; homes = s.homes; views = vs ++ right ∷ [] }) (sym same) record {
        log = r.log;
        drawn = r.drawn;
        served = r.served;
        turn = r.turn;
        seat = r.seat;
        made = r.made;
        terms = r.terms;
        bound = r.bound;
        words = r.words;
        legal = r.legal;
        housed = housed_snoc r.terms.capacity r.log s.homes s.views (r.turn r.served) right refl r.housed;
        shares = let u = total_snoc parts_of s.views right in let a = r.shares in omega arith;
        waiting = let u = total_snoc waits s.views right in let a = r.waiting in omega arith;
        each = each_snoc F s.views right r.each ((r.each id v at).0, starts_empty r.log, (λ m. absurd (true_false m)), (λ m. absurd (true_false m)), tt);
        unmade = r.unmade;
      }
    where
      true_false : false ≡ true → ⊥
      true_false e = cc

  -- the pass is told what another has seen
  pub hears : (id : ℕ) (v : V) (other : ℕ) (seen : List E) → Joins Kept id v other (bearer seen) (informed v (bearer seen)) (bearer [])
  hears id v other seen s r at apart there =
      let w = informed v (bearer seen) in
      let vs = set s.views id w in
      let F = Fits r.log r.drawn r.served r.turn r.seat r.made r.terms in
      let mine = r.each id v at in
      let theirs = r.each other (bearer seen) (sym (set_else s.views id other w apart) ∙ there) in
      record {
        log = r.log;
        drawn = r.drawn;
        served = r.served;
        turn = r.turn;
        seat = r.seat;
        made = r.made;
        terms = r.terms;
        bound = r.bound;
        words = r.words;
        legal = r.legal;
        housed = housed_set r.terms.capacity r.log s.homes vs (r.turn r.served) (r.turn r.served) other (bearer seen) (bearer []) there (λ e. e) (λ e. e) (λ _ _ _. refl)
            (housed_set r.terms.capacity r.log s.homes s.views (r.turn r.served) (r.turn r.served) id v w at (λ e. e) (λ e. e) (λ _ _ _. refl) r.housed);
        shares = let t = total_set parts_of s.views id v w at in let u = total_set parts_of vs other (bearer seen) (bearer []) there in let a = r.shares in omega arith;
        waiting = let t = total_set waits s.views id v w at in let u = total_set waits vs other (bearer seen) (bearer []) there in let a = r.waiting in omega arith;
        each = each_set F vs other (bearer []) (λ j u _ e. each_set F s.views id w (λ i y _ e'. r.each i y e') (mine.0, theirs.0, mine.2, mine.3, mine.4) j u e)
            (starts_empty r.log, starts_empty r.log, (λ m. absurd (true_false m)), (λ m. absurd (true_false m)), tt);
        unmade = r.unmade;
      }
    where
      true_false : false ≡ true → ⊥
      true_false e = cc

  pub begins : (terms : Terms) (d : D) → Legal terms.capacity [] → (log_of d) ≡ [] → capacity_of d ≡ terms.capacity → Kept (opening (0 ∷ 0 ∷ 0 ∷ []) (Some d ∷ []) (maker terms))
  begins terms d ok empty size = record {
    terms = terms;
    log = [];
    drawn = 0;
    served = 0;
    turn = λ _. 0;
    seat = λ _. 0;
    made = 0;
    bound = omega arith;
    words = refl;
    legal = ok;
    housed = inl (d, refl, (empty, size), one (λ _ u. u.stage ≢ Holding) (λ e. idle_not_holding Idle refl e));
    shares = refl;
    waiting = refl;
    each = one (Fits [] 0 0 (λ _. 0) (λ _. 0) 0 terms) (([], refl), ([], refl), (λ _. (refl, refl, refl)), (λ m. absurd (true_false m)), tt);
    unmade = λ _ _. refl;
  }
    where
      true_false : false ≡ true → ⊥
      true_false e = cc

      one : (P : ℕ → V → Type 0) → P 0 (maker terms) → (j : ℕ) (v : V) → get_elem? (maker terms ∷ []) j ≡ some v → P j v
      one P mine zero v e = subst (P 0) (some-injective _ _ e) mine
      one P mine (suc j) v e = absurd (some-ne-none v (sym e))

  -- the same of a seat that is known by what it may do
  pub draws_at : (slots id : ℕ) (m : Sat) → MayDraw m → Allows Kept slots id m 1 (λ n. (n + 1) % 2 ^ 64) (Draws (step slots 1 1 0 none) m)
  draws_at slots id m may = subst (λ (c : List (ℕ × Option D)). Allows Kept slots id (m.0, c) 1 (λ n. (n + 1) % 2 ^ 64) (Draws (step slots 1 1 0 none) (m.0, c))) (sym may.2) (draws slots id m.0 may.0 may.1)

  pub looks_at : (slots id : ℕ) (v : V) (ticket : ℕ) (m : Sat) → Waits v ticket m → Allows Kept slots id m 2 (λ n. n) (LooksOf log_of capacity_of caller Legal (step slots 2 0 0 none) m)
  looks_at slots id v ticket m w = subst (λ (x : Sat). Allows Kept slots id x 2 (λ n. n) (LooksOf log_of capacity_of caller Legal (step slots 2 0 0 none) x)) (sym w.2) (looks slots id w.0 (at_stage (Waiting w.0) v) refl)

  pub adds_at : (slots id : ℕ) (m : Sat) (v : V) (d : D) (o : E) → m ≡ (v, (0, Some d) ∷ []) → v.stage ≡ Holding → v.member ≡ true → (log_of d) ≡ v.seen ++ o ∷ [] → caller o ≡ v.number → length v.seen < 18446744073709551615 → Legal v.terms.capacity (log_of d)
      → Allows Kept slots id m 0 (λ n. (n + 1) % 2 ^ 64) (AddsOf log_of capacity_of caller Legal (step slots 0 1 0 none) m)
  adds_at slots id m v d o same is member grown by room ok = subst (λ (x : Sat). Allows Kept slots id x 0 (λ n. (n + 1) % 2 ^ 64) (AddsOf log_of capacity_of caller Legal (step slots 0 1 0 none) x)) (sym same) (adds slots id v d o is member grown by room ok)

  pub leaves_at : (slots id : ℕ) (m : Sat) (v : V) (d : D) → m ≡ (v, (0, Some d) ∷ []) → v.stage ≡ Holding → Belongs v → (log_of d) ≡ v.seen → capacity_of d ≡ v.terms.capacity → Allows Kept slots id m 2 (λ n. (n + 1) % 2 ^ 64) (Leaves (step slots 2 1 0 none) m)
  leaves_at slots id m v d same is belongs log size = subst (λ (x : Sat). Allows Kept slots id x 2 (λ n. (n + 1) % 2 ^ 64) (Leaves (step slots 2 1 0 none) x)) (sym same) (leaves slots id v d is belongs log size)

  pub hears_at : (id : ℕ) (v : V) (other : ℕ) (u : V) (seen : List E) → u ≡ bearer seen → Joins Kept id v other u (informed v u) (bearer [])
  hears_at id v other u seen is = subst (λ (x : V). Joins Kept id v other x (informed v x) (bearer [])) (sym is) (hears id v other seen)

  pub tells_at : (id : ℕ) (v : V) → Splits Kept id v v (bearer v.seen)
  tells_at = tells

  pub makes_at : (terms : Terms) (id n : ℕ) (v : V) → v ≡ maker_at terms n → n < terms.passes → n < all_parts → Splits Kept id v (after_making v) (newcomer v.terms v.number)
  makes_at terms id n v is below room = makes id v (ap (λ (x : V). x.makes) is) (ap (λ (x : V). x.member) is) (ap (λ (x : V). x.stage) is) (let e : v.parts ≡ all_parts - n = ap (λ (x : V). x.parts) is in omega arith) (let e : v.number ≡ n = ap (λ (x : V). x.number) is in let size : v.terms.passes ≡ terms.passes = ap (λ (x : V). x.terms.passes) is in omega arith)

  pub begins_at : (terms : Terms) (d : D) (ws : List ℕ) (slots : List (Option D)) → Legal terms.capacity [] → (log_of d) ≡ [] → capacity_of d ≡ terms.capacity → ws ≡ 0 ∷ 0 ∷ 0 ∷ [] → slots ≡ Some d ∷ []
      → Kept (opening ws slots (maker terms))
  begins_at terms d ws slots ok empty size words is = subst (λ (x : List ℕ). Kept (opening x slots (maker terms))) (sym words) (subst (λ (x : List (Option D)). Kept (opening (0 ∷ 0 ∷ 0 ∷ []) x (maker terms))) (sym is) (begins terms d ok empty size))
