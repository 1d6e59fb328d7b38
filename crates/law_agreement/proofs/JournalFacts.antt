-- What each change of a journal in sections does to the records that it holds.
use Rattle.std.proofs.Common.{◌≡◌, ℕ, ◌≤◌, ◌==◌, ◌⊎◌, Bool, true, false, nat_lt, nat_le, if◌then◌else◌, eqb-true, List, [], ◌∷◌, ◌++◌, take, Contains, refl, ap, ap₂, ◌∙◌, subst, inl, inr, arith, append-nil, append_assoc, leb-false}
use Rattle.std.proofs.lemmas.List.Elements.{All-contains, All-contains_itself, All-take, Contains-append_left, Contains-append_right, Contains-append_cases, Contains-push, Contains-push_cases}
use Rattle.law_agreement.specs.Artifacts.{Artifact, artifact_view}
use Rattle.law_agreement.proofs.ListFacts.{not_in_empty, Contains-here, Contains-there, Contains-cons_cases}
use Rattle.law_agreement.proofs.Knowing.{Within}
use Rattle.law_agreement.specs.Journal.{Section, opened, append_to, append, append_all, synced_section, sync, left, prune, kept, held, waiting}

-- ---- an append
append_kept_at : (v : ℕ) (a : Artifact) (s : Section) (rest : List Section) (b c : Bool)
    → (if b then record s { pending = s.pending ++ a ∷ [] } ∷ rest else (if c then opened v a ∷ s ∷ rest else s ∷ append_to v a rest)) ≡ (if b then record s { pending = s.pending ++ a ∷ [] } ∷ rest else (if c then opened v a ∷ s ∷ rest else s ∷ append_to v a rest))
    → kept (append_to v a rest) ≡ kept rest
    → kept (if b then record s { pending = s.pending ++ a ∷ [] } ∷ rest else (if c then opened v a ∷ s ∷ rest else s ∷ append_to v a rest)) ≡ kept (s ∷ rest)
append_kept_at v a s rest true c u ih = refl
append_kept_at v a s rest false true u ih = refl
append_kept_at v a s rest false false u ih = ap (λ xs. s.synced ++ xs) ih

pub append_kept : (v : ℕ) (a : Artifact) (j : List Section) → kept (append_to v a j) ≡ kept j
append_kept v a [] = refl
append_kept v a (s ∷ rest) = append_kept_at v a s rest (s.view == v) (nat_lt v s.view) refl (append_kept v a rest)

-- the records held are those from before, and the new one
pub record Adds (xs ys : List Artifact) (a : Artifact) : Type 0 where
  pub old : Within xs ys
  pub new : Contains ys a
  pub only : (b : Artifact) → Contains ys b → Contains xs b ⊎ (a ≡ b)

in_middle : (xs ys zs : List Artifact) (b : Artifact) → Contains (xs ++ zs) b → Contains ((xs ++ ys) ++ zs) b
in_middle xs ys zs b c =
    elim (Contains-append_cases xs zs b c) [
      | inl l ↦ Contains-append_left (xs ++ ys) zs b (Contains-append_left xs ys b l)
      | inr r ↦ Contains-append_right (xs ++ ys) zs b r
    ]

adds_middle : (xs zs : List Artifact) (a : Artifact) → Adds (xs ++ zs) ((xs ++ a ∷ []) ++ zs) a
adds_middle xs zs a =
    record {
      old = in_middle xs (a ∷ []) zs;
      new = Contains-append_left (xs ++ a ∷ []) zs a (Contains-push xs a);
      only = λ b c. elim (Contains-append_cases (xs ++ a ∷ []) zs b c) [
        | inl l ↦ elim (Contains-push_cases xs a b l) [ inl o ↦ inl (Contains-append_left xs zs b o) | inr e ↦ inr e ]
        | inr r ↦ inl (Contains-append_right xs zs b r)
      ];
    }

adds_under : (xs ys zs : List Artifact) (a : Artifact) → Adds ys zs a → Adds (xs ++ ys) (xs ++ zs) a
adds_under xs ys zs a h =
    record {
      old = λ b c. elim (Contains-append_cases xs ys b c) [ inl l ↦ Contains-append_left xs zs b l | inr r ↦ Contains-append_right xs zs b (h.old b r) ];
      new = Contains-append_right xs zs a h.new;
      only = λ b c. elim (Contains-append_cases xs zs b c) [
        | inl l ↦ inl (Contains-append_left xs ys b l)
        | inr r ↦ elim (h.only b r) [ inl o ↦ inl (Contains-append_right xs ys b o) | inr e ↦ inr e ]
      ];
    }

append_held_at : (v : ℕ) (a : Artifact) (s : Section) (rest : List Section) (b c : Bool) → Adds (held rest) (held (append_to v a rest)) a
    → Adds (held (s ∷ rest)) (held (if b then record s { pending = s.pending ++ a ∷ [] } ∷ rest else (if c then opened v a ∷ s ∷ rest else s ∷ append_to v a rest))) a
append_held_at v a s rest true c ih = rw (← append_assoc s.synced s.pending (a ∷ [])) (adds_middle (s.synced ++ s.pending) (held rest) a)
append_held_at v a s rest false true ih = adds_middle [] (held (s ∷ rest)) a
append_held_at v a s rest false false ih = adds_under (s.synced ++ s.pending) (held rest) (held (append_to v a rest)) a ih

pub append_held : (v : ℕ) (a : Artifact) (j : List Section) → Adds (held j) (held (append_to v a j)) a
append_held v a [] = record { old = λ b c. absurd (not_in_empty b c); new = Contains-here a []; only = λ b c. Contains-push_cases [] a b c }
append_held v a (s ∷ rest) = append_held_at v a s rest (s.view == v) (nat_lt v s.view) (append_held v a rest)

-- ---- a sync, a stop
pub kept_held : (j : List Section) → Within (kept j) (held j)
kept_held [] b c = c
kept_held (s ∷ rest) b c =
    elim (Contains-append_cases s.synced (kept rest) b c) [
      | inl l ↦ Contains-append_left (s.synced ++ s.pending) (held rest) b (Contains-append_left s.synced s.pending b l)
      | inr r ↦ Contains-append_right (s.synced ++ s.pending) (held rest) b (kept_held rest b r)
    ]

none_left : (xs ys : List Artifact) → xs ++ ys ≡ [] → xs ≡ []
none_left [] ys e = refl
none_left (x ∷ xs) ys e = cc

none_right : (xs ys : List Artifact) → xs ++ ys ≡ [] → ys ≡ []
none_right [] ys e = e
none_right (x ∷ xs) ys e = cc

-- with nothing pending, all that is held is kept
pub held_kept : (j : List Section) → waiting j ≡ [] → held j ≡ kept j
held_kept [] e = refl
held_kept (s ∷ rest) e =
    ap₂ (λ (xs : List Artifact) (ys : List Artifact). xs ++ ys)
    (ap (λ ys. s.synced ++ ys) (none_left s.pending (waiting rest) e) ∙ append-nil s.synced)
    (held_kept rest (none_right s.pending (waiting rest) e))

synced_held : (s : Section) (b : Bool) → (if b then synced_section s else s).synced ++ (if b then synced_section s else s).pending ≡ s.synced ++ s.pending
synced_held s true = append-nil (s.synced ++ s.pending)
synced_held s false = refl

pub sync_held : (v : ℕ) (j : List Section) → held (sync v j) ≡ held j
sync_held v [] = refl
sync_held v (s ∷ rest) = ap₂ (λ (xs : List Artifact) (ys : List Artifact). xs ++ ys) (synced_held s (s.view == v)) (sync_held v rest)

-- what is kept in a longer front and a longer rest
pub both_within : (xs xs' ys ys' : List Artifact) → Within xs xs' → Within ys ys' → Within (xs ++ ys) (xs' ++ ys')
both_within xs xs' ys ys' f g b c =
    elim (Contains-append_cases xs ys b c) [ inl l ↦ Contains-append_left xs' ys' b (f b l) | inr r ↦ Contains-append_right xs' ys' b (g b r) ]

synced_more : (s : Section) (b : Bool) → Within s.synced (if b then synced_section s else s).synced
synced_more s true a c = Contains-append_left s.synced s.pending a c
synced_more s false a c = c

pub sync_kept : (v : ℕ) (j : List Section) → Within (kept j) (kept (sync v j))
sync_kept v [] b c = c
sync_kept v (s ∷ rest) b c = both_within s.synced (if s.view == v then synced_section s else s).synced (kept rest) (kept (sync v rest)) (synced_more s (s.view == v)) (sync_kept v rest) b c

pub left_kept : (keep : ℕ → ℕ) (j : List Section) → Within (kept j) (kept (left keep j))
left_kept keep [] b c = c
left_kept keep (s ∷ rest) b c = both_within s.synced (s.synced ++ take (keep s.view) s.pending) (kept rest) (kept (left keep rest)) (λ a d. Contains-append_left s.synced (take (keep s.view) s.pending) a d) (left_kept keep rest) b c

pub take_within : (keep : ℕ) (xs : List Artifact) → Within (take keep xs) xs
take_within keep xs a c = All-contains (Contains xs) (take keep xs) a (All-take (Contains xs) keep xs (All-contains_itself xs)) c

-- a section that a crash leaves holds nothing new
left_section : (keep : ℕ) (s : Section) → Within ((s.synced ++ take keep s.pending) ++ []) (s.synced ++ s.pending)
left_section keep s a c = both_within s.synced s.synced (take keep s.pending) s.pending (λ x d. d) (take_within keep s.pending) a (rw append-nil at c)

pub left_held : (keep : ℕ → ℕ) (j : List Section) → Within (held (left keep j)) (held j)
left_held keep [] b c = c
left_held keep (s ∷ rest) b c =
    both_within ((s.synced ++ take (keep s.view) s.pending) ++ []) (s.synced ++ s.pending) (held (left keep rest)) (held rest) (left_section (keep s.view) s) (left_held keep rest) b c

pub left_waiting : (keep : ℕ → ℕ) (j : List Section) → waiting (left keep j) ≡ []
left_waiting keep [] = refl
left_waiting keep (s ∷ rest) = left_waiting keep rest

-- ---- each record stands in its section
abbrev pub Placed : List Section → Type 0
Placed [] = Unit {0}
Placed (s ∷ rest) = ((a : Artifact) → Contains (s.synced ++ s.pending) a → artifact_view a ≡ s.view) × Placed rest

append_placed_at : (v : ℕ) (a : Artifact) → artifact_view a ≡ v → (s : Section) (rest : List Section) (b c : Bool) → (s.view == v) ≡ b → Placed (s ∷ rest) → Placed (append_to v a rest)
    → Placed (if b then record s { pending = s.pending ++ a ∷ [] } ∷ rest else (if c then opened v a ∷ s ∷ rest else s ∷ append_to v a rest))
append_placed_at v a is s rest true c e h ih = (
  λ x d. elim (Contains-push_cases (s.synced ++ s.pending) a x (rw (← append_assoc) at d)) [ inl o ↦ h.0 x o | inr n ↦ omega (arith, ap artifact_view n, is, eqb-true s.view v e) ],
  h.1,
)
append_placed_at v a is s rest false true e h ih = (λ x d. elim (Contains-push_cases [] a x d) [ inl o ↦ absurd (not_in_empty x o) | inr n ↦ omega (arith, ap artifact_view n, is) ], h)
append_placed_at v a is s rest false false e h ih = (h.0, ih)

append_to_placed : (v : ℕ) (a : Artifact) → artifact_view a ≡ v → (j : List Section) → Placed j → Placed (append_to v a j)
append_to_placed v a is [] h = (λ x d. elim (Contains-push_cases [] a x d) [ inl o ↦ absurd (not_in_empty x o) | inr n ↦ omega (arith, ap artifact_view n, is) ], tt)
append_to_placed v a is (s ∷ rest) h = append_placed_at v a is s rest (s.view == v) (nat_lt v s.view) refl h (append_to_placed v a is rest h.1)

pub append_placed : (a : Artifact) (j : List Section) → Placed j → Placed (append a j)
append_placed a j h = append_to_placed (artifact_view a) a refl j h

pub append_all_placed : (xs : List Artifact) (j : List Section) → Placed j → Placed (append_all xs j)
append_all_placed [] j h = h
append_all_placed (a ∷ xs) j h = append_all_placed xs (append a j) (append_placed a j h)

sync_placed_at : (s : Section) (b : Bool) → ((a : Artifact) → Contains (s.synced ++ s.pending) a → artifact_view a ≡ s.view)
    → (a : Artifact) → Contains ((if b then synced_section s else s).synced ++ (if b then synced_section s else s).pending) a → artifact_view a ≡ (if b then synced_section s else s).view
sync_placed_at s true h a c = h a (rw append-nil at c)
sync_placed_at s false h a c = h a c

pub sync_placed : (v : ℕ) (j : List Section) → Placed j → Placed (sync v j)
sync_placed v [] h = tt
sync_placed v (s ∷ rest) h = (sync_placed_at s (s.view == v) h.0, sync_placed v rest h.1)

pub left_placed : (keep : ℕ → ℕ) (j : List Section) → Placed j → Placed (left keep j)
left_placed keep [] h = tt
left_placed keep (s ∷ rest) h = (
  λ a c. h.0 a (left_section (keep s.view) s a c),
  left_placed keep rest h.1,
)

-- ---- a prune
prune_placed_at : (s : Section) (rest : List Section) (b : Bool) → Placed (s ∷ rest) → (ys : List Section) → Placed ys → Placed (if b then s ∷ ys else ys)
prune_placed_at s rest true h ys k = (h.0, k)
prune_placed_at s rest false h ys k = k

pub prune_placed : (min : ℕ) (j : List Section) → Placed j → Placed (prune min j)
prune_placed min [] h = tt
prune_placed min (s ∷ rest) h = prune_placed_at s rest (nat_le min s.view) h (prune min rest) (prune_placed min rest h.1)

prune_within_at : (s : Section) (b : Bool) (ys zs : List Section) → Within (kept ys) (kept zs) → Within (kept (if b then s ∷ ys else ys)) (kept (s ∷ zs))
prune_within_at s true ys zs f a c = both_within s.synced s.synced (kept ys) (kept zs) (λ x d. d) f a c
prune_within_at s false ys zs f a c = Contains-append_right s.synced (kept zs) a (f a c)

pub prune_within : (min : ℕ) (j : List Section) → Within (kept (prune min j)) (kept j)
prune_within min [] a c = c
prune_within min (s ∷ rest) a c = prune_within_at s (nat_le min s.view) (prune min rest) rest (prune_within min rest) a c

prune_held_at : (s : Section) (b : Bool) (ys zs : List Section) → Within (held ys) (held zs) → Within (held (if b then s ∷ ys else ys)) (held (s ∷ zs))
prune_held_at s true ys zs f a c = both_within (s.synced ++ s.pending) (s.synced ++ s.pending) (held ys) (held zs) (λ x d. d) f a c
prune_held_at s false ys zs f a c = Contains-append_right (s.synced ++ s.pending) (held zs) a (f a c)

pub prune_held : (min : ℕ) (j : List Section) → Within (held (prune min j)) (held j)
prune_held min [] a c = c
prune_held min (s ∷ rest) a c = prune_held_at s (nat_le min s.view) (prune min rest) rest (prune_held min rest) a c

prune_has_at : (min : ℕ) (s : Section) (b : Bool) → nat_le min s.view ≡ b → (ys : List Section) (a : Artifact) → (Contains s.synced a → min ≤ s.view) → Contains s.synced a ⊎ Contains (kept ys) a → Contains (kept (if b then s ∷ ys else ys)) a
prune_has_at min s true e ys a h (inl l) = Contains-append_left s.synced (kept ys) a l
prune_has_at min s true e ys a h (inr r) = Contains-append_right s.synced (kept ys) a r
prune_has_at min s false e ys a h (inl l) = absurd (omega (arith, leb-false min s.view e, h l))
prune_has_at min s false e ys a h (inr r) = r

pub prune_has : (min : ℕ) (j : List Section) → Placed j → (a : Artifact) → min ≤ artifact_view a → Contains (kept j) a → Contains (kept (prune min j)) a
prune_has min [] p a h c = c
prune_has min (s ∷ rest) p a h c =
    prune_has_at min s (nat_le min s.view) refl (prune min rest) a (λ l. omega (arith, p.0 a (Contains-append_left s.synced s.pending a l), h))
    (elim (Contains-append_cases s.synced (kept rest) a c) [ inl l ↦ inl l | inr r ↦ inr (prune_has min rest p.1 a h r) ])

prune_waiting_at : (s : Section) (b : Bool) (ys : List Section) → s.pending ≡ [] → waiting ys ≡ [] → waiting (if b then s ∷ ys else ys) ≡ []
prune_waiting_at s true ys e f = rw e f
prune_waiting_at s false ys e f = f

pub prune_waiting : (min : ℕ) (j : List Section) → waiting j ≡ [] → waiting (prune min j) ≡ []
prune_waiting min [] e = refl
prune_waiting min (s ∷ rest) e = prune_waiting_at s (nat_le min s.view) (prune min rest) (none_left s.pending (waiting rest) e) (prune_waiting min rest (none_right s.pending (waiting rest) e))

-- ---- several appends
pub append_all_from : (xs : List Artifact) (j : List Section) → Within (held (append_all xs j)) (held j ++ xs)
append_all_from [] j a c = rw append-nil c
append_all_from (x ∷ xs) j a c =
    elim (Contains-append_cases (held (append x j)) xs a (append_all_from xs (append x j) a c)) [
      | inl l ↦ elim ((append_held (artifact_view x) x j).only a l) [
        | inl o ↦ Contains-append_left (held j) (x ∷ xs) a o
        | inr e ↦ Contains-append_right (held j) (x ∷ xs) a (0, omega arith, e)
      ]
      | inr r ↦ Contains-append_right (held j) (x ∷ xs) a (Contains-there x xs a r)
    ]

pub append_all_to : (xs : List Artifact) (j : List Section) → Within (held j ++ xs) (held (append_all xs j))
append_all_to [] j a c = rw append-nil at c
append_all_to (x ∷ xs) j a c =
    append_all_to xs (append x j) a
    (elim (Contains-append_cases (held j) (x ∷ xs) a c) [
      | inl l ↦ Contains-append_left (held (append x j)) xs a ((append_held (artifact_view x) x j).old a l)
      | inr r ↦ elim (Contains-cons_cases x xs a r) [
        | inl e ↦ Contains-append_left (held (append x j)) xs a (subst (Contains (held (append x j))) e (append_held (artifact_view x) x j).new)
        | inr t ↦ Contains-append_right (held (append x j)) xs a t
      ]
    ])

pub append_all_kept : (xs : List Artifact) (j : List Section) → kept (append_all xs j) ≡ kept j
append_all_kept [] j = refl
append_all_kept (x ∷ xs) j = append_all_kept xs (append x j) ∙ append_kept (artifact_view x) x j
