-- The views that wait, and what is asked for them.
use Rattle.std.proofs.Common.{◌≡◌, ℕ, ◌+◌, ◌<◌, ◌&&◌, not, Bool, true, List, [], ◌∷◌, ◌++◌, map, filter, option_to_list, Option, Some, None, refl, sym, ap, ◌∙◌, subst, append_assoc, ◌≤◌, length, drop, get_or, Less, arith, if◌then◌else◌}
use Rattle.std.proofs.lemmas.Grind.{common_steps}
use Rattle.std.proofs.lemmas.List.{drop_all, at_drop_more}
use Rattle.std.specs.Ordering.{nat_cmp}
use Rattle.std.specs.List.{list_any, filter_map, cons_option, AllByRecursion}
use Rattle.std.specs.List.Sorted.{IsStrictlySortedBy}
use Rattle.std.specs.Option.{is_some, option_and_then}
use Rattle.std.specs.BTreeMap.{is_at}
use Rattle.std.specs.BTreeSet.{BTreeSet}
use Rattle.simplex_values.specs.declared.proposal.Proposal.{Proposal}
use Rattle.simplex_wire.specs.declared.certificate.Notarization.{Notarization}
use Rattle.simplex_wire.specs.declared.certificate.Certificate.TheVariants as certificates
use Rattle.model_rules.specs.declared.request.CertificateFetch.{CertificateFetch}
use Rattle.model_rules.specs.Lists.{first_of}
use Rattle.model_rules.specs.Known.{Made, Fact, Added, CertifyAsked, ParentAsked, view_of, notarization_in, notarization_of}
use Rattle.model_rules.specs.Calls.{CertifyCandidates, facts_of}
use Rattle.model_rules.specs.Requests.{is_parent_in, is_unjudged, may_certify, lacks_parent, notarizations_of, certify_requests, parent_fetches}
use Rattle.model_rules.specs.Ancestry.{is_certified}
use Rattle.simplex_values.specs.Maps.{has}
use Rattle.simplex_state.specs.Certifying.{proposal_to_certify, parent_to_fetch, certify_at, fetch_at, open_at, is_lacking}
use Rattle.simplex_state.proofs.Gathering.{rises, is_listed, known_rise, known_at, gathers, given}

-- ---- the views of a set

kept_in : (test : ℕ → Bool) (q : ℕ) (ks : List ℕ) → list_any (is_at (nat_cmp q)) (filter test ks) ≡ (list_any (is_at (nat_cmp q)) ks && test q)
kept_in test q [] = refl
kept_in test q (k ∷ ks) = grind (arith, common_steps, kept_in test q ks)

-- the views that pass a test stay
pub kept : (test : ℕ → Bool) (before after : BTreeSet ℕ) (q : ℕ) → after.keys ≡ filter test before.keys → has after q ≡ (has before q && test q)
unfolding has
kept test before after q e = ap (list_any (is_at (nat_cmp q))) e ∙ kept_in test q before.keys

rises_behind : (k : ℕ) (ks : List ℕ) → AllByRecursion (λ y. nat_cmp k y ≡ Less) ks → IsStrictlySortedBy nat_cmp ks → rises (k + 1) ks ≡ true
unfolding IsStrictlySortedBy
rises_behind k [] above sorted = refl
rises_behind k (m ∷ ks) above sorted = grind (arith, common_steps, above.0, rises_behind m ks sorted.0 sorted.1)

-- the views of a set rise
pub keys_rise : (ks : List ℕ) → IsStrictlySortedBy nat_cmp ks → rises 0 ks ≡ true
unfolding IsStrictlySortedBy
keys_rise [] sorted = refl
keys_rise (k ∷ ks) sorted = grind (arith, common_steps, rises_behind k ks sorted.0 sorted.1)

listed : (q : ℕ) (ks : List ℕ) → list_any (is_at (nat_cmp q)) ks ≡ is_listed q ks
listed q [] = refl
listed q (k ∷ ks) = grind (arith, common_steps, listed q ks)

has_listed : (s : BTreeSet ℕ) (q : ℕ) → has s q ≡ is_listed q s.keys
unfolding has
has_listed s q = listed q s.keys

-- ---- what is asked for a view was notarized, and waits

in_view : (view : ℕ) (f : Fact) (n : Notarization) → notarization_in view f ≡ Some n → view_of n.proposal ≡ view
in_view view (Added (certificates.Notarization m) now) n e = grind (arith, e)
in_view view _ n e = cc

of_view : (known : List Fact) (view : ℕ) (n : Notarization) → first_of (notarization_in view) known ≡ Some n → view_of n.proposal ≡ view
unfolding first_of
of_view [] view n e = cc
of_view (f ∷ known) view n e = grind (arith, common_steps, e, of_view known view n, in_view view f n)

pub certify_waits : (known : List Fact) (view : ℕ) (found : Option Notarization) → notarization_of known view ≡ found
    → is_some (certify_at known view) ≡ true → (is_some (notarization_of known view) ≡ true) × (is_unjudged known view ≡ true)
unfolding certify_at may_certify notarization_of
certify_waits known view None e some = (grind (arith, common_steps, e, some), grind (arith, common_steps, e, some))
certify_waits known view (Some n) e some =
    (let v = of_view known view n e in (grind (arith, common_steps, e, some), grind (arith, common_steps, e, some, v)))

pub fetch_waits : (known : List Fact) (view : ℕ) (found : Option Notarization) → notarization_of known view ≡ found
    → is_some (fetch_at known view) ≡ true → (is_some (notarization_of known view) ≡ true) × (is_unjudged known view ≡ true)
unfolding fetch_at lacks_parent notarization_of
fetch_waits known view None e some = (grind (arith, common_steps, e, some), grind (arith, common_steps, e, some))
fetch_waits known view (Some n) e some =
    (let v = of_view known view n e in (grind (arith, common_steps, e, some), grind (arith, common_steps, e, some, v)))

-- by the view's proposal
pub certify_by : (known : List Fact) (view : ℕ) (found : Option Notarization) → notarization_of known view ≡ found
    → certify_at known view ≡ option_and_then (λ p. if is_certified known p.parent then Some p else None) (open_at known view)
unfolding certify_at open_at may_certify notarization_of
certify_by known view None e = grind (arith, common_steps, e)
certify_by known view (Some n) e = (let v = of_view known view n e in grind (arith, common_steps, e, v))

pub fetch_by : (known : List Fact) (view : ℕ) (found : Option Notarization) → notarization_of known view ≡ found
    → fetch_at known view
    ≡ option_and_then (λ p. if is_lacking known p.parent && not (list_any (is_parent_in view) known) then Some (record { proposal = view; view = p.parent }) else None) (open_at known view)
unfolding fetch_at open_at lacks_parent is_lacking notarization_of
fetch_by known view None e = grind (arith, common_steps, e)
fetch_by known view (Some n) e = (let v = of_view known view n e in grind (arith, common_steps, e, v))

-- ---- the walk over the views that wait

all_listed : (known : List Fact) (waiting : BTreeSet ℕ) (view : ℕ)
    → ((q : ℕ) → is_some (notarization_of known q) ≡ true → is_unjudged known q ≡ true → has waiting q ≡ true)
    → (is_some (notarization_of known view) ≡ true) × (is_unjudged known view ≡ true) → is_listed view waiting.keys ≡ true
all_listed known waiting view waits both = sym (has_listed waiting view) ∙ waits view both.0 both.1

pub certify_walk : (known : List Fact) (waiting : BTreeSet ℕ) → IsStrictlySortedBy nat_cmp waiting.keys
    → ((q : ℕ) → is_some (notarization_of known q) ≡ true → is_unjudged known q ≡ true → has waiting q ≡ true)
    → filter_map (certify_at known) waiting.keys ≡ certify_requests known
unfolding certify_at certify_requests
certify_walk known waiting sorted waits =
    gathers (proposal_to_certify known) (notarization_of known) (length waiting.keys + length (notarizations_of known)) 0 waiting.keys (notarizations_of known)
    (omega arith) (keys_rise waiting.keys sorted) (known_rise known)
    (λ v low. known_at known v)
    (λ v low some. all_listed known waiting v waits (certify_waits known v (notarization_of known v) refl some))
    ∙ given (may_certify known) (λ n. n.proposal) (notarizations_of known)

pub fetch_walk : (known : List Fact) (waiting : BTreeSet ℕ) → IsStrictlySortedBy nat_cmp waiting.keys
    → ((q : ℕ) → is_some (notarization_of known q) ≡ true → is_unjudged known q ≡ true → has waiting q ≡ true)
    → filter_map (fetch_at known) waiting.keys ≡ parent_fetches known
unfolding fetch_at parent_fetches
fetch_walk known waiting sorted waits =
    gathers (parent_to_fetch known) (notarization_of known) (length waiting.keys + length (notarizations_of known)) 0 waiting.keys (notarizations_of known)
    (omega arith) (keys_rise waiting.keys sorted) (known_rise known)
    (λ v low. known_at known v)
    (λ v low some. all_listed known waiting v waits (fetch_waits known v (notarization_of known v) refl some))
    ∙ given (lacks_parent known) (λ n. record { proposal = view_of n.proposal; view = n.proposal.parent }) (notarizations_of known)

-- ---- the steps of loops

cons_is : {A : Type 0} (o : Option A) (xs : List A) → cons_option o xs ≡ option_to_list o ++ xs
cons_is None xs = refl
cons_is (Some x) xs = refl

-- one more view of a walk
pub walk_turn : {A : Type 0} (give : ℕ → Option A) (old new all : List A) (left rest : List ℕ) (v : ℕ)
    → left ≡ v ∷ rest → new ≡ old ++ option_to_list (give v) → old ++ filter_map give left ≡ all → new ++ filter_map give rest ≡ all
walk_turn give old new all left rest v is more so_far =
    ap (λ xs. xs ++ filter_map give rest) more
    ∙ append_assoc old (option_to_list (give v)) (filter_map give rest)
    ∙ ap (λ xs. old ++ xs) (sym (cons_is (give v) (filter_map give rest)))
    ∙ ap (λ vs. old ++ filter_map give vs) (sym is)
    ∙ so_far

-- no view is left of a walk
pub walk_end : {A : Type 0} (give : ℕ → Option A) (items all : List A) (left : List ℕ)
    → left ≡ [] → items ++ filter_map give left ≡ all → items ≡ all
walk_end give items all left none so_far = grind (arith, common_steps, none, so_far)

-- facts of two lists, before others
pub behind_both : (P : List Fact → Type 0) (first second known : List Fact) → P (first ++ (second ++ known)) → P ((first ++ second) ++ known)
behind_both P first second known p = rw (append_assoc first second known) p

-- ---- facts of a list, the last one's added first

-- what the call adds
pub asked_is : (made : Made) (known : List Fact) (proposals : List Proposal) (fetches : List CertificateFetch)
    → proposals ≡ certify_requests known → fetches ≡ parent_fetches known
    → facts_of made known CertifyCandidates ≡ map (λ (f : CertificateFetch). ParentAsked f.proposal) fetches ++ map (λ p. CertifyAsked (view_of p)) proposals
unfolding facts_of
asked_is made known proposals fetches ps fs = rw (ps, fs) refl

pub marked_first : {A : Type 0} (P : List Fact → Type 0) (f : A → Fact) (xs : List A) (n : ℕ) (known : List Fact)
    → length xs ≤ n → P known → P (map f (drop n xs) ++ known)
marked_first P f xs n known le p = let e : drop n xs ≡ [] = drop_all n xs le in rw e p

pub marked_more : {A : Type 0} (P : List Fact → Type 0) (f : A → Fact) (xs : List A) (n i : ℕ) (known : List Fact) (x : A) (fact : Fact)
    → n ≡ i + 1 → i < length xs → x ≡ get_or xs i x → fact ≡ f x
    → P (fact ∷ (map f (drop n xs) ++ known)) → P (map f (drop i xs) ++ known)
marked_more P f xs n i known x fact up inside is says p =
    let e : drop i xs ≡ x ∷ drop n xs = at_drop_more (λ ys. ys) xs i x inside ∙ ap (λ y. y ∷ drop (i + 1) xs) (sym is) ∙ ap (λ k. x ∷ drop k xs) (sym up) in
    rw e (subst (λ y. P (y ∷ (map f (drop n xs) ++ known))) says p)

pub marked_all : {A : Type 0} (P : List Fact → Type 0) (f : A → Fact) (xs : List A) (n : ℕ) (known : List Fact)
    → n ≤ 0 → P (map f (drop n xs) ++ known) → P (map f xs ++ known)
marked_all P f xs n known le p = let e : n ≡ 0 = omega (arith, le) in rw e at p
