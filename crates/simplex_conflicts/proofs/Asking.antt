-- What is asked of the subjects that are known, and what the views that are kept tell of it.
use Rattle.std.proofs.Common.{◌≡◌, ℕ, ◌+◌, ◌<◌, ◌≤◌, ◌==◌, ◌||◌, nat_lt, nat_le, Bool, true, false, List, refl, sym, ap, ◌∙◌, arith, eqb-true, eq-eqb, ltb-true, ltb-false, lt-ltb, leb-true, le-leb}
use Rattle.std.specs.List.{list_any}
use Rattle.std.proofs.lemmas.Bool.{and_parts}
use Rattle.simplex_values.specs.declared.proposal.Proposal.{Proposal}
use Rattle.simplex_values.specs.declared.proposal.Subject.{Subject}
use Rattle.simplex_values.specs.declared.proposal.Subject.TheVariants.{Notarize, Nullify, Finalize}
use Rattle.simplex_values.specs.declared.round.Round.{Round}
use Rattle.simplex_values.specs.Covers.{covers}
use Rattle.simplex_values.specs.Terms.{term_index}
use Rattle.law_agreement.specs.World.{view_of}
use Rattle.model_audit.specs.Conflicts.{are_rivals, is_skipped, conflicts}
use Rattle.simplex_conflicts.specs.Indexes.{is_named_rival, is_named_across, is_final_at, is_final_between, is_final_in_term, is_nullified_at, is_given_up_by}
use Rattle.simplex_conflicts.proofs.Tests.{same_answer, never, or_false, or_group, any_same, any_either, any_leads, any_names}

-- ---- a conflict, by what is asked

notarize_by : (length : ℕ) (p : Proposal) (s : Subject) → conflicts length (Notarize p) s ≡ (is_named_rival p s || is_final_between p s)
notarize_by length p (Notarize q) = sym (or_false (are_rivals p q))
notarize_by length p (Nullify r) = refl
notarize_by length p (Finalize q) = refl

pub notarize_conflicts : (length : ℕ) (p : Proposal) (known : List Subject)
    → list_any (conflicts length (Notarize p)) known ≡ (list_any (is_named_rival p) known || list_any (is_final_between p) known)
notarize_conflicts length p known =
    any_same (conflicts length (Notarize p)) (λ s. is_named_rival p s || is_final_between p s) (notarize_by length p) known
    ∙ any_either (is_named_rival p) (is_final_between p) known

nullify_by : (length : ℕ) (r : Round) (s : Subject) → conflicts length (Nullify r) s ≡ is_final_in_term length r.view s
nullify_by length r (Notarize q) = refl
nullify_by length r (Nullify s) = refl
nullify_by length r (Finalize q) = refl

pub nullify_conflicts : (length : ℕ) (r : Round) (known : List Subject)
    → list_any (conflicts length (Nullify r)) known ≡ list_any (is_final_in_term length r.view) known
nullify_conflicts length r known = any_same (conflicts length (Nullify r)) (is_final_in_term length r.view) (nullify_by length r) known

finalize_by : (length : ℕ) (p : Proposal) (s : Subject) → conflicts length (Finalize p) s
    ≡ ((is_named_rival p s || is_named_across (view_of p) s) || (is_final_between p s || is_given_up_by length (view_of p) s))
finalize_by length p (Notarize q) = sym (or_false (are_rivals p q || is_skipped p q))
finalize_by length p (Nullify r) = refl
finalize_by length p (Finalize q) =
    or_group (are_rivals p q) (is_skipped p q) (is_skipped q p) ∙ ap (λ (t : Bool). (are_rivals p q || is_skipped p q) || t) (sym (or_false (is_skipped q p)))

pub finalize_conflicts : (length : ℕ) (p : Proposal) (known : List Subject) → list_any (conflicts length (Finalize p)) known
    ≡ ((list_any (is_named_rival p) known || list_any (is_named_across (view_of p)) known)
    || (list_any (is_final_between p) known || list_any (is_given_up_by length (view_of p)) known))
finalize_conflicts length p known =
    let rival = is_named_rival p in
    let across = is_named_across (view_of p) in
    let between = is_final_between p in
    let given = is_given_up_by length (view_of p) in
    any_same (conflicts length (Finalize p)) (λ s. (rival s || across s) || (between s || given s)) (finalize_by length p) known
    ∙ any_either (λ s. rival s || across s) (λ s. between s || given s) known
    ∙ ap (λ (t : Bool). t || list_any (λ s. between s || given s) known) (any_either rival across known)
    ∙ ap (λ (t : Bool). (list_any rival known || list_any across known) || t) (any_either between given known)

-- the same of a subject that is one of these
pub notarize_asked : (length : ℕ) (s : Subject) (p : Proposal) (known : List Subject) → s ≡ Notarize p
    → list_any (conflicts length s) known ≡ (list_any (is_named_rival p) known || list_any (is_final_between p) known)
notarize_asked length s p known is = ap (λ (t : Subject). list_any (conflicts length t) known) is ∙ notarize_conflicts length p known

pub finalize_asked : (length : ℕ) (s : Subject) (p : Proposal) (known : List Subject) → s ≡ Finalize p → list_any (conflicts length s) known
    ≡ ((list_any (is_named_rival p) known || list_any (is_named_across (view_of p)) known)
    || (list_any (is_final_between p) known || list_any (is_given_up_by length (view_of p)) known))
finalize_asked length s p known is = ap (λ (t : Subject). list_any (conflicts length t) known) is ∙ finalize_conflicts length p known

-- ---- terms

term_rises : (length a b : ℕ) → 0 < length → a ≤ b → term_index length a ≤ term_index length b
unfolding term_index
term_rises length a b some le = grind (arith, le, some)

covered : (length u w : ℕ) → covers length u w ≡ true → (term_index length u ≡ term_index length w) × (u ≤ w)
unfolding covers
covered length u w e =
    let k = and_parts (term_index length u == term_index length w) (nat_le u w) e in
    (eqb-true (term_index length u) (term_index length w) k.0, leb-true u w k.1)

covers_by : (length u w : ℕ) → term_index length u ≡ term_index length w → u ≤ w → covers length u w ≡ true
unfolding covers
covers_by length u w same le = rw (eq-eqb (term_index length u) (term_index length w) same, le-leb u w le) refl

-- of three views in order, where the first covers the last, it covers the one between, and this covers the last
covers_nearer : (length u v w : ℕ) → 0 < length → u ≤ v → v ≤ w → covers length u w ≡ true → covers length u v ≡ true
covers_nearer length u v w some le le' e =
    let k = covered length u w e in
    let same = k.0 in
    let up = term_rises length u v some le in
    let down = term_rises length v w some le' in
    covers_by length u v (omega arith) le

covers_later : (length u v w : ℕ) → 0 < length → u ≤ v → v ≤ w → covers length u w ≡ true → covers length v w ≡ true
covers_later length u v w some le le' e =
    let k = covered length u w e in
    let same = k.0 in
    let up = term_rises length u v some le in
    let down = term_rises length v w some le' in
    covers_by length v w (omega arith) le'

-- ---- final views between two

module _ (finals : ℕ → Bool) (known : List Subject) (are : (view : ℕ) → finals view ≡ list_any (is_final_at view) known) where
  -- a final view that one of the subjects has, by a test that tells of it
  final_of : (test : Subject → Bool) (P : ℕ → Type 0) → ((q : Proposal) → test (Finalize q) ≡ true → P (view_of q))
      → ((q : Proposal) → test (Notarize q) ≡ true → ⊥) → ((r : Round) → test (Nullify r) ≡ true → ⊥)
      → list_any test known ≡ true → (u : ℕ) × P u × (finals u ≡ true)
  final_of test P tells not_notarize not_nullify e = (
      let w = any_names test P is_final_at names known e in
      (w.0, w.1, are w.0 ∙ w.2))
    where
      names : (s : Subject) → test s ≡ true → (u : ℕ) × P u × (is_final_at u s ≡ true)
      names (Notarize q) e = absurd (not_notarize q e)
      names (Nullify r) e = absurd (not_nullify r e)
      names (Finalize q) e = (view_of q, tells q e, eq-eqb (view_of q) (view_of q) refl)

  -- the other way round
  of_final : (test : Subject → Bool) (u : ℕ) → ((q : Proposal) → view_of q ≡ u → test (Finalize q) ≡ true) → finals u ≡ true → list_any test known ≡ true
  of_final test u passes e = any_leads (is_final_at u) test leads known (sym (are u) ∙ e)
    where
      leads : (s : Subject) → is_final_at u s ≡ true → test s ≡ true
      leads (Notarize q) e = absurd (cc)
      leads (Nullify r) e = absurd (cc)
      leads (Finalize q) e = passes q (eqb-true (view_of q) u e)

  between_of : (p : Proposal) → list_any (is_final_between p) known ≡ true → (u : ℕ) × ((p.parent < u) × (u < view_of p)) × (finals u ≡ true)
  between_of p = final_of (is_final_between p) (λ u. (p.parent < u) × (u < view_of p))
      (λ q e. (let k = and_parts (nat_lt (view_of q) (view_of p)) (nat_lt p.parent (view_of q)) e in
      (ltb-true p.parent (view_of q) k.1, ltb-true (view_of q) (view_of p) k.0)))
      (λ q e. cc) (λ r e. cc)

  of_between : (p : Proposal) (u : ℕ) → p.parent < u → u < view_of p → finals u ≡ true → list_any (is_final_between p) known ≡ true
  of_between p u above below = of_final (is_final_between p) u passes
    where
      passes : (q : Proposal) → view_of q ≡ u → is_final_between p (Finalize q) ≡ true
      passes q same =
          let lt : view_of q < view_of p = omega arith in
          let gt : p.parent < view_of q = omega arith in
          rw (lt-ltb (view_of q) (view_of p) lt, lt-ltb p.parent (view_of q) gt) refl

  pub between_first : (p : Proposal) → view_of p ≡ 0 → false ≡ list_any (is_final_between p) known
  between_first p zero = sym (never (list_any (is_final_between p) known) (λ e. (let w = between_of p e in let lt = w.1.1 in omega arith)))

  pub between_none : (p : Proposal) (before : ℕ) → before + 1 ≡ view_of p → ((q : ℕ) → q ≤ before → finals q ≡ false)
      → false ≡ list_any (is_final_between p) known
  between_none p before next none = sym (never (list_any (is_final_between p) known) (λ e. (
      let w = between_of p e in
      let lt = w.1.1 in
      let gone = none w.0 (omega arith) in
      let is = w.2 in
      cc)))

  pub between_some : (p : Proposal) (before last : ℕ) → before + 1 ≡ view_of p → finals last ≡ true → last ≤ before
      → ((q : ℕ) → q ≤ before → finals q ≡ true → q ≤ last) → nat_lt p.parent last ≡ list_any (is_final_between p) known
  between_some p before last next member bound greatest =
      same_answer (nat_lt p.parent last) (list_any (is_final_between p) known)
      (λ e. (let gt = ltb-true p.parent last e in of_between p last gt (omega arith) member))
      (λ e. (
      let w = between_of p e in
      let gt = w.1.0 in
      let lt = w.1.1 in
      let le = greatest w.0 (omega arith) w.2 in
      lt-ltb p.parent last (omega arith)))

  -- ---- final views of a term

  pub in_term_none : (length view : ℕ) → ((q : ℕ) → view ≤ q → finals q ≡ false) → false ≡ list_any (is_final_in_term length view) known
  in_term_none length view none = sym (never (list_any (is_final_in_term length view) known) (λ e. (
      let w = final_of (is_final_in_term length view) (λ u. view ≤ u) (λ q e. (covered length view (view_of q) e).1) (λ q e. cc) (λ r e. cc) e in
      let gone = none w.0 w.1 in
      let is = w.2 in
      cc)))

  pub in_term_some : (length view first : ℕ) → 0 < length → finals first ≡ true → view ≤ first → ((q : ℕ) → view ≤ q → q < first → finals q ≡ false)
      → covers length view first ≡ list_any (is_final_in_term length view) known
  in_term_some length view first some member bound least =
      same_answer (covers length view first) (list_any (is_final_in_term length view) known)
      (λ e. of_final (is_final_in_term length view) first (λ q same. rw same e) member)
      (λ e. (
      let w = final_of (is_final_in_term length view) (λ u. covers length view u ≡ true) (λ q e. e) (λ q e. cc) (λ r e. cc) e in
      let from = covered length view w.0 w.1 in
      covers_nearer length view first w.0 some bound (at_least w.0 from.1 w.2) w.1))
    where
      at_least : (u : ℕ) → view ≤ u → finals u ≡ true → first ≤ u
      at_least u from e = ltb-false u first (never (nat_lt u first) (λ lt. (let gone = least u from (ltb-true u first lt) in cc)))

-- ---- nullified views of a term

module _ (nullified : ℕ → Bool) (known : List Subject) (are : (view : ℕ) → nullified view ≡ list_any (is_nullified_at view) known) where
  given_of : (length view : ℕ) → list_any (is_given_up_by length view) known ≡ true → (u : ℕ) × (covers length u view ≡ true) × (nullified u ≡ true)
  given_of length view e = (
      let w = any_names (is_given_up_by length view) (λ u. covers length u view ≡ true) is_nullified_at names known e in
      (w.0, w.1, are w.0 ∙ w.2))
    where
      names : (s : Subject) → is_given_up_by length view s ≡ true → (u : ℕ) × (covers length u view ≡ true) × (is_nullified_at u s ≡ true)
      names (Notarize q) e = absurd (cc)
      names (Nullify r) e = (r.view, e, eq-eqb r.view r.view refl)
      names (Finalize q) e = absurd (cc)

  of_given : (length view u : ℕ) → covers length u view ≡ true → nullified u ≡ true → list_any (is_given_up_by length view) known ≡ true
  of_given length view u here e = any_leads (is_nullified_at u) (is_given_up_by length view) leads known (sym (are u) ∙ e)
    where
      leads : (s : Subject) → is_nullified_at u s ≡ true → is_given_up_by length view s ≡ true
      leads (Notarize q) e = absurd (cc)
      leads (Nullify r) e = (let same : r.view ≡ u = eqb-true r.view u e in rw same here)
      leads (Finalize q) e = absurd (cc)

  pub given_none : (length view : ℕ) → ((q : ℕ) → q ≤ view → nullified q ≡ false) → false ≡ list_any (is_given_up_by length view) known
  given_none length view none = sym (never (list_any (is_given_up_by length view) known) (λ e. (
      let w = given_of length view e in
      let gone = none w.0 (covered length w.0 view w.1).1 in
      let is = w.2 in
      cc)))

  pub given_some : (length view last : ℕ) → 0 < length → nullified last ≡ true → last ≤ view → ((q : ℕ) → q ≤ view → nullified q ≡ true → q ≤ last)
      → covers length last view ≡ list_any (is_given_up_by length view) known
  given_some length view last some member bound greatest =
      same_answer (covers length last view) (list_any (is_given_up_by length view) known)
      (λ e. of_given length view last e member)
      (λ e. (
      let w = given_of length view e in
      covers_later length w.0 last view some (greatest w.0 (covered length w.0 view w.1).1 w.2) bound w.1))
