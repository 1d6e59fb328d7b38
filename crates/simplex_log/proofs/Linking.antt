-- What stands of the links as one comes, is forgotten, or points further down.
use Rattle.std.proofs.Common.{◌≡◌, ℕ, ◌<◌, ◌==◌, ◌&&◌, Bool, true, false, List, [], ◌∷◌, ◌++◌, Option, Some, None, refl, sym, ap, subst, ◌∙◌, inl, inr, arith, map, append_assoc, eqb-true, if◌then◌else◌}
use Rattle.std.specs.Prelude.{option_map, nat_lt}
use Rattle.std.proofs.lemmas.Bool.Decides.{nat_tests}
use Rattle.std.specs.Option.{option_or}
use Rattle.std.proofs.lemmas.List.Elements.{Contains-push_cases}
use Rattle.simplex_values.specs.Maps.{found}
use Rattle.simplex_values.specs.declared.proposal.Proposal.{Proposal}
use Rattle.model_log.specs.Ends.{GoDown, IsNewLink, end_in}
use Rattle.model_log.specs.declared.entry.LogEntry.{LogEntry}
use Rattle.model_log.specs.Log.{entry_for}
use Rattle.model_log.specs.Walks.{link_at, walk}
use Rattle.model_log.proofs.Ending.{end_ends, end_low, lower, end_none, end_some, find_more, link_moves_ends, walk_some}
use Rattle.model_log.proofs.Growing.{none_left}
use Rattle.simplex_log.specs.declared.links.Link.{Link}
use Rattle.simplex_log.specs.declared.links.Links.{Links}
use Rattle.simplex_log.specs.Kept.{held_at, pointing}
use Rattle.simplex_log.specs.Stands.{IsShorter, LinksOf}

-- ---- the link of a view

pub held_link : (kept : Links) (links : List Proposal) (view : ℕ) (l : Link) → LinksOf kept links → found kept.views view ≡ Some l
    → link_at links view ≡ Some l.proposal
unfolding held_at
held_link kept links view l stands e = sym (stands.held_is view) ∙ ap (option_map (λ (l : Link). l.proposal)) e

pub held_none : (kept : Links) (links : List Proposal) (view : ℕ) → LinksOf kept links → found kept.views view ≡ None → link_at links view ≡ None
unfolding held_at
held_none kept links view stands e = sym (stands.held_is view) ∙ ap (option_map (λ (l : Link). l.proposal)) e

pub falls : (kept : Links) (links : List Proposal) (view : ℕ) (l : Link) → LinksOf kept links → found kept.views view ≡ Some l
    → (l.down < view) × (l.proposal.parent < view)
falls kept links view l stands e =
    let s : IsShorter links view (Some l) = subst (IsShorter links view) e (stands.shorter view) in
    (s.0, lower links stands.falls view l.proposal (held_link kept links view l stands e))

pub same_end : (kept : Links) (links : List Proposal) (view : ℕ) (l : Link) → LinksOf kept links → found kept.views view ≡ Some l
    → end_in links l.down ≡ end_in links view
same_end kept links view l stands e = (let s : IsShorter links view (Some l) = subst (IsShorter links view) e (stands.shorter view) in s.1)

pub ends_here : (kept : Links) (links : List Proposal) (view : ℕ) → LinksOf kept links → found kept.views view ≡ None → end_in links view ≡ view
ends_here kept links view stands e = end_none links view (held_none kept links view stands e)

-- ---- what reads the same stands the same

pub links_same : (old new : Links) (links : List Proposal) → ((q : ℕ) → found new.views q ≡ found old.views q) → LinksOf old links → LinksOf new links
unfolding held_at
links_same old new links same stands = record {
  falls = stands.falls;
  held_is = λ view. ap (option_map (λ (l : Link). l.proposal)) (same view) ∙ stands.held_is view;
  shorter = λ view. subst (IsShorter links view) (sym (same view)) (stands.shorter view);
}

-- ---- a link that comes

pub all_fall : (links : List Proposal) (p : Proposal) → p.parent < p.round.view → GoDown links → GoDown (links ++ p ∷ [])
all_fall links p low down q k = elim (Contains-push_cases links p q k) [
  | inl old ↦ down q old
  | inr same ↦ subst (λ (x : Proposal). x.parent < x.round.view) same low
]

module _ (links : List Proposal) (p : Proposal) (low : p.parent < p.round.view) (first : link_at links p.round.view ≡ None) where
  abbrev more : List Proposal
  more = links ++ p ∷ []

  abbrev link : Link
  link = record { proposal = p; down = p.parent }

  link_here : (view : ℕ) → (b : Bool) → (p.round.view == view) ≡ b → b ≡ true → link_at more view ≡ Some p
  link_here view b e t =
      let same : p.round.view ≡ view = eqb-true p.round.view view (e ∙ t) in
      let none : link_at links view ≡ None = subst (λ (v : ℕ). link_at links v ≡ None) same first in
      find_more links p view
      ∙ ap (λ (o : Option Proposal). option_or o (if p.round.view == view then Some p else None)) none
      ∙ ap (λ (c : Bool). if c then Some p else None) (e ∙ t)

  link_there : (view : ℕ) → (p.round.view == view) ≡ false → link_at more view ≡ link_at links view
  link_there view e =
      find_more links p view ∙ ap (λ (c : Bool). option_or (link_at links view) (if c then Some p else None)) e ∙ none_left (link_at links view)

  module _ (old new : Links) (put : (q : ℕ) → found new.views q ≡ (if p.round.view == q then Some link else found old.views q)) (stands : LinksOf old links) where
    is_new : IsNewLink links p
    is_new = record { down = stands.falls; low = low; first = first }

    is_held : (view : ℕ) (b : Bool) → (p.round.view == view) ≡ b → held_at new.views view ≡ link_at more view
    unfolding held_at
    is_held view true e =
        ap (option_map (λ (l : Link). l.proposal)) (put view) ∙ ap (λ (c : Bool). option_map (λ (l : Link). l.proposal) (if c then Some link else found old.views view)) e
        ∙ sym (link_here view true e refl)
    is_held view false e =
        ap (option_map (λ (l : Link). l.proposal)) (put view) ∙ ap (λ (c : Bool). option_map (λ (l : Link). l.proposal) (if c then Some link else found old.views view)) e
        ∙ stands.held_is view ∙ sym (link_there view e)

    still : (view : ℕ) (o : Option Link) → IsShorter links view o → IsShorter more view o
    still view None s = tt
    still view (Some l) s = (
      s.0,
      link_moves_ends links p l.down is_new
          ∙ ap (λ (n : ℕ). if n == p.round.view then end_in links p.parent else n) s.1
          ∙ sym (link_moves_ends links p view is_new),
    )

    is_shorter : (view : ℕ) (b : Bool) → (p.round.view == view) ≡ b → IsShorter more view (found new.views view)
    is_shorter view true e =
        let same : p.round.view ≡ view = eqb-true p.round.view view e in
        let there : found new.views view ≡ Some link = put view ∙ ap (λ (c : Bool). if c then Some link else found old.views view) e in
        let s : IsShorter more view (Some link) = (omega (arith, low, same), sym (end_some more (all_fall links p low stands.falls) view p (link_here view true e refl))) in
        subst (IsShorter more view) (sym there) s
    is_shorter view false e =
        let there : found new.views view ≡ found old.views view = put view ∙ ap (λ (c : Bool). if c then Some link else found old.views view) e in
        subst (IsShorter more view) (sym there) (still view (found old.views view) (stands.shorter view))

    pub inserted : LinksOf new more
    inserted = record {
      falls = all_fall links p low stands.falls;
      held_is = λ view. is_held view (p.round.view == view) refl;
      shorter = λ view. is_shorter view (p.round.view == view) refl;
    }

-- ---- a link that is forgotten again

pub undone : (old new last : Links) (links : List Proposal) (view : ℕ) (l : Link) → LinksOf old links → link_at links view ≡ None
    → ((q : ℕ) → found new.views q ≡ (if view == q then Some l else found old.views q))
    → ((q : ℕ) → found last.views q ≡ (if view == q then None else found new.views q)) → LinksOf last links
unfolding held_at
undone old new last links view l stands first put forgot = links_same old last links (λ q. at q (view == q) refl) stands
  where
    none_in : (o : Option Link) → option_map (λ (x : Link). x.proposal) o ≡ None → o ≡ None
    none_in None e = refl
    none_in (Some x) e = cc

    at : (q : ℕ) (b : Bool) → (view == q) ≡ b → found last.views q ≡ found old.views q
    at q true e =
        let same : view ≡ q = eqb-true view q e in
        let none : found old.views q ≡ None = none_in (found old.views q) (stands.held_is q ∙ subst (λ (v : ℕ). link_at links v ≡ None) same first) in
        forgot q ∙ ap (λ (c : Bool). if c then None else found new.views q) e ∙ sym none
    at q false e =
        forgot q ∙ ap (λ (c : Bool). if c then None else found new.views q) e ∙ put q ∙ ap (λ (c : Bool). if c then Some l else found old.views q) e

-- ---- a link that points to where its walk ends

module _ (old new : Links) (links : List Proposal) (at : ℕ) (foot : ℕ) (ends : foot ≡ end_in links at) (stands : LinksOf old links)
    (put : (q : ℕ) → found new.views q ≡ (if at == q then pointing foot (found old.views q) else found old.views q)) where
  same_held : (o : Option Link) → option_map (λ (l : Link). l.proposal) (pointing foot o) ≡ option_map (λ (l : Link). l.proposal) o
  same_held None = refl
  same_held (Some l) = refl

  still_held : (view : ℕ) (b : Bool) → (at == view) ≡ b → held_at new.views view ≡ held_at old.views view
  unfolding held_at
  still_held view true e =
      ap (option_map (λ (l : Link). l.proposal)) (put view) ∙ ap (λ (c : Bool). option_map (λ (l : Link). l.proposal) (if c then pointing foot (found old.views view) else found old.views view)) e
      ∙ same_held (found old.views view)
  still_held view false e =
      ap (option_map (λ (l : Link). l.proposal)) (put view) ∙ ap (λ (c : Bool). option_map (λ (l : Link). l.proposal) (if c then pointing foot (found old.views view) else found old.views view)) e

  points : (view : ℕ) → at ≡ view → (o : Option Link) → IsShorter links view o → IsShorter links view (pointing foot o)
  points view same None s = tt
  points view same (Some l) s =
      let here : foot ≡ end_in links view = ends ∙ ap (end_in links) same in
      let low : foot < view = omega (arith, here, s.1, s.0, end_low links stands.falls l.down) in
      (low, ap (end_in links) here ∙ end_ends links stands.falls view)

  still_shorter : (view : ℕ) (b : Bool) → (at == view) ≡ b → IsShorter links view (found new.views view)
  still_shorter view true e =
      subst (IsShorter links view) (sym (put view ∙ ap (λ (c : Bool). if c then pointing foot (found old.views view) else found old.views view) e))
      (points view (eqb-true at view e) (found old.views view) (stands.shorter view))
  still_shorter view false e =
      subst (IsShorter links view) (sym (put view ∙ ap (λ (c : Bool). if c then pointing foot (found old.views view) else found old.views view) e)) (stands.shorter view)

  pub shortened : LinksOf new links
  shortened = record {
    falls = stands.falls;
    held_is = λ view. still_held view (at == view) refl ∙ stands.held_is view;
    shorter = λ view. still_shorter view (at == view) refl;
  }

-- ---- a link that would not go down

pub none_stays : (kept : Links) (links : List Proposal) (view : ℕ) (l : Link) → (nat_lt l.down view && nat_lt l.proposal.parent view) ≡ false
    → LinksOf kept links → found kept.views view ≡ Some l → ⊥
none_stays kept links view l stays stands there = (let low = falls kept links view l stands there in grind (arith, nat_tests))

-- ---- one step of a walk

pub stepped : (kept : Links) (links : List Proposal) (view at : ℕ) (l : Link) (entries after : List LogEntry) (entry : LogEntry) (next : ℕ)
    → LinksOf kept links → found kept.views at ≡ Some l → next ≡ l.proposal.parent → entry ≡ entry_for l.proposal → after ≡ entries ++ entry ∷ []
    → (entries ++ map entry_for (walk links at) ≡ map entry_for (walk links view)) × (end_in links at ≡ end_in links view)
    → (after ++ map entry_for (walk links next) ≡ map entry_for (walk links view)) × (end_in links next ≡ end_in links view)
stepped kept links view at l entries after entry next stands there parent is pushed so_far =
    let p = l.proposal in
    let held = held_link kept links at l stands there in
    let rest : map entry_for (walk links at) ≡ entry_for p ∷ map entry_for (walk links p.parent) = ap (map entry_for) (walk_some links stands.falls at p held) in (
      ap (λ (es : List LogEntry). es ++ map entry_for (walk links next)) (pushed ∙ ap (λ (e : LogEntry). entries ++ e ∷ []) is)
          ∙ append_assoc entries (entry_for p ∷ []) (map entry_for (walk links next))
          ∙ ap (λ (v : ℕ). entries ++ (entry_for p ∷ map entry_for (walk links v))) parent
          ∙ ap (λ (es : List LogEntry). entries ++ es) (sym rest) ∙ so_far.0,
      ap (end_in links) parent ∙ sym (end_some links stands.falls at p held) ∙ so_far.1,
    )
