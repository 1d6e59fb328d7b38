-- What stands as a link comes that is held already, or before the link of a view joins.
use Rattle.std.proofs.Common.{◌≡◌, ◌≢◌, ℕ, ◌<◌, max, ◌==◌, Bool, true, false, cond, List, [], ◌∷◌, ◌++◌, map, reverse, Option, Some, None, sym, ap, subst, ◌∙◌, arith, if◌then◌else◌, append-nil}
use Rattle.std.proofs.lemmas.Bool.Decides.{nat_tests}
use Rattle.simplex_values.specs.declared.proposal.Proposal.{Proposal}
use Rattle.model_log.specs.Ends.{end_in, top_at}
use Rattle.model_log.specs.Links.{is_link}
use Rattle.model_log.specs.Log.{entry_for, greatest}
use Rattle.model_log.specs.Walks.{link_at}
use Rattle.model_log.proofs.Ending.{end_none, lower}
use Rattle.model_log.proofs.Growing.{top_final, held_again, same_walks, same_ends, same_tops}
use Rattle.simplex_log.specs.declared.kept.Kept.{Kept}
use Rattle.simplex_log.specs.declared.links.Link.{Link}
use Rattle.simplex_log.specs.Kept.{top_in, log_to}
use Rattle.simplex_log.specs.Stands.{IsShorter, KeptOf, IsJoining}
use Rattle.simplex_log.proofs.Linking.{all_fall}

-- ---- the link is held already

module _ (kept : Kept) (links : List Proposal) (finals : List ℕ) (p : Proposal) (held : link_at links p.round.view ≡ Some p) (stands : KeptOf kept links finals) where
  abbrev more : List Proposal
  more = links ++ p ∷ []

  same : (view : ℕ) → link_at more view ≡ link_at links view
  same = held_again links p held

  still : (view : ℕ) (o : Option Link) → IsShorter links view o → IsShorter more view o
  still view None s = tt
  still view (Some l) s = (s.0, same_ends more links same l.down ∙ s.1 ∙ sym (same_ends more links same view))

  log_same : (view : ℕ) → log_to links view ≡ log_to more view
  unfolding log_to
  log_same view = ap (λ (w : List Proposal). map entry_for (reverse w)) (sym (same_walks more links same view view))

  pub held_stands : KeptOf kept more finals
  held_stands =
      let of = stands.links_are in
      let fs = stands.finals_are in
      record {
        links_are = record {
          falls = all_fall links p (lower links of.falls p.round.view p held) of.falls;
          held_is = λ view. of.held_is view ∙ sym (same view);
          shorter = λ view. still view _ (of.shorter view);
        };
        finals_are = record {
          tops_are = λ view positive. fs.tops_are view positive ∙ sym (same_tops more links same finals view);
          tip_is = fs.tip_is ∙ sym (same_tops more links same finals 0);
          entries_are = fs.entries_are ∙ log_same kept.finals.tip;
        };
        last_is = stands.last_is;
        end_is = stands.end_is ∙ sym (same_ends more links same kept.last);
      }

-- ---- the proposal is held already, or is no link

pub passed_held : (kept : Kept) (links : List Proposal) (finals : List ℕ) (p : Proposal) → link_at links p.round.view ≡ Some p → KeptOf kept links finals
    → KeptOf kept (links ++ cond (is_link p) (p ∷ []) []) finals
passed_held kept links finals p held stands = at (is_link p)
  where
    at : (b : Bool) → KeptOf kept (links ++ cond b (p ∷ []) []) finals
    at true = held_stands kept links finals p held stands
    at false = subst (λ (ls : List Proposal). KeptOf kept ls finals) (sym (append-nil links)) stands

-- ---- the first link of a view

module _ (kept : Kept) (links : List Proposal) (finals : List ℕ) (p : Proposal) (low : p.parent < p.round.view) (first : link_at links p.round.view ≡ None) (stands : KeptOf kept links finals) where
  abbrev kept_top : ℕ
  kept_top = top_in kept.finals.tops p.round.view

  top_here : kept_top ≡ top_at links finals p.round.view
  top_here = (stands.finals_are).tops_are p.round.view (omega (arith, low))

  pub joins : (top : ℕ) → top ≡ kept_top → IsJoining kept links finals p top (greatest finals)
  joins top is = record {
    links_are = stands.links_are;
    first_is = first;
    tops_are = λ view positive _. (stands.finals_are).tops_are view positive;
    top_is = is ∙ top_here;
    tip_is = (stands.finals_are).tip_is;
    entries_are = (stands.finals_are).entries_are;
    last_is = stands.last_is;
    end_is = stands.end_is;
  }

  apart : (foot view n t : ℕ) → foot ≡ n → view ≢ n → t ≡ max t (if foot == view then n else 0)
  apart foot view n t is ne = grind (arith, nat_tests)

  here : (foot n t : ℕ) → foot ≡ n → max t (if foot == n then n else 0) ≡ max t n
  here foot n t is = grind (arith, nat_tests)

  ends_here : end_in links p.round.view ≡ p.round.view
  ends_here = end_none links p.round.view first

  with_final : (view : ℕ) → view ≢ p.round.view → top_at links finals view ≡ top_at links (finals ++ p.round.view ∷ []) view
  with_final view ne =
      apart (end_in links p.round.view) view p.round.view (top_at links finals view) ends_here ne ∙ sym (top_final links finals p.round.view view)

  pub joins_final : (top : ℕ) → top ≡ max kept_top p.round.view → IsJoining kept links (finals ++ p.round.view ∷ []) p top (greatest finals)
  joins_final top is = record {
    links_are = stands.links_are;
    first_is = first;
    tops_are = λ view positive ne. (stands.finals_are).tops_are view positive ∙ with_final view ne;
    top_is =
        is ∙ ap (λ (n : ℕ). max n p.round.view) top_here
        ∙ sym (top_final links finals p.round.view p.round.view ∙ here (end_in links p.round.view) p.round.view (top_at links finals p.round.view) ends_here);
    tip_is = (stands.finals_are).tip_is ∙ with_final 0 (omega (arith, low));
    entries_are = (stands.finals_are).entries_are;
    last_is = stands.last_is;
    end_is = stands.end_is;
  }
