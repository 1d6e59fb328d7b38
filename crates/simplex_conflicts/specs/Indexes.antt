-- Which subjects an index knows, and what is asked of them.
use Rattle.std.specs.Prelude.{◌≡◌, ◌==◌, ◌<◌, ℕ, Bool, false, not, List, Option}
use Rattle.std.specs.List.{list_any}
use Rattle.std.specs.Option.{option_map_or}
use Rattle.simplex_values.specs.declared.proposal.Proposal.{Proposal}
use Rattle.simplex_values.specs.declared.proposal.Subject.{Subject}
use Rattle.simplex_values.specs.declared.proposal.Subject.TheVariants.{Notarize, Nullify, Finalize}
use Rattle.simplex_values.specs.Covers.{covers}
use Rattle.simplex_values.specs.Maps.{found, has}
use Rattle.simplex_values.specs.Proposal.{is_same_proposal}
use Rattle.law_agreement.specs.World.{view_of}
use Rattle.model_audit.specs.Conflicts.{are_rivals, is_skipped}
use Rattle.simplex_conflicts.specs.declared.index.Index.{Index}
use Rattle.simplex_conflicts.specs.Stairs.{StairsStand, is_between}

-- it names another proposal of the view
abbrev pub is_named_rival : Proposal → Subject → Bool
is_named_rival p (Notarize q) = are_rivals p q
is_named_rival p (Finalize q) = are_rivals p q
is_named_rival p (Nullify r) = false

-- it names a proposal of a later view that stands on an earlier one
abbrev pub is_named_across : ℕ → Subject → Bool
is_named_across view (Notarize q) = is_between q.parent (view_of q) view
is_named_across view (Finalize q) = is_between q.parent (view_of q) view
is_named_across view (Nullify r) = false

-- it finalizes the view; a view strictly between the proposal's and its parent; a view of the term, from this one on
abbrev pub is_final_at : ℕ → Subject → Bool
is_final_at view (Finalize q) = view_of q == view
is_final_at view _ = false

abbrev pub is_final_between : Proposal → Subject → Bool
is_final_between p (Finalize q) = is_skipped q p
is_final_between p _ = false

abbrev pub is_final_in_term : ℕ → ℕ → Subject → Bool
is_final_in_term length view (Finalize q) = covers length view (view_of q)
is_final_in_term length view _ = false

-- it nullifies the view; a view of the term, up to this one
abbrev pub is_nullified_at : ℕ → Subject → Bool
is_nullified_at view (Nullify r) = r.view == view
is_nullified_at view _ = false

abbrev pub is_given_up_by : ℕ → ℕ → Subject → Bool
is_given_up_by length view (Nullify r) = covers length r.view view
is_given_up_by length view _ = false

-- whether there is one, and it is another
abbrev pub is_other : Proposal → Option Proposal → Bool
is_other p kept = option_map_or (λ q. not (is_same_proposal p q)) kept false

-- the index knows exactly what these say of views
pub record Indexes (index : Index) (known : List Subject) : Type 0 where
  pub some_length : 0 < index.length
  pub named_are : (p : Proposal) → is_other p (found index.named (view_of p)) ≡ list_any (is_named_rival p) known
  pub finals_are : (view : ℕ) → has index.finals view ≡ list_any (is_final_at view) known
  pub nullified_are : (view : ℕ) → has index.nullified view ≡ list_any (is_nullified_at view) known
  pub stairs_are : StairsStand index.stairs (λ view. list_any (is_named_across view) known)
