-- What stands of the final views as one is raised, or none is touched.
use Rattle.std.proofs.Common.{◌≡◌, ℕ, max, ◌==◌, List, [], ◌∷◌, ◌++◌, Result, Ok, Err, sym, ap, ◌∙◌, if◌then◌else◌}
use Rattle.std.specs.Result.{OnErr}
use Rattle.simplex_values.specs.declared.proposal.Proposal.{Proposal}
use Rattle.model_log.specs.Ends.{end_in, top_at}
use Rattle.model_log.proofs.Growing.{top_final}
use Rattle.simplex_log.specs.declared.finals.Finals.{Finals}
use Rattle.simplex_log.specs.Kept.{top_in, log_to}
use Rattle.simplex_log.specs.Stands.{FinalsOf, Raised, Untouched}

pub on_err : {T E : Type 0} {P : Type 0} (r : Result T E) → P → OnErr r P
on_err (Ok x) p = tt
on_err (Err e) p = p

pub untouched : (old new : Finals) (links : List Proposal) (finals : List ℕ) → Untouched old new → FinalsOf old links finals → FinalsOf new links finals
untouched old new links finals same stands = record {
  tops_are = λ view positive. same.tops_same view ∙ stands.tops_are view positive;
  tip_is = same.tip_same ∙ stands.tip_is;
  entries_are = same.entries_same ∙ stands.entries_are ∙ ap (log_to links) (sym same.tip_same);
}

-- a final view whose walk ends there
pub raised_final : (old new : Finals) (links : List Proposal) (finals : List ℕ) (view foot : ℕ) → foot ≡ end_in links view → Raised links old new foot view
    → FinalsOf old links finals → FinalsOf new links (finals ++ view ∷ [])
raised_final old new links finals view foot ends rises stands = record {
  tops_are = λ q positive. rises.tops_rise q positive ∙ with_final q (top_in old.tops q) (stands.tops_are q positive);
  tip_is = rises.tip_rises ∙ with_final 0 old.tip stands.tip_is;
  entries_are = rises.entries_rise stands.entries_are;
}
  where
    with_final : (q before : ℕ) → before ≡ top_at links finals q → max before (if foot == q then view else 0) ≡ top_at links (finals ++ view ∷ []) q
    with_final q before is =
        ap (λ (n : ℕ). max n (if foot == q then view else 0)) is
        ∙ ap (λ (n : ℕ). max (top_at links finals q) (if n == q then view else 0)) ends
        ∙ sym (top_final links finals view q)
