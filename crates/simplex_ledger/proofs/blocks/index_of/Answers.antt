use Rattle.std.proofs.Common.{◌≡◌, ◌++◌, ◌∷◌, ◌⊎◌, [], ℕ, List, None, Some, take, refl, subst, inl, inr}
use Rattle.std.proofs.lemmas.Result.{err_from_is_err_and}
use Rattle.sha2.specs.Sha256.{sha256}
use Rattle.model_ledger.specs.declared.transfer.LedgerError.TheVariants.{Double, Memory}
use Rattle.model_ledger.specs.Doubles.{place_from, double_of}
use Rattle.simplex_ledger.specs.Index.{IsIndexOf}
use Rattle.simplex_ledger.proofs.Indexing.{no_blocks, many, goes_past, stops_here, one_behind, fails_from, none_at_end}
use Rattle.simplex_ledger.proofs.blocks.index_of.Goals as goal

pub loop-place-init : goal.loop-place-init
loop-place-init c = record { index = no_blocks c.new-index.result c.new-index.ensures; none = refl }

pub returns-in_err-add_block-clause-fault : goal.returns-in_err-add_block-clause-fault
returns-in_err-add_block-clause-fault c =
    let p = err_from_is_err_and c.from_residual.result c.from_residual.ensures.1 in
    let blocks = c.args.blocks.now in
    let i = c.loop-place.place in
    let x = c.index-blocks-place.result in
    let error = c.in_err-add_block.field-0.0 in
    let why : (error ≡ Memory) ⊎ ((first : ℕ) × (error ≡ Double first i) × (double_of blocks ≡ Some (first, i))) =
    elim c.in_err-add_block.ensures.fault [
      | inl memory ↦ inl memory
      | inr double ↦ inr (
        double.0,
        double.1,
        stops_here blocks i x c.loop-place-test.true c.index-blocks-place.is double.0
            (subst (λ (b : List ℕ). place_from 0 (take i blocks) (sha256 b) ≡ Some double.0) c.as_slice.ensures (double.2 (take i blocks) c.loop-place.invariant.index))
            c.loop-place.invariant.none,
      )
    ] in
    rw (p.1, p.2) (fails_from blocks i error why)

pub loop-place-preserved : goal.loop-place-preserved
loop-place-preserved c =
    let blocks = c.args.blocks.now in
    let i = c.loop-place.place in
    let x = c.index-blocks-place.result in
    let low = c.loop-place-test.true in
    let is = c.index-blocks-place.is in
    let index = c.add_block.new.index in
    record {
      index = one_behind blocks i x low is index
          (subst (λ (b : List ℕ). IsIndexOf index (take i blocks ++ b ∷ [])) c.as_slice.ensures (c.in_ok-add_block.ensures.added (take i blocks) (many blocks i x low is) c.loop-place.invariant.index));
      none = goes_past blocks i x low is
          (subst (λ (b : List ℕ). place_from 0 (take i blocks) (sha256 b) ≡ None) c.as_slice.ensures (c.in_ok-add_block.ensures.first (take i blocks) c.loop-place.invariant.index))
          c.loop-place.invariant.none;
    }

pub returns-clause-fault : goal.returns-clause-fault
returns-clause-fault c = none_at_end c.args.blocks.now c.loop-place.place c.loop-place-test.false c.loop-place.invariant.none
