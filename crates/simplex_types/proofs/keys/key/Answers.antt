use Rattle.std.proofs.Common.{◌++◌, List, ℕ, ap, ◌∙◌}
use Rattle.std.specs.Prelude.{codes}
use Rattle.std.specs.Int.{w64, to_be_bytes}
use Rattle.sha2.specs.Sha256.{sha256}
use Rattle.simplex_types.specs.Keyed.{key_of}
use Rattle.simplex_types.proofs.keys.key.Goals as goal

pub returns : goal.returns
unfolding key_of
returns c =
    c.finalize.ensures _ (c.update-3.ensures _ (c.update-2.ensures _ (c.update.ensures _ c.new-hasher.ensures)))
    ∙ ap (λ (base : List ℕ). sha256 (codes "key" ++ base ++ c.to_be_bytes-2.result)) c.to_be_bytes.ensures
    ∙ ap (λ (member : List ℕ). sha256 (codes "key" ++ to_be_bytes w64 c.args.base ++ member)) c.to_be_bytes-2.ensures
