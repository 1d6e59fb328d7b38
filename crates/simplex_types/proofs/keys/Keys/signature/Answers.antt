use Rattle.std.proofs.Common.{◌≡◌, ◌++◌, List, ℕ, Some, ap, ◌∙◌, sym}
use Rattle.std.specs.Prelude.{codes, slice_get}
use Rattle.sha2.specs.Sha256.{sha256}
use Rattle.simplex_types.specs.Keyed.{key_of, signature_of, subject_bytes}
use Rattle.simplex_types.proofs.KeyLists.{key_get}
use Rattle.simplex_types.proofs.keys.Keys.signature.Goals as goal

pub returns : goal.returns
unfolding signature_of
returns c = λ base n e lt.
    let found : Some c.get.result ≡ Some (key_of base c.args.member) =
    sym c.get.ensures ∙ ap (λ (keys : List (List ℕ)). slice_get keys c.args.member) e ∙ key_get base n c.args.member lt in
    let key : c.get.result ≡ key_of base c.args.member = cc in
    c.finalize.ensures _ (c.absorb_subject.ensures _ (c.update-2.ensures _ (c.update.ensures _ c.new-hasher.ensures)))
    ∙ ap (λ (key : List ℕ). sha256 (key ++ codes "simplex" ++ subject_bytes c.args.subject.now)) key
