use Rattle.std.proofs.Common.{◌≡◌, ◌++◌, ◌∙◌, subst, sym, ap, List, ℕ}
use Rattle.std.specs.Global.{Vec}
use Rattle.std.specs.Map.{keys_of}
use Rattle.std.proofs.lemmas.List.{append-nil}
use Rattle.simplex_disk.specs.Answers.{IsListing}
use Rattle.simplex_disk.specs.Memory.{file_in}
use Rattle.simplex_disk.specs.Files.{kept_of}
use Rattle.simplex_disk.proofs.Keeping.{IsListing-keys}
use Rattle.simplex_disk.proofs.files.numbers_of.Goals as goal

pub returns : goal.returns
returns c =
    let es = c.args.files.now.entries in
    let all : c.loop-number.numbers.items ≡ keys_of es =
    sym (append-nil c.loop-number.numbers.items) ∙ ap (λ (it : List (ℕ × Vec ℕ)). c.loop-number.numbers.items ++ keys_of it) (sym c.in-None.ensures.steps.0) ∙ c.loop-number.invariant in
    subst (λ (l : List ℕ). IsListing (file_in (kept_of es)) l) (sym all) (IsListing-keys es c.len-ordered.ensures.ordered)
