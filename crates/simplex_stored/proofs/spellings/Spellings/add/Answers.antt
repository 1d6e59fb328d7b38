use Rattle.std.proofs.Common.{◌∙◌, ap}
use Rattle.std.specs.Prelude.{◌||◌}
use Rattle.std.specs.Str.{bytes_eq}
use Rattle.simplex_stored.specs.Before.{is_in}
use Rattle.simplex_stored.proofs.Kept.{spelling-added}
use Rattle.simplex_stored.proofs.spellings.Spellings.add.Goals as goal

pub returns : goal.returns
unfolding is_in
returns c = λ other. spelling-added c.into_vec.result _ _ c.in_ok-insert.ensures.updates other
    ∙ ap (λ bytes. bytes_eq other bytes || is_in c.args.self.now other) c.into_vec.ensures
