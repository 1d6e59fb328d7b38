use Rattle.law_run.proofs.BackingSampling.{each_word}
use Rattle.law_run.proofs.backing_samples.each_word_is_needed.Goals as goal

pub returns : goal.returns
returns c = each_word
