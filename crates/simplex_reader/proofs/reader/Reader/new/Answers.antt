use Rattle.std.proofs.Common.{ap, sym, ◌∙◌}
use Rattle.simplex_transcript.specs.declared.setup.Setup.{Setup}
use Rattle.simplex_reader.proofs.Following.{follows_nothing}
use Rattle.simplex_reader.proofs.reader.Reader.new.Goals as goal

pub returns : goal.returns
returns c = λ setting node same.
    follows_nothing _ setting node
    (c.rules_of-rules.ensures.epoch ∙ ap (λ (s : Setup). s.epoch) (sym same))
    (c.rules_of-rules.ensures.term ∙ ap (λ (s : Setup). s.term) (sym same))
    (c.rules_of-rules.ensures.lookahead ∙ ap (λ (s : Setup). s.lookahead) (sym same))
    (c.rules_of-rules.ensures.retention ∙ ap (λ (s : Setup). s.retention) (sym same))
    c.new-2.ensures
