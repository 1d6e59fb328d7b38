use Rattle.model_resolver.proofs.Valid.{valid-answer, answer-covers}
use Rattle.model_resolver.proofs.laws.nullifications_answer_what_they_cover.Goals as goal

pub returns : goal.returns
returns c = λ made view bytes it same. answer-covers made view it (valid-answer made view bytes _ same)
