use Rattle.std.proofs.Common.{[], ◌∷◌}
use Rattle.model_rules.specs.Calls.{facts_of}
use Rattle.law_member.proofs.Growing.{final_grows, current_grows, final_lasts, current_lasts}
use Rattle.law_member.proofs.growth.views_never_fall.Goals as goal

pub returns-clause-fact_final : goal.returns-clause-fact_final
returns-clause-fact_final c = λ known fact. final_grows (fact ∷ []) known

pub returns-clause-fact_current : goal.returns-clause-fact_current
returns-clause-fact_current c = λ made known fact. current_grows made (fact ∷ []) known

pub returns-clause-call_final : goal.returns-clause-call_final
returns-clause-call_final c = λ made known call. final_grows (facts_of made known call) known

pub returns-clause-call_current : goal.returns-clause-call_current
returns-clause-call_current c = λ made known call. current_grows made (facts_of made known call) known

pub returns-clause-calls_final : goal.returns-clause-calls_final
returns-clause-calls_final c = final_lasts

pub returns-clause-calls_current : goal.returns-clause-calls_current
returns-clause-calls_current c = current_lasts
