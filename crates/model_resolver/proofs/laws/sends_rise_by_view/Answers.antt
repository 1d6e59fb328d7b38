use Rattle.std.proofs.Common.{refl}
use Rattle.model_resolver.specs.Resolver.{begun, step}
use Rattle.model_resolver.specs.Laws.{falls}
use Rattle.model_resolver.proofs.Keeping.{acted-keeps}
use Rattle.model_resolver.proofs.Falling.{Falls, falling-kept, falling-handed}
use Rattle.model_resolver.proofs.laws.sends_rise_by_view.Goals as goal

pub returns : goal.returns
unfolding step falls
returns c = λ made standing input now. acted-keeps Falls falling-kept made (falling-handed made) input now (begun standing) refl
