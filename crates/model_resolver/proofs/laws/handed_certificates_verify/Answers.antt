use Rattle.std.proofs.lemmas.List.Elements.{All-nil}
use Rattle.model_resolver.specs.Laws.{Verifies}
use Rattle.model_resolver.specs.Resolver.{begun, standing_after, step, step_out}
use Rattle.model_resolver.proofs.Keeping.{acted-keeps}
use Rattle.model_resolver.proofs.Valid.{AllVerify, verifying-kept, verifying-handed}
use Rattle.model_resolver.proofs.laws.handed_certificates_verify.Goals as goal

pub returns : goal.returns
unfolding step step_out
returns c = λ made past input now.
    acted-keeps (AllVerify made) (verifying-kept made) made (verifying-handed made) input now (begun (standing_after made past)) (All-nil (Verifies made))
