use Rattle.std.proofs.lemmas.List.Elements.{All-contains}
use Rattle.law_agreement.specs.World.{IsBacked}
use Rattle.law_agreement.proofs.Safety.{no_conflict}
use Rattle.law_agreement.proofs.agreement.no_conflict.Goals as goal

pub returns : goal.returns
returns c w certificates a b law backed ca cb =
    no_conflict w law a.subject b.subject a.signers b.signers
    (All-contains (IsBacked w) certificates a backed ca)
    (All-contains (IsBacked w) certificates b backed cb)
