use Rattle.simplex_program.proofs.Causes.{as_asked}
use Rattle.simplex_program.proofs.front.decide.Goals as goal

pub returns-in-Ok-Some-Gen-clause-cause : goal.returns-in-Ok-Some-Gen-clause-cause
returns-in-Ok-Some-Gen-clause-cause g c =
    let asked = rw (c.in-Ok-Some-Gen.field-0-is, c.in-Ok-Some-Gen.field-0-0-is) at c.in-Ok-Some-Gen.ensures.some in
    c.generate.ensures.cause c.args.words.now (g.S.Source.left c.args.source.now) (g.S.Source.fault_count c.args.source.now) asked

pub returns-in-Ok-Some-Gen-clause-generated : goal.returns-in-Ok-Some-Gen-clause-generated
returns-in-Ok-Some-Gen-clause-generated g c =
    let asked = rw (c.in-Ok-Some-Gen.field-0-is, c.in-Ok-Some-Gen.field-0-0-is) at c.in-Ok-Some-Gen.ensures.some in
    as_asked c.args.words.now c.in-Ok-Some-Gen.number c.in-Ok-Some-Gen.steps c.generate.result.exit c.generate.result.telling c.generate.result.events asked
    c.generate.ensures.whole
