use Rattle.simplex_members.proofs.Standing.{silent-sends, silent-stands, conflicter-sends, conflicter-stands, conflicter-unmoved, equivocator-sends, equivocator-stands, equivocator-unmoved, outdated-sends, outdated-stands, outdated-unmoved, impersonator-sends, impersonator-stands, nuller-sends, nuller-stands, nullify_only-sends, nullify_only-stands, reconfigurer-sends, reconfigurer-stands}
use Rattle.simplex_members.proofs.faulty_member.FaultyMember.hear.Goals as goal

pub returns-in-Silent-clause-sends : goal.returns-in-Silent-clause-sends
returns-in-Silent-clause-sends c = λ setup member past stands. silent-sends setup member past _ c.args.self.now _ c.in-Silent.is c.new.ensures stands

pub returns-in-Silent-clause-stands : goal.returns-in-Silent-clause-stands
returns-in-Silent-clause-stands c = λ setup member past stands. silent-stands setup member past _ c.args.self.now c.in-Silent.is stands

pub returns-in-Conflicter-clause-sends : goal.returns-in-Conflicter-clause-sends
returns-in-Conflicter-clause-sends c = λ setup member past stands. conflicter-sends setup member past _ c.args.self.now c.in-Conflicter.member c.hear.result c.in-Conflicter.is c.hear.ensures.sends stands

pub returns-in-Conflicter-clause-stands : goal.returns-in-Conflicter-clause-stands
returns-in-Conflicter-clause-stands c = λ setup member past stands. conflicter-stands setup member past _ c.args.self.now c.in-Conflicter.member c.hear.new.self c.hear.result c.in-Conflicter.is c.hear.ensures.stands stands

pub returns-in-Conflicter-clause-unmoved : goal.returns-in-Conflicter-clause-unmoved
returns-in-Conflicter-clause-unmoved c = λ setup member past stands it. conflicter-unmoved setup member past c.args.self.now c.in-Conflicter.member c.in-Conflicter.is stands it

pub returns-in-Equivocator-clause-sends : goal.returns-in-Equivocator-clause-sends
returns-in-Equivocator-clause-sends c = λ setup member past stands. equivocator-sends setup member past _ c.args.self.now c.in-Equivocator.member c.hear-in-Equivocator.result c.in-Equivocator.is c.hear-in-Equivocator.ensures.sends stands

pub returns-in-Equivocator-clause-stands : goal.returns-in-Equivocator-clause-stands
returns-in-Equivocator-clause-stands c = λ setup member past stands. equivocator-stands setup member past _ c.args.self.now c.in-Equivocator.member c.hear-in-Equivocator.new.self c.hear-in-Equivocator.result c.in-Equivocator.is c.hear-in-Equivocator.ensures.stands stands

pub returns-in-Equivocator-clause-unmoved : goal.returns-in-Equivocator-clause-unmoved
returns-in-Equivocator-clause-unmoved c = λ setup member past stands it. equivocator-unmoved setup member past c.args.self.now c.in-Equivocator.member c.in-Equivocator.is stands it

pub returns-in-Outdated-clause-sends : goal.returns-in-Outdated-clause-sends
returns-in-Outdated-clause-sends c = λ setup member past stands. outdated-sends setup member past _ c.args.self.now c.in-Outdated.member c.hear-in-Outdated.result c.in-Outdated.is c.hear-in-Outdated.ensures.sends stands

pub returns-in-Outdated-clause-stands : goal.returns-in-Outdated-clause-stands
returns-in-Outdated-clause-stands c = λ setup member past stands. outdated-stands setup member past _ c.args.self.now c.in-Outdated.member c.hear-in-Outdated.new.self c.hear-in-Outdated.result c.in-Outdated.is c.hear-in-Outdated.ensures.stands stands

pub returns-in-Outdated-clause-unmoved : goal.returns-in-Outdated-clause-unmoved
returns-in-Outdated-clause-unmoved c = λ setup member past stands it. outdated-unmoved setup member past c.args.self.now c.in-Outdated.member c.in-Outdated.is stands it

pub returns-in-Impersonator-clause-sends : goal.returns-in-Impersonator-clause-sends
returns-in-Impersonator-clause-sends c = λ setup member past stands. impersonator-sends setup member past _ c.args.self.now c.in-Impersonator.member c.hear-in-Impersonator.result c.in-Impersonator.is c.hear-in-Impersonator.ensures.sends stands

pub returns-in-Impersonator-clause-stands : goal.returns-in-Impersonator-clause-stands
returns-in-Impersonator-clause-stands c = λ setup member past stands. impersonator-stands setup member past _ c.args.self.now c.in-Impersonator.member c.hear-in-Impersonator.new.self c.hear-in-Impersonator.result c.in-Impersonator.is c.hear-in-Impersonator.ensures.same stands

pub returns-in-Nuller-clause-sends : goal.returns-in-Nuller-clause-sends
returns-in-Nuller-clause-sends c = λ setup member past stands. nuller-sends setup member past _ c.args.self.now c.in-Nuller.member c.hear-in-Nuller.result c.in-Nuller.is c.hear-in-Nuller.ensures.sends stands

pub returns-in-Nuller-clause-stands : goal.returns-in-Nuller-clause-stands
returns-in-Nuller-clause-stands c = λ setup member past stands. nuller-stands setup member past _ c.args.self.now c.in-Nuller.member c.hear-in-Nuller.new.self c.hear-in-Nuller.result c.in-Nuller.is c.hear-in-Nuller.ensures.same stands

pub returns-in-NullifyOnly-clause-sends : goal.returns-in-NullifyOnly-clause-sends
returns-in-NullifyOnly-clause-sends c = λ setup member past stands. nullify_only-sends setup member past _ c.args.self.now c.in-NullifyOnly.member c.hear-in-NullifyOnly.result c.in-NullifyOnly.is c.hear-in-NullifyOnly.ensures.sends stands

pub returns-in-NullifyOnly-clause-stands : goal.returns-in-NullifyOnly-clause-stands
returns-in-NullifyOnly-clause-stands c = λ setup member past stands. nullify_only-stands setup member past _ c.args.self.now c.in-NullifyOnly.member c.hear-in-NullifyOnly.new.self c.hear-in-NullifyOnly.result c.in-NullifyOnly.is c.hear-in-NullifyOnly.ensures.same stands

pub returns-in-Reconfigurer-clause-sends : goal.returns-in-Reconfigurer-clause-sends
returns-in-Reconfigurer-clause-sends c = λ setup member past stands. reconfigurer-sends setup member past _ c.args.self.now c.in-Reconfigurer.member c.hear-in-Reconfigurer.result c.in-Reconfigurer.is c.hear-in-Reconfigurer.ensures.sends stands

pub returns-in-Reconfigurer-clause-stands : goal.returns-in-Reconfigurer-clause-stands
returns-in-Reconfigurer-clause-stands c = λ setup member past stands. reconfigurer-stands setup member past _ c.args.self.now c.in-Reconfigurer.member c.hear-in-Reconfigurer.new.self c.hear-in-Reconfigurer.result c.in-Reconfigurer.is c.hear-in-Reconfigurer.ensures.same stands
