use Rattle.simplex_network.proofs.network.Network.make.Goals as goal

pub returns-in-Start-clause-stands : goal.returns-in-Start-clause-stands
returns-in-Start-clause-stands c = rw c.in-Start.is c.start.ensures.stands

pub returns-in-Tick-clause-stands : goal.returns-in-Tick-clause-stands
returns-in-Tick-clause-stands c = rw c.in-Tick.is c.tick.ensures.stands

pub returns-in-Deliver-clause-stands : goal.returns-in-Deliver-clause-stands
returns-in-Deliver-clause-stands c = c.act.ensures.stands

pub returns-in-Step-clause-stands : goal.returns-in-Step-clause-stands
returns-in-Step-clause-stands c = c.act-in-Step.ensures.stands

pub returns-in-Answer-clause-stands : goal.returns-in-Answer-clause-stands
returns-in-Answer-clause-stands c = c.act-in-Answer.ensures.stands

pub returns-in-Crash-clause-stands : goal.returns-in-Crash-clause-stands
returns-in-Crash-clause-stands c = rw c.in-Crash.is c.crash.ensures.stands

pub returns-in-Inject-clause-stands : goal.returns-in-Inject-clause-stands
returns-in-Inject-clause-stands c = rw c.in-Inject.is c.inject.ensures.stands
