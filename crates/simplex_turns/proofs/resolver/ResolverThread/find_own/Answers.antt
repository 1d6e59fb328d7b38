use Rattle.std.proofs.Common.{◌∙◌, [], refl, sym}
use Rattle.simplex_turns.proofs.Drained.{none-left}
use Rattle.simplex_turns.proofs.ResolverTurned.{nothing-handled, found-delivery, found-deadline}
use Rattle.simplex_turns.proofs.resolver.ResolverThread.find_own.Goals as goal

pub returns-in-Some-clause-finds : goal.returns-in-Some-clause-finds
returns-in-Some-clause-finds g c = λ made place at.
    let rest = c.pop_front.new.self.items in
    let none = nothing-handled made place.past _ c.if-holds_handler.false (c.holds_handler.ensures made place.past at.stands) in (
      record { past = place.past; feed = rest },
      found-delivery made c.args.self.now.now place c.in-Some.delivery rest c.heard.result none (sym at.feed ∙ c.in-Some.ensures.items) (c.heard.ensures made place.past at.stands),
      record { stands = at.stands; feed = refl },
    )

pub returns-in-None-clause-finds : goal.returns-in-None-clause-finds
returns-in-None-clause-finds g c = λ made place at.
    let rest = c.pop_front.new.self.items in
    let none = nothing-handled made place.past _ c.if-holds_handler.false (c.holds_handler.ensures made place.past at.stands) in
    let empty = none-left c.args.self.now.feed.items rest c.in-None.ensures.items c.in-None.ensures.rest in (
      record { past = place.past; feed = [] },
      found-deadline made c.args.self.now.now place c.find_deadline.result none (sym at.feed ∙ empty) (c.find_deadline.ensures made place.past at.stands),
      record { stands = at.stands; feed = sym c.in-None.ensures.items ∙ empty },
    )
