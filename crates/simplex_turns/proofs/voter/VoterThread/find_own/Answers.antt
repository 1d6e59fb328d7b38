use Rattle.std.proofs.Common.{rules, ◌≡◌, sym, refl, ap, ◌∙◌, false, Some, None, ℕ, max, arith}
use Rattle.simplex_mailbox.specs.Waiting.{front}
use Rattle.model_steps.specs.VoterLife.{place_of}
use Rattle.simplex_turns.specs.declared.feed.FeedItem.TheVariants as items
use Rattle.simplex_turns.specs.Voting.{holds_candidate}
use Rattle.simplex_turns.proofs.VotingPlaces.{finds-own, finds-item, popped-first, time-left, time-now}
use Rattle.simplex_turns.proofs.VotingSteps.{moved-at}
use Rattle.simplex_turns.proofs.voter.VoterThread.find_own.Goals as goal

pub returns-then-holds_candidate-clause-finds : goal.returns-then-holds_candidate-clause-finds
returns-then-holds_candidate-clause-finds g c = λ told made place h.
    rw (finds-own made place (sym (c.holds_candidate.ensures told made place h) ∙ c.if-holds_candidate.true)) (refl, h)

pub returns-in_err-ms-clause-finds : goal.returns-in_err-ms-clause-finds
returns-in_err-ms-clause-finds g c = λ told made place h.
    let held : holds_candidate (place_of made place.past).standing ≡ false = sym (c.holds_candidate.ensures told made place h) ∙ c.if-holds_candidate.false in
    let first : c.pop_front.result ≡ front place.feed = popped-first c.args.self.now.feed.items c.pop_front.new.self.items c.pop_front.result c.pop_front.ensures.items c.pop_front.ensures.rest ∙ ap front h.feed in
    let is : c.pop_front.result ≡ None = search rules in
    rw (finds-item made place None held (sym is ∙ first))
    (search rules, moved-at told c.args.self.now _ place.now made place refl h.now c.pop_front.ensures.rest h)

pub returns-in-Now-clause-clock : goal.returns-in-Now-clause-clock
returns-in-Now-clause-clock g c =
    let is : c.pop_front.result ≡ Some (items.Now c.in-Now.ms) = search rules in
    let ms = time-now c.args.self.now.feed.items c.pop_front.new.self.items c.in-Now.ms (rw is at c.pop_front.ensures.items) c.requires.clock.1 in
    (omega (arith, c.max-self.ensures, ms, c.requires.clock.0), time-left c.args.self.now.feed.items c.pop_front.new.self.items c.pop_front.result c.pop_front.ensures.items c.requires.clock.1)

pub returns-in-Now-clause-finds : goal.returns-in-Now-clause-finds
returns-in-Now-clause-finds g c = λ told made place h.
    let held : holds_candidate (place_of made place.past).standing ≡ false = sym (c.holds_candidate.ensures told made place h) ∙ c.if-holds_candidate.false in
    let first : c.pop_front.result ≡ front place.feed = popped-first c.args.self.now.feed.items c.pop_front.new.self.items c.pop_front.result c.pop_front.ensures.items c.pop_front.ensures.rest ∙ ap front h.feed in
    let is : c.pop_front.result ≡ Some (items.Now c.in-Now.ms) = search rules in
    rw (finds-item made place (Some (items.Now c.in-Now.ms)) held (sym is ∙ first))
    (refl, moved-at told c.args.self.now _ (max place.now c.in-Now.ms) made place refl (c.max-self.ensures ∙ ap (λ (n : ℕ). max n c.in-Now.ms) h.now) c.pop_front.ensures.rest h)

pub returns-in-Reply-clause-clock : goal.returns-in-Reply-clause-clock
returns-in-Reply-clause-clock g c =
    rw (c.reply.ensures.clock.0, c.reply.ensures.clock.1)
    (c.requires.clock.0, time-left c.args.self.now.feed.items c.pop_front.new.self.items c.pop_front.result c.pop_front.ensures.items c.requires.clock.1)

pub returns-in-Reply-clause-finds : goal.returns-in-Reply-clause-finds
returns-in-Reply-clause-finds g c = λ told made place h.
    let held : holds_candidate (place_of made place.past).standing ≡ false = sym (c.holds_candidate.ensures told made place h) ∙ c.if-holds_candidate.false in
    let first : c.pop_front.result ≡ front place.feed = popped-first c.args.self.now.feed.items c.pop_front.new.self.items c.pop_front.result c.pop_front.ensures.items c.pop_front.ensures.rest ∙ ap front h.feed in
    let is : c.pop_front.result ≡ Some (items.Reply c.in-Reply.kind c.in-Reply.answer) = search rules in
    rw (finds-item made place (Some (items.Reply c.in-Reply.kind c.in-Reply.answer)) held (sym is ∙ first))
    (c.reply.ensures.finds told made _ (moved-at told c.args.self.now _ place.now made place refl h.now c.pop_front.ensures.rest h))
