use Rattle.std.proofs.Common.{rules}
use Rattle.simplex_voter.specs.Actor.{next_answer}
use Rattle.simplex_engine.proofs.Voters.{voter-tells}
use Rattle.simplex_engine.proofs.crew.Crew.next_answer.Goals as goal

pub returns-in_err-request : goal.returns-in_err-request
returns-in_err-request g c = λ told parts h.
    rw (← voter-tells told c.args.self.now (λ place. next_answer place.standing c.args.input.now) _ c.next_answer.ensures parts h) (search rules)

pub returns : goal.returns
returns g c = λ told parts h.
    rw (← voter-tells told c.args.self.now (λ place. next_answer place.standing c.args.input.now) _ c.next_answer.ensures parts h) (search rules)
