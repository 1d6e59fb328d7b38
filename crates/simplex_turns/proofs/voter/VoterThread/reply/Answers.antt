use Rattle.std.proofs.Common.{rules, ◌≡◌, sym, refl, ap, ◌∙◌, true, false, ◌∷◌, Some, None}
use Rattle.model_steps.specs.Voter.{takes_answer}
use Rattle.model_steps.specs.VoterLife.{Place, VoterMade, Answered, place_of}
use Rattle.simplex_voter.specs.Unanswered.{unanswered}
use Rattle.simplex_turns.proofs.VotingPlaces.{place-more, place-refused, replied-none, replied-refused, replied-taken}
use Rattle.simplex_turns.proofs.VotingSteps.{told-at, answered-at}
use Rattle.simplex_turns.proofs.voter.VoterThread.reply.Goals as goal

pub returns-in_err-request-clause-finds : goal.returns-in_err-request-clause-finds
returns-in_err-request-clause-finds g c = λ told made place h.
    let is : c.unanswered.result ≡ unanswered (place_of made place.past).standing c.args.kind =
    told-at told c.args.self.now (λ (made : VoterMade) (p : Place). unanswered p.standing c.args.kind) c.unanswered.result c.unanswered.ensures made place h in
    let none : c.unanswered.result ≡ None = search rules in
    rw (replied-none made place c.args.kind c.args.answer (sym is ∙ none)) (search rules, h)

pub returns-then-not-answer-clause-finds : goal.returns-then-not-answer-clause-finds
returns-then-not-answer-clause-finds g c = λ told made place h.
    let is : c.unanswered.result ≡ unanswered (place_of made place.past).standing c.args.kind =
    told-at told c.args.self.now (λ (made : VoterMade) (p : Place). unanswered p.standing c.args.kind) c.unanswered.result c.unanswered.ensures made place h in
    let one : c.unanswered.result ≡ Some c.in_ok-request.request = search rules in
    let at : c.answer.result ≡ takes_answer (place_of made place.past).standing c.in_ok-request.request c.args.answer =
    told-at told c.args.self.now (λ (made : VoterMade) (p : Place). takes_answer p.standing c.in_ok-request.request c.args.answer) c.answer.result c.answer.ensures.answer made place h in
    let refused : takes_answer (place_of made place.past).standing c.in_ok-request.request c.args.answer ≡ false = sym at ∙ search rules in
    rw (replied-refused made place c.args.kind c.args.answer c.in_ok-request.request (sym is ∙ one) refused) (
      refl,
      answered-at told c.args.self.now _ (Answered c.in_ok-request.request c.args.answer) place.past c.answer.ensures.stands c.answer.ensures.stands_over refl refl made place h
          (place-more made h.given place.past h.place_is (Answered c.in_ok-request.request c.args.answer) ∙ place-refused made place.past c.in_ok-request.request c.args.answer refused),
    )

pub returns-clause-finds : goal.returns-clause-finds
returns-clause-finds g c = λ told made place h.
    let is : c.unanswered.result ≡ unanswered (place_of made place.past).standing c.args.kind =
    told-at told c.args.self.now (λ (made : VoterMade) (p : Place). unanswered p.standing c.args.kind) c.unanswered.result c.unanswered.ensures made place h in
    let one : c.unanswered.result ≡ Some c.in_ok-request.request = search rules in
    let at : c.answer.result ≡ takes_answer (place_of made place.past).standing c.in_ok-request.request c.args.answer =
    told-at told c.args.self.now (λ (made : VoterMade) (p : Place). takes_answer p.standing c.in_ok-request.request c.args.answer) c.answer.result c.answer.ensures.answer made place h in
    let taken : takes_answer (place_of made place.past).standing c.in_ok-request.request c.args.answer ≡ true = sym at ∙ search rules in
    rw (replied-taken made place c.args.kind c.args.answer c.in_ok-request.request (sym is ∙ one) taken) (
      ap Some c.taken_by.ensures,
      answered-at told c.args.self.now _ (Answered c.in_ok-request.request c.args.answer) (Answered c.in_ok-request.request c.args.answer ∷ place.past) c.answer.ensures.stands c.answer.ensures.stands_over refl refl made place h
          (place-more made h.given place.past h.place_is (Answered c.in_ok-request.request c.args.answer)),
    )
