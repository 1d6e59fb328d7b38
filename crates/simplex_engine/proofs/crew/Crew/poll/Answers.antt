use Rattle.std.proofs.Common.{refl, ap, true, false}
use Rattle.std.proofs.lemmas.Result.{err_from_is_err_and}
use Rattle.simplex_engine.specs.Polled.{polled, inside, taken_inside}
use Rattle.simplex_engine.proofs.Polls.{taken-packet}
use Rattle.simplex_engine.proofs.PollsOver.{fares-same, keeps-packet, keeps-answer}
use Rattle.simplex_engine.proofs.crew.Crew.poll.Goals as goal

pub returns-in_ok-deliver-in-Deliver-clause-does : goal.returns-in_ok-deliver-in-Deliver-clause-does
unfolding polled
returns-in_ok-deliver-in-Deliver-clause-does g c =
    rw (c.in-Deliver.is, c.in_ok-deliver-in-Deliver.ensures.taken) (record {
      stands = c.in_ok-deliver-in-Deliver.ensures.stands true;
      gives = c.in_ok-deliver-in-Deliver.ensures.gives true;
      taken = taken-packet true c.args.self.now _ _ _ _;
      over = fares-same _ c.in_ok-deliver-in-Deliver.ensures.journal (keeps-packet _ _ _ _ _ c.args.stop.now) (c.in_ok-deliver-in-Deliver.ensures.stands false) (c.in_ok-deliver-in-Deliver.ensures.gives false) (taken-packet false c.args.self.now _ _ _ _);
      faults = c.in_ok-deliver-in-Deliver.ensures.faults;
    })

pub returns-in_ok-step_on_batcher_mail-in-Batcher-clause-does : goal.returns-in_ok-step_on_batcher_mail-in-Batcher-clause-does
unfolding polled
returns-in_ok-step_on_batcher_mail-in-Batcher-clause-does g c = rw (c.in-Step.is, c.in-Batcher.is) c.in_ok-step_on_batcher_mail-in-Batcher.ensures

pub returns-in_ok-step_on_voter_mail-in-Voter-clause-does : goal.returns-in_ok-step_on_voter_mail-in-Voter-clause-does
unfolding polled
returns-in_ok-step_on_voter_mail-in-Voter-clause-does g c = rw (c.in-Step.is, c.in-Voter.is) c.in_ok-step_on_voter_mail-in-Voter.ensures

pub returns-in_ok-step_on_timer-in-Timer-clause-does : goal.returns-in_ok-step_on_timer-in-Timer-clause-does
unfolding polled
returns-in_ok-step_on_timer-in-Timer-clause-does g c = rw (c.in-Step.is, c.in-Timer.is) c.in_ok-step_on_timer-in-Timer.ensures

pub returns-in_ok-step_on_proposal-in-Propose-clause-does : goal.returns-in_ok-step_on_proposal-in-Propose-clause-does
unfolding polled
returns-in_ok-step_on_proposal-in-Propose-clause-does g c = rw (c.in-Step.is, c.in-Propose.is) c.in_ok-step_on_proposal-in-Propose.ensures

pub returns-in_ok-step_on_verify-in-Verify-clause-does : goal.returns-in_ok-step_on_verify-in-Verify-clause-does
unfolding polled
returns-in_ok-step_on_verify-in-Verify-clause-does g c = rw (c.in-Step.is, c.in-Verify.is) c.in_ok-step_on_verify-in-Verify.ensures

pub returns-in_ok-step_on_certify-in-Certify-clause-does : goal.returns-in_ok-step_on_certify-in-Certify-clause-does
unfolding polled
returns-in_ok-step_on_certify-in-Certify-clause-does g c = rw (c.in-Step.is, c.in-Certify.is) c.in_ok-step_on_certify-in-Certify.ensures

pub returns-in_ok-step_on_resolver_mail-in-Resolver-clause-does : goal.returns-in_ok-step_on_resolver_mail-in-Resolver-clause-does
unfolding polled
returns-in_ok-step_on_resolver_mail-in-Resolver-clause-does g c = rw (c.in-Step.is, c.in-Resolver.is) c.in_ok-step_on_resolver_mail-in-Resolver.ensures

pub returns-in_ok-step_on_handler_mail-in-Handler-clause-does : goal.returns-in_ok-step_on_handler_mail-in-Handler-clause-does
unfolding polled
returns-in_ok-step_on_handler_mail-in-Handler-clause-does g c = rw (c.in-Step.is, c.in-Handler.is) c.in_ok-step_on_handler_mail-in-Handler.ensures

pub returns-in_ok-step_on_fetcher-in-Fetch-clause-does : goal.returns-in_ok-step_on_fetcher-in-Fetch-clause-does
unfolding polled
returns-in_ok-step_on_fetcher-in-Fetch-clause-does g c = rw (c.in-Step.is, c.in-Fetch.is) c.in_ok-step_on_fetcher-in-Fetch.ensures

pub returns-in_ok-given-in-Answer-clause-does : goal.returns-in_ok-given-in-Answer-clause-does
unfolding polled taken_inside inside
returns-in_ok-given-in-Answer-clause-does g c =
    rw (c.in-Answer.is, c.in_ok-given-in-Answer.ensures.given, c.requires.empty) (record {
      stands = c.in_ok-given-in-Answer.ensures.stands true c.args.now;
      gives = λ made past h. (refl, refl);
      taken = λ made past h. refl;
      over = fares-same _ c.in_ok-given-in-Answer.ensures.journal (keeps-answer _ _ _ _ c.args.stop.now) (c.in_ok-given-in-Answer.ensures.stands false c.args.now) (λ made past h. (refl, refl)) (λ made past h. refl);
      faults = ap (g.J.Journal.fault_count) c.in_ok-given-in-Answer.ensures.journal;
    })

pub returns-in_ok-given-in-Answer-clause-accepted : goal.returns-in_ok-given-in-Answer-clause-accepted
returns-in_ok-given-in-Answer-clause-accepted g c = rw c.in-Answer.is c.in_ok-given-in-Answer.ensures.accepted

pub returns-in_err-given-in-Answer-clause-refused : goal.returns-in_err-given-in-Answer-clause-refused
returns-in_err-given-in-Answer-clause-refused g c =
    let refused = c.in_err-given-in-Answer.ensures.refused in
    let error = err_from_is_err_and c.from_residual-in_err-given-in-Answer.result c.from_residual-in_err-given-in-Answer.ensures.1 in
    rw (c.in-Answer.is, error.1, error.2, refused.0) (refused.1, refused.2, refused.3)
