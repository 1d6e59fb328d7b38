use Rattle.std.proofs.Common.{ap, true, false}
use Rattle.simplex_engine.proofs.Polls.{takes-voter_mail, gives-voter_mail, taken-voter_mail, takes-no_voter_mail, gives-no_voter_mail, taken-no_voter_mail}
use Rattle.simplex_engine.proofs.PollsOver.{fares-same, fares-voter_mail, keeps-no_voter_mail}
use Rattle.simplex_engine.proofs.crew.Crew.step_on_voter_mail.Goals as goal

pub returns-in_default : goal.returns-in_default
returns-in_default g c =
    rw (c.polled.ensures, c.requires.empty) (record {
      stands = takes-no_voter_mail _ _ _ _ (c.in_default.ensures.message true) (c.in_default.ensures.none true);
      gives = gives-no_voter_mail _ _ _ (c.in_default.ensures.message true);
      taken = taken-no_voter_mail _ _ _ (c.in_default.ensures.message true);
      over = fares-same _ c.in_default.ensures.journal (keeps-no_voter_mail _ c.args.now c.args.stop.now (c.in_default.ensures.message false)) (takes-no_voter_mail _ _ _ _ (c.in_default.ensures.message false) (c.in_default.ensures.none false)) (gives-no_voter_mail _ _ _ (c.in_default.ensures.message false)) (taken-no_voter_mail _ _ _ (c.in_default.ensures.message false));
      faults = ap (g.J.Journal.fault_count) c.in_default.ensures.journal;
    })

pub returns : goal.returns
returns g c =
    rw (c.polled-2.ensures, c.in_ok-copy.ensures) (record {
      stands = takes-voter_mail _ _ _ c.in-Some.message _ _ _ _ (c.in-Some.ensures.message true) (c.in-Some.ensures.takes true) c.in_ok-outcome.ensures.stands c.in_ok-outcome.ensures.gives;
      gives = gives-voter_mail _ _ c.in-Some.message _ _ _ _ (c.in-Some.ensures.message true) (c.in-Some.ensures.takes true) c.in_ok-outcome.ensures.gives;
      taken = taken-voter_mail _ _ c.in-Some.message _ _ _ _ (c.in-Some.ensures.message true) (c.in-Some.ensures.takes true) c.in_ok-outcome.ensures.gives;
      over = fares-voter_mail (c.in-Some.ensures.message false) (c.in-Some.ensures.takes false) c.in_ok-outcome.ensures.over;
      faults = rw (← c.in-Some.ensures.journal) c.in_ok-outcome.ensures.faults;
    })
