use Rattle.std.proofs.Common.{ap, ◌∙◌, true, false}
use Rattle.simplex_engine.proofs.Polls.{takes-batcher_mail, gives-batcher_mail, taken-batcher_mail, takes-no_batcher_mail, gives-no_batcher_mail, taken-no_batcher_mail}
use Rattle.simplex_engine.proofs.PollsOver.{fares-same, keeps-batcher_mail}
use Rattle.simplex_engine.proofs.crew.Crew.step_on_batcher_mail.Goals as goal

pub returns-in_default : goal.returns-in_default
returns-in_default g c =
    rw (c.polled.ensures, c.requires.empty) (record {
      stands = takes-no_batcher_mail _ _ _ _ (c.in_default.ensures.message true) (c.in_default.ensures.none true);
      gives = gives-no_batcher_mail _ _ _ (c.in_default.ensures.message true);
      taken = taken-no_batcher_mail _ _ _ (c.in_default.ensures.message true);
      over = fares-same _ c.in_default.ensures.journal (keeps-batcher_mail _ c.args.now c.args.stop.now) (takes-no_batcher_mail _ _ _ _ (c.in_default.ensures.message false) (c.in_default.ensures.none false)) (gives-no_batcher_mail _ _ _ (c.in_default.ensures.message false)) (taken-no_batcher_mail _ _ _ (c.in_default.ensures.message false));
      faults = ap (g.J.Journal.fault_count) c.in_default.ensures.journal;
    })

pub returns : goal.returns
returns g c =
    rw (c.polled-2.ensures, c.in_ok-copy.ensures) (record {
      stands = takes-batcher_mail _ _ _ c.in-Some.message _ _ _ _ (c.in-Some.ensures.message true) (c.in-Some.ensures.takes true) (c.in_ok-outcome.ensures.stands true) (c.in_ok-outcome.ensures.gives true);
      gives = gives-batcher_mail _ _ c.in-Some.message _ _ _ _ (c.in-Some.ensures.message true) (c.in-Some.ensures.takes true) (c.in_ok-outcome.ensures.gives true);
      taken = taken-batcher_mail _ _ c.in-Some.message _ _ _ _ (c.in-Some.ensures.message true) (c.in-Some.ensures.takes true) (c.in_ok-outcome.ensures.gives true);
      over = fares-same _ (c.in_ok-outcome.ensures.journal ∙ c.in-Some.ensures.journal) (keeps-batcher_mail _ c.args.now c.args.stop.now)
          (takes-batcher_mail _ _ _ c.in-Some.message _ _ _ _ (c.in-Some.ensures.message false) (c.in-Some.ensures.takes false) (c.in_ok-outcome.ensures.stands false) (c.in_ok-outcome.ensures.gives false))
          (gives-batcher_mail _ _ c.in-Some.message _ _ _ _ (c.in-Some.ensures.message false) (c.in-Some.ensures.takes false) (c.in_ok-outcome.ensures.gives false))
          (taken-batcher_mail _ _ c.in-Some.message _ _ _ _ (c.in-Some.ensures.message false) (c.in-Some.ensures.takes false) (c.in_ok-outcome.ensures.gives false));
      faults = rw (← c.in-Some.ensures.journal) c.in_ok-outcome.ensures.faults;
    })
