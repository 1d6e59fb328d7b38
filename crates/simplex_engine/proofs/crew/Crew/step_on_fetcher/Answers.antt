use Rattle.std.proofs.Common.{refl, true, false}
use Rattle.simplex_engine.proofs.Polls.{takes-fetch, gives-fetch, taken-fetch, takes-no_fetch, gives-no_fetch, taken-no_fetch}
use Rattle.simplex_engine.proofs.PollsOver.{fares-same, keeps-fetch}
use Rattle.simplex_engine.proofs.crew.Crew.step_on_fetcher.Goals as goal

pub returns-then-not-is_fetch_due : goal.returns-then-not-is_fetch_due
returns-then-not-is_fetch_due g c =
    rw (c.polled.ensures, c.requires.empty) (record {
      stands = takes-no_fetch _ _ _ _ c.if-not-is_fetch_due.true (c.is_fetch_due.ensures true);
      gives = gives-no_fetch _ _ _ _ c.if-not-is_fetch_due.true (c.is_fetch_due.ensures true);
      taken = taken-no_fetch _ _ _ _ c.if-not-is_fetch_due.true (c.is_fetch_due.ensures true);
      over = fares-same _ refl (keeps-fetch _ c.args.now c.args.stop.now) (takes-no_fetch _ _ _ _ c.if-not-is_fetch_due.true (c.is_fetch_due.ensures false)) (gives-no_fetch _ _ _ _ c.if-not-is_fetch_due.true (c.is_fetch_due.ensures false)) (taken-no_fetch _ _ _ _ c.if-not-is_fetch_due.true (c.is_fetch_due.ensures false));
      faults = refl;
    })

pub returns : goal.returns
returns g c =
    rw c.polled-2.ensures (record {
      stands = takes-fetch _ _ _ _ _ _ _ c.if-not-is_fetch_due.false (c.is_fetch_due.ensures true) (c.in_ok-outcome.ensures.stands true) (c.in_ok-outcome.ensures.gives true);
      gives = gives-fetch _ _ _ _ _ _ c.if-not-is_fetch_due.false (c.is_fetch_due.ensures true) (c.in_ok-outcome.ensures.gives true);
      taken = taken-fetch _ _ _ _ _ _ c.if-not-is_fetch_due.false (c.is_fetch_due.ensures true) (c.in_ok-outcome.ensures.gives true);
      over = fares-same _ c.in_ok-outcome.ensures.journal (keeps-fetch _ c.args.now c.args.stop.now)
          (takes-fetch _ _ _ _ _ _ _ c.if-not-is_fetch_due.false (c.is_fetch_due.ensures false) (c.in_ok-outcome.ensures.stands false) (c.in_ok-outcome.ensures.gives false))
          (gives-fetch _ _ _ _ _ _ c.if-not-is_fetch_due.false (c.is_fetch_due.ensures false) (c.in_ok-outcome.ensures.gives false))
          (taken-fetch _ _ _ _ _ _ c.if-not-is_fetch_due.false (c.is_fetch_due.ensures false) (c.in_ok-outcome.ensures.gives false));
      faults = c.in_ok-outcome.ensures.faults;
    })
