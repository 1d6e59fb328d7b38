use Rattle.simplex_voter.proofs.Running.{unfailed-made, failing-made}
use Rattle.simplex_voter.proofs.Over.{unfailed-over, failing-over, broke-some, broke-none}
use Rattle.simplex_voter.proofs.performing.make_failing.Goals.{then-is_some, else-is_some}
use Rattle.simplex_voter.proofs.performing.make_failing.Goals as goal

pub returns-clause-told : goal.returns-clause-told
returns-clause-told g c = λ told.
    let set = rw told at c.fail_next.ensures.order in
    let ran = rw c.fail_next.ensures.stays at (c.in_ok-failed.ensures.told (record { call = c.args.call; sections = c.args.keep }) set) in
    rw (c.broken_off.ensures, c.fail_next-2.ensures.stays)
    (elim c.if-is_some.branch [
      | then-is_some w ↦
          let some = broke-some _ w.if-is_some.ensures in
          let still = rw (← w.journal-is, ran.tells.is_told) at w.crash.ensures.order in
          let unset = rw still at c.fail_next-2.ensures.order in
          rw w.journal-is (failing-made c.args.calls.now _ _ _ _ _ _ c.args.call c.args.keep some.0 some.1 w.crash.ensures.left ran unset)
      | else-is_some w ↦
          let still = rw (← w.journal-is) at ran.tells.is_told in
          let unset = rw still at c.fail_next-2.ensures.order in
          rw w.journal-is (unfailed-made c.args.calls.now _ _ _ _ _ c.args.call c.args.keep (broke-none _ w.if-is_some.ensures) ran unset)
    ])

pub returns-clause-over : goal.returns-clause-over
returns-clause-over g c =
    let reached = rw c.fail_next.ensures.stays at c.in_ok-failed.ensures.over in
    rw (c.broken_off.ensures, c.fail_next-2.ensures.stays)
    (elim c.if-is_some.branch [
      | then-is_some w ↦
          let some = broke-some _ w.if-is_some.ensures in
          rw w.journal-is (failing-over c.args.calls.now _ _ _ _ some.0 c.args.call c.args.keep some.1 w.crash.ensures.left reached)
      | else-is_some w ↦
          rw w.journal-is (unfailed-over c.args.calls.now _ _ _ c.args.call c.args.keep (broke-none _ w.if-is_some.ensures) reached)
    ])
