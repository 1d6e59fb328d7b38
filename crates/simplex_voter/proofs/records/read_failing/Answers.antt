use Rattle.std.proofs.Common.{◌==◌, refl}
use Rattle.simplex_voter.proofs.Running.{read-so, left-none, left-some}
use Rattle.simplex_voter.proofs.records.read_failing.Goals.{then-is_none, else-is_none}
use Rattle.simplex_voter.proofs.records.read_failing.Goals as goal

pub returns-clause-told : goal.returns-clause-told
returns-clause-told g c = λ told.
    let set = rw told at c.fail_next.ensures.order in
    let reads = rw c.fail_next.ensures.stays at (c.in_ok-records.ensures.told _ set) in
    rw c.fail_next-2.ensures.stays
    (elim c.if-is_none.branch [
      | then-is_none w ↦
          let still = rw (← w.journal-is, reads.tells) at w.crash.ensures.order in
          let unset = rw still at c.fail_next-2.ensures.order in
          let left = rw (c.in_ok-records.ensures.stays, c.fail_next.ensures.stays) at w.crash.ensures.left in
          rw w.journal-is (read-so c.args.call c.args.keep c.reading_of.result _ _ _ _ _ (c.args.call == 1) refl c.reading_of.ensures reads (left-none c.args.keep _ _ _ w.if-is_none.ensures left) unset)
      | else-is_none w ↦
          let still = rw (← w.journal-is) at reads.tells in
          let unset = rw still at c.fail_next-2.ensures.order in
          let left = rw c.fail_next.ensures.stays at c.in_ok-records.ensures.stays in
          rw w.journal-is (read-so c.args.call c.args.keep c.reading_of.result _ _ _ _ _ (c.args.call == 1) refl c.reading_of.ensures reads (left-some c.args.keep _ _ _ w.if-is_none.ensures left) unset)
    ])
