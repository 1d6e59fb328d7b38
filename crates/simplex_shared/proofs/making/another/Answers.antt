use Rattle.std.proofs.Common.{rules, ap, arith}
use Rattle.simplex_shared.specs.declared.op.Op.{Op}
use Rattle.simplex_shared.specs.Desk.{Recorded}
use Rattle.simplex_shared.specs.History.{caller_of, IsLegal}
use Rattle.simplex_shared.specs.Lock.{Sat}
use Rattle.simplex_shared.proofs.Keeps.{makes_at}
use Rattle.simplex_shared.proofs.making.another.Goals as goal

pub split_seat-seat-requires : goal.split_seat-seat-requires
split_seat-seat-requires g c =
    let most = c.ranges.number.fits in (
      search rules,
      search rules,
      makes_at (λ (d : Recorded g.row.M.Denot). d.log) (λ d. d.mail.capacity) caller_of (IsLegal g.M.Policy.handle g.M.Requested.is_skipped) c.args.terms.now _ c.args.number _
          (ap (λ (m : Sat (Recorded g.row.M.Denot) (Op g.row.M.Denot)). m.0) c.requires.maker.0) c.requires.maker.1 (omega arith),
    )
