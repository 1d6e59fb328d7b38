use Rattle.std.proofs.Common.{true, false}
use Rattle.model_run.specs.Setting.{setting_of}
use Rattle.simplex_judge.proofs.Judged.{
  judges-from,
  entry-fault,
  condition-fault,
  forged-fault,
  order-fault,
  votes-fault,
  conflict-fault,
  no-fault,
  told-fits,
  told-allows,
  told-genuine,
  told-stores,
  told-sends,
  told-clashes,
  stands-on,
}
use Rattle.simplex_judge.proofs.judge.Judge.judge.Goals as goal

pub returns-then-not-fits : goal.returns-then-not-fits
returns-then-not-fits c =
    judges-from c.args.self.now _ c.args.setup.now c.args.prior.now c.args.event.now c.args.entry.now _ (λ genesis. entry-fault c.args.self.now _ (setting_of c.args.setup.now genesis) c.args.prior.now c.args.event.now c.args.entry.now
    (told-fits c.args.self.now c.args.setup.now genesis c.args.prior.now c.args.event.now c.args.entry.now c.fits.result false c.fits.ensures c.if-not-fits.true))

pub returns-then-not-allows : goal.returns-then-not-allows
returns-then-not-allows c =
    judges-from c.args.self.now _ c.args.setup.now c.args.prior.now c.args.event.now c.args.entry.now _ (λ genesis. condition-fault c.args.self.now _ (setting_of c.args.setup.now genesis) c.args.prior.now c.args.event.now c.args.entry.now
    (told-fits c.args.self.now c.args.setup.now genesis c.args.prior.now c.args.event.now c.args.entry.now c.fits.result true c.fits.ensures c.if-not-fits.false)
    (told-allows c.args.self.now c.args.setup.now genesis c.args.prior.now c.args.event.now c.args.entry.now c.allows.result false c.is_at_end-at_end.result c.allows.ensures c.is_at_end-at_end.ensures c.if-not-allows.true))

pub returns-then-not-branch : goal.returns-then-not-branch
returns-then-not-branch c =
    judges-from c.args.self.now _ c.args.setup.now c.args.prior.now c.args.event.now c.args.entry.now _ (λ genesis. forged-fault c.args.self.now _ (setting_of c.args.setup.now genesis) c.args.prior.now c.args.event.now c.args.entry.now
    (told-fits c.args.self.now c.args.setup.now genesis c.args.prior.now c.args.event.now c.args.entry.now c.fits.result true c.fits.ensures c.if-not-fits.false)
    (told-allows c.args.self.now c.args.setup.now genesis c.args.prior.now c.args.event.now c.args.entry.now c.allows.result true c.is_at_end-at_end.result c.allows.ensures c.is_at_end-at_end.ensures c.if-not-allows.false)
    (told-genuine c.args.self.now c.args.setup.now genesis c.args.prior.now c.args.event.now c.args.entry.now c.in_ok-is_genuine.field-0 false c.in_ok-is_genuine.ensures c.if-not-branch.true))

pub returns-then-not-branch-2 : goal.returns-then-not-branch-2
returns-then-not-branch-2 c =
    judges-from c.args.self.now _ c.args.setup.now c.args.prior.now c.args.event.now c.args.entry.now _ (λ genesis. order-fault c.args.self.now _ (setting_of c.args.setup.now genesis) c.args.prior.now c.args.event.now c.args.entry.now
    (told-fits c.args.self.now c.args.setup.now genesis c.args.prior.now c.args.event.now c.args.entry.now c.fits.result true c.fits.ensures c.if-not-fits.false)
    (told-allows c.args.self.now c.args.setup.now genesis c.args.prior.now c.args.event.now c.args.entry.now c.allows.result true c.is_at_end-at_end.result c.allows.ensures c.is_at_end-at_end.ensures c.if-not-allows.false)
    (told-genuine c.args.self.now c.args.setup.now genesis c.args.prior.now c.args.event.now c.args.entry.now c.in_ok-is_genuine.field-0 true c.in_ok-is_genuine.ensures c.if-not-branch.false)
    (told-stores c.args.self.now c.args.setup.now genesis c.args.prior.now c.args.event.now c.args.entry.now c.in_ok-store_first.field-0 false c.in_ok-store_first.ensures (told-allows c.args.self.now c.args.setup.now genesis c.args.prior.now c.args.event.now c.args.entry.now c.allows.result true c.is_at_end-at_end.result c.allows.ensures c.is_at_end-at_end.ensures c.if-not-allows.false) c.if-not-branch-2.true))

pub returns-then-not-branch-3 : goal.returns-then-not-branch-3
returns-then-not-branch-3 c =
    judges-from c.args.self.now _ c.args.setup.now c.args.prior.now c.args.event.now c.args.entry.now _ (λ genesis. votes-fault c.args.self.now _ (setting_of c.args.setup.now genesis) c.args.prior.now c.args.event.now c.args.entry.now
    (told-fits c.args.self.now c.args.setup.now genesis c.args.prior.now c.args.event.now c.args.entry.now c.fits.result true c.fits.ensures c.if-not-fits.false)
    (told-allows c.args.self.now c.args.setup.now genesis c.args.prior.now c.args.event.now c.args.entry.now c.allows.result true c.is_at_end-at_end.result c.allows.ensures c.is_at_end-at_end.ensures c.if-not-allows.false)
    (told-genuine c.args.self.now c.args.setup.now genesis c.args.prior.now c.args.event.now c.args.entry.now c.in_ok-is_genuine.field-0 true c.in_ok-is_genuine.ensures c.if-not-branch.false)
    (told-stores c.args.self.now c.args.setup.now genesis c.args.prior.now c.args.event.now c.args.entry.now c.in_ok-store_first.field-0 true c.in_ok-store_first.ensures (told-allows c.args.self.now c.args.setup.now genesis c.args.prior.now c.args.event.now c.args.entry.now c.allows.result true c.is_at_end-at_end.result c.allows.ensures c.is_at_end-at_end.ensures c.if-not-allows.false) c.if-not-branch-2.false)
    (told-sends c.args.self.now c.args.setup.now genesis c.args.prior.now c.args.event.now c.args.entry.now c.follow.new.self.seats.items c.in_ok-follow.field-0 false c.in_ok-follow.ensures (told-fits c.args.self.now c.args.setup.now genesis c.args.prior.now c.args.event.now c.args.entry.now c.fits.result true c.fits.ensures c.if-not-fits.false) (told-allows c.args.self.now c.args.setup.now genesis c.args.prior.now c.args.event.now c.args.entry.now c.allows.result true c.is_at_end-at_end.result c.allows.ensures c.is_at_end-at_end.ensures c.if-not-allows.false) c.if-not-branch-3.true))

pub returns-then-branch : goal.returns-then-branch
returns-then-branch c =
    judges-from c.args.self.now _ c.args.setup.now c.args.prior.now c.args.event.now c.args.entry.now _ (λ genesis. conflict-fault c.args.self.now _ (setting_of c.args.setup.now genesis) c.args.prior.now c.args.event.now c.args.entry.now
    (told-fits c.args.self.now c.args.setup.now genesis c.args.prior.now c.args.event.now c.args.entry.now c.fits.result true c.fits.ensures c.if-not-fits.false)
    (told-allows c.args.self.now c.args.setup.now genesis c.args.prior.now c.args.event.now c.args.entry.now c.allows.result true c.is_at_end-at_end.result c.allows.ensures c.is_at_end-at_end.ensures c.if-not-allows.false)
    (told-genuine c.args.self.now c.args.setup.now genesis c.args.prior.now c.args.event.now c.args.entry.now c.in_ok-is_genuine.field-0 true c.in_ok-is_genuine.ensures c.if-not-branch.false)
    (told-stores c.args.self.now c.args.setup.now genesis c.args.prior.now c.args.event.now c.args.entry.now c.in_ok-store_first.field-0 true c.in_ok-store_first.ensures (told-allows c.args.self.now c.args.setup.now genesis c.args.prior.now c.args.event.now c.args.entry.now c.allows.result true c.is_at_end-at_end.result c.allows.ensures c.is_at_end-at_end.ensures c.if-not-allows.false) c.if-not-branch-2.false)
    (told-sends c.args.self.now c.args.setup.now genesis c.args.prior.now c.args.event.now c.args.entry.now c.follow.new.self.seats.items c.in_ok-follow.field-0 true c.in_ok-follow.ensures (told-fits c.args.self.now c.args.setup.now genesis c.args.prior.now c.args.event.now c.args.entry.now c.fits.result true c.fits.ensures c.if-not-fits.false) (told-allows c.args.self.now c.args.setup.now genesis c.args.prior.now c.args.event.now c.args.entry.now c.allows.result true c.is_at_end-at_end.result c.allows.ensures c.is_at_end-at_end.ensures c.if-not-allows.false) c.if-not-branch-3.false)
    (told-clashes c.args.self.now c.args.setup.now genesis c.args.prior.now c.args.event.now c.args.entry.now c.in_ok-take.field-0 true c.in_ok-take.ensures.answer c.if-branch.true))

pub returns : goal.returns
returns c =
    judges-from c.args.self.now _ c.args.setup.now c.args.prior.now c.args.event.now c.args.entry.now _ (λ genesis. no-fault c.args.self.now _ (setting_of c.args.setup.now genesis) c.args.prior.now c.args.event.now c.args.entry.now
    (told-fits c.args.self.now c.args.setup.now genesis c.args.prior.now c.args.event.now c.args.entry.now c.fits.result true c.fits.ensures c.if-not-fits.false)
    (told-allows c.args.self.now c.args.setup.now genesis c.args.prior.now c.args.event.now c.args.entry.now c.allows.result true c.is_at_end-at_end.result c.allows.ensures c.is_at_end-at_end.ensures c.if-not-allows.false)
    (told-genuine c.args.self.now c.args.setup.now genesis c.args.prior.now c.args.event.now c.args.entry.now c.in_ok-is_genuine.field-0 true c.in_ok-is_genuine.ensures c.if-not-branch.false)
    (told-stores c.args.self.now c.args.setup.now genesis c.args.prior.now c.args.event.now c.args.entry.now c.in_ok-store_first.field-0 true c.in_ok-store_first.ensures (told-allows c.args.self.now c.args.setup.now genesis c.args.prior.now c.args.event.now c.args.entry.now c.allows.result true c.is_at_end-at_end.result c.allows.ensures c.is_at_end-at_end.ensures c.if-not-allows.false) c.if-not-branch-2.false)
    (told-sends c.args.self.now c.args.setup.now genesis c.args.prior.now c.args.event.now c.args.entry.now c.follow.new.self.seats.items c.in_ok-follow.field-0 true c.in_ok-follow.ensures (told-fits c.args.self.now c.args.setup.now genesis c.args.prior.now c.args.event.now c.args.entry.now c.fits.result true c.fits.ensures c.if-not-fits.false) (told-allows c.args.self.now c.args.setup.now genesis c.args.prior.now c.args.event.now c.args.entry.now c.allows.result true c.is_at_end-at_end.result c.allows.ensures c.is_at_end-at_end.ensures c.if-not-allows.false) c.if-not-branch-3.false)
    (told-clashes c.args.self.now c.args.setup.now genesis c.args.prior.now c.args.event.now c.args.entry.now c.in_ok-take.field-0 false c.in_ok-take.ensures.answer c.if-branch.false)
    (stands-on c.args.self.now c.args.setup.now genesis c.args.prior.now c.args.event.now c.args.entry.now _ c.in_ok-follow.field-0 c.in_ok-take.field-0 c.in_ok-follow.ensures (told-fits c.args.self.now c.args.setup.now genesis c.args.prior.now c.args.event.now c.args.entry.now c.fits.result true c.fits.ensures c.if-not-fits.false) (told-allows c.args.self.now c.args.setup.now genesis c.args.prior.now c.args.event.now c.args.entry.now c.allows.result true c.is_at_end-at_end.result c.allows.ensures c.is_at_end-at_end.ensures c.if-not-allows.false) c.in_ok-take-2.ensures c.in_ok-take.ensures.stands c.if-branch.false))
