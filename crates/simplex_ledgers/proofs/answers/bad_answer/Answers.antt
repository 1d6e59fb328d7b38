use Rattle.std.proofs.Common.{◌∙◌, sym}
use Rattle.model_ledger.specs.Blocks.{is_sound}
use Rattle.simplex_ledger.proofs.Transfers.{nothing_left}
use Rattle.simplex_ledgers.proofs.Answering.{goes_on, stops, is_over}
use Rattle.simplex_ledgers.proofs.answers.bad_answer.Goals as goal

pub loop-place-preserved : goal.loop-place-preserved
loop-place-preserved c =
    goes_on (is_sound c.args.blocks.now) c.args.setup.now c.args.entries.now c.args.events.now c.loop-place.place c.index-events-place.result c.loop-place-test.true c.index-events-place.is
    (sym c.is_bad_answer.ensures ∙ c.if-is_bad_answer.false) c.loop-place.invariant

pub returns-then-is_bad_answer : goal.returns-then-is_bad_answer
returns-then-is_bad_answer c =
    sym (stops (is_sound c.args.blocks.now) c.args.setup.now c.args.entries.now c.args.events.now c.loop-place.place c.index-events-place.result c.loop-place-test.true c.index-events-place.is
    (sym c.is_bad_answer.ensures ∙ c.if-is_bad_answer.true) c.loop-place.invariant)

pub returns : goal.returns
returns c =
    sym (is_over (is_sound c.args.blocks.now) c.args.setup.now c.args.entries.now c.args.events.now c.loop-place.place
    (nothing_left c.args.events.now c.loop-place.place c.loop-place-test.false) c.loop-place.invariant)
