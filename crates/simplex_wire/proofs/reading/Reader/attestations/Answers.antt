use Rattle.std.proofs.Common.{◌≡◌}
use Rattle.std.proofs.lemmas.Result.{err_from_is_err_and}
use Rattle.simplex_wire.specs.Message.{attestations_from}
use Rattle.simplex_wire.proofs.Lists.{goes_on, ends, is_done}
use Rattle.simplex_wire.proofs.reading.Reader.attestations.Goals as goal

pub returns-in_err-attestation : goal.returns-in_err-attestation
returns-in_err-attestation c =
    let p = err_from_is_err_and c.from_residual.result c.from_residual.ensures.1 in
    rw (p.1, p.2) (ends c.in_err-attestation.field-0.0 c.loop.attestations.items c.args.count c.loop.counter c.loop.least c.loop.self c.attestation_from.new.self (attestations_from c.args.count 0 c.args.self.now) c.loop-test.true c.in_err-attestation.ensures c.loop.invariant)

pub loop-preserved : goal.loop-preserved
loop-preserved c =
    let a = c.in_ok-attestation.attestation in
    let least-is : c.from-least.result ≡ c.in_ok-attestation.attestation.signer = cc in
    rw (c.in_ok-push.ensures.items, least-is) (goes_on c.loop.attestations.items c.args.count c.loop.counter c.loop.least c.loop.self a c.attestation_from.new.self (attestations_from c.args.count 0 c.args.self.now) c.loop-test.true c.in_ok-attestation.ensures c.loop.invariant)

pub returns : goal.returns
returns c = is_done c.loop.attestations.items c.args.count c.loop.counter c.loop.least c.loop.self (attestations_from c.args.count 0 c.args.self.now) c.loop-test.false c.loop.invariant
