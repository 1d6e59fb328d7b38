use Rattle.std.proofs.Common.{◌≡◌, refl, sym}
use Rattle.simplex_node.specs.declared.error.NodeError.TheVariants as errors
use Rattle.simplex_node.proofs.node.Node.step.Goals as goal

pub returns-in-Ok-clause-steps : goal.returns-in-Ok-clause-steps
returns-in-Ok-clause-steps g c =
    let did = c.in-Ok.ensures.takes in
    record {
      next = λ made past h r. sym (rw c.in-Some.is at (c.next_source.ensures made past h r));
      does = record { outcome = did.outcome; taken = did.taken; ended = did.ended; fares = did.fares };
      clock = c.in-Ok.ensures.clock;
    }

pub returns-in-Err-clause-broken : goal.returns-in-Err-clause-broken
returns-in-Err-clause-broken g c = λ is.
    let same : c.in-Err.error ≡ errors.Journal = (let e = is in cc) in
    let did = c.in-Err.ensures.broken (rw same refl) in (
      c.in-Some.source,
      record {
        next = λ made past h r. sym (rw c.in-Some.is at (c.next_source.ensures made past h r));
        does = record { outcome = did.outcome; taken = did.taken; ended = did.ended; fares = did.fares };
        clock = c.in-Err.ensures.clock;
      },
    )
