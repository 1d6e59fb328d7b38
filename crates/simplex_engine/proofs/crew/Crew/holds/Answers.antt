use Rattle.simplex_engine.proofs.Sourced.{batcher-holds, voter-holds, resolver-holds, timer-holds, propose-holds, verify-holds, certify-holds, handler-holds, fetch-holds}
use Rattle.simplex_engine.proofs.crew.Crew.holds.Goals as goal

pub returns-in-Batcher : goal.returns-in-Batcher
returns-in-Batcher g c = rw c.in-Batcher.is (λ told. batcher-holds told c.args.self.now _ c.args.now c.is_empty.ensures)

pub returns-in-Voter : goal.returns-in-Voter
returns-in-Voter g c = rw c.in-Voter.is (λ told. voter-holds told c.args.self.now _ c.args.now c.is_empty-in-Voter.ensures)

pub returns-in-Timer : goal.returns-in-Timer
returns-in-Timer g c = rw c.in-Timer.is (λ told. timer-holds told c.args.self.now _ c.args.now c.holds.ensures)

pub returns-in-Propose : goal.returns-in-Propose
returns-in-Propose g c = rw c.in-Propose.is (λ told. propose-holds told c.args.self.now _ c.args.now c.holds-in-Propose.ensures)

pub returns-in-Verify : goal.returns-in-Verify
returns-in-Verify g c = rw c.in-Verify.is (λ told. verify-holds told c.args.self.now _ c.args.now c.holds-in-Verify.ensures)

pub returns-in-Certify : goal.returns-in-Certify
returns-in-Certify g c = rw c.in-Certify.is (λ told. certify-holds told c.args.self.now _ c.args.now c.holds-in-Certify.ensures)

pub returns-in-Resolver : goal.returns-in-Resolver
returns-in-Resolver g c = rw c.in-Resolver.is (λ told. resolver-holds told c.args.self.now _ c.args.now c.is_empty-in-Resolver.ensures)

pub returns-in-Handler : goal.returns-in-Handler
returns-in-Handler g c = rw c.in-Handler.is (λ told. handler-holds told c.args.self.now _ c.args.now c.holds_handler.ensures)

pub returns-in-Fetch : goal.returns-in-Fetch
returns-in-Fetch g c = rw c.in-Fetch.is (λ told. fetch-holds told c.args.self.now _ c.args.now (c.is_fetch_due.ensures told))
