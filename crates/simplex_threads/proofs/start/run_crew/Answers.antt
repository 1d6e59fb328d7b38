use Rattle.simplex_threads.proofs.Running.{may-run, batcher-ran, resolver-ran, voter-ran, voter-ran-whole}
use Rattle.simplex_threads.proofs.start.run_crew.Goals as goal

pub run-requires-clause-clocks : goal.run-requires-clause-clocks
run-requires-clause-clocks g c = λ _ _. may-run _ _ _ _ c.in_ok-team.ensures c.requires.clock c.requires.clocks

pub returns-clause-batcher : goal.returns-clause-batcher
returns-clause-batcher g c = λ parts h.
    let ran = c.in_ok-team-2.ensures in
    batcher-ran c.in_ok-team.ensures ran.boxes c.in_ok-logs.ensures.records _ ran.batcher.0 ran.batcher.1 parts h

pub returns-clause-resolver : goal.returns-clause-resolver
returns-clause-resolver g c = λ parts h.
    let ran = c.in_ok-team-2.ensures in
    resolver-ran c.in_ok-team.ensures ran.boxes c.in_ok-logs.ensures.records _ ran.resolver.0 ran.resolver.1 parts h

pub returns-clause-voter : goal.returns-clause-voter
returns-clause-voter g c = λ parts h.
    let ran = c.in_ok-team-2.ensures in
    rw c.in_ok-logs.ensures.journal (voter-ran c.in_ok-team.ensures ran.boxes c.in_ok-logs.ensures.records _ ran.voter.0 ran.voter.1 parts h)

pub returns-clause-whole : goal.returns-clause-whole
returns-clause-whole g c = λ parts h.
    let ran = c.in_ok-team-2.ensures in
    rw c.in_ok-logs.ensures.journal (voter-ran-whole c.in_ok-team.ensures ran.boxes c.in_ok-logs.ensures.records _ ran.voter.0 ran.voter.1 parts h)
