use Rattle.std.proofs.Common.{false}
use Rattle.simplex_messages.specs.Policies.{stands_for_voter, voter_handled, stands_for_resolver, resolver_handled, stands_for_batcher, batcher_handled}
use Rattle.simplex_messages.proofs.Twice.{twice-turns, voter-twice, resolver-twice, batcher-twice}
use Rattle.simplex_messages.proofs.laws.none_waits_twice.Goals as goal

pub returns-clause-voter : goal.returns-clause-voter
returns-clause-voter c = λ turns. twice-turns stands_for_voter voter_handled (λ _. false) voter-twice turns

pub returns-clause-resolver : goal.returns-clause-resolver
returns-clause-resolver c = λ turns. twice-turns stands_for_resolver resolver_handled (λ _. false) resolver-twice turns

pub returns-clause-batcher : goal.returns-clause-batcher
returns-clause-batcher c = λ turns. twice-turns stands_for_batcher batcher_handled (λ _. false) batcher-twice turns
