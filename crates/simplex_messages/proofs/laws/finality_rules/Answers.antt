use Rattle.std.proofs.Common.{false}
use Rattle.simplex_messages.specs.Policies.{voter_view, is_final_for_voter, voter_handled, resolver_view, is_final_for_resolver, is_replayed, resolver_handled}
use Rattle.simplex_messages.proofs.ByKind.{voter-comes, resolver-comes}
use Rattle.simplex_messages.proofs.Finality.{rules-turns}
use Rattle.simplex_messages.proofs.laws.finality_rules.Goals as goal

pub returns-clause-voter : goal.returns-clause-voter
returns-clause-voter c = λ turns. rules-turns voter_view is_final_for_voter (λ _. false) voter_handled (λ _. false) voter-comes turns

pub returns-clause-resolver : goal.returns-clause-resolver
returns-clause-resolver c = λ turns. rules-turns resolver_view is_final_for_resolver is_replayed resolver_handled (λ _. false) resolver-comes turns
