-- The elector of a setup's members: scripted leaders, and behind them the members in turn.
use Rattle.std.specs.Prelude.{ℕ}
use Rattle.simplex_values.specs.declared.round.Round.{Round}
use Rattle.simplex_values.specs.declared.terms.Terms.{Terms}
use Rattle.simplex_types.specs.declared.round_robin.RoundRobinElector.{RoundRobinElector}
use Rattle.simplex_types.specs.contracts.round_robin.RoundRobinElectorElector.TheImpl as turns
use Rattle.simplex_types.specs.RoundRobin.{leader_of}
use Rattle.simplex_twins.specs.declared.elector.ElectorState.{ElectorState}
use Rattle.simplex_twins.specs.Leaders.{scripted_leader}
use Rattle.simplex_transcript.specs.declared.setup.Setup.{Setup}

abbrev pub NodeElector : Type 0
NodeElector = ElectorState RoundRobinElector turns.ghosts

-- who leads a round
abbrev pub elects : NodeElector → Round → ℕ
elects elector =
    scripted_leader elector.leaders elector.fallback.terms.length
    (leader_of elector.fallback.terms.length elector.fallback.members)

-- how a setup cuts views into terms
abbrev pub terms_in : Setup → Terms
terms_in setup = record { length = setup.term; lookahead = setup.lookahead; stall_timeout = setup.stall }
