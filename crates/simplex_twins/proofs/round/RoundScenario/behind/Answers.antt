use Rattle.std.proofs.Common.{◌≤◌, ◌<◌, ◌+◌, ◌^◌, arith}
use Rattle.simplex_twins.proofs.Walk.{next_secondary, next_primary, next_leader, next_none}
use Rattle.simplex_twins.proofs.round.RoundScenario.behind.Goals as goal

pub returns-then-self-last-clause-next : goal.returns-then-self-last-clause-next
returns-then-self-last-clause-next c =
    rw (← c.self.view_is) (next_secondary c.args.participants c.self.inside.leader c.self.inside.primary c.self.inside.secondary)

pub returns-then-self-last-2-clause-next : goal.returns-then-self-last-2-clause-next
returns-then-self-last-2-clause-next c =
    let last : 2 ^ c.args.participants ≤ c.self.inside.secondary + 1 = omega arith in
    let below : c.self.inside.primary + 1 < 2 ^ c.args.participants = omega arith in
    rw (← c.self.view_is) (next_primary c.args.participants c.self.inside.leader c.self.inside.primary c.self.inside.secondary last below)

pub returns-then-self-participants-clause-next : goal.returns-then-self-participants-clause-next
returns-then-self-participants-clause-next c =
    let last : 2 ^ c.args.participants ≤ c.self.inside.secondary + 1 = omega arith in
    let last_primary : 2 ^ c.args.participants ≤ c.self.inside.primary + 1 = omega arith in
    let below : c.self.inside.leader + 1 < c.args.participants = omega arith in
    rw (← c.self.view_is) (next_leader c.args.participants c.self.inside.leader c.self.inside.primary c.self.inside.secondary last last_primary below)

pub returns-clause-next : goal.returns-clause-next
returns-clause-next c =
    let last : 2 ^ c.args.participants ≤ c.self.inside.secondary + 1 = omega arith in
    let last_primary : 2 ^ c.args.participants ≤ c.self.inside.primary + 1 = omega arith in
    let last_leader : c.args.participants ≤ c.self.inside.leader + 1 = omega arith in
    rw (← c.self.view_is) (next_none c.args.participants c.self.inside.leader c.self.inside.primary c.self.inside.secondary last last_primary last_leader)
