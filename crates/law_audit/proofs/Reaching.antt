-- Whether an engine is too near the greatest view is read of the record of a run.
use Rattle.std.proofs.Common.{◌≡◌, ◌<◌, ◌-◌, ◌*◌, nat_lt, true, List, map, sym, ap, ◌∙◌, subst}
use Rattle.simplex_values.specs.Terms.{greatest_view}
use Rattle.model_rules.specs.Known.{Made}
use Rattle.model_rules.specs.Views.{current_of}
use Rattle.model_steps.specs.Engine.{EngineMade, Did, started_at, voter_in}
use Rattle.model_run.specs.Setting.{Setting}
use Rattle.model_run.specs.Kinds.{runs_engine}
use Rattle.model_run.specs.Life.{Noted, Life, Running, life_in}
use Rattle.model_run.specs.Members.{rules_of}
use Rattle.simplex_transcript.specs.declared.node.Node.{Node}
use Rattle.law_run.specs.Histories.{IsRun, AreFloors}
use Rattle.law_run.proofs.Events.{place_in}
use Rattle.model_audit.specs.Rebuilt.{recorded}
use Rattle.model_audit.specs.Reading.{Read, rules_at, read}
use Rattle.law_audit.specs.Recording.{AreEndsRead, IsRunningAs, IsReadAs}
use Rattle.law_audit.proofs.Looking.{same_current}
use Rattle.law_audit.proofs.Tracked.{tracks}

-- what is read of a node whose engine runs
pub read_running : (setting : Setting) (before : List Noted) (node : Node) (made : EngineMade) (past : List Did) → 0 < setting.setup.term → runs_engine setting.setup node.member ≡ true → IsRun setting before → AreFloors before
    → life_in setting before node ≡ Running made past → IsRunningAs setting node made past (read setting (map recorded before) node)
read_running setting before node made past pos good ran floors running =
    subst (λ (l : Life). IsReadAs setting node l (read setting (map recorded before) node)) running (tracks setting node pos good before ran floors)

-- its rules are those of the engine
pub read_rules : (setting : Setting) (node : Node) (made : EngineMade) (past : List Did) (r : Read) → IsRunningAs setting node made past r → rules_at setting node r ≡ (voter_in made past).rules
read_rules setting node made past r h = ap (rules_of setting node.member) h.start ∙ sym (h.rules (started_at past))

pub ends_read : (setting : Setting) (before : List Noted) → 0 < setting.setup.term → IsRun setting before → AreFloors before → AreEndsRead setting before
ends_read setting before pos ran floors node made past good running =
    let r = read setting (map recorded before) node in
    let h = read_running setting before node made past pos good ran floors running in
    let limit = greatest_view - 2 * setting.setup.term - setting.setup.lookahead in
    ap (λ (m : Made). nat_lt limit (current_of m r.known)) (read_rules setting node made past r h)
    ∙ ap (nat_lt limit) (same_current r.known (place_in made past).standing.desk.known h.known (voter_in made past).rules)
