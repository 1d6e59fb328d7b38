use Rattle.std.proofs.Common.{◌≡◌, ◌≤◌, [], length, take}
use Rattle.model_run.specs.Setting.{Setting}
use Rattle.model_audit.specs.Audit.{judged_from}
use Rattle.simplex_judge.specs.Judging.{JudgeStands}
use Rattle.simplex_judge.proofs.Verdicts.{left_of, so_far}
use Rattle.simplex_judge.proofs.verdict.judge_all.Given as goal

abbrev pub invariant-loop-place : goal.invariant-loop-place
invariant-loop-place l =
    (l.place ≤ length l.entries) × (l.place ≤ length l.events)
    × ((setting : Setting) → setting.setup ≡ l.setup → JudgeStands l.kept setting (take l.place l.entries) (so_far l.events l.entries l.place)
    × (left_of setting l.events l.entries l.place ≡ judged_from setting [] l.events l.entries))
