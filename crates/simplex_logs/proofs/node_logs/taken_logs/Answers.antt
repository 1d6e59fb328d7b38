use Rattle.std.proofs.Common.{◌++◌, ◌∷◌, [], List, ap, ◌∙◌, map, get_or}
use Rattle.simplex_transcript.specs.declared.node.Node.{Node}
use Rattle.simplex_transcript.specs.declared.setup.MemberKind.TheVariants as kinds
use Rattle.model_log.specs.declared.entry.LogEntry.{LogEntry}
use Rattle.law_log.specs.Logs.{honest_from}
use Rattle.simplex_logs.specs.NodeLogs.{with_log}
use Rattle.simplex_logs.proofs.NodeLogs.{one_more}
use Rattle.simplex_logs.proofs.node_logs.taken_logs.Goals as goal

pub loop-member-preserved : goal.loop-member-preserved
loop-member-preserved c =
    let f = with_log c.args.setup.now c.args.entries.now in
    let all = c.as_slice-kind-items.result.now in
    let i = c.loop-member.member in
    c.in_ok-add_log.ensures
    ∙ ap (λ (logs : List (Node × List LogEntry)). logs ++ map f (honest_from i (get_or all i kinds.Honest ∷ []))) c.loop-member.invariant
    ∙ one_more f all i kinds.Honest c.loop-member-test.true
