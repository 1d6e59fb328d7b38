use Rattle.std.proofs.Common.{◌≡◌, Some, rules}
use Rattle.std.proofs.lemmas.Result.{on_ok_weaker, on_err_weaker}
use Rattle.std.specs.BTreeMap as tree
use Rattle.simplex_recording.specs.Kept.{pair_cmp}
use Rattle.simplex_recording.proofs.Pushed.{evidence_pushed, evidence_kept}
use Rattle.simplex_recording.proofs.faults.add_evidence.Goals as goal

pub returns-in-Some-clause-ok : goal.returns-in-Some-clause-ok
returns-in-Some-clause-ok c =
    let is = c.push_new.new.known in
    let view = c.view.inside.0 in
    let member = c.member.inside.0 in
    let there : tree.get_by (pair_cmp (view, member)) c.args.lists.now ≡ Some c.in-Some.known.now = search rules in
    let same_view : view ≡ c.args.view = cc in
    let same_member : member ≡ c.args.member = cc in
    on_ok_weaker c.push_new.result
    (evidence_pushed c.args.lists.now (c.get_mut.follows.lender is) view member c.args.view c.args.member c.in-Some.known.now is c.args.evidence same_view same_member there ((c.get_mut.follows.holds is).3 (search rules)).0)
    c.push_new.ensures.ok

pub returns-in-Some-clause-err : goal.returns-in-Some-clause-err
returns-in-Some-clause-err c =
    let is = c.push_new.new.known in
    let view = c.view.inside.0 in
    let member = c.member.inside.0 in
    let there : tree.get_by (pair_cmp (view, member)) c.args.lists.now ≡ Some c.in-Some.known.now = search rules in
    on_err_weaker c.push_new.result
    (evidence_kept c.args.lists.now (c.get_mut.follows.lender is) view member c.in-Some.known.now is there ((c.get_mut.follows.holds is).3 (search rules)).0)
    c.push_new.ensures.err
