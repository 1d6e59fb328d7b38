use Rattle.std.proofs.Common.{◌≡◌, rules, ap, ◌∙◌, Some, None}
use Rattle.std.specs.Ordering.{nat_cmp}
use Rattle.std.specs.Map.{lookup}
use Rattle.std.specs.BTreeMap.{is_at}
use Rattle.std.proofs.lemmas.Result.{IfOk-weaker, IfErr-weaker}
use Rattle.simplex_journal.specs.Journal.{appended}
use Rattle.simplex_journal.specs.Memory.{sections_of}
use Rattle.simplex_journal.proofs.Entries.{appended-written, same-written, appended-put}
use Rattle.simplex_journal.proofs.sections.append_to.Goals as goal

pub returns-in-Some-clause-ok : goal.returns-in-Some-clause-ok
returns-in-Some-clause-ok c =
    let found : lookup (is_at (nat_cmp c.args.number)) c.args.sections.now.entries ≡ Some c.in-Some.lists.now = search rules in
    let write = (c.get_mut.follows.holds c.append.new.self).0 in
    IfOk-weaker c.append.result _ _ (λ _ is. appended-written _ _ _ _ _ _ write is c.get_mut.ensures.ordered found) c.append.ensures.ok

pub returns-in-Some-clause-err : goal.returns-in-Some-clause-err
returns-in-Some-clause-err c =
    let found : lookup (is_at (nat_cmp c.args.number)) c.args.sections.now.entries ≡ Some c.in-Some.lists.now = search rules in
    let write = (c.get_mut.follows.holds c.append.new.self).0 in
    IfErr-weaker c.append.result _ _ (λ _ is. same-written _ _ _ _ _ write is found) c.append.ensures.err

pub returns-clause-ok : goal.returns-clause-ok
returns-clause-ok c =
    let same = c.get_mut.follows.holds-at-none in
    let entries : c.get_mut.follows.lender-at-none.entries ≡ c.args.sections.now.entries = rw same in
    let absent : lookup (is_at (nat_cmp c.args.number)) c.get_mut.follows.lender-at-none.entries ≡ None = rw same (search rules) in
    let first = rw c.new-lists.ensures at c.in_ok-append.ensures.ok in
    appended-put _ _ _ _ _ c.in_ok-insert.ensures.entries first absent
    ∙ ap (λ es. appended c.args.number c.args.artifact (sections_of es)) entries
