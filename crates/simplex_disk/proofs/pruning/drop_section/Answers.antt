use Rattle.std.proofs.Common.{◌≡◌, ◌∙◌, suc, ap, sym, rules}
use Rattle.simplex_disk.specs.Pruning.{count_below}
use Rattle.simplex_disk.proofs.Segments.{ok_of}
use Rattle.simplex_disk.proofs.Prunes.{removed_first, some_first, segment_first, moments_dropped, sections_dropped, leaving_dropped, indexed_dropped}
use Rattle.simplex_disk.proofs.Paces.{fewer_first, match_ok, match_err}
use Rattle.simplex_disk.proofs.pruning.drop_section.Goals as goal

pub returns-in_err-drop_file-clause-stands : goal.returns-in_err-drop_file-clause-stands
returns-in_err-drop_file-clause-stands g c = λ H st indexed none least below.
    let n = c.args.number in
    let es = c.args.index.now.entries in
    let at = c.requires in
    let v = some_first es n at in
    let r = segment_first n es H v.0 indexed v.1 in
    let t = c.drop_file.ensures.stands H st r.0 r.1 r.2.stands.left in
    let is = c.remove.ensures.entries ∙ removed_first es n at in
    let absent = c.remove.ensures.updates.1 in
    record {
      now = t.now;
      stands = t.stands;
      held = moments_dropped n least es at below H indexed v.0 v.1 r.0 r.1 r.2 _ is absent t.now t.held;
      holds = (leaving_dropped n least es at below H indexed v.0 v.1 r.0 r.1 r.2 _ is absent t.now t.held, sections_dropped n least es at below H indexed v.0 v.1 r.0 r.1 r.2 _ is absent t.now t.held);
    }

pub returns-clause-stands : goal.returns-clause-stands
returns-clause-stands g c = λ H st indexed none least below.
    let n = c.args.number in
    let es = c.args.index.now.entries in
    let at = c.requires in
    let v = some_first es n at in
    let r = segment_first n es H v.0 indexed v.1 in
    let t = c.drop_file.ensures.stands H st r.0 r.1 r.2.stands.left in
    let is = c.remove.ensures.entries ∙ removed_first es n at in
    let absent = c.remove.ensures.updates.1 in
    let shut = ok_of c.drop_file.result _ c.in_ok-drop_file.was t.holds in
    record {
      now = t.now;
      stands = t.stands;
      held = moments_dropped n least es at below H indexed v.0 v.1 r.0 r.1 r.2 _ is absent t.now t.held;
      holds = (indexed_dropped n least es at below H indexed v.0 v.1 r.0 r.1 r.2 _ is absent t.now t.held shut, sections_dropped n least es at below H indexed v.0 v.1 r.0 r.1 r.2 _ is absent t.now t.held);
    }

pub returns-in_err-drop_file-clause-fewer : goal.returns-in_err-drop_file-clause-fewer
returns-in_err-drop_file-clause-fewer g c = λ least below.
    let es = c.args.index.now.entries in
    fewer_first es c.args.number least c.requires below ∙ ap (λ l. suc (count_below least l)) (sym (c.remove.ensures.entries ∙ removed_first es c.args.number c.requires))

pub returns-clause-fewer : goal.returns-clause-fewer
returns-clause-fewer g c = λ least below.
    let es = c.args.index.now.entries in
    fewer_first es c.args.number least c.requires below ∙ ap (λ l. suc (count_below least l)) (sym (c.remove.ensures.entries ∙ removed_first es c.args.number c.requires))

pub returns-in_err-drop_file-clause-paced : goal.returns-in_err-drop_file-clause-paced
returns-in_err-drop_file-clause-paced g c = λ more told.
    let last : more ≡ 0 = match_err _ _ c.drop_file.result _ c.in_err-drop_file.was (c.drop_file.ensures.paced more told) in
    search rules

pub returns-clause-paced : goal.returns-clause-paced
returns-clause-paced g c = λ more told. match_ok _ _ c.drop_file.result _ c.in_ok-drop_file.was (c.drop_file.ensures.paced more told)

pub returns-in_err-drop_file-clause-kept : goal.returns-in_err-drop_file-clause-kept
returns-in_err-drop_file-clause-kept g c = c.remove.ensures.entries ∙ removed_first c.args.index.now.entries c.args.number c.requires

pub returns-clause-kept : goal.returns-clause-kept
returns-clause-kept g c = c.remove.ensures.entries ∙ removed_first c.args.index.now.entries c.args.number c.requires
