use Rattle.std.proofs.Common.{◌≡◌, ◌∙◌, refl, rules, inl}
use Rattle.simplex_disk.specs.Index.{sections_at}
use Rattle.simplex_disk.proofs.Whole.{moments_no}
use Rattle.simplex_disk.proofs.index.append_to.Goals as goal

pub returns-in_err-bytes-clause-goes : goal.returns-in_err-bytes-clause-goes
returns-in_err-bytes-clause-goes g c = λ H st indexed.
    let es = c.args.index.now.entries in
    let same : sections_at H es ≡ sections_at H es = refl in
    record { now = H; stands = st; held = moments_no 0 es c.args.leaving.now H indexed; holds = (indexed, search rules) }

pub returns-in_err-bytes-clause-less : goal.returns-in_err-bytes-clause-less
returns-in_err-bytes-clause-less g c = λ n leaves. inl leaves

pub returns-clause-goes : goal.returns-clause-goes
returns-clause-goes g c = λ H st indexed. c.append_bytes.ensures.goes c.args.artifact.now c.in_ok-bytes.ensures.reads (c.deref.ensures.value ∙ c.in_ok-bytes.ensures.bytes) H st indexed
