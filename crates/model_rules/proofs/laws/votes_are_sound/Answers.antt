use Rattle.model_rules.proofs.Soundness.{notarize_parts, finalize_parts, slot_view, notarizes_sound, finalizes_sound}
use Rattle.model_rules.proofs.laws.votes_are_sound.Goals as goal

pub returns-clause-notarize : goal.returns-clause-notarize
returns-clause-notarize c = λ made known view n e.
    let p = notarize_parts made known view n e in
    (slot_view known view n.proposal p.0, p.0, notarizes_sound made known n.proposal p.1)

pub returns-clause-finalize : goal.returns-clause-finalize
returns-clause-finalize c = λ made known view f e.
    let p = finalize_parts made known view f e in
    (slot_view known view f.proposal p.0, p.0, finalizes_sound made known view p.1)
