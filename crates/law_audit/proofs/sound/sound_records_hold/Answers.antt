use Rattle.law_audit.proofs.Sounding.{sound_exactly, sound_agrees}
use Rattle.law_audit.proofs.sound.sound_records_hold.Goals as goal

pub returns-clause-exactly : goal.returns-clause-exactly
returns-clause-exactly c = sound_exactly

pub returns-clause-agrees : goal.returns-clause-agrees
returns-clause-agrees c = sound_agrees
