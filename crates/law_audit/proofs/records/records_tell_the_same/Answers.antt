use Rattle.law_audit.proofs.Telling.{same_clock, same_packet, same_request, same_floor, same_forged}
use Rattle.law_audit.proofs.records.records_tell_the_same.Goals as goal

pub returns-clause-clock : goal.returns-clause-clock
returns-clause-clock c = same_clock

pub returns-clause-packet : goal.returns-clause-packet
returns-clause-packet c = same_packet

pub returns-clause-request : goal.returns-clause-request
returns-clause-request c = same_request

pub returns-clause-floor : goal.returns-clause-floor
returns-clause-floor c = same_floor

pub returns-clause-forged : goal.returns-clause-forged
returns-clause-forged c = same_forged
