use Rattle.simplex_report.proofs.Lengths.{certificate_within, request_within, error_within, response_within}
use Rattle.simplex_report.proofs.laws.no_payload_is_longer.Goals as goal

pub returns-clause-certificates : goal.returns-clause-certificates
returns-clause-certificates c = certificate_within

pub returns-clause-requests : goal.returns-clause-requests
returns-clause-requests c = request_within

pub returns-clause-errors : goal.returns-clause-errors
returns-clause-errors c = error_within

pub returns-clause-responses : goal.returns-clause-responses
returns-clause-responses c = response_within
