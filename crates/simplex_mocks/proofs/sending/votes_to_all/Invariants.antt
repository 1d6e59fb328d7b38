use Rattle.std.proofs.Common.{◌≡◌, ◌++◌, drop}
use Rattle.model_faults.specs.Heard.{votes_to_all}
use Rattle.simplex_mocks.proofs.sending.votes_to_all.Given as goal

abbrev pub invariant-loop-subject : goal.invariant-loop-subject
invariant-loop-subject g l =
    l.sent ++ votes_to_all (g.S.Scheme.attests l.scheme) (drop l.subject-index l.subjects) ≡ votes_to_all (g.S.Scheme.attests l.scheme) l.subjects
