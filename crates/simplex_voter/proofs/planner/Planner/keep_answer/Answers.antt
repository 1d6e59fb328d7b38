use Rattle.std.proofs.Common.{refl}
use Rattle.simplex_voter.proofs.Answered.{stands-more}
use Rattle.simplex_voter.proofs.planner.Planner.keep_answer.Goals as goal

pub returns : goal.returns
returns g c = λ made answers desk s.
    stands-more c.args.request c.args.answer refl c.mark_proposal.ensures c.mark_verify.ensures c.mark_certify.ensures refl c.counted-arrivals.ensures refl refl refl refl refl refl c.requires.takes s
