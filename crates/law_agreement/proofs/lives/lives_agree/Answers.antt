use Rattle.std.proofs.Common.{sym, subst}
use Rattle.law_agreement.specs.World.{IsHonest}
use Rattle.law_agreement.proofs.Safety.{no_conflict}
use Rattle.law_agreement.proofs.Invariant.{sent_honest}
use Rattle.law_agreement.proofs.lives.lives_agree.Goals as goal

pub returns-clause-lawful : goal.returns-clause-lawful
returns-clause-lawful c w members length few lives =
    record {
      members = members;
      term_length = length;
      faulty = few;
      honest = λ i lt good.
          let life = lives i lt good in
          subst (IsHonest w) (sym life.3) (sent_honest w length life.0 life.1 life.2);
    }

pub returns-clause-agree : goal.returns-clause-agree
returns-clause-agree c w a b members length few lives ba bb =
    no_conflict w (returns-clause-lawful c w members length few lives) a.subject b.subject a.signers b.signers ba bb
