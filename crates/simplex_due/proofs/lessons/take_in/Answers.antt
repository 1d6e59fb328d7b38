use Rattle.std.proofs.Common.{◌++◌, map, sym, subst}
use Rattle.std.proofs.lemmas.Result.{on_ok_weaker}
use Rattle.std.specs.Prelude.{Option}
use Rattle.law_member.specs.Learned.{added_at}
use Rattle.simplex_known.specs.Knows.{Knows}
use Rattle.simplex_due.specs.declared.lessons.Lesson.{Lesson}
use Rattle.simplex_due.specs.Due.{facts_of}
use Rattle.simplex_due.proofs.lessons.take_in.Goals as goal

pub returns-in-None : goal.returns-in-None
returns-in-None c = λ made facts now k.
    subst (λ (lesson : Option Lesson). Knows c.add_all.new.known made (facts_of now lesson ++ (map (added_at now) c.args.added.now ++ facts)))
    (sym c.in-None.is)
    (c.in_ok-add_all.ensures made facts now k)

pub returns-in-Some : goal.returns-in-Some
returns-in-Some c =
    on_ok_weaker c.learn.result
    (λ did made facts now k.
    subst (λ (lesson : Option Lesson). Knows c.learn.new.known made (facts_of now lesson ++ (map (added_at now) c.args.added.now ++ facts))) (sym c.in-Some.is)
    (did now made _ (c.in_ok-add_all.ensures made facts now k)))
    c.learn.ensures
