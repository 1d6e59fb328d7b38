use Rattle.std.proofs.Common.{◌∷◌, ◌∙◌, take, length, arith, ap, sym, min, IsTrue, subst, List}
use Rattle.std.proofs.lemmas.List.{length-take}
use Rattle.simplex_twins.specs.Script.{ScriptedRound}
use Rattle.simplex_twins.specs.Every.{every_script, scripts_after, are_good}
use Rattle.simplex_twins.proofs.Odometer.{first_script, good_firsts}
use Rattle.simplex_twins.proofs.Counting.{length-every_script}
use Rattle.simplex_twins.proofs.scenario.Scenario.all.Goals as goal

pub invariant_of-result : goal.invariant_of-result
invariant_of-result c = (
  c.requires.some,
  c.requires.most,
  omega arith,
  subst (λ (rounds : List ScriptedRound). IsTrue (are_good c.args.participants rounds)) (sym c.in_ok-first_rounds.ensures) (good_firsts c.args.participants c.args.rounds c.requires.some),
)

pub returns-clause-all : goal.returns-clause-all
returns-clause-all c =
    ap (λ (rounds : List ScriptedRound). take c.args.limit (rounds ∷ scripts_after c.args.participants rounds)) c.in_ok-first_rounds.ensures
    ∙ ap (take c.args.limit) (sym (first_script c.args.participants c.args.rounds c.requires.some))

pub returns-clause-count : goal.returns-clause-count
returns-clause-count c =
    ap length (returns-clause-all c)
    ∙ length-take c.args.limit (every_script c.args.participants c.args.rounds)
    ∙ ap (min c.args.limit) (length-every_script c.args.participants c.args.rounds)
