use Rattle.std.proofs.Common.{◌≡◌, rules, sym, arith, ◌∙◌, [], ◌∷◌, ap}
use Rattle.std.proofs.lemmas.List.{nil_from_length}
use Rattle.simplex_journal.specs.Journal.{pruned_first}
use Rattle.simplex_journal.specs.Memory.{sections_of}
use Rattle.simplex_journal.proofs.Entries.{pruned_first-zero, pruned_first-above, pruned_first-below, popped}
use Rattle.simplex_journal.proofs.sections.drop_first.Goals as goal

pub returns-in_default : goal.returns-in_default
returns-in_default c = sym (pruned_first-above c.loop-left.left c.args.least c.in-Some.number.now c.loop-left.sections.entries (search rules) (search rules)) ∙ c.loop-left.invariant

pub returns-in_default-2 : goal.returns-in_default-2
unfolding pruned_first sections_of
returns-in_default-2 c =
    let none : c.loop-left.sections.entries ≡ [] = nil_from_length c.loop-left.sections.entries (search rules) in
    let is : pruned_first c.loop-left.left c.args.least (sections_of c.loop-left.sections.entries) ≡ sections_of c.loop-left.sections.entries = rw none in
    sym is ∙ c.loop-left.invariant

pub loop-left-preserved : goal.loop-left-preserved
loop-left-preserved c =
    let first : c.loop-left.sections.entries ≡ (c.in-Some.number.now, c.in-Some.field-0-1.now) ∷ c.pop_first.new.self.entries =
    popped _ _ c.pop_first.result _ c.pop_first.ensures.removal c.pop_first.ensures.variant.1 c.in-Some.ensures.first in
    let step = pruned_first-below c.loop-left.left c.args.least (c.in-Some.number.now, c.in-Some.field-0-1.now) c.pop_first.new.self.entries c.loop-left-test.true c.if-number-least.true in
    sym step ∙ ap (λ es. pruned_first c.loop-left.left c.args.least (sections_of es)) (sym first) ∙ c.loop-left.invariant

pub returns : goal.returns
returns c = sym (pruned_first-zero c.args.least (sections_of c.loop-left.sections.entries))
    ∙ ap (λ n. pruned_first n c.args.least (sections_of c.loop-left.sections.entries)) (let none : 0 ≡ c.loop-left.left = omega arith in none) ∙ c.loop-left.invariant
