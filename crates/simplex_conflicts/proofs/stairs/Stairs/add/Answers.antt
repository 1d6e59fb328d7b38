use Rattle.std.proofs.Common.{ℕ, ◌==◌, Option, Some, ap, ◌∙◌, if◌then◌else◌}
use Rattle.simplex_values.specs.Maps.{found}
use Rattle.simplex_conflicts.proofs.Climbing.{spanned_already, spanned_more, not_reached}
use Rattle.simplex_conflicts.proofs.Tests.{on_ok}
use Rattle.simplex_conflicts.proofs.stairs.Stairs.add.Goals as goal

pub returns-then-reaches : goal.returns-then-reaches
returns-then-reaches c = λ spanned stands. (
    let w = (c.reaches.ensures spanned stands).0 c.if-reaches.true in
    spanned_already (λ a. found c.args.self.now.uppers a) spanned c.args.lower c.args.upper w.0 w.1 stands w.2 w.3 w.4)

pub returns : goal.returns
returns c = on_ok c.put.result
    (λ puts spanned stands.
    spanned_more (λ a. found c.args.self.now.uppers a) (λ a. found c.put.new.values a) spanned c.args.lower c.args.upper stands
    (not_reached (λ a. found c.args.self.now.uppers a) c.args.lower c.args.upper
    (λ w. (let so = (c.reaches.ensures spanned stands).1 w in let not_so = c.if-reaches.false in cc)))
    (λ a. puts a ∙ ap (λ (o : Option ℕ). if c.args.lower == a then Some c.args.upper else o) (c.clear.ensures spanned stands a)))
    c.put.ensures.ok
