use Rattle.std.proofs.Common.{◌≡◌, ◌∙◌, ◌++◌, ◌∷◌, [], ◌-◌, List, None, Some, ap, sym, rules, append_assoc}
use Rattle.std.proofs.lemmas.List.{append-nil}
use Rattle.simplex_wire.specs.declared.artifact.Artifact.{Artifact}
use Rattle.simplex_disk.specs.Chain.{taken, walked}
use Rattle.simplex_disk.proofs.Walks.{walk_none, walk_some, walk_end}
use Rattle.simplex_disk.proofs.reading.walk.Goals as goal

pub returns-in_default : goal.returns-in_default
returns-in_default c =
    let items = c.loop-left.records.items in
    let none : taken c.loop-left.rest.now ≡ None = sym (rw c.in_default.is at c.in_ok-artifact.ensures) in
    sym (append-nil items) ∙ ap (λ (l : List Artifact). items ++ l) (sym (walk_none c.loop-left.left c.loop-left.rest.now c.loop-left-test.true none)) ∙ c.loop-left.invariant

pub loop-left-preserved : goal.loop-left-preserved
loop-left-preserved c =
    let items = c.loop-left.records.items in
    let a = c.in-Some.artifact in
    let behind = c.in-Some.behind.now in
    let some : taken c.loop-left.rest.now ≡ Some (a, behind) = search rules in
    ap (λ (l : List Artifact). l ++ walked (c.loop-left.left - 1) behind) c.in_ok-push.ensures.items
    ∙ append_assoc items (a ∷ []) (walked (c.loop-left.left - 1) behind)
    ∙ ap (λ (l : List Artifact). items ++ l) (sym (walk_some c.loop-left.left c.loop-left.rest.now behind a c.loop-left-test.true some))
    ∙ c.loop-left.invariant

pub returns : goal.returns
returns c =
    let items = c.loop-left.records.items in
    sym (append-nil items) ∙ ap (λ (l : List Artifact). items ++ l) (sym (walk_end c.loop-left.left c.loop-left.rest.now c.loop-left-test.false)) ∙ c.loop-left.invariant
