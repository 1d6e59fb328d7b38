use Rattle.std.proofs.Common.{◌≡◌, ◌∷◌, rules}
use Rattle.simplex_stored.specs.Before.{is_nullify}
use Rattle.simplex_stored.proofs.Kept.{kept-found, kept-next, kept-end}
use Rattle.simplex_stored.proofs.votes.have_nullify_anywhere.Goals as goal

pub returns-then-branch : goal.returns-then-branch
returns-then-branch c =
    let first : c.loop-lists.lists-iterator ≡ (c.in-Some.field-0-0.now, c.in-Some.lists.now) ∷ c.next.new.self = search rules in
    kept-found (is_nullify c.args.bytes.now) _ _ _ _ _ _ first c.in_ok-have_nullify.ensures c.synced.ensures c.if-branch.true c.loop-lists.invariant

pub loop-lists-preserved : goal.loop-lists-preserved
loop-lists-preserved c =
    let first : c.loop-lists.lists-iterator ≡ (c.in-Some.field-0-0.now, c.in-Some.lists.now) ∷ c.next.new.self = search rules in
    kept-next (is_nullify c.args.bytes.now) _ _ _ _ _ _ first c.in_ok-have_nullify.ensures c.synced.ensures c.if-branch.false c.loop-lists.invariant

pub returns : goal.returns
returns c = kept-end (is_nullify c.args.bytes.now) _ _ c.in-None.ensures.steps.0 c.loop-lists.invariant
