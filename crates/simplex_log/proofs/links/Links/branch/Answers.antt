use Rattle.std.proofs.Common.{◌≡◌, ◌++◌, ◌∷◌, [], sym, ◌∙◌, inl, inr, rules}
use Rattle.simplex_log.proofs.Linking.{stepped, ends_here}
use Rattle.simplex_log.proofs.links.Links.branch.Goals as goal
use Rattle.simplex_log.proofs.links.Links.branch.Goals.{in-Some+then-at-foot, in_default}

pub loop-link-preserved : goal.loop-link-preserved
loop-link-preserved c = λ links stands.
    let pushed : c.push.new.self.items ≡ c.loop-link.entries.items ++ c.entry_for.result ∷ [] = search rules in
    stepped c.args.self.now links c.args.view c.loop-link.at c.in-Some.link c.loop-link.entries.items c.push.new.self.items c.entry_for.result c.parent_of-at.result
    stands (sym (c.in-Some.ensures.held links stands)) c.parent_of-at.ensures c.entry_for.ensures pushed (c.loop-link.invariant links stands)

pub returns-clause-ended : goal.returns-clause-ended
returns-clause-ended c = λ links stands. elim c.match-below.branch [
  | in-Some+then-at-foot w ↦ inl w.if-at-foot.true
  | in_default w ↦ inr (sym (ends_here c.args.self.now links c.loop-link.at stands (sym (w.in_default.ensures.held links stands))) ∙ (c.loop-link.invariant links stands).1)
]
