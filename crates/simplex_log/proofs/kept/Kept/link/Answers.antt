use Rattle.std.proofs.Common.{rules, ◌≡◌, ◌∷◌, [], ◌++◌, max, Bool, true, false, ℕ, sym, ap, subst, ◌∙◌}
use Rattle.std.proofs.lemmas.Result.{on_ok_weaker}
use Rattle.model_log.specs.Log.{greatest}
use Rattle.model_log.proofs.Growing.{greatest_more}
use Rattle.simplex_log.specs.Kept.{top_in, finals_with}
use Rattle.simplex_log.specs.Stands.{KeptAt, KeptOf}
use Rattle.simplex_log.proofs.Again.{joins, joins_final}
use Rattle.simplex_log.proofs.kept.Kept.link.Goals as goal

pub returns-then-not-is_final-clause-ok : goal.returns-then-not-is_final-clause-ok
returns-then-not-is_final-clause-ok c = on_ok_weaker c.join.result (λ joined. λ links finals first stands.
    let p = c.args.proposal.now in
    let top = c.top-top.ensures ∙ ap (top_in c.args.self.now.finals.tops) c.view_of-view.ensures in
    let after = joined links finals (greatest finals) (joins c.args.self.now links finals p c.requires first stands c.top-top.result top) in
    let plain : c.args.is_final ≡ false = search rules in
    subst (λ (b : Bool). KeptOf c.join.new.self (links ++ p ∷ []) (finals_with finals p.round.view b)) (sym plain) after) c.join.ensures.ok

pub returns-clause-ok : goal.returns-clause-ok
returns-clause-ok c = λ links finals first stands.
    let p = c.args.proposal.now in
    let view = p.round.view in
    let more = links ++ p ∷ [] in
    let all = finals ++ view ∷ [] in
    let top : c.max.result ≡ max (top_in c.args.self.now.finals.tops view) view = search rules in
    let joined = c.in_ok-moved.ensures.ok links all (greatest finals) (joins_final c.args.self.now links finals p c.requires first stands c.max.result top) in
    let closed = c.close.ensures.stands more all (greatest finals) joined in
    let final : c.args.is_final ≡ true = search rules in
    let last = subst (λ (n : ℕ). KeptAt c.close.new.self more all n) (ap (max (greatest finals)) c.view_of-view.ensures ∙ sym (greatest_more finals view)) closed in
    subst (λ (b : Bool). KeptOf c.close.new.self more (finals_with finals view b)) (sym final) last
