use Rattle.std.proofs.Common.{◌∷◌, [], ◌++◌, List, ℕ, sym, subst, ◌∙◌}
use Rattle.model_log.specs.Log.{greatest}
use Rattle.model_log.proofs.Growing.{greatest_more}
use Rattle.simplex_log.specs.Stands.{KeptAt}
use Rattle.simplex_log.proofs.Raised.{on_err, untouched, raised_final}
use Rattle.simplex_log.proofs.kept.Kept.finish.Goals as goal

pub returns-in_err-moved-clause-err : goal.returns-in_err-moved-clause-err
returns-in_err-moved-clause-err c = on_err c.from_residual.result (λ links finals stands. record {
  links_are = c.end-end.ensures.same links stands.links_are;
  finals_are = untouched c.args.self.now.finals c.raise.new.self links finals c.in_err-moved.ensures.err stands.finals_are;
  last_is = stands.last_is;
  end_is = stands.end_is;
})

pub returns-clause-ok : goal.returns-clause-ok
returns-clause-ok c = λ links finals stands.
    let old = c.args.self.now in
    let view = c.args.view in
    let held = c.end-end.ensures.same links stands.links_are in
    let foot = c.end-end.ensures.answer links stands.links_are in
    let rises = c.in_ok-moved.ensures.ok links held (λ zero. sym foot ∙ zero) in
    let all : List ℕ = finals ++ view ∷ [] in
    let closed = c.close.ensures.stands links all (greatest finals) (record {
      links_are = held;
      finals_are = raised_final old.finals c.raise.new.self links finals view c.end-end.result foot rises stands.finals_are;
      last_is = stands.last_is;
      end_is = stands.end_is;
    }) in
    subst (λ (last : ℕ). KeptAt c.close.new.self links all last) (sym (greatest_more finals view)) closed
