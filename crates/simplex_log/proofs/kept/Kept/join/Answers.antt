use Rattle.std.proofs.Common.{◌≡◌, ◌∷◌, [], ◌++◌, ◌==◌, None, ℕ, sym, ap, ◌∙◌, if◌then◌else◌}
use Rattle.simplex_values.specs.Maps.{found}
use Rattle.model_log.specs.Ends.{end_in}
use Rattle.model_log.proofs.Ending.{link_moves_ends}
use Rattle.simplex_log.specs.declared.links.Link.{Link}
use Rattle.simplex_log.specs.Kept.{top_in}
use Rattle.simplex_log.proofs.Joining.{top_whole, joined_finals, new_link}
use Rattle.simplex_log.proofs.Linking.{undone}
use Rattle.simplex_log.proofs.Raised.{on_err, untouched}
use Rattle.simplex_log.proofs.kept.Kept.join.Goals as goal

pub returns-in_err-insert-clause-err : goal.returns-in_err-insert-clause-err
returns-in_err-insert-clause-err c = on_err c.from_residual.result (λ links finals last first stands. record {
  links_are = c.in_err-insert.ensures.err links (c.end-end.ensures.same links stands.links_are);
  finals_are = stands.finals_are;
  last_is = stands.last_is;
  end_is = stands.end_is;
})

pub returns-in-Err-clause-err : goal.returns-in-Err-clause-err
returns-in-Err-clause-err c = λ links finals last first stands.
    let p = c.args.proposal.now in
    let l : Link = record { proposal = p; down = p.parent } in
    let forgot = λ (q : ℕ). c.remove.ensures q ∙ ap (λ (v : ℕ). if v == q then None else found c.insert.new.self.views q) c.view_of-view.ensures in
    record {
      links_are = undone c.end-end.new.self c.insert.new.self c.remove.new.self links p.round.view l (c.end-end.ensures.same links stands.links_are) first c.in_ok-insert.ensures.put forgot;
      finals_are = untouched c.args.self.now.finals c.raise.new.self links finals c.in-Err.ensures.err stands.finals_are;
      last_is = stands.last_is;
      end_is = stands.end_is;
    }

pub returns-in-Ok-clause-ok : goal.returns-in-Ok-clause-ok
returns-in-Ok-clause-ok c = λ links finals last joins.
    let old = c.args.self.now in
    let p = c.args.proposal.now in
    let low = c.requires in
    let top = c.args.top in
    let foot = c.end-end.result in
    let ends : foot ≡ end_in links p.parent = c.end-end.ensures.answer links joins.links_are ∙ ap (end_in links) c.parent_of.ensures in
    let held = c.in_ok-insert.ensures.taken links (c.end-end.ensures.same links joins.links_are) low joins.first_is in
    let whole = top_whole old links finals p top last low joins foot ends in
    let rises = c.in-Ok.ensures.ok (links ++ p ∷ []) held whole in
    let tops = λ (q : ℕ). c.leave.ensures.tops q ∙ ap (λ (v : ℕ). if v == q then 0 else top_in c.raise.new.self.tops q) c.view_of-view.ensures in
    record {
      links_are = held;
      finals_are = joined_finals old links finals p top last low joins held.falls c.raise.new.self c.leave.new.self foot ends rises tops c.leave.ensures.tip c.leave.ensures.entries;
      last_is = joins.last_is;
      end_is =
          c.end_behind-self.ensures
          ∙ ap (λ (n : ℕ). if n == c.view_of-view.result then foot else n) joins.end_is
          ∙ ap (λ (v : ℕ). if end_in links old.last == v then foot else end_in links old.last) c.view_of-view.ensures
          ∙ ap (λ (n : ℕ). if end_in links old.last == p.round.view then n else end_in links old.last) ends
          ∙ sym (link_moves_ends links p old.last (new_link old links finals p top last low joins));
    }
