use Rattle.std.proofs.Common.{[], refl, ◌∙◌}
use Rattle.simplex_reader.proofs.Stepped.{step_followed, known_behind, votes_behind}
use Rattle.simplex_reader.proofs.Failing.{ruled_apart, none_made}
use Rattle.simplex_reader.proofs.reader.Reader.take_made.Goals as goal

pub returns : goal.returns
returns g c = λ unfailed.
    step_followed c.args.self.now _ _ c.args.source c.args.stop c.args.entry.now _ _ refl
    (λ whole. known_behind _ c.take_in.new.known _ _ _ _ _ _ _ c.in_ok-due.due c.as_slice-added.ensures c.in_ok-due.ensures c.as_slice.ensures c.in_ok-take_votes.ensures)
    (λ done. votes_behind _ c.take_in.new.known c.take_votes.new.known _ _ _ [] [] _ c.in_ok-due.due c.as_slice-added.ensures c.in_ok-due.ensures)
    (λ made known now k signs. c.in_ok-take_calls.ensures [] none_made ∙ ruled_apart c.args.entry.now.outcome c.args.stop [] _ _ _ unfailed)
