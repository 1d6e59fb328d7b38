use Rattle.std.proofs.Common.{[], refl}
use Rattle.std.proofs.lemmas.Result.{on_ok_weaker}
use Rattle.simplex_reader.proofs.Failing.{none_made}
use Rattle.simplex_reader.proofs.Following.{follows_packet, follows_answer}
use Rattle.simplex_reader.proofs.Voting.{appended}
use Rattle.simplex_reader.proofs.reader.Reader.take_input.Goals as goal

pub returns-clause-packet : goal.returns-clause-packet
returns-clause-packet c =
    on_ok_weaker c.take_calls.result
    (λ did setting before node at.
    follows_packet c.args.self.now _ setting before node c.args.entry.now refl at (appended _ _ _ _ c.as_slice.ensures c.in_ok-take_votes.ensures) (did [] none_made))
    c.take_calls.ensures

pub returns-clause-answer : goal.returns-clause-answer
returns-clause-answer c =
    on_ok_weaker c.take_calls.result
    (λ did setting before node at answer.
    follows_answer c.args.self.now _ setting before node c.args.entry.now refl at answer (appended _ _ _ _ c.as_slice.ensures c.in_ok-take_votes.ensures) (did [] none_made))
    c.take_calls.ensures
