use Rattle.std.proofs.Common.{◌≡◌, ◌∙◌, ◌==◌, ◌&&◌, not, length, ap}
use Rattle.simplex_round.specs.Acceptance.{heard}
use Rattle.model_steps.specs.Batcher.{known_in}
use Rattle.simplex_batcher.proofs.Accepting.{heard-shows}
use Rattle.simplex_batcher.proofs.rounds.Rounds.accept_vote.Goals as goal

pub returns-clause-answer : goal.returns-clause-answer
returns-clause-answer c = λ history at.
    let reports : c.take_own.new.out.reports ≡ (heard (known_in history) c.args.vote).reports = rw c.requires.reports at c.in_ok-take_own.ensures.reports history at in
    let blocks : c.take_own.new.out.blocks ≡ (heard (known_in history) c.args.vote).blocks = rw c.requires.blocks at c.in_ok-take_own.ensures.blocks history at in
    c.was_accepted.ensures
    ∙ ap (λ xs. not (length xs == 0) && length c.take_own.new.out.blocks == 0) reports
    ∙ ap (λ xs. not (length (heard (known_in history) c.args.vote).reports == 0) && length xs == 0) blocks
    ∙ heard-shows (known_in history) c.args.vote
