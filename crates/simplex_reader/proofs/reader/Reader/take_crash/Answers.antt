use Rattle.std.proofs.Common.{[], refl, ap, ◌∙◌}
use Rattle.simplex_journal.specs.Journal.{crashed}
use Rattle.simplex_reader.proofs.Failing.{none_made}
use Rattle.simplex_reader.proofs.Following.{follows_crash}
use Rattle.simplex_reader.proofs.reader.Reader.take_crash.Goals as goal

pub returns : goal.returns
returns c = λ setting before node follows.
    follows_crash c.args.self.now _ setting before node c.args.entry.now refl (c.crash.ensures ∙ ap (crashed 0) (c.in_ok-take_calls.ensures [] none_made)) follows
