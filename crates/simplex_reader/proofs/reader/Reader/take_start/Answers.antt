use Rattle.std.proofs.Common.{refl, ap, ◌∙◌}
use Rattle.std.specs.List.{filter_map}
use Rattle.std.proofs.lemmas.Result.{on_ok_weaker}
use Rattle.simplex_journal.specs.Journal.{replayed}
use Rattle.simplex_messages.specs.declared.step.Stop.{Stop}
use Rattle.model_steps.specs.Voter.{started}
use Rattle.model_run.specs.Members.{floor_of}
use Rattle.model_audit.specs.Journal.{behind_reading, sections_behind}
use Rattle.model_audit.specs.Rebuilt.{call_for}
use Rattle.simplex_reader.proofs.Following.{follows_start}
use Rattle.simplex_reader.proofs.Started.{starts_same, pruned_same}
use Rattle.simplex_reader.proofs.Voting.{appended}
use Rattle.simplex_reader.proofs.reader.Reader.take_start.Goals as goal

pub returns : goal.returns
returns c =
    on_ok_weaker c.take_calls.result
    (λ did setting before node follows.
    let starts = starts_same c.in_ok-known.known c.args.self.now.rules c.args.floor.now _ _ (c.as_slice.ensures.value ∙ c.in_ok-records.ensures.records) c.in_ok-known.ensures in
    follows_start c.args.self.now _ setting before node c.args.floor.now c.args.stop c.args.entry.now refl
    (λ made genesis now own. appended _ _ _ _ c.as_slice-3.ensures c.in_ok-take_votes.ensures made (started made now (floor_of genesis c.args.floor.now) (replayed c.args.self.now.stored)).desk.known now
    (starts made genesis now own))
    (λ made genesis now own.
    let ruled = (started made now (floor_of genesis c.args.floor.now) (replayed c.args.self.now.stored)).calls in
    did ruled
    (pruned_same c.in_ok-known.known c.args.floor.now _ _ c.prune_at_start-prune.result (c.as_slice-2.ensures.value ∙ c.in_ok-records.ensures.records) c.prune_at_start-prune.ensures
    made genesis now (starts made genesis now own))
    ∙ ap (λ (stop : Stop). sections_behind c.args.entry.now.outcome stop ruled (filter_map call_for c.args.entry.now.calls) c.replay.new.self) c.behind_reading.ensures
    ∙ ap (sections_behind c.args.entry.now.outcome (behind_reading c.args.stop) ruled (filter_map call_for c.args.entry.now.calls)) c.replay.ensures.stays)
    follows)
    c.take_calls.ensures
