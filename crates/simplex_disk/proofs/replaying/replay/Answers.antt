use Rattle.std.proofs.Common.{◌≡◌, ◌∙◌, ◌++◌, ◌∷◌, [], ℕ, List, ap, sym, rules, append_assoc}
use Rattle.std.proofs.lemmas.List.{append-nil}
use Rattle.simplex_wire.specs.declared.artifact.Artifact.{Artifact}
use Rattle.simplex_journal.specs.Journal.{replayed}
use Rattle.simplex_journal.specs.Memory.{sections_of}
use Rattle.simplex_disk.specs.declared.segment.Segment.{Segment}
use Rattle.simplex_disk.specs.Calls.{content}
use Rattle.simplex_disk.specs.Index.{read_entries, sections_at}
use Rattle.simplex_disk.proofs.Replays.{replayed-entry}
use Rattle.simplex_disk.proofs.replaying.replay.Goals as goal

pub loop-number-init : goal.loop-number-init
loop-number-init g c = record {
  stays = λ calls st. c.in_ok-files.ensures.stays calls st;
  read = λ calls st.
      let it : c.into_iter-number-iterator.result ≡ c.args.index.now.entries = search rules in
      ap (λ (l : List Artifact). l ++ replayed (sections_at calls c.into_iter-number-iterator.result)) c.new-records.ensures.items
      ∙ ap (λ (es : List (ℕ × Segment)). replayed (sections_at calls es)) it;
  ends = search rules;
}

pub loop-number-preserved : goal.loop-number-preserved
loop-number-preserved g c = record {
  stays = λ calls st. c.read_records.ensures.stays calls (c.loop-number.invariant.stays calls st);
  read = λ calls st.
      let e : ℕ × Segment = (c.in-Some.number.now, c.in-Some.segment.now) in
      let first : c.loop-number.number-iterator ≡ e ∷ c.next.new.self = search rules in
      let more = c.in_ok-read_records.ensures.read calls (c.loop-number.invariant.stays calls st) in
      let rest = replayed (sections_at calls c.next.new.self) in
      ap (λ (l : List Artifact). l ++ rest) more
      ∙ append_assoc c.loop-number.records.items _ rest
      ∙ ap (λ (l : List Artifact). c.loop-number.records.items ++ l) (sym (replayed-entry (λ n. content n calls) e c.next.new.self))
      ∙ ap (λ (es : List (ℕ × Segment)). c.loop-number.records.items ++ replayed (sections_at calls es)) (sym first)
      ∙ c.loop-number.invariant.read calls st;
  ends = search rules;
}

pub returns-clause-read : goal.returns-clause-read
unfolding replayed sections_of read_entries
returns-clause-read g c = λ calls st.
    let none : c.loop-number.number-iterator ≡ [] = c.in-None.ensures.steps.0 in
    let nothing : replayed (sections_at calls c.loop-number.number-iterator) ≡ [] = ap (λ (es : List (ℕ × Segment)). replayed (sections_at calls es)) none in
    sym (append-nil c.loop-number.records.items) ∙ ap (λ (l : List Artifact). c.loop-number.records.items ++ l) (sym nothing) ∙ c.loop-number.invariant.read calls st
