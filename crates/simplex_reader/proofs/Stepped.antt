-- What is read of a node behind a step.
use Rattle.std.proofs.Common.{◌≡◌, ℕ, Bool, true, false, List, ◌∷◌, ◌++◌, Option, Some, None, refl, sym, ap, ◌∙◌, subst, if◌then◌else◌}
use Rattle.std.specs.List.{filter_map}
use Rattle.simplex_values.specs.declared.proposal.Subject.{Subject}
use Rattle.simplex_wire.specs.declared.attestation.Attestation.{Attestation}
use Rattle.simplex_messages.specs.declared.step.Stop.{Stop}
use Rattle.simplex_transcript.specs.declared.entry.Entry.{Entry}
use Rattle.simplex_transcript.specs.declared.event.Event.TheVariants as events
use Rattle.simplex_transcript.specs.declared.event.StepSource.{StepSource}
use Rattle.simplex_transcript.specs.declared.event.StepSource.TheVariants as sources
use Rattle.simplex_transcript.specs.declared.node.Node.{Node}
use Rattle.model_rules.specs.declared.request.Asked.{Asked}
use Rattle.model_rules.specs.Known.{Made, Fact}
use Rattle.model_run.specs.Life.{Noted, clock_of}
use Rattle.model_run.specs.Setting.{Setting}
use Rattle.simplex_wire.specs.declared.certificate.Certificate.{Certificate}
use Rattle.model_audit.specs.declared.record.AuditCall.{AuditCall}
use Rattle.model_audit.specs.declared.record.AuditEntry.{AuditEntry}
use Rattle.model_audit.specs.declared.record.AuditTook.{AuditTook}
use Rattle.model_audit.specs.declared.record.AuditTook.TheVariants as taken
use Rattle.model_audit.specs.Journal.{sections_behind}
use Rattle.model_audit.specs.Reading.{Read, votes_in, rules_at, step_read, taking_of, read}
use Rattle.model_audit.specs.Rebuilt.{call_for, took_for, rebuilt, rebuilt_entry}
use Rattle.model_audit.specs.Running.{is_done, is_broken, runs_at}
use Rattle.model_audit.specs.Taking.{Taking}
use Rattle.model_audit.specs.VotesDue.{votes_at}
use Rattle.simplex_known.specs.declared.known.Known.{Known}
use Rattle.simplex_known.specs.Knows.{Knows, AreRulesOf}
use Rattle.simplex_due.specs.declared.due.Due.{Due}
use Rattle.simplex_due.specs.Due as due
use Rattle.simplex_reader.specs.declared.reader.Reader.{Reader}
use Rattle.simplex_reader.specs.Follows.{Follows, IsMadeBy, TakesStep, request_of}
use Rattle.simplex_reader.specs.Taking.{taking_by, acted_if, due_if, ruled_if, Acts}
use Rattle.simplex_reader.proofs.Voting.{Appends}
use Rattle.simplex_reader.proofs.Following.{same_node, read_own, runs_own, follows_at}

-- ---- what was taken

pub taking_is : (before : List Noted) (source : StepSource) (took : AuditTook) → taking_of before source (took_for took) ≡ taking_by source took (request_of before took)
unfolding taking_of taking_by
taking_is before sources.Batcher (taken.Request at answer) = refl
taking_is before sources.Voter (taken.Request at answer) = refl
taking_is before sources.Timer (taken.Request at answer) = refl
taking_is before sources.Propose (taken.Request at answer) = refl
taking_is before sources.Verify (taken.Request at answer) = refl
taking_is before sources.Certify (taken.Request at answer) = refl
taking_is before sources.Resolver (taken.Request at answer) = refl
taking_is before sources.Handler (taken.Request at answer) = refl
taking_is before sources.Fetch (taken.Request at answer) = refl
taking_is before source took = refl

-- ---- what is read

behind_step : (made : Made) (now : ℕ) (stop : Stop) (entry : Entry) (r : Read) (o : Option Taking) → step_read made now stop entry r o ≡ record {
  start = r.start;
  known = votes_in now entry.calls ++ acted_if made now r.known entry.added o;
  sections = sections_behind entry.outcome stop (ruled_if made now r.known o) entry.calls r.sections;
}
behind_step made now stop entry r None = refl
behind_step made now stop entry r (Some taking) = refl

-- an entry behind which the node still runs is not broken
still_runs : (broken before : Bool) → (if broken then false else before) ≡ true → broken ≡ false
still_runs true before e = cc
still_runs false before e = refl

module _ (old new : Reader) (attests : Subject → Option Attestation) (source : StepSource) (stop : Stop) (entry : AuditEntry) (asked : Option Asked) (given : Due) where
  abbrev taking : Option Taking
  taking = taking_by source entry.took asked

  pub step_followed : new.rules ≡ old.rules
      → (is_broken entry.outcome ≡ false → (made : Made) (known : List Fact) (now : ℕ) → Knows old.known made known
      → Knows new.known made (votes_in now (filter_map call_for entry.calls) ++ acted_if made now known entry.added taking))
      → (is_done entry.outcome ≡ true → (made : Made) (known : List Fact) (now : ℕ) → Knows old.known made known → attests ≡ made.signs
      → due.votes_in given ≡ due_if made now known entry.added taking)
      → ((made : Made) (known : List Fact) (now : ℕ) → Knows old.known made known → attests ≡ made.signs
      → new.stored ≡ sections_behind entry.outcome stop (ruled_if made now known taking) (filter_map call_for entry.calls) old.stored)
      → TakesStep old new attests source stop entry asked given
  unfolding rebuilt_entry
  step_followed same knows votes sections = record { follows = behind; votes = were_due }
    where
      read_so : (before : List Noted) → asked ≡ request_of before entry.took → taking_of before source (took_for entry.took) ≡ taking
      read_so before e = taking_is before source entry.took ∙ ap (taking_by source entry.took) (sym e)

      behind : (setting : Setting) (before : List Noted) (node : Node) → Follows old setting before node → IsMadeBy node attests setting before entry asked
          → Follows new setting (rebuilt (events.Step node source stop) entry ∷ before) node
      behind setting before node f m =
          let noted = rebuilt (events.Step node source stop) entry in
          let r = read setting before node in
          let made = rules_at setting node r in
          let now = clock_of before in
          follows_at new setting (noted ∷ before) node
          (record {
            start = r.start;
            known = votes_in now (filter_map call_for entry.calls) ++ acted_if made now r.known entry.added taking;
            sections = sections_behind entry.outcome stop (ruled_if made now r.known taking) (filter_map call_for entry.calls) r.sections;
          })
          (read_own setting before noted node (same_node node) ∙ ap (step_read made now stop (rebuilt_entry entry) r) (read_so before m.request) ∙ behind_step made now stop (rebuilt_entry entry) r taking)
          (subst (AreRulesOf made) (sym same) f.rules)
          (λ runs. knows (still_runs (is_broken entry.outcome) (runs_at before node) (sym (runs_own setting before noted node (same_node node)) ∙ runs)) made r.known now (f.known m.runs))
          (sections made r.known now (f.known m.runs) (m.signs r.start)
          ∙ ap (sections_behind entry.outcome stop (ruled_if made now r.known taking) (filter_map call_for entry.calls)) f.sections)

      were_due : (setting : Setting) (before : List Noted) (node : Node) → Follows old setting before node → IsMadeBy node attests setting before entry asked
          → is_done entry.outcome ≡ true → due.votes_in given ≡ votes_at setting before (rebuilt_entry entry) node source
      were_due setting before node f m done =
          let r = read setting before node in
          let made = rules_at setting node r in
          let now = clock_of before in
          votes done made r.known now (f.known m.runs) (m.signs r.start) ∙ ap (due_if made now r.known entry.added) (sym (read_so before m.request))

-- ---- in parts

module _ (old mid new : Known) (attests : Subject → Option Attestation) (given added : List Certificate) (told calls : List AuditCall) (o : Option Taking) (given_due : Due)
    (same : given ≡ added) (acts : Acts old mid attests given o given_due) where
  pub known_behind : told ≡ calls → Appends mid new told → (made : Made) (known : List Fact) (now : ℕ) → Knows old made known
      → Knows new made (votes_in now (filter_map call_for calls) ++ acted_if made now known added o)
  known_behind e appends made known now k =
      subst (λ (cs : List AuditCall). Knows new made (votes_in now (filter_map call_for cs) ++ acted_if made now known added o)) e
      (appends made (acted_if made now known added o) now
      (subst (λ (xs : List Certificate). Knows mid made (acted_if made now known xs o)) same (acts.knows made known now k)))

  pub votes_behind : (made : Made) (known : List Fact) (now : ℕ) → Knows old made known → attests ≡ made.signs → due.votes_in given_due ≡ due_if made now known added o
  votes_behind made known now k signs = acts.votes made known now k signs ∙ ap (λ (xs : List Certificate). due_if made now known xs o) same
