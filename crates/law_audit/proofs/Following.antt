-- What is read behind a voter's step is what the step leaves.
use Rattle.std.proofs.Common.{◌≡◌, ℕ, true, false, List, [], ◌∷◌, ◌++◌, reverse, Option, Some, None, refl, sym, ap, ◌∙◌, subst}
use Rattle.std.specs.List.{filter_map, cons_option}
use Rattle.std.specs.Option.{option_map_or}
use Rattle.simplex_types.specs.declared.activity.Activity.{Activity}
use Rattle.simplex_types.specs.declared.activity.Activity.TheVariants as activities
use Rattle.simplex_wire.specs.declared.certificate.Certificate.{Certificate}
use Rattle.model_rules.specs.Known.{Made, Fact}
use Rattle.simplex_journal.specs.Journal.{Section}
use Rattle.simplex_messages.specs.declared.call.Call.{Call}
use Rattle.simplex_messages.specs.declared.call.Call.TheVariants as calls
use Rattle.simplex_messages.specs.declared.step.Outcome.{Outcome}
use Rattle.simplex_messages.specs.declared.step.Stop.{Stop}
use Rattle.simplex_messages.specs.declared.step.Stop.TheVariants as stops
use Rattle.simplex_messages.specs.declared.step.StepOut.{StepOut}
use Rattle.simplex_messages.specs.declared.voter.VoterInput.{VoterInput}
use Rattle.simplex_transcript.specs.declared.entry.Entry.{Entry}
use Rattle.model_steps.specs.Desk.{Doing}
use Rattle.model_steps.specs.Performed.{Performed, stop_place, stop_outcome, whole, broken, performed}
use Rattle.model_steps.specs.Voter.{Standing, stepped}
use Rattle.model_steps.specs.Engine.{is_whole}
use Rattle.law_member.specs.Learned.{appended_fact, facts_of_step}
use Rattle.model_audit.specs.Alike.{AreAlike, own_votes}
use Rattle.model_audit.specs.Taking.{Taking, acted}
use Rattle.law_audit.specs.Taken.{Takes}
use Rattle.model_audit.specs.JournalCalls.{journal_calls}
use Rattle.law_audit.proofs.Alike.{alike_then, alike_behind, alike_acted}
use Rattle.law_audit.proofs.Reading.{is_read}
use Rattle.model_audit.specs.Record.{call_of}
use Rattle.model_audit.specs.Rebuilt.{call_for}
use Rattle.model_audit.specs.Journal.{sections_behind}
use Rattle.model_audit.specs.Reading.{Read, votes_in, step_read}
use Rattle.law_audit.specs.Recording.{shape_of, IsStep, IsFollowed}
use Rattle.law_audit.proofs.Journals.{told, journal_is_read}
use Rattle.law_audit.proofs.Ending.{same_shape}
use Rattle.model_rules.specs.Lists.{greatest_of}
use Rattle.model_rules.specs.Views.{least_active}
use Rattle.model_rules.specs.Calls.{pruned_view}

-- ---- the records that a record tells were appended

report_appends : (now : ℕ) (a : Activity) (rest : List Call) → filter_map (appended_fact now) (cons_option (call_for (call_of (calls.Report a))) rest) ≡ filter_map (appended_fact now) rest
report_appends now (activities.Notarize v) rest = refl
report_appends now (activities.Notarization c) rest = refl
report_appends now (activities.Certification c) rest = refl
report_appends now (activities.Nullify v) rest = refl
report_appends now (activities.Nullification c) rest = refl
report_appends now (activities.Finalize v) rest = refl
report_appends now (activities.Finalization c) rest = refl
report_appends now (activities.ConflictingNotarize e) rest = refl
report_appends now (activities.ConflictingFinalize e) rest = refl
report_appends now (activities.NullifyFinalize e) rest = refl

call_appends : (now : ℕ) (c : Call) (rest : List Call) → filter_map (appended_fact now) (cons_option (call_for (call_of c)) rest) ≡ cons_option (appended_fact now c) (filter_map (appended_fact now) rest)
call_appends now (calls.Append section artifact) rest = refl
call_appends now (calls.Sync section) rest = refl
call_appends now (calls.Prune least) rest = refl
call_appends now (calls.Send channel to bytes) rest = refl
call_appends now (calls.Report a) rest = report_appends now a rest
call_appends now (calls.Relay payload plan) rest = refl
call_appends now (calls.Block member cause) rest = refl

same_appends : (now : ℕ) (made : List Call) → filter_map (appended_fact now) (told made) ≡ filter_map (appended_fact now) made
same_appends now [] = refl
same_appends now (c ∷ made) = call_appends now c (told made) ∙ ap (cons_option (appended_fact now c)) (same_appends now made)

pub same_votes : (now : ℕ) (made : List Call) → votes_in now (told made) ≡ own_votes (facts_of_step now made)
same_votes now made = ap (λ facts. own_votes (reverse facts)) (same_appends now made)

-- ---- a step that is whole gives all

whole_at : (d : Doing) (js : List Section) (stop : Stop) (o : Option ℕ) → is_whole (stop_outcome stop) ≡ false → is_whole (option_map_or (broken stop d js) o (whole d js)).outcome ≡ true
    → (option_map_or (broken stop d js) o (whole d js)).out ≡ (whole d js).out
whole_at d js stop None e t = refl
whole_at d js stop (Some place) e t = absurd (never (sym e ∙ t))
  where
    never : false ≡ true → ⊥
    never e = cc

pub whole_out : (d : Doing) (js : List Section) (stop : Stop) → is_whole (performed stop d js).outcome ≡ true → (performed stop d js).out ≡ (whole d js).out
unfolding performed stop_place
whole_out d js stops.None t = refl
whole_out d js (stops.Cut call keep) t = whole_at d js (stops.Cut call keep) (stop_place (stops.Cut call keep) d.calls) refl t
whole_out d js (stops.Fail call keep) t = whole_at d js (stops.Fail call keep) (stop_place (stops.Fail call keep) d.calls) refl t

-- ---- a step

module _ (made : Made) (now : ℕ) (s : Standing) (input : VoterInput) (taking : Taking) (d : Doing) (stop : Stop) (sections : List Section) (r : Read) (entry : Entry) where
  abbrev given : Performed
  given = performed stop d sections

  sections_followed : IsStep entry given → r.sections ≡ sections → shape_of (journal_calls made now r.known taking) ≡ shape_of d.calls → (step_read made now stop entry r (Some taking)).sections ≡ given.sections
  sections_followed e same shape =
      ap (λ (o : Outcome). sections_behind o stop (journal_calls made now r.known taking) entry.calls r.sections) e.outcome
      ∙ ap (λ (cs : List Call). sections_behind given.outcome stop (journal_calls made now r.known taking) cs r.sections) e.calls
      ∙ ap (λ (js : List Section). sections_behind given.outcome stop (journal_calls made now r.known taking) (told given.out.calls) js) same
      ∙ journal_is_read stop d sections (journal_calls made now r.known taking) shape

  known_followed : IsStep entry given → AreAlike r.known s.desk.known → AreAlike (own_votes (facts_of_step now d.calls) ++ acted made now s.desk.known d.added taking) d.desk.known → is_whole given.outcome ≡ true
      → AreAlike (step_read made now stop entry r (Some taking)).known d.desk.known
  known_followed e alike knows t =
      let out : given.out ≡ (whole d sections).out = whole_out d sections stop t in
      let cs : entry.calls ≡ told d.calls = e.calls ∙ ap (λ (x : StepOut). told x.calls) out in
      let added : entry.added ≡ d.added = e.added ∙ ap (λ (x : StepOut). x.added) out in
      let votes : votes_in now entry.calls ≡ own_votes (facts_of_step now d.calls) = ap (votes_in now) cs ∙ same_votes now d.calls in
      let behind : AreAlike (own_votes (facts_of_step now d.calls) ++ acted made now r.known d.added taking) d.desk.known =
      alike_then (own_votes (facts_of_step now d.calls) ++ acted made now r.known d.added taking) (own_votes (facts_of_step now d.calls) ++ acted made now s.desk.known d.added taking) d.desk.known
      (alike_behind (own_votes (facts_of_step now d.calls)) (acted made now r.known d.added taking) (acted made now s.desk.known d.added taking) (alike_acted made r.known s.desk.known alike now d.added taking)) knows in
      subst (λ (xs : List Fact). AreAlike (xs ++ acted made now r.known entry.added taking) d.desk.known) (sym votes)
      (subst (λ (cs : List Certificate). AreAlike (own_votes (facts_of_step now d.calls) ++ acted made now r.known cs taking) d.desk.known) (sym added) behind)

  pub followed : Takes s input taking → stepped made now s input ≡ Some d → IsStep entry given → AreAlike r.known s.desk.known → r.sections ≡ sections → greatest_of pruned_view s.desk.known ≡ least_active made s.desk.known
      → IsFollowed made now stop entry r taking d given
  followed t e step alike same low =
      record {
        sections = sections_followed step same (same_shape made now s input taking t low r.known d alike e);
        known = λ w. known_followed step alike (is_read made now input s d taking t e).knows w;
      }
