-- What holds of each certificate in a journal holds of those that a step leaves in it.
use Rattle.std.proofs.Common.{ℕ, ◌-◌, ◌==◌, Bool, true, false, List, [], ◌∷◌, take, Contains, Option, Some, None, sym, subst, inl, inr, if◌then◌else◌}
use Rattle.std.specs.Option.{option_map_or}
use Rattle.std.proofs.lemmas.List.Elements.{Contains-append_left, Contains-append_right, Contains-append_cases}
use Rattle.simplex_wire.specs.declared.artifact.Artifact.{Artifact}
use Rattle.simplex_types.specs.declared.floor.Floor.{Floor}
use Rattle.simplex_journal.specs.Journal.{Section, replayed, crashed}
use Rattle.simplex_journal.proofs.Contents.{replayed-synced_at}
use Rattle.simplex_journal.proofs.Records.{replayed-appended, Contains-crashed, Contains-pruned}
use Rattle.simplex_messages.specs.declared.call.Call.{Call}
use Rattle.simplex_messages.specs.declared.call.Call.TheVariants as calls
use Rattle.simplex_messages.specs.declared.step.Stop.{Stop}
use Rattle.simplex_messages.specs.declared.step.Stop.TheVariants as stops
use Rattle.model_steps.specs.Desk.{Doing}
use Rattle.model_steps.specs.Performed.{stop_place, after_call, after_calls, after_failing, failing_at, kept_by, whole, broken, performed}
use Rattle.model_steps.specs.VoterLife.{unread, start_performed}
use Rattle.law_agreement.proofs.ListFacts.{Contains-cons_cases}
use Rattle.law_member.proofs.Pruning.{was_there}
use Rattle.law_run.specs.Sayings.{Each}
use Rattle.law_run.proofs.Telling.{Each-take}

module _ (P : Artifact → Type 0) where
  -- each record of the journal is such
  abbrev pub InJournal : List Section → Type 0
  InJournal js = (a : Artifact) → Contains (replayed js) a → P a

  -- a record that is appended is such
  abbrev pub InAppend : Call → Type 0
  InAppend (calls.Append section a) = P a
  InAppend _ = Unit {0}

  appends : (n : ℕ) (a : Artifact) (js : List Section) → P a → InJournal js → InJournal (after_call (calls.Append n a) js)
  appends n a js g h x c =
      let split = replayed-appended n a js in
      elim (Contains-append_cases split.0 (a ∷ split.1) x (subst (λ (xs : List Artifact). Contains xs x) split.3 c)) [
        | inl before ↦ h x (subst (λ (xs : List Artifact). Contains xs x) (sym split.2) (Contains-append_left split.0 split.1 x before))
        | inr there ↦ elim (Contains-cons_cases a split.1 x there) [
          | inl same ↦ subst P same g
          | inr behind ↦ h x (subst (λ (xs : List Artifact). Contains xs x) (sym split.2) (Contains-append_right split.0 split.1 x behind))
        ]
      ]

  one_call : (c : Call) (js : List Section) → InAppend c → InJournal js → InJournal (after_call c js)
  one_call (calls.Append n a) js g h = appends n a js g h
  one_call (calls.Sync n) js g h = λ x c. h x (subst (λ (xs : List Artifact). Contains xs x) (replayed-synced_at n js) c)
  one_call (calls.Prune least) js g h = λ x c. h x (Contains-pruned least js x c)
  one_call (calls.Send channel to bytes) js g h = h
  one_call (calls.Report activity) js g h = h
  one_call (calls.Relay payload plan) js g h = h
  one_call (calls.Block who why) js g h = h

  all_calls : (cs : List Call) (js : List Section) → Each (InAppend) cs → InJournal js → InJournal (after_calls cs js)
  unfolding after_calls
  all_calls [] js g h = h
  all_calls (c ∷ rest) js g h = all_calls rest (after_call c js) g.1 (one_call c js g.0 h)

  pub crash_keeps : (keep : ℕ) (js : List Section) → InJournal js → InJournal (crashed keep js)
  crash_keeps keep js h x c = h x (Contains-crashed keep js x c)

  one_fails : (stop : Stop) (c : Call) (js : List Section) → InJournal js → InJournal (after_failing stop c js)
  one_fails (stops.Fail call keep) (calls.Prune least) js h = λ x c. h x (was_there keep least js x c)
  one_fails (stops.Fail call keep) (calls.Append n a) js h = h
  one_fails (stops.Fail call keep) (calls.Sync n) js h = h
  one_fails (stops.Fail call keep) (calls.Send channel to bytes) js h = h
  one_fails (stops.Fail call keep) (calls.Report activity) js h = h
  one_fails (stops.Fail call keep) (calls.Relay payload plan) js h = h
  one_fails (stops.Fail call keep) (calls.Block who why) js h = h
  one_fails stops.None c js h = h
  one_fails (stops.Cut call keep) c js h = h

  some_fails : (stop : Stop) (cs : List Call) (place : ℕ) (js : List Section) → InJournal js → InJournal (failing_at stop cs place js)
  some_fails stop [] place js h = h
  some_fails stop (c ∷ rest) place js h = at (place == 0) (some_fails stop rest (place - 1) js h)
    where
      at : (b : Bool) → InJournal (failing_at stop rest (place - 1) js) → InJournal (if b then after_failing stop c js else failing_at stop rest (place - 1) js)
      at true later = one_fails stop c js h
      at false later = later

  pub step_keeps : (stop : Stop) (d : Doing) (js : List Section) → Each (InAppend) d.calls → InJournal js → InJournal (performed stop d js).sections
  unfolding performed
  step_keeps stop d js g h = at (stop_place stop d.calls)
    where
      at : (o : Option ℕ) → InJournal (option_map_or (broken stop d js) o (whole d js)).sections
      at None = all_calls d.calls js g h
      at (Some place) =
          let done = after_calls (take place d.calls) js in
          crash_keeps (kept_by stop) (failing_at stop d.calls place done)
          (some_fails stop d.calls place done (all_calls (take place d.calls) js (Each-take (InAppend) place d.calls g) h))

  pub start_keeps : (stop : Stop) (floor : Floor) (d : Doing) (js : List Section) → Each (InAppend) d.calls → InJournal js → InJournal (start_performed stop floor d js).sections
  unfolding start_performed
  start_keeps stops.None floor d js g h = step_keeps stops.None d js g h
  start_keeps (stops.Cut call keep) floor d js g h = step_keeps (stops.Cut call keep) d js g h
  start_keeps (stops.Fail call keep) floor d js g h = at (call == 1)
    where
      at : (b : Bool) → InJournal (if b then unread floor d keep js else performed (stops.Fail (call - 1) keep) d js).sections
      at true = crash_keeps keep js h
      at false = step_keeps (stops.Fail (call - 1) keep) d js g h
