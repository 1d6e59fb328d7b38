-- No block of a log is missing where no answer is bad.
use Rattle.std.proofs.Common.{◌≡◌, ℕ, zero, suc, ◌+◌, ◌-◌, ◌<◌, ◌≤◌, ◌==◌, ◌&&◌, not, Bool, true, false, List, [], ◌∷◌, ◌++◌, map, reverse, length, take, Contains, Option, Some, None, ◌⊎◌, refl, sym, ap, subst, ◌∙◌, inl, inr, arith, take_all, length-append, append-nil, eqb-true, eq-eqb, if◌then◌else◌}
use Rattle.std.specs.List.{slice_get}
use Rattle.std.specs.Option.{option_and_then, option_map, option_map_or, option_or}
use Rattle.std.proofs.lemmas.Bool.{cases_lt, cases_eq}
use Rattle.std.proofs.lemmas.List.{reverse-append, length-reverse}
use Rattle.std.proofs.lemmas.Option.{slice_get_past}
use Rattle.simplex_values.specs.declared.answer.Answer.{Answer}
use Rattle.simplex_values.specs.declared.answer.Answer.TheVariants as answers
use Rattle.model_rules.specs.declared.request.Asked.{Asked}
use Rattle.simplex_transcript.specs.declared.entry.Entry.{Entry}
use Rattle.simplex_transcript.specs.declared.event.Event.{Event}
use Rattle.simplex_transcript.specs.declared.event.Event.TheVariants as events
use Rattle.simplex_transcript.specs.declared.node.Node.{Node}
use Rattle.simplex_transcript.specs.declared.node.Ref.{Ref}
use Rattle.simplex_transcript.specs.declared.setup.Setup.{Setup}
use Rattle.model_run.specs.Setting.{Setting, setting_of}
use Rattle.model_run.specs.Kinds.{is_honest, runs_engine, members_of, node_of}
use Rattle.model_run.specs.Life.{Noted}
use Rattle.model_run.specs.Members.{is_same_node}
use Rattle.law_agreement.proofs.ListFacts.{not_in_empty, Contains-here, Contains-there, Contains-cons_cases}
use Rattle.law_run.specs.Faulty.{faulty_of}
use Rattle.law_run.proofs.Further.{same_node}
use Rattle.law_run.proofs.Members.{engineless_faulty, unhonest_faulty, faulty_listed}
use Rattle.model_log.specs.declared.entry.LogEntry.{LogEntry}
use Rattle.model_log.specs.Log.{entry_for}
use Rattle.model_log.specs.Fronts.{IsFrontOf, AreFronts}
use Rattle.law_log.specs.Logs.{log_at, logs_in}
use Rattle.law_log.specs.Reports.{entries_of}
use Rattle.law_log.specs.Transcripts.{IsTranscript}
use Rattle.law_log.proofs.Founding.{logged_founded}
use Rattle.law_log.proofs.Entries.{transcript_ran, transcript_fronts, transcript_logs}
use Rattle.law_run.specs.Answers.{vouched_in}
use Rattle.law_run.specs.Asked.{asked_at}
use Rattle.law_run.specs.Answered.{AnswersFor, AllAnswersAre}
use Rattle.law_run.proofs.AskedEvents.{events_in, run_events}
use Rattle.law_run.proofs.AskedListing.{place_last}
use Rattle.law_run.proofs.AskedRunning.{notarized_from}
use Rattle.model_ledger.specs.declared.transfer.LedgerError.{LedgerError}
use Rattle.law_ledger.specs.Answers.{entry_at, request_at, fails_on, is_bad_answer, bad_answer_from, bad_answer}
use Rattle.model_ledger.specs.Blocks.{is_sound}
use Rattle.law_ledger.specs.Faults.{ledger_fault}
use Rattle.model_ledger.specs.Ledger.{balances_at}
use Rattle.law_ledger.specs.Whole.{NoneIsMissing, AgreeByHeight, IsLedgerOf}
use Rattle.model_ledger.proofs.Keeping.{total_kept, count_kept}

-- ---- a request by its place in a transcript

same_place : {X : Type 0} (xs rest : List X) (i : ℕ) → i < length xs → slice_get (xs ++ rest) i ≡ slice_get xs i
same_place [] rest i lt = absurd (omega (arith, lt))
same_place (x ∷ xs) rest zero lt = refl
same_place (x ∷ xs) rest (suc i) lt = same_place xs rest i (omega (arith, lt))

never : {A : Type 0} → true ≡ false → A
never e = cc

entry_push : (xs : List Entry) (x : Entry) (k : ℕ) → entry_at (xs ++ x ∷ []) k ≡ (if length xs + 1 == k then Some x else entry_at xs k)
entry_push xs x k = at (k == 0) (length xs + 1 == k) refl refl
  where
    apart : (a b : ℕ) → (a == b) ≡ false → a ≡ b → ⊥
    apart a b f e = never (sym (eq-eqb a b e) ∙ f)

    at : (z l : Bool) → (k == 0) ≡ z → (length xs + 1 == k) ≡ l
        → (if z then None else slice_get (xs ++ x ∷ []) (k - 1)) ≡ (if l then Some x else (if z then None else slice_get xs (k - 1)))
    at true true e f = absurd (omega (arith, eqb-true k 0 e, eqb-true (length xs + 1) k f))
    at true false e f = refl
    at false true e f = place_last xs x (k - 1) (omega (arith, eqb-true (length xs + 1) k f))
    at false false e f = elim (cases_lt (k - 1) (length xs)) [
      | inl lt ↦ same_place xs (x ∷ []) (k - 1) lt
      | inr ge ↦ elim (cases_eq (length xs + 1) k) [
        | inl s ↦ absurd (apart (length xs + 1) k f s)
        | inr n ↦ elim (cases_eq k 0) [
          | inl s ↦ absurd (apart k 0 e s)
          | inr m ↦ slice_get_past (xs ++ x ∷ []) (k - 1) (omega (arith, ge, n, m, length-append xs (x ∷ []))) ∙ sym (slice_get_past xs (k - 1) ge)
        ]
      ]
    ]

entries_push : (noted : Noted) (before : List Noted) → entries_of (noted ∷ before) ≡ entries_of before ++ noted.entry ∷ []
entries_push noted before = reverse-append (noted.entry ∷ []) (map (λ (n : Noted). n.entry) before)

map_count : (before : List Noted) → length (map (λ (n : Noted). n.entry) before) ≡ length before
map_count [] = refl
map_count (noted ∷ before) = ap suc (map_count before)

entries_count : (before : List Noted) → length (entries_of before) ≡ length before
entries_count before = length-reverse (map (λ (n : Noted). n.entry) before) ∙ map_count before

asked_is : (noted : List Noted) (at : Ref) → request_at (entries_of noted) at ≡ asked_at noted at
unfolding request_at asked_at
asked_is [] at = by (at.event == 0)
  where
    by : (b : Bool) → option_and_then (λ (entry : Entry). slice_get entry.asked at.place) (if b then None else slice_get [] (at.event - 1)) ≡ None
    by true = refl
    by false = refl
asked_is (noted ∷ before) at =
    let pick = λ (entry : Entry). slice_get entry.asked at.place in
    ap (λ (es : List Entry). option_and_then pick (entry_at es at.event)) (entries_push noted before)
    ∙ ap (option_and_then pick) (entry_push (entries_of before) noted.entry at.event)
    ∙ ap (λ (n : ℕ). option_and_then pick (if n + 1 == at.event then Some noted.entry else entry_at (entries_of before) at.event)) (entries_count before)
    ∙ by (length before + 1 == at.event) (asked_is before at)
  where
    by : (b : Bool) → option_and_then (λ (entry : Entry). slice_get entry.asked at.place) (entry_at (entries_of before) at.event) ≡ asked_at before at
        → option_and_then (λ (entry : Entry). slice_get entry.asked at.place) (if b then Some noted.entry else entry_at (entries_of before) at.event) ≡ (if b then slice_get noted.entry.asked at.place else asked_at before at)
    by true e = refl
    by false e = e

-- a request that stands in the entries so far stands there later too
asked_early : (before : List Noted) (at : Ref) (x : Asked) → asked_at before at ≡ Some x → at.event ≤ length before
unfolding asked_at
asked_early [] at x e = cc
asked_early (noted ∷ before) at x e = by (length before + 1 == at.event) refl (asked_early before at x) e
  where
    by : (b : Bool) → (length before + 1 == at.event) ≡ b → (asked_at before at ≡ Some x → at.event ≤ length before)
        → (if b then slice_get noted.entry.asked at.place else asked_at before at) ≡ Some x → at.event ≤ length (noted ∷ before)
    by true f early k = omega (arith, eqb-true (length before + 1) at.event f)
    by false f early k = (let h = early k in omega (arith, h))

asked_later : (noted : Noted) (before : List Noted) (at : Ref) (x : Asked) → asked_at before at ≡ Some x → asked_at (noted ∷ before) at ≡ Some x
unfolding asked_at
asked_later noted before at x e = by (length before + 1 == at.event) refl
  where
    early : at.event ≤ length before
    early = asked_early before at x e

    by : (b : Bool) → (length before + 1 == at.event) ≡ b → (if b then slice_get noted.entry.asked at.place else asked_at before at) ≡ Some x
    by true f = absurd (omega (arith, eqb-true (length before + 1) at.event f, early))
    by false f = e

-- ---- no answer is bad

good_from : (test : List ℕ → Bool) (setup : Setup) (entries : List Entry) (number : ℕ) (list : List Event) (event : Event) → bad_answer_from test setup entries number list ≡ None → Contains list event
    → is_bad_answer test setup entries event ≡ false
unfolding bad_answer_from
good_from test setup entries number [] event e k = absurd (not_in_empty event k)
good_from test setup entries number (first ∷ rest) event e k = by (is_bad_answer test setup entries first) refl (λ h r. good_from test setup entries (number + 1) rest event h r) e
  where
    by : (b : Bool) → is_bad_answer test setup entries first ≡ b → (bad_answer_from test setup entries (number + 1) rest ≡ None → Contains rest event → is_bad_answer test setup entries event ≡ false)
        → (if b then Some number else bad_answer_from test setup entries (number + 1) rest) ≡ None → is_bad_answer test setup entries event ≡ false
    by true f go h = cc
    by false f go h = elim (Contains-cons_cases first rest event k) [
      | inl same ↦ subst (λ (x : Event). is_bad_answer test setup entries x ≡ false) same f
      | inr r ↦ go h r
    ]

both_needed : (a b : Bool) → a ≡ true → (a && b) ≡ false → b ≡ false
both_needed true b e f = f
both_needed false b e f = cc

passes : (b : Bool) → not b ≡ false → b ≡ true
passes true e = refl
passes false e = cc

vouched_later : (o later : Option Asked) (answer : Answer) (payload : List ℕ) → ((x : Asked) → o ≡ Some x → later ≡ Some x) → vouched_in o answer ≡ Some payload → vouched_in later answer ≡ Some payload
vouched_later o later (answers.Payload p) payload more e = e
vouched_later o later (answers.Handoff decision) payload more e = e
vouched_later None later (answers.Verdict true) payload more e = cc
vouched_later (Some x) later (answers.Verdict true) payload more e = ap (λ (a : Option Asked). vouched_in a (answers.Verdict true)) (more x refl) ∙ e
vouched_later o later (answers.Verdict false) payload more e = cc
vouched_later o later answers.Closed payload more e = cc

module _ (test : List ℕ → Bool) (setup : Setup) (whole : List Noted) (node : Node) (honest : is_honest setup node.member ≡ true) where
  abbrev IsGood : Event → Type 0
  IsGood event = is_bad_answer test setup (entries_of whole) event ≡ false

  event_passes : (before : List Noted) → ((at : Ref) (x : Asked) → asked_at before at ≡ Some x → asked_at whole at ≡ Some x) → (event : Event) → IsGood event
      → AnswersFor (λ payload. test payload ≡ true) before node event
  event_passes before more (events.Answer to at answer) good = λ same payload v.
      let is : is_honest setup to.member ≡ true = ap (λ (n : Node). is_honest setup n.member) (same_node to node same) ∙ honest in
      let fine : fails_on test (vouched_in (request_at (entries_of whole) at) answer) ≡ false = both_needed (is_honest setup to.member) _ is good in
      let later : vouched_in (request_at (entries_of whole) at) answer ≡ Some payload = vouched_later (asked_at before at) (request_at (entries_of whole) at) answer payload (λ x e. asked_is whole at ∙ more at x e) v in
      passes (test payload) (subst (λ (o : Option (List ℕ)). fails_on test o ≡ false) later fine)
  event_passes before more (events.Start at floor stop) good = tt
  event_passes before more (events.Tick ms) good = tt
  event_passes before more (events.Deliver at ref) good = tt
  event_passes before more (events.Step at source stop) good = tt
  event_passes before more (events.Crash at) good = tt
  event_passes before more (events.Inject who channel to bytes) good = tt

  all_pass : (before : List Noted) → ((at : Ref) (x : Asked) → asked_at before at ≡ Some x → asked_at whole at ≡ Some x) → ((event : Event) → Contains (events_in before) event → IsGood event)
      → AllAnswersAre (λ payload. test payload ≡ true) node before
  unfolding AllAnswersAre
  all_pass [] more good = tt
  all_pass (noted ∷ before) more good =
      let less : (at : Ref) (x : Asked) → asked_at before at ≡ Some x → asked_at whole at ≡ Some x = λ at x e. more at x (asked_later noted before at x e) in
      (event_passes before less noted.event (good noted.event (Contains-here noted.event (events_in before))), all_pass before less (λ event k. good event (Contains-there noted.event (events_in before) event k)))

-- ---- a whole run

listed : (setup : Setup) (member : ℕ) (test : Bool) → (test ≡ false → Contains (faulty_of setup) member) → ¬ (Contains (faulty_of setup) member) → test ≡ true
listed setup member true f honest = refl
listed setup member false f honest = absurd (honest (f refl))

pub none_missing : (setup : Setup) (list : List Event) (entries : List Entry) (blocks : List (List ℕ)) → IsTranscript setup list entries → bad_answer (is_sound blocks) setup entries list ≡ None
    → NoneIsMissing setup entries blocks
none_missing setup list entries blocks t none node entry k =
    let r = transcript_ran setup list entries t in
    let setting = setting_of setup t.genesis in
    let s = r.safe in
    let f = logged_founded setting r.noted node entry s (subst (λ (es : List Entry). Contains (log_at setup es node) entry) (sym r.same) k) in
    let n = f.2 in
    let honest : is_honest setup n.member ≡ true = listed setup n.member (is_honest setup n.member) (λ e. faulty_listed setup n.member (unhonest_faulty setup n.member n.below e)) n.honest in
    let runs : runs_engine setup n.member ≡ true = listed setup n.member (runs_engine setup n.member) (λ e. faulty_listed setup n.member (engineless_faulty setup n.member n.below e)) n.honest in
    let good : (event : Event) → Contains (events_in r.noted) event → is_bad_answer (is_sound blocks) setup (entries_of r.noted) event ≡ false =
    λ event c. elim (run_events setting [] list r.noted event r.made c) [
      | inl h ↦ subst (λ (es : List Entry). is_bad_answer (is_sound blocks) setup es event ≡ false) (sym r.same) (good_from (is_sound blocks) setup entries 1 list event none h)
      | inr h ↦ absurd (not_in_empty event h)
    ] in
    let answers = all_pass (is_sound blocks) setup r.noted (node_of n.member) honest r.noted (λ at x e. e) good in
    let sound : is_sound blocks f.0.payload ≡ true = notarized_from (λ (payload : List ℕ). is_sound blocks payload ≡ true) setting r.noted (node_of n.member) f.0 r.ran s.above runs answers n.appended in
    ap (λ (e : LogEntry). is_sound blocks e.payload) f.1 ∙ sound

-- ---- heights

no_rest : (n : ℕ) (rest : List LogEntry) → n ≡ n + length rest → rest ≡ []
no_rest n [] e = refl
no_rest n (x ∷ rest) e = absurd (omega (arith, e))

front_same : (xs ys : List LogEntry) → IsFrontOf xs ys → length xs ≡ length ys → ys ≡ xs
front_same xs ys f e =
    let none : f.0 ≡ [] = no_rest (length xs) f.0 (e ∙ ap length f.1 ∙ length-append xs f.0) in
    f.1 ∙ ap (λ (rest : List LogEntry). xs ++ rest) none ∙ append-nil xs

fronts_same : (xs ys : List LogEntry) → AreFronts xs ys → length xs ≡ length ys → xs ≡ ys
fronts_same xs ys (inl f) e = sym (front_same xs ys f e)
fronts_same xs ys (inr f) e = front_same ys xs f (sym e)

pub heights_agree : (setup : Setup) (list : List Event) (entries : List Entry) (blocks : List (List ℕ)) (accounts : List ℕ) → IsTranscript setup list entries → AgreeByHeight setup entries blocks accounts
heights_agree setup list entries blocks accounts t a b e height =
    let all = take_all (length entries) entries (omega arith) in
    let f : AreFronts (log_at setup entries a) (log_at setup entries b) =
    subst (λ (es : List Entry). AreFronts (log_at setup es a) (log_at setup es b)) all (transcript_fronts setup list entries t a b (length entries) (length entries)) in
    ap (λ (log : List LogEntry). balances_at blocks accounts log height) (fronts_same (log_at setup entries a) (log_at setup entries b) f e)

-- ---- the ledger

none_left : {A : Type 0} (o p : Option A) → option_or o p ≡ None → p ≡ None
none_left None p e = e
none_left (Some a) p e = cc

none_mapped : {A B : Type 0} (f : A → B) (o : Option A) → option_map f o ≡ None → o ≡ None
none_mapped f None e = refl
none_mapped f (Some a) e = cc

faultless : (setup : Setup) (entries : List Entry) (list : List Event) (accounts : List ℕ) (blocks : List (List ℕ)) → ledger_fault setup entries list accounts blocks ≡ None
    → bad_answer (is_sound blocks) setup entries list ≡ None
unfolding ledger_fault
faultless setup entries list accounts blocks e = none_mapped _ (bad_answer (is_sound blocks) setup entries list) (none_left _ _ (none_left _ _ e))

pub whole_ledger : (setup : Setup) (list : List Event) (entries : List Entry) (accounts : List ℕ) (blocks : List (List ℕ)) → IsTranscript setup list entries
    → ledger_fault setup entries list accounts blocks ≡ None → IsLedgerOf setup entries blocks accounts (logs_in setup entries)
whole_ledger setup list entries accounts blocks t e =
    record {
      of_run = transcript_logs setup list entries t;
      sound = none_missing setup list entries blocks t (faultless setup entries list accounts blocks e);
      kept = λ log height. record { total = total_kept blocks accounts log height; count = count_kept blocks accounts log height };
      agree = heights_agree setup list entries blocks accounts t;
    }
