-- The first fault of an entry, by the tests in their order.
use Rattle.std.proofs.Common.{◌≡◌, ℕ, List, [], ◌∷◌, ◌++◌, Bool, true, false, refl, sym, ap, subst, ◌∙◌, Option, Some, None}
use Rattle.std.specs.Prelude.{not}
use Rattle.std.specs.Option.{is_none, option_or}
use Rattle.simplex_transcript.specs.declared.event.Event.{Event}
use Rattle.simplex_transcript.specs.declared.node.Node.{Node}
use Rattle.simplex_transcript.specs.declared.setup.Setup.{Setup}
use Rattle.model_run.specs.Forged.{first_forged}
use Rattle.model_run.specs.Life.{Noted}
use Rattle.model_run.specs.Setting.{Setting, setting_of}
use Rattle.law_run.specs.Complete.{node_named}
use Rattle.model_audit.specs.declared.record.AuditEntry.{AuditEntry}
use Rattle.model_audit.specs.declared.record.AuditFault.{AuditFault}
use Rattle.model_audit.specs.declared.record.AuditFault.TheVariants as faults
use Rattle.model_audit.specs.Audit.{fault_in, if_honest, stores_first, unless}
use Rattle.model_audit.specs.Conditions.{is_allowed}
use Rattle.model_audit.specs.Conflicts.{has_conflict}
use Rattle.model_audit.specs.Fitting.{fits}
use Rattle.model_audit.specs.Rebuilt.{rebuilt, rebuilt_entry}
use Rattle.model_audit.specs.VotesDue.{sends_due}
use Rattle.simplex_case.specs.Stands.{Answers, CaseStands, IsEndOf}
use Rattle.simplex_conflicts.specs.Standing.{StandsFor}
use Rattle.simplex_judge.specs.declared.follower.Follower.{Follower}
use Rattle.simplex_judge.specs.declared.judge.Judge.{Judge}
use Rattle.simplex_judge.specs.Followed.{IsNext}
use Rattle.simplex_judge.specs.Followers.{FollowersStand, FollowOn}
use Rattle.simplex_judge.specs.Judging.{JudgeStands, Judges}

-- it is enough to judge from one genesis digest
setting-is : (setting : Setting) (setup : Setup) → setting.setup ≡ setup → setting_of setup setting.genesis ≡ setting
setting-is setting setup same = ap (λ s. setting_of s setting.genesis) (sym same)

pub judges-from : (old new : Judge) (setup : Setup) (prior : List AuditEntry) (event : Event) (e : AuditEntry) (fault : Option AuditFault)
    → ((genesis : List ℕ) → Judges old new (setting_of setup genesis) prior event e fault)
    → (setting : Setting) → setting.setup ≡ setup → Judges old new setting prior event e fault
judges-from old new setup prior event e fault all setting same =
    subst (λ s. Judges old new s prior event e fault) (setting-is setting setup same) (all setting.genesis)

-- ---- the tests

abbrev pub fault_of : Bool → Bool → Bool → Bool → Bool → Bool → Option AuditFault
fault_of fitting allowed genuine stored due alone =
    option_or (unless fitting faults.Entry)
    (option_or (unless allowed faults.Condition)
    (option_or (unless genuine faults.Forged)
    (option_or (unless stored faults.Order)
    (option_or (unless due faults.Votes)
    (unless alone faults.Conflict)))))

fault-is : (setting : Setting) (before : List Noted) (event : Event) (e : AuditEntry) → fault_in setting before event e
    ≡ fault_of (fits before event e) (is_allowed setting before event) (is_none (first_forged setting.setup before (rebuilt_entry e)))
    (if_honest setting (node_named event) (stores_first setting before (rebuilt_entry e)))
    (if_honest setting (node_named event) (λ node. sends_due setting before (rebuilt_entry e) node event))
    (not (has_conflict setting.setup before (rebuilt_entry e)))
unfolding fault_in
fault-is setting before event e = refl

-- what the test of a rule told
abbrev pub Told : Judge → Setting → List AuditEntry → (List Noted → Bool) → Bool → Type 0
Told judge setting prior rule answer = (before : List Noted) → JudgeStands judge setting prior before → rule before ≡ answer

module _ (old new : Judge) (setting : Setting) (prior : List AuditEntry) (event : Event) (e : AuditEntry) where
  abbrev pub Fits : Bool → Type 0
  Fits answer = Told old setting prior (λ before. fits before event e) answer

  abbrev pub Allows : Bool → Type 0
  Allows answer = Told old setting prior (λ before. is_allowed setting before event) answer

  abbrev pub Genuine : Bool → Type 0
  Genuine answer = Told old setting prior (λ before. is_none (first_forged setting.setup before (rebuilt_entry e))) answer

  abbrev pub Stores : Bool → Type 0
  Stores answer = Told old setting prior (λ before. if_honest setting (node_named event) (stores_first setting before (rebuilt_entry e))) answer

  abbrev pub Sends : Bool → Type 0
  Sends answer = Told old setting prior (λ before. if_honest setting (node_named event) (λ node. sends_due setting before (rebuilt_entry e) node event)) answer

  abbrev pub Clashes : Bool → Type 0
  Clashes answer = Told old setting prior (λ before. has_conflict setting.setup before (rebuilt_entry e)) answer

  -- the first fault, by the rules
  abbrev pub found : List Noted → Option AuditFault
  found before =
      fault_of (fits before event e) (is_allowed setting before event) (is_none (first_forged setting.setup before (rebuilt_entry e)))
      (if_honest setting (node_named event) (stores_first setting before (rebuilt_entry e)))
      (if_honest setting (node_named event) (λ node. sends_due setting before (rebuilt_entry e) node event))
      (not (has_conflict setting.setup before (rebuilt_entry e)))

  faulty : (fault : AuditFault) → ((before : List Noted) → JudgeStands old setting prior before → found before ≡ Some fault) → Judges old new setting prior event e (Some fault)
  faulty fault is = record { answers = λ before stand. sym (fault-is setting before event e ∙ is before stand); stands = λ before stand none. absurd cc }

  pub entry-fault : Fits false → Judges old new setting prior event e (Some faults.Entry)
  entry-fault a = faulty faults.Entry (λ before stand. rw (a before stand) refl)

  pub condition-fault : Fits true → Allows false → Judges old new setting prior event e (Some faults.Condition)
  condition-fault a b = faulty faults.Condition (λ before stand. rw (a before stand, b before stand) refl)

  pub forged-fault : Fits true → Allows true → Genuine false → Judges old new setting prior event e (Some faults.Forged)
  forged-fault a b c = faulty faults.Forged (λ before stand. rw (a before stand, b before stand, c before stand) refl)

  pub order-fault : Fits true → Allows true → Genuine true → Stores false → Judges old new setting prior event e (Some faults.Order)
  order-fault a b c d = faulty faults.Order (λ before stand. rw (a before stand, b before stand, c before stand, d before stand) refl)

  pub votes-fault : Fits true → Allows true → Genuine true → Stores true → Sends false → Judges old new setting prior event e (Some faults.Votes)
  votes-fault a b c d f = faulty faults.Votes (λ before stand. rw (a before stand, b before stand, c before stand, d before stand, f before stand) refl)

  pub conflict-fault : Fits true → Allows true → Genuine true → Stores true → Sends true → Clashes true → Judges old new setting prior event e (Some faults.Conflict)
  conflict-fault a b c d f g =
      faulty faults.Conflict (λ before stand. rw (a before stand, b before stand, c before stand, d before stand, f before stand, g before stand) refl)

  pub no-fault : Fits true → Allows true → Genuine true → Stores true → Sends true → Clashes false
      → ((before : List Noted) → JudgeStands old setting prior before → JudgeStands new setting (prior ++ e ∷ []) (rebuilt event e ∷ before)) → Judges old new setting prior event e None
  no-fault a b c d f g goes =
      record {
        answers = λ before stand.
            let none : found before ≡ None = rw (a before stand, b before stand, c before stand, d before stand, f before stand, g before stand) refl in
            sym (fault-is setting before event e ∙ none);
        stands = λ before stand none. goes before stand;
      }

-- ---- what the parts told

module _ (old : Judge) (setup : Setup) (genesis : List ℕ) (prior : List AuditEntry) (event : Event) (e : AuditEntry) where
  abbrev pub it : Setting
  it = setting_of setup genesis

  pub told-fits : (test answer : Bool) → Answers old.case setup prior (λ before. fits before event e) test → test ≡ answer → Told old it prior (λ before. fits before event e) answer
  told-fits test answer tells is = λ before stand. sym (tells before stand.case) ∙ is

  pub told-allows : (test answer at_end : Bool)
      → ((setting : Setting) (before : List Noted) → setting.setup ≡ setup → CaseStands old.case setup prior before → IsEndOf setting before at_end (node_named event) → test ≡ is_allowed setting before event)
      → ((setting : Setting) (before : List Noted) → setting.setup ≡ setup → FollowersStand old.followers.seats.items setting before → IsEndOf setting before at_end (node_named event))
      → test ≡ answer → Told old it prior (λ before. is_allowed it before event) answer
  told-allows test answer at_end tells ends is = λ before stand. sym (tells it before refl stand.case (ends it before refl stand.followers)) ∙ is

  pub told-genuine : (test answer : Bool) → ((all : List AuditEntry) → Answers old.case setup all (λ before. is_none (first_forged setup before (rebuilt_entry e))) test) → test ≡ answer
      → Told old it prior (λ before. is_none (first_forged setup before (rebuilt_entry e))) answer
  told-genuine test answer tells is = λ before stand. sym (tells prior before stand.case) ∙ is

  pub told-stores : (test answer : Bool)
      → ((setting : Setting) (before : List Noted) → setting.setup ≡ setup → FollowersStand old.followers.seats.items setting before → is_allowed setting before event ≡ true
      → test ≡ if_honest setting (node_named event) (stores_first setting before (rebuilt_entry e)))
      → Told old it prior (λ before. is_allowed it before event) true → test ≡ answer
      → Told old it prior (λ before. if_honest it (node_named event) (stores_first it before (rebuilt_entry e))) answer
  told-stores test answer tells allowed is = λ before stand. sym (tells it before refl stand.followers (allowed before stand)) ∙ is

  next-of : Told old it prior (λ before. fits before event e) true → Told old it prior (λ before. is_allowed it before event) true → (before : List Noted) → JudgeStands old it prior before
      → IsNext it prior before event e
  next-of fitting allowed before stand = record { items = stand.case.items; fitting = fitting before stand; allowed = allowed before stand }

  pub told-sends : (seats : List (Option Follower)) (test answer : Bool) → FollowOn old.followers.seats.items seats setup prior event e test
      → Told old it prior (λ before. fits before event e) true → Told old it prior (λ before. is_allowed it before event) true → test ≡ answer
      → Told old it prior (λ before. if_honest it (node_named event) (λ node. sends_due it before (rebuilt_entry e) node event)) answer
  told-sends seats test answer tells fitting allowed is = λ before stand. sym (tells.sends it before refl stand.followers (next-of fitting allowed before stand)) ∙ is

  pub told-clashes : (test answer : Bool) → ((s : Setup) (before : List Noted) → StandsFor old.standing s before → test ≡ has_conflict s before (rebuilt_entry e)) → test ≡ answer
      → Told old it prior (λ before. has_conflict setup before (rebuilt_entry e)) answer
  told-clashes test answer tells is = λ before stand. sym (tells setup before stand.standing) ∙ is

  pub stands-on : (new : Judge) (due conflict : Bool) → FollowOn old.followers.seats.items new.followers.seats.items setup prior event e due
      → Told old it prior (λ before. fits before event e) true → Told old it prior (λ before. is_allowed it before event) true
      → ((setting : Setting) (before : List Noted) → setting.setup ≡ setup → CaseStands old.case setup prior before → is_allowed setting before event ≡ true
      → CaseStands new.case setup (prior ++ e ∷ []) (rebuilt event e ∷ before))
      → (conflict ≡ false → (s : Setup) (before : List Noted) (ev : Event) → StandsFor old.standing s before → StandsFor new.standing s (rebuilt ev e ∷ before)) → conflict ≡ false
      → (before : List Noted) → JudgeStands old it prior before → JudgeStands new it (prior ++ e ∷ []) (rebuilt event e ∷ before)
  stands-on new due conflict goes fitting allowed takes stands none = λ before stand. record {
    case = takes it before refl stand.case (allowed before stand);
    followers = goes.follows it before refl stand.followers (next-of fitting allowed before stand);
    standing = stands none setup before event stand.standing;
  }
