-- What is read of a node behind one entry more.
use Rattle.std.proofs.Common.{◌≡◌, ℕ, ◌-◌, ◌*◌, ◌++◌, nat_lt, Bool, true, false, List, [], ◌∷◌, refl, sym, ap, ◌∙◌, subst, arith, eq-eqb, if◌then◌else◌}
use Rattle.std.specs.Prelude.{◌&&◌, ◌||◌, Option}
use Rattle.std.specs.List.{filter_map}
use Rattle.std.proofs.lemmas.Grind.{common_steps}
use Rattle.simplex_values.specs.declared.answer.Answer.{Answer}
use Rattle.simplex_wire.specs.declared.certificate.Finalization.{Finalization}
use Rattle.simplex_values.specs.Terms.{greatest_view}
use Rattle.simplex_journal.specs.Journal.{Section, crashed, replayed}
use Rattle.simplex_journal.specs.Contents.{kept}
use Rattle.simplex_messages.specs.declared.step.Stop.{Stop}
use Rattle.simplex_messages.specs.declared.step.Stop.TheVariants as stops
use Rattle.simplex_transcript.specs.declared.event.Event.{Event}
use Rattle.simplex_transcript.specs.declared.event.Event.TheVariants as events
use Rattle.simplex_transcript.specs.declared.node.Node.{Node}
use Rattle.simplex_transcript.specs.declared.node.Ref.{Ref}
use Rattle.model_rules.specs.Known.{Made, Fact}
use Rattle.model_rules.specs.Views.{current_of}
use Rattle.model_steps.specs.Voter.{started}
use Rattle.model_run.specs.Kinds.{is_same_node}
use Rattle.model_run.specs.Life.{Noted, clock_of, is_of}
use Rattle.model_run.specs.Members.{floor_of, rules_of}
use Rattle.model_run.specs.Requests.{is_start}
use Rattle.model_run.specs.Setting.{Setting}
use Rattle.model_audit.specs.declared.record.AuditEntry.{AuditEntry}
use Rattle.model_audit.specs.Audit.{stores_first}
use Rattle.model_audit.specs.Conditions.{is_at_end}
use Rattle.model_audit.specs.Journal.{behind_reading, sections_behind}
use Rattle.model_audit.specs.Order.{are_in_order}
use Rattle.model_audit.specs.Reading.{Read, votes_in, rules_at, calls_read, start_read, crash_read, read_behind, read}
use Rattle.model_audit.specs.Rebuilt.{call_for, rebuilt, rebuilt_entry}
use Rattle.model_audit.specs.Running.{is_done, is_broken, is_crash, runs_at}
use Rattle.simplex_known.specs.declared.rules.Rules.{Rules}
use Rattle.simplex_known.specs.Knows.{Knows, AreRulesOf}
use Rattle.simplex_reader.specs.declared.reader.Reader.{Reader}
use Rattle.simplex_reader.specs.Follows.{Follows}
use Rattle.simplex_reader.proofs.Voting.{Appends}

-- ---- the node of an event

pub same_node : (node : Node) → is_same_node node node ≡ true
same_node node = grind (arith, common_steps, eq-eqb node.member node.member refl, eq-eqb node.half node.half refl)

module _ (setting : Setting) (before : List Noted) (noted : Noted) (node : Node) where
  pub read_own : is_of node noted.event ≡ true → read setting (noted ∷ before) node ≡ read_behind setting node before noted.entry noted.event (read setting before node)
  unfolding read
  read_own e = ap (λ b. if b then read_behind setting node before noted.entry noted.event (read setting before node) else read setting before node) e

  pub runs_own : is_of node noted.event ≡ true → runs_at (noted ∷ before) node
      ≡ (if is_start noted.event || is_crash noted.event || is_broken noted.entry.outcome then is_start noted.event && is_done noted.entry.outcome else runs_at before node)
  unfolding runs_at
  runs_own e =
      ap (λ b. if b && (is_start noted.event || is_crash noted.event || is_broken noted.entry.outcome) then is_start noted.event && is_done noted.entry.outcome else runs_at before node) e

-- ---- following it

-- the rules do not rest on the clock of the start
pub same_rules : (setting : Setting) (member s t : ℕ) (rules : Rules) → AreRulesOf (rules_of setting member s) rules → AreRulesOf (rules_of setting member t) rules
unfolding rules_of
same_rules setting member s t rules r = record { epoch = r.epoch; term_length = r.term_length; lookahead = r.lookahead; retention = r.retention }

pub follows_at : (reader : Reader) (setting : Setting) (before : List Noted) (node : Node) (r : Read) → read setting before node ≡ r
    → AreRulesOf (rules_at setting node r) reader.rules
    → (runs_at before node ≡ true → Knows reader.known (rules_at setting node r) r.known)
    → reader.stored ≡ r.sections
    → Follows reader setting before node
follows_at reader setting before node r e rules known sections =
    record {
      rules = subst (λ (x : Read). AreRulesOf (rules_at setting node x) reader.rules) (sym e) rules;
      known = λ runs. subst (λ (x : Read). Knows reader.known (rules_at setting node x) x.known) (sym e) (known runs);
      sections = sections ∙ ap (λ (x : Read). x.sections) (sym e);
    }

-- ---- a packet or an answer

-- a node that runs after an entry that is no start ran before it
ran_before : (start crash broken done runs : Bool) → start ≡ false → (if start || crash || broken then start && done else runs) ≡ true → runs ≡ true
ran_before true crash broken done runs e h = cc
ran_before false true broken done runs e h = cc
ran_before false false true done runs e h = cc
ran_before false false false done runs e h = h

module _ (old new : Reader) (setting : Setting) (before : List Noted) (node : Node) (entry : AuditEntry) (same : new.rules ≡ old.rules) where
  -- an event of which the calls alone are read
  calls_followed : (event : Event) → is_of node event ≡ true → is_start event ≡ false
      → read_behind setting node before (rebuilt_entry entry) event (read setting before node) ≡ calls_read (clock_of before) stops.None (rebuilt_entry entry) (read setting before node)
      → Appends old.known new.known entry.calls → new.stored ≡ sections_behind entry.outcome stops.None [] (filter_map call_for entry.calls) old.stored
      → Follows old setting before node → Follows new setting (rebuilt event entry ∷ before) node
  unfolding rebuilt_entry
  calls_followed event own start read_so knows stored f =
      let noted = rebuilt event entry in
      let r = read setting before node in
      follows_at new setting (noted ∷ before) node (calls_read (clock_of before) stops.None (rebuilt_entry entry) r)
      (read_own setting before noted node own ∙ read_so)
      (subst (AreRulesOf (rules_at setting node r)) (sym same) f.rules)
      (λ runs. knows (rules_at setting node r) r.known (clock_of before)
      (f.known (ran_before (is_start event) (is_crash event) (is_broken entry.outcome) (is_done entry.outcome) (runs_at before node) start (sym (runs_own setting before noted node own) ∙ runs))))
      (stored ∙ ap (sections_behind entry.outcome stops.None [] (filter_map call_for entry.calls)) f.sections)

  pub follows_packet : (at : Ref) → Appends old.known new.known entry.calls → new.stored ≡ sections_behind entry.outcome stops.None [] (filter_map call_for entry.calls) old.stored
      → Follows old setting before node → Follows new setting (rebuilt (events.Deliver node at) entry ∷ before) node
  follows_packet at = calls_followed (events.Deliver node at) (same_node node) refl refl

  pub follows_answer : (at : Ref) (answer : Answer) → Appends old.known new.known entry.calls → new.stored ≡ sections_behind entry.outcome stops.None [] (filter_map call_for entry.calls) old.stored
      → Follows old setting before node → Follows new setting (rebuilt (events.Answer node at answer) entry ∷ before) node
  follows_answer at answer = calls_followed (events.Answer node at answer) (same_node node) refl refl

-- ---- before any entry

pub follows_nothing : (reader : Reader) (setting : Setting) (node : Node) → reader.rules.epoch ≡ setting.setup.epoch → reader.rules.lookahead.length ≡ setting.setup.term
    → reader.rules.lookahead.views ≡ setting.setup.lookahead → reader.rules.retention ≡ setting.setup.retention → reader.stored ≡ []
    → Follows reader setting [] node
unfolding read runs_at rules_of
follows_nothing reader setting node epoch term lookahead retention stored =
    record {
      rules = record { epoch = epoch; term_length = term; lookahead = lookahead; retention = retention };
      known = λ runs. cc;
      sections = stored;
    }

-- ---- what is asked of what is read

pub end_is : (reader : Reader) (setting : Setting) (before : List Noted) (node : Node) (last current : ℕ) (answer : Bool) → answer ≡ nat_lt last current
    → last ≡ greatest_view - 2 * reader.rules.lookahead.length - reader.rules.lookahead.views
    → ((made : Made) (known : List Fact) → Knows reader.known made known → current ≡ current_of made known)
    → Follows reader setting before node → runs_at before node ≡ true → answer ≡ is_at_end setting before node
unfolding rules_of
end_is reader setting before node last current answer is limit view f runs =
    let r = read setting before node in
    is
    ∙ ap (λ n. nat_lt n current)
    (limit ∙ ap (λ t. greatest_view - 2 * t - reader.rules.lookahead.views) f.rules.term_length ∙ ap (λ v. greatest_view - 2 * setting.setup.term - v) f.rules.lookahead)
    ∙ ap (nat_lt (greatest_view - 2 * setting.setup.term - setting.setup.lookahead)) (view (rules_at setting node r) r.known (f.known runs))

pub stored_is : (reader : Reader) (setting : Setting) (before : List Noted) (node : Node) (entry : AuditEntry) (answer : Bool)
    → answer ≡ are_in_order (kept reader.stored) [] (filter_map call_for entry.calls)
    → Follows reader setting before node → answer ≡ stores_first setting before (rebuilt_entry entry) node
unfolding rebuilt_entry
stored_is reader setting before node entry answer is f = is ∙ ap (λ (js : List Section). are_in_order (kept js) [] (filter_map call_for entry.calls)) f.sections

-- ---- a crash

pub follows_crash : (old new : Reader) (setting : Setting) (before : List Noted) (node : Node) (entry : AuditEntry) → new.rules ≡ old.rules
    → new.stored ≡ crashed 0 (sections_behind entry.outcome stops.None [] (filter_map call_for entry.calls) old.stored)
    → Follows old setting before node → Follows new setting (rebuilt (events.Crash node) entry ∷ before) node
unfolding rebuilt_entry
follows_crash old new setting before node entry same stored f =
    let noted = rebuilt (events.Crash node) entry in
    let r = read setting before node in
    follows_at new setting (noted ∷ before) node (crash_read (calls_read (clock_of before) stops.None (rebuilt_entry entry) r))
    (read_own setting before noted node (same_node node))
    (subst (AreRulesOf (rules_at setting node r)) (sym same) f.rules)
    (λ runs. absurd (never (sym (runs_own setting before noted node (same_node node)) ∙ runs)))
    (stored ∙ ap (λ (js : List Section). crashed 0 (sections_behind entry.outcome stops.None [] (filter_map call_for entry.calls) js)) f.sections)
  where
    never : false ≡ true → ⊥
    never e = cc

-- ---- a start

pub follows_start : (old new : Reader) (setting : Setting) (before : List Noted) (node : Node) (floor : Option Finalization) (stop : Stop) (entry : AuditEntry)
    → new.rules ≡ old.rules
    → ((made : Made) (genesis : List ℕ) (now : ℕ) → AreRulesOf made old.rules
    → Knows new.known made (votes_in now (filter_map call_for entry.calls) ++ (started made now (floor_of genesis floor) (replayed old.stored)).desk.known))
    → ((made : Made) (genesis : List ℕ) (now : ℕ) → AreRulesOf made old.rules → new.stored
    ≡ sections_behind entry.outcome (behind_reading stop) (started made now (floor_of genesis floor) (replayed old.stored)).calls (filter_map call_for entry.calls) old.stored)
    → Follows old setting before node → Follows new setting (rebuilt (events.Start node floor stop) entry ∷ before) node
unfolding rebuilt_entry
follows_start old new setting before node floor stop entry same knows stored f =
    let noted = rebuilt (events.Start node floor stop) entry in
    let r = read setting before node in
    let now = clock_of before in
    let made = rules_of setting node.member now in
    let at = floor_of setting.genesis floor in
    let rules : AreRulesOf made old.rules = same_rules setting node.member r.start now old.rules f.rules in
    follows_at new setting (noted ∷ before) node (start_read now stop (rebuilt_entry entry) (started made now at (replayed r.sections)) r)
    (read_own setting before noted node (same_node node))
    (subst (AreRulesOf made) (sym same) rules)
    (λ runs. subst (λ (js : List Section). Knows new.known made (votes_in now (filter_map call_for entry.calls) ++ (started made now at (replayed js)).desk.known)) f.sections
    (knows made setting.genesis now rules))
    (stored made setting.genesis now rules
    ∙ ap (λ (js : List Section). sections_behind entry.outcome (behind_reading stop) (started made now at (replayed js)).calls (filter_map call_for entry.calls) js) f.sections)
