-- What is followed of one node, through one entry more.
use Rattle.std.proofs.Common.{◌≡◌, ℕ, List, [], ◌∷◌, Bool, true, false, refl, sym, ap, subst, ◌∙◌, if◌then◌else◌, Option, Some, None, map, length, ◌+◌}
use Rattle.std.specs.Prelude.{◌==◌, ◌&&◌, ◌||◌, not, filter_map}
use Rattle.std.specs.Option.{option_eq}
use Rattle.simplex_values.specs.declared.answer.Answer.{Answer}
use Rattle.simplex_wire.specs.declared.certificate.Finalization.{Finalization}
use Rattle.simplex_wire.specs.declared.vote.Vote.{Vote}
use Rattle.simplex_wire.specs.Message as format
use Rattle.simplex_messages.specs.declared.step.Stop.{Stop}
use Rattle.simplex_transcript.specs.declared.event.Event.{Event}
use Rattle.simplex_transcript.specs.declared.event.Event.TheVariants as events
use Rattle.simplex_transcript.specs.declared.event.StepSource.{StepSource}
use Rattle.simplex_transcript.specs.declared.node.Node.{Node}
use Rattle.simplex_transcript.specs.declared.node.Ref.{Ref}
use Rattle.model_rules.specs.declared.request.Asked.{Asked}
use Rattle.model_run.specs.Kinds.{is_node, is_same_node, members_of, runs_engine}
use Rattle.model_run.specs.Life.{Noted, is_of}
use Rattle.model_run.specs.Setting.{Setting, setting_of}
use Rattle.model_run.specs.Members.{engine_of, kind_of, rules_of}
use Rattle.model_run.specs.Wrapped.{wrapped_attests}
use Rattle.model_steps.specs.Engine.{EngineMade}
use Rattle.simplex_engine.specs.Config.{engine_made}
use Rattle.simplex_journal.specs.Journal.{Section}
use Rattle.simplex_members.specs.NodeEngine.{NodeConfig, made_with}
use Rattle.simplex_transcript.specs.declared.setup.Setup.{Setup}
use Rattle.simplex_types.specs.Keyed.{keyed_attests, keyed_verifies}
use Rattle.simplex_types.specs.declared.floor.Floor.{Floor}
use Rattle.model_audit.specs.declared.record.AuditEntry.{AuditEntry}
use Rattle.model_audit.specs.declared.record.AuditTook.{AuditTook}
use Rattle.model_audit.specs.declared.record.AuditTook.TheVariants as tooks
use Rattle.model_audit.specs.Conditions.{is_allowed, goes_on}
use Rattle.model_audit.specs.Reading.{Read, read, rules_at}
use Rattle.model_audit.specs.Rebuilt.{rebuilt, rebuilt_entry}
use Rattle.model_audit.specs.Running.{runs_at, asked_at, is_broken, is_done}
use Rattle.model_audit.specs.VotesDue.{are_those, sends_due, is_of_voter, vote_bytes, votes_at}
use Rattle.simplex_known.specs.Knows.{Knows, AreRulesOf}
use Rattle.simplex_due.specs.declared.due.Due.{Due}
use Rattle.simplex_due.specs.Due.{votes_in}
use Rattle.simplex_case.specs.Items.{AreItems, asked_listed}
use Rattle.simplex_case.specs.Taking.{own_node}
use Rattle.simplex_case.proofs.Desks.{runs-other}
use Rattle.simplex_reader.specs.declared.reader.Reader.{Reader}
use Rattle.simplex_reader.specs.Follows.{Follows, IsMadeBy, TakesStep, request_of}
use Rattle.simplex_judge.specs.declared.follower.Follower.{Follower}
use Rattle.simplex_judge.specs.Followed.{IsFollowed, IsTaken, GoesOn, StartsOn, StepsOn, attests_by, request_listed, signs_of, whole_sends}

-- ---- entries that change nothing

same-read : (reader : Reader) (setting : Setting) (before : List Noted) (noted : Noted) (node : Node) → read setting (noted ∷ before) node ≡ read setting before node
    → runs_at (noted ∷ before) node ≡ runs_at before node → Follows reader setting before node → Follows reader setting (noted ∷ before) node
same-read reader setting before noted node same runs follows =
    record {
      rules = subst (λ (r : Read). AreRulesOf (rules_at setting node r) reader.rules) (sym same) follows.rules;
      known = λ now. subst (λ (r : Read). Knows reader.known (rules_at setting node r) r.known) (sym same) (follows.known (sym runs ∙ now));
      sections = follows.sections ∙ ap (λ (r : Read). r.sections) (sym same);
    }

read-other : (setting : Setting) (before : List Noted) (noted : Noted) (node : Node) → is_of node noted.event ≡ false → read setting (noted ∷ before) node ≡ read setting before node
unfolding read
read-other setting before noted node other = rw other refl

-- of another node
pub followed-other : (follower : Follower) (setting : Setting) (before : List Noted) (noted : Noted) (node : Node) → is_of node noted.event ≡ false
    → IsFollowed follower setting before node → IsFollowed follower setting (noted ∷ before) node
followed-other follower setting before noted node other followed =
    record {
      follows = same-read follower.reader setting before noted node (read-other setting before noted node other) (runs-other before noted node other) followed.follows;
      signs = followed.signs;
    }

-- events of no node with an engine
abbrev pub keeps : Event → Bool
keeps (events.Tick ms) = true
keeps (events.Inject member channel to bytes) = true
keeps event = false

read-kept : (setting : Setting) (before : List Noted) (event : Event) (e : AuditEntry) (node : Node) → keeps event ≡ true
    → read setting (rebuilt event e ∷ before) node ≡ read setting before node
unfolding read
read-kept setting before (events.Start at floor stop) e node kept = absurd cc
read-kept setting before (events.Tick ms) e node kept = refl
read-kept setting before (events.Deliver at packet) e node kept = absurd cc
read-kept setting before (events.Step at source stop) e node kept = absurd cc
read-kept setting before (events.Answer at request answer) e node kept = absurd cc
read-kept setting before (events.Crash at) e node kept = absurd cc
read-kept setting before (events.Inject member channel to bytes) e node kept = refl

runs-kept : (before : List Noted) (event : Event) (e : AuditEntry) (node : Node) → keeps event ≡ true
    → runs_at (rebuilt event e ∷ before) node ≡ runs_at before node
unfolding runs_at
runs-kept before (events.Start at floor stop) e node kept = absurd cc
runs-kept before (events.Tick ms) e node kept = refl
runs-kept before (events.Deliver at packet) e node kept = absurd cc
runs-kept before (events.Step at source stop) e node kept = absurd cc
runs-kept before (events.Answer at request answer) e node kept = absurd cc
runs-kept before (events.Crash at) e node kept = absurd cc
runs-kept before (events.Inject member channel to bytes) e node kept = refl

kept-sends : (setting : Setting) (before : List Noted) (event : Event) (e : AuditEntry) (node : Node) → keeps event ≡ true → true ≡ sends_due setting before (rebuilt_entry e) node event
unfolding sends_due
kept-sends setting before (events.Start at floor stop) e node kept = absurd cc
kept-sends setting before (events.Tick ms) e node kept = refl
kept-sends setting before (events.Deliver at packet) e node kept = absurd cc
kept-sends setting before (events.Step at source stop) e node kept = absurd cc
kept-sends setting before (events.Answer at request answer) e node kept = absurd cc
kept-sends setting before (events.Crash at) e node kept = absurd cc
kept-sends setting before (events.Inject member channel to bytes) e node kept = refl

pub goes-kept : (follower : Follower) (prior : List AuditEntry) (event : Event) (e : AuditEntry) → keeps event ≡ true → GoesOn follower follower prior event e true
goes-kept follower prior event e kept =
    record {
      follows = λ setting before node followed taken. record {
        follows = same-read follower.reader setting before (rebuilt event e) node (read-kept setting before event e node kept) (runs-kept before event e node kept) followed.follows;
        signs = followed.signs;
      };
      sends = λ setting before node followed taken. kept-sends setting before event e node kept;
    }

-- ---- an event that sends no vote that is due

-- the event of a node, of whichever node it is
abbrev pub Takes : Reader → Reader → (Node → Event) → AuditEntry → Type 0
Takes old new event e = (setting : Setting) (before : List Noted) (node : Node) → Follows old setting before node
    → Follows new setting (rebuilt (event node) e ∷ before) node

pub goes-quiet : (old new : Follower) (prior : List AuditEntry) (event : Node → Event) (at : Node) (e : AuditEntry)
    → ((node : Node) → own_node (event node) ≡ Some node)
    → ((setting : Setting) (before : List Noted) (node : Node) → true ≡ sends_due setting before (rebuilt_entry e) node (event at))
    → new.scheme ≡ old.scheme → Takes old.reader new.reader event e → GoesOn old new prior (event at) e true
goes-quiet old new prior event at e own sends scheme takes =
    record {
      follows = λ setting before node followed taken.
          let named : Some at ≡ Some node = sym (own at) ∙ taken.named in
          let same : at ≡ node = cc in
          record {
            follows = subst (λ (n : Node). Follows new.reader setting (rebuilt (event n) e ∷ before) node) (sym same) (takes setting before node followed.follows);
            signs = subst (λ s. attests_by s setting.setup node.member) (sym scheme) followed.signs;
          };
      sends = λ setting before node followed taken. sends setting before node;
    }

-- a packet
pub goes-packet : (old new : Follower) (prior : List AuditEntry) (event : Event) (at : Node) (packet : Ref) (e : AuditEntry) → event ≡ events.Deliver at packet → new.scheme ≡ old.scheme
    → Takes old.reader new.reader (λ node. events.Deliver node packet) e → GoesOn old new prior event e true
unfolding sends_due
goes-packet old new prior event at packet e is scheme takes =
    subst (λ (ev : Event). GoesOn old new prior ev e true) (sym is)
    (goes-quiet old new prior (λ node. events.Deliver node packet) at e (λ node. refl) (λ setting before node. refl) scheme takes)

-- an answer
pub goes-answer : (old new : Follower) (prior : List AuditEntry) (event : Event) (at : Node) (request : Ref) (answer : Answer) (e : AuditEntry) → event ≡ events.Answer at request answer
    → new.scheme ≡ old.scheme → Takes old.reader new.reader (λ node. events.Answer node request answer) e → GoesOn old new prior event e true
unfolding sends_due
goes-answer old new prior event at request answer e is scheme takes =
    subst (λ (ev : Event). GoesOn old new prior ev e true) (sym is)
    (goes-quiet old new prior (λ node. events.Answer node request answer) at e (λ node. refl) (λ setting before node. refl) scheme takes)

-- a crash
pub goes-crash : (old new : Follower) (prior : List AuditEntry) (event : Event) (at : Node) (e : AuditEntry) → event ≡ events.Crash at → new.scheme ≡ old.scheme
    → Takes old.reader new.reader (λ node. events.Crash node) e → GoesOn old new prior event e true
unfolding sends_due
goes-crash old new prior event at e is scheme takes =
    subst (λ (ev : Event). GoesOn old new prior ev e true) (sym is)
    (goes-quiet old new prior (λ node. events.Crash node) at e (λ node. refl) (λ setting before node. refl) scheme takes)

-- ---- a start

abbrev pub Starts : Reader → Reader → Option Finalization → Stop → AuditEntry → Type 0
Starts old new floor stop e = (setting : Setting) (before : List Noted) (node : Node) → Follows old setting before node
    → Follows new setting (rebuilt (events.Start node floor stop) e ∷ before) node

pub starts-on : (old new : Follower) (floor : Option Finalization) (stop : Stop) (e : AuditEntry) (due : Bool) → new.scheme ≡ old.scheme
    → Starts old.reader new.reader floor stop e → due ≡ (not (is_done e.outcome) || are_those [] (filter_map vote_bytes e.packets)) → StartsOn old new floor stop e due
unfolding sends_due rebuilt_entry
starts-on old new floor stop e due scheme starts is = λ at prior. record {
  follows = λ setting before node followed taken.
      let own : Some at ≡ Some node = taken.named in
      let same : at ≡ node = cc in
      record {
        follows = subst (λ (n : Node). Follows new.reader setting (rebuilt (events.Start n floor stop) e ∷ before) node) (sym same) (starts setting before node followed.follows);
        signs = subst (λ s. attests_by s setting.setup node.member) (sym scheme) followed.signs;
      };
  sends = λ setting before node followed taken. is;
}

pub goes-start : (old new : Follower) (prior : List AuditEntry) (event : Event) (at : Node) (floor : Option Finalization) (stop : Stop) (e : AuditEntry) (due : Bool)
    → event ≡ events.Start at floor stop → StartsOn old new floor stop e due → GoesOn old new prior event e due
goes-start old new prior event at floor stop e due is starts = subst (λ (ev : Event). GoesOn old new prior ev e due) (sym is) (starts at prior)

-- ---- a step

step-runs : (setting : Setting) (before : List Noted) (node : Node) (source : StepSource) (stop : Stop) → runs_engine setting.setup node.member ≡ true
    → is_allowed setting before (events.Step node source stop) ≡ true → runs_at before node ≡ true
unfolding is_allowed
step-runs setting before node source stop engine allowed =
    second (is_node setting.setup node) (runs_engine setting.setup node.member) (runs_at before node) (goes_on setting before node) engine allowed
  where
    second : (n g r o : Bool) → g ≡ true → (n && (not g || r) && o) ≡ true → r ≡ true
    second true true true o e h = refl
    second true true false o e h = absurd cc
    second true false r o e h = absurd cc
    second false g r o e h = absurd cc

request-is : (prior : List AuditEntry) (before : List Noted) (took : AuditTook) → AreItems prior before → request_listed prior took ≡ request_of before took
request-is prior before tooks.Nothing items = refl
request-is prior before (tooks.Packet at) items = refl
request-is prior before (tooks.Proposal proposal) items = refl
request-is prior before (tooks.Timeout round reason) items = refl
request-is prior before (tooks.Certificate certificate) items = refl
request-is prior before tooks.OtherMail items = refl
request-is prior before (tooks.Request at answer) items = items.asked at
request-is prior before tooks.Timer items = refl
request-is prior before tooks.Floor items = refl

made-by : (follower : Follower) (setting : Setting) (prior : List AuditEntry) (before : List Noted) (at node : Node) (source : StepSource) (stop : Stop) (e : AuditEntry) (asked : Option Asked)
    → at ≡ node → asked ≡ request_listed prior e.took → IsFollowed follower setting before node → IsTaken setting prior before (events.Step at source stop) e node
    → IsMadeBy node (signs_of follower.scheme) setting before e asked
made-by follower setting prior before at node source stop e asked same listed followed taken =
    record {
      runs = step-runs setting before node source stop taken.engine (subst (λ (n : Node). is_allowed setting before (events.Step n source stop) ≡ true) same taken.next.allowed);
      signs = λ start. followed.signs setting start refl;
      request = listed ∙ request-is prior before e.took taken.next.items;
    }

second : (a b : Bool) → (a && b) ≡ true → b ≡ true
second true b h = h
second false b h = absurd cc

only-whole : (whole : Bool) (sent : List (List ℕ)) (a b : List Vote) → (whole ≡ true → a ≡ b)
    → (not whole || are_those (map format.vote.spelling a) sent) ≡ (not whole || are_those (map format.vote.spelling b) sent)
only-whole true sent a b same = ap (λ vs. are_those (map format.vote.spelling vs) sent) (same refl)
only-whole false sent a b same = refl

told-due : (setting : Setting) (before : List Noted) (node at : Node) (source : StepSource) (stop : Stop) (e : AuditEntry) (due : Due) (sends : Bool) → sends ≡ whole_sends source e (votes_in due)
    → (is_done e.outcome ≡ true → votes_in due ≡ votes_at setting before (rebuilt_entry e) node source) → sends ≡ sends_due setting before (rebuilt_entry e) node (events.Step at source stop)
unfolding sends_due rebuilt_entry
told-due setting before node at source stop e due sends is votes =
    is ∙ only-whole (is_of_voter source && is_done e.outcome) (filter_map vote_bytes e.packets) (votes_in due) (votes_at setting before (rebuilt_entry e) node source)
    (λ whole. votes (second (is_of_voter source) (is_done e.outcome) whole))

pub steps-on : (old new : Follower) (prior : List AuditEntry) (source : StepSource) (stop : Stop) (e : AuditEntry) (asked : Option Asked) (due : Due) (sends : Bool) → new.scheme ≡ old.scheme
    → asked ≡ request_listed prior e.took → TakesStep old.reader new.reader (signs_of old.scheme) source stop e asked due → sends ≡ whole_sends source e (votes_in due)
    → StepsOn old new prior source stop e sends
steps-on old new prior source stop e asked due sends scheme listed takes told = λ at. record {
  follows = λ setting before node followed taken.
      let own : Some at ≡ Some node = taken.named in
      let same : at ≡ node = cc in
      record {
        follows = subst (λ (n : Node). Follows new.reader setting (rebuilt (events.Step n source stop) e ∷ before) node) (sym same)
            (takes.follows setting before node followed.follows (made-by old setting prior before at node source stop e asked same listed followed taken));
        signs = subst (λ s. attests_by s setting.setup node.member) (sym scheme) followed.signs;
      };
  sends = λ setting before node followed taken.
      let own : Some at ≡ Some node = taken.named in
      let same : at ≡ node = cc in
      told-due setting before node at source stop e due sends told
      (λ whole. takes.votes setting before node followed.follows (made-by old setting prior before at node source stop e asked same listed followed taken) whole);
}

pub goes-step : (old new : Follower) (prior : List AuditEntry) (event : Event) (at : Node) (source : StepSource) (stop : Stop) (e : AuditEntry) (due : Bool)
    → event ≡ events.Step at source stop → StepsOn old new prior source stop e due → GoesOn old new prior event e due
goes-step old new prior event at source stop e due is steps = subst (λ (ev : Event). GoesOn old new prior ev e due) (sym is) (steps at)

-- ---- tests

pub not-whole : (done test other : Bool) → test ≡ done → test ≡ false → true ≡ (not done || other)
not-whole done test other is failed = sym (ap (λ b. not b || other) (sym is ∙ failed))

pub is-whole : (done test other sent : Bool) → test ≡ done → test ≡ true → sent ≡ other → sent ≡ (not done || other)
is-whole done test other sent is passed alike = alike ∙ sym (ap (λ b. not b || other) (sym is ∙ passed))

-- ---- how a node signs

pub signs-from : (config : NodeConfig) (setup : Setup) (genesis : List ℕ) (member : ℕ) (floor : Floor)
    → ((sections : List Section) → made_with config sections ≡ engine_of (setting_of setup genesis) member floor sections) → attests_by config.scheme setup member
unfolding engine_made engine_of rules_of
signs-from config setup genesis member floor made = λ setting start same.
    ap (λ (m : EngineMade). (m.voter start).rules.signs) (made [])
    ∙ ap (λ (s : Setup). wrapped_attests (kind_of s member) (keyed_attests s.key_base (Some member)) (keyed_verifies s.key_base (members_of s))) (sym same)
