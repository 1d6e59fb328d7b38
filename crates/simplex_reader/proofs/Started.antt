-- What is known behind a start.
use Rattle.std.proofs.Common.{◌≡◌, ℕ, Bool, true, false, nat_lt, List, [], ◌∷◌, ◌++◌, Option, Some, None, refl, sym, subst, if◌then◌else◌}
use Rattle.std.specs.List.{list_any}
use Rattle.simplex_wire.specs.declared.artifact.Artifact.{Artifact}
use Rattle.simplex_wire.specs.declared.artifact.Artifact.TheVariants as artifacts
use Rattle.simplex_wire.specs.declared.certificate.Finalization.{Finalization}
use Rattle.simplex_wire.specs.Fields.{artifact_round}
use Rattle.simplex_types.specs.declared.floor.Floor.{Floor}
use Rattle.simplex_types.specs.declared.floor.Floor.TheVariants as floors
use Rattle.simplex_messages.specs.declared.handed.Handed.TheVariants as handed
use Rattle.simplex_messages.specs.declared.resolver.MailboxMessage.TheVariants as resolver
use Rattle.model_rules.specs.Known.{Made, Fact, view_of}
use Rattle.model_rules.specs.Calls as state
use Rattle.model_rules.specs.Calls.{facts_of, floor_facts, prune_answer}
use Rattle.model_rules.specs.Pending.{iterated}
use Rattle.model_steps.specs.Desk.{Doing, begun, tell, hand, append, seek}
use Rattle.model_steps.specs.Voter.{sync, replay_record, replay_all, floor_view, stand_on, is_final_from, keep_floor, update_message, blank_desk, prune_at, prune, begin_iteration, started}
use Rattle.model_run.specs.Members.{floor_of}
use Rattle.law_member.proofs.Quiet.{Same, same_then, told_quiet, iterated_same}
use Rattle.law_member.proofs.Replaying.{record_known}
use Rattle.model_audit.specs.Alike.{AreAlike}
use Rattle.simplex_known.specs.declared.known.Known.{Known}
use Rattle.simplex_known.specs.declared.rules.Rules.{Rules}
use Rattle.simplex_known.specs.Knows.{Knows, AreRulesOf, Relearns}
use Rattle.simplex_known.proofs.Apart.{floor_kept}
use Rattle.simplex_reader.specs.declared.sections.RuledPrune.{RuledPrune}
use Rattle.simplex_reader.specs.Failing.{ArePrunedBy}
use Rattle.simplex_reader.specs.Starting.{Stands, ReplaysOne, Replays, Starts, replay_above}
use Rattle.simplex_reader.proofs.Alike.{knows_alike, alike_same}

-- ---- but for what no vote rests on, all is known once the records are

pruned_known : (o : Option ℕ) (d : Doing) → (prune_at o d).desk.known ≡ d.desk.known
pruned_known None d = refl
pruned_known (Some least) d = refl

pub begins_same : (made : Made) (now : ℕ) (d : Doing) → Same d.desk.known (begin_iteration made now d).desk.known
unfolding begin_iteration prune
begins_same made now d =
    let asked = seek (record d { desk = iterated made now d.desk }) in
    let told = tell made state.Prune asked in
    subst (Same d.desk.known) (sym (pruned_known (prune_answer made asked.desk.known) told))
    (same_then d.desk.known asked.desk.known told.desk.known (iterated_same made now d.desk) (told_quiet made asked.desk.known state.Prune tt))

kept_known : (floor : Floor) (records : List Artifact) (d : Doing) → (keep_floor floor records d).desk.known ≡ d.desk.known
kept_known (floors.Genesis payload) records d = refl
kept_known (floors.Finalized f) records d = at (list_any (is_final_from (view_of f.proposal)) records)
  where
    at : (b : Bool) → (if b then d else sync (view_of f.proposal) (append (artifacts.Finalization f) d)).desk.known ≡ d.desk.known
    at true = refl
    at false = refl

pub started_alike : (made : Made) (now : ℕ) (floor : Floor) (records : List Artifact)
    → AreAlike (replay_all made now (floor_view floor) (stand_on made now floor (begun blank_desk)) records).desk.known (started made now floor records).desk.known
unfolding started
started_alike made now floor records =
    let standing = replay_all made now (floor_view floor) (stand_on made now floor (begun blank_desk)) records in
    let replayed = hand (handed.Resolver resolver.Replayed) standing in
    let kept = keep_floor floor records replayed in
    let last = hand (update_message made kept.desk.known None) kept in
    subst (λ (facts : List Fact). AreAlike facts (begin_iteration made now last).desk.known) (kept_known floor records replayed)
    (alike_same last.desk.known (begin_iteration made now last).desk.known (begins_same made now last))

-- ---- the floor

stood_known : (made : Made) (now : ℕ) (floor : Floor) → (stand_on made now floor (begun blank_desk)).desk.known ≡ floor_facts floor now ++ []
unfolding facts_of
stood_known made now (floors.Genesis payload) = refl
stood_known made now (floors.Finalized f) = refl

pub stands_on_genesis : (kept : Known) → Stands kept kept None
stands_on_genesis kept made known genesis now k = floor_kept kept made known 0 genesis k

-- ---- the records

pub replays_none : (kept : Known) (floor : ℕ) → Replays kept kept floor []
unfolding replay_all
replays_none kept floor made now d k = k

replay_push : (made : Made) (now floor : ℕ) (d : Doing) (xs : List Artifact) (x : Artifact)
    → replay_above made now floor (replay_all made now floor d xs) x ≡ replay_all made now floor d (xs ++ x ∷ [])
unfolding replay_all
replay_push made now floor d [] x = refl
replay_push made now floor d (y ∷ ys) x = replay_push made now floor (replay_above made now floor d y) ys x

pub replays_more : (old mid new : Known) (floor : ℕ) (xs : List Artifact) (x : Artifact) → Replays old mid floor xs → ReplaysOne mid new floor x
    → Replays old new floor (xs ++ x ∷ [])
replays_more old mid new floor xs x before one made now d k =
    subst (λ (doing : Doing). Knows new made doing.desk.known) (replay_push made now floor d xs x) (one made now (replay_all made now floor d xs) (before made now d k))

pub replays_below : (kept : Known) (floor : ℕ) (x : Artifact) → nat_lt floor (artifact_round x).view ≡ false → ReplaysOne kept kept floor x
replays_below kept floor x e made now d k =
    subst (λ b. Knows kept made (if b then replay_record made now d x else d).desk.known) (sym e) k

pub replays_above : (old new : Known) (floor : ℕ) (x : Artifact) → nat_lt floor (artifact_round x).view ≡ true → Relearns old new x → ReplaysOne old new floor x
replays_above old new floor x e learns made now d k =
    subst (λ b. Knows new made (if b then replay_record made now d x else d).desk.known) (sym e)
    (subst (Knows new made) (sym (record_known made now d x)) (learns made d.desk.known now k))

-- ---- a start

pub starts : (blank stood known : Known) (rules : Rules) (floor : Option Finalization) (view : ℕ) (records : List Artifact)
    → ((made : Made) → AreRulesOf made rules → Knows blank made [])
    → Stands blank stood floor
    → ((genesis : List ℕ) → view ≡ floor_view (floor_of genesis floor))
    → Replays stood known view records
    → Starts known rules floor records
starts blank stood known rules floor view records nothing stands is replays made genesis now own =
    let at = floor_of genesis floor in
    let first = stand_on made now at (begun blank_desk) in
    knows_alike _ _ (started_alike made now at records) known made
    (subst (λ v. Knows known made (replay_all made now v first records).desk.known) (is genesis)
    (replays made now first
    (subst (Knows stood made) (sym (stood_known made now at)) (stands made [] genesis now (nothing made own)))))

-- ---- over the same records

pub starts_same : (known : Known) (rules : Rules) (floor : Option Finalization) (given records : List Artifact) → given ≡ records → Starts known rules floor given → Starts known rules floor records
starts_same known rules floor given records e before = subst (Starts known rules floor) e before

pub pruned_same : (known : Known) (floor : Option Finalization) (given records : List Artifact) (prune : Option RuledPrune) → given ≡ records
    → ((made : Made) (genesis : List ℕ) (now : ℕ) → Knows known made (started made now (floor_of genesis floor) given).desk.known → ArePrunedBy (started made now (floor_of genesis floor) given).calls prune)
    → (made : Made) (genesis : List ℕ) (now : ℕ) → Knows known made (started made now (floor_of genesis floor) records).desk.known → ArePrunedBy (started made now (floor_of genesis floor) records).calls prune
pruned_same known floor given records prune e given_so made genesis now =
    subst (λ (rs : List Artifact). Knows known made (started made now (floor_of genesis floor) rs).desk.known → ArePrunedBy (started made now (floor_of genesis floor) rs).calls prune) e
    (given_so made genesis now)
