-- A start appends no own vote.
use Rattle.std.proofs.Common.{◌≡◌, ℕ, ◌-◌, ◌==◌, Bool, true, false, List, [], ◌∷◌, ◌++◌, reverse, Option, Some, None, refl, ap, ◌∙◌, if◌then◌else◌}
use Rattle.std.specs.List.{filter_map, list_any}
use Rattle.std.proofs.lemmas.List.{reverse-append}
use Rattle.std.proofs.lemmas.List.Elements.{filter-append, filter_map-append}
use Rattle.simplex_values.specs.declared.plan.Channel.TheVariants as channels
use Rattle.simplex_wire.specs.declared.artifact.Artifact.{Artifact}
use Rattle.simplex_wire.specs.declared.artifact.Artifact.TheVariants as artifacts
use Rattle.simplex_types.specs.declared.floor.Floor.{Floor}
use Rattle.simplex_types.specs.declared.floor.Floor.TheVariants as floors
use Rattle.model_rules.specs.Known.{Made, view_of}
use Rattle.model_rules.specs.Calls as state
use Rattle.model_rules.specs.Calls.{prune_answer}
use Rattle.model_rules.specs.Pending.{iterated}
use Rattle.simplex_journal.specs.Journal.{Section}
use Rattle.simplex_messages.specs.declared.call.Call.{Call}
use Rattle.simplex_messages.specs.declared.call.Call.TheVariants as calls
use Rattle.simplex_messages.specs.declared.handed.Handed.TheVariants as handed
use Rattle.simplex_messages.specs.declared.resolver.MailboxMessage.TheVariants as resolver
use Rattle.simplex_messages.specs.declared.step.Stop.{Stop}
use Rattle.simplex_messages.specs.declared.step.Stop.TheVariants as stops
use Rattle.model_steps.specs.Desk.{Doing, begun, tell, make, hand, append, seek}
use Rattle.model_steps.specs.Engine.{is_whole}
use Rattle.model_steps.specs.Performed.{performed, whole}
use Rattle.model_steps.specs.Voter.{replay_all, floor_view, stand_on, is_final_from, keep_floor, update_message, blank_desk, prune_at, prune, begin_iteration, started}
use Rattle.model_steps.specs.VoterLife.{unread, start_performed}
use Rattle.law_member.specs.Learned.{appended_fact, facts_of_step}
use Rattle.law_member.proofs.Replaying.{AllPlain, all_plain}
use Rattle.model_audit.specs.Alike.{is_vote, own_votes}
use Rattle.model_audit.specs.Reading.{votes_in}
use Rattle.law_audit.proofs.Journals.{told}
use Rattle.law_audit.proofs.Following.{same_votes, whole_out}

module _ (now : ℕ) where
  abbrev Voteless : List Call → Type 0
  Voteless cs = own_votes (facts_of_step now cs) ≡ []

  -- a call behind the others, of which no own vote is known
  one_more : (cs : List Call) (c : Call) → own_votes (facts_of_step now (cs ++ c ∷ [])) ≡ own_votes (facts_of_step now (c ∷ [])) ++ own_votes (facts_of_step now cs)
  one_more cs c =
      let first = filter_map (appended_fact now) cs in
      let last = filter_map (appended_fact now) (c ∷ []) in
      ap (λ facts. own_votes (reverse facts)) (filter_map-append (appended_fact now) cs (c ∷ []))
      ∙ ap own_votes (reverse-append first last)
      ∙ filter-append is_vote (reverse last) (reverse first)

  plain_appends : (cs : List Call) → AllPlain cs → filter_map (appended_fact now) cs ≡ []
  plain_appends [] p = refl
  plain_appends (calls.Report activity ∷ cs) p = plain_appends cs p.1
  plain_appends (calls.Relay payload plan ∷ cs) p = plain_appends cs p.1
  plain_appends (calls.Block who why ∷ cs) p = plain_appends cs p.1
  plain_appends (calls.Send channels.Certificate to bytes ∷ cs) p = plain_appends cs p.1
  plain_appends (calls.Send channels.Vote to bytes ∷ cs) p = absurd p.0
  plain_appends (calls.Send channels.Resolver to bytes ∷ cs) p = absurd p.0
  plain_appends (calls.Append section artifact ∷ cs) p = absurd p.0
  plain_appends (calls.Sync section ∷ cs) p = absurd p.0
  plain_appends (calls.Prune least ∷ cs) p = absurd p.0

  plain_voteless : (cs : List Call) → AllPlain cs → Voteless cs
  plain_voteless cs p = ap (λ facts. own_votes (reverse facts)) (plain_appends cs p)

  stood_plain : (made : Made) (floor : Floor) → AllPlain (stand_on made now floor (begun blank_desk)).calls
  stood_plain made (floors.Genesis payload) = tt
  stood_plain made (floors.Finalized f) = (tt, tt)

  kept_voteless : (floor : Floor) (records : List Artifact) (d : Doing) → Voteless d.calls → Voteless (keep_floor floor records d).calls
  kept_voteless (floors.Genesis payload) records d v = v
  kept_voteless (floors.Finalized f) records d v = at (list_any (is_final_from (view_of f.proposal)) records)
    where
      appended : Call
      appended = calls.Append (view_of f.proposal) (artifacts.Finalization f)

      at : (b : Bool) → Voteless (if b then d else make (calls.Sync (view_of f.proposal)) (append (artifacts.Finalization f) d)).calls
      at true = v
      at false = one_more (d.calls ++ appended ∷ []) (calls.Sync (view_of f.proposal)) ∙ one_more d.calls appended ∙ v

  begins_voteless : (made : Made) (d : Doing) → Voteless d.calls → Voteless (begin_iteration made now d).calls
  unfolding begin_iteration prune
  begins_voteless made d v = at (seek (record d { desk = iterated made now d.desk })) v (prune_answer made (iterated made now d.desk).known)
    where
      at : (b : Doing) → Voteless b.calls → (o : Option ℕ) → Voteless (prune_at o (tell made state.Prune b)).calls
      at b k None = k
      at b k (Some least) = one_more b.calls (calls.Prune least) ∙ k

  start_voteless : (made : Made) (floor : Floor) (records : List Artifact) → Voteless (started made now floor records).calls
  unfolding started
  start_voteless made floor records =
      let read = replay_all made now (floor_view floor) (stand_on made now floor (begun blank_desk)) records in
      let replayed = hand (handed.Resolver resolver.Replayed) read in
      let kept = keep_floor floor records replayed in
      begins_voteless made (hand (update_message made kept.desk.known None) kept)
      (kept_voteless floor records replayed
      (plain_voteless read.calls (all_plain made now (floor_view floor) (stand_on made now floor (begun blank_desk)) records (stood_plain made floor))))

-- a whole start makes all of its calls
start_out : (stop : Stop) (floor : Floor) (d : Doing) (js : List Section) → is_whole (start_performed stop floor d js).outcome ≡ true → (start_performed stop floor d js).out ≡ (whole d js).out
unfolding start_performed
start_out stops.None floor d js w = whole_out d js stops.None w
start_out (stops.Cut call keep) floor d js w = whole_out d js (stops.Cut call keep) w
start_out (stops.Fail call keep) floor d js w = at (call == 1) w
  where
    at : (b : Bool) → is_whole (if b then unread floor d keep js else performed (stops.Fail (call - 1) keep) d js).outcome ≡ true
        → (if b then unread floor d keep js else performed (stops.Fail (call - 1) keep) d js).out ≡ (whole d js).out
    at true h = cc
    at false h = whole_out d js (stops.Fail (call - 1) keep) h

-- so no own vote is read of its entry
pub start_votes : (made : Made) (now : ℕ) (floor : Floor) (records : List Artifact) (stop : Stop) (js : List Section) → is_whole (start_performed stop floor (started made now floor records) js).outcome ≡ true
    → votes_in now (told (start_performed stop floor (started made now floor records) js).out.calls) ≡ []
start_votes made now floor records stop js w =
    let d = started made now floor records in
    ap (λ out. votes_in now (told out.calls)) (start_out stop floor d js w) ∙ same_votes now d.calls ∙ start_voteless now made floor records
