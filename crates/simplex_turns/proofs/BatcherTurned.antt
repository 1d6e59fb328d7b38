-- A batcher's turn, and turns one after another.
use Rattle.std.proofs.Common.{◌≡◌, ℕ, ◌+◌, List, [], ◌∷◌, ◌++◌, Option, Some, None, drop, map, MatchOption, if◌then◌else◌, refl, sym, ap, ◌∙◌, subst, arith, length-append, append_assoc, append-nil}
use Rattle.std.specs.Option.{option_and_then}
use Rattle.std.specs.List.{filter_map}
use Rattle.std.specs.BTreeSet.{BTreeSet}
use Rattle.std.proofs.lemmas.List.{map-append}
use Rattle.simplex_wire.specs.declared.scheme.Scheme as scheme
use Rattle.simplex_mailbox.specs.Waiting.{front}
use Rattle.simplex_messages.specs.declared.batcher.Message.{Message}
use Rattle.simplex_messages.specs.declared.batcher.BatcherInput.{BatcherInput}
use Rattle.simplex_messages.specs.declared.batcher.BatcherInput.TheVariants as inputs
use Rattle.simplex_messages.specs.declared.step.StepOut.{StepOut}
use Rattle.simplex_messages.specs.Handing.{for_voter}
use Rattle.simplex_messages.specs.Step.{no_out, blocked_by_calls}
use Rattle.simplex_shared.specs.declared.op.Op.TheVariants.{Took}
use Rattle.simplex_shared.specs.Passes.{calls_of}
use Rattle.model_resolver.specs.Asks.{holds_member}
use Rattle.model_steps.specs.Batcher.{Made, Timed, step_out}
use Rattle.simplex_batcher.specs.declared.actor.Actor.{Actor}
use Rattle.simplex_batcher.specs.Stands.{StandsFor, Takes, Answers}
use Rattle.simplex_turns.specs.declared.feed.Delivery.{Delivery}
use Rattle.simplex_turns.specs.declared.batcher.BatcherThread.{BatcherThread}
use Rattle.simplex_turns.specs.Handing.{PutsBehind, handed_on}
use Rattle.simplex_turns.specs.Batching.{BatcherPlace, batcher_input, heard_on, batcher_step, batcher_turn}
use Rattle.simplex_turns.specs.Threads.{BatcherIsAt, IsSameBatcher, BatcherTurns, BatcherRuns}
use Rattle.simplex_turns.proofs.Blocked.{IsSameSet, same-more}
use Rattle.simplex_turns.proofs.Turning.{gives-nothing, gives-more}
use Rattle.simplex_turns.proofs.Handed.{puts-nothing, puts-then, same-still, handed_on-behind, handed_on-nothing}

-- what was found, and what of the feed is left
abbrev pub Found : List ℕ → List Delivery → Option Message → Option BatcherInput → List Delivery → Type 0
Found blocked feed taken input left =
    MatchOption taken ((input ≡ option_and_then (batcher_input blocked) (front feed)) × (left ≡ drop 1 feed))
    (λ message. (input ≡ Some (inputs.Mail message)) × (left ≡ feed))

-- of the blocked it matters alone who they are
same-input : (kept blocked : List ℕ) → IsSameSet kept blocked → (packet : Option Delivery) → option_and_then (batcher_input kept) packet ≡ option_and_then (batcher_input blocked) packet
same-input kept blocked same None = refl
same-input kept blocked same (Some delivery) = ap (λ b. if b then None else heard_on delivery.channel delivery.sender delivery.bytes) (same delivery.sender)

found-as : (kept blocked : List ℕ) → IsSameSet kept blocked → (feed : List Delivery) (taken : Option Message) (input : Option BatcherInput) (left : List Delivery)
    → Found kept feed taken input left → Found blocked feed taken input left
found-as kept blocked same feed None input left found = (found.0 ∙ same-input kept blocked same (front feed), found.1)
found-as kept blocked same feed (Some message) input left found = found

-- a turn is a step on what was found
pub found-turn : (made : Made) (now : ℕ) (place : BatcherPlace) (taken : Option Message) (input : Option BatcherInput) (left : List Delivery)
    → Found place.blocked place.feed taken input left
    → batcher_turn made now place taken ≡ batcher_step made now (record place { feed = left }) input
unfolding batcher_turn
found-turn made now place None input left found = rw (found.0, found.1) refl
found-turn made now place (Some message) input left found = rw (found.0, found.1) refl

module _ {S : Type 0} {s : scheme.Ghosts S} where
  -- what the thread found is found at its place
  found-at : (old : BatcherThread S s) (taken : Option Message) (input : Option BatcherInput) (left : List Delivery) → Found old.blocked.keys old.feed.items taken input left
      → (made : Made) (place : BatcherPlace) → BatcherIsAt old made place → Found place.blocked place.feed taken input left
  found-at old taken input left found made place at =
      found-as old.blocked.keys place.blocked at.blocked place.feed taken input left (subst (λ feed. Found old.blocked.keys feed taken input left) at.feed found)

  -- nothing was found
  pub turned-idle : (old new : BatcherThread S s) (taken : Option Message) (left : List Delivery) (out : StepOut)
      → Found old.blocked.keys old.feed.items taken None left → new.feed.items ≡ left → new.actor ≡ old.actor → new.blocked ≡ old.blocked → out ≡ no_out
      → (made : Made) (place : BatcherPlace) → BatcherIsAt old made place
      → (out ≡ (batcher_turn made old.now place taken).1) × BatcherIsAt new made (batcher_turn made old.now place taken).0
  turned-idle old new taken left out found rest actor kept empty = λ made place at.
      let turn = found-turn made old.now place taken None left (found-at old taken None left found made place at) in (
        empty ∙ sym (ap (λ did. did.1) turn),
        subst (λ there. BatcherIsAt new made there) (sym (ap (λ did. did.0) turn)) (record {
          stands = subst (λ a. StandsFor a made place.past) (sym actor) at.stands;
          feed = rest;
          blocked = λ member. ap (λ (set : BTreeSet ℕ). holds_member set.keys member) kept ∙ at.blocked member;
        }),
      )

  -- a step was made on what was found
  pub turned-step : (old new : BatcherThread S s) (actor : Actor S s) (now : ℕ) (blocked : BTreeSet ℕ) (taken : Option Message) (input : BatcherInput) (left : List Delivery) (out : StepOut)
      → Found old.blocked.keys old.feed.items taken (Some input) left → new.feed.items ≡ left → actor ≡ old.actor → now ≡ old.now → blocked ≡ old.blocked
      → Takes actor new.actor (record { input = input; now = now })
      → Answers actor (λ made past. step_out made past (record { input = input; now = now })) out
      → IsSameSet new.blocked.keys (blocked_by_calls out.calls ++ blocked.keys)
      → (made : Made) (place : BatcherPlace) → BatcherIsAt old made place
      → (out ≡ (batcher_turn made old.now place taken).1) × BatcherIsAt new made (batcher_turn made old.now place taken).0
  turned-step old new actor now blocked taken input left out found rest same clock kept takes answers noted = λ made place at.
      let turn = found-turn made old.now place taken (Some input) left (found-at old taken (Some input) left found made place at) in
      let stood : StandsFor actor made place.past = subst (λ a. StandsFor a made place.past) (sym same) at.stands in
      let timed : ℕ → Timed = λ at_clock. record { input = input; now = at_clock } in
      let gave : out ≡ step_out made place.past (timed old.now) = answers made place.past stood ∙ ap (λ t. step_out made place.past (timed t)) clock in
      let before : IsSameSet blocked.keys place.blocked = λ member. ap (λ (set : BTreeSet ℕ). holds_member set.keys member) kept ∙ at.blocked member in (
        gave ∙ sym (ap (λ did. did.1) turn),
        subst (λ there. BatcherIsAt new made there) (sym (ap (λ did. did.0) turn)) (record {
          stands = subst (λ t. StandsFor new.actor made (timed t ∷ place.past)) clock (takes made place.past stood);
          feed = rest;
          blocked = λ member.
              noted member ∙ same-more (blocked_by_calls out.calls) blocked.keys place.blocked before member
              ∙ ap (λ (o : StepOut). holds_member (blocked_by_calls o.calls ++ place.blocked) member) gave;
        }),
      )

  pub same-batcher : (old mid new : BatcherThread S s) → IsSameBatcher old mid → IsSameBatcher mid new → IsSameBatcher old new
  same-batcher old mid new p q = record {
    own = same-still old.own mid.own new.own p.own q.own;
    voter = same-still old.voter mid.voter new.voter p.voter q.voter;
    now = q.now ∙ p.now;
  }

  -- no turns
  pub runs-nothing : (old : BatcherThread S s) → BatcherRuns old old 0 []
  runs-nothing old = record {
    taken = [];
    count = refl;
    took = sym (append-nil (calls_of old.own));
    put = subst (λ l. PutsBehind l (calls_of old.voter) (calls_of old.voter)) (sym (handed_on-nothing for_voter)) (puts-nothing (calls_of old.voter));
    gives = λ made. gives-nothing (batcher_turn made old.now) (λ thread place. BatcherIsAt thread made place) old;
  }

  -- one turn more
  pub runs-more : (old mid new : BatcherThread S s) (turns : ℕ) (outs : List StepOut) (out : StepOut)
      → IsSameBatcher old mid → BatcherRuns old mid turns outs → BatcherTurns mid new out → BatcherRuns old new (turns + 1) (outs ++ out ∷ [])
  runs-more old mid new turns outs out same runs turned =
      let taken = runs.taken in
      let last = turned.taken in
      let number = ap (λ n. Took n last ∷ []) same.own.1 in
      let before = calls_of old.own in
      let list = map (Took old.own.number) taken in
      let count = runs.count in
      record {
        taken = taken ++ last ∷ [];
        count = omega (arith, count, length-append taken (last ∷ []));
        took = turned.took ∙ ap (λ l. l ++ Took mid.own.number last ∷ []) runs.took ∙ ap (λ l. (before ++ list) ++ l) number
            ∙ append_assoc before list (Took old.own.number last ∷ []) ∙ ap (λ l. before ++ l) (sym (map-append (Took old.own.number) taken (last ∷ [])));
        put = subst (λ l. PutsBehind l (calls_of old.voter) (calls_of new.voter)) (sym (handed_on-behind for_voter outs out))
            (puts-then (handed_on for_voter outs) (filter_map for_voter out.handed) (calls_of old.voter) (calls_of mid.voter) (calls_of new.voter) runs.put turned.put);
        gives = λ made. gives-more (batcher_turn made old.now) (λ thread place. BatcherIsAt thread made place) old mid new taken last outs out (runs.gives made)
            (λ place at. subst (λ now. (out ≡ (batcher_turn made now place last).1) × BatcherIsAt new made (batcher_turn made now place last).0) same.now (turned.gives made place at));
      }
