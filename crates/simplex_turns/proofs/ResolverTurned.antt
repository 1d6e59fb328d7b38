-- A resolver's turn, and turns one after another.
use Rattle.std.proofs.Common.{◌≡◌, ℕ, ◌+◌, Bool, true, false, List, [], ◌∷◌, ◌++◌, Option, Some, None, length, map, if◌then◌else◌, refl, sym, ap, ◌∙◌, subst, arith, length-append, append_assoc, append-nil}
use Rattle.std.specs.Prelude.{◌==◌, ◌&&◌, not}
use Rattle.std.specs.List.{filter_map}
use Rattle.std.proofs.lemmas.List.{map-append}
use Rattle.simplex_wire.specs.declared.scheme.Scheme as scheme
use Rattle.simplex_mailbox.specs.Waiting.{front, is_clear}
use Rattle.simplex_messages.specs.declared.resolver.MailboxMessage.{MailboxMessage}
use Rattle.simplex_messages.specs.declared.resolver.HandlerMessage.{HandlerMessage}
use Rattle.simplex_messages.specs.declared.resolver.ResolverInput.{ResolverInput}
use Rattle.simplex_messages.specs.declared.resolver.ResolverInput.TheVariants as inputs
use Rattle.simplex_messages.specs.declared.step.StepOut.{StepOut}
use Rattle.simplex_messages.specs.Handing.{for_voter}
use Rattle.simplex_messages.specs.Step.{no_out}
use Rattle.simplex_shared.specs.declared.op.Op.TheVariants.{Took}
use Rattle.simplex_shared.specs.Passes.{calls_of}
use Rattle.model_resolver.specs.Resolver.{Made, Given, Stepped, HandlerTaken, step_out, handler_message, holds_handled, deadline_after, blocked_after, standing_after}
use Rattle.model_resolver.specs.Views.{is_reached}
use Rattle.simplex_resolver.specs.Stands.{StandsFor, Takes, Answers}
use Rattle.simplex_turns.specs.declared.feed.Delivery.{Delivery}
use Rattle.simplex_turns.specs.declared.resolver.ResolverThread.{ResolverThread}
use Rattle.simplex_turns.specs.Handing.{PutsBehind, handed_on}
use Rattle.simplex_turns.specs.Resolving.{ResolverPlace, resolver_input, resolver_step, resolver_turn}
use Rattle.simplex_turns.specs.Threads.{ResolverIsAt, IsSameResolver, ResolverTurns, ResolverRuns}
use Rattle.simplex_turns.proofs.Turning.{gives-nothing, gives-more}
use Rattle.simplex_turns.proofs.Handed.{puts-nothing, puts-then, same-still, handed_on-behind, handed_on-nothing}

-- ---- what a turn finds

not-false : (b : Bool) → not b ≡ false → b ≡ true
not-false true e = refl
not-false false e = cc

nothing-in : {M : Type 0} (ready : List M) (clear : Bool) → (length ready == 0 && clear) ≡ true → None ≡ front ready
nothing-in [] clear e = refl
nothing-in (message ∷ ready) clear e = grind arith

-- a handler's mailbox that holds nothing gives nothing
pub nothing-handled : (made : Made) (past : List Given) (test : Bool) → test ≡ false → test ≡ holds_handled made past → None ≡ handler_message made past
unfolding holds_handled handler_message
nothing-handled made past test e f =
    let mail = (standing_after made past).handler in
    nothing-in mail.ready (is_clear mail.waiting) (not-false _ (sym f ∙ e))

module _ (made : Made) (now : ℕ) (place : ResolverPlace) where
  pub found-mail : (message : MailboxMessage) → resolver_turn made now place (Some message) ≡ resolver_step made now place (Some (inputs.Mail message))
  unfolding resolver_turn
  found-mail message = refl

  pub found-handler : (message : HandlerMessage) → Some message ≡ handler_message made place.past
      → resolver_turn made now place None ≡ resolver_step made now (record place { past = HandlerTaken ∷ place.past }) (Some (inputs.Handler message))
  unfolding resolver_turn
  found-handler message took = rw (sym took) refl

  pub found-delivery : (delivery : Delivery) (rest : List Delivery) (input : Option ResolverInput) → None ≡ handler_message made place.past → place.feed ≡ delivery ∷ rest
      → input ≡ resolver_input (blocked_after made place.past) delivery
      → resolver_turn made now place None ≡ resolver_step made now (record { past = place.past; feed = rest }) input
  unfolding resolver_turn
  found-delivery delivery rest input none feed is = rw (sym none, feed, is) refl

  pub found-deadline : (input : Option ResolverInput) → None ≡ handler_message made place.past → place.feed ≡ []
      → input ≡ (if is_reached now (deadline_after made place.past) then Some inputs.Timer else None)
      → resolver_turn made now place None ≡ resolver_step made now (record { past = place.past; feed = [] }) input
  unfolding resolver_turn
  found-deadline input none feed is = rw (sym none, feed, is) refl

-- ---- a turn

module _ {S : Type 0} {s : scheme.Ghosts S} where
  -- nothing was found
  pub turned-idle : (new : ResolverThread S s) (made : Made) (at_clock now : ℕ) (place there : ResolverPlace) (taken : Option MailboxMessage) (out : StepOut)
      → at_clock ≡ now → resolver_turn made at_clock place taken ≡ resolver_step made at_clock there None → ResolverIsAt new made there → out ≡ no_out
      → (out ≡ (resolver_turn made now place taken).1) × ResolverIsAt new made (resolver_turn made now place taken).0
  turned-idle new made at_clock now place there taken out clock turn at empty =
      subst (λ t. (out ≡ (resolver_turn made t place taken).1) × ResolverIsAt new made (resolver_turn made t place taken).0) clock (
        empty ∙ sym (ap (λ did. did.1) turn),
        subst (λ p. ResolverIsAt new made p) (sym (ap (λ did. did.0) turn)) at,
      )

  -- a step was made on what was found
  pub turned-step : (mid new : ResolverThread S s) (made : Made) (at_clock now : ℕ) (place there : ResolverPlace) (taken : Option MailboxMessage) (input : ResolverInput) (out : StepOut)
      → at_clock ≡ now → mid.now ≡ at_clock → resolver_turn made at_clock place taken ≡ resolver_step made at_clock there (Some input) → ResolverIsAt mid made there
      → new.feed.items ≡ mid.feed.items
      → Takes mid.actor new.actor (Stepped input mid.now)
      → Answers mid.actor (λ made past. step_out made past input mid.now) out
      → (out ≡ (resolver_turn made now place taken).1) × ResolverIsAt new made (resolver_turn made now place taken).0
  turned-step mid new made at_clock now place there taken input out clock here turn at rest takes answers =
      subst (λ t. (out ≡ (resolver_turn made t place taken).1) × ResolverIsAt new made (resolver_turn made t place taken).0) clock (
        answers made there.past at.stands ∙ ap (λ t. step_out made there.past input t) here ∙ sym (ap (λ did. did.1) turn),
        subst (λ p. ResolverIsAt new made p) (sym (ap (λ did. did.0) turn))
            (record { stands = subst (λ t. StandsFor new.actor made (Stepped input t ∷ there.past)) here (takes made there.past at.stands); feed = rest ∙ at.feed }),
      )

  -- ---- turns

  pub same-resolver : (old mid new : ResolverThread S s) → IsSameResolver old mid → IsSameResolver mid new → IsSameResolver old new
  same-resolver old mid new p q = record {
    own = same-still old.own mid.own new.own p.own q.own;
    voter = same-still old.voter mid.voter new.voter p.voter q.voter;
    now = q.now ∙ p.now;
  }

  -- no turns
  pub runs-nothing : (old : ResolverThread S s) → ResolverRuns old old 0 []
  runs-nothing old = record {
    taken = [];
    count = refl;
    took = sym (append-nil (calls_of old.own));
    put = subst (λ l. PutsBehind l (calls_of old.voter) (calls_of old.voter)) (sym (handed_on-nothing for_voter)) (puts-nothing (calls_of old.voter));
    gives = λ made. gives-nothing (resolver_turn made old.now) (λ thread place. ResolverIsAt thread made place) old;
  }

  -- one turn more
  pub runs-more : (old mid new : ResolverThread S s) (turns : ℕ) (outs : List StepOut) (out : StepOut)
      → IsSameResolver old mid → ResolverRuns old mid turns outs → ResolverTurns mid new out → ResolverRuns old new (turns + 1) (outs ++ out ∷ [])
  runs-more old mid new turns outs out same runs turned =
      let taken = runs.taken in
      let last = turned.taken in
      let number = ap (λ n. Took n last ∷ []) same.own.1 in
      let before = calls_of old.own in
      let list = map (Took old.own.number) taken in
      let count = runs.count in
      record {
        taken = taken ++ last ∷ [];
        count = omega (arith, count, length-append taken (last ∷ []));
        took = turned.took ∙ ap (λ l. l ++ Took mid.own.number last ∷ []) runs.took ∙ ap (λ l. (before ++ list) ++ l) number
            ∙ append_assoc before list (Took old.own.number last ∷ []) ∙ ap (λ l. before ++ l) (sym (map-append (Took old.own.number) taken (last ∷ [])));
        put = subst (λ l. PutsBehind l (calls_of old.voter) (calls_of new.voter)) (sym (handed_on-behind for_voter outs out))
            (puts-then (handed_on for_voter outs) (filter_map for_voter out.handed) (calls_of old.voter) (calls_of mid.voter) (calls_of new.voter) runs.put turned.put);
        gives = λ made. gives-more (resolver_turn made old.now) (λ thread place. ResolverIsAt thread made place) old mid new taken last outs out (runs.gives made)
            (λ place at. subst (λ now. (out ≡ (resolver_turn made now place last).1) × ResolverIsAt new made (resolver_turn made now place last).0) same.now (turned.gives made place at));
      }
