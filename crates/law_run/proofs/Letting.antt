-- A packet is refused or let in; and of what an engine took what its actors were given.
use Rattle.std.proofs.Common.{◌≡◌, ℕ, Bool, true, false, List, [], ◌∷◌, ◌++◌, map, Option, Some, None, refl, sym, ap, ◌∙◌, append-nil, subst, arith, if◌then◌else◌}
use mathlib.Core.List.{reverse_aux}
use Rattle.std.specs.List.{filter_map}
use Rattle.std.specs.Option.{option_map}
use Rattle.std.proofs.lemmas.Grind.{common_steps}
use Rattle.simplex_values.specs.declared.plan.Channel.{Channel}
use Rattle.simplex_values.specs.declared.plan.Channel.TheVariants as channels
use Rattle.simplex_messages.specs.declared.batcher.BatcherInput.{BatcherInput}
use Rattle.simplex_messages.specs.declared.call.Call.{Call}
use Rattle.simplex_messages.specs.declared.step.Outcome.{Outcome}
use Rattle.simplex_messages.specs.declared.step.Outcome.TheVariants as outcomes
use Rattle.simplex_messages.specs.declared.step.Stop.{Stop}
use Rattle.simplex_messages.specs.Step.{no_out, blocked_by_calls}
use Rattle.simplex_transcript.specs.declared.event.StepSource.TheVariants as sources
use Rattle.model_resolver.specs.Resolver as resolver
use Rattle.model_steps.specs.Batcher as batcher
use Rattle.model_steps.specs.Engine as engine
use Rattle.model_steps.specs.Engine.{EngineMade, Taken, Did, Heard, if_let_in, given_to_batcher, input_of_batcher, batcher_past, is_blocked}
use Rattle.law_run.specs.Sayings.{Each}

-- what holds of a packet that is refused and of one that is let in holds of each that is heard
pub heard_either : (P : Did → Type 0) (made : EngineMade) (past : List Did) (sender : ℕ) (channel : Channel) (bytes : List ℕ) (now : ℕ)
    → P (engine.refused sender channel bytes now) → P (engine.let_in made past sender channel bytes now) → P (engine.heard made past sender channel bytes now)
unfolding engine.heard
heard_either P made past sender channel bytes now r l = at (is_blocked past sender)
  where
    at : (b : Bool) → P (if b then engine.refused sender channel bytes now else engine.let_in made past sender channel bytes now)
    at true = r
    at false = l

-- none of them is a start
let_in_no_start : (made : EngineMade) (past : List Did) (sender : ℕ) (channel : Channel) (bytes : List ℕ) (now : ℕ) → engine.is_start (engine.let_in made past sender channel bytes now).taken ≡ false
unfolding engine.let_in engine.by_batcher engine.by_resolver
let_in_no_start made past sender channels.Vote bytes now = refl
let_in_no_start made past sender channels.Certificate bytes now = refl
let_in_no_start made past sender channels.Resolver bytes now = refl

pub heard_no_start : (made : EngineMade) (past : List Did) (sender : ℕ) (channel : Channel) (bytes : List ℕ) (now : ℕ) → engine.is_start (engine.heard made past sender channel bytes now).taken ≡ false
heard_no_start made past sender channel bytes now =
    heard_either (λ did. engine.is_start did.taken ≡ false) made past sender channel bytes now refl (let_in_no_start made past sender channel bytes now)

-- ---- the batcher

let_in_given : {A : Type 0} (taken : Taken) (outcome : Outcome) (o : Option A) (a : A) → if_let_in taken outcome o ≡ Some a → o ≡ Some a
let_in_given (Heard sender channel bytes) outcomes.Done o a e = e
let_in_given (Heard sender channel bytes) outcomes.Idle o a e = e
let_in_given (Heard sender channel bytes) outcomes.Journal o a e = e
let_in_given (Heard sender channel bytes) outcomes.Cut o a e = e
let_in_given (Heard sender channel bytes) outcomes.Refused o a e = cc
let_in_given engine.Began outcome o a e = e
let_in_given (engine.Took source message) outcome o a e = e
let_in_given (engine.Replied number answer) outcome o a e = e

-- what the batcher was given is an input of what was taken
pub given_input : (did : Did) (given : batcher.Timed) → given_to_batcher did ≡ Some given → input_of_batcher did.taken ≡ Some given.input
given_input did given e =
    input_is (input_of_batcher did.taken) (let_in_given did.taken did.outcome (option_map (λ input. record { input = input; now = did.now }) (input_of_batcher did.taken)) given e)
  where
    input_is : (o : Option BatcherInput) → option_map (λ (input : BatcherInput). let t : batcher.Timed = record { input = input; now = did.now } in t) o ≡ Some given → o ≡ Some given.input
    input_is None h = cc
    input_is (Some input) h = cc

-- what holds of all that it was given with each item holds of all that it was given
pub each_given : (P : batcher.Timed → Type 0) (did : Did) (past : List Did) → ((given : batcher.Timed) → given_to_batcher did ≡ Some given → P given)
    → Each P (batcher_past past) → Each P (batcher_past (did ∷ past))
unfolding batcher_past
each_given P did past f rest = at (given_to_batcher did) refl
  where
    at : (o : Option batcher.Timed) → given_to_batcher did ≡ o → Each P (filter_map given_to_batcher (did ∷ past))
    at None e = (let same : filter_map given_to_batcher (did ∷ past) ≡ filter_map given_to_batcher past = grind (arith, common_steps, e) in subst (Each P) (sym same) rest)
    at (Some given) e =
        (let more : filter_map given_to_batcher (did ∷ past) ≡ given ∷ filter_map given_to_batcher past = grind (arith, common_steps, e) in subst (Each P) (sym more) (f given e, rest))

-- ---- the resolver

pub held_given : (P : resolver.Given → Type 0) (o : Outcome) (given : List resolver.Given) → Each P given → Each P (engine.if_held o given)
held_given P outcomes.Done given h = h
held_given P outcomes.Idle given h = tt
held_given P outcomes.Cut given h = h
held_given P outcomes.Journal given h = h
held_given P outcomes.Refused given h = tt

none_held : (o : Outcome) → engine.if_held o [] ≡ []
none_held outcomes.Done = refl
none_held outcomes.Idle = refl
none_held outcomes.Cut = refl
none_held outcomes.Journal = refl
none_held outcomes.Refused = refl

-- of what it does not take itself the resolver is told the blocks alone
pub told_is : (did : Did) → engine.is_of_resolver did.taken ≡ false → engine.given_to_resolver did ≡ engine.blocked_told did.out.calls
told_is did e = at did.taken e
  where
    alone : (made : List Call) (o : Outcome) → engine.blocked_told made ++ engine.if_held o [] ≡ engine.blocked_told made
    alone made o = ap (λ xs. engine.blocked_told made ++ xs) (none_held o) ∙ append-nil (engine.blocked_told made)

    at : (taken : Taken) → engine.is_of_resolver taken ≡ false → engine.given_to_resolver (engine.did_of taken did.now did.stop did.outcome did.out) ≡ engine.blocked_told did.out.calls
    at engine.Began h = alone did.out.calls did.outcome
    at (Heard sender channels.Vote bytes) h = alone did.out.calls did.outcome
    at (Heard sender channels.Certificate bytes) h = alone did.out.calls did.outcome
    at (Heard sender channels.Resolver bytes) h = cc
    at (engine.Took sources.Batcher message) h = alone did.out.calls did.outcome
    at (engine.Took sources.Voter message) h = alone did.out.calls did.outcome
    at (engine.Took sources.Timer message) h = alone did.out.calls did.outcome
    at (engine.Took sources.Propose message) h = alone did.out.calls did.outcome
    at (engine.Took sources.Verify message) h = alone did.out.calls did.outcome
    at (engine.Took sources.Certify message) h = alone did.out.calls did.outcome
    at (engine.Took sources.Resolver message) h = cc
    at (engine.Took sources.Handler message) h = cc
    at (engine.Took sources.Fetch message) h = cc
    at (engine.Replied number answer) h = alone did.out.calls did.outcome

module _ (P : resolver.Given → Type 0) (each : (member : ℕ) → P (resolver.Blocked member)) where
  turned : (xs ys : List resolver.Given) → Each P xs → Each P ys → Each P (reverse_aux xs ys)
  turned [] ys h k = k
  turned (x ∷ xs) ys h k = turned xs (x ∷ ys) h.1 (h.0, k)

  named : (members : List ℕ) → Each P (map (λ member. resolver.Blocked member) members)
  named [] = tt
  named (member ∷ members) = (each member, named members)

  pub told : (made : List Call) → Each P (engine.blocked_told made)
  told made = turned (map (λ member. resolver.Blocked member) (blocked_by_calls made)) [] (named (blocked_by_calls made)) tt

  -- of what it does not take itself the resolver is told the blocks
  pub told_alone : (did : Did) → engine.is_of_resolver did.taken ≡ false → Each P (engine.given_to_resolver did)
  told_alone did e = subst (Each P) (sym (told_is did e)) (told did.out.calls)

-- nothing was given to the resolver where nothing was held and where a packet was refused
pub nothing_given : (taken : Taken) (now : ℕ) (stop : Stop)
    → (engine.given_to_resolver (engine.did_of taken now stop outcomes.Idle no_out) ≡ []) × (engine.given_to_resolver (engine.did_of taken now stop outcomes.Refused no_out) ≡ [])
nothing_given taken now stop = at (engine.is_of_resolver taken)
  where
    at : (b : Bool) → (((if b then [] else engine.blocked_told []) ++ []) ≡ []) × (((if b then [] else engine.blocked_told []) ++ []) ≡ [])
    at true = (refl, refl)
    at false = (refl, refl)
