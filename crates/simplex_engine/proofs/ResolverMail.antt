-- A resolver hands on to the voter, and to its own handler.
use Rattle.std.proofs.Common.{◌≡◌, ◌∙◌, refl, sym, arith, ℕ, Bool, true, false, List, [], ◌∷◌, if◌then◌else◌, length, None}
use Rattle.std.specs.Prelude.{◌==◌, ◌&&◌, not}
use Rattle.std.specs.List.{list_all}
use Rattle.simplex_messages.specs.declared.resolver.ResolverInput.{ResolverInput}
use Rattle.simplex_messages.specs.declared.voter.Message.TheVariants as voter
use Rattle.simplex_messages.specs.declared.handed.Handed.{Handed}
use Rattle.simplex_messages.specs.declared.handed.Handed.TheVariants as handed
use Rattle.simplex_messages.specs.declared.step.Outcome.{Outcome}
use Rattle.simplex_messages.specs.declared.step.Outcome.TheVariants as outcomes
use Rattle.simplex_messages.specs.declared.step.Stop.{Stop}
use Rattle.simplex_messages.specs.declared.step.Stop.TheVariants as stops
use Rattle.simplex_messages.specs.declared.step.StepOut.{StepOut}
use Rattle.simplex_mailbox.specs.Waiting.{front, is_clear}
use Rattle.model_resolver.specs.Resolver.{Made, Given, step_out, handler_message, holds_handled, standing_after}
use Rattle.model_steps.specs.Engine.{cut_short}
use Rattle.model_steps.specs.ResolverSteps.{is_handed_by_resolver}
use Rattle.model_steps.proofs.ResolverSteps.{handed_by_resolver}
use Rattle.simplex_engine.proofs.BatcherMail.{IsForVoter, nil-tells}
use Rattle.simplex_engine.proofs.More.{IsHeld}

by-resolver : (messages : List Handed) → list_all is_handed_by_resolver messages ≡ true → IsForVoter messages
by-resolver [] e = nil-tells
by-resolver (handed.Handler message ∷ others) e = record { batcher = (by-resolver others e).batcher; resolver = (by-resolver others e).resolver }
by-resolver (handed.Voter (voter.Verified certificate) ∷ others) e = record { batcher = (by-resolver others e).batcher; resolver = (by-resolver others e).resolver }
by-resolver (handed.Voter (voter.Proposal proposal) ∷ others) e = cc
by-resolver (handed.Voter (voter.Timeout round reason) ∷ others) e = cc
by-resolver (handed.Batcher message ∷ others) e = cc
by-resolver (handed.Resolver message ∷ others) e = cc

-- nothing that a step gives is for the batcher or for the resolver's own mailbox
pub resolver-tells : (made : Made) (past : List Given) (input : ResolverInput) (now : ℕ) → IsForVoter (step_out made past input now).handed
resolver-tells made past input now = by-resolver _ (handed_by_resolver made past input now)

held-at : (test : Bool) (cut whole given : Outcome × StepOut) → IsHeld cut.0 → IsHeld whole.0 → given ≡ (if test then cut else whole) → IsHeld given.0
held-at true cut whole given p q e = rw e p
held-at false cut whole given p q e = rw e q

-- a step that may be cut was no idle one
pub cut-held : (stop : Stop) (out : StepOut) → IsHeld (cut_short stop out).0
cut-held stops.None out = λ given. refl
cut-held (stops.Cut call keep) out = held-at _ (outcomes.Cut, _) (outcomes.Done, out) _ (λ given. refl) (λ given. refl) refl
cut-held (stops.Fail call keep) out = λ given. refl

-- ---- the handler's mailbox

not-false : (b : Bool) → not b ≡ false → b ≡ true
not-false true e = refl
not-false false e = cc

nothing-in : {M : Type 0} (ready : List M) (clear : Bool) → (length ready == 0 && clear) ≡ true → None ≡ front ready
nothing-in [] clear e = refl
nothing-in (message ∷ ready) clear e = grind arith

-- a handler's mailbox that holds nothing gives nothing
pub nothing-handled : (made : Made) (past : List Given) (test : Bool) → test ≡ false → test ≡ holds_handled made past → None ≡ handler_message made past
unfolding holds_handled handler_message
nothing-handled made past test e f =
    let mail = (standing_after made past).handler in
    nothing-in mail.ready (is_clear mail.waiting) (not-false _ (sym f ∙ e))
