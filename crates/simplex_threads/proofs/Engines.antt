-- The voter of an engine that was started, and then stepped, has lived.
use Rattle.std.proofs.Common.{◌≡◌, ℕ, true, false, List, [], ◌∷◌, Option, Some, None, refl, sym, ap, ◌∙◌, subst, arith, if◌then◌else◌}
use Rattle.std.proofs.lemmas.Grind.{common_steps}
use Rattle.simplex_values.specs.declared.answer.Answer.{Answer}
use Rattle.simplex_values.specs.declared.plan.Channel.{Channel}
use Rattle.simplex_values.specs.declared.plan.Channel.TheVariants as channels
use Rattle.simplex_mailbox.specs.Mail.{received}
use Rattle.simplex_messages.specs.declared.batcher.Message as batcher_message
use Rattle.simplex_messages.specs.declared.voter.Message as voter_message
use Rattle.simplex_messages.specs.declared.voter.VoterInput.{VoterInput}
use Rattle.simplex_messages.specs.declared.voter.VoterInput.TheVariants as inputs
use Rattle.simplex_messages.specs.declared.resolver.HandlerMessage.{HandlerMessage}
use Rattle.simplex_messages.specs.declared.resolver.MailboxMessage.{MailboxMessage}
use Rattle.simplex_messages.specs.declared.resolver.ResolverInput.TheVariants as resolver_inputs
use Rattle.simplex_messages.specs.declared.step.Stop.{Stop}
use Rattle.simplex_transcript.specs.declared.event.StepSource.{StepSource}
use Rattle.simplex_transcript.specs.declared.event.StepSource.TheVariants as sources
use Rattle.model_resolver.specs.Resolver as resolver
use Rattle.model_resolver.specs.Views.{is_reached}
use Rattle.model_resolver.specs.Resolver.{deadline_after}
use Rattle.model_steps.specs.Engine as engine
use Rattle.model_steps.specs.Engine.{EngineMade, Did, voter_in, voter_past, given_to_voter, started_at, is_start, is_blocked, is_whole}
use Rattle.model_steps.specs.VoterLife.{VoterMade, Given, Stepped, Answered, step_given}
use Rattle.law_member.specs.Life.{IsFloor}
use Rattle.law_member.proofs.Choices.{if_case}
use Rattle.simplex_threads.specs.Laws.{IsOfLife, HasLived, VoterHasLived}

-- the voter was given nothing, or this
abbrev IsQuiet : Did → Type 0
IsQuiet did = (given_to_voter did ≡ None) × (is_start did.taken ≡ false)

abbrev IsGiven : Did → Given → Type 0
IsGiven did given = (given_to_voter did ≡ Some given) × (is_start did.taken ≡ false)

module _ (made : EngineMade) (past : List Did) where
  same_voter : (did : Did) → is_start did.taken ≡ false → voter_in made (did ∷ past) ≡ voter_in made past
  unfolding started_at
  same_voter did start = ap (λ b. made.voter (if b then did.now else started_at past)) start

  none_given : (did : Did) → given_to_voter did ≡ None → voter_past (did ∷ past) ≡ voter_past past
  unfolding voter_past
  none_given did e = grind (arith, common_steps, e)

  one_given : (did : Did) (given : Given) → given_to_voter did ≡ Some given → voter_past (did ∷ past) ≡ given ∷ voter_past past
  unfolding voter_past
  one_given did given e = grind (arith, common_steps, e)

  quiet_lives : (did : Did) → IsQuiet did → VoterHasLived made past → VoterHasLived made (did ∷ past)
  quiet_lives did q l =
      subst (λ (v : VoterMade). HasLived v (voter_past (did ∷ past))) (sym (same_voter did q.1)) (subst (HasLived (voter_in made past)) (sym (none_given did q.0)) l)

  given_lives : (did : Did) (given : Given) → IsGiven did given → HasLived (voter_in made past) (given ∷ voter_past past) → VoterHasLived made (did ∷ past)
  given_lives did given g l =
      subst (λ (v : VoterMade). HasLived v (voter_past (did ∷ past))) (sym (same_voter did g.1)) (subst (HasLived (voter_in made past)) (sym (one_given did given g.0)) l)

  pub heard_lives : (sender : ℕ) (channel : Channel) (bytes : List ℕ) (now : ℕ) → VoterHasLived made past → VoterHasLived made (engine.heard made past sender channel bytes now ∷ past)
  unfolding engine.heard engine.let_in engine.by_batcher engine.by_resolver
  heard_lives sender channel bytes now l = quiet_lives (engine.heard made past sender channel bytes now) (heard_quiet channel) l
    where
      let_in_quiet : (channel : Channel) → IsQuiet (engine.let_in made past sender channel bytes now)
      let_in_quiet channels.Vote = (refl, refl)
      let_in_quiet channels.Certificate = (refl, refl)
      let_in_quiet channels.Resolver = (refl, refl)

      heard_quiet : (channel : Channel) → IsQuiet (engine.heard made past sender channel bytes now)
      heard_quiet channel =
          if_case IsQuiet (is_blocked past sender) (engine.refused sender channel bytes now) (engine.let_in made past sender channel bytes now)
          (λ t. (refl, refl)) (λ f. let_in_quiet channel)

  pub answered_lives : (number : ℕ) (answer : Answer) (now : ℕ) → VoterHasLived made past → VoterHasLived made (engine.replied number answer now ∷ past)
  unfolding HasLived
  answered_lives number answer now l = given_lives (engine.replied number answer now) (Answered number answer) (refl, refl) l

  -- a step of the voter
  voter_lives : (did : Did) (input : VoterInput) (now : ℕ) (stop : Stop) → IsGiven did (Stepped input now stop)
      → did.outcome ≡ (step_given (voter_in made past) (voter_past past) input now stop).outcome → VoterHasLived made past → is_whole did.outcome ≡ true → VoterHasLived made (did ∷ past)
  unfolding HasLived
  voter_lives did input now stop g same l w = given_lives did (Stepped input now stop) g (l, ap is_whole (sym same) ∙ w)

  abbrev Lives : Did → Type 0
  Lives did = VoterHasLived made past → is_whole did.outcome ≡ true → VoterHasLived made (did ∷ past)

  quietly : (did : Did) → IsQuiet did → Lives did
  quietly did q l w = quiet_lives did q l

  on_batcher : (now : ℕ) (stop : Stop) (o : Option batcher_message.Message) → IsQuiet (engine.on_batcher_mail made past now stop o)
  unfolding engine.by_batcher
  on_batcher now stop None = (refl, refl)
  on_batcher now stop (Some message) = (refl, refl)

  on_voter : (now : ℕ) (stop : Stop) (o : Option voter_message.Message) → Lives (engine.on_voter_mail made past now stop o)
  on_voter now stop None = quietly (engine.on_voter_mail made past now stop None) (refl, refl)
  on_voter now stop (Some message) = voter_lives (engine.on_voter_mail made past now stop (Some message)) (inputs.Mail message) now stop (refl, refl) refl

  on_resolver : (now : ℕ) (stop : Stop) (o : Option MailboxMessage) → IsQuiet (engine.on_resolver_mail made past now stop o)
  unfolding engine.by_resolver
  on_resolver now stop None = (refl, refl)
  on_resolver now stop (Some message) = (refl, refl)

  on_handler : (now : ℕ) (stop : Stop) (o : Option HandlerMessage) → IsQuiet (engine.on_handler_mail made past now stop o)
  unfolding engine.by_resolver
  on_handler now stop None = (refl, refl)
  on_handler now stop (Some message) = (refl, refl)

  on_fetcher : (now : ℕ) (stop : Stop) → IsQuiet (engine.on_fetcher made past now stop)
  unfolding engine.by_resolver
  on_fetcher now stop =
      if_case IsQuiet (is_reached now (deadline_after made.resolver (engine.resolver_past past)))
      (engine.by_resolver made (engine.resolver_past past) (engine.Took sources.Fetch None) resolver_inputs.Timer now stop) (engine.nothing_held sources.Fetch now stop)
      (λ t. (refl, refl)) (λ f. (refl, refl))

  pub stepped_lives : (source : StepSource) (now : ℕ) (stop : Stop) → Lives (engine.stepped made past source now stop)
  unfolding engine.stepped
  stepped_lives sources.Batcher now stop =
      (let o = received (engine.batcher_mail made past) in quietly (engine.on_batcher_mail made past now stop o) (on_batcher now stop o))
  stepped_lives sources.Voter now stop = on_voter now stop (received (engine.voter_mail made past))
  stepped_lives sources.Timer now stop = voter_lives (engine.on_voter made past sources.Timer inputs.Timer now stop) inputs.Timer now stop (refl, refl) refl
  stepped_lives sources.Propose now stop = voter_lives (engine.on_voter made past sources.Propose inputs.Propose now stop) inputs.Propose now stop (refl, refl) refl
  stepped_lives sources.Verify now stop = voter_lives (engine.on_voter made past sources.Verify inputs.Verify now stop) inputs.Verify now stop (refl, refl) refl
  stepped_lives sources.Certify now stop = voter_lives (engine.on_voter made past sources.Certify inputs.Certify now stop) inputs.Certify now stop (refl, refl) refl
  stepped_lives sources.Resolver now stop =
      (let o = received (engine.resolver_mail made past) in quietly (engine.on_resolver_mail made past now stop o) (on_resolver now stop o))
  stepped_lives sources.Handler now stop =
      (let o = resolver.handler_message made.resolver (engine.resolver_past past) in quietly (engine.on_handler_mail made past now stop o) (on_handler now stop o))
  stepped_lives sources.Fetch now stop = quietly (engine.on_fetcher made past now stop) (on_fetcher now stop)

pub begun_lives : (made : EngineMade) (now : ℕ) (stop : Stop) → IsFloor (made.voter now).floor → IsOfLife (made.voter now).rules (made.voter now).sections
    → is_whole (engine.begun made now stop).outcome ≡ true → VoterHasLived made (engine.begun made now stop ∷ [])
unfolding HasLived engine.begun started_at voter_past
begun_lives made now stop floor l w = (refl, floor, l, w)
