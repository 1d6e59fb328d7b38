-- What one more item of a history makes of the parts.
use Rattle.std.proofs.Common.{◌≡◌, ◌∙◌, refl, ap, ℕ, List, [], ◌∷◌, ◌++◌, append-nil, Some, None}
use Rattle.std.specs.List.{filter_map}
use Rattle.simplex_values.specs.declared.answer.Answer.{Answer}
use Rattle.simplex_values.specs.declared.plan.Channel.{Channel}
use Rattle.simplex_values.specs.declared.plan.Channel.TheVariants as channels
use Rattle.simplex_mailbox.specs.Mail.{all_enqueued}
use Rattle.simplex_messages.specs.declared.batcher.Message as batcher_message
use Rattle.simplex_messages.specs.declared.batcher.BatcherInput.TheVariants as batcher_inputs
use Rattle.simplex_messages.specs.declared.voter.Message as voter_message
use Rattle.simplex_messages.specs.declared.voter.VoterInput.TheVariants as inputs
use Rattle.simplex_messages.specs.declared.resolver.MailboxMessage.{MailboxMessage}
use Rattle.simplex_messages.specs.declared.resolver.HandlerMessage.{HandlerMessage}
use Rattle.simplex_messages.specs.declared.resolver.ResolverInput.TheVariants as resolver_inputs
use Rattle.simplex_messages.specs.declared.call.Call.{Call}
use Rattle.simplex_messages.specs.declared.handed.Handed.TheVariants as handed
use Rattle.simplex_messages.specs.declared.step.Outcome.{Outcome}
use Rattle.simplex_messages.specs.declared.step.Outcome.TheVariants as outcomes
use Rattle.simplex_messages.specs.declared.step.Stop.{Stop}
use Rattle.simplex_messages.specs.declared.step.StepOut.{StepOut}
use Rattle.simplex_transcript.specs.declared.event.StepSource.TheVariants as sources
use Rattle.model_steps.specs.Performed.{Performed}
use Rattle.model_steps.specs.VoterLife.{Started, Stepped}
use Rattle.model_resolver.specs.Resolver as resolver
use Rattle.model_steps.specs.Engine.{EngineMade, Did, Began, Heard, Took, for_voter, did_of, by_voter, nothing_held, replied, refused, if_held, blocked_told, blocked_in, voter_past, batcher_past, resolver_past, batcher_mail, voter_mail, resolver_mail, started_at}
use Rattle.simplex_engine.specs.Parts.{parts_of, first_parts, after_voter, after_answer, after_batcher, after_voter_mail, after_batcher_mail, after_resolver, after_resolver_mail, after_handler_mail}
use Rattle.simplex_engine.proofs.BatcherMail.{IsForVoter}

-- however the step ended
held-nothing : (outcome : Outcome) → if_held outcome [] ≡ []
held-nothing outcomes.Done = refl
held-nothing outcomes.Idle = refl
held-nothing outcomes.Journal = refl
held-nothing outcomes.Cut = refl
held-nothing outcomes.Refused = refl

-- of a step of the batcher or the voter the resolver is told whom it blocked
told-alone : (outcome : Outcome) (made : List Call) → blocked_told made ++ if_held outcome [] ≡ blocked_told made
told-alone outcome made = ap (λ l. blocked_told made ++ l) (held-nothing outcome) ∙ append-nil (blocked_told made)

-- a step that ended so held something
abbrev pub IsHeld : Outcome → Type 0
IsHeld outcome = (given : List resolver.Given) → if_held outcome given ≡ given

-- ---- the voter

pub more-timer : (made : EngineMade) (past : List Did) (now : ℕ) (stop : Stop) (p : Performed) → filter_map for_voter p.out.handed ≡ []
    → parts_of made (by_voter (Took sources.Timer None) now stop p ∷ past) ≡ after_voter (Stepped inputs.Timer now stop) p.out (parts_of made past)
unfolding parts_of voter_past batcher_past resolver_past batcher_mail voter_mail resolver_mail started_at blocked_in all_enqueued
more-timer made past now stop p quiet = rw (quiet, told-alone p.outcome p.out.calls) refl

pub more-propose : (made : EngineMade) (past : List Did) (now : ℕ) (stop : Stop) (p : Performed) → filter_map for_voter p.out.handed ≡ []
    → parts_of made (by_voter (Took sources.Propose None) now stop p ∷ past) ≡ after_voter (Stepped inputs.Propose now stop) p.out (parts_of made past)
unfolding parts_of voter_past batcher_past resolver_past batcher_mail voter_mail resolver_mail started_at blocked_in all_enqueued
more-propose made past now stop p quiet = rw (quiet, told-alone p.outcome p.out.calls) refl

pub more-verify : (made : EngineMade) (past : List Did) (now : ℕ) (stop : Stop) (p : Performed) → filter_map for_voter p.out.handed ≡ []
    → parts_of made (by_voter (Took sources.Verify None) now stop p ∷ past) ≡ after_voter (Stepped inputs.Verify now stop) p.out (parts_of made past)
unfolding parts_of voter_past batcher_past resolver_past batcher_mail voter_mail resolver_mail started_at blocked_in all_enqueued
more-verify made past now stop p quiet = rw (quiet, told-alone p.outcome p.out.calls) refl

pub more-certify : (made : EngineMade) (past : List Did) (now : ℕ) (stop : Stop) (p : Performed) → filter_map for_voter p.out.handed ≡ []
    → parts_of made (by_voter (Took sources.Certify None) now stop p ∷ past) ≡ after_voter (Stepped inputs.Certify now stop) p.out (parts_of made past)
unfolding parts_of voter_past batcher_past resolver_past batcher_mail voter_mail resolver_mail started_at blocked_in all_enqueued
more-certify made past now stop p quiet = rw (quiet, told-alone p.outcome p.out.calls) refl

pub more-voter_mail : (made : EngineMade) (past : List Did) (message : voter_message.Message) (now : ℕ) (stop : Stop) (p : Performed)
    → filter_map for_voter p.out.handed ≡ []
    → parts_of made (by_voter (Took sources.Voter (Some (handed.Voter message))) now stop p ∷ past)
    ≡ after_voter (Stepped (inputs.Mail message) now stop) p.out (after_voter_mail (parts_of made past))
unfolding parts_of voter_past batcher_past resolver_past batcher_mail voter_mail resolver_mail started_at blocked_in all_enqueued
more-voter_mail made past message now stop p quiet = rw (quiet, told-alone p.outcome p.out.calls) refl

pub more-begun : (made : EngineMade) (now : ℕ) (stop : Stop) (p : Performed) → filter_map for_voter p.out.handed ≡ []
    → parts_of made (by_voter Began now stop p ∷ []) ≡ after_voter (Started now stop) p.out (first_parts made now)
unfolding parts_of voter_past batcher_past resolver_past batcher_mail voter_mail resolver_mail started_at blocked_in all_enqueued
more-begun made now stop p quiet = rw (quiet, told-alone p.outcome p.out.calls) refl

pub more-replied : (made : EngineMade) (past : List Did) (number : ℕ) (answer : Answer) (now : ℕ)
    → parts_of made (replied number answer now ∷ past) ≡ after_answer number answer (parts_of made past)
unfolding parts_of voter_past batcher_past resolver_past batcher_mail voter_mail resolver_mail started_at blocked_in all_enqueued
more-replied made past number answer now = refl

-- ---- the batcher

pub more-batcher_mail : (made : EngineMade) (past : List Did) (message : batcher_message.Message) (now : ℕ) (stop : Stop) (outcome : Outcome) (out : StepOut)
    → IsForVoter out.handed
    → parts_of made (did_of (Took sources.Batcher (Some (handed.Batcher message))) now stop outcome out ∷ past)
    ≡ after_batcher (record { input = batcher_inputs.Mail message; now = now }) out (after_batcher_mail (parts_of made past))
unfolding parts_of voter_past batcher_past resolver_past batcher_mail voter_mail resolver_mail started_at blocked_in all_enqueued
more-batcher_mail made past message now stop outcome out tells = rw (tells.batcher, tells.resolver, told-alone outcome out.calls) refl

pub more-vote : (made : EngineMade) (past : List Did) (sender : ℕ) (bytes : List ℕ) (now : ℕ) (stop : Stop) (out : StepOut)
    → IsForVoter out.handed
    → parts_of made (did_of (Heard sender channels.Vote bytes) now stop outcomes.Done out ∷ past)
    ≡ after_batcher (record { input = batcher_inputs.Vote sender bytes; now = now }) out (parts_of made past)
unfolding parts_of voter_past batcher_past resolver_past batcher_mail voter_mail resolver_mail started_at blocked_in all_enqueued
more-vote made past sender bytes now stop out tells = rw (tells.batcher, tells.resolver, told-alone outcomes.Done out.calls) refl

pub more-certificate : (made : EngineMade) (past : List Did) (sender : ℕ) (bytes : List ℕ) (now : ℕ) (stop : Stop) (out : StepOut)
    → IsForVoter out.handed
    → parts_of made (did_of (Heard sender channels.Certificate bytes) now stop outcomes.Done out ∷ past)
    ≡ after_batcher (record { input = batcher_inputs.Certificate sender bytes; now = now }) out (parts_of made past)
unfolding parts_of voter_past batcher_past resolver_past batcher_mail voter_mail resolver_mail started_at blocked_in all_enqueued
more-certificate made past sender bytes now stop out tells = rw (tells.batcher, tells.resolver, told-alone outcomes.Done out.calls) refl

-- ---- the resolver

pub more-packet : (made : EngineMade) (past : List Did) (sender : ℕ) (bytes : List ℕ) (now : ℕ) (stop : Stop) (out : StepOut)
    → IsForVoter out.handed
    → parts_of made (did_of (Heard sender channels.Resolver bytes) now stop outcomes.Done out ∷ past)
    ≡ after_resolver (resolver.Stepped (resolver_inputs.Packet sender bytes) now) out (parts_of made past)
unfolding parts_of voter_past batcher_past resolver_past batcher_mail voter_mail resolver_mail started_at blocked_in all_enqueued
more-packet made past sender bytes now stop out tells = rw (tells.batcher, tells.resolver) refl

pub more-resolver_mail : (made : EngineMade) (past : List Did) (message : MailboxMessage) (now : ℕ) (stop : Stop) (outcome : Outcome) (out : StepOut)
    → IsHeld outcome → IsForVoter out.handed
    → parts_of made (did_of (Took sources.Resolver (Some (handed.Resolver message))) now stop outcome out ∷ past)
    ≡ after_resolver (resolver.Stepped (resolver_inputs.Mail message) now) out (after_resolver_mail (parts_of made past))
unfolding parts_of voter_past batcher_past resolver_past batcher_mail voter_mail resolver_mail started_at blocked_in all_enqueued
more-resolver_mail made past message now stop outcome out held tells =
    rw (tells.batcher, tells.resolver, held (resolver.Stepped (resolver_inputs.Mail message) now ∷ [])) refl

pub more-handler_mail : (made : EngineMade) (past : List Did) (message : HandlerMessage) (now : ℕ) (stop : Stop) (outcome : Outcome) (out : StepOut)
    → IsHeld outcome → IsForVoter out.handed
    → parts_of made (did_of (Took sources.Handler (Some (handed.Handler message))) now stop outcome out ∷ past)
    ≡ after_resolver (resolver.Stepped (resolver_inputs.Handler message) now) out (after_handler_mail (parts_of made past))
unfolding parts_of voter_past batcher_past resolver_past batcher_mail voter_mail resolver_mail started_at blocked_in all_enqueued
more-handler_mail made past message now stop outcome out held tells =
    rw (tells.batcher, tells.resolver, held (resolver.Stepped (resolver_inputs.Handler message) now ∷ resolver.HandlerTaken ∷ [])) refl

pub more-fetch : (made : EngineMade) (past : List Did) (now : ℕ) (stop : Stop) (outcome : Outcome) (out : StepOut)
    → IsHeld outcome → IsForVoter out.handed
    → parts_of made (did_of (Took sources.Fetch None) now stop outcome out ∷ past)
    ≡ after_resolver (resolver.Stepped resolver_inputs.Timer now) out (parts_of made past)
unfolding parts_of voter_past batcher_past resolver_past batcher_mail voter_mail resolver_mail started_at blocked_in all_enqueued
more-fetch made past now stop outcome out held tells =
    rw (tells.batcher, tells.resolver, held (resolver.Stepped resolver_inputs.Timer now ∷ [])) refl

-- ---- nothing happens

pub more-batcher_idle : (made : EngineMade) (past : List Did) (now : ℕ) (stop : Stop)
    → parts_of made (nothing_held sources.Batcher now stop ∷ past) ≡ parts_of made past
unfolding parts_of voter_past batcher_past resolver_past batcher_mail voter_mail resolver_mail started_at blocked_in all_enqueued
more-batcher_idle made past now stop = refl

pub more-voter_idle : (made : EngineMade) (past : List Did) (now : ℕ) (stop : Stop)
    → parts_of made (nothing_held sources.Voter now stop ∷ past) ≡ parts_of made past
unfolding parts_of voter_past batcher_past resolver_past batcher_mail voter_mail resolver_mail started_at blocked_in all_enqueued
more-voter_idle made past now stop = refl

pub more-resolver_idle : (made : EngineMade) (past : List Did) (now : ℕ) (stop : Stop)
    → parts_of made (nothing_held sources.Resolver now stop ∷ past) ≡ parts_of made past
unfolding parts_of voter_past batcher_past resolver_past batcher_mail voter_mail resolver_mail started_at blocked_in all_enqueued
more-resolver_idle made past now stop = refl

pub more-handler_idle : (made : EngineMade) (past : List Did) (now : ℕ) (stop : Stop)
    → parts_of made (nothing_held sources.Handler now stop ∷ past) ≡ parts_of made past
unfolding parts_of voter_past batcher_past resolver_past batcher_mail voter_mail resolver_mail started_at blocked_in all_enqueued
more-handler_idle made past now stop = refl

pub more-fetch_idle : (made : EngineMade) (past : List Did) (now : ℕ) (stop : Stop)
    → parts_of made (nothing_held sources.Fetch now stop ∷ past) ≡ parts_of made past
unfolding parts_of voter_past batcher_past resolver_past batcher_mail voter_mail resolver_mail started_at blocked_in all_enqueued
more-fetch_idle made past now stop = refl

-- a packet that is refused is given to nobody
pub more-refused : (made : EngineMade) (past : List Did) (sender : ℕ) (channel : Channel) (bytes : List ℕ) (now : ℕ)
    → parts_of made (refused sender channel bytes now ∷ past) ≡ parts_of made past
unfolding parts_of voter_past batcher_past resolver_past batcher_mail voter_mail resolver_mail started_at blocked_in all_enqueued
more-refused made past sender channels.Vote bytes now = refl
more-refused made past sender channels.Certificate bytes now = refl
more-refused made past sender channels.Resolver bytes now = refl
