-- What a step took, by the request that was answered.
use Rattle.std.proofs.Common.{◌≡◌, ℕ, List, refl}
use Rattle.std.specs.Prelude.{Option, Some, None}
use Rattle.std.specs.Option.{option_map, option_and_then}
use Rattle.simplex_values.specs.declared.answer.Answer.{Answer}
use Rattle.simplex_messages.specs.declared.handed.Handed.{Handed}
use Rattle.simplex_messages.specs.declared.step.Outcome.{Outcome}
use Rattle.simplex_messages.specs.declared.step.Outcome.TheVariants as outcomes
use Rattle.simplex_messages.specs.declared.step.Stop.{Stop}
use Rattle.simplex_messages.specs.declared.step.StepOut.{StepOut}
use Rattle.simplex_transcript.specs.declared.event.StepSource.TheVariants as sources
use Rattle.simplex_transcript.specs.declared.entry.Took.TheVariants as tooks
use Rattle.simplex_transcript.specs.declared.node.Node.{Node}
use Rattle.model_rules.specs.Pending.{Pending, Opened}
use Rattle.model_steps.specs.Voter.{Standing, answer_to, first_answered}
use Rattle.model_steps.specs.VoterLife.{place_of}
use Rattle.model_steps.specs.Engine as engine
use Rattle.model_steps.specs.Engine.{EngineMade, Did, Taken, did_of, voter_in, voter_past}
use Rattle.simplex_engine.specs.declared.input.TakenInside.TheVariants as insides
use Rattle.simplex_engine.specs.Polled.{inside, taken_inside}
use Rattle.model_run.specs.Life.{Noted}
use Rattle.model_run.specs.Entries.{answered_at, answer_taken, taken_of, took_of}
use Rattle.simplex_network.specs.Polls.{named}

by_answer : (before : List Noted) (node : Node) (number : ℕ) (answer : Option Answer)
    → option_and_then (answered_at before node number) answer ≡ option_and_then (named before node) (option_map (λ a. insides.Answer number a) answer)
by_answer before node number None = refl
by_answer before node number (Some answer) = refl

by_message : (before : List Noted) (node : Node) (message : Option Handed)
    → option_map tooks.Message message ≡ option_and_then (named before node) (option_map insides.Message message)
by_message before node None = refl
by_message before node (Some message) = refl

by_first : (before : List Noted) (node : Node) (given : Option (Opened × Answer))
    → option_and_then (λ (g : Opened × Answer). answered_at before node g.0.number g.1) given
    ≡ option_and_then (named before node) (option_map (λ (g : Opened × Answer). insides.Answer g.0.number g.1) given)
by_first before node None = refl
by_first before node (Some given) = refl

by_proposal : (before : List Noted) (node : Node) (s : Standing) (proposal : Option Pending)
    → option_and_then (λ (p : Pending). answer_taken before node s p.number) proposal
    ≡ option_and_then (named before node) (option_and_then (λ (p : Pending). option_map (λ a. insides.Answer p.number a) (answer_to s.answers p.number)) proposal)
by_proposal before node s None = refl
by_proposal before node s (Some p) = by_answer before node p.number (answer_to s.answers p.number)

by_verify : (before : List Noted) (node : Node) (s : Standing) (verify : Option Opened)
    → option_and_then (λ (v : Opened). answer_taken before node s v.number) verify
    ≡ option_and_then (named before node) (option_and_then (λ (v : Opened). option_map (λ a. insides.Answer v.number a) (answer_to s.answers v.number)) verify)
by_verify before node s None = refl
by_verify before node s (Some v) = by_answer before node v.number (answer_to s.answers v.number)

named-inside : (before : List Noted) (node : Node) (s : Standing) (taken : Taken) → taken_of before node s taken ≡ option_and_then (named before node) (inside s taken)
unfolding taken_of inside
named-inside before node s (engine.Took sources.Propose message) = by_proposal before node s s.desk.proposal
named-inside before node s (engine.Took sources.Verify message) = by_verify before node s s.desk.verify
named-inside before node s (engine.Took sources.Certify message) = by_first before node (first_answered s.desk.certify s.answers)
named-inside before node s (engine.Took sources.Timer message) = refl
named-inside before node s (engine.Took sources.Batcher message) = by_message before node message
named-inside before node s (engine.Took sources.Voter message) = by_message before node message
named-inside before node s (engine.Took sources.Resolver message) = by_message before node message
named-inside before node s (engine.Took sources.Handler message) = by_message before node message
named-inside before node s (engine.Took sources.Fetch message) = refl
named-inside before node s engine.Began = refl
named-inside before node s (engine.Heard sender channel bytes) = refl
named-inside before node s (engine.Replied number answer) = refl

-- what the transcript tells of a step is what was inside, its request named
pub took-named : (before : List Noted) (node : Node) (made : EngineMade) (past : List Did) (taken : Taken) (now : ℕ) (stop : Stop) (outcome : Outcome) (out : StepOut)
    → took_of before node made past (did_of taken now stop outcome out)
    ≡ option_and_then (named before node) (taken_inside made past (did_of taken now stop outcome out))
unfolding taken_inside
took-named before node made past taken now stop outcomes.Idle out = refl
took-named before node made past taken now stop outcomes.Done out = named-inside before node (place_of (voter_in made past) (voter_past past)).standing taken
took-named before node made past taken now stop outcomes.Journal out = named-inside before node (place_of (voter_in made past) (voter_past past)).standing taken
took-named before node made past taken now stop outcomes.Cut out = named-inside before node (place_of (voter_in made past) (voter_past past)).standing taken
took-named before node made past taken now stop outcomes.Refused out = named-inside before node (place_of (voter_in made past) (voter_past past)).standing taken
