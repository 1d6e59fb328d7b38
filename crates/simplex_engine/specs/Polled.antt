-- What comes of an input, and what of it was taken from inside the engine.
use Rattle.std.specs.Prelude.{ℕ, Bool, true, false, List, Option, Some, None, if◌then◌else◌}
use Rattle.std.specs.Option.{option_map, option_and_then}
use Rattle.simplex_values.specs.declared.answer.Answer.{Answer}
use Rattle.simplex_messages.specs.declared.step.Outcome.{Outcome}
use Rattle.simplex_messages.specs.declared.step.Outcome.TheVariants as outcomes
use Rattle.simplex_messages.specs.declared.step.Stop.{Stop}
use Rattle.simplex_transcript.specs.declared.event.StepSource.TheVariants as sources
use Rattle.model_steps.specs.Voter.{Standing, answer_to, first_answered}
use Rattle.simplex_journal.specs.Journal.{Section}
use Rattle.model_steps.specs.VoterLife.{Given, Stepped, place_of}
use Rattle.model_steps.specs.Engine as engine
use Rattle.model_steps.specs.Engine.{EngineMade, Did, Taken, heard, stepped, replied, runs, takes_reply, voter_in, voter_past, given_to_voter, sections_of}
use Rattle.simplex_voter.specs.Turned.{step_left}
use Rattle.simplex_engine.specs.declared.input.Input.{Input}
use Rattle.simplex_engine.specs.declared.input.Input.TheVariants as inputs
use Rattle.simplex_engine.specs.declared.input.TakenInside.{TakenInside}
use Rattle.simplex_engine.specs.declared.input.TakenInside.TheVariants as taken
use Rattle.simplex_engine.specs.declared.error.PollError.{PollError}
use Rattle.simplex_engine.specs.declared.error.PollError.TheVariants as errors

-- what an engine does of an input. An order to stop is one for a step
unfoldable pub polled : EngineMade → List Did → Input → ℕ → Stop → Did
polled made past (inputs.Deliver sender channel bytes) now stop = heard made past sender channel bytes now
polled made past (inputs.Step source) now stop = stepped made past source now stop
polled made past (inputs.Answer request answer) now stop = replied request answer now

-- whether an input is taken: an answer is where its request is open, unanswered, and of its kind
abbrev pub is_taken : EngineMade → List Did → Input → Bool
is_taken made past (inputs.Answer request answer) = takes_reply made past request answer
is_taken made past _ = true

-- why an input is refused, want of memory apart; none where it is taken
unfoldable pub refusal_of : EngineMade → List Did → Input → Option PollError
refusal_of made past input =
    if runs past then (if is_taken made past input then None else Some errors.NotPending) else Some errors.Stopped

-- what was taken from inside the engine: the message, the answer and its request, or the deadline
unfoldable pub inside : Standing → Taken → Option TakenInside
inside s (engine.Took sources.Propose message) = option_and_then (λ p. option_map (λ a. taken.Answer p.number a) (answer_to s.answers p.number)) s.desk.proposal
inside s (engine.Took sources.Verify message) = option_and_then (λ v. option_map (λ a. taken.Answer v.number a) (answer_to s.answers v.number)) s.desk.verify
inside s (engine.Took sources.Certify message) = option_map (λ given. taken.Answer given.0.number given.1) (first_answered s.desk.certify s.answers)
inside s (engine.Took sources.Timer message) = Some taken.Deadline
inside s (engine.Took sources.Fetch message) = Some taken.Deadline
inside s (engine.Took source message) = option_map taken.Message message
inside s _ = None

-- nothing where the source held nothing
abbrev pub unless_idle : Outcome → Option TakenInside → Option TakenInside
unless_idle outcomes.Idle taken = None
unless_idle _ taken = taken

unfoldable pub taken_inside : EngineMade → List Did → Did → Option TakenInside
taken_inside made past did = unless_idle did.outcome (inside (place_of (voter_in made past) (voter_past past)).standing did.taken)

-- an answer and its request
abbrev pub answer_inside : ℕ × Answer → TakenInside
answer_inside given = taken.Answer given.0 given.1

-- want of memory may come at any call
abbrev pub is_memory : PollError → Bool
is_memory errors.Memory = true
is_memory _ = false

-- What the journal holds once the voter was given this, with a stop that became another. Only a step of the voter writes.
abbrev pub left_given : EngineMade → List Did → Stop → Option Given → List Section
left_given made past stop (Some (Stepped input now turned)) = step_left (voter_in made past) (voter_past past) input now stop turned
left_given made past stop _ = sections_of made past

-- what the journal holds behind one more item of the history, whose stop is what this one became
unfoldable pub sections_left : EngineMade → List Did → Stop → Did → List Section
sections_left made past stop did = left_given made past stop (given_to_voter did)
