-- What the sources of an engine's steps hold.
use Rattle.std.specs.Prelude.{ℕ, Bool, not, List, Option, None, Some, if◌then◌else◌}
use Rattle.std.specs.Option.{is_some}
use Rattle.simplex_mailbox.specs.Mail.{holds_nothing}
use Rattle.simplex_messages.specs.declared.voter.VoterInput.{VoterInput}
use Rattle.simplex_messages.specs.declared.voter.VoterInput.TheVariants as inputs
use Rattle.simplex_transcript.specs.declared.event.StepSource.{StepSource}
use Rattle.simplex_transcript.specs.declared.event.StepSource.TheVariants as sources
use Rattle.model_resolver.specs.Views.{is_reached, least_of}
use Rattle.model_resolver.specs.Resolver.{holds_handled, deadline_after}
use Rattle.model_steps.specs.Voter.{acted}
use Rattle.model_steps.specs.VoterLife.{place_of}
use Rattle.simplex_voter.specs.Stands.{due_at}
use Rattle.model_steps.specs.Engine.{EngineMade, Did, batcher_mail, voter_mail, resolver_mail, voter_in, voter_past, resolver_past, runs}

-- whether the voter has something to do with what such an input asks it to take
abbrev pub voter_holds : EngineMade → List Did → ℕ → VoterInput → Bool
voter_holds made past now input =
    is_some (acted (voter_in made past).rules now (place_of (voter_in made past) (voter_past past)).standing input)

-- whether the source holds something at this clock: a message, an answer, or a deadline that is reached
unfoldable pub holds : EngineMade → List Did → StepSource → ℕ → Bool
holds made past sources.Batcher now = not (holds_nothing (batcher_mail made past))
holds made past sources.Voter now = not (holds_nothing (voter_mail made past))
holds made past sources.Timer now = voter_holds made past now inputs.Timer
holds made past sources.Propose now = voter_holds made past now inputs.Propose
holds made past sources.Verify now = voter_holds made past now inputs.Verify
holds made past sources.Certify now = voter_holds made past now inputs.Certify
holds made past sources.Resolver now = not (holds_nothing (resolver_mail made past))
holds made past sources.Handler now = holds_handled made.resolver (resolver_past past)
holds made past sources.Fetch now = is_reached now (deadline_after made.resolver (resolver_past past))

-- the voter's deadline: when its current view expires, or its nullify is repeated
abbrev pub voter_deadline : EngineMade → List Did → ℕ
voter_deadline made past = due_at (voter_in made past).rules (place_of (voter_in made past) (voter_past past)).standing.desk.known

-- the clock from which on a step of the timer or of the fetcher holds something; none of an engine that does not run
unfoldable pub next_deadline : EngineMade → List Did → Option ℕ
next_deadline made past =
    if runs past then least_of (Some (voter_deadline made past)) (deadline_after made.resolver (resolver_past past)) else None
