-- A resolver whose answer settles more than it was asked for.
use Rattle.std.specs.Prelude.{ℕ, List, [], ◌∷◌, None}
use Rattle.simplex_values.specs.declared.ask.Kind.TheVariants as kinds
use Rattle.simplex_wire.specs.declared.certificate.Certificate.TheVariants as certificates
use Rattle.simplex_wire.specs.declared.certificate.Finalization.{Finalization}
use Rattle.simplex_wire.specs.declared.resolver.ResolverBody.TheVariants as bodies
use Rattle.simplex_wire.specs.Message as format
use Rattle.simplex_messages.specs.declared.resolver.MailboxMessage.TheVariants as resolver
use Rattle.simplex_transcript.specs.declared.event.StepSource.TheVariants as sources
use Rattle.model_resolver.specs.Fetcher.{message_bytes}
use Rattle.model_resolver.specs.Resolver.{Standing, standing_after}
use Rattle.model_steps.specs.Engine.{Did, resolver_past}
use Rattle.model_steps.specs.Samples.{first_proposal}
use Rattle.model_steps.specs.Resolving.{engine_of_five, handed_first, and_step, and_heard, signed_by}

abbrev pub finalized_seven : Finalization
finalized_seven = record {
  proposal = record first_proposal { round = record { epoch = 0; view = 7 } };
  certificate = signed_by 0 ∷ signed_by 1 ∷ signed_by 2 ∷ [];
}

abbrev pub shows_seven : List ℕ
shows_seven =
    message_bytes 0 (bodies.Response (format.certificate.spelling (certificates.Finalization finalized_seven)))

-- the nullification of view 6 is asked for, member 1 answers, the notarization of view 6 is asked for, and the answer is judged
abbrev pub settled_by_an_answer : List Did
settled_by_an_answer =
    and_step sources.Handler (and_step sources.Resolver (and_heard 1 shows_seven
    (and_step sources.Resolver
    (handed_first (resolver.Resolve 10 6 kinds.Nullification None
    ∷ resolver.Resolve 10 6 kinds.Notarization None ∷ [])))))

abbrev pub left_by_an_answer : Standing
left_by_an_answer = standing_after engine_of_five.resolver (resolver_past settled_by_an_answer)
