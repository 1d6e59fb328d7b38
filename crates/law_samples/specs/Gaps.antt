-- A resolver of the first of four members, with terms of two views, and what it is given.
use Rattle.std.specs.Prelude.{true, List, [], ◌∷◌}
use Rattle.simplex_wire.specs.declared.certificate.Certificate.{Certificate}
use Rattle.simplex_wire.specs.declared.certificate.Certificate.TheVariants as certificates
use Rattle.simplex_wire.specs.declared.resolver.ResolverBody.TheVariants as bodies
use Rattle.simplex_wire.specs.ResolverMessage.{resolver_message}
use Rattle.model_rules.specs.Repair.{RepairCall, Updated}
use Rattle.simplex_messages.specs.declared.resolver.ResolverInput.TheVariants as inputs
use Rattle.simplex_messages.specs.declared.resolver.MailboxMessage.TheVariants as mail
use Rattle.simplex_messages.specs.declared.resolver.HandlerMessage.{HandlerMessage}
use Rattle.simplex_messages.specs.declared.resolver.HandlerMessage.TheVariants as handler
use Rattle.model_resolver.specs.Resolver.{Made, Given, Stepped, HandlerTaken}
use Rattle.law_agreement.specs.WorldExamples.{proposal_of}

abbrev pub resolver : Made
resolver = record {
  verifies = λ subject attestation. true;
  members = 4;
  epoch = 0;
  term = 2;
  handler_size = 16;
  fetching = record { me = 0; n = 4; fetch_timeout = 1000; fetch_retry_delay = 100 };
}

-- a notarization of view 4, and that it is told of it
abbrev pub notarization : Certificate
notarization = certificates.Notarization (record { proposal = proposal_of 4 3 7; certificate = [] })

abbrev pub is_told : RepairCall
is_told = Updated notarization

-- what its handler takes when the second member asks for view 5
abbrev pub peer_asks : HandlerMessage
peer_asks = handler.Produce 0 5

-- the second member asks for view 5: that is heard, taken from the handler's mailbox, and handled
abbrev pub serves : List Given
serves =
    Stepped (inputs.Handler peer_asks) 2
    ∷ HandlerTaken
    ∷ Stepped (inputs.Packet 1 (resolver_message.spelling (record { id = 9; body = bodies.Request 5 }))) 1
    ∷ []

-- and then it is told of the notarization, and that the journal was read
abbrev pub lacks : List Given
lacks =
    Stepped (inputs.Mail mail.Replayed) 4
    ∷ Stepped (inputs.Mail (mail.Updated notarization)) 3
    ∷ serves
