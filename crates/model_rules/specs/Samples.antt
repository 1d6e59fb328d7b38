-- Small values to try the rules on.
use Rattle.std.specs.Prelude.{ℕ, true, false, List, [], ◌∷◌, reverse, Option, Some, None}
use Rattle.simplex_values.specs.declared.proposal.Proposal.{Proposal}
use Rattle.simplex_wire.specs.declared.certificate.Notarization.{Notarization}
use Rattle.simplex_wire.specs.declared.certificate.Nullification.{Nullification}
use Rattle.simplex_wire.specs.declared.certificate.Finalization.{Finalization}
use Rattle.simplex_wire.specs.declared.attestation.Attestation.{Attestation}
use Rattle.simplex_values.specs.declared.round.Context.{Context}
use Rattle.model_rules.specs.Known.{Made, Fact}
use Rattle.model_rules.specs.Calls.{Call, known_of, TryPropose, Proposed, ConstructNotarize, AddNotarization, CertifyCandidates, Certified}
use Rattle.model_rules.specs.Pending.{Desk, Pending}

-- member 0, which leads every view
abbrev pub example : ℕ → ℕ → Made
example length lookahead = record {
  signs = λ _. Some (record { signer = 0; signature = [] });
  me = Some 0;
  elects = λ _. 0;
  epoch = 0;
  genesis = 7 ∷ [];
  term_length = length;
  lookahead = lookahead;
  stall_timeout = None;
  leader_timeout = 1000;
  certification_timeout = 2000;
  timeout_retry = 500;
  skip_budget = 1;
  retention = 10;
  handoff = false;
  start = 0;
}

-- the same where member 1 leads
abbrev pub follower : ℕ → ℕ → Made
follower length lookahead = record (example length lookahead) { elects = λ _. 1 }

abbrev pub own : Attestation
own = record { signer = 0; signature = [] }

-- a proposal of a view on a parent
abbrev pub block : ℕ → ℕ → ℕ → Proposal
block view parent payload =
    record { round = record { epoch = 0; view = view }; parent = parent; payload = payload ∷ [] }

abbrev pub notarized : Proposal → Notarization
notarized p = record { proposal = p; certificate = [] }

abbrev pub finalized : Proposal → Finalization
finalized p = record { proposal = p; certificate = [] }

abbrev pub nullified : ℕ → Nullification
nullified view = record { round = record { epoch = 0; view = view }; certificate = [] }

abbrev pub context : ℕ → ℕ → ℕ → Context
context view parent payload =
    record {
      round = record { epoch = 0; view = view };
      leader = 0;
      parent = record { view = parent; payload = payload ∷ [] };
    }

-- what is known after calls in order
abbrev pub after : Made → List Call → List Fact
after made calls = known_of made (reverse calls)

-- it proposes in view 1 and votes for its proposal, and then these
abbrev pub having_proposed : List Call → List Call
having_proposed calls = TryPropose ∷ Proposed (context 1 0 7) (9 ∷ []) ∷ ConstructNotarize 1 ∷ calls

-- it does so, and its proposal is notarized and certified
abbrev pub having_certified : List Call
having_certified =
    having_proposed (AddNotarization (notarized (block 1 0 9)) 5 ∷ CertifyCandidates ∷ Certified 1 true 6 ∷ [])

abbrev pub desk : List Fact → Option Pending → Desk
desk known proposal =
    record {
      known = known;
      proposal = proposal;
      verify = None;
      certify = [];
      opened = 2;
      asked = [];
      dropped = [];
      sought = [];
    }
