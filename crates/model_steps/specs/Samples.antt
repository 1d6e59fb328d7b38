-- What the samples are made of: one member alone, whose signatures are blank.
use Rattle.std.specs.Prelude.{ℕ, List, [], ◌∷◌, replicate, Some, None, true, false, unwrap_or}
use Rattle.simplex_values.specs.declared.proposal.Proposal.{Proposal}
use Rattle.simplex_values.specs.declared.answer.Answer.{Answer}
use Rattle.simplex_values.specs.declared.answer.Answer.TheVariants as answers
use Rattle.simplex_wire.specs.declared.attestation.Attestation.{Attestation}
use Rattle.simplex_wire.specs.declared.certificate.Notarization.{Notarization}
use Rattle.simplex_wire.specs.declared.certificate.Finalization.{Finalization}
use Rattle.simplex_wire.specs.declared.certificate.Certificate.TheVariants as certificates
use Rattle.simplex_types.specs.declared.floor.Floor.TheVariants as floors
use Rattle.model_rules.specs.Known.{Made}
use Rattle.simplex_messages.specs.declared.voter.Message.TheVariants as mail
use Rattle.simplex_messages.specs.declared.voter.VoterInput.{VoterInput}
use Rattle.simplex_messages.specs.declared.voter.VoterInput.TheVariants as inputs
use Rattle.model_steps.specs.Desk.{Doing, begun}
use Rattle.model_steps.specs.Voter.{Standing, stepped, started, blank_desk}

abbrev pub blank : Attestation
blank = record { signer = 0; signature = replicate 32 0 }

abbrev pub alone : Made
alone = record {
  signs = λ _. Some blank;
  me = Some 0;
  elects = λ _. 0;
  epoch = 0;
  genesis = [];
  term_length = 1;
  lookahead = 0;
  stall_timeout = None;
  leader_timeout = 1000;
  certification_timeout = 2000;
  timeout_retry = 500;
  skip_budget = 0;
  retention = 10;
  handoff = false;
  start = 0;
}

-- what a voter stands at after a step
abbrev pub rested : List (ℕ × Answer) → Doing → Standing
rested given doing = record { desk = record doing.desk { asked = []; dropped = []; sought = [] }; answers = given }

abbrev pub nothing : Doing
nothing = begun blank_desk

abbrev pub first_proposal : Proposal
first_proposal = record { round = record { epoch = 0; view = 1 }; parent = 0; payload = replicate 32 17 }

abbrev pub notarized : Notarization
notarized = record { proposal = first_proposal; certificate = blank ∷ [] }

abbrev pub finalized : Finalization
finalized = record { proposal = first_proposal; certificate = blank ∷ [] }

-- the start, and the four steps of the voter in which it proposes, takes the notarization, the verdict, and the finalization
abbrev pub at_start : Doing
at_start = started alone 0 (floors.Genesis []) []

abbrev pub step_on : Doing → List (ℕ × Answer) → VoterInput → Doing
step_on before given input = unwrap_or (stepped alone 0 (rested given before) input) nothing

abbrev pub at_proposal : Doing
at_proposal = step_on at_start ((0, answers.Payload (replicate 32 17)) ∷ []) inputs.Propose

abbrev pub at_notarization : Doing
at_notarization = step_on at_proposal [] (inputs.Mail (mail.Verified (certificates.Notarization notarized)))

abbrev pub at_verdict : Doing
at_verdict = step_on at_notarization ((1, answers.Verdict true) ∷ []) inputs.Certify

abbrev pub at_finalization : Doing
at_finalization = step_on at_verdict [] (inputs.Mail (mail.Verified (certificates.Finalization finalized)))
