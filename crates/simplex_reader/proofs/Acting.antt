-- What comes of what a step took, where a test holds or does not.
use Rattle.std.proofs.Common.{◌≡◌, Bool, true, false, List, [], Option, Some, None, sym, subst}
use Rattle.simplex_values.specs.declared.proposal.Subject.{Subject}
use Rattle.simplex_wire.specs.declared.attestation.Attestation.{Attestation}
use Rattle.simplex_wire.specs.declared.certificate.Certificate.{Certificate}
use Rattle.simplex_transcript.specs.declared.event.StepSource.{StepSource}
use Rattle.model_rules.specs.declared.request.Asked.{Asked}
use Rattle.model_audit.specs.declared.record.AuditTook.{AuditTook}
use Rattle.model_audit.specs.Taking.{Taking}
use Rattle.simplex_known.specs.declared.known.Known.{Known}
use Rattle.simplex_due.specs.declared.due.Due.{Due}
use Rattle.simplex_due.specs.Due.{Steps, votes_in}
use Rattle.simplex_reader.specs.Taking.{taking_if, taking_by, Acts}

pub acts_none : (kept : Known) (attests : Subject → Option Attestation) (added : List Certificate) (due : Due) → votes_in due ≡ [] → Acts kept kept attests added None due
acts_none kept attests added due e = record { knows = λ made known now k. k; votes = λ made known now k signs. e }

pub acts_some : (old new : Known) (attests : Subject → Option Attestation) (added : List Certificate) (taking : Taking) (due : Due) → Steps old new attests added taking due
    → Acts old new attests added (Some taking) due
acts_some old new attests added taking due steps = record { knows = steps.knows; votes = steps.votes }

pub acts_unless : (kept : Known) (attests : Subject → Option Attestation) (added : List Certificate) (taking : Taking) (due : Due) (test : Bool) → test ≡ false → votes_in due ≡ []
    → Acts kept kept attests added (taking_if test taking) due
acts_unless kept attests added taking due test e none =
    subst (λ b. Acts kept kept attests added (taking_if b taking) due) (sym e) (acts_none kept attests added due none)

pub acts_if : (old new : Known) (attests : Subject → Option Attestation) (added : List Certificate) (taking : Taking) (due : Due) (test : Bool) → test ≡ true
    → Steps old new attests added taking due → Acts old new attests added (taking_if test taking) due
acts_if old new attests added taking due test e steps =
    subst (λ b. Acts old new attests added (taking_if b taking) due) (sym e) (acts_some old new attests added taking due steps)

-- by what was taken
pub acts_by : (old new : Known) (attests : Subject → Option Attestation) (added : List Certificate) (source : StepSource) (took is : AuditTook) (asked : Option Asked) (due : Due)
    → took ≡ is → Acts old new attests added (taking_by source is asked) due → Acts old new attests added (taking_by source took asked) due
acts_by old new attests added source took is asked due e acts =
    subst (λ (t : AuditTook). Acts old new attests added (taking_by source t asked) due) (sym e) acts
