-- A step at no deadline, by what is read of what it took.
use Rattle.std.proofs.Common.{◌≡◌, ◌++◌, ℕ, map, List, Result, Ok, Err, subst, ap, ◌∙◌}
use Rattle.std.specs.Prelude.{IfOk}
use Rattle.simplex_values.specs.declared.proposal.Subject.{Subject}
use Rattle.simplex_values.specs.declared.answer.Answer.{Answer}
use Rattle.simplex_wire.specs.declared.attestation.Attestation.{Attestation}
use Rattle.simplex_wire.specs.declared.certificate.Certificate.{Certificate}
use Rattle.simplex_messages.specs.declared.voter.Message.{Message}
use Rattle.model_rules.specs.declared.request.Asked.{Asked}
use Rattle.model_rules.specs.Known.{Made, Fact}
use Rattle.law_member.specs.Learned.{added_at}
use Rattle.std.specs.Prelude.{Option}
use Rattle.model_audit.specs.Taking.{Taking, Mail, Reply, learned, touched, votes_then, votes_due}
use Rattle.simplex_known.specs.declared.known.Known.{Known}
use Rattle.simplex_known.specs.Knows.{Knows}
use Rattle.simplex_due.specs.declared.due.Due.{Due}
use Rattle.simplex_due.specs.declared.reading.Reading.{Reading}
use Rattle.simplex_due.specs.Due.{Steps, StepsAs, Reads, facts_of, votes_in}

pub if_ok : {A E : Type 0} {P Q : A → Type 0} (r : Result A E) → ((x : A) → P x → Q x) → IfOk r P → IfOk r Q
if_ok (Ok x) leads p = leads x p
if_ok (Err e) leads p = tt

module _ (old new : Known) (attests : Subject → Option Attestation) (added : List Certificate) (reading : Reading) (due : Due) where
  votes_read : (taking : Taking) → Reads old taking reading → StepsAs old new attests added reading due
      → (made : Made) (known : List Fact) (now : ℕ) → Knows old made known → attests ≡ made.signs
      → votes_in due ≡ votes_then made (learned made now known taking ++ (map (added_at now) added ++ known)) (touched made known taking)
  votes_read taking reads step made known now k signs =
      step.votes made known now k signs
      ∙ ap (λ facts. votes_then made (facts ++ (map (added_at now) added ++ known)) reading.touched) (reads.learns made known now k)
      ∙ ap (λ at. votes_then made (learned made now known taking ++ (map (added_at now) added ++ known)) at) (reads.touches made known k)

  knows_read : (taking : Taking) → Reads old taking reading → StepsAs old new attests added reading due
      → (made : Made) (known : List Fact) (now : ℕ) → Knows old made known
      → Knows new made (learned made now known taking ++ (map (added_at now) added ++ known))
  knows_read taking reads step made known now k =
      subst (λ facts. Knows new made (facts ++ (map (added_at now) added ++ known))) (reads.learns made known now k) (step.knows made known now k)

  pub steps_mail : (message : Message) → Reads old (Mail message) reading → StepsAs old new attests added reading due
      → Steps old new attests added (Mail message) due
  unfolding votes_due
  steps_mail message reads step =
      record { knows = knows_read (Mail message) reads step; votes = votes_read (Mail message) reads step }

  pub steps_reply : (asked : Asked) (answer : Answer) → Reads old (Reply asked answer) reading → StepsAs old new attests added reading due
      → Steps old new attests added (Reply asked answer) due
  unfolding votes_due
  steps_reply asked answer reads step =
      record { knows = knows_read (Reply asked answer) reads step; votes = votes_read (Reply asked answer) reads step }
