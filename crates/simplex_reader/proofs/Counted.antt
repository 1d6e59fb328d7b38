-- How many records the rules append in a step, by how many votes are due.
use Rattle.std.proofs.Common.{◌≡◌, ℕ, ◌+◌, ◌-◌, ◌<◌, ◌≤◌, Bool, true, false, List, [], ◌∷◌, ◌++◌, map, length, Option, Some, None, refl, sym, ap, ◌∙◌, subst, arith, length-append, lit<, if◌then◌else◌}
use Rattle.std.proofs.lemmas.List.{length-map}
use Rattle.simplex_values.specs.declared.proposal.Subject.{Subject}
use Rattle.simplex_wire.specs.declared.attestation.Attestation.{Attestation}
use Rattle.simplex_wire.specs.declared.certificate.Certificate.{Certificate}
use Rattle.simplex_wire.specs.declared.vote.Vote.{Vote}
use Rattle.simplex_wire.specs.declared.vote.Vote.TheVariants as votes
use Rattle.simplex_wire.specs.declared.vote.Nullify.{Nullify}
use Rattle.simplex_wire.specs.declared.vote.Notarize.{Notarize}
use Rattle.simplex_wire.specs.declared.vote.Finalize.{Finalize}
use Rattle.simplex_wire.specs.declared.artifact.Artifact.TheVariants as artifacts
use Rattle.simplex_values.specs.declared.answer.Answer.TheVariants as answers
use Rattle.simplex_values.specs.declared.round.Round.{Round}
use Rattle.std.specs.Option.{is_some}
use Rattle.simplex_messages.specs.declared.voter.Message.TheVariants as mail
use Rattle.model_rules.specs.Known.{Made, Fact, has_nullified}
use Rattle.model_rules.specs.Views.{current_of}
use Rattle.model_steps.specs.Voter.{adds, record_of}
use Rattle.model_audit.specs.JournalCalls.{vote_record, added_by, records_taken, known_then, records_made}
use Rattle.simplex_transcript.specs.declared.event.StepSource.{StepSource}
use Rattle.model_rules.specs.declared.request.Asked.{Asked}
use Rattle.model_rules.specs.declared.request.Asked.TheVariants as asks
use Rattle.model_rules.specs.Calls.{takes_verdict}
use Rattle.model_rules.specs.Votes.{nullify_at}
use Rattle.law_member.specs.VoterVotes.{votes_of}
use Rattle.model_audit.specs.declared.record.AuditTook.{AuditTook}
use Rattle.model_audit.specs.Taking.{Taking, Deadline, Mail, Reply, acted, touched, given_up, votes_then, votes_due}
use Rattle.simplex_known.specs.declared.known.Known.{Known}
use Rattle.simplex_known.specs.Knows.{Knows}
use Rattle.simplex_due.specs.declared.due.Due.{Due}
use Rattle.simplex_due.specs.Due.{Steps, votes_in}
use Rattle.simplex_reader.specs.Taking.{taking_if, taking_by}
use Rattle.simplex_reader.specs.Pruning.{Counts, CountsIf, repeats}

module _ (made : Made) (now : ℕ) (facts : List Fact) (taking : Taking) where
  abbrev others : List Vote
  others = votes_then made (known_then made now facts taking) (touched made facts taking)

  made_length : length (records_made made now facts taking) ≡ length (records_taken made facts taking) + length others
  made_length =
      length-append (records_taken made facts taking) (map vote_record others)
      ∙ ap (λ n. length (records_taken made facts taking) + n) (length-map others vote_record)

  due_length : length (votes_due made now facts (added_by made facts taking) taking) ≡ length (given_up made facts taking) + length others
  unfolding votes_due
  due_length = length-append (given_up made facts taking) others

  count_is : (records : ℕ) (votes : List Vote) → votes ≡ votes_due made now facts (added_by made facts taking) taking
      → records + length (given_up made facts taking) ≡ length votes + length (records_taken made facts taking)
      → records ≡ length (records_made made now facts taking)
  count_is records votes due number = omega (arith, number, ap length due, made_length, due_length)

-- ---- where something is taken

module _ (old new : Known) (attests : Subject → Option Attestation) (taking : Taking) (due : Due) (records : ℕ) where
  pub counts_of : (added : List Certificate) → records < 16 → Steps old new attests added taking due
      → ((made : Made) (facts : List Fact) → Knows old made facts → added ≡ added_by made facts taking)
      → ((made : Made) (facts : List Fact) → Knows old made facts → attests ≡ made.signs
      → records + length (given_up made facts taking) ≡ length (votes_in due) + length (records_taken made facts taking))
      → Counts old new attests (Some taking) records
  counts_of added few steps is number =
      record {
        few = few;
        knows = λ made facts now k. subst (λ (cs : List Certificate). Knows new made (acted made now facts cs taking)) (is made facts k) (steps.knows made facts now k);
        counts = λ made facts now k signs.
            count_is made now facts taking records (votes_in due)
            (steps.votes made facts now k signs ∙ ap (λ (cs : List Certificate). votes_due made now facts cs taking) (is made facts k))
            (number made facts k signs);
      }

-- ---- by a test

pub counts_none : (kept : Known) (attests : Subject → Option Attestation) → Counts kept kept attests None 0
counts_none kept attests = record { few = lit< tt; knows = λ made facts now k. k; counts = λ made facts now k signs. refl }

pub counts_unless : (kept : Known) (attests : Subject → Option Attestation) (taking : Taking) (test : Bool) → test ≡ false
    → Counts kept kept attests (taking_if test taking) 0
counts_unless kept attests taking test e = subst (λ b. Counts kept kept attests (taking_if b taking) 0) (sym e) (counts_none kept attests)

pub counts_if : (old new : Known) (attests : Subject → Option Attestation) (taking : Taking) (test : Bool) (records : ℕ) → test ≡ true
    → Counts old new attests (Some taking) records → Counts old new attests (taking_if test taking) records
counts_if old new attests taking test records e counts = subst (λ b. Counts old new attests (taking_if b taking) records) (sym e) counts

-- ---- at a deadline

deadline_number : (given others again : ℕ) (has : Bool) → again ≡ (if has then given else 0)
    → (given + others - again) + given ≡ (given + others) + (if has then 0 else given)
deadline_number given others again true e = omega (arith, e)
deadline_number given others again false e = omega (arith, e)

taken_length : (made : Made) (facts : List Fact) → length (records_taken made facts Deadline) ≡ (if has_nullified facts (current_of made facts) then 0 else length (given_up made facts Deadline))
taken_length made facts = at (has_nullified facts (current_of made facts))
  where
    at : (b : Bool) → length (if b then [] else map vote_record (given_up made facts Deadline)) ≡ (if b then 0 else length (given_up made facts Deadline))
    at true = refl
    at false = length-map (given_up made facts Deadline) vote_record

pub counts_deadline : (old new : Known) (attests : Subject → Option Attestation) (due : Due) (votes again : ℕ) → votes ≡ length (votes_in due) → votes ≤ 3
    → Steps old new attests [] Deadline due
    → ((made : Made) (facts : List Fact) → Knows old made facts → attests ≡ made.signs → again ≡ repeats made facts)
    → Counts old new attests (Some Deadline) (votes - again)
counts_deadline old new attests due votes again is few steps repeated =
    counts_of old new attests Deadline due (votes - again) [] (omega (arith, few)) steps (λ made facts k. refl)
    (λ made facts k signs.
    let given = length (given_up made facts Deadline) in
    let more = length (others made 0 facts Deadline) in
    let all : votes ≡ given + more = is ∙ ap length (steps.votes made facts 0 k signs) ∙ due_length made 0 facts Deadline in
    ap (λ n. (n - again) + given) all
    ∙ deadline_number given more again (has_nullified facts (current_of made facts)) (repeated made facts k signs)
    ∙ ap (λ n. n + (if has_nullified facts (current_of made facts) then 0 else given)) (sym all ∙ is)
    ∙ ap (λ n. length (votes_in due) + n) (sym (taken_length made facts)))

-- ---- a certificate

pub counts_added : (old new : Known) (attests : Subject → Option Attestation) (certificate : Certificate) (due : Due) (votes : ℕ) → votes ≡ length (votes_in due) → votes ≤ 3
    → Steps old new attests (certificate ∷ []) (Mail (mail.Verified certificate)) due → CountsIf true old new attests certificate (votes + 1)
counts_added old new attests certificate due votes is few steps =
    record {
      few = omega (arith, few);
      knows = λ made facts now holds k.
          subst (λ (b : Bool). Knows new made (acted made now facts (if b then certificate ∷ [] else []) (Mail (mail.Verified certificate)))) (sym holds) (steps.knows made facts now k);
      counts = λ made facts now holds k signs.
          count_is made now facts (Mail (mail.Verified certificate)) (votes + 1) (votes_in due)
          (steps.votes made facts now k signs
          ∙ ap (λ (b : Bool). votes_due made now facts (if b then certificate ∷ [] else []) (Mail (mail.Verified certificate))) (sym holds))
          (omega (arith, is, ap (λ (b : Bool). length (map record_of (if b then certificate ∷ [] else []))) holds));
    }

pub counts_left : (old new : Known) (attests : Subject → Option Attestation) (certificate : Certificate) (due : Due) (votes : ℕ) → votes ≡ length (votes_in due) → votes ≤ 3
    → Steps old new attests [] (Mail (mail.Verified certificate)) due → CountsIf false old new attests certificate votes
counts_left old new attests certificate due votes is few steps =
    record {
      few = omega (arith, few);
      knows = λ made facts now fails k.
          subst (λ (b : Bool). Knows new made (acted made now facts (if b then certificate ∷ [] else []) (Mail (mail.Verified certificate)))) (sym fails) (steps.knows made facts now k);
      counts = λ made facts now fails k signs.
          count_is made now facts (Mail (mail.Verified certificate)) votes (votes_in due)
          (steps.votes made facts now k signs
          ∙ ap (λ (b : Bool). votes_due made now facts (if b then certificate ∷ [] else []) (Mail (mail.Verified certificate))) (sym fails))
          (omega (arith, is, ap (λ (b : Bool). length (map record_of (if b then certificate ∷ [] else []))) fails));
    }

pub counts_certificate : (old new : Known) (attests : Subject → Option Attestation) (certificate : Certificate) (added : Bool) (records : ℕ)
    → ((made : Made) (facts : List Fact) → Knows old made facts → added ≡ adds made facts certificate)
    → CountsIf added old new attests certificate records → Counts old new attests (Some (Mail (mail.Verified certificate))) records
counts_certificate old new attests certificate added records is counts =
    record {
      few = counts.few;
      knows = λ made facts now k. counts.knows made facts now (sym (is made facts k)) k;
      counts = λ made facts now k signs. counts.counts made facts now (sym (is made facts k)) k signs;
    }

-- ---- by what was taken

pub counts_by : (old new : Known) (attests : Subject → Option Attestation) (source : StepSource) (took is : AuditTook) (asked : Option Asked) (records : ℕ)
    → took ≡ is → Counts old new attests (taking_by source is asked) records → Counts old new attests (taking_by source took asked) records
counts_by old new attests source took is asked records e counts =
    subst (λ (t : AuditTook). Counts old new attests (taking_by source t asked) records) (sym e) counts

-- ---- votes

pub votes_counted : (due : Due) → (if is_some due.nullify then 1 else 0) + (if is_some due.notarize then 1 else 0) + (if is_some due.finalize then 1 else 0) ≡ length (votes_in due)
votes_counted due = at due.nullify due.notarize due.finalize
  where
    at : (a : Option Nullify) (b : Option Notarize) (c : Option Finalize) → (if is_some a then 1 else 0) + (if is_some b then 1 else 0) + (if is_some c then 1 else 0)
        ≡ length (votes_of votes.Nullify a ++ (votes_of votes.Notarize b ++ votes_of votes.Finalize c))
    at None None None = refl
    at None None (Some z) = refl
    at None (Some y) None = refl
    at None (Some y) (Some z) = refl
    at (Some x) None None = refl
    at (Some x) None (Some z) = refl
    at (Some x) (Some y) None = refl
    at (Some x) (Some y) (Some z) = refl

-- nullifies that were appended before
pub repeats_none : (made : Made) (facts : List Fact) (view : ℕ) (again : Bool) → view ≡ current_of made facts → again ≡ has_nullified facts view → again ≡ false → 0 ≡ repeats made facts
repeats_none made facts view again e is unset =
    ap (λ (b : Bool). if b then length (given_up made facts Deadline) else 0) (sym unset ∙ is ∙ ap (has_nullified facts) e)

pub repeats_some : (made : Made) (facts : List Fact) (view : ℕ) (again : Bool) (given : Option Nullify) (count : ℕ) → view ≡ current_of made facts → again ≡ has_nullified facts view → again ≡ true
    → given ≡ nullify_at made view → count ≡ length (votes_of votes.Nullify given) → count ≡ repeats made facts
repeats_some made facts view again given count e is set signed counted =
    counted ∙ ap (λ (o : Option Nullify). length (votes_of votes.Nullify o)) (signed ∙ ap (nullify_at made) e)
    ∙ ap (λ (b : Bool). if b then length (given_up made facts Deadline) else 0) (sym set ∙ is ∙ ap (has_nullified facts) e)

-- a verdict that is taken
pub verdict_counted : (made : Made) (facts : List Fact) (round : Round) (payload : List ℕ) (good takes : Bool) → takes ≡ takes_verdict facts round.view
    → (if takes then 1 else 0) ≡ length (records_taken made facts (Reply (asks.Certify round payload) (answers.Verdict good)))
verdict_counted made facts round payload good takes is = by takes ∙ ap (λ (b : Bool). length (if b then artifacts.Certification round good ∷ [] else [])) is
  where
    by : (b : Bool) → (if b then 1 else 0) ≡ length (if b then artifacts.Certification round good ∷ [] else [])
    by true = refl
    by false = refl
