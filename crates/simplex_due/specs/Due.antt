-- Which votes are due in a step, and what is known behind it.
use Rattle.std.specs.Prelude.{◌≡◌, ◌++◌, ◌∷◌, [], ℕ, ⊤, Bool, List, map, Option, Some, None}
use Rattle.simplex_values.specs.declared.proposal.Subject.{Subject}
use Rattle.simplex_values.specs.declared.answer.Answer.{Answer}
use Rattle.simplex_values.specs.declared.round.Context.{Context}
use Rattle.simplex_wire.specs.declared.attestation.Attestation.{Attestation}
use Rattle.simplex_wire.specs.declared.certificate.Certificate.{Certificate}
use Rattle.simplex_wire.specs.declared.vote.Vote.{Vote}
use Rattle.simplex_wire.specs.declared.vote.Vote.TheVariants as votes
use Rattle.model_rules.specs.Known as facts
use Rattle.model_rules.specs.Known.{Made, Fact}
use Rattle.law_member.specs.Learned.{added_at}
use Rattle.law_member.specs.VoterVotes.{votes_of}
use Rattle.model_rules.specs.declared.request.Asked.TheVariants as asks
use Rattle.model_audit.specs.Taking.{Taking, Reply, acted, learned, touched, votes_due, votes_then}
use Rattle.simplex_known.specs.declared.known.Known.{Known}
use Rattle.simplex_known.specs.Knows.{Knows}
use Rattle.simplex_due.specs.declared.due.Due.{Due}
use Rattle.simplex_due.specs.declared.lessons.Lesson.{Lesson}
use Rattle.simplex_due.specs.declared.lessons.Lesson.TheVariants as lessons
use Rattle.simplex_due.specs.declared.reading.Reading.{Reading}

-- the votes, in the order in which they are given
abbrev pub votes_in : Due → List Vote
votes_in due = votes_of votes.Nullify due.nullify ++ (votes_of votes.Notarize due.notarize ++ votes_of votes.Finalize due.finalize)

-- behind a step that took this and added these certificates, whatever facts were kept, those are that the rules make of it, and
-- these votes are due
pub record Steps (old new : Known) (attests : Subject → Option Attestation) (added : List Certificate) (taking : Taking) (due : Due) : Type 0 where
  pub knows : (made : Made) (known : List Fact) (now : ℕ) → Knows old made known → Knows new made (acted made now known added taking)
  pub votes : (made : Made) (known : List Fact) (now : ℕ) → Knows old made known → attests ≡ made.signs
      → votes_in due ≡ votes_due made now known added taking

-- ---- in parts

abbrev pub fact_of : ℕ → Lesson → Fact
fact_of now (lessons.Taken p) = facts.Taken p
fact_of now (lessons.Answered p) = facts.Answered p
fact_of now (lessons.Approved p) = facts.Approved p
fact_of now (lessons.Judged view good) = facts.Judged view good now

abbrev pub facts_of : ℕ → Option Lesson → List Fact
facts_of now None = []
facts_of now (Some lesson) = fact_of now lesson ∷ []

-- the reading is what the rules learn of it, and the view that it touches
pub record Reads (kept : Known) (taking : Taking) (reading : Reading) : Type 0 where
  pub learns : (made : Made) (known : List Fact) (now : ℕ) → Knows kept made known → facts_of now reading.lesson ≡ learned made now known taking
  pub touches : (made : Made) (known : List Fact) → Knows kept made known → reading.touched ≡ touched made known taking

-- it is, whether the payload was to be prepared or proposed
pub record ReadsPayload (kept : Known) (context : Context) (answer : Answer) (reading : Reading) : Type 0 where
  pub prepared : Reads kept (Reply (asks.Prepare context) answer) reading
  pub proposed : Reads kept (Reply (asks.Propose context) answer) reading

-- what is read is learned behind the certificates, and the votes are those on the view that is touched
pub record StepsAs (old new : Known) (attests : Subject → Option Attestation) (added : List Certificate) (reading : Reading) (due : Due) : Type 0 where
  pub knows : (made : Made) (known : List Fact) (now : ℕ) → Knows old made known
      → Knows new made (facts_of now reading.lesson ++ (map (added_at now) added ++ known))
  pub votes : (made : Made) (known : List Fact) (now : ℕ) → Knows old made known → attests ≡ made.signs
      → votes_in due ≡ votes_then made (facts_of now reading.lesson ++ (map (added_at now) added ++ known)) reading.touched

-- a name for what proofs unfold together
unfoldable pub reading : ⊤
unfolding learned touched
reading = tt
