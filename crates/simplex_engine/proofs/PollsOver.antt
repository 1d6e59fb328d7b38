-- What a crew does over any journal, source by source.
use Rattle.std.proofs.Common.{◌≡◌, refl, sym, ◌∙◌, cond, ℕ, Bool, true, false, List, Option, Some, None, inl, inr}
use Rattle.std.specs.Option.{option_map}
use Rattle.simplex_wire.specs.declared.scheme.Scheme as scheme
use Rattle.simplex_types.specs.declared.elector.Elector as elector
use Rattle.simplex_journal.specs.declared.journal.Journal as journal
use Rattle.simplex_mailbox.specs.Mail.{received}
use Rattle.simplex_values.specs.declared.answer.Answer.{Answer}
use Rattle.simplex_values.specs.declared.plan.Channel.{Channel}
use Rattle.simplex_values.specs.declared.plan.Channel.TheVariants as channels
use Rattle.simplex_messages.specs.declared.batcher.Message as batcher_message
use Rattle.simplex_messages.specs.declared.voter.Message as voter_message
use Rattle.simplex_messages.specs.declared.resolver.MailboxMessage.{MailboxMessage}
use Rattle.simplex_messages.specs.declared.resolver.HandlerMessage.{HandlerMessage}
use Rattle.simplex_messages.specs.declared.resolver.ResolverInput.TheVariants as resolver_inputs
use Rattle.simplex_messages.specs.declared.voter.VoterInput.{VoterInput}
use Rattle.simplex_messages.specs.declared.voter.VoterInput.TheVariants as inputs
use Rattle.simplex_messages.specs.declared.handed.Handed.TheVariants as handed
use Rattle.simplex_messages.specs.declared.step.Outcome.{Outcome}
use Rattle.simplex_messages.specs.declared.step.Stop.{Stop}
use Rattle.simplex_messages.specs.declared.step.StepOut.{StepOut}
use Rattle.simplex_transcript.specs.declared.event.StepSource.TheVariants as sources
use Rattle.model_steps.specs.VoterLife.{place_of}
use Rattle.model_steps.specs.Engine.{EngineMade, Did, Took, by_batcher, by_resolver, nothing_held, on_batcher_mail, on_resolver_mail, on_handler_mail, heard, let_in, refused, is_blocked, stepped, replied, batcher_mail, resolver_mail, resolver_past, sections_of}
use Rattle.model_resolver.specs.Views.{is_reached}
use Rattle.model_resolver.specs.Resolver as resolver
use Rattle.simplex_voter.specs.Actor.{next_answer}
use Rattle.simplex_voter.specs.Actor as voter
use Rattle.simplex_engine.specs.declared.crew.Crew.{Crew}
use Rattle.simplex_engine.specs.declared.input.TakenInside.{TakenInside}
use Rattle.simplex_engine.specs.declared.input.TakenInside.TheVariants as taken
use Rattle.simplex_engine.specs.Parts.{parts_of, after_voter_mail}
use Rattle.simplex_engine.specs.Polled.{answer_inside, unless_idle, taken_inside, sections_left}
use Rattle.simplex_engine.specs.Stands.{CrewStands, WorksAs, TellsAs, CrewTakesAs, CrewGivesAs, CrewAnswersAs, VoterFares, CrewFares}
use Rattle.simplex_engine.proofs.Voters.{crew-sections}
use Rattle.simplex_engine.proofs.Polls.{either-did, takes-timer, gives-timer, taken-timer, takes-propose, gives-propose, taken-propose, takes-verify, gives-verify, taken-verify, takes-certify, gives-certify, taken-certify, takes-voter_mail, gives-voter_mail, taken-voter_mail}

-- what the batcher and the resolver are given is nothing of the voter's
quiet-batcher_mail : (made : EngineMade) (past : List Did) (now : ℕ) (stop : Stop) (message : Option batcher_message.Message)
    → sections_left made past stop (on_batcher_mail made past now stop message) ≡ sections_of made past
unfolding sections_left by_batcher
quiet-batcher_mail made past now stop None = refl
quiet-batcher_mail made past now stop (Some message) = refl

quiet-resolver_mail : (made : EngineMade) (past : List Did) (now : ℕ) (stop : Stop) (message : Option MailboxMessage)
    → sections_left made past stop (on_resolver_mail made past now stop message) ≡ sections_of made past
unfolding sections_left by_resolver
quiet-resolver_mail made past now stop None = refl
quiet-resolver_mail made past now stop (Some message) = refl

quiet-handler_mail : (made : EngineMade) (past : List Did) (now : ℕ) (stop : Stop) (message : Option HandlerMessage)
    → sections_left made past stop (on_handler_mail made past now stop message) ≡ sections_of made past
unfolding sections_left by_resolver
quiet-handler_mail made past now stop None = refl
quiet-handler_mail made past now stop (Some message) = refl

quiet-fetch : (made : EngineMade) (past : List Did) (now : ℕ) (stop : Stop) (test : Bool)
    → sections_left made past stop
    (cond test (by_resolver made (resolver_past past) (Took sources.Fetch None) resolver_inputs.Timer now stop) (nothing_held sources.Fetch now stop))
    ≡ sections_of made past
unfolding sections_left by_resolver
quiet-fetch made past now stop true = refl
quiet-fetch made past now stop false = refl

quiet-let_in : (made : EngineMade) (past : List Did) (sender : ℕ) (channel : Channel) (bytes : List ℕ) (now : ℕ) (stop : Stop)
    → sections_left made past stop (let_in made past sender channel bytes now) ≡ sections_of made past
unfolding sections_left let_in by_batcher by_resolver
quiet-let_in made past sender channels.Vote bytes now stop = refl
quiet-let_in made past sender channels.Certificate bytes now stop = refl
quiet-let_in made past sender channels.Resolver bytes now stop = refl

quiet-refused : (made : EngineMade) (past : List Did) (sender : ℕ) (channel : Channel) (bytes : List ℕ) (now : ℕ) (stop : Stop)
    → sections_left made past stop (refused sender channel bytes now) ≡ sections_of made past
unfolding sections_left
quiet-refused made past sender channel bytes now stop = refl

quiet-packet : (made : EngineMade) (past : List Did) (sender : ℕ) (channel : Channel) (bytes : List ℕ) (now : ℕ) (stop : Stop)
    → sections_left made past stop (heard made past sender channel bytes now) ≡ sections_of made past
unfolding heard
quiet-packet made past sender channel bytes now stop =
    either-did (λ did. sections_left made past stop did ≡ sections_of made past) (is_blocked past sender) _ _ (quiet-refused made past sender channel bytes now stop) (quiet-let_in made past sender channel bytes now stop)

module _ {S L J : Type 0} {s : scheme.Ghosts S} {l : elector.Ghosts L} {j : journal.Ghosts J} where
  -- the stop stays what it is, and the journal too
  pub fares-same : {old new : Crew S L J s l j} {stop : Stop} {outcome : Outcome} {out : StepOut} (rule : Stop → EngineMade → List Did → Did) {inside : Option TakenInside}
      → voter.journal_of new.voter ≡ voter.journal_of old.voter → CrewAnswersAs false old (λ made past. sections_left made past stop (rule stop made past)) (j.sections (voter.journal_of old.voter))
      → CrewTakesAs false old new (rule stop) → CrewGivesAs false old (rule stop) outcome out → CrewAnswersAs false old (λ made past. taken_inside made past (rule stop made past)) inside
      → CrewFares old new stop rule outcome inside out
  fares-same {old} {new} {stop} {outcome} {out} rule same left takes gives tells =
      record { turned = stop; becomes = inl refl; gives = gives; takes_inside = tells; leaves = rw same left; takes = λ going. takes }

  -- ---- what a source that is none of the voter's leaves

  -- what is given to the voter is no step of it
  keeps : (crew : Crew S L J s l j) (rule : EngineMade → List Did → Did) (stop : Stop)
      → ((made : EngineMade) (past : List Did) → CrewStands false crew made past → sections_left made past stop (rule made past) ≡ sections_of made past)
      → CrewAnswersAs false crew (λ made past. sections_left made past stop (rule made past)) (j.sections (voter.journal_of crew.voter))
  unfolding CrewStands parts_of sections_of
  keeps crew rule stop quiet = λ made past h. crew-sections crew (parts_of made past) h ∙ sym (quiet made past h)

  pub keeps-batcher_mail : (crew : Crew S L J s l j) (now : ℕ) (stop : Stop) → CrewAnswersAs false crew (λ made past. sections_left made past stop (stepped made past sources.Batcher now stop)) (j.sections (voter.journal_of crew.voter))
  unfolding stepped
  keeps-batcher_mail crew now stop = keeps crew _ stop (λ made past h. quiet-batcher_mail made past now stop (received (batcher_mail made past)))

  pub keeps-resolver_mail : (crew : Crew S L J s l j) (now : ℕ) (stop : Stop) → CrewAnswersAs false crew (λ made past. sections_left made past stop (stepped made past sources.Resolver now stop)) (j.sections (voter.journal_of crew.voter))
  unfolding stepped
  keeps-resolver_mail crew now stop = keeps crew _ stop (λ made past h. quiet-resolver_mail made past now stop (received (resolver_mail made past)))

  pub keeps-handler_mail : (crew : Crew S L J s l j) (now : ℕ) (stop : Stop) → CrewAnswersAs false crew (λ made past. sections_left made past stop (stepped made past sources.Handler now stop)) (j.sections (voter.journal_of crew.voter))
  unfolding stepped
  keeps-handler_mail crew now stop = keeps crew _ stop (λ made past h. quiet-handler_mail made past now stop (resolver.handler_message made.resolver (resolver_past past)))

  pub keeps-fetch : (crew : Crew S L J s l j) (now : ℕ) (stop : Stop) → CrewAnswersAs false crew (λ made past. sections_left made past stop (stepped made past sources.Fetch now stop)) (j.sections (voter.journal_of crew.voter))
  unfolding stepped
  keeps-fetch crew now stop = keeps crew _ stop (λ made past h. quiet-fetch made past now stop (is_reached now (resolver.deadline_after made.resolver (resolver_past past))))

  pub keeps-no_voter_mail : (crew : Crew S L J s l j) (now : ℕ) (stop : Stop) → TellsAs false crew (λ parts. received parts.to_voter) None
      → CrewAnswersAs false crew (λ made past. sections_left made past stop (stepped made past sources.Voter now stop)) (j.sections (voter.journal_of crew.voter))
  unfolding CrewStands parts_of stepped sections_left
  keeps-no_voter_mail crew now stop tells = keeps crew (λ made past. stepped made past sources.Voter now stop) stop (λ made past h. rw (← tells (parts_of made past) h) refl)

  pub keeps-packet : (crew : Crew S L J s l j) (sender : ℕ) (channel : Channel) (bytes : List ℕ) (now : ℕ) (stop : Stop)
      → CrewAnswersAs false crew (λ made past. sections_left made past stop (heard made past sender channel bytes now)) (j.sections (voter.journal_of crew.voter))
  keeps-packet crew sender channel bytes now stop = keeps crew _ stop (λ made past h. quiet-packet made past sender channel bytes now stop)

  pub keeps-answer : (crew : Crew S L J s l j) (number : ℕ) (answer : Answer) (now : ℕ) (stop : Stop)
      → CrewAnswersAs false crew (λ made past. sections_left made past stop (replied number answer now)) (j.sections (voter.journal_of crew.voter))
  unfolding sections_left
  keeps-answer crew number answer now stop = keeps crew (λ made past. replied number answer now) stop (λ made past h. refl)

  -- ---- the voter's sources

  pub fares-timer : {old new : Crew S L J s l j} {now : ℕ} {stop : Stop} {outcome : Outcome} {out : StepOut} → VoterFares old new stop inputs.Timer now outcome out
      → CrewFares old new stop (λ turned made past. stepped made past sources.Timer now turned) outcome (unless_idle outcome (Some taken.Deadline)) out
  unfolding CrewStands parts_of stepped sections_left
  fares-timer f =
      record {
        turned = f.turned;
        becomes = inr f.becomes;
        gives = gives-timer _ _ _ _ _ f.ends;
        takes_inside = taken-timer _ _ _ _ _ f.ends;
        leaves = λ made past h. f.leaves (parts_of made past) h;
        takes = λ going. takes-timer _ _ _ _ _ _ (f.works going) f.ends;
      }

  -- what the voter would take of an answer
  abbrev pub TellsAnswer : Crew S L J s l j → VoterInput → Outcome → Option TakenInside → Type 0
  TellsAnswer crew input outcome inside =
      TellsAs false crew (λ parts. unless_idle outcome (option_map answer_inside (next_answer (place_of parts.voter parts.given).standing input))) inside

  pub fares-propose : {old new : Crew S L J s l j} {now : ℕ} {stop : Stop} {outcome : Outcome} {out : StepOut} {inside : Option TakenInside} → VoterFares old new stop inputs.Propose now outcome out → TellsAnswer old inputs.Propose outcome inside
      → CrewFares old new stop (λ turned made past. stepped made past sources.Propose now turned) outcome inside out
  unfolding CrewStands parts_of stepped sections_left
  fares-propose f tells =
      record {
        turned = f.turned;
        becomes = inr f.becomes;
        gives = gives-propose _ _ _ _ _ f.ends;
        takes_inside = taken-propose _ _ _ _ _ _ f.ends tells;
        leaves = λ made past h. f.leaves (parts_of made past) h;
        takes = λ going. takes-propose _ _ _ _ _ _ (f.works going) f.ends;
      }

  pub fares-verify : {old new : Crew S L J s l j} {now : ℕ} {stop : Stop} {outcome : Outcome} {out : StepOut} {inside : Option TakenInside} → VoterFares old new stop inputs.Verify now outcome out → TellsAnswer old inputs.Verify outcome inside
      → CrewFares old new stop (λ turned made past. stepped made past sources.Verify now turned) outcome inside out
  unfolding CrewStands parts_of stepped sections_left
  fares-verify f tells =
      record {
        turned = f.turned;
        becomes = inr f.becomes;
        gives = gives-verify _ _ _ _ _ f.ends;
        takes_inside = taken-verify _ _ _ _ _ _ f.ends tells;
        leaves = λ made past h. f.leaves (parts_of made past) h;
        takes = λ going. takes-verify _ _ _ _ _ _ (f.works going) f.ends;
      }

  pub fares-certify : {old new : Crew S L J s l j} {now : ℕ} {stop : Stop} {outcome : Outcome} {out : StepOut} {inside : Option TakenInside} → VoterFares old new stop inputs.Certify now outcome out → TellsAnswer old inputs.Certify outcome inside
      → CrewFares old new stop (λ turned made past. stepped made past sources.Certify now turned) outcome inside out
  unfolding CrewStands parts_of stepped sections_left
  fares-certify f tells =
      record {
        turned = f.turned;
        becomes = inr f.becomes;
        gives = gives-certify _ _ _ _ _ f.ends;
        takes_inside = taken-certify _ _ _ _ _ _ f.ends tells;
        leaves = λ made past h. f.leaves (parts_of made past) h;
        takes = λ going. takes-certify _ _ _ _ _ _ (f.works going) f.ends;
      }

  pub fares-voter_mail : {old mid new : Crew S L J s l j} {now : ℕ} {stop : Stop} {outcome : Outcome} {out : StepOut} {message : voter_message.Message} → TellsAs false old (λ parts. received parts.to_voter) (Some message) → WorksAs false old mid after_voter_mail
      → VoterFares mid new stop (inputs.Mail message) now outcome out
      → CrewFares old new stop (λ turned made past. stepped made past sources.Voter now turned) outcome (unless_idle outcome (Some (taken.Message (handed.Voter message)))) out
  unfolding CrewStands parts_of stepped sections_left
  fares-voter_mail tells takes f =
      record {
        turned = f.turned;
        becomes = inr f.becomes;
        gives = gives-voter_mail _ _ _ _ _ _ _ tells takes f.ends;
        takes_inside = taken-voter_mail _ _ _ _ _ _ _ tells takes f.ends;
        leaves = λ made past h. rw (← tells (parts_of made past) h) (f.leaves (after_voter_mail (parts_of made past)) (takes (parts_of made past) h));
        takes = λ going. takes-voter_mail _ _ _ _ _ _ _ _ tells takes (f.works going) f.ends;
      }
