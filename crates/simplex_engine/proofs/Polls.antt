-- What a crew takes and gives, source by source.
use Rattle.std.proofs.Common.{◌≡◌, ◌∙◌, refl, sym, ℕ, true, false, List, [], ◌∷◌, Option, Some, None}
use Rattle.std.specs.Prelude.{IfNone, Bool, if◌then◌else◌}
use Rattle.std.specs.List.{filter_map}
use Rattle.std.specs.Option.{option_map, option_and_then}
use Rattle.simplex_values.specs.declared.answer.Answer.{Answer}
use Rattle.model_rules.specs.Pending.{Pending, Opened}
use Rattle.model_steps.specs.Voter.{Standing, answer_to, first_answered, takes_answer}
use Rattle.simplex_voter.specs.Actor.{next_answer}
use Rattle.simplex_voter.specs.Arrivals.{with_number}
use Rattle.simplex_engine.specs.declared.input.TakenInside.{TakenInside}
use Rattle.simplex_engine.specs.declared.input.TakenInside.TheVariants as taken
use Rattle.simplex_engine.specs.Polled.{answer_inside, unless_idle, inside, taken_inside}
use Rattle.simplex_wire.specs.declared.scheme.Scheme as scheme
use Rattle.simplex_types.specs.declared.elector.Elector as elector
use Rattle.simplex_journal.specs.declared.journal.Journal as journal
use Rattle.simplex_mailbox.specs.Mail.{Mail, received, after_recv, taken_from}
use Rattle.simplex_mailbox.specs.Waiting.{front}
use Rattle.simplex_messages.specs.declared.batcher.Message as batcher_message
use Rattle.simplex_messages.specs.declared.batcher.BatcherInput.TheVariants as batcher_inputs
use Rattle.simplex_messages.specs.declared.voter.Message as voter_message
use Rattle.simplex_messages.specs.declared.voter.VoterInput.{VoterInput}
use Rattle.simplex_messages.specs.declared.voter.VoterInput.TheVariants as inputs
use Rattle.simplex_messages.specs.declared.resolver.MailboxMessage.{MailboxMessage}
use Rattle.simplex_messages.specs.declared.resolver.HandlerMessage.{HandlerMessage}
use Rattle.simplex_messages.specs.declared.resolver.ResolverInput.TheVariants as resolver_inputs
use Rattle.simplex_messages.specs.declared.handed.Handed.TheVariants as handed
use Rattle.simplex_messages.specs.declared.step.Outcome.{Outcome}
use Rattle.simplex_messages.specs.declared.step.Outcome.TheVariants as outcomes
use Rattle.simplex_messages.specs.declared.step.Stop.{Stop}
use Rattle.simplex_messages.specs.declared.step.Stop.TheVariants as stops
use Rattle.simplex_messages.specs.Step.{no_out}
use Rattle.simplex_values.specs.declared.plan.Channel.{Channel}
use Rattle.simplex_values.specs.declared.plan.Channel.TheVariants as channels
use Rattle.simplex_messages.specs.declared.step.StepOut.{StepOut}
use Rattle.simplex_transcript.specs.declared.event.StepSource.{StepSource}
use Rattle.simplex_transcript.specs.declared.event.StepSource.TheVariants as sources
use Rattle.model_steps.specs.Performed.{Performed}
use Rattle.model_steps.specs.Batcher.{Timed, step_out}
use Rattle.model_steps.specs.VoterLife.{Stepped, place_of, step_given}
use Rattle.model_steps.specs.Engine.{EngineMade, Did, Took, for_voter, by_voter, by_batcher, by_resolver, on_voter, heard, let_in, refused, is_blocked, stepped, replied, voter_in, voter_past, batcher_past, resolver_past, cut_short, takes_reply}
use Rattle.model_resolver.specs.Asks.{holds_member}
use Rattle.model_resolver.specs.Views.{is_reached}
use Rattle.model_resolver.specs.Resolver as resolver
use Rattle.simplex_engine.specs.declared.crew.Crew.{Crew}
use Rattle.simplex_engine.specs.Parts.{parts_of, after_voter, after_answer, after_batcher, after_resolver, after_voter_mail, after_batcher_mail, after_resolver_mail, after_handler_mail, ended}
use Rattle.simplex_engine.specs.Stands.{CrewStands, WorksAs, EndsAs, TellsAs, CrewTakesAs, CrewStaysAs, CrewGivesAs, CrewAnswersAs}
use Rattle.simplex_engine.proofs.VoterMail.{step-quiet}
use Rattle.simplex_engine.proofs.BatcherMail.{step-tells, cut-tells}
use Rattle.simplex_engine.proofs.ResolverMail.{resolver-tells, cut-held}
use Rattle.simplex_engine.proofs.More.{more-timer, more-propose, more-verify, more-certify, more-voter_mail, more-batcher_mail, more-vote, more-certificate, more-packet, more-resolver_mail, more-handler_mail, more-fetch, more-replied, more-voter_idle, more-batcher_idle, more-resolver_idle, more-handler_idle, more-fetch_idle, more-refused}

-- a mailbox that holds nothing is as it was
pub idle-recv : {M : Type 0} (skips : M → Bool) (mail : Mail M) (ready : List M) → None ≡ front ready → mail ≡ taken_from skips ready mail
unfolding taken_from
idle-recv skips mail [] e = refl
idle-recv skips mail (message ∷ ready) e = cc

pub recv-none : {M : Type 0} (skips : M → Bool) (mail : Mail M) (message : Option M) → message ≡ received mail → IfNone message (after_recv skips mail ≡ mail)
unfolding after_recv
recv-none skips mail None e = sym (idle-recv skips mail mail.ready e)
recv-none skips mail (Some message) e = tt

pub if-none : {M : Type 0} {P Q : Type 0} (message : Option M) → (P → Q) → IfNone message P → IfNone message Q
if-none None f p = f p
if-none (Some message) f p = tt

-- ---- answers of the application

map-numbered : (number : ℕ) (x : Option Answer) → option_map answer_inside (option_map (with_number number) x) ≡ option_map (λ a. taken.Answer number a) x
map-numbered number None = refl
map-numbered number (Some answer) = refl

map-pending : (o : Option Pending) (answer : ℕ → Option Answer)
    → option_map answer_inside (option_and_then (λ p. option_map (with_number p.number) (answer p.number)) o)
    ≡ option_and_then (λ p. option_map (λ a. taken.Answer p.number a) (answer p.number)) o
map-pending None answer = refl
map-pending (Some p) answer = map-numbered p.number (answer p.number)

map-opened : (o : Option Opened) (answer : ℕ → Option Answer)
    → option_map answer_inside (option_and_then (λ v. option_map (with_number v.number) (answer v.number)) o)
    ≡ option_and_then (λ v. option_map (λ a. taken.Answer v.number a) (answer v.number)) o
map-opened None answer = refl
map-opened (Some v) answer = map-numbered v.number (answer v.number)

map-first : (o : Option (Opened × Answer))
    → option_map answer_inside (option_map (λ given. (given.0.number, given.1)) o) ≡ option_map (λ given. taken.Answer given.0.number given.1) o
map-first None = refl
map-first (Some given) = refl

inside-propose : (st : Standing) → option_map answer_inside (next_answer st inputs.Propose) ≡ inside st (Took sources.Propose None)
unfolding inside next_answer
inside-propose st = map-pending st.desk.proposal (answer_to st.answers)

inside-verify : (st : Standing) → option_map answer_inside (next_answer st inputs.Verify) ≡ inside st (Took sources.Verify None)
unfolding inside next_answer
inside-verify st = map-opened st.desk.verify (answer_to st.answers)

inside-certify : (st : Standing) → option_map answer_inside (next_answer st inputs.Certify) ≡ inside st (Took sources.Certify None)
unfolding inside next_answer
inside-certify st = map-first (first_answered st.desk.certify st.answers)

-- ---- packets take nothing from inside

taken-let_in : (made : EngineMade) (past : List Did) (sender : ℕ) (channel : Channel) (bytes : List ℕ) (now : ℕ)
    → taken_inside made past (let_in made past sender channel bytes now) ≡ None
unfolding let_in by_batcher by_resolver taken_inside inside
taken-let_in made past sender channels.Vote bytes now = refl
taken-let_in made past sender channels.Certificate bytes now = refl
taken-let_in made past sender channels.Resolver bytes now = refl

taken-refused : (made : EngineMade) (past : List Did) (sender : ℕ) (channel : Channel) (bytes : List ℕ) (now : ℕ)
    → taken_inside made past (refused sender channel bytes now) ≡ None
unfolding taken_inside inside
taken-refused made past sender channel bytes now = refl

-- what holds of both holds of the one of them
pub either-did : (P : Did → Type 0) (b : Bool) (x y : Did) → P x → P y → P (if b then x else y)
either-did P true x y p q = p
either-did P false x y p q = q

taken-heard : (made : EngineMade) (past : List Did) (sender : ℕ) (channel : Channel) (bytes : List ℕ) (now : ℕ)
    → taken_inside made past (heard made past sender channel bytes now) ≡ None
unfolding heard
taken-heard made past sender channel bytes now =
    either-did (λ did. taken_inside made past did ≡ None) (is_blocked past sender) _ _ (taken-refused made past sender channel bytes now) (taken-let_in made past sender channel bytes now)

module _ {S L J : Type 0} {s : scheme.Ghosts S} {l : elector.Ghosts L} {j : journal.Ghosts J} where
  -- whether a deadline of the fetcher is reached
  abbrev pub IsDue : Bool → Crew S L J s l j → ℕ → Bool → Type 0
  IsDue told crew now test = TellsAs told crew (λ parts. is_reached now (resolver.deadline_after parts.resolver parts.asked)) test

  pub taken-packet : (told : Bool) (crew : Crew S L J s l j) (sender : ℕ) (channel : Channel) (bytes : List ℕ) (now : ℕ)
      → CrewAnswersAs told crew (λ made past. taken_inside made past (heard made past sender channel bytes now)) None
  taken-packet told crew sender channel bytes now = λ made past h. sym (taken-heard made past sender channel bytes now)

module _ {S L J : Type 0} {s : scheme.Ghosts S} {l : elector.Ghosts L} {j : journal.Ghosts J} {told : Bool} where
  -- a step of the voter that took no message
  takes-voter : (old new : Crew S L J s l j) (source : StepSource) (input : VoterInput) (now : ℕ) (stop : Stop) (outcome : Outcome) (out : StepOut)
      → ((made : EngineMade) (past : List Did) (p : Performed) → filter_map for_voter p.out.handed ≡ []
      → parts_of made (by_voter (Took source None) now stop p ∷ past) ≡ after_voter (Stepped input now stop) p.out (parts_of made past))
      → WorksAs told old new (after_voter (Stepped input now stop) out)
      → EndsAs told old (λ parts. ended (step_given parts.voter parts.given input now stop)) outcome out
      → CrewTakesAs told old new (λ made past. on_voter made past source input now stop)
  unfolding CrewStands parts_of
  takes-voter old new source input now stop outcome out more works ends = λ made past h.
      let gives = (ends (parts_of made past) h).1 in
      rw (more made past (step_given (voter_in made past) (voter_past past) input now stop) (step-quiet _ _ _ _ _))
      (rw (← gives) (works (parts_of made past) h))

  gives-voter : (old : Crew S L J s l j) (source : StepSource) (input : VoterInput) (now : ℕ) (stop : Stop) (outcome : Outcome) (out : StepOut)
      → EndsAs told old (λ parts. ended (step_given parts.voter parts.given input now stop)) outcome out
      → CrewGivesAs told old (λ made past. on_voter made past source input now stop) outcome out
  unfolding CrewStands parts_of
  gives-voter old source input now stop outcome out ends = λ made past h. ends (parts_of made past) h

  -- a step of the voter on a message
  pub takes-voter_mail : (old mid new : Crew S L J s l j) (message : voter_message.Message) (now : ℕ) (stop : Stop) (outcome : Outcome) (out : StepOut)
      → TellsAs told old (λ parts. received parts.to_voter) (Some message)
      → WorksAs told old mid after_voter_mail
      → WorksAs told mid new (after_voter (Stepped (inputs.Mail message) now stop) out)
      → EndsAs told mid (λ parts. ended (step_given parts.voter parts.given (inputs.Mail message) now stop)) outcome out
      → CrewTakesAs told old new (λ made past. stepped made past sources.Voter now stop)
  unfolding CrewStands parts_of stepped
  takes-voter_mail old mid new message now stop outcome out tells takes works ends = λ made past h.
      let held = takes (parts_of made past) h in
      let gives = (ends (after_voter_mail (parts_of made past)) held).1 in
      rw (← tells (parts_of made past) h)
      (rw (more-voter_mail made past message now stop (step_given (voter_in made past) (voter_past past) (inputs.Mail message) now stop) (step-quiet _ _ _ _ _))
      (rw (← gives) (works (after_voter_mail (parts_of made past)) held)))

  pub gives-voter_mail : (old mid : Crew S L J s l j) (message : voter_message.Message) (now : ℕ) (stop : Stop) (outcome : Outcome) (out : StepOut)
      → TellsAs told old (λ parts. received parts.to_voter) (Some message)
      → WorksAs told old mid after_voter_mail
      → EndsAs told mid (λ parts. ended (step_given parts.voter parts.given (inputs.Mail message) now stop)) outcome out
      → CrewGivesAs told old (λ made past. stepped made past sources.Voter now stop) outcome out
  unfolding CrewStands parts_of stepped
  gives-voter_mail old mid message now stop outcome out tells takes ends = λ made past h.
      rw (← tells (parts_of made past) h) (ends (after_voter_mail (parts_of made past)) (takes (parts_of made past) h))

  -- a step of the batcher on a message
  pub takes-batcher_mail : (old mid new : Crew S L J s l j) (message : batcher_message.Message) (now : ℕ) (stop : Stop) (outcome : Outcome) (out : StepOut)
      → TellsAs told old (λ parts. received parts.to_batcher) (Some message)
      → WorksAs told old mid after_batcher_mail
      → WorksAs told mid new (after_batcher (record { input = batcher_inputs.Mail message; now = now }) out)
      → EndsAs told mid (λ parts. cut_short stop (step_out parts.batcher parts.timed (record { input = batcher_inputs.Mail message; now = now }))) outcome out
      → CrewTakesAs told old new (λ made past. stepped made past sources.Batcher now stop)
  unfolding CrewStands parts_of stepped by_batcher
  takes-batcher_mail old mid new message now stop outcome out tells takes works ends = λ made past h.
      let given : Timed = record { input = batcher_inputs.Mail message; now = now } in
      let whole : StepOut = step_out made.batcher (batcher_past past) given in
      let held = takes (parts_of made past) h in
      let gives = (ends (after_batcher_mail (parts_of made past)) held).1 in
      rw (← tells (parts_of made past) h)
      (rw (more-batcher_mail made past message now stop (cut_short stop whole).0 (cut_short stop whole).1 (cut-tells stop whole (step-tells made.batcher (batcher_past past) given)))
      (rw (← gives) (works (after_batcher_mail (parts_of made past)) held)))

  pub gives-batcher_mail : (old mid : Crew S L J s l j) (message : batcher_message.Message) (now : ℕ) (stop : Stop) (outcome : Outcome) (out : StepOut)
      → TellsAs told old (λ parts. received parts.to_batcher) (Some message)
      → WorksAs told old mid after_batcher_mail
      → EndsAs told mid (λ parts. cut_short stop (step_out parts.batcher parts.timed (record { input = batcher_inputs.Mail message; now = now }))) outcome out
      → CrewGivesAs told old (λ made past. stepped made past sources.Batcher now stop) outcome out
  unfolding CrewStands parts_of stepped by_batcher
  gives-batcher_mail old mid message now stop outcome out tells takes ends = λ made past h.
      rw (← tells (parts_of made past) h) (ends (after_batcher_mail (parts_of made past)) (takes (parts_of made past) h))

  -- ---- what was taken from inside

  pub taken-timer : (old : Crew S L J s l j) (now : ℕ) (stop : Stop) (outcome : Outcome) (out : StepOut)
      → EndsAs told old (λ parts. ended (step_given parts.voter parts.given inputs.Timer now stop)) outcome out
      → CrewAnswersAs told old (λ made past. taken_inside made past (stepped made past sources.Timer now stop)) (unless_idle outcome (Some taken.Deadline))
  unfolding CrewStands parts_of stepped taken_inside inside
  taken-timer old now stop outcome out ends = λ made past h. rw (ends (parts_of made past) h).0 refl

  taken-answer : (old : Crew S L J s l j) (source : StepSource) (input : VoterInput) (now : ℕ) (stop : Stop) (outcome : Outcome) (out : StepOut) (given : Option TakenInside)
      → ((st : Standing) → option_map answer_inside (next_answer st input) ≡ inside st (Took source None))
      → EndsAs told old (λ parts. ended (step_given parts.voter parts.given input now stop)) outcome out
      → TellsAs told old (λ parts. unless_idle outcome (option_map answer_inside (next_answer (place_of parts.voter parts.given).standing input))) given
      → CrewAnswersAs told old (λ made past. taken_inside made past (on_voter made past source input now stop)) given
  unfolding CrewStands parts_of taken_inside
  taken-answer old source input now stop outcome out given same ends tells = λ made past h.
      rw (tells (parts_of made past) h, (ends (parts_of made past) h).0, same) refl

  pub taken-voter_mail : (old mid : Crew S L J s l j) (message : voter_message.Message) (now : ℕ) (stop : Stop) (outcome : Outcome) (out : StepOut)
      → TellsAs told old (λ parts. received parts.to_voter) (Some message)
      → WorksAs told old mid after_voter_mail
      → EndsAs told mid (λ parts. ended (step_given parts.voter parts.given (inputs.Mail message) now stop)) outcome out
      → CrewAnswersAs told old (λ made past. taken_inside made past (stepped made past sources.Voter now stop)) (unless_idle outcome (Some (taken.Message (handed.Voter message))))
  unfolding CrewStands parts_of stepped taken_inside inside
  taken-voter_mail old mid message now stop outcome out tells takes ends = λ made past h.
      rw (← tells (parts_of made past) h) (rw (ends (after_voter_mail (parts_of made past)) (takes (parts_of made past) h)).0 refl)

  pub taken-batcher_mail : (old mid : Crew S L J s l j) (message : batcher_message.Message) (now : ℕ) (stop : Stop) (outcome : Outcome) (out : StepOut)
      → TellsAs told old (λ parts. received parts.to_batcher) (Some message)
      → WorksAs told old mid after_batcher_mail
      → EndsAs told mid (λ parts. cut_short stop (step_out parts.batcher parts.timed (record { input = batcher_inputs.Mail message; now = now }))) outcome out
      → CrewAnswersAs told old (λ made past. taken_inside made past (stepped made past sources.Batcher now stop)) (unless_idle outcome (Some (taken.Message (handed.Batcher message))))
  unfolding CrewStands parts_of stepped by_batcher taken_inside inside
  taken-batcher_mail old mid message now stop outcome out tells takes ends = λ made past h.
      rw (← tells (parts_of made past) h) (rw (ends (after_batcher_mail (parts_of made past)) (takes (parts_of made past) h)).0 refl)

  -- ---- each source of an answer

  pub takes-timer : (old new : Crew S L J s l j) (now : ℕ) (stop : Stop) (outcome : Outcome) (out : StepOut)
      → WorksAs told old new (after_voter (Stepped inputs.Timer now stop) out)
      → EndsAs told old (λ parts. ended (step_given parts.voter parts.given inputs.Timer now stop)) outcome out
      → CrewTakesAs told old new (λ made past. stepped made past sources.Timer now stop)
  unfolding stepped
  takes-timer old new now stop outcome out works ends = takes-voter old new sources.Timer inputs.Timer now stop outcome out (λ made past p quiet. more-timer made past now stop p quiet) works ends

  pub takes-propose : (old new : Crew S L J s l j) (now : ℕ) (stop : Stop) (outcome : Outcome) (out : StepOut)
      → WorksAs told old new (after_voter (Stepped inputs.Propose now stop) out)
      → EndsAs told old (λ parts. ended (step_given parts.voter parts.given inputs.Propose now stop)) outcome out
      → CrewTakesAs told old new (λ made past. stepped made past sources.Propose now stop)
  unfolding stepped
  takes-propose old new now stop outcome out works ends = takes-voter old new sources.Propose inputs.Propose now stop outcome out (λ made past p quiet. more-propose made past now stop p quiet) works ends

  pub takes-verify : (old new : Crew S L J s l j) (now : ℕ) (stop : Stop) (outcome : Outcome) (out : StepOut)
      → WorksAs told old new (after_voter (Stepped inputs.Verify now stop) out)
      → EndsAs told old (λ parts. ended (step_given parts.voter parts.given inputs.Verify now stop)) outcome out
      → CrewTakesAs told old new (λ made past. stepped made past sources.Verify now stop)
  unfolding stepped
  takes-verify old new now stop outcome out works ends = takes-voter old new sources.Verify inputs.Verify now stop outcome out (λ made past p quiet. more-verify made past now stop p quiet) works ends

  pub takes-certify : (old new : Crew S L J s l j) (now : ℕ) (stop : Stop) (outcome : Outcome) (out : StepOut)
      → WorksAs told old new (after_voter (Stepped inputs.Certify now stop) out)
      → EndsAs told old (λ parts. ended (step_given parts.voter parts.given inputs.Certify now stop)) outcome out
      → CrewTakesAs told old new (λ made past. stepped made past sources.Certify now stop)
  unfolding stepped
  takes-certify old new now stop outcome out works ends = takes-voter old new sources.Certify inputs.Certify now stop outcome out (λ made past p quiet. more-certify made past now stop p quiet) works ends

  pub gives-timer : (old : Crew S L J s l j) (now : ℕ) (stop : Stop) (outcome : Outcome) (out : StepOut)
      → EndsAs told old (λ parts. ended (step_given parts.voter parts.given inputs.Timer now stop)) outcome out
      → CrewGivesAs told old (λ made past. stepped made past sources.Timer now stop) outcome out
  unfolding stepped
  gives-timer old now stop outcome out ends = gives-voter old sources.Timer inputs.Timer now stop outcome out ends

  pub gives-propose : (old : Crew S L J s l j) (now : ℕ) (stop : Stop) (outcome : Outcome) (out : StepOut)
      → EndsAs told old (λ parts. ended (step_given parts.voter parts.given inputs.Propose now stop)) outcome out
      → CrewGivesAs told old (λ made past. stepped made past sources.Propose now stop) outcome out
  unfolding stepped
  gives-propose old now stop outcome out ends = gives-voter old sources.Propose inputs.Propose now stop outcome out ends

  pub gives-verify : (old : Crew S L J s l j) (now : ℕ) (stop : Stop) (outcome : Outcome) (out : StepOut)
      → EndsAs told old (λ parts. ended (step_given parts.voter parts.given inputs.Verify now stop)) outcome out
      → CrewGivesAs told old (λ made past. stepped made past sources.Verify now stop) outcome out
  unfolding stepped
  gives-verify old now stop outcome out ends = gives-voter old sources.Verify inputs.Verify now stop outcome out ends

  pub gives-certify : (old : Crew S L J s l j) (now : ℕ) (stop : Stop) (outcome : Outcome) (out : StepOut)
      → EndsAs told old (λ parts. ended (step_given parts.voter parts.given inputs.Certify now stop)) outcome out
      → CrewGivesAs told old (λ made past. stepped made past sources.Certify now stop) outcome out
  unfolding stepped
  gives-certify old now stop outcome out ends = gives-voter old sources.Certify inputs.Certify now stop outcome out ends

  pub taken-propose : (old : Crew S L J s l j) (now : ℕ) (stop : Stop) (outcome : Outcome) (out : StepOut) (given : Option TakenInside)
      → EndsAs told old (λ parts. ended (step_given parts.voter parts.given inputs.Propose now stop)) outcome out
      → TellsAs told old (λ parts. unless_idle outcome (option_map answer_inside (next_answer (place_of parts.voter parts.given).standing inputs.Propose))) given
      → CrewAnswersAs told old (λ made past. taken_inside made past (stepped made past sources.Propose now stop)) given
  unfolding stepped
  taken-propose old now stop outcome out given ends tells = taken-answer old sources.Propose inputs.Propose now stop outcome out given inside-propose ends tells

  pub taken-verify : (old : Crew S L J s l j) (now : ℕ) (stop : Stop) (outcome : Outcome) (out : StepOut) (given : Option TakenInside)
      → EndsAs told old (λ parts. ended (step_given parts.voter parts.given inputs.Verify now stop)) outcome out
      → TellsAs told old (λ parts. unless_idle outcome (option_map answer_inside (next_answer (place_of parts.voter parts.given).standing inputs.Verify))) given
      → CrewAnswersAs told old (λ made past. taken_inside made past (stepped made past sources.Verify now stop)) given
  unfolding stepped
  taken-verify old now stop outcome out given ends tells = taken-answer old sources.Verify inputs.Verify now stop outcome out given inside-verify ends tells

  pub taken-certify : (old : Crew S L J s l j) (now : ℕ) (stop : Stop) (outcome : Outcome) (out : StepOut) (given : Option TakenInside)
      → EndsAs told old (λ parts. ended (step_given parts.voter parts.given inputs.Certify now stop)) outcome out
      → TellsAs told old (λ parts. unless_idle outcome (option_map answer_inside (next_answer (place_of parts.voter parts.given).standing inputs.Certify))) given
      → CrewAnswersAs told old (λ made past. taken_inside made past (stepped made past sources.Certify now stop)) given
  unfolding stepped
  taken-certify old now stop outcome out given ends tells = taken-answer old sources.Certify inputs.Certify now stop outcome out given inside-certify ends tells

  -- ---- a mailbox that holds nothing

  pub takes-no_voter_mail : (old new : Crew S L J s l j) (now : ℕ) (stop : Stop) → TellsAs told old (λ parts. received parts.to_voter) None → WorksAs told old new (λ parts. parts)
      → CrewTakesAs told old new (λ made past. stepped made past sources.Voter now stop)
  unfolding CrewStands parts_of stepped
  takes-no_voter_mail old new now stop tells works = λ made past h.
      rw (← tells (parts_of made past) h) (rw (more-voter_idle made past now stop) (works (parts_of made past) h))

  pub gives-no_voter_mail : (old : Crew S L J s l j) (now : ℕ) (stop : Stop) → TellsAs told old (λ parts. received parts.to_voter) None
      → CrewGivesAs told old (λ made past. stepped made past sources.Voter now stop) outcomes.Idle no_out
  unfolding CrewStands parts_of stepped
  gives-no_voter_mail old now stop tells = λ made past h. rw (← tells (parts_of made past) h) (refl, refl)

  pub taken-no_voter_mail : (old : Crew S L J s l j) (now : ℕ) (stop : Stop) → TellsAs told old (λ parts. received parts.to_voter) None
      → CrewAnswersAs told old (λ made past. taken_inside made past (stepped made past sources.Voter now stop)) None
  unfolding CrewStands parts_of stepped taken_inside
  taken-no_voter_mail old now stop tells = λ made past h. rw (← tells (parts_of made past) h) refl

  pub takes-no_batcher_mail : (old new : Crew S L J s l j) (now : ℕ) (stop : Stop) → TellsAs told old (λ parts. received parts.to_batcher) None → WorksAs told old new (λ parts. parts)
      → CrewTakesAs told old new (λ made past. stepped made past sources.Batcher now stop)
  unfolding CrewStands parts_of stepped
  takes-no_batcher_mail old new now stop tells works = λ made past h.
      rw (← tells (parts_of made past) h) (rw (more-batcher_idle made past now stop) (works (parts_of made past) h))

  pub gives-no_batcher_mail : (old : Crew S L J s l j) (now : ℕ) (stop : Stop) → TellsAs told old (λ parts. received parts.to_batcher) None
      → CrewGivesAs told old (λ made past. stepped made past sources.Batcher now stop) outcomes.Idle no_out
  unfolding CrewStands parts_of stepped
  gives-no_batcher_mail old now stop tells = λ made past h. rw (← tells (parts_of made past) h) (refl, refl)

  pub taken-no_batcher_mail : (old : Crew S L J s l j) (now : ℕ) (stop : Stop) → TellsAs told old (λ parts. received parts.to_batcher) None
      → CrewAnswersAs told old (λ made past. taken_inside made past (stepped made past sources.Batcher now stop)) None
  unfolding CrewStands parts_of stepped taken_inside
  taken-no_batcher_mail old now stop tells = λ made past h. rw (← tells (parts_of made past) h) refl

  -- ---- the resolver's sources

  pub takes-resolver_mail : (old mid new : Crew S L J s l j) (message : MailboxMessage) (now : ℕ) (stop : Stop) (outcome : Outcome) (out : StepOut)
      → TellsAs told old (λ parts. received parts.to_resolver) (Some message)
      → WorksAs told old mid after_resolver_mail
      → WorksAs told mid new (after_resolver (resolver.Stepped (resolver_inputs.Mail message) now) out)
      → EndsAs told mid (λ parts. cut_short stop (resolver.step_out parts.resolver parts.asked (resolver_inputs.Mail message) now)) outcome out
      → CrewTakesAs told old new (λ made past. stepped made past sources.Resolver now stop)
  unfolding CrewStands parts_of stepped by_resolver
  takes-resolver_mail old mid new message now stop outcome out tells takes works ends = λ made past h.
      let whole : StepOut = resolver.step_out made.resolver (resolver_past past) (resolver_inputs.Mail message) now in
      let held = takes (parts_of made past) h in
      let gives = (ends (after_resolver_mail (parts_of made past)) held).1 in
      rw (← tells (parts_of made past) h)
      (rw (more-resolver_mail made past message now stop (cut_short stop whole).0 (cut_short stop whole).1 (cut-held stop whole) (cut-tells stop whole (resolver-tells made.resolver (resolver_past past) _ now)))
      (rw (← gives) (works (after_resolver_mail (parts_of made past)) held)))

  pub gives-resolver_mail : (old mid : Crew S L J s l j) (message : MailboxMessage) (now : ℕ) (stop : Stop) (outcome : Outcome) (out : StepOut)
      → TellsAs told old (λ parts. received parts.to_resolver) (Some message)
      → WorksAs told old mid after_resolver_mail
      → EndsAs told mid (λ parts. cut_short stop (resolver.step_out parts.resolver parts.asked (resolver_inputs.Mail message) now)) outcome out
      → CrewGivesAs told old (λ made past. stepped made past sources.Resolver now stop) outcome out
  unfolding CrewStands parts_of stepped by_resolver
  gives-resolver_mail old mid message now stop outcome out tells takes ends = λ made past h.
      rw (← tells (parts_of made past) h) (ends (after_resolver_mail (parts_of made past)) (takes (parts_of made past) h))

  pub taken-resolver_mail : (old mid : Crew S L J s l j) (message : MailboxMessage) (now : ℕ) (stop : Stop) (outcome : Outcome) (out : StepOut)
      → TellsAs told old (λ parts. received parts.to_resolver) (Some message)
      → WorksAs told old mid after_resolver_mail
      → EndsAs told mid (λ parts. cut_short stop (resolver.step_out parts.resolver parts.asked (resolver_inputs.Mail message) now)) outcome out
      → CrewAnswersAs told old (λ made past. taken_inside made past (stepped made past sources.Resolver now stop)) (unless_idle outcome (Some (taken.Message (handed.Resolver message))))
  unfolding CrewStands parts_of stepped by_resolver taken_inside inside
  taken-resolver_mail old mid message now stop outcome out tells takes ends = λ made past h.
      rw (← tells (parts_of made past) h) (rw (ends (after_resolver_mail (parts_of made past)) (takes (parts_of made past) h)).0 refl)

  pub takes-no_resolver_mail : (old new : Crew S L J s l j) (now : ℕ) (stop : Stop) → TellsAs told old (λ parts. received parts.to_resolver) None → WorksAs told old new (λ parts. parts)
      → CrewTakesAs told old new (λ made past. stepped made past sources.Resolver now stop)
  unfolding CrewStands parts_of stepped
  takes-no_resolver_mail old new now stop tells works = λ made past h.
      rw (← tells (parts_of made past) h) (rw (more-resolver_idle made past now stop) (works (parts_of made past) h))

  pub gives-no_resolver_mail : (old : Crew S L J s l j) (now : ℕ) (stop : Stop) → TellsAs told old (λ parts. received parts.to_resolver) None
      → CrewGivesAs told old (λ made past. stepped made past sources.Resolver now stop) outcomes.Idle no_out
  unfolding CrewStands parts_of stepped
  gives-no_resolver_mail old now stop tells = λ made past h. rw (← tells (parts_of made past) h) (refl, refl)

  pub taken-no_resolver_mail : (old : Crew S L J s l j) (now : ℕ) (stop : Stop) → TellsAs told old (λ parts. received parts.to_resolver) None
      → CrewAnswersAs told old (λ made past. taken_inside made past (stepped made past sources.Resolver now stop)) None
  unfolding CrewStands parts_of stepped taken_inside
  taken-no_resolver_mail old now stop tells = λ made past h. rw (← tells (parts_of made past) h) refl

  pub takes-handler_mail : (old mid new : Crew S L J s l j) (message : HandlerMessage) (now : ℕ) (stop : Stop) (outcome : Outcome) (out : StepOut)
      → TellsAs told old (λ parts. resolver.handler_message parts.resolver parts.asked) (Some message)
      → WorksAs told old mid after_handler_mail
      → WorksAs told mid new (after_resolver (resolver.Stepped (resolver_inputs.Handler message) now) out)
      → EndsAs told mid (λ parts. cut_short stop (resolver.step_out parts.resolver parts.asked (resolver_inputs.Handler message) now)) outcome out
      → CrewTakesAs told old new (λ made past. stepped made past sources.Handler now stop)
  unfolding CrewStands parts_of stepped by_resolver
  takes-handler_mail old mid new message now stop outcome out tells takes works ends = λ made past h.
      let whole : StepOut = resolver.step_out made.resolver (resolver.HandlerTaken ∷ resolver_past past) (resolver_inputs.Handler message) now in
      let held = takes (parts_of made past) h in
      let gives = (ends (after_handler_mail (parts_of made past)) held).1 in
      rw (← tells (parts_of made past) h)
      (rw (more-handler_mail made past message now stop (cut_short stop whole).0 (cut_short stop whole).1 (cut-held stop whole) (cut-tells stop whole (resolver-tells made.resolver (resolver.HandlerTaken ∷ resolver_past past) _ now)))
      (rw (← gives) (works (after_handler_mail (parts_of made past)) held)))

  pub gives-handler_mail : (old mid : Crew S L J s l j) (message : HandlerMessage) (now : ℕ) (stop : Stop) (outcome : Outcome) (out : StepOut)
      → TellsAs told old (λ parts. resolver.handler_message parts.resolver parts.asked) (Some message)
      → WorksAs told old mid after_handler_mail
      → EndsAs told mid (λ parts. cut_short stop (resolver.step_out parts.resolver parts.asked (resolver_inputs.Handler message) now)) outcome out
      → CrewGivesAs told old (λ made past. stepped made past sources.Handler now stop) outcome out
  unfolding CrewStands parts_of stepped by_resolver
  gives-handler_mail old mid message now stop outcome out tells takes ends = λ made past h.
      rw (← tells (parts_of made past) h) (ends (after_handler_mail (parts_of made past)) (takes (parts_of made past) h))

  pub taken-handler_mail : (old mid : Crew S L J s l j) (message : HandlerMessage) (now : ℕ) (stop : Stop) (outcome : Outcome) (out : StepOut)
      → TellsAs told old (λ parts. resolver.handler_message parts.resolver parts.asked) (Some message)
      → WorksAs told old mid after_handler_mail
      → EndsAs told mid (λ parts. cut_short stop (resolver.step_out parts.resolver parts.asked (resolver_inputs.Handler message) now)) outcome out
      → CrewAnswersAs told old (λ made past. taken_inside made past (stepped made past sources.Handler now stop)) (unless_idle outcome (Some (taken.Message (handed.Handler message))))
  unfolding CrewStands parts_of stepped by_resolver taken_inside inside
  taken-handler_mail old mid message now stop outcome out tells takes ends = λ made past h.
      rw (← tells (parts_of made past) h) (rw (ends (after_handler_mail (parts_of made past)) (takes (parts_of made past) h)).0 refl)

  pub takes-no_handler_mail : (old new : Crew S L J s l j) (now : ℕ) (stop : Stop) → TellsAs told old (λ parts. resolver.handler_message parts.resolver parts.asked) None → WorksAs told old new (λ parts. parts)
      → CrewTakesAs told old new (λ made past. stepped made past sources.Handler now stop)
  unfolding CrewStands parts_of stepped
  takes-no_handler_mail old new now stop tells works = λ made past h.
      rw (← tells (parts_of made past) h) (rw (more-handler_idle made past now stop) (works (parts_of made past) h))

  pub gives-no_handler_mail : (old : Crew S L J s l j) (now : ℕ) (stop : Stop) → TellsAs told old (λ parts. resolver.handler_message parts.resolver parts.asked) None
      → CrewGivesAs told old (λ made past. stepped made past sources.Handler now stop) outcomes.Idle no_out
  unfolding CrewStands parts_of stepped
  gives-no_handler_mail old now stop tells = λ made past h. rw (← tells (parts_of made past) h) (refl, refl)

  pub taken-no_handler_mail : (old : Crew S L J s l j) (now : ℕ) (stop : Stop) → TellsAs told old (λ parts. resolver.handler_message parts.resolver parts.asked) None
      → CrewAnswersAs told old (λ made past. taken_inside made past (stepped made past sources.Handler now stop)) None
  unfolding CrewStands parts_of stepped taken_inside
  taken-no_handler_mail old now stop tells = λ made past h. rw (← tells (parts_of made past) h) refl

  pub takes-fetch : (old new : Crew S L J s l j) (now : ℕ) (stop : Stop) (test : Bool) (outcome : Outcome) (out : StepOut)
      → test ≡ true → IsDue told old now test
      → WorksAs told old new (after_resolver (resolver.Stepped resolver_inputs.Timer now) out)
      → EndsAs told old (λ parts. cut_short stop (resolver.step_out parts.resolver parts.asked resolver_inputs.Timer now)) outcome out
      → CrewTakesAs told old new (λ made past. stepped made past sources.Fetch now stop)
  unfolding CrewStands parts_of stepped by_resolver
  takes-fetch old new now stop test outcome out e due works ends = λ made past h.
      let whole : StepOut = resolver.step_out made.resolver (resolver_past past) resolver_inputs.Timer now in
      let gives = (ends (parts_of made past) h).1 in
      rw (← due (parts_of made past) h, e)
      (rw (more-fetch made past now stop (cut_short stop whole).0 (cut_short stop whole).1 (cut-held stop whole) (cut-tells stop whole (resolver-tells made.resolver (resolver_past past) _ now)))
      (rw (← gives) (works (parts_of made past) h)))

  pub gives-fetch : (old : Crew S L J s l j) (now : ℕ) (stop : Stop) (test : Bool) (outcome : Outcome) (out : StepOut)
      → test ≡ true → IsDue told old now test
      → EndsAs told old (λ parts. cut_short stop (resolver.step_out parts.resolver parts.asked resolver_inputs.Timer now)) outcome out
      → CrewGivesAs told old (λ made past. stepped made past sources.Fetch now stop) outcome out
  unfolding CrewStands parts_of stepped by_resolver
  gives-fetch old now stop test outcome out e due ends = λ made past h. rw (← due (parts_of made past) h, e) (ends (parts_of made past) h)

  pub taken-fetch : (old : Crew S L J s l j) (now : ℕ) (stop : Stop) (test : Bool) (outcome : Outcome) (out : StepOut)
      → test ≡ true → IsDue told old now test
      → EndsAs told old (λ parts. cut_short stop (resolver.step_out parts.resolver parts.asked resolver_inputs.Timer now)) outcome out
      → CrewAnswersAs told old (λ made past. taken_inside made past (stepped made past sources.Fetch now stop)) (unless_idle outcome (Some taken.Deadline))
  unfolding CrewStands parts_of stepped by_resolver taken_inside inside
  taken-fetch old now stop test outcome out e due ends = λ made past h.
      rw (← due (parts_of made past) h, e) (rw (ends (parts_of made past) h).0 refl)

  pub takes-no_fetch : (crew : Crew S L J s l j) (now : ℕ) (stop : Stop) (test : Bool) → test ≡ false → IsDue told crew now test
      → CrewTakesAs told crew crew (λ made past. stepped made past sources.Fetch now stop)
  unfolding CrewStands parts_of stepped
  takes-no_fetch crew now stop test e due = λ made past h.
      rw (← due (parts_of made past) h, e) (rw (more-fetch_idle made past now stop) h)

  pub gives-no_fetch : (crew : Crew S L J s l j) (now : ℕ) (stop : Stop) (test : Bool) → test ≡ false → IsDue told crew now test
      → CrewGivesAs told crew (λ made past. stepped made past sources.Fetch now stop) outcomes.Idle no_out
  unfolding CrewStands parts_of stepped
  gives-no_fetch crew now stop test e due = λ made past h. rw (← due (parts_of made past) h, e) (refl, refl)

  pub taken-no_fetch : (crew : Crew S L J s l j) (now : ℕ) (stop : Stop) (test : Bool) → test ≡ false → IsDue told crew now test
      → CrewAnswersAs told crew (λ made past. taken_inside made past (stepped made past sources.Fetch now stop)) None
  unfolding CrewStands parts_of stepped taken_inside
  taken-no_fetch crew now stop test e due = λ made past h. rw (← due (parts_of made past) h, e) refl

  -- ---- packets and answers

  -- a packet of a member that is blocked, and of one that is not
  pub takes-refused : (old new : Crew S L J s l j) (sender : ℕ) (channel : Channel) (bytes : List ℕ) (now : ℕ) (test : Bool)
      → test ≡ true → TellsAs told old (λ parts. holds_member parts.blocked sender) test → WorksAs told old new (λ parts. parts)
      → CrewTakesAs told old new (λ made past. heard made past sender channel bytes now)
  unfolding CrewStands parts_of heard
  takes-refused old new sender channel bytes now test e blocked works = λ made past h.
      rw (← blocked (parts_of made past) h, e) (rw (more-refused made past sender channel bytes now) (works (parts_of made past) h))

  pub gives-refused : (old : Crew S L J s l j) (sender : ℕ) (channel : Channel) (bytes : List ℕ) (now : ℕ) (test : Bool)
      → test ≡ true → TellsAs told old (λ parts. holds_member parts.blocked sender) test
      → CrewGivesAs told old (λ made past. heard made past sender channel bytes now) outcomes.Refused no_out
  unfolding CrewStands parts_of heard
  gives-refused old sender channel bytes now test e blocked = λ made past h. rw (← blocked (parts_of made past) h, e) (refl, refl)

  pub takes-heard : (old new : Crew S L J s l j) (sender : ℕ) (channel : Channel) (bytes : List ℕ) (now : ℕ) (test : Bool)
      → test ≡ false → TellsAs told old (λ parts. holds_member parts.blocked sender) test
      → CrewTakesAs told old new (λ made past. let_in made past sender channel bytes now)
      → CrewTakesAs told old new (λ made past. heard made past sender channel bytes now)
  unfolding CrewStands parts_of heard
  takes-heard old new sender channel bytes now test e blocked takes = λ made past h.
      rw (← blocked (parts_of made past) h, e) (takes made past h)

  pub gives-heard : (old : Crew S L J s l j) (sender : ℕ) (channel : Channel) (bytes : List ℕ) (now : ℕ) (test : Bool) (outcome : Outcome) (out : StepOut)
      → test ≡ false → TellsAs told old (λ parts. holds_member parts.blocked sender) test
      → CrewGivesAs told old (λ made past. let_in made past sender channel bytes now) outcome out
      → CrewGivesAs told old (λ made past. heard made past sender channel bytes now) outcome out
  unfolding CrewStands parts_of heard
  gives-heard old sender channel bytes now test outcome out e blocked gives = λ made past h.
      rw (← blocked (parts_of made past) h, e) (gives made past h)

  pub takes-vote : (old new : Crew S L J s l j) (sender : ℕ) (bytes : List ℕ) (now : ℕ) (outcome : Outcome) (out : StepOut)
      → WorksAs told old new (after_batcher (record { input = batcher_inputs.Vote sender bytes; now = now }) out)
      → EndsAs told old (λ parts. cut_short stops.None (step_out parts.batcher parts.timed (record { input = batcher_inputs.Vote sender bytes; now = now }))) outcome out
      → CrewTakesAs told old new (λ made past. let_in made past sender channels.Vote bytes now)
  unfolding CrewStands parts_of let_in by_batcher
  takes-vote old new sender bytes now outcome out works ends = λ made past h.
      let given : Timed = record { input = batcher_inputs.Vote sender bytes; now = now } in
      rw (more-vote made past sender bytes now stops.None (step_out made.batcher (batcher_past past) given) (step-tells made.batcher (batcher_past past) given))
      (rw (← (ends (parts_of made past) h).1) (works (parts_of made past) h))

  pub gives-vote : (old : Crew S L J s l j) (sender : ℕ) (bytes : List ℕ) (now : ℕ) (outcome : Outcome) (out : StepOut)
      → EndsAs told old (λ parts. cut_short stops.None (step_out parts.batcher parts.timed (record { input = batcher_inputs.Vote sender bytes; now = now }))) outcome out
      → CrewGivesAs told old (λ made past. let_in made past sender channels.Vote bytes now) outcome out
  unfolding CrewStands parts_of let_in by_batcher
  gives-vote old sender bytes now outcome out ends = λ made past h. ends (parts_of made past) h

  pub takes-certificate : (old new : Crew S L J s l j) (sender : ℕ) (bytes : List ℕ) (now : ℕ) (outcome : Outcome) (out : StepOut)
      → WorksAs told old new (after_batcher (record { input = batcher_inputs.Certificate sender bytes; now = now }) out)
      → EndsAs told old (λ parts. cut_short stops.None (step_out parts.batcher parts.timed (record { input = batcher_inputs.Certificate sender bytes; now = now }))) outcome out
      → CrewTakesAs told old new (λ made past. let_in made past sender channels.Certificate bytes now)
  unfolding CrewStands parts_of let_in by_batcher
  takes-certificate old new sender bytes now outcome out works ends = λ made past h.
      let given : Timed = record { input = batcher_inputs.Certificate sender bytes; now = now } in
      rw (more-certificate made past sender bytes now stops.None (step_out made.batcher (batcher_past past) given) (step-tells made.batcher (batcher_past past) given))
      (rw (← (ends (parts_of made past) h).1) (works (parts_of made past) h))

  pub gives-certificate : (old : Crew S L J s l j) (sender : ℕ) (bytes : List ℕ) (now : ℕ) (outcome : Outcome) (out : StepOut)
      → EndsAs told old (λ parts. cut_short stops.None (step_out parts.batcher parts.timed (record { input = batcher_inputs.Certificate sender bytes; now = now }))) outcome out
      → CrewGivesAs told old (λ made past. let_in made past sender channels.Certificate bytes now) outcome out
  unfolding CrewStands parts_of let_in by_batcher
  gives-certificate old sender bytes now outcome out ends = λ made past h. ends (parts_of made past) h

  pub takes-packet : (old new : Crew S L J s l j) (sender : ℕ) (bytes : List ℕ) (now : ℕ) (outcome : Outcome) (out : StepOut)
      → WorksAs told old new (after_resolver (resolver.Stepped (resolver_inputs.Packet sender bytes) now) out)
      → EndsAs told old (λ parts. cut_short stops.None (resolver.step_out parts.resolver parts.asked (resolver_inputs.Packet sender bytes) now)) outcome out
      → CrewTakesAs told old new (λ made past. let_in made past sender channels.Resolver bytes now)
  unfolding CrewStands parts_of let_in by_resolver
  takes-packet old new sender bytes now outcome out works ends = λ made past h.
      let whole : StepOut = resolver.step_out made.resolver (resolver_past past) (resolver_inputs.Packet sender bytes) now in
      rw (more-packet made past sender bytes now stops.None whole (resolver-tells made.resolver (resolver_past past) _ now))
      (rw (← (ends (parts_of made past) h).1) (works (parts_of made past) h))

  pub takes-answer : (old new : Crew S L J s l j) (number : ℕ) (answer : Answer) (now : ℕ) → WorksAs told old new (after_answer number answer)
      → CrewTakesAs told old new (λ made past. replied number answer now)
  unfolding CrewStands
  takes-answer old new number answer now works = λ made past h. rw (more-replied made past number answer now) (works (parts_of made past) h)

  pub gives-packet : (old : Crew S L J s l j) (sender : ℕ) (bytes : List ℕ) (now : ℕ) (outcome : Outcome) (out : StepOut)
      → EndsAs told old (λ parts. cut_short stops.None (resolver.step_out parts.resolver parts.asked (resolver_inputs.Packet sender bytes) now)) outcome out
      → CrewGivesAs told old (λ made past. let_in made past sender channels.Resolver bytes now) outcome out
  unfolding CrewStands parts_of let_in by_resolver
  gives-packet old sender bytes now outcome out ends = λ made past h. ends (parts_of made past) h

  pub answers-whether : (old : Crew S L J s l j) (number : ℕ) (answer : Answer) (result value : Bool) → result ≡ value
      → TellsAs told old (λ parts. takes_answer (place_of parts.voter parts.given).standing number answer) result
      → CrewAnswersAs told old (λ made past. takes_reply made past number answer) value
  unfolding CrewStands parts_of takes_reply
  answers-whether old number answer result value e tells = λ made past h. sym e ∙ tells (parts_of made past) h

  pub stays-same : (old new : Crew S L J s l j) → WorksAs told old new (λ parts. parts) → CrewStaysAs told old new
  unfolding CrewStands
  stays-same old new works = λ made past h. works (parts_of made past) h
