-- What a voter's step took is read from its entry.
use Rattle.std.proofs.Common.{◌≡◌, ℕ, ◌==◌, ◌&&◌, Bool, true, false, List, [], ◌∷◌, map, Option, Some, None, refl, sym, ap, ◌∙◌, subst, inl, inr, ◌⊎◌, eqb-true, if◌then◌else◌}
use Rattle.std.specs.Prelude.{find, is_some}
use Rattle.std.specs.List.{slice_get}
use Rattle.std.specs.Option.{IfSome, option_map, option_map_or, option_and_then}
use Rattle.simplex_values.specs.declared.answer.Answer.{Answer}
use Rattle.simplex_values.specs.declared.answer.Answer.TheVariants as answers
use Rattle.simplex_values.specs.declared.answer.Handoff.TheVariants as handoffs
use Rattle.model_rules.specs.declared.request.Asked.{Asked}
use Rattle.model_rules.specs.declared.request.Asked.TheVariants as asks
use Rattle.model_rules.specs.declared.request.ProposalState.{ProposalState}
use Rattle.model_rules.specs.declared.request.ProposalState.TheVariants.{Preparing, Proposing, Waiting, Held, Closed}
use Rattle.model_rules.specs.Known.{Made}
use Rattle.model_rules.specs.Views.{current_of}
use Rattle.model_rules.specs.Pending.{Pending, Opened}
use Rattle.simplex_messages.specs.declared.handed.Handed.TheVariants as handed
use Rattle.simplex_messages.specs.declared.voter.Message.{Message}
use Rattle.simplex_messages.specs.declared.voter.Message.TheVariants as mail
use Rattle.simplex_messages.specs.declared.voter.VoterInput.{VoterInput}
use Rattle.simplex_messages.specs.declared.voter.VoterInput.TheVariants as inputs
use Rattle.simplex_transcript.specs.declared.entry.Took.{Took}
use Rattle.simplex_transcript.specs.declared.entry.Took.TheVariants as tooks
use Rattle.simplex_transcript.specs.declared.event.StepSource.{StepSource}
use Rattle.simplex_transcript.specs.declared.event.StepSource.TheVariants as sources
use Rattle.simplex_transcript.specs.declared.node.Node.{Node}
use Rattle.simplex_transcript.specs.declared.node.Ref.{Ref}
use Rattle.model_steps.specs.Desk.{Doing, begun}
use Rattle.model_steps.specs.Voter.{Standing, answer_to, take_proposal, act_on_proposal, act_on_verify, act_on_certify, first_answered, acted, stepped, finished, with_answer}
use Rattle.simplex_messages.specs.declared.step.Outcome.{Outcome}
use Rattle.simplex_messages.specs.declared.step.Outcome.TheVariants as outcomes
use Rattle.simplex_messages.specs.declared.step.Stop.{Stop}
use Rattle.simplex_messages.specs.declared.step.StepOut.{StepOut}
use Rattle.model_steps.specs.Performed.{Performed}
use Rattle.model_steps.specs.VoterLife.{place_of}
use Rattle.model_steps.specs.Engine as engine
use Rattle.model_steps.specs.Engine.{EngineMade, Did, did_of, voter_in, voter_past}
use Rattle.model_run.specs.Setting.{Setting}
use Rattle.model_run.specs.Kinds.{runs_engine}
use Rattle.model_run.specs.Life.{Noted, Running, life_in}
use Rattle.model_run.specs.Entries.{answered_at, answer_taken, taken_of}
use Rattle.model_run.specs.Entries as entries
use Rattle.law_run.specs.Histories.{IsRun}
use Rattle.law_run.proofs.Events.{place_in, never_idle, step_gives}
use Rattle.law_run.specs.Sayings.{Each}
use Rattle.law_run.proofs.Telling.{some_is}
use Rattle.law_run.specs.Asked.{asked_at, asked_of}
use Rattle.law_requests.specs.Since.{dropped_of}
use Rattle.law_requests.specs.Open.{IsPending, IsVerify, IsCertify, IsFitting, AreStanding}
use Rattle.model_audit.specs.Answers.{answer_fits}
use Rattle.law_requests.proofs.Stepping.{fitting_answer}
use Rattle.law_run.proofs.AskedListing.{found_passes}
use Rattle.model_audit.specs.Fitting.{is_for, request_fits, step_took_fits}
use Rattle.law_requests.specs.Named.{HasPlace}
use Rattle.law_requests.specs.Steps.{IsInput, IsVoters}
use Rattle.law_requests.proofs.Requests.{place_stands, requests_stand}
use Rattle.model_audit.specs.Taking.{Deadline, Mail, Reply}
use Rattle.law_audit.specs.Taken.{IsGiven}
use Rattle.model_audit.specs.Record.{record_entry, took_of}
use Rattle.model_audit.specs.Rebuilt.{rebuilt_entry, recorded, took_for}
use Rattle.model_audit.specs.Reading.{reply, taking_of}
use Rattle.law_audit.specs.Recording.{IsTakenSo}
use Rattle.law_audit.proofs.Telling.{counted, same_request}

pub same_asked_at : (before : List Noted) (at : Ref) → asked_at (map recorded before) at ≡ asked_at before at
unfolding asked_at rebuilt_entry record_entry
same_asked_at [] at = refl
same_asked_at (noted ∷ before) at = rw (counted before, same_asked_at before at) refl

-- what is found is one of the list
each_found : {A : Type 0} (P : A → Type 0) (test : A → Bool) (xs : List A) (x : A) → Each P xs → find test xs ≡ Some x → P x
each_found P test [] x h e = cc
each_found P test (y ∷ ys) x h e = at (test y) (each_found P test ys x h.1) e
  where
    at : (b : Bool) → (find test ys ≡ Some x → P x) → (if b then Some y else find test ys) ≡ Some x → P x
    at true later k = subst P (some_is y x k) h.0
    at false later k = later k

each_first : (P : Opened → Type 0) (cs : List Opened) (given : List (ℕ × Answer)) (x : Opened × Answer) → Each P cs → first_answered cs given ≡ Some x → P x.0
unfolding first_answered
each_first P cs [] x h e = cc
each_first P cs (g ∷ rest) x h e = at (find (λ (c : Opened). c.number == g.0) cs) refl (each_first P cs rest x h) e
  where
    at : (o : Option Opened) → find (λ (c : Opened). c.number == g.0) cs ≡ o → (first_answered cs rest ≡ Some x → P x.0) → option_map_or (λ c. Some (with_answer g.1 c)) o (first_answered cs rest) ≡ Some x → P x.0
    at None f later k = later k
    at (Some c) f later k = (let same : with_answer g.1 c ≡ x = some_is _ x k in subst (λ (y : Opened × Answer). P y.0) same (each_found P (λ (c : Opened). c.number == g.0) cs c h f))

-- and it was given
fitting_first : (asked : List Asked) (cs : List Opened) (given : List (ℕ × Answer)) (x : Opened × Answer) → Each (IsFitting asked) given → first_answered cs given ≡ Some x → IsFitting asked (x.0.number, x.1)
unfolding first_answered
fitting_first asked cs [] x h e = cc
fitting_first asked cs (g ∷ rest) x h e = at (find (λ (c : Opened). c.number == g.0) cs) refl (fitting_first asked cs rest x h.1) e
  where
    at : (o : Option Opened) → find (λ (c : Opened). c.number == g.0) cs ≡ o → (first_answered cs rest ≡ Some x → IsFitting asked (x.0.number, x.1))
        → option_map_or (λ c. Some (with_answer g.1 c)) o (first_answered cs rest) ≡ Some x → IsFitting asked (x.0.number, x.1)
    at None f later k = later k
    at (Some c) f later k =
        let same : with_answer g.1 c ≡ x = some_is _ x k in
        let n : c.number ≡ g.0 = eqb-true c.number g.0 (found_passes (λ (c : Opened). c.number == g.0) cs c f) in
        subst (λ (y : Opened × Answer). IsFitting asked (y.0.number, y.1)) same (subst (λ k. IsFitting asked (k, g.1)) (sym n) h.0)

module _ (before : List Noted) (node : Node) (made : Made) (now : ℕ) (s : Standing) (r : AreStanding (asked_of before node) (dropped_of before node) s) where
  -- an answer to a request of the node is read so, and fits
  record IsReply (source : StepSource) (number : ℕ) (asked : Asked) (answer : Answer) : Type 0 where
    pub at : Ref
    pub took : answered_at before node number answer ≡ Some (tooks.Request at answer)
    pub read : option_map (reply answer) (asked_at (map recorded before) at) ≡ Some (Reply asked answer)
    pub fits : request_fits (map recorded before) node source at answer ≡ true

  requested : (source : StepSource) (number : ℕ) (asked : Asked) (answer : Answer) → slice_get (asked_of before node) number ≡ Some asked → is_for source asked ≡ true → IsFitting (asked_of before node) (number, answer)
      → IsReply source number asked answer
  requested source number asked answer e f t =
      let h : HasPlace before node number asked = place_stands before node number asked e in
      let there : asked_at (map recorded before) h.at ≡ Some asked = same_asked_at before h.at ∙ h.asks in
      let same : t.request ≡ asked = some_is t.request asked (sym t.stands ∙ e) in
      let fits : answer_fits asked answer ≡ true = ap (λ (x : Asked). answer_fits x answer) (sym same) ∙ t.fits in
      record {
        at = h.at;
        took = ap (option_map (λ at. tooks.Request at answer)) h.place;
        read = ap (option_map (reply answer)) there;
        fits = ap (λ (o : Option ℕ). is_some o && option_map_or (λ asked. is_for source asked && answer_fits asked answer) (asked_at (map recorded before) h.at) false) (same_request before node h.at ∙ h.named)
            ∙ ap (λ (o : Option Asked). option_map_or (λ asked. is_for source asked && answer_fits asked answer) o false) there
            ∙ ap (λ b. b && answer_fits asked answer) f ∙ fits;
      }

  -- ---- the pending proposal

  -- its request, and the answer that counts
  record HasReply (p : Pending) (at : ProposalState) : Type 0 where
    pub asked : Asked
    pub request : (asked ≡ asks.Prepare p.context) ⊎ (asked ≡ asks.Propose p.context)
    pub stands : slice_get (asked_of before node) p.number ≡ Some asked
    pub answer : Answer
    pub came : answer_to s.answers p.number ≡ Some answer
    pub given : IsGiven s p at answer

  proposes : (p : Pending) (asked : Asked) → (asked ≡ asks.Prepare p.context) ⊎ (asked ≡ asks.Propose p.context) → is_for sources.Propose asked ≡ true
  proposes p asked (inl e) = ap (is_for sources.Propose) e
  proposes p asked (inr e) = ap (is_for sources.Propose) e

  some_answer : (p : Pending) (o : Option Answer) (outcome : Doing × Option ℕ) → option_map (λ answer. act_on_proposal made now p answer (begun s.desk)) o ≡ Some outcome → (answer : Answer) × (o ≡ Some answer)
  some_answer p None outcome e = cc
  some_answer p (Some answer) outcome e = (answer, refl)

  has_reply : (p : Pending) (at : ProposalState) (outcome : Doing × Option ℕ) → IsPending (asked_of before node) (dropped_of before node) s.answers p at → take_proposal made now s p at ≡ Some outcome → HasReply p at
  has_reply p Preparing outcome h e =
      let a = some_answer p (answer_to s.answers p.number) outcome e in
      record { asked = asks.Prepare p.context; request = inl refl; stands = h.stands; answer = a.0; came = a.1; given = a.1 }
  has_reply p Proposing outcome h e =
      let a = some_answer p (answer_to s.answers p.number) outcome e in
      record { asked = asks.Propose p.context; request = inr refl; stands = h.stands; answer = a.0; came = a.1; given = a.1 }
  has_reply p (Held payload) outcome h e =
      record { asked = asks.Prepare p.context; request = inl refl; stands = h.stands; answer = answers.Handoff (handoffs.Stage payload); came = h.first; given = refl }
  has_reply p Waiting outcome h e = cc
  has_reply p Closed outcome h e = cc

  proposal_taken : (o : Option Pending) (outcome : Doing × Option ℕ) → s.desk.proposal ≡ o → IfSome o (λ p. IsPending (asked_of before node) (dropped_of before node) s.answers p p.state)
      → option_and_then (λ (p : Pending). take_proposal made now s p p.state) o ≡ Some outcome → IsTakenSo before node s sources.Propose (taken_of before node s (engine.Took sources.Propose None)) inputs.Propose
  unfolding taken_of taking_of
  proposal_taken None outcome f h e = cc
  proposal_taken (Some p) outcome f h e =
      let k : HasReply p p.state = has_reply p p.state outcome h e in
      let q = requested sources.Propose p.number k.asked k.answer k.stands (proposes p k.asked k.request) (fitting_answer (asked_of before node) s.answers p.number k.answer r.fitting k.came) in
      let took : taken_of before node s (engine.Took sources.Propose None) ≡ Some (tooks.Request q.at k.answer) =
      ap (λ (o : Option Pending). option_and_then (λ (p : Pending). answer_taken before node s p.number) o) f ∙ ap (λ (o : Option Answer). option_and_then (answered_at before node p.number) o) k.came ∙ q.took in
      record {
        taking = Reply k.asked k.answer;
        read = ap (λ (t : Option Took). taking_of (map recorded before) sources.Propose (took_for (took_of t))) took ∙ q.read;
        fits = ap (λ (t : Option Took). step_took_fits (map recorded before) node sources.Propose (took_of t)) took ∙ q.fits;
        takes = record { pending = p; stands = f; asked = k.asked; request = k.request; answer = k.answer; given = k.given; same = refl };
      }

  -- ---- the open Verify

  verify_taken : (o : Option Opened) (outcome : Doing × Option ℕ) → s.desk.verify ≡ o → IfSome o (IsVerify (asked_of before node) (dropped_of before node) s.desk.known)
      → option_and_then (λ (v : Opened). option_map (λ answer. act_on_verify made now v answer (begun s.desk)) (answer_to s.answers v.number)) o ≡ Some outcome
      → IsTakenSo before node s sources.Verify (taken_of before node s (engine.Took sources.Verify None)) inputs.Verify
  unfolding taken_of taking_of
  verify_taken None outcome f h e = cc
  verify_taken (Some v) outcome f h e = at (answer_to s.answers v.number) refl e
    where
      at : (o : Option Answer) → answer_to s.answers v.number ≡ o → option_map (λ answer. act_on_verify made now v answer (begun s.desk)) o ≡ Some outcome
          → IsTakenSo before node s sources.Verify (taken_of before node s (engine.Took sources.Verify None)) inputs.Verify
      at None g k = cc
      at (Some answer) g k =
          let asked = asks.Verify h.context h.payload in
          let o = h.request in
          let q = requested sources.Verify v.number asked answer o.stands refl (fitting_answer (asked_of before node) s.answers v.number answer r.fitting g) in
          let took : taken_of before node s (engine.Took sources.Verify None) ≡ Some (tooks.Request q.at answer) =
          ap (λ (o : Option Opened). option_and_then (λ (v : Opened). answer_taken before node s v.number) o) f ∙ ap (λ (o : Option Answer). option_and_then (answered_at before node v.number) o) g ∙ q.took in
          record {
            taking = Reply asked answer;
            read = ap (λ (t : Option Took). taking_of (map recorded before) sources.Verify (took_for (took_of t))) took ∙ q.read;
            fits = ap (λ (t : Option Took). step_took_fits (map recorded before) node sources.Verify (took_of t)) took ∙ q.fits;
            takes = record { opened = v; stands = f; context = h.context; payload = h.payload; request = h.same; view = h.view; answer = answer; given = g; same = refl };
          }

  -- ---- the Certify that was answered first

  certify_taken : (o : Option (Opened × Answer)) (outcome : Doing × Option ℕ) → first_answered s.desk.certify s.answers ≡ o
      → option_map (λ (taken : Opened × Answer). act_on_certify made now taken.0 taken.1 (begun s.desk)) o ≡ Some outcome
      → IsTakenSo before node s sources.Certify (taken_of before node s (engine.Took sources.Certify None)) inputs.Certify
  unfolding taken_of taking_of
  certify_taken None outcome f e = cc
  certify_taken (Some x) outcome f e =
      let i : IsCertify (asked_of before node) (dropped_of before node) x.0 = each_first (IsCertify (asked_of before node) (dropped_of before node)) s.desk.certify s.answers x r.certify f in
      let asked = asks.Certify i.round i.payload in
      let o = i.request in
      let q = requested sources.Certify x.0.number asked x.1 o.stands refl (fitting_first (asked_of before node) s.desk.certify s.answers x r.fitting f) in
      let took : taken_of before node s (engine.Took sources.Certify None) ≡ Some (tooks.Request q.at x.1) =
      ap (λ (o : Option (Opened × Answer)). option_and_then (λ (taken : Opened × Answer). answered_at before node taken.0.number taken.1) o) f ∙ q.took in
      record {
        taking = Reply asked x.1;
        read = ap (λ (t : Option Took). taking_of (map recorded before) sources.Certify (took_for (took_of t))) took ∙ q.read;
        fits = ap (λ (t : Option Took). step_took_fits (map recorded before) node sources.Certify (took_of t)) took ∙ q.fits;
        takes = record { opened = x.0; answer = x.1; given = f; round = i.round; payload = i.payload; view = i.view; same = refl };
      }

  -- ---- each input

  mail_taken : (message : Message) → IsTakenSo before node s sources.Voter (taken_of before node s (engine.Took sources.Voter (Some (handed.Voter message)))) (inputs.Mail message)
  unfolding taken_of taking_of
  mail_taken (mail.Proposal proposal) = record { taking = Mail (mail.Proposal proposal); read = refl; fits = refl; takes = refl }
  mail_taken (mail.Timeout round reason) = record { taking = Mail (mail.Timeout round reason); read = refl; fits = refl; takes = refl }
  mail_taken (mail.Verified certificate) = record { taking = Mail (mail.Verified certificate); read = refl; fits = refl; takes = refl }

  timer_taken : IsTakenSo before node s sources.Timer (taken_of before node s (engine.Took sources.Timer None)) inputs.Timer
  unfolding taken_of taking_of
  timer_taken = record { taking = Deadline; read = refl; fits = refl; takes = refl }

  from : (source at : StepSource) (taken on : engine.Taken) (input : VoterInput) → (source ≡ at) × (taken ≡ on) → IsTakenSo before node s at (taken_of before node s on) input → IsTakenSo before node s source (taken_of before node s taken) input
  from source at taken on input e h =
      subst (λ x. IsTakenSo before node s x (taken_of before node s taken) input) (sym e.0) (subst (λ x. IsTakenSo before node s at (taken_of before node s x) input) (sym e.1) h)

  acted_taken : (source : StepSource) (taken : engine.Taken) (input : VoterInput) (outcome : Doing × Option ℕ) → IsInput source taken input → acted made now s input ≡ Some outcome
      → IsTakenSo before node s source (taken_of before node s taken) input
  unfolding acted
  acted_taken source taken (inputs.Mail message) outcome i e = from source sources.Voter taken (engine.Took sources.Voter (Some (handed.Voter message))) (inputs.Mail message) i (mail_taken message)
  acted_taken source taken inputs.Timer outcome i e = from source sources.Timer taken (engine.Took sources.Timer None) inputs.Timer i timer_taken
  acted_taken source taken inputs.Propose outcome i e = from source sources.Propose taken (engine.Took sources.Propose None) inputs.Propose i (proposal_taken s.desk.proposal outcome refl r.pending e)
  acted_taken source taken inputs.Verify outcome i e = from source sources.Verify taken (engine.Took sources.Verify None) inputs.Verify i (verify_taken s.desk.verify outcome refl r.verify e)
  acted_taken source taken inputs.Certify outcome i e = from source sources.Certify taken (engine.Took sources.Certify None) inputs.Certify i (certify_taken (first_answered s.desk.certify s.answers) outcome refl e)

  pub step_taken : (source : StepSource) (taken : engine.Taken) (input : VoterInput) (d : Doing) → IsInput source taken input → stepped made now s input ≡ Some d → IsTakenSo before node s source (taken_of before node s taken) input
  unfolding stepped
  step_taken source taken input d i e = at (acted made now s input) refl e
    where
      at : (o : Option (Doing × Option ℕ)) → acted made now s input ≡ o → option_map (finished made now (current_of made s.desk.known)) o ≡ Some d → IsTakenSo before node s source (taken_of before node s taken) input
      at None f k = cc
      at (Some outcome) f k = acted_taken source taken input outcome i f

-- ---- in a run

took_whole : (before : List Noted) (node : Node) (made : EngineMade) (past : List Did) (taken : engine.Taken) (now : ℕ) (stop : Stop) (o : Outcome) (out : StepOut) → (o ≡ outcomes.Idle → ⊥)
    → entries.took_of before node made past (did_of taken now stop o out) ≡ taken_of before node (place_of (voter_in made past) (voter_past past)).standing taken
took_whole before node made past taken now stop outcomes.Done out n = refl
took_whole before node made past taken now stop outcomes.Cut out n = refl
took_whole before node made past taken now stop outcomes.Journal out n = refl
took_whole before node made past taken now stop outcomes.Refused out n = refl
took_whole before node made past taken now stop outcomes.Idle out n = absurd (n refl)

pub taking_read : (setting : Setting) (before : List Noted) (node : Node) (made : EngineMade) (past : List Did) (source : StepSource) (now : ℕ) (stop : Stop) (did : Did) (v : IsVoters made past source now stop did) (d : Doing)
    → IsRun setting before → runs_engine setting.setup node.member ≡ true → life_in setting before node ≡ Running made past → stepped (voter_in made past).rules now (place_of (voter_in made past) (voter_past past)).standing v.input ≡ Some d
    → IsTakenSo before node (place_of (voter_in made past) (voter_past past)).standing source (entries.took_of before node made past did) v.input
taking_read setting before node made past source now stop did v d ran good running e =
    let s = (place_of (voter_in made past) (voter_past past)).standing in
    let ends = v.outcome ∙ ap (λ (x : Performed). x.outcome) (step_gives (voter_in made past) (voter_past past) v.input now stop (Some d) e) in
    subst (λ t. IsTakenSo before node s source t v.input)
    (sym (took_whole before node made past did.taken did.now did.stop did.outcome did.out (λ idle. never_idle stop d (place_in made past).sections (sym ends ∙ idle))))
    (step_taken before node (voter_in made past).rules now s (requests_stand setting before node made past ran good running) source did.taken v.input d v.of e)
