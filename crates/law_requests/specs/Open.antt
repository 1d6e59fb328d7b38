-- Which requests of a voter are open, and what each asks.
use Rattle.std.specs.Prelude.{ℕ, ◌≡◌, ◌<◌, ◌==◌, Bool, true, false, List, length, Option, Some}
use Rattle.std.specs.List.{slice_get, list_any}
use Rattle.std.specs.Option.{IfSome}
use Rattle.simplex_values.specs.declared.answer.Answer.{Answer}
use Rattle.simplex_values.specs.declared.answer.Answer.TheVariants as answers
use Rattle.simplex_values.specs.declared.answer.Handoff.TheVariants as handoffs
use Rattle.simplex_values.specs.declared.round.Context.{Context}
use Rattle.simplex_values.specs.declared.round.Round.{Round}
use Rattle.model_rules.specs.declared.request.Asked.{Asked}
use Rattle.model_rules.specs.declared.request.Asked.TheVariants as asks
use Rattle.model_rules.specs.declared.request.ProposalState.{ProposalState}
use Rattle.model_rules.specs.declared.request.ProposalState.TheVariants.{Preparing, Proposing, Held}
use Rattle.model_rules.specs.Known.{Fact}
use Rattle.model_rules.specs.Requests.{verify_asked}
use Rattle.model_rules.specs.Calls.{proposal_on}
use Rattle.model_rules.specs.Pending.{Pending, Opened}
use Rattle.simplex_transcript.specs.declared.node.Node.{Node}
use Rattle.law_run.specs.Histories.{IsRun}
use Rattle.law_run.specs.Sayings.{Each}
use Rattle.model_steps.specs.Engine.{EngineMade, Did}
use Rattle.model_steps.specs.Voter.{Standing, answer_to}
use Rattle.model_run.specs.Kinds.{runs_engine}
use Rattle.model_run.specs.Life.{Noted, Running, life_in}
use Rattle.model_run.specs.Setting.{Setting}
use Rattle.model_audit.specs.Answers.{answer_fits}

abbrev pub is_dropped : List ℕ → ℕ → Bool
is_dropped dropped number = list_any (λ n. n == number) dropped

-- the request of this number asks this, and it was not dropped
pub record IsOpen (asked : List Asked) (dropped : List ℕ) (number : ℕ) (request : Asked) : Type 0 where
  pub stands : slice_get asked number ≡ Some request
  pub kept : is_dropped dropped number ≡ false

-- its first answer staged this payload
pub record IsStaged (asked : List Asked) (given : List (ℕ × Answer))
    (number : ℕ) (context : Context) (payload : List ℕ) : Type 0 where
  pub stands : slice_get asked number ≡ Some (asks.Prepare context)
  pub first : answer_to given number ≡ Some (answers.Handoff (handoffs.Stage payload))

-- the request of the pending proposal; of a held candidate the one whose answer staged it
abbrev pub IsPending : List Asked → List ℕ → List (ℕ × Answer) → Pending → ProposalState → Type 0
IsPending asked dropped given p Preparing = IsOpen asked dropped p.number (asks.Prepare p.context)
IsPending asked dropped given p Proposing = IsOpen asked dropped p.number (asks.Propose p.context)
IsPending asked dropped given p (Held payload) = IsStaged asked given p.number p.context payload
IsPending asked dropped given p _ = Unit {0}

-- the open Verify is on the proposal that is known to be asked of its view
pub record IsVerify (asked : List Asked) (dropped : List ℕ) (known : List Fact) (v : Opened) : Type 0 where
  pub context : Context
  pub payload : List ℕ
  pub request : IsOpen asked dropped v.number (asks.Verify context payload)
  pub same : verify_asked known v.view ≡ Some (proposal_on context payload)
  pub view : context.round.view ≡ v.view

-- an open Certify is on a payload of its view
pub record IsCertify (asked : List Asked) (dropped : List ℕ) (c : Opened) : Type 0 where
  pub round : Round
  pub payload : List ℕ
  pub request : IsOpen asked dropped c.number (asks.Certify round payload)
  pub view : round.view ≡ c.view

-- an answer is to a request that takes it
pub record IsFitting (asked : List Asked) (given : ℕ × Answer) : Type 0 where
  pub request : Asked
  pub stands : slice_get asked given.0 ≡ Some request
  pub fits : answer_fits request given.1 ≡ true

-- the request of this number is open, and takes the answer
pub record IsTakenBy (asked : List Asked) (dropped : List ℕ) (number : ℕ) (answer : Answer) : Type 0 where
  pub request : Asked
  pub is : IsOpen asked dropped number request
  pub fits : answer_fits request answer ≡ true

-- Of all that was asked and dropped since the start, and the answers that were given: as many are counted as were asked,
-- what was dropped was asked, and each request that is open is such
pub record AreOpen (asked : List Asked) (dropped : List ℕ) (given : List (ℕ × Answer)) (known : List Fact)
    (p : Option Pending) (v : Option Opened) (cs : List Opened) (opened : ℕ) : Type 0 where
  pub count : opened ≡ length asked
  pub below : Each (λ (n : ℕ). n < opened) dropped
  pub pending : IfSome p (λ (q : Pending). IsPending asked dropped given q q.state)
  pub verify : IfSome v (IsVerify asked dropped known)
  pub certify : Each (IsCertify asked dropped) cs
  pub fitting : Each (IsFitting asked) given

-- so it is where a voter stands
abbrev pub AreStanding : List Asked → List ℕ → Standing → Type 0
AreStanding asked dropped s =
    AreOpen asked dropped s.answers s.desk.known s.desk.proposal s.desk.verify s.desk.certify s.desk.opened

-- wherever an engine runs at a node in a run, this holds of what it was made with and of what it did since its start
abbrev pub OfRunning : (List Noted → Node → EngineMade → List Did → Type 0) → Type 0
OfRunning Says =
    (setting : Setting) (noted : List Noted) (node : Node) (made : EngineMade) (past : List Did)
    → IsRun setting noted → runs_engine setting.setup node.member ≡ true
    → life_in setting noted node ≡ Running made past → Says noted node made past
