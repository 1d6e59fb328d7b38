-- Whether the answers that a node was given are for payloads that pass a test.
use Rattle.std.specs.Prelude.{ℕ, ◌≡◌, Bool, true, List, [], ◌∷◌, Some}
use Rattle.simplex_values.specs.declared.answer.Answer.{Answer}
use Rattle.simplex_transcript.specs.declared.event.Event.{Event}
use Rattle.simplex_transcript.specs.declared.event.Event.TheVariants as events
use Rattle.simplex_transcript.specs.declared.node.Node.{Node}
use Rattle.simplex_transcript.specs.declared.node.Ref.{Ref}
use Rattle.model_run.specs.Life.{Noted}
use Rattle.model_run.specs.Members.{is_same_node}
use Rattle.law_run.specs.Answers.{vouched_in}
use Rattle.law_run.specs.Asked.{asked_at}

-- what holds of the payload that this answer to a request of the node stands for
abbrev pub IsAnsweredBy : (List ℕ → Type 0) → List Noted → Ref → Answer → Type 0
IsAnsweredBy P before at answer = (payload : List ℕ) → vouched_in (asked_at before at) answer ≡ Some payload → P payload

-- the same of an event, where it answers the node
abbrev pub AnswersFor : (List ℕ → Type 0) → List Noted → Node → Event → Type 0
AnswersFor P before node (events.Answer to at answer) = is_same_node to node ≡ true → IsAnsweredBy P before at answer
AnswersFor P before node _ = Unit {0}

-- and of each event of a run, the newest first
unfoldable pub AllAnswersAre : (List ℕ → Type 0) → Node → List Noted → Type 0
AllAnswersAre P node [] = Unit {0}
AllAnswersAre P node (noted ∷ before) = AnswersFor P before node noted.event × AllAnswersAre P node before

-- each payload that an answer to the node stands for passes the test
abbrev pub AllAnswersPass : (List ℕ → Bool) → Node → List Noted → Type 0
AllAnswersPass test node noted = AllAnswersAre (λ payload. test payload ≡ true) node noted
