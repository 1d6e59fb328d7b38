-- Where a node's request stands.
use Rattle.std.specs.Prelude.{ℕ, ◌≡◌, List, Some}
use Rattle.model_rules.specs.declared.request.Asked.{Asked}
use Rattle.simplex_transcript.specs.declared.node.Node.{Node}
use Rattle.simplex_transcript.specs.declared.node.Ref.{Ref}
use Rattle.model_run.specs.Life.{Noted}
use Rattle.model_run.specs.Requests.{request_number, request_place}
use Rattle.law_run.specs.Asked.{asked_at}

-- the node's request of this number has a place, which leads to what it asks and back to its number
pub record HasPlace (noted : List Noted) (node : Node) (number : ℕ) (asked : Asked) : Type 0 where
  pub at : Ref
  pub place : request_place noted node number ≡ Some at
  pub asks : asked_at noted at ≡ Some asked
  pub named : request_number noted node at ≡ Some number
