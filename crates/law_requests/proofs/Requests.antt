-- The open requests of a node stand, in every run.
use Rattle.std.proofs.Common.{◌≡◌, ℕ, ◌++◌, true, List, [], ◌∷◌, ap, refl, ◌∙◌, subst, Some}
use Rattle.std.specs.List.{slice_get}
use Rattle.simplex_values.specs.declared.answer.Answer.{Answer}
use Rattle.model_rules.specs.declared.request.Asked.{Asked}
use Rattle.model_rules.specs.Known.{Made}
use Rattle.simplex_transcript.specs.declared.node.Node.{Node}
use Rattle.model_steps.specs.Voter.{Standing}
use Rattle.model_steps.specs.VoterLife.{place_of}
use Rattle.model_steps.specs.Engine.{EngineMade, Did, voter_in, voter_past}
use Rattle.model_run.specs.Setting.{Setting}
use Rattle.model_run.specs.Kinds.{runs_engine}
use Rattle.model_run.specs.Life.{Noted, Running, life_in}
use Rattle.law_run.specs.Histories.{IsRun}
use Rattle.law_run.specs.Asked.{asked_of}
use Rattle.law_requests.specs.Since.{dropped_of, answers_of}
use Rattle.law_requests.specs.Open.{AreStanding}
use Rattle.law_requests.specs.Named.{HasPlace}
use Rattle.law_requests.proofs.Stepping as stepping
use Rattle.law_requests.proofs.Stepping.{IsReady}
use Rattle.law_requests.proofs.Living.{IsKept, IsLife, lives}
use Rattle.law_requests.proofs.Places.{number_stands}

abbrev pub IsStanding : Made → List Asked → List ℕ → List (ℕ × Answer) → Standing → Type 0
IsStanding made asked dropped given s = IsReady asked dropped s × (s.answers ≡ given)

requests_kept : IsKept IsStanding
requests_kept = record {
  steps = λ made asked dropped given now s input d h e. (stepping.rest_ready asked dropped made now s h.0 input d e, h.1);
  replies = λ made asked dropped given s number answer h t.
      let k = stepping.answered_ready asked dropped made 0 s h.0 number answer t in
      (k.0, k.1 ∙ ap (λ (xs : List (ℕ × Answer)). xs ++ (number, answer) ∷ []) h.1);
  starts = λ made now floor records. (stepping.start_ready made now floor records, refl);
}

pub standing_in : (setting : Setting) (noted : List Noted) (node : Node) (made : EngineMade) (past : List Did) → IsRun setting noted → runs_engine setting.setup node.member ≡ true → life_in setting noted node ≡ Running made past
    → IsStanding (voter_in made past).rules (asked_of noted node) (dropped_of noted node) (answers_of noted node) (place_of (voter_in made past) (voter_past past)).standing
standing_in setting noted node made past ran good running =
    subst (IsLife IsStanding requests_kept setting node (asked_of noted node) (dropped_of noted node) (answers_of noted node)) running (lives IsStanding requests_kept setting node good noted ran)

pub requests_stand : (setting : Setting) (noted : List Noted) (node : Node) (made : EngineMade) (past : List Did) → IsRun setting noted → runs_engine setting.setup node.member ≡ true → life_in setting noted node ≡ Running made past
    → AreStanding (asked_of noted node) (dropped_of noted node) (place_of (voter_in made past) (voter_past past)).standing
requests_stand setting noted node made past ran good running =
    let h = standing_in setting noted node made past ran good running in
    let k = h.0 in
    k.stands

pub answers_stand : (setting : Setting) (noted : List Noted) (node : Node) (made : EngineMade) (past : List Did) → IsRun setting noted → runs_engine setting.setup node.member ≡ true → life_in setting noted node ≡ Running made past
    → (place_of (voter_in made past) (voter_past past)).standing.answers ≡ answers_of noted node
answers_stand setting noted node made past ran good running = (let h = standing_in setting noted node made past ran good running in h.1)

pub place_stands : (noted : List Noted) (node : Node) (number : ℕ) (asked : Asked) → slice_get (asked_of noted node) number ≡ Some asked → HasPlace noted node number asked
place_stands noted node number asked e =
    let n = number_stands noted node number asked e in
    record { at = n.0; place = n.1; asks = n.2; named = n.3 }
