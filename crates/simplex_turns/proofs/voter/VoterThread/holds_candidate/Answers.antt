use Rattle.std.proofs.Common.{◌≡◌, sym, ap, ◌∙◌, true, false, Some}
use Rattle.std.specs.Option.{is_some}
use Rattle.model_rules.specs.declared.request.ProposalState.{ProposalState}
use Rattle.simplex_messages.specs.declared.voter.VoterInput.TheVariants as inputs
use Rattle.model_steps.specs.Voter.{acted}
use Rattle.model_steps.specs.VoterLife.{Place, VoterMade, place_of}
use Rattle.simplex_turns.proofs.VotingPlaces.{is_held, state_in, none-held, not-held, candidate-held, candidate-unheld}
use Rattle.simplex_turns.proofs.VotingSteps.{told-at}
use Rattle.simplex_turns.proofs.voter.VoterThread.holds_candidate.Goals as goal

pub returns-in-Held : goal.returns-in-Held
returns-in-Held g c = λ told made place h.
    let state : c.proposal_state.result ≡ state_in (place_of made place.past).standing =
    told-at told c.args.self.now (λ (made : VoterMade) (p : Place). state_in p.standing) c.proposal_state.result c.proposal_state.ensures made place h in
    let held : is_held (state_in (place_of made place.past).standing) ≡ true = ap is_held (sym state ∙ c.in-Some.is) ∙ ap (λ (at : ProposalState). is_held (Some at)) c.in-Held.is in
    let holds : c.holds.result ≡ is_some (acted made.rules c.args.self.now.now (place_of made place.past).standing inputs.Propose) =
    told-at told c.args.self.now (λ (made : VoterMade) (p : Place). is_some (acted made.rules c.args.self.now.now p.standing inputs.Propose)) c.holds.result c.holds.ensures made place h in
    holds ∙ candidate-held (place_of made place.past).standing made.rules c.args.self.now.now held

pub returns-in_default-state : goal.returns-in_default-state
returns-in_default-state g c = λ told made place h.
    let state : c.proposal_state.result ≡ state_in (place_of made place.past).standing =
    told-at told c.args.self.now (λ (made : VoterMade) (p : Place). state_in p.standing) c.proposal_state.result c.proposal_state.ensures made place h in
    let unheld : is_held (state_in (place_of made place.past).standing) ≡ false = ap is_held (sym state ∙ c.in-Some.is) ∙ not-held _ c.in_default-state.not-Held in
    sym (candidate-unheld (place_of made place.past).standing unheld)

pub returns-in_default : goal.returns-in_default
returns-in_default g c = λ told made place h.
    let state : c.proposal_state.result ≡ state_in (place_of made place.past).standing =
    told-at told c.args.self.now (λ (made : VoterMade) (p : Place). state_in p.standing) c.proposal_state.result c.proposal_state.ensures made place h in
    let unheld : is_held (state_in (place_of made place.past).standing) ≡ false = ap is_held (sym state) ∙ none-held _ c.in_default.not-Some in
    sym (candidate-unheld (place_of made place.past).standing unheld)
