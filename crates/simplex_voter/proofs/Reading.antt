-- What is known where a planner stands for a doing.
use Rattle.std.proofs.Common.{◌≡◌, ℕ, List, ap}
use Rattle.simplex_values.specs.declared.answer.Answer.{Answer}
use Rattle.model_rules.specs.Known.{Made}
use Rattle.model_rules.specs.Calls.{known_of}
use Rattle.model_steps.specs.Desk.{Doing}
use Rattle.simplex_wire.specs.declared.scheme.Scheme as schemes
use Rattle.simplex_types.specs.declared.elector.Elector as electors
use Rattle.simplex_voter.specs.declared.planner.Planner.{Planner}
use Rattle.simplex_voter.specs.Stands.{Stands, doing_of}

module _ {S L : Type 0} {g : schemes.Ghosts S} {h : electors.Ghosts L} where
  pub known-is : {planner : Planner S L g h} {made : Made} {answers : List (ℕ × Answer)} {doing : Doing} → (s : Stands planner made answers doing) → doing.desk.known ≡ known_of made s.calls
  unfolding doing_of
  known-is s = ap (λ (d : Doing). d.desk.known) s.does
