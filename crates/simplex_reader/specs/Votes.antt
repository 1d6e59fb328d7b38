-- The own vote that a record is.
use Rattle.std.specs.Prelude.{List, [], ◌∷◌}
use Rattle.simplex_wire.specs.declared.artifact.Artifact.{Artifact}
use Rattle.simplex_wire.specs.declared.artifact.Artifact.TheVariants as artifacts
use Rattle.simplex_wire.specs.declared.vote.Vote.TheVariants as votes
use Rattle.model_rules.specs.Known.{Fact, Voted}

abbrev pub vote_facts : Artifact → List Fact
vote_facts (artifacts.Notarize v) = Voted (votes.Notarize v) ∷ []
vote_facts (artifacts.Nullify v) = Voted (votes.Nullify v) ∷ []
vote_facts (artifacts.Finalize v) = Voted (votes.Finalize v) ∷ []
vote_facts _ = []
