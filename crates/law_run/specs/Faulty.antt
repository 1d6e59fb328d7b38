-- Which members are faulty.
use Rattle.std.specs.Prelude.{ℕ, ◌+◌, List, [], ◌∷◌, if◌then◌else◌}
use Rattle.simplex_transcript.specs.declared.setup.Setup.{Setup}
use Rattle.simplex_transcript.specs.declared.setup.MemberKind.{MemberKind}
use Rattle.model_run.specs.Kinds.{is_faulty}

-- the members that are not of the honest kind, counted from this number
abbrev pub faulty_from : ℕ → List MemberKind → List ℕ
faulty_from i [] = []
faulty_from i (kind ∷ rest) = if is_faulty kind then i ∷ faulty_from (i + 1) rest else faulty_from (i + 1) rest

abbrev pub faulty_of : Setup → List ℕ
faulty_of setup = faulty_from 0 setup.members
