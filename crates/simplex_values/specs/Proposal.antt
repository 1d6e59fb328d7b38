-- When two proposals are one.
use Rattle.std.specs.Prelude.{◌==◌, ◌&&◌, Bool}
use Rattle.std.specs.Str.{bytes_eq}
use Rattle.simplex_values.specs.declared.round.Round.{Round}
use Rattle.simplex_values.specs.declared.proposal.Proposal.{Proposal}

-- whether two rounds are one
abbrev pub is_same_round : Round → Round → Bool
is_same_round r s = r.epoch == s.epoch && r.view == s.view

-- whether two proposals are one
abbrev pub is_same_proposal : Proposal → Proposal → Bool
is_same_proposal p q = is_same_round p.round q.round && p.parent == q.parent && bytes_eq p.payload q.payload
