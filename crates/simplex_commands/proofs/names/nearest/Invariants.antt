use Rattle.std.proofs.Common.{◌≡◌, ◌≤◌, Contains, IfNone, IfSome}
use Rattle.std.specs.List.{AllWithin}
use Rattle.simplex_commands.specs.Nearest.{edits}
use Rattle.simplex_commands.specs.declared.names.TheConstants.{MOST_EDITS}
use Rattle.simplex_commands.proofs.names.nearest.Given as goal

-- the nearest so far is so many edits away, and none of those before is nearer
abbrev pub invariant-loop-one : goal.invariant-loop-one
invariant-loop-one g l =
    IfSome l.found (λ one. Contains l.among one × (edits l.word (g.N.Named.name_of one) ≡ l.least) × (l.least ≤ MOST_EDITS))
    × IfNone l.found (l.least ≡ 3)
    × AllWithin (λ other. l.least ≤ edits l.word (g.N.Named.name_of other)) l.among 0 l.one-index
