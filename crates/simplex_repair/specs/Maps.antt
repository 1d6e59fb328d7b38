-- Which nullification covers a view.
use Rattle.std.specs.Prelude.{ℕ, nat_le, Option, Some, None, if◌then◌else◌}
use Rattle.simplex_wire.specs.declared.certificate.Nullification.{Nullification}

-- a nullification of the view's term, where it covers the view
unfoldable pub reaching : Option Nullification → ℕ → Option Nullification
reaching None view = None
reaching (Some n) view = if nat_le n.round.view view then Some n else None
