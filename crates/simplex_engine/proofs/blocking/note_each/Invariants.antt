use Rattle.std.proofs.Common.{◌≡◌, ◌||◌, ℕ, take}
use Rattle.model_resolver.specs.Asks.{holds_member}
use Rattle.simplex_engine.proofs.blocking.note_each.Given as goal

abbrev pub invariant-loop-member : goal.invariant-loop-member
invariant-loop-member l =
    (q : ℕ) → holds_member l.blocked.keys q ≡ (holds_member (take l.member-index l.members) q || holds_member l.fn.blocked.keys q)
