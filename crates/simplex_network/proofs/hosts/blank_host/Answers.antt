use Rattle.std.proofs.Common.{sym, ◌∙◌}
use Rattle.simplex_records.specs.Seats.{node_at}
use Rattle.simplex_network.specs.Stands.{HostStands}
use Rattle.simplex_network.proofs.hosts.blank_host.Goals as goal

pub returns-in_ok-new_journal : goal.returns-in_ok-new_journal
unfolding HostStands node_at
returns-in_ok-new_journal c =
    rw (rw c.member_at-member.ensures.member at (sym c.has_engine.ensures ∙ c.if-has_engine.true)) c.in_ok-new_journal.ensures

pub returns-in_ok-new : goal.returns-in_ok-new
unfolding HostStands node_at
returns-in_ok-new c =
    rw (rw c.member_at-member.ensures.member at (sym c.has_engine.ensures ∙ c.if-has_engine.false))
    (rw c.member_at-member.ensures.member at c.in_ok-new.ensures)
