-- A name for what proofs of this crate unfold together.
use Rattle.std.specs.Prelude.{⊤}
use Rattle.simplex_network.specs.Parts.{IsPolled, IsStarted, after_poll, after_start, goes_on, refusal_in, status_of}
use Rattle.simplex_network.specs.Stands.{HostStands}

-- what a host holds behind a start and a poll
unfoldable pub hosts : ⊤
unfolding HostStands goes_on status_of refusal_in after_poll IsPolled after_start IsStarted
hosts = tt
