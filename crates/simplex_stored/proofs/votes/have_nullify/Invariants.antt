use Rattle.std.proofs.Common.{◌≡◌, drop}
use Rattle.std.specs.List.{list_any}
use Rattle.simplex_stored.specs.Before.{is_nullify}
use Rattle.simplex_stored.proofs.votes.have_nullify.Given as goal

abbrev pub invariant-loop-record : goal.invariant-loop-record
invariant-loop-record l = list_any (is_nullify l.bytes) (drop l.record-index l.records) ≡ list_any (is_nullify l.bytes) l.records
