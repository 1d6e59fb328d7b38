-- The finalizations that were reported.
use Rattle.std.specs.Prelude.{ℕ, ◌&&◌, Bool, List, []}
use Rattle.std.specs.List.{list_any}
use Rattle.std.specs.Option.{unwrap_or}
use Rattle.std.specs.Ordering.{nat_cmp}
use Rattle.std.specs.BTreeMap as tree
use Rattle.simplex_values.specs.Proposal.{is_same_proposal}
use Rattle.simplex_wire.specs.declared.certificate.Finalization.{Finalization}
use Rattle.model_run.specs.Entries.{are_same_attestations}
use Rattle.simplex_records.specs.declared.reported.Reported.{Reported}

-- whether they are one finalization, signers and signatures too
abbrev pub is_same : Finalization → Finalization → Bool
is_same f g = is_same_proposal f.proposal g.proposal && are_same_attestations f.certificate g.certificate

-- those of the view
unfoldable pub at_view : Reported → ℕ → List Finalization
at_view reported view = unwrap_or (tree.get nat_cmp reported.by_view view) []

unfoldable pub has_reported : Reported → Finalization → Bool
has_reported reported f = list_any (is_same f) (at_view reported f.proposal.round.view)
