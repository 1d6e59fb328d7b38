-- What is asked for a notarized view.
use Rattle.std.specs.Prelude.{ℕ, ◌&&◌, nat_lt, Bool, List, Option, Some, None, if◌then◌else◌}
use Rattle.std.specs.Option.{option_map, option_and_then, is_none}
use Rattle.simplex_values.specs.declared.proposal.Proposal.{Proposal}
use Rattle.simplex_wire.specs.declared.certificate.Notarization.{Notarization}
use Rattle.model_rules.specs.declared.request.CertificateFetch.{CertificateFetch}
use Rattle.model_rules.specs.Known.{Fact, view_of, notarization_of, verdict_of}
use Rattle.model_rules.specs.Views.{last_finalized}
use Rattle.model_rules.specs.Requests.{is_unjudged, may_certify, lacks_parent}

-- the proposal, where it can be certified now
abbrev pub proposal_to_certify : List Fact → Notarization → Option Proposal
proposal_to_certify known n = if may_certify known n then Some n.proposal else None

-- its parent, where the notarization of that has to be asked for
abbrev pub parent_to_fetch : List Fact → Notarization → Option CertificateFetch
parent_to_fetch known n =
    if lacks_parent known n then Some (record { proposal = view_of n.proposal; view = n.proposal.parent }) else None

-- the same, of a view
unfoldable pub certify_at : List Fact → ℕ → Option Proposal
certify_at known view = option_and_then (proposal_to_certify known) (notarization_of known view)

unfoldable pub fetch_at : List Fact → ℕ → Option CertificateFetch
fetch_at known view = option_and_then (parent_to_fetch known) (notarization_of known view)

-- the notarized proposal of a view, where its verdict has still to be asked for
unfoldable pub open_at : List Fact → ℕ → Option Proposal
open_at known view = if is_unjudged known view then option_map (λ n. n.proposal) (notarization_of known view) else None

-- whether a parent is later than the last final view, and nothing is known of it
unfoldable pub is_lacking : List Fact → ℕ → Bool
is_lacking known parent =
    nat_lt (last_finalized known) parent && is_none (verdict_of known parent) && is_none (notarization_of known parent)
