-- What a member hands to others about where it stands.
use Rattle.std.specs.Prelude.{ℕ, ◌-◌, ◌==◌, ◌&&◌, nat_lt, true, List, [], ◌∷◌, Option, Some, None, if◌then◌else◌}
use Rattle.std.specs.Option.{option_or, option_map, option_map_or, is_some}
use Rattle.simplex_values.specs.declared.proposal.Proposal.{Proposal}
use Rattle.simplex_wire.specs.declared.certificate.Nullification.{Nullification}
use Rattle.simplex_wire.specs.declared.certificate.Certificate.{Certificate}
use Rattle.simplex_wire.specs.declared.certificate.Certificate.TheVariants as certificates
use Rattle.simplex_values.specs.Terms.{next_term_start}
use Rattle.model_rules.specs.Known.{Made, Fact, Added, notarization_of, finalization_of}
use Rattle.model_rules.specs.Views.{current_of}
use Rattle.model_rules.specs.Slot.{slot_of}
use Rattle.model_rules.specs.Ancestry.{has_true_verdict}
use Rattle.model_rules.specs.Votes.{is_checked}

-- this nullification, unless the other is of a view as great
abbrev pub greater : Nullification → Option Nullification → Option Nullification
greater n other = if option_map_or (λ m. nat_lt m.round.view n.round.view) other true then Some n else other

-- the greatest known nullification that opens the view
unfoldable pub opening_nullification : ℕ → List Fact → ℕ → Option Nullification
opening_nullification length [] view = None
opening_nullification length (Added (certificates.Nullification n) now ∷ known) view =
    if next_term_start length n.round.view == view
    then greater n (opening_nullification length known view)
    else opening_nullification length known view
opening_nullification length (_ ∷ known) view = opening_nullification length known view

-- the certificate that shows why the member is in its view
unfoldable pub best_certificate : Made → List Fact → Option Certificate
best_certificate made known =
    let before = current_of made known - 1 in
    option_or (option_map certificates.Finalization (finalization_of known before))
    (option_or
    (if has_true_verdict known before
    then option_map certificates.Notarization (notarization_of known before) else None)
    (option_map certificates.Nullification (opening_nullification made.term_length known (current_of made known))))

-- a proposal that is worth forwarding: it was notarized, and the member checked it
unfoldable pub forwardable_at : List Fact → ℕ → Option Proposal
forwardable_at known view =
    if is_some (notarization_of known view) && is_checked known view then slot_of known view else None
