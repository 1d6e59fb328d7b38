-- What the facts say of one view.
use Rattle.std.specs.Prelude.{ℕ, false, List, Option, None, unwrap_or}
use Rattle.std.specs.Option.{option_or, option_map, is_some}
use Rattle.std.specs.BTreeMap.{BTreeMap}
use Rattle.simplex_values.specs.declared.proposal.Proposal.{Proposal}
use Rattle.simplex_values.specs.Maps.{found}
use Rattle.model_rules.specs.Known.{Fact, notarization_of, nullification_of, finalization_of, own_notarize, proposal_of, has_finalized, verdict_of}
use Rattle.simplex_known.specs.declared.rounds.RoundRecord.{RoundRecord}

-- the record of a view of which nothing is known
abbrev pub blank : RoundRecord
blank =
    record { notarized = None; finalized = None; nullified = false; voted = None; proposed = None; voted_final = false; verdict = None }

-- the record of a view, blank where there is none
unfoldable pub round_in : BTreeMap ℕ RoundRecord → ℕ → RoundRecord
round_in rounds view = unwrap_or (found rounds view) blank

-- what is known of a view
unfoldable pub round_of : List Fact → ℕ → RoundRecord
round_of known view =
    record {
      notarized = option_map (λ n. n.proposal) (notarization_of known view);
      finalized = option_map (λ f. f.proposal) (finalization_of known view);
      nullified = is_some (nullification_of known view);
      voted = option_map (λ v. v.proposal) (own_notarize known view);
      proposed = proposal_of known view;
      voted_final = has_finalized known view;
      verdict = verdict_of known view;
    }

-- the slot of a view, by its record
unfoldable pub slot_in : RoundRecord → Option Proposal
slot_in r = option_or r.notarized (option_or r.finalized (option_or r.voted r.proposed))
