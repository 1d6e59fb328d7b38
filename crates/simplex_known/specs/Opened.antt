-- Names for what proofs of this crate unfold together.
use Rattle.std.specs.Prelude.{⊤}
use Rattle.model_rules.specs.Ancestry.{has_ancestry, gap_between, has_true_verdict, is_certified, is_met, is_covered}
use Rattle.model_rules.specs.Calls.{adds_finalization, adds_notarization, adds_nullification, takes_verdict}
use Rattle.model_rules.specs.Known.{finalization_of, has_finalized, has_nullified, notarization_of, nullification_of, own_notarize, proposal_of, verdict_of, was_answered, was_approved}
use Rattle.model_rules.specs.Lists.{first_of, greatest_of}
use Rattle.model_rules.specs.Slot.{records_answer, records_proposal, slot_of, is_own_slot}
use Rattle.model_rules.specs.Views.{admits_certificate, admits_vote, current_of, is_ahead, last_finalized, least_active}
use Rattle.model_rules.specs.Votes.{is_votable, notarizes, finalizes, is_vouched, is_unopposed, is_checked, notarize_at, finalize_at, nullify_at, signed_notarize, signed_finalize, signed_nullify}
use Rattle.simplex_known.specs.Rounds.{round_of, slot_in}

-- what is kept of a view, and its slot
unfoldable pub slots : ⊤
unfolding round_of slot_in slot_of records_proposal records_answer
slots = tt

-- which certificates and votes are of use
unfoldable pub views : ⊤
unfolding least_active admits_certificate admits_vote
views = tt

-- which certificates are added, and which verdicts are taken
unfoldable pub certificates : ⊤
unfolding round_of adds_notarization adds_nullification adds_finalization takes_verdict has_true_verdict is_certified
certificates = tt

-- what is asked of a parent
unfoldable pub parents : ⊤
unfolding round_of is_met has_ancestry gap_between
parents = tt

-- what is said of a list of facts by its first
unfoldable pub lists : ⊤
unfolding first_of greatest_of notarization_of nullification_of finalization_of own_notarize proposal_of verdict_of has_finalized has_nullified was_answered was_approved last_finalized current_of is_covered
lists = tt

-- which votes are given
unfoldable pub votes : ⊤
unfolding round_of is_ahead is_votable is_own_slot is_vouched is_unopposed is_checked notarizes finalizes
votes = tt

-- the votes with their attestation
unfoldable pub signing : ⊤
unfolding notarize_at finalize_at nullify_at signed_notarize signed_finalize signed_nullify
signing = tt
