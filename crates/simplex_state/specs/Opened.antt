-- Names for what proofs of this crate unfold together.
use Rattle.std.specs.Prelude.{⊤}
use Rattle.model_rules.specs.Ancestry.{has_false_verdict, has_true_verdict, is_covered}
use Rattle.model_rules.specs.Calls.{add_finalization_answer, add_notarization_answer, adds_finalization, adds_notarization, adds_nullification, certified_answer, contradicted_leader, facts_of, known_of, takes_verdict, unsent_finalization, unsent_notarization, unsent_nullification}
use Rattle.model_rules.specs.Deadline.{expires, expiry_of, fails, inactivity_count, may_skip, published_at}
use Rattle.model_rules.specs.Known.{finalization_of, has_finalized, has_nullified, notarization_of, nullification_of, own_notarize, proposal_of, reached, verdict_of, was_answered, was_approved, was_broadcast}
use Rattle.model_rules.specs.Lists.{first_of, greatest_of, last_of}
use Rattle.model_rules.specs.Requests.{is_unjudged, leader_of, may_propose, proposal_request, request_at, request_on, verify_asked, was_proposal_asked}
use Rattle.model_rules.specs.Slot.{is_contradicted, records_answer, records_proposal, slot_of}
use Rattle.model_rules.specs.Views.{admits_certificate, admits_vote, current_of, entered_at, finalized_at, is_ahead, last_finalized, least_active, term_entered_at}
use Rattle.model_rules.specs.Votes.{is_votable, signed_notarize}
use Rattle.simplex_state.specs.Certificates.{held_finalization, held_notarization, held_nullification}
use Rattle.simplex_state.specs.Certifying.{is_lacking, open_at}
use Rattle.simplex_state.specs.Progress.{learn_progress, progress_of}
use Rattle.simplex_state.specs.Rounds.{is_checked_in, is_open, is_vouched_in, learn_round, own_slot_in, round_in, round_of, slot_in}
use Rattle.simplex_state.specs.Stands.{StandsFor, covered_in, made_of}
use Rattle.simplex_state.specs.Verifying.{wants_in}
use Rattle.simplex_values.specs.Covers.{covers}
use Rattle.simplex_values.specs.Maps.{found}

-- what is kept of a view, and its slot
unfoldable pub slots : ⊤
unfolding StandsFor round_of slot_in progress_of slot_of
slots = tt

-- how far the member is
unfoldable pub progress : ⊤
unfolding StandsFor progress_of
progress = tt

-- which facts a call leaves
unfoldable pub facts : ⊤
unfolding known_of facts_of
facts = tt

-- when a view expires
unfoldable pub expiries : ⊤
unfolding slots expiry_of may_skip expires fails
expiries = tt

-- which verdict is taken
unfoldable pub verdicts : ⊤
unfolding progress round_of held_notarization least_active takes_verdict certified_answer
verdicts = tt

-- which views are to be certified
unfoldable pub uncertified : ⊤
unfolding progress round_of is_open least_active is_unjudged open_at is_lacking
uncertified = tt

-- what one round holds
unfoldable pub rounds : ⊤
unfolding round_in found slot_in is_vouched_in is_checked_in own_slot_in is_open wants_in
rounds = tt

-- which proposal is asked for
unfoldable pub requested : ⊤
unfolding StandsFor least_active proposal_request request_at request_on
requested = tt

-- whether a proposal may be asked for
unfoldable pub proposing : ⊤
unfolding StandsFor least_active may_propose leader_of
proposing = tt

-- a view, and what a vote on it leaves
unfoldable pub votes : ⊤
unfolding slots least_active facts
votes = tt

-- which views may be voted on
unfoldable pub votable : ⊤
unfolding progress least_active is_votable is_ahead
votable = tt

-- which proposals are taken, and what they leave
unfoldable pub proposals : ⊤
unfolding votes learn_round learn_progress records_proposal records_answer has_nullified admits_vote admits_certificate
proposals = tt

-- which certificates are held
unfoldable pub held : ⊤
unfolding held_notarization held_nullification held_finalization
held = tt

-- which certificates are added, and what they leave
unfoldable pub certificates : ⊤
unfolding votes held covered_in learn_round found is_contradicted admits_certificate adds_notarization
    adds_nullification adds_finalization contradicted_leader add_notarization_answer add_finalization_answer covers
certificates = tt

-- all that is said of a member that knows its floor alone
unfoldable pub nothing_known : ⊤
unfolding progress held made_of covered_in round_in round_of first_of last_of greatest_of reached notarization_of
    nullification_of finalization_of was_broadcast verdict_of proposal_of was_answered was_approved own_notarize
    has_nullified has_finalized last_finalized current_of entered_at term_entered_at finalized_at least_active
    is_covered has_true_verdict has_false_verdict published_at inactivity_count was_proposal_asked verify_asked known_of
    unsent_notarization unsent_nullification unsent_finalization
nothing_known = tt

-- a notarize that is signed
unfoldable pub signing : ⊤
unfolding StandsFor slot_in signed_notarize
signing = tt
