-- What one more fact changes.
use Rattle.std.proofs.Common.{◌≡◌, ℕ, true, false, List, ◌∷◌, Option, Some, None, refl, arith}
use Rattle.std.proofs.lemmas.Grind.{common_steps}
use Rattle.std.specs.Option.{option_map, option_or}
use Rattle.simplex_values.specs.declared.timeout.TimeoutReason.TheVariants.{Inactivity}
use Rattle.simplex_wire.specs.declared.certificate.Certificate.TheVariants as certificates
use Rattle.simplex_wire.specs.declared.vote.Vote.TheVariants as votes
use Rattle.simplex_values.specs.Terms.{next_of}
use Rattle.model_rules.specs.Lists.{first_of, last_of, greatest_of}
use Rattle.model_rules.specs.Known.{Made, Fact, Added, Judged, Voted, Expired, Pruned, notarization_of, finalization_of, own_notarize, proposal_of, has_finalized, verdict_of, reached}
use Rattle.model_rules.specs.Views.{last_finalized, current_of, entered_at, term_entered_at, finalized_at}
use Rattle.model_rules.specs.Deadline.{published_at, inactivity_count}
use Rattle.model_rules.specs.Requests.{was_proposal_asked, verify_asked}
use Rattle.simplex_state.specs.Rounds.{round_of, learn_round}
use Rattle.simplex_state.specs.Progress.{progress_of, opens, ends, learn_progress}

pub option_or-none : {A : Type 0} (o : Option A) → option_or o None ≡ o
option_or-none None = refl
option_or-none (Some x) = refl

option_map-or : {A B : Type 0} (f : A → B) (o p : Option A) → option_map f (option_or o p) ≡ option_or (option_map f o) (option_map f p)
option_map-or f None p = refl
option_map-or f (Some x) p = refl

-- what one more fact changes of what is known of a view
pub round_step : (fact : Fact) (known : List Fact) (view : ℕ) → round_of (fact ∷ known) view ≡ learn_round fact view (round_of known view)
unfolding round_of learn_round first_of last_of notarization_of finalization_of own_notarize proposal_of has_finalized verdict_of published_at was_proposal_asked verify_asked
round_step (Added (certificates.Notarization n) now) known view = grind (arith, common_steps, option_or-none, option_map-or)
round_step (Added (certificates.Nullification n) now) known view = grind (arith, common_steps, option_or-none, option_map-or)
round_step (Added (certificates.Finalization f) now) known view = grind (arith, common_steps, option_or-none, option_map-or)
round_step (Voted (votes.Notarize n)) known view = grind (arith, common_steps, option_or-none, option_map-or)
round_step (Voted (votes.Nullify n)) known view = grind (arith, common_steps, option_or-none, option_map-or)
round_step (Voted (votes.Finalize f)) known view = grind (arith, common_steps, option_or-none, option_map-or)
round_step _ known view = grind (arith, common_steps, option_or-none, option_map-or)

-- what one more fact changes of how far the member is
pub progress_step : (made : Made) (fact : Fact) (known : List Fact) → progress_of made (fact ∷ known) ≡ learn_progress made fact (progress_of made known)
unfolding progress_of learn_progress opens ends last_finalized current_of entered_at term_entered_at finalized_at reached inactivity_count greatest_of next_of
progress_step made (Added (certificates.Notarization n) now) known = grind (arith, common_steps)
progress_step made (Added (certificates.Nullification n) now) known = grind (arith, common_steps)
progress_step made (Added (certificates.Finalization f) now) known = grind (arith, common_steps)
progress_step made (Judged view true now) known = grind (arith, common_steps)
progress_step made (Judged view false now) known = grind (arith, common_steps)
progress_step made (Expired view Inactivity now) known = grind (arith, common_steps)
progress_step made (Expired view _ now) known = grind (arith, common_steps)
progress_step made (Voted v) known = grind (arith, common_steps)
progress_step made (Pruned v) known = grind (arith, common_steps)
progress_step made _ known = grind (arith, common_steps)
