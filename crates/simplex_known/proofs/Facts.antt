-- What one more fact changes of what is known of a view.
use Rattle.std.proofs.Common.{◌≡◌, ℕ, ◌==◌, true, List, ◌∷◌, Option, Some, None, if◌then◌else◌, refl, arith}
use Rattle.std.proofs.lemmas.Grind.{common_steps}
use Rattle.std.specs.Option.{option_map, option_or, is_some}
use Rattle.simplex_wire.specs.declared.certificate.Certificate.TheVariants as certificates
use Rattle.simplex_wire.specs.declared.vote.Vote.TheVariants as votes
use Rattle.model_rules.specs.Known.{Fact, Added, Taken, Answered, Judged, Voted, view_of}
use Rattle.simplex_known.specs.Opened.{lists}
use Rattle.simplex_known.specs.declared.rounds.RoundRecord.{RoundRecord}
use Rattle.simplex_known.specs.Rounds.{round_of}

-- what one more fact changes of the record of a view
unfoldable pub learn_round : Fact → ℕ → RoundRecord → RoundRecord
learn_round (Added (certificates.Notarization n) now) view r =
    if view_of n.proposal == view then record r { notarized = option_or r.notarized (Some n.proposal) } else r
learn_round (Added (certificates.Nullification n) now) view r = if n.round.view == view then record r { nullified = true } else r
learn_round (Added (certificates.Finalization f) now) view r =
    if view_of f.proposal == view then record r { finalized = option_or r.finalized (Some f.proposal) } else r
learn_round (Taken p) view r = if view_of p == view then record r { proposed = option_or r.proposed (Some p) } else r
learn_round (Answered p) view r = if view_of p == view then record r { proposed = option_or r.proposed (Some p) } else r
learn_round (Judged v good now) view r = if v == view then record r { verdict = option_or r.verdict (Some good) } else r
learn_round (Voted (votes.Notarize n)) view r = if view_of n.proposal == view then record r { voted = option_or r.voted (Some n.proposal) } else r
learn_round (Voted (votes.Finalize f)) view r = if view_of f.proposal == view then record r { voted_final = true } else r
learn_round _ view r = r

option_or-none : {A : Type 0} (o : Option A) → option_or o None ≡ o
option_or-none None = refl
option_or-none (Some x) = refl

option_map-or : {A B : Type 0} (f : A → B) (o p : Option A) → option_map f (option_or o p) ≡ option_or (option_map f o) (option_map f p)
option_map-or f None p = refl
option_map-or f (Some x) p = refl

some_or : {A : Type 0} (o : Option A) (x : A) → is_some (option_or o (Some x)) ≡ true
some_or None x = refl
some_or (Some y) x = refl

-- and so of what is known of it
pub round_step : (fact : Fact) (known : List Fact) (view : ℕ) → round_of (fact ∷ known) view ≡ learn_round fact view (round_of known view)
unfolding round_of learn_round lists
round_step (Added (certificates.Notarization n) now) known view = grind (arith, common_steps, option_or-none, option_map-or)
round_step (Added (certificates.Nullification n) now) known view = grind (arith, common_steps, option_or-none, option_map-or, some_or)
round_step (Added (certificates.Finalization f) now) known view = grind (arith, common_steps, option_or-none, option_map-or)
round_step (Voted (votes.Notarize n)) known view = grind (arith, common_steps, option_or-none, option_map-or)
round_step (Voted (votes.Nullify n)) known view = grind (arith, common_steps, option_or-none, option_map-or)
round_step (Voted (votes.Finalize f)) known view = grind (arith, common_steps, option_or-none, option_map-or)
round_step _ known view = grind (arith, common_steps, option_or-none, option_map-or)
