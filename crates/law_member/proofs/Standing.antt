-- What a step leaves of the view that a batcher is in.
use Rattle.std.proofs.Common.{◌≡◌, ◌<◌, ℕ, zero, suc, Bool, true, false, if◌then◌else◌, List, [], ◌∷◌, refl, arith}
use Rattle.std.specs.Prelude.{Option, Some, None, Result, Ok, Err, IsSome}
use Rattle.std.specs.Option.{option_map, option_map_or, option_or}
use Rattle.simplex_values.specs.declared.proposal.Proposal.{Proposal}
use Rattle.simplex_values.specs.declared.policy.SkipPolicy.{SkipPolicy}
use Rattle.simplex_values.specs.declared.policy.SkipPolicy.TheVariants as skip
use Rattle.simplex_values.specs.declared.timeout.TimeoutReason.TheVariants.{Inactivity}
use Rattle.simplex_wire.specs.declared.error.DecodeError.{DecodeError}
use Rattle.simplex_wire.specs.declared.vote.Vote.{Vote}
use Rattle.simplex_wire.specs.declared.certificate.Certificate.{Certificate}
use Rattle.simplex_wire.specs.Format.{whole}
use Rattle.simplex_wire.specs.Message as format
use Rattle.simplex_round.specs.declared.batch.Batch.{Batch}
use Rattle.simplex_round.specs.Acceptance.{Heard}
use Rattle.simplex_messages.specs.declared.batcher.BatcherInput.{BatcherInput}
use Rattle.simplex_messages.specs.declared.batcher.BatcherInput.TheVariants as input
use Rattle.simplex_messages.specs.declared.batcher.Message.TheVariants as batcher
use Rattle.model_rules.specs.Lists.{last_of}
use Rattle.model_steps.specs.Batcher.{Made, Timed, Standing, RoundHistory, Doing, at_first, begun, and_blocked, with_leader, hinting, hinting_nullify, hinted_at_vote, hinted_at_update, forwarding, with_heard, took_vote, took_constructed, kept_certificate, took_certificate, took_update, forwarded, with_batch, constructing, constructing_times, worked, worked_all, dropped, seen_now, heard_vote, heard_certificate, acted, finished, step, standing_after}
use Rattle.law_member.specs.Batcher.{Told, told_by, last_told}

-- it is in this view, with this leader, and this view is final
pub record IsIn (current : ℕ) (leader : Option ℕ) (finalized : ℕ) (standing : Standing) : Type 0 where
  pub current_is : standing.current ≡ current
  pub leader_is : standing.leader ≡ leader
  pub finalized_is : standing.finalized ≡ finalized

either : {X : Type 0} (P : X → Type 0) (b : Bool) (x y : X) → P x → P y → P (if b then x else y)
either P true x y p q = p
either P false x y p q = q

chosen : {X Y : Type 0} (P : Y → Type 0) (f : X → Y) (o : Option X) (d : Y) → ((x : X) → P (f x)) → P d → P (option_map_or f o d)
chosen P f None d each p = p
chosen P f (Some x) d each p = each x

module _ (made : Made) (current : ℕ) (leader : Option ℕ) (finalized : ℕ) where
  abbrev In : Doing → Type 0
  In doing = IsIn current leader finalized doing.standing

  -- ---- what a step does

  hinted_vote_in : (accepted : Bool) (doing : Doing) → In doing → In (hinted_at_vote made accepted doing)
  unfolding hinted_at_vote
  hinted_vote_in accepted doing p = either In _ (hinting_nullify made doing) doing (record { current_is = p.current_is; leader_is = p.leader_is; finalized_is = p.finalized_is }) p

  hinted_update_in : (policy : SkipPolicy) (member now : ℕ) (doing : Doing) → In doing → In (hinted_at_update made policy member now doing)
  unfolding hinted_at_update
  hinted_update_in skip.Disabled member now doing p = p
  hinted_update_in (skip.Enabled timeout budget) member now doing p =
      either In _ (hinting_nullify made doing) _ (record { current_is = p.current_is; leader_is = p.leader_is; finalized_is = p.finalized_is })
      (either In _ doing (hinting made Inactivity doing) p p)

  forwarding_in : (member : ℕ) (proposal : Option Proposal) (doing : Doing) → In doing → In (forwarding made member proposal doing)
  unfolding forwarding
  forwarding_in member None doing p = p
  forwarding_in member (Some proposal) doing p = p

  heard_in : (view : ℕ) (round : RoundHistory) (heard : Heard) (doing : Doing) → In doing → In (with_heard view round heard doing)
  unfolding with_heard
  heard_in view round heard doing p = record { current_is = p.current_is; leader_is = p.leader_is; finalized_is = p.finalized_is }

  took_vote_in : (sender : ℕ) (vote : Vote) (doing : Doing) → In doing → In (took_vote made sender vote doing)
  unfolding took_vote
  took_vote_in sender vote doing p = either In _ _ doing (hinted_vote_in _ _ (heard_in _ _ _ doing p)) p

  took_constructed_in : (vote : Vote) (doing : Doing) → In doing → In (took_constructed made vote doing)
  unfolding took_constructed
  took_constructed_in vote doing p = either In _ _ doing (heard_in _ _ _ doing p) p

  took_certificate_in : (sender : ℕ) (certificate : Certificate) (doing : Doing) → In doing → In (took_certificate made sender certificate doing)
  unfolding took_certificate kept_certificate
  took_certificate_in sender certificate doing p =
      either In _ doing _ p
      (either In _ (kept_certificate made certificate doing) (and_blocked sender _ doing) (record { current_is = p.current_is; leader_is = p.leader_is; finalized_is = p.finalized_is }) p)

  seen_in : (sender now : ℕ) (doing : Doing) → In doing → In (record doing { standing = seen_now sender now doing.standing })
  unfolding seen_now
  seen_in sender now doing p = record { current_is = p.current_is; leader_is = p.leader_is; finalized_is = p.finalized_is }

  heard_vote_in : (sender : ℕ) (decoded : Result Vote DecodeError) (now : ℕ) (doing : Doing) → In doing → In (heard_vote made sender decoded now doing)
  unfolding heard_vote
  heard_vote_in sender (Err fault) now doing p = p
  heard_vote_in sender (Ok vote) now doing p = either In _ _ (and_blocked sender _ doing) (took_vote_in sender vote _ (seen_in sender now doing p)) p

  heard_certificate_in : (sender : ℕ) (decoded : Result Certificate DecodeError) (now : ℕ) (doing : Doing) → In doing → In (heard_certificate made sender decoded now doing)
  unfolding heard_certificate
  heard_certificate_in sender (Err fault) now doing p = p
  heard_certificate_in sender (Ok certificate) now doing p = either In _ _ (and_blocked sender _ doing) (took_certificate_in sender certificate _ (seen_in sender now doing p)) p

  -- ---- the work

  batch_in : (batch : Option Batch) (doing : Doing) → In doing → In (with_batch batch doing)
  batch_in None doing p = p
  batch_in (Some batch) doing p = p

  constructing_in : (view : ℕ) (round : RoundHistory) (doing : Doing) → In doing → In (constructing made view round doing)
  unfolding constructing
  constructing_in view round doing p =
      let q = batch_in _ doing p in record { current_is = q.current_is; leader_is = q.leader_is; finalized_is = q.finalized_is }

  times_in : (n view : ℕ) (doing : Doing) → In doing → In (constructing_times n made view doing)
  unfolding constructing_times
  times_in zero view doing p = p
  times_in (suc n) view doing p = times_in n view _ (chosen In _ (doing.standing.rounds view) doing (λ round. constructing_in view round doing p) p)

  forwarded_in : (view : ℕ) (round : RoundHistory) (doing : Doing) → In doing → In (forwarded made view round doing)
  unfolding forwarded
  forwarded_in view round doing p = record { current_is = p.current_is; leader_is = p.leader_is; finalized_is = p.finalized_is }

  worked_in : (view : ℕ) (doing : Doing) → In doing → In (worked made view doing)
  unfolding worked
  worked_in view doing p =
      let handing = chosen In (λ round. forwarded made view round doing) (doing.standing.rounds view) doing (λ round. forwarded_in view round doing p) p in
      either In _ doing _ p (either In _ _ _ (times_in 3 view _ handing) handing)

  worked_all_in : (views : List ℕ) (doing : Doing) → In doing → In (worked_all made views doing)
  unfolding worked_all
  worked_all_in [] doing p = p
  worked_all_in (view ∷ views) doing p = worked_all_in views _ (worked_in view doing p)

  finished_in : (doing : Doing) → In doing → In (finished made doing)
  unfolding finished dropped
  finished_in doing p = let q = worked_all_in doing.dirty doing p in record { current_is = q.current_is; leader_is = q.leader_is; finalized_is = q.finalized_is }

-- ---- a history

abbrev pub current_told : Option Told → ℕ
current_told told = option_map_or (λ t. t.current) told 0

abbrev pub leader_told : Option Told → Option ℕ
leader_told told = option_map (λ t. t.leader) told

abbrev pub finalized_told : Made → Option Told → ℕ
finalized_told made told = option_map_or (λ t. t.finalized) told made.floor

abbrev pub StandsAt : Made → Option Told → Standing → Type 0
StandsAt made told standing = IsIn (current_told told) (leader_told told) (finalized_told made told) standing

acted_in : (made : Made) (told : Option Told) (given : BatcherInput) (now : ℕ) (standing : Standing) → StandsAt made told standing
    → StandsAt made (option_or (told_by given) told) (acted made given now (begun standing)).standing
unfolding acted took_update with_leader
acted_in made told (input.Mail (batcher.Update current leader finalized proposal)) now standing p =
    forwarding_in made current (Some leader) finalized leader proposal _
    (hinted_update_in made current (Some leader) finalized made.skip leader now _ (record { current_is = refl; leader_is = refl; finalized_is = refl }))
acted_in made told (input.Mail (batcher.Constructed vote)) now standing p = took_constructed_in made _ _ _ vote (begun standing) p
acted_in made told (input.Vote sender bytes) now standing p = heard_vote_in made _ _ _ sender (whole format.vote bytes) now (begun standing) p
acted_in made told (input.Certificate sender bytes) now standing p = heard_certificate_in made _ _ _ sender (whole format.certificate bytes) now (begun standing) p

pub stands_as_told : (made : Made) (past : List Timed) → StandsAt made (last_told past) (standing_after made past)
unfolding standing_after at_first last_told last_of step
stands_as_told made [] = record { current_is = refl; leader_is = refl; finalized_is = refl }
stands_as_told made (given ∷ past) =
    finished_in made _ _ _ _ (acted_in made (last_told past) given.input given.now (standing_after made past) (stands_as_told made past))

known : (told : Option Told) → 0 < current_told told → IsSome (leader_told told)
known None above = absurd (omega arith)
known (Some t) above = refl

pub leader_known : (made : Made) (past : List Timed) → 0 < (standing_after made past).current → IsSome (standing_after made past).leader
leader_known made past above =
    let p = stands_as_told made past in
    rw (p.leader_is) (known (last_told past) (rw (p.current_is) at above))
