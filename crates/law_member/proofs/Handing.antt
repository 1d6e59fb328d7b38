-- What a step has handed on stays handed on, and a new certificate that verifies is.
use Rattle.std.proofs.Common.{◌≡◌, ℕ, zero, suc, Bool, true, false, if◌then◌else◌, List, [], ◌∷◌, map, nat_le, subst, sym}
use Rattle.std.specs.Prelude.{◌==◌, ◌||◌, not, Option, Some, None, Result, Ok, Contains}
use Rattle.std.specs.Option.{option_map_or, option_to_list}
use Rattle.std.proofs.lemmas.Bool.Decides.{Decides-eqb}
use Rattle.std.proofs.lemmas.List.Elements.{Contains-append_left, Contains-push}
use Rattle.simplex_values.specs.declared.proposal.Proposal.{Proposal}
use Rattle.simplex_wire.specs.declared.error.DecodeError.{DecodeError}
use Rattle.simplex_wire.specs.declared.certificate.Certificate.{Certificate}
use Rattle.simplex_wire.specs.Certified.{is_certified}
use Rattle.simplex_wire.specs.Fields.{certificate_subject, certificate_signatures}
use Rattle.simplex_wire.specs.Format.{whole}
use Rattle.simplex_wire.specs.Message as format
use Rattle.simplex_round.specs.declared.batch.Batch.{Batch}
use Rattle.simplex_round.specs.Forwarding as proposals
use Rattle.simplex_round.specs.Assembly as assembly
use Rattle.simplex_messages.specs.declared.batcher.BatcherInput.{BatcherInput}
use Rattle.simplex_messages.specs.declared.batcher.BatcherInput.TheVariants as input
use Rattle.simplex_messages.specs.declared.voter.Message.TheVariants as voter
use Rattle.simplex_messages.specs.declared.handed.Handed.{Handed}
use Rattle.simplex_messages.specs.declared.handed.Handed.TheVariants as handed
use Rattle.model_steps.specs.Batcher.{Made, Timed, Standing, RoundHistory, Doing, known_in, begun, and_blocked, with_batch, number_of, forwarded, constructing, constructing_times, worked, worked_all, dropped, finished, retains_view, admits_view, holds_kind, certificate_view, certificate_epoch, kept_certificate, took_certificate, seen_now, heard_certificate, acted, step, standing_after, step_out}
use Rattle.law_member.specs.Certificates.{BringsVerified, HandsOn}
use Rattle.law_member.proofs.Choices.{if_case, map_or_any}

module _ (made : Made) (message : Handed) where
  abbrev pub Hands : Doing → Type 0
  Hands doing = Contains doing.handed message

  with_batch_keeps : (o : Option Batch) (doing : Doing) → Hands doing → Hands (with_batch o doing)
  with_batch_keeps None doing h = h
  with_batch_keeps (Some batch) doing h =
      Contains-append_left doing.handed (map (λ (c : Certificate). handed.Voter (voter.Verified c)) (option_to_list batch.certificate)) message h

  pub constructing_keeps : (view : ℕ) (round : RoundHistory) (doing : Doing) → Hands doing → Hands (constructing made view round doing)
  unfolding constructing
  constructing_keeps view round doing h = with_batch_keeps (assembly.constructed round.made made.scheme (known_in round)) doing h

  pub forwarded_keeps : (view : ℕ) (round : RoundHistory) (doing : Doing) → Hands doing → Hands (forwarded made view round doing)
  unfolding forwarded
  forwarded_keeps view round doing h =
      Contains-append_left doing.handed
      (map (λ (proposal : Proposal). handed.Voter (voter.Proposal proposal)) (option_to_list (proposals.forwarded_to_voter (known_in round) (number_of made)))) message h

  pub times_keeps : (n view : ℕ) (doing : Doing) → Hands doing → Hands (constructing_times n made view doing)
  unfolding constructing_times
  times_keeps zero view doing h = h
  times_keeps (suc n) view doing h =
      let turn : RoundHistory → Doing = λ round. constructing made view round doing in
      times_keeps n view (option_map_or turn (doing.standing.rounds view) doing)
      (map_or_any Hands turn (doing.standing.rounds view) doing (λ round. constructing_keeps view round doing h) h)

  worked_keeps : (view : ℕ) (doing : Doing) → Hands doing → Hands (worked made view doing)
  unfolding worked
  worked_keeps view doing h =
      let turn : RoundHistory → Doing = λ round. forwarded made view round doing in
      let handing = option_map_or turn (doing.standing.rounds view) doing in
      let keeps : Hands handing = map_or_any Hands turn (doing.standing.rounds view) doing (λ round. forwarded_keeps view round doing h) h in
      if_case Hands (nat_le view doing.standing.finalized) doing (if admits_view made doing.standing view then constructing_times 3 made view handing else handing)
      (λ e. h)
      (λ e. if_case Hands (admits_view made doing.standing view) (constructing_times 3 made view handing) handing (λ k. times_keeps 3 view handing keeps) (λ k. keeps))

  pub worked_all_keeps : (views : List ℕ) (doing : Doing) → Hands doing → Hands (worked_all made views doing)
  unfolding worked_all
  worked_all_keeps [] doing h = h
  worked_all_keeps (view ∷ views) doing h = worked_all_keeps views (worked made view doing) (worked_keeps view doing h)

  pub finished_keeps : (doing : Doing) → Hands doing → Hands (finished made doing)
  unfolding finished dropped
  finished_keeps doing h = worked_all_keeps doing.dirty doing h

or_none : (a b : Bool) → a ≡ true → b ≡ false → (not a || b) ≡ true → ⊥
or_none true true a b h = cc
or_none true false a b h = cc
or_none false b a c h = cc

module _ (made : Made) (standing : Standing) (certificate : Certificate) where
  abbrev Is : Doing → Type 0
  Is doing = Hands made (handed.Voter (voter.Verified certificate)) doing

  kept_handed : (doing : Doing) → Is (kept_certificate made certificate doing)
  unfolding kept_certificate
  kept_handed doing = Contains-push doing.handed (handed.Voter (voter.Verified certificate))

  took_handed : (sender : ℕ) (doing : Doing) → retains_view made doing.standing (certificate_view certificate) ≡ true → holds_kind doing.standing certificate ≡ false
      → is_certified (made.scheme.verifies (certificate_subject certificate)) made.members (certificate_signatures certificate) ≡ true
      → Is (took_certificate made sender certificate doing)
  unfolding took_certificate
  took_handed sender doing retained new verifies =
      let retains = retains_view made doing.standing (certificate_view certificate) in
      let certified = is_certified (made.scheme.verifies (certificate_subject certificate)) made.members (certificate_signatures certificate) in
      if_case Is (not retains || holds_kind doing.standing certificate) doing (if certified then kept_certificate made certificate doing else and_blocked sender _ doing)
      (λ h. absurd (or_none retains (holds_kind doing.standing certificate) retained new h))
      (λ h. if_case Is certified (kept_certificate made certificate doing) (and_blocked sender _ doing) (λ v. kept_handed doing) (λ v. absurd (cc (v, verifies))))

  heard_handed : (sender now : ℕ) (decoded : Result Certificate DecodeError) → decoded ≡ Ok certificate → certificate_epoch certificate ≡ made.epoch
      → retains_view made standing (certificate_view certificate) ≡ true → holds_kind standing certificate ≡ false
      → is_certified (made.scheme.verifies (certificate_subject certificate)) made.members (certificate_signatures certificate) ≡ true
      → Is (heard_certificate made sender decoded now (begun standing))
  unfolding heard_certificate holds_kind retains_view seen_now
  heard_handed sender now decoded is epoch retained new verifies =
      let same = certificate_epoch certificate == made.epoch in
      let seen = begun (seen_now sender now standing) in
      subst (λ (r : Result Certificate DecodeError). Is (heard_certificate made sender r now (begun standing))) (sym is)
      (if_case Is same (took_certificate made sender certificate seen) (and_blocked sender _ (begun standing))
      (λ h. took_handed sender seen retained new verifies)
      (λ h. absurd (cc (h, (Decides-eqb (certificate_epoch certificate) made.epoch).1 epoch))))

  acted_handed : (given : BatcherInput) (now : ℕ) → BringsVerified made standing given certificate → Is (acted made given now (begun standing))
  unfolding acted
  acted_handed (input.Mail message) now is = absurd is.brings
  acted_handed (input.Vote sender bytes) now is = absurd is.brings
  acted_handed (input.Certificate sender bytes) now is =
      heard_handed sender now (whole format.certificate bytes) is.brings.0 is.epoch is.retained is.brings.1 is.verifies

pub verified_handed : (made : Made) (past : List Timed) (given : Timed) (certificate : Certificate) → BringsVerified made (standing_after made past) given.input certificate
    → HandsOn (step_out made past given) certificate
unfolding step_out step
verified_handed made past given certificate is =
    finished_keeps made (handed.Voter (voter.Verified certificate)) (acted made given.input given.now (begun (standing_after made past)))
    (acted_handed made (standing_after made past) certificate given.input given.now is)
