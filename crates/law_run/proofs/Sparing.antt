-- A voter reports no evidence, and a batcher that is cut short none that it would not have reported.
use Rattle.std.proofs.Common.{◌≡◌, ℕ, ◌-◌, ◌&&◌, nat_lt, nat_le, ◌==◌, Bool, true, false, List, [], length, take, Option, Some, None, refl, sym, subst, if◌then◌else◌}
use Rattle.std.specs.Option.{option_map_or}
use Rattle.std.proofs.lemmas.List.Elements.{All-nil, All-take}
use Rattle.simplex_wire.specs.declared.certificate.Finalization.{Finalization}
use Rattle.simplex_types.specs.declared.floor.Floor.{Floor}
use Rattle.simplex_journal.specs.Journal.{Section, replayed}
use Rattle.simplex_messages.specs.declared.call.Call.{Call}
use Rattle.simplex_messages.specs.declared.voter.VoterInput.{VoterInput}
use Rattle.simplex_messages.specs.declared.step.Outcome.{Outcome}
use Rattle.simplex_messages.specs.declared.step.Outcome.TheVariants as outcomes
use Rattle.simplex_messages.specs.declared.step.Stop.{Stop}
use Rattle.simplex_messages.specs.declared.step.Stop.TheVariants as stops
use Rattle.simplex_messages.specs.declared.step.StepOut.{StepOut}
use Rattle.simplex_messages.specs.Step.{no_out}
use Rattle.simplex_transcript.specs.declared.node.Node.{Node}
use Rattle.model_steps.specs.Desk.{Doing}
use Rattle.model_steps.specs.Performed.{Performed, stop_place, whole, broken, performed}
use Rattle.model_steps.specs.Voter as voter
use Rattle.model_steps.specs.VoterLife.{VoterMade, Place, place_of, unread, before_reading, start_performed, step_given}
use Rattle.model_steps.specs.Engine as engine
use Rattle.model_steps.specs.Engine.{EngineMade, Did, voter_in, voter_past, cut_short}
use Rattle.model_run.specs.Setting.{Setting}
use Rattle.model_run.specs.Life.{Noted}
use Rattle.model_run.specs.Members.{floor_of, rules_of}
use Rattle.law_member.proofs.VoterStepping.{step_tells}
use Rattle.law_member.specs.Evidence.{blames, BlameNot}
use Rattle.law_member.proofs.Reporting.{added_blame_not, start_blames_not}
use Rattle.law_run.proofs.Events.{engine_at, begun_gives, step_gives}

module _ (member : ℕ) where
  abbrev pub Spares : List Call → Type 0
  Spares made = BlameNot member made

  abbrev IsSpared : Noted → Type 0
  IsSpared noted = Spares noted.entry.calls

  pub none : Spares []
  none = All-nil (λ (call : Call). blames call member ≡ false)

  first : (n : ℕ) (made : List Call) → Spares made → Spares (take n made)
  first n made h = All-take (λ (call : Call). blames call member ≡ false) n made h

  -- ---- a voter

  performed_spares : (stop : Stop) (d : Doing) (js : List Section) → Spares d.calls → Spares (performed stop d js).out.calls
  unfolding performed
  performed_spares stop d js h = at (stop_place stop d.calls)
    where
      at : (o : Option ℕ) → Spares (option_map_or (broken stop d js) o (whole d js)).out.calls
      at None = h
      at (Some place) = first place d.calls h

  start_spares : (stop : Stop) (floor : Floor) (d : Doing) (js : List Section) → Spares d.calls → Spares (start_performed stop floor d js).out.calls
  unfolding start_performed
  start_spares stops.None floor d js h = performed_spares stops.None d js h
  start_spares (stops.Cut call keep) floor d js h = performed_spares (stops.Cut call keep) d js h
  start_spares (stops.Fail call keep) floor d js h = at (call == 1)
    where
      at : (b : Bool) → Spares (if b then unread floor d keep js else performed (stops.Fail (call - 1) keep) d js).out.calls
      at true = first (before_reading floor) d.calls h
      at false = performed_spares (stops.Fail (call - 1) keep) d js h

  pub begun_spares : (setting : Setting) (node : Node) (floor : Option Finalization) (js : List Section) (now : ℕ) (stop : Stop) → Spares (engine.begun (engine_at setting node floor js) now stop).out.calls
  begun_spares setting node floor js now stop =
      let f = floor_of setting.genesis floor in
      let rules = rules_of setting node.member now in
      subst (λ (d : Did). Spares d.out.calls) (sym (begun_gives setting node floor js now stop))
      (start_spares stop f (voter.started rules now f (replayed js)) js (start_blames_not member rules now f (replayed js)))

  pub voter_spares : (made : EngineMade) (past : List Did) (input : VoterInput) (now : ℕ) (stop : Stop) → Spares (step_given (voter_in made past) (voter_past past) input now stop).out.calls
  voter_spares made past input now stop = at (voter.stepped v.rules now place.standing input) refl
    where
      v : VoterMade
      v = voter_in made past

      place : Place
      place = place_of (voter_in made past) (voter_past past)

      at : (o : Option Doing) → voter.stepped v.rules now place.standing input ≡ o → Spares (step_given v (voter_past past) input now stop).out.calls
      at None e = subst (λ (x : Performed). Spares x.out.calls) (sym (step_gives v (voter_past past) input now stop None e)) none
      at (Some d) e =
          let tells = step_tells v.rules now input place.standing d e in
          subst (λ (x : Performed). Spares x.out.calls) (sym (step_gives v (voter_past past) input now stop (Some d) e))
          (performed_spares stop d place.sections (added_blame_not member _ d.calls tells.shown))

  -- ---- the batcher, which is given own votes that were sent

  pub cut_spares : (stop : Stop) (out : StepOut) → Spares out.calls → Spares (cut_short stop out).1.calls
  cut_spares stops.None out h = h
  cut_spares (stops.Fail call keep) out h = h
  cut_spares (stops.Cut call keep) out h = at (nat_lt 0 call && nat_le call (length out.calls))
    where
      pair : Bool → Outcome × StepOut
      pair b = if b then (outcomes.Cut, record no_out { calls = take (call - 1) out.calls }) else (outcomes.Done, out)

      at : (b : Bool) → Spares (pair b).1.calls
      at true = first (call - 1) out.calls h
      at false = h
