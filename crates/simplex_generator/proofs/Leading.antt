-- A generator on the way through its list.
use Rattle.std.proofs.Common.{◌≡◌, ◌<◌, ◌+◌, ◌-◌, ◌++◌, ◌∷◌, [], ℕ, zero, suc, List, refl, sym, ap, ◌∙◌, arith, append_assoc, append-nil}
use Rattle.std.specs.Prelude.{Result, Ok, Err}
use Rattle.simplex_transcript.specs.declared.event.Event.{Event}
use Rattle.simplex_transcript.specs.declared.refusal.RunError.{RunError}
use Rattle.model_run.specs.Life.{Noted}
use Rattle.model_run.specs.Entries.{entry_of}
use Rattle.simplex_generator.specs.declared.generator.Generator.{Generator}
use Rattle.simplex_generator.specs.Generated.{setting_for, event_behind, events_behind, unless_refused, generated}
use Rattle.simplex_generator.specs.Stands.{Generates, Draw, Drew, Makes, Refuses}

-- these events, and so many that are left, are those of the number
pub record Leads (generator : Generator) (number left steps : ℕ) (events : List Event) : Type 0 where
  pub before : List Noted
  pub at : ℕ
  pub stands : Generates generator number before at
  pub rest : events ++ events_behind number left before at ≡ generated number steps

pub leads_first : (generator : Generator) (number steps : ℕ) → Generates generator number [] 0 → Leads generator number steps steps []
unfolding generated
leads_first generator number steps stands = record { before = []; at = 0; stands = stands; rest = refl }

pub leads_all : (generator : Generator) (number left steps : ℕ) (events : List Event) → left ≡ 0 → Leads generator number left steps events → events ≡ generated number steps
unfolding events_behind
leads_all generator number zero steps events none leads = sym (append-nil events) ∙ leads.rest
leads_all generator number (suc left) steps events none leads = absurd (omega (arith, none))

-- an event that was drawn and made, or refused
one_more : (number left at : ℕ) (before : List Noted) (event : Event) (made : Result Noted RunError) → event ≡ (event_behind number before at).event → entry_of (setting_for number) before event ≡ made
    → events_behind number (suc left) before at ≡ event ∷ unless_refused made (λ noted. events_behind number left (noted ∷ before) (at + (event_behind number before at).words))
unfolding events_behind
one_more number left at before event made is entry = rw (sym is) (rw entry refl)

pub leads_more : (old drawn new : Generator) (number left steps : ℕ) (events : List Event) (event : Event) → 0 < left → Leads old number left steps events
    → Draw old event → Drew old drawn → Makes drawn new event → Leads new number (left - 1) steps (events ++ event ∷ [])
leads_more old drawn new number zero steps events event some leads draws drew makes = absurd (omega (arith, some))
leads_more old drawn new number (suc left) steps events event some leads draws drew makes =
    let is : event ≡ (event_behind number leads.before leads.at).event = draws number leads.before leads.at leads.stands in
    let made = makes number leads.before (leads.at + (event_behind number leads.before leads.at).words) (drew number leads.before leads.at leads.stands) in
    let next : suc left - 1 ≡ left = omega arith in
    record {
      before = made.0 ∷ leads.before;
      at = leads.at + (event_behind number leads.before leads.at).words;
      stands = made.2;
      rest = rw next
          (append_assoc events (event ∷ []) (events_behind number left (made.0 ∷ leads.before) (leads.at + (event_behind number leads.before leads.at).words))
          ∙ ap (λ es. events ++ es) (sym (one_more number left leads.at leads.before event (Ok made.0) is made.1)) ∙ leads.rest);
    }

pub leads_last : (old drawn : Generator) (number left steps : ℕ) (events : List Event) (event : Event) (error : RunError) → 0 < left → Leads old number left steps events
    → Draw old event → Drew old drawn → Refuses drawn event error → events ++ event ∷ [] ≡ generated number steps
leads_last old drawn number zero steps events event error some leads draws drew refuses = absurd (omega (arith, some))
leads_last old drawn number (suc left) steps events event error some leads draws drew refuses =
    let is : event ≡ (event_behind number leads.before leads.at).event = draws number leads.before leads.at leads.stands in
    let refused = refuses number leads.before (leads.at + (event_behind number leads.before leads.at).words) (drew number leads.before leads.at leads.stands) in
    ap (λ es. events ++ es) (sym (one_more number left leads.at leads.before event (Err error) is refused)) ∙ leads.rest
