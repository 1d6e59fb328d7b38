-- How a change of one part of a resolver moves it.
use Rattle.std.proofs.Common.{◌≡◌, ◌∙◌, ℕ, Bool, List, [], ◌∷◌, length, Option, ap, refl, subst}
use Rattle.simplex_values.specs.declared.ask.Ask.{Ask}
use Rattle.simplex_values.specs.declared.ask.Outcome.{Outcome}
use Rattle.simplex_wire.specs.declared.scheme.Scheme as scheme
use Rattle.simplex_wire.specs.declared.certificate.Certificate.{Certificate}
use Rattle.model_rules.specs.declared.effect.Effect.{Effect}
use Rattle.model_rules.specs.Repair as repair
use Rattle.simplex_repair.specs.declared.repair.RepairState.{RepairState}
use Rattle.simplex_repair.specs.Stands as repairs
use Rattle.model_resolver.specs.declared.out.Out.{Out}
use Rattle.model_resolver.specs.declared.out.Out.TheVariants as outs
use Rattle.model_resolver.specs.Fetcher.{Machine, After, served}
use Rattle.simplex_resolver.specs.declared.actor.Actor.{Actor}
use Rattle.simplex_resolver.specs.declared.work.Work.{Work}
use Rattle.model_resolver.specs.Resolver.{Made, Doing, called, called_all, minded_all, with_fetcher, recorded, serving, handing, with_effects, judging, verdict_of, settled_count, accepted}
use Rattle.simplex_resolver.specs.Stands.{IsAt, Stands, work_of}

-- what goes outside moves nothing
pub called-stays : (out : Out) (doing : Doing) → (called out doing).standing ≡ doing.standing
unfolding called
called-stays (outs.Send to bytes) doing = refl
called-stays (outs.Block member why) doing = refl
called-stays (outs.Deliver id view bytes asks) doing = refl
called-stays (outs.Produce id view) doing = refl
called-stays (outs.Left id) doing = refl

pub called-all-stays : (all : List Out) (doing : Doing) → (called_all all doing).standing ≡ doing.standing
unfolding called_all
called-all-stays [] doing = refl
called-all-stays (out ∷ others) doing = called-all-stays others (called out doing) ∙ called-stays out doing

-- an accepted answer, from its verdict and its effects
pub accepted-as : (P : Doing → Type 0) (made : Made) (now id view : ℕ) (asks : List Ask) (certificate : Certificate) (doing : Doing) (verdict : Option Outcome) (follows : List Effect)
    → verdict ≡ verdict_of (length asks) (settled_count made.term doing.standing.held view asks) (settled_count made.term (repair.Updated certificate ∷ doing.standing.held) view asks)
    → follows ≡ repair.effects_of made.term doing.standing.held (repair.Updated certificate)
    → P (handing certificate (with_effects now follows (judging now id verdict (recorded (repair.Updated certificate) doing))))
    → P (accepted made now id view asks certificate doing)
unfolding accepted
accepted-as P made now id view asks certificate doing verdict follows v f p = rw f at (rw v at p)

module _ {S : Type 0} {g : scheme.Ghosts S} where
  -- a call of the fetcher
  pub fetcher-moves : (old new : Actor S g) (work next : Work) (fetcher : Machine) (wants : List Out) (after : Machine → After) (made : Made) (doing : Doing)
      → Stands old work made doing
      → fetcher ≡ (after old.fetcher).fetcher → wants ≡ (after old.fetcher).outs
      → ((doing : Doing) → Stands (record old { fetcher = fetcher }) work made doing → Stands new next made (minded_all wants doing))
      → Stands new next made (minded_all (after doing.standing.fetcher).outs (with_fetcher (after doing.standing.fetcher).fetcher doing))
  fetcher-moves old new work next fetcher wants after made doing s f o minds =
      let stood : Stands (record old { fetcher = fetcher }) work made (with_fetcher (after doing.standing.fetcher).fetcher doing) = record {
        stands = record { made_is = s.stands.made_is; held_is = s.stands.held_is; fetcher_is = f ∙ ap (λ m. (after m).fetcher) s.stands.fetcher_is; handler_is = s.stands.handler_is };
        does = s.does;
      } in
      subst (λ ws. Stands new next made (minded_all ws (with_fetcher (after doing.standing.fetcher).fetcher doing)))
      (o ∙ ap (λ m. (after m).outs) s.stands.fetcher_is) (minds _ stood)

  -- an answer to a peer
  pub serving-moves : (old : Actor S g) (work next : Work) (fetcher : Machine) (wants : List Out) (id : ℕ) (bytes : Option (List ℕ)) (made : Made) (doing : Doing)
      → Stands old work made doing
      → fetcher ≡ (served id bytes old.fetcher).fetcher → wants ≡ (served id bytes old.fetcher).outs
      → ((doing : Doing) → work ≡ work_of doing → next ≡ work_of (called_all wants doing))
      → Stands (record old { fetcher = fetcher }) next made (serving id bytes doing)
  unfolding serving
  serving-moves old work next fetcher wants id bytes made doing s f o calls =
      let all = (served id bytes doing.standing.fetcher).outs in
      let begun = with_fetcher (served id bytes doing.standing.fetcher).fetcher doing in
      let at : IsAt (record old { fetcher = fetcher }) made begun.standing =
      record { made_is = s.stands.made_is; held_is = s.stands.held_is; fetcher_is = f ∙ ap (λ m. (served id bytes m).fetcher) s.stands.fetcher_is; handler_is = s.stands.handler_is } in
      record {
        stands = rw (called-all-stays all begun) at;
        does = subst (λ ws. next ≡ work_of (called_all ws begun)) (o ∙ ap (λ m. (served id bytes m).outs) s.stands.fetcher_is) (calls begun s.does);
      }

  -- a call of the repair state
  pub recorded-moves : (old : Actor S g) (work : Work) (state : RepairState) (call : repair.RepairCall) (made : Made) (doing : Doing)
      → Stands old work made doing
      → repairs.StandsFor state made.term (call ∷ doing.standing.held)
      → Stands (record old { repair = state }) work made (recorded call doing)
  recorded-moves old work state call made doing s held = record {
    stands = record { made_is = s.stands.made_is; held_is = held; fetcher_is = s.stands.fetcher_is; handler_is = s.stands.handler_is };
    does = s.does;
  }
