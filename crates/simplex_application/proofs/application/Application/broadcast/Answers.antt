use Rattle.std.proofs.Common.{◌≡◌, ◌∙◌, refl, sym, ℕ, Bool, true, false, List, [], Option, Some, None}
use Rattle.std.specs.Prelude.{is_some, if◌then◌else◌}
use Rattle.simplex_values.specs.declared.plan.Plan.{Plan}
use Rattle.simplex_values.specs.declared.plan.Plan.TheVariants as plans
use Rattle.simplex_values.specs.declared.plan.Recipients.{Recipients}
use Rattle.simplex_values.specs.declared.plan.Recipients.TheVariants as recipients
use Rattle.simplex_application.specs.Application.{App, Did, if_known, if_pending, on_broadcast, sent, sent_before, no_longer_pending}
use Rattle.simplex_application.specs.Contents.{contents_in}
use Rattle.simplex_application.proofs.application.Application.broadcast.Goals as goal

silent_both : (b : Bool) (x y : Did) → x.replies ≡ [] → y.replies ≡ [] → (if b then x else y).replies ≡ []
silent_both true x y p q = p
silent_both false x y p q = q

known_silent : (app : App) (to : Recipients) (payload : List ℕ) (found : Option (List ℕ)) → (if_known app to payload found).replies ≡ []
known_silent app to payload None = refl
known_silent app to payload (Some contents) = refl

pending_silent : (app : App) (payload : List ℕ) (found : Option (List ℕ)) → (if_pending app payload found).replies ≡ []
pending_silent app payload None = refl
pending_silent app payload (Some contents) =
    silent_both (is_some (contents_in app.seen payload)) (sent_before (no_longer_pending app payload) payload contents) (sent (no_longer_pending app payload) recipients.All payload contents) refl refl

-- nothing is answered where a payload is relayed
broadcast_silent : (app : App) (payload : List ℕ) (plan : Plan) → (on_broadcast app payload plan).replies ≡ []
unfolding on_broadcast
broadcast_silent app payload (plans.Prepare round) = known_silent _ _ _ _
broadcast_silent app payload (plans.Propose round) = pending_silent _ _ _
broadcast_silent app payload (plans.Forward round to) = known_silent _ _ _ _

pub returns-clause-step : goal.returns-clause-step
returns-clause-step g c =
    let silent : (on_broadcast c.args.self.now.state c.args.payload c.args.plan.now).replies ≡ [] = broadcast_silent c.args.self.now.state c.args.payload c.args.plan.now in
    (c.new.ensures ∙ sym silent, c.in_ok-outcome.ensures.outcome, refl, c.in_ok-outcome.ensures.app)
