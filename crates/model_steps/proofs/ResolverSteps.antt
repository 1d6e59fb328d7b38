-- A resolver's step sends on the resolver channel and blocks, and hands on to its handler and the voter alone.
use Rattle.std.proofs.Common.{◌≡◌, ℕ, ◌&&◌, Bool, true, false, List, [], ◌∷◌, ◌++◌, map, reverse, take, zero, suc, Option, Some, None, refl, if◌then◌else◌}
use Rattle.std.specs.List.{list_all}
use Rattle.simplex_values.specs.declared.ask.Ask.{Ask}
use Rattle.simplex_values.specs.declared.ask.Kind.{Kind}
use Rattle.simplex_values.specs.declared.ask.Outcome.{Outcome}
use Rattle.simplex_wire.specs.declared.certificate.Certificate.{Certificate}
use Rattle.model_rules.specs.declared.effect.Effect.{Effect}
use Rattle.model_rules.specs.Repair as repair
use Rattle.simplex_messages.specs.declared.call.Call.{Call}
use Rattle.simplex_messages.specs.declared.call.Call.TheVariants as calls
use Rattle.simplex_messages.specs.declared.resolver.ResolverInput.{ResolverInput}
use Rattle.simplex_messages.specs.declared.resolver.ResolverInput.TheVariants as inputs
use Rattle.simplex_messages.specs.declared.resolver.MailboxMessage.{MailboxMessage}
use Rattle.simplex_messages.specs.declared.resolver.MailboxMessage.TheVariants as mail
use Rattle.simplex_messages.specs.declared.resolver.HandlerMessage.{HandlerMessage}
use Rattle.simplex_messages.specs.declared.resolver.HandlerMessage.TheVariants as handler
use Rattle.model_resolver.specs.declared.out.Out.{Out}
use Rattle.model_resolver.specs.declared.out.Out.TheVariants as outs
use Rattle.model_resolver.specs.declared.retire.Retire.{Retire}
use Rattle.model_resolver.specs.Fetcher as fetch
use Rattle.model_resolver.specs.Sends.{send_call, send_calls}
use Rattle.model_resolver.specs.Resolver.{Made, Given, Standing, Doing, begun, with_fetcher, called, called_all, putting, leaving, serving, requested, minded, minded_all, after_fetcher, judging, hearing, expiring, retiring, retiring_all, fetching, with_effects, recorded, repairing, handing, passed_over, accepted, answered, delivered, produced, resolving, took_mail, took_handled, acted, step, standing_after, step_out, validated}
use Rattle.simplex_values.specs.declared.plan.Channel.TheVariants as channels
use Rattle.simplex_messages.specs.declared.step.Outcome.{Outcome as StepOutcome}
use Rattle.simplex_messages.specs.declared.step.Outcome.TheVariants as outcomes
use Rattle.simplex_messages.specs.declared.step.Stop.{Stop}
use Rattle.simplex_messages.specs.declared.step.Stop.TheVariants as stops
use Rattle.simplex_messages.specs.declared.step.StepOut.{StepOut}
use Rattle.simplex_transcript.specs.declared.event.StepSource.TheVariants as sources
use Rattle.model_steps.specs.Engine as engine
use Rattle.model_steps.specs.Engine.{EngineMade, Did, Taken, cut_short, by_resolver, resolver_past, nothing_held}
use Rattle.model_steps.specs.ResolverSteps.{is_call_of_resolver, is_handed_by_resolver, IsOfResolver, IsApart}

both : (a b : Bool) → (a && b) ≡ true → (a ≡ true) × (b ≡ true)
both true b e = (refl, e)
both false b e = cc

and_true : (a b : Bool) → a ≡ true → b ≡ true → (a && b) ≡ true
and_true true b e f = f
and_true false b e f = cc

all_append : {A : Type 0} (test : A → Bool) (xs ys : List A) → list_all test xs ≡ true → list_all test ys ≡ true → list_all test (xs ++ ys) ≡ true
all_append test [] ys e f = f
all_append test (x ∷ xs) ys e f = and_true (test x) _ (both _ _ e).0 (all_append test xs ys (both _ _ e).1 f)

-- what a step did so far
record IsQuiet (doing : Doing) : Type 0 where
  blocks : list_all is_call_of_resolver doing.blocks ≡ true
  handed : list_all is_handed_by_resolver doing.handed ≡ true

either : (b : Bool) (x y : Doing) → IsQuiet x → IsQuiet y → IsQuiet (if b then x else y)
either true x y p q = p
either false x y p q = q

called_quiet : (out : Out) (d : Doing) → IsQuiet d → IsQuiet (called out d)
unfolding called
called_quiet (outs.Send to bytes) d q = record { blocks = q.blocks; handed = q.handed }
called_quiet (outs.Block member why) d q = record { blocks = all_append is_call_of_resolver d.blocks (calls.Block member why ∷ []) q.blocks refl; handed = q.handed }
called_quiet (outs.Deliver id view bytes asks) d q = q
called_quiet (outs.Produce id view) d q = q
called_quiet (outs.Left id) d q = q

called_all_quiet : (out : List Out) (d : Doing) → IsQuiet d → IsQuiet (called_all out d)
unfolding called_all
called_all_quiet [] d q = q
called_all_quiet (out ∷ others) d q = called_all_quiet others (called out d) (called_quiet out d q)

putting_quiet : (message : HandlerMessage) (d : Doing) → IsQuiet d → IsQuiet (putting message d)
unfolding putting
putting_quiet message d q = record { blocks = q.blocks; handed = all_append is_handed_by_resolver d.handed _ q.handed refl }

leaving_quiet : (id : ℕ) (d : Doing) → IsQuiet d → IsQuiet (leaving id d)
unfolding leaving
leaving_quiet id d q = record { blocks = q.blocks; handed = q.handed }

with_fetcher_quiet : (f : fetch.Machine) (d : Doing) → IsQuiet d → IsQuiet (with_fetcher f d)
with_fetcher_quiet f d q = record { blocks = q.blocks; handed = q.handed }

serving_quiet : (id : ℕ) (bytes : Option (List ℕ)) (d : Doing) → IsQuiet d → IsQuiet (serving id bytes d)
unfolding serving
serving_quiet id bytes d q = called_all_quiet _ _ (with_fetcher_quiet _ d q)

requested_quiet : (id view : ℕ) (d : Doing) → IsQuiet d → IsQuiet (requested id view d)
unfolding requested
requested_quiet id view d q =
    either _ _ _ (serving_quiet id None _ (putting_quiet (handler.Produce id view) d q)) (putting_quiet (handler.Produce id view) d q)

minded_quiet : (out : Out) (d : Doing) → IsQuiet d → IsQuiet (minded out d)
unfolding minded
minded_quiet (outs.Deliver id view bytes asks) d q = putting_quiet (handler.Deliver id view bytes asks true) d q
minded_quiet (outs.Produce id view) d q = requested_quiet id view d q
minded_quiet (outs.Left id) d q = leaving_quiet id d q
minded_quiet (outs.Send to bytes) d q = called_quiet (outs.Send to bytes) d q
minded_quiet (outs.Block member why) d q = called_quiet (outs.Block member why) d q

minded_all_quiet : (out : List Out) (d : Doing) → IsQuiet d → IsQuiet (minded_all out d)
unfolding minded_all
minded_all_quiet [] d q = q
minded_all_quiet (out ∷ others) d q = minded_all_quiet others (minded out d) (minded_quiet out d q)

after_quiet : (after : fetch.After) (d : Doing) → IsQuiet d → IsQuiet (after_fetcher after d)
after_quiet after d q = minded_all_quiet after.outs (with_fetcher after.fetcher d) (with_fetcher_quiet after.fetcher d q)

judging_quiet : (now id : ℕ) (verdict : Option Outcome) (d : Doing) → IsQuiet d → IsQuiet (judging now id verdict d)
unfolding judging
judging_quiet now id verdict d q = after_quiet _ d q

hearing_quiet : (sender : ℕ) (bytes : List ℕ) (now : ℕ) (d : Doing) → IsQuiet d → IsQuiet (hearing sender bytes now d)
unfolding hearing
hearing_quiet sender bytes now d q = after_quiet _ d q

expiring_quiet : (now : ℕ) (d : Doing) → IsQuiet d → IsQuiet (expiring now d)
unfolding expiring
expiring_quiet now d q = after_quiet _ d q

retiring_quiet : (retire : Retire) (d : Doing) → IsQuiet d → IsQuiet (retiring retire d)
unfolding retiring
retiring_quiet retire d q = after_quiet _ d q

retiring_all_quiet : (retires : List Retire) (d : Doing) → IsQuiet d → IsQuiet (retiring_all retires d)
unfolding retiring_all
retiring_all_quiet [] d q = q
retiring_all_quiet (retire ∷ others) d q = retiring_all_quiet others (retiring retire d) (retiring_quiet retire d q)

fetching_quiet : (fetchings : List fetch.Fetching) (now : ℕ) (d : Doing) → IsQuiet d → IsQuiet (fetching fetchings now d)
unfolding fetching
fetching_quiet fetchings now d q = after_quiet _ d q

effects_quiet : (now : ℕ) (follows : List Effect) (d : Doing) → IsQuiet d → IsQuiet (with_effects now follows d)
unfolding with_effects
effects_quiet now follows d q = fetching_quiet _ now _ (retiring_all_quiet _ d q)

recorded_quiet : (call : repair.RepairCall) (d : Doing) → IsQuiet d → IsQuiet (recorded call d)
recorded_quiet call d q = record { blocks = q.blocks; handed = q.handed }

repairing_quiet : (made : Made) (now : ℕ) (call : repair.RepairCall) (d : Doing) → IsQuiet d → IsQuiet (repairing made now call d)
unfolding repairing
repairing_quiet made now call d q = effects_quiet now _ (recorded call d) (recorded_quiet call d q)

handing_quiet : (certificate : Certificate) (d : Doing) → IsQuiet d → IsQuiet (handing certificate d)
handing_quiet certificate d q = record { blocks = q.blocks; handed = all_append is_handed_by_resolver d.handed _ q.handed refl }

passed_quiet : (made : Made) (now id view : ℕ) (asks : List Ask) (d : Doing) → IsQuiet d → IsQuiet (passed_over made now id view asks d)
unfolding passed_over
passed_quiet made now id view asks d q = judging_quiet now id _ d q

accepted_quiet : (made : Made) (now id view : ℕ) (asks : List Ask) (certificate : Certificate) (d : Doing) → IsQuiet d
    → IsQuiet (accepted made now id view asks certificate d)
unfolding accepted
accepted_quiet made now id view asks certificate d q =
    handing_quiet certificate _ (effects_quiet now _ _ (judging_quiet now id _ _ (recorded_quiet (repair.Updated certificate) d q)))

answered_quiet : (made : Made) (now id view : ℕ) (asks : List Ask) (o : Option Certificate) (d : Doing) → IsQuiet d
    → IsQuiet (answered made now id view asks o d)
unfolding answered
answered_quiet made now id view asks None d q = judging_quiet now id _ d q
answered_quiet made now id view asks (Some certificate) d q =
    either _ _ _ (passed_quiet made now id view asks d q) (accepted_quiet made now id view asks certificate d q)

delivered_quiet : (made : Made) (now id view : ℕ) (bytes : List ℕ) (asks : List Ask) (d : Doing) → IsQuiet d
    → IsQuiet (delivered made now id view bytes asks d)
unfolding delivered
delivered_quiet made now id view bytes asks d q =
    either _ _ _ (judging_quiet now id _ d q) (answered_quiet made now id view asks (validated made view bytes) d q)

produced_quiet : (made : Made) (id view : ℕ) (d : Doing) → IsQuiet d → IsQuiet (produced made id view d)
unfolding produced
produced_quiet made id view d q = serving_quiet id _ d q

resolving_quiet : (made : Made) (now proposal view : ℕ) (kind : Kind) (target : Option ℕ) (d : Doing) → IsQuiet d
    → IsQuiet (resolving made now proposal view kind target d)
unfolding resolving
resolving_quiet made now proposal view kind target d q = either _ _ _ q (fetching_quiet _ now d q)

mail_quiet : (made : Made) (message : MailboxMessage) (now : ℕ) (d : Doing) → IsQuiet d → IsQuiet (took_mail made message now d)
unfolding took_mail
mail_quiet made (mail.Updated certificate) now d q = repairing_quiet made now _ d q
mail_quiet made (mail.Certified notarization success) now d q = repairing_quiet made now _ d q
mail_quiet made (mail.Resolve proposal view kind target) now d q = resolving_quiet made now proposal view kind target d q
mail_quiet made mail.Replayed now d q = repairing_quiet made now _ d q

handled_quiet : (made : Made) (message : HandlerMessage) (now : ℕ) (d : Doing) → IsQuiet d → IsQuiet (took_handled made message now d)
unfolding took_handled
handled_quiet made (handler.Deliver id view bytes asks waiting) now d q = either waiting _ _ (delivered_quiet made now id view bytes asks d q) q
handled_quiet made (handler.Produce id view) now d q = produced_quiet made id view d q

acted_quiet : (made : Made) (input : ResolverInput) (now : ℕ) (d : Doing) → IsQuiet d → IsQuiet (acted made input now d)
unfolding acted
acted_quiet made (inputs.Mail message) now d q = mail_quiet made message now d q
acted_quiet made (inputs.Handler message) now d q = handled_quiet made message now d q
acted_quiet made (inputs.Packet sender bytes) now d q = hearing_quiet sender bytes now d q
acted_quiet made inputs.Timer now d q = expiring_quiet now d q

step_quiet : (made : Made) (standing : Standing) (input : ResolverInput) (now : ℕ) → IsQuiet (step made standing input now)
unfolding step
step_quiet made standing input now = acted_quiet made input now (begun standing) (record { blocks = refl; handed = refl })

each_quiet : {S : Type 0} (call_of : S → Call) (sends : List S) → ((sent : S) → is_call_of_resolver (call_of sent) ≡ true)
    → list_all is_call_of_resolver (map call_of sends) ≡ true
each_quiet call_of [] h = refl
each_quiet call_of (sent ∷ others) h = and_true _ _ (h sent) (each_quiet call_of others h)

-- of what a step gives
pub calls_of_resolver : (made : Made) (past : List Given) (input : ResolverInput) (now : ℕ)
    → list_all is_call_of_resolver (step_out made past input now).calls ≡ true
unfolding step_out send_calls
calls_of_resolver made past input now =
    let doing = step made (standing_after made past) input now in
    all_append is_call_of_resolver doing.blocks (send_calls doing.sends)
    (step_quiet made (standing_after made past) input now).blocks (each_quiet send_call (reverse doing.sends) (λ sent. refl))

pub handed_by_resolver : (made : Made) (past : List Given) (input : ResolverInput) (now : ℕ)
    → list_all is_handed_by_resolver (step_out made past input now).handed ≡ true
unfolding step_out
handed_by_resolver made past input now = (step_quiet made (standing_after made past) input now).handed

step_of_resolver : (made : Made) (past : List Given) (input : ResolverInput) (now : ℕ) → IsOfResolver (step_out made past input now)
unfolding step_out
step_of_resolver made past input now =
    record {
      calls = calls_of_resolver made past input now;
      handed = handed_by_resolver made past input now;
      added = refl;
      asked = refl;
      dropped = refl;
    }

-- ---- inside an engine

all_taken : {A : Type 0} (test : A → Bool) (n : ℕ) (xs : List A) → list_all test xs ≡ true → list_all test (take n xs) ≡ true
all_taken test zero xs h = refl
all_taken test (suc n) [] h = refl
all_taken test (suc n) (x ∷ xs) h = and_true (test x) _ (both _ _ h).0 (all_taken test n xs (both _ _ h).1)

either_out : (b : Bool) (x y : StepOutcome × StepOut) → IsOfResolver x.1 → IsOfResolver y.1 → IsOfResolver (if b then x else y).1
either_out true x y p q = p
either_out false x y p q = q

cut_of_resolver : (stop : Stop) (out : StepOut) → IsOfResolver out → IsOfResolver (cut_short stop out).1
cut_of_resolver stops.None out h = h
cut_of_resolver (stops.Cut call keep) out h =
    either_out _ _ (outcomes.Done, out)
    (record { calls = all_taken is_call_of_resolver _ out.calls h.calls; handed = refl; added = refl; asked = refl; dropped = refl }) h
cut_of_resolver (stops.Fail call keep) out h = h

by_resolver_quiet : (made : EngineMade) (given : List Given) (taken : Taken) (input : ResolverInput) (now : ℕ) (stop : Stop)
    → IsOfResolver (by_resolver made given taken input now stop).out
unfolding by_resolver
by_resolver_quiet made given taken input now stop = cut_of_resolver stop _ (step_of_resolver made.resolver given input now)

none_held : (source : _) (now : ℕ) (stop : Stop) → IsOfResolver (nothing_held source now stop).out
none_held source now stop = record { calls = refl; handed = refl; added = refl; asked = refl; dropped = refl }

either_did : (b : Bool) (x y : Did) → IsOfResolver x.out → IsOfResolver y.out → IsOfResolver (if b then x else y).out
either_did true x y p q = p
either_did false x y p q = q

-- a packet on the resolver channel, which is refused or let in
refused_quiet : (sender : ℕ) (bytes : List ℕ) (now : ℕ) → IsOfResolver (engine.refused sender channels.Resolver bytes now).out
refused_quiet sender bytes now = record { calls = refl; handed = refl; added = refl; asked = refl; dropped = refl }

let_in_quiet : (made : EngineMade) (past : List Did) (sender : ℕ) (bytes : List ℕ) (now : ℕ)
    → IsOfResolver (engine.let_in made past sender channels.Resolver bytes now).out
unfolding engine.let_in
let_in_quiet made past sender bytes now = by_resolver_quiet made _ _ _ now stops.None

pub heard_by_resolver : (made : EngineMade) (past : List Did) (sender : ℕ) (bytes : List ℕ) (now : ℕ)
    → IsOfResolver (engine.heard made past sender channels.Resolver bytes now).out
unfolding engine.heard
heard_by_resolver made past sender bytes now = either_did _ _ _ (refused_quiet sender bytes now) (let_in_quiet made past sender bytes now)

-- a step on its mailbox, on its handler's, and at a deadline
on_mail_quiet : (made : EngineMade) (past : List Did) (now : ℕ) (stop : Stop) (o : Option MailboxMessage) → IsOfResolver (engine.on_resolver_mail made past now stop o).out
on_mail_quiet made past now stop None = none_held sources.Resolver now stop
on_mail_quiet made past now stop (Some message) = by_resolver_quiet made _ _ _ now stop

on_handler_quiet : (made : EngineMade) (past : List Did) (now : ℕ) (stop : Stop) (o : Option HandlerMessage) → IsOfResolver (engine.on_handler_mail made past now stop o).out
on_handler_quiet made past now stop None = none_held sources.Handler now stop
on_handler_quiet made past now stop (Some message) = by_resolver_quiet made _ _ _ now stop

pub stepped_resolver : (made : EngineMade) (past : List Did) (now : ℕ) (stop : Stop) → IsOfResolver (engine.stepped made past sources.Resolver now stop).out
unfolding engine.stepped
stepped_resolver made past now stop = on_mail_quiet made past now stop _

pub stepped_handler : (made : EngineMade) (past : List Did) (now : ℕ) (stop : Stop) → IsOfResolver (engine.stepped made past sources.Handler now stop).out
unfolding engine.stepped
stepped_handler made past now stop = on_handler_quiet made past now stop _

pub stepped_fetcher : (made : EngineMade) (past : List Did) (now : ℕ) (stop : Stop) → IsOfResolver (engine.stepped made past sources.Fetch now stop).out
unfolding engine.stepped
stepped_fetcher made past now stop =
    either_did _ (by_resolver made (resolver_past past) (engine.Took sources.Fetch None) inputs.Timer now stop) (nothing_held sources.Fetch now stop)
    (by_resolver_quiet made _ _ _ now stop) (none_held sources.Fetch now stop)

-- none of them is given to the voter or to the batcher
either_apart : (b : Bool) (x y : Did) → IsApart x → IsApart y → IsApart (if b then x else y)
either_apart true x y p q = p
either_apart false x y p q = q

none_let_in : {A : Type 0} (taken : Taken) (outcome : StepOutcome) → engine.if_let_in {A = A} taken outcome None ≡ None
none_let_in (engine.Heard sender channel bytes) outcomes.Done = refl
none_let_in (engine.Heard sender channel bytes) outcomes.Idle = refl
none_let_in (engine.Heard sender channel bytes) outcomes.Journal = refl
none_let_in (engine.Heard sender channel bytes) outcomes.Cut = refl
none_let_in (engine.Heard sender channel bytes) outcomes.Refused = refl
none_let_in _ outcome = refl

let_in_apart : (made : EngineMade) (past : List Did) (sender : ℕ) (bytes : List ℕ) (now : ℕ) → IsApart (engine.let_in made past sender channels.Resolver bytes now)
unfolding engine.let_in by_resolver
let_in_apart made past sender bytes now = record { voter = refl; batcher = none_let_in (engine.Heard sender channels.Resolver bytes) (engine.let_in made past sender channels.Resolver bytes now).outcome }

pub heard_apart : (made : EngineMade) (past : List Did) (sender : ℕ) (bytes : List ℕ) (now : ℕ) → IsApart (engine.heard made past sender channels.Resolver bytes now)
unfolding engine.heard
heard_apart made past sender bytes now =
    either_apart _ (engine.refused sender channels.Resolver bytes now) _ (record { voter = refl; batcher = refl }) (let_in_apart made past sender bytes now)

mail_apart : (made : EngineMade) (past : List Did) (now : ℕ) (stop : Stop) (o : Option MailboxMessage) → IsApart (engine.on_resolver_mail made past now stop o)
unfolding by_resolver
mail_apart made past now stop None = record { voter = refl; batcher = refl }
mail_apart made past now stop (Some message) = record { voter = refl; batcher = refl }

handler_apart : (made : EngineMade) (past : List Did) (now : ℕ) (stop : Stop) (o : Option HandlerMessage) → IsApart (engine.on_handler_mail made past now stop o)
unfolding by_resolver
handler_apart made past now stop None = record { voter = refl; batcher = refl }
handler_apart made past now stop (Some message) = record { voter = refl; batcher = refl }

pub stepped_resolver_apart : (made : EngineMade) (past : List Did) (now : ℕ) (stop : Stop) → IsApart (engine.stepped made past sources.Resolver now stop)
unfolding engine.stepped
stepped_resolver_apart made past now stop = mail_apart made past now stop _

pub stepped_handler_apart : (made : EngineMade) (past : List Did) (now : ℕ) (stop : Stop) → IsApart (engine.stepped made past sources.Handler now stop)
unfolding engine.stepped
stepped_handler_apart made past now stop = handler_apart made past now stop _

deadline_apart : (made : EngineMade) (past : List Did) (now : ℕ) (stop : Stop)
    → IsApart (by_resolver made (resolver_past past) (engine.Took sources.Fetch None) inputs.Timer now stop)
unfolding by_resolver
deadline_apart made past now stop = record { voter = refl; batcher = refl }

pub stepped_fetcher_apart : (made : EngineMade) (past : List Did) (now : ℕ) (stop : Stop) → IsApart (engine.stepped made past sources.Fetch now stop)
unfolding engine.stepped
stepped_fetcher_apart made past now stop =
    either_apart _ (by_resolver made (resolver_past past) (engine.Took sources.Fetch None) inputs.Timer now stop) (nothing_held sources.Fetch now stop)
    (deadline_apart made past now stop) (record { voter = refl; batcher = refl })
