-- A step of an engine is its voter's, or quiet.
use Rattle.std.proofs.Common.{◌≡◌, ℕ, ◌-◌, ◌&&◌, nat_lt, nat_le, Bool, true, false, List, [], ◌∷◌, filter, length, take, Option, Some, None, refl, inl, inr, ◌⊎◌, if◌then◌else◌}
use Rattle.std.proofs.Common.{zero, suc}
use Rattle.std.specs.List.{list_all}
use Rattle.simplex_values.specs.declared.plan.Channel.{Channel}
use Rattle.simplex_values.specs.declared.plan.Channel.TheVariants as channels
use Rattle.simplex_mailbox.specs.Mail.{received}
use Rattle.simplex_messages.specs.declared.batcher.BatcherInput.{BatcherInput}
use Rattle.simplex_messages.specs.declared.batcher.BatcherInput.TheVariants as batcher_inputs
use Rattle.simplex_messages.specs.declared.batcher.Message as batcher_message
use Rattle.simplex_messages.specs.declared.call.Call.{Call}
use Rattle.simplex_messages.specs.declared.call.Call.TheVariants as calls
use Rattle.simplex_messages.specs.declared.handed.Handed.TheVariants as handed
use Rattle.simplex_messages.specs.declared.step.Outcome.{Outcome}
use Rattle.simplex_messages.specs.declared.step.Outcome.TheVariants as outcomes
use Rattle.simplex_messages.specs.declared.step.Stop.{Stop}
use Rattle.simplex_messages.specs.declared.step.Stop.TheVariants as stops
use Rattle.simplex_messages.specs.declared.step.StepOut.{StepOut}
use Rattle.simplex_messages.specs.Step.{no_out}
use Rattle.simplex_messages.specs.declared.voter.Message as voter_message
use Rattle.simplex_messages.specs.declared.voter.VoterInput.TheVariants as voter_inputs
use Rattle.simplex_transcript.specs.declared.event.StepSource.{StepSource}
use Rattle.simplex_transcript.specs.declared.event.StepSource.TheVariants as sources
use Rattle.model_steps.specs.Performed.{is_of_journal}
use Rattle.model_steps.specs.Batcher as batcher
use Rattle.model_steps.specs.Engine as engine
use Rattle.model_steps.specs.Engine.{EngineMade, Did, given_to_voter, batcher_past, cut_short}
use Rattle.model_steps.specs.ResolverSteps.{is_call_of_resolver, IsOfResolver, IsApart}
use Rattle.model_steps.proofs.ResolverSteps.{heard_by_resolver, heard_apart, stepped_resolver, stepped_resolver_apart, stepped_handler, stepped_handler_apart, stepped_fetcher, stepped_fetcher_apart}
use Rattle.law_run.proofs.Nodes.{resolver_no_start, handler_no_start, fetcher_no_start}
use Rattle.law_run.proofs.NodeQuiet.{AllHush, batcher_hush}
use Rattle.law_run.proofs.Letting.{heard_either, heard_no_start}
use Rattle.law_requests.specs.Steps.{IsQuiet, IsVoters}

module _ (made : EngineMade) (past : List Did) where
  abbrev IsEither : StepSource → ℕ → Stop → Did → Type 0
  IsEither source now stop did = IsQuiet did ⊎ IsVoters made past source now stop did

  held_nothing : (source : StepSource) (now : ℕ) (stop : Stop) → given_to_voter (engine.nothing_held source now stop) ≡ None → IsQuiet (engine.nothing_held source now stop)
  held_nothing source now stop n = record { given = n; start = refl; asked = refl; dropped = refl; journal = refl }

  hush_calls : (cs : List Call) → AllHush cs → filter is_of_journal cs ≡ []
  hush_calls [] q = refl
  hush_calls (calls.Report a ∷ rest) q = hush_calls rest q.1
  hush_calls (calls.Relay payload plan ∷ rest) q = hush_calls rest q.1
  hush_calls (calls.Block who why ∷ rest) q = hush_calls rest q.1
  hush_calls (calls.Append n a ∷ rest) q = absurd q.0
  hush_calls (calls.Sync n ∷ rest) q = absurd q.0
  hush_calls (calls.Prune n ∷ rest) q = absurd q.0
  hush_calls (calls.Send channel to bytes ∷ rest) q = absurd q.0

  taken_calls : (n : ℕ) (cs : List Call) → AllHush cs → AllHush (take n cs)
  taken_calls zero cs q = tt
  taken_calls (suc n) [] q = tt
  taken_calls (suc n) (c ∷ cs) q = (q.0, taken_calls n cs q.1)

  cut_quiet : (stop : Stop) (out : StepOut) → AllHush out.calls → out.asked ≡ [] → out.dropped ≡ []
      → (let cut = (cut_short stop out).1 in (filter is_of_journal cut.calls ≡ []) × (cut.asked ≡ []) × (cut.dropped ≡ []))
  cut_quiet stops.None out n e f = (hush_calls out.calls n, e, f)
  cut_quiet (stops.Fail call keep) out n e f = (hush_calls out.calls n, e, f)
  cut_quiet (stops.Cut call keep) out n e f = at (nat_lt 0 call && nat_le call (length out.calls))
    where
      pair : Bool → Outcome × StepOut
      pair b = if b then (outcomes.Cut, record no_out { calls = take (call - 1) out.calls }) else (outcomes.Done, out)

      at : (b : Bool) → (filter is_of_journal (pair b).1.calls ≡ []) × ((pair b).1.asked ≡ []) × ((pair b).1.dropped ≡ [])
      at true = (hush_calls (take (call - 1) out.calls) (taken_calls (call - 1) out.calls n), refl, refl)
      at false = (hush_calls out.calls n, e, f)

  batcher_quiet : (taken : engine.Taken) (input : BatcherInput) (now : ℕ) (stop : Stop)
      → ((n : ℕ) (s : Stop) (o : Outcome) (out : StepOut) → (given_to_voter (engine.did_of taken n s o out) ≡ None) × (engine.is_start taken ≡ false)) → IsQuiet (engine.by_batcher made past taken input now stop)
  unfolding engine.by_batcher batcher.step_out
  batcher_quiet taken input now stop unseen =
      let given : batcher.Timed = record { input = input; now = now } in
      let out = batcher.step_out made.batcher (batcher_past past) given in
      let did = engine.by_batcher made past taken input now stop in
      let cut = cut_quiet stop out (batcher_hush made.batcher (batcher_past past) given).0 refl refl in
      record {
        given = (unseen did.now did.stop did.outcome did.out).0;
        start = (unseen did.now did.stop did.outcome did.out).1;
        journal = cut.0;
        asked = cut.1;
        dropped = cut.2;
      }

  resolver_calls : (cs : List Call) → list_all is_call_of_resolver cs ≡ true → filter is_of_journal cs ≡ []
  resolver_calls [] e = refl
  resolver_calls (calls.Block who why ∷ cs) e = resolver_calls cs e
  resolver_calls (calls.Send channels.Resolver to bytes ∷ cs) e = resolver_calls cs e
  resolver_calls (calls.Send channels.Vote to bytes ∷ cs) e = cc
  resolver_calls (calls.Send channels.Certificate to bytes ∷ cs) e = cc
  resolver_calls (calls.Append n a ∷ cs) e = cc
  resolver_calls (calls.Sync n ∷ cs) e = cc
  resolver_calls (calls.Prune n ∷ cs) e = cc
  resolver_calls (calls.Report a ∷ cs) e = cc
  resolver_calls (calls.Relay payload plan ∷ cs) e = cc

  resolver_quiet : (did : Did) → IsOfResolver did.out → IsApart did → engine.is_start did.taken ≡ false → IsQuiet did
  resolver_quiet did r apart no_start = record { given = apart.voter; start = no_start; asked = r.asked; dropped = r.dropped; journal = resolver_calls did.out.calls r.calls }

  batcher_step : (now : ℕ) (stop : Stop) (o : Option batcher_message.Message) → IsQuiet (engine.on_batcher_mail made past now stop o)
  batcher_step now stop None = held_nothing sources.Batcher now stop refl
  batcher_step now stop (Some message) = batcher_quiet (engine.Took sources.Batcher (Some (handed.Batcher message))) (batcher_inputs.Mail message) now stop (λ n s o out. (refl, refl))

  voter_step : (now : ℕ) (stop : Stop) (o : Option voter_message.Message) → IsEither sources.Voter now stop (engine.on_voter_mail made past now stop o)
  voter_step now stop None = inl (held_nothing sources.Voter now stop refl)
  voter_step now stop (Some message) = inr (record { input = voter_inputs.Mail message; of = (refl, refl); given = refl; start = refl; out = refl; outcome = refl })

  pub any_step : (source : StepSource) (now : ℕ) (stop : Stop) → IsEither source now stop (engine.stepped made past source now stop)
  unfolding engine.stepped
  any_step sources.Batcher now stop = inl (batcher_step now stop (received (engine.batcher_mail made past)))
  any_step sources.Voter now stop = voter_step now stop (received (engine.voter_mail made past))
  any_step sources.Timer now stop = inr (record { input = voter_inputs.Timer; of = (refl, refl); given = refl; start = refl; out = refl; outcome = refl })
  any_step sources.Propose now stop = inr (record { input = voter_inputs.Propose; of = (refl, refl); given = refl; start = refl; out = refl; outcome = refl })
  any_step sources.Verify now stop = inr (record { input = voter_inputs.Verify; of = (refl, refl); given = refl; start = refl; out = refl; outcome = refl })
  any_step sources.Certify now stop = inr (record { input = voter_inputs.Certify; of = (refl, refl); given = refl; start = refl; out = refl; outcome = refl })
  any_step sources.Resolver now stop = inl (resolver_quiet (engine.stepped made past sources.Resolver now stop) (stepped_resolver made past now stop) (stepped_resolver_apart made past now stop) (resolver_no_start made past now stop))
  any_step sources.Handler now stop = inl (resolver_quiet (engine.stepped made past sources.Handler now stop) (stepped_handler made past now stop) (stepped_handler_apart made past now stop) (handler_no_start made past now stop))
  any_step sources.Fetch now stop = inl (resolver_quiet (engine.stepped made past sources.Fetch now stop) (stepped_fetcher made past now stop) (stepped_fetcher_apart made past now stop) (fetcher_no_start made past now stop))

  refused_or : (sender : ℕ) (channel : Channel) (bytes : List ℕ) (now : ℕ) → IsQuiet (engine.let_in made past sender channel bytes now) → IsQuiet (engine.heard made past sender channel bytes now)
  refused_or sender channel bytes now l = heard_either IsQuiet made past sender channel bytes now (record { given = refl; start = refl; asked = refl; dropped = refl; journal = refl }) l

  pub heard_quiet : (sender : ℕ) (channel : Channel) (bytes : List ℕ) (now : ℕ) → IsQuiet (engine.heard made past sender channel bytes now)
  unfolding engine.let_in
  heard_quiet sender channels.Vote bytes now =
      refused_or sender channels.Vote bytes now (batcher_quiet (engine.Heard sender channels.Vote bytes) (batcher_inputs.Vote sender bytes) now stops.None (λ n s o out. (refl, refl)))
  heard_quiet sender channels.Certificate bytes now =
      refused_or sender channels.Certificate bytes now (batcher_quiet (engine.Heard sender channels.Certificate bytes) (batcher_inputs.Certificate sender bytes) now stops.None (λ n s o out. (refl, refl)))
  heard_quiet sender channels.Resolver bytes now =
      resolver_quiet (engine.heard made past sender channels.Resolver bytes now) (heard_by_resolver made past sender bytes now) (heard_apart made past sender bytes now) (heard_no_start made past sender channels.Resolver bytes now)
