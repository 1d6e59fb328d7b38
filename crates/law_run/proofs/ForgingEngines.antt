-- Whatever an engine does, a faulty member forges nothing by it: its votes are its own, and its certificates are backed.
use Rattle.std.proofs.Common.{◌≡◌, ℕ, ◌++◌, Bool, true, List, [], ◌∷◌, All, Contains, Option, Some, None, refl, sym, ap, ◌∙◌, subst, inl, inr, if◌then◌else◌}
use Rattle.std.proofs.lemmas.List.Elements.{All-weaker, Contains-append_right}
use Rattle.simplex_values.specs.declared.plan.Channel.TheVariants as channels
use Rattle.simplex_values.specs.declared.plan.Recipients.{Recipients}
use Rattle.simplex_wire.specs.declared.attestation.Attestation.{Attestation}
use Rattle.simplex_wire.specs.declared.certificate.Certificate.{Certificate}
use Rattle.simplex_wire.specs.declared.certificate.Finalization.{Finalization}
use Rattle.simplex_wire.specs.Fields.{certificate_subject, certificate_signatures}
use Rattle.simplex_wire.specs.Format.{whole}
use Rattle.simplex_wire.specs.Message as format
use Rattle.simplex_messages.specs.declared.call.Call.{Call}
use Rattle.simplex_messages.specs.declared.call.Call.TheVariants as calls
use Rattle.simplex_transcript.specs.declared.event.Event.{Event}
use Rattle.simplex_transcript.specs.declared.event.Event.TheVariants as events
use Rattle.simplex_transcript.specs.declared.node.Node.{Node}
use Rattle.model_run.specs.Setting.{Setting}
use Rattle.model_run.specs.Kinds.{is_node, runs_engine}
use Rattle.model_run.specs.Life.{Noted, is_of, clock_of}
use Rattle.model_run.specs.Entries.{packets_of, is_own_floor}
use Rattle.law_agreement.proofs.ListFacts.{Contains-here, Contains-there}
use Rattle.law_run.specs.Histories.{IsStartAbove, calls_of}
use Rattle.law_run.specs.Saying.{InStart}
use Rattle.law_run.specs.Sayings.{Each, InCall}
use Rattle.law_run.proofs.Further.{same_self}
use Rattle.law_run.proofs.Members.{faulty_listed}
use Rattle.law_run.proofs.Nodes.{ActsByEngine, turn_lives, engine_lives}
use Rattle.law_run.proofs.Turns.{IsBeginning, IsGoing, IsTurn}
use Rattle.law_run.specs.Fitting.{IsOfBytes, AreTyped}
use Rattle.law_run.specs.MostlyHonest.{IsMostlyHonest}
use Rattle.law_run.proofs.Answering.{answer_good}
use Rattle.law_run.proofs.Backers.{Counts}
use Rattle.law_run.proofs.Beginning.{begun_said}
use Rattle.law_run.proofs.BackingEngines.{IsLifeFine, first_half}
use Rattle.law_run.proofs.Good.{IsGood, IsSized, good_again}
use Rattle.law_run.proofs.Owning.{went_own}
use Rattle.law_run.proofs.Reporting.{floor_good}
use Rattle.law_run.proofs.Signing.{rules_own}
use Rattle.law_run.proofs.Stepping.{taken_fine}
use Rattle.law_run.proofs.Testing.{IsOwnOrSent}
use Rattle.law_run.proofs.Worlds.{backers_of, sized_of, fine_of, reported_above, floors_hold}
use Rattle.law_run.proofs.Owned.{IsOwnVote, own_passes}
use Rattle.law_run.specs.Passing.{PassesFrom}

-- ---- what a node's calls send

-- all that is signed in a backed certificate is genuine
good_genuine : (setting : Setting) (before : List Noted) (c : Certificate) → IsGood (backers_of setting before) c → All (IsOwnOrSent setting.setup before (certificate_subject c)) (certificate_signatures c)
good_genuine setting before c g =
    All-weaker (λ (a : Attestation). Counts (backers_of setting before) a.signer (certificate_subject c)) (IsOwnOrSent setting.setup before (certificate_subject c)) (λ a h v. h) (certificate_signatures c) g.backed

-- each vote that these calls send is the member's own
abbrev SendsOwn : ℕ → List Call → Type 0
SendsOwn member cs = (to : Recipients) (bytes : List ℕ) → Contains cs (calls.Send channels.Vote to bytes) → IsOwnVote member bytes

sends_less : (member : ℕ) (c : Call) (cs : List Call) → SendsOwn member (c ∷ cs) → SendsOwn member cs
sends_less member c cs own to bytes k = own to bytes (Contains-there c cs (calls.Send channels.Vote to bytes) k)

module _ (setting : Setting) (before : List Noted) (at : Node) (sized : IsSized setting.setup) where
  calls_pass : (cs : List Call) → Each (InCall (IsGood (backers_of setting before))) cs → Each IsOfBytes (packets_of setting.setup at cs) → SendsOwn at.member cs → Each (PassesFrom setting.setup before) (packets_of setting.setup at cs)
  calls_pass [] g b own = tt
  calls_pass (calls.Send channels.Vote to bytes ∷ rest) g b own =
      let c = calls.Send channels.Vote to bytes in
      ((λ f. own_passes setting.setup before at.member bytes (faulty_listed setting.setup at.member f) (own to bytes (Contains-here c rest))), calls_pass rest g.1 b.1 (sends_less at.member c rest own))
  calls_pass (calls.Send channels.Certificate to bytes ∷ rest) g b own = (
    (λ f c e. good_genuine setting before c (good_again (backers_of setting before) g.0.1 c g.0.3 (ap (whole format.certificate) (sym g.0.2) ∙ e))),
    calls_pass rest g.1 b.1 (sends_less at.member (calls.Send channels.Certificate to bytes) rest own),
  )
  calls_pass (calls.Send channels.Resolver to bytes ∷ rest) g b own = (
    (λ f c k. good_genuine setting before c (answer_good (backers_of setting before) sized c bytes b.0 g.0 k)),
    calls_pass rest g.1 b.1 (sends_less at.member (calls.Send channels.Resolver to bytes) rest own),
  )
  calls_pass (calls.Append n a ∷ rest) g b own = calls_pass rest g.1 b (sends_less at.member (calls.Append n a) rest own)
  calls_pass (calls.Sync n ∷ rest) g b own = calls_pass rest g.1 b (sends_less at.member (calls.Sync n) rest own)
  calls_pass (calls.Prune n ∷ rest) g b own = calls_pass rest g.1 b (sends_less at.member (calls.Prune n) rest own)
  calls_pass (calls.Report activity ∷ rest) g b own = calls_pass rest g.1 b (sends_less at.member (calls.Report activity) rest own)
  calls_pass (calls.Relay payload plan ∷ rest) g b own = calls_pass rest g.1 b (sends_less at.member (calls.Relay payload plan) rest own)
  calls_pass (calls.Block who why ∷ rest) g b own = calls_pass rest g.1 b (sends_less at.member (calls.Block who why) rest own)

-- ---- the votes of an engine

module _ (setting : Setting) (before : List Noted) (event : Event) (noted : Noted) (o : IsMostlyHonest setting before) (typed : AreTyped (noted ∷ before)) where
  called : (at : Node) (c : Call) → is_of at noted.event ≡ true → Contains noted.entry.calls c → Contains (calls_of at (noted ∷ before)) c
  unfolding calls_of
  called at c of k =
      subst (λ (b : Bool). Contains (if b then calls_of at before ++ noted.entry.calls else calls_of at before) c) (sym of)
      (Contains-append_right (calls_of at before) noted.entry.calls c k)

  -- the node lives on, and what goes out on its vote channel is its member's own
  votes_own : (at : Node) → is_node setting.setup at ≡ true → runs_engine setting.setup at.member ≡ true → is_of at noted.event ≡ true → IsStartAbove noted.event → IsTurn setting before event noted → SendsOwn at.member noted.entry.calls
  votes_own at node runs of above turn to bytes k =
      let acts : ActsByEngine setting.setup at = λ n a. a.engines at runs in
      let floors = floors_hold setting before o in
      let on = turn_lives setting before event noted at o.term acts above turn (engine_lives setting before at o.term acts o.ran floors) in
      let w = went_own setting at (noted ∷ before) to bytes o.epoch on.stored typed (called at (calls.Send channels.Vote to bytes) of k) in
      let own = w.own in
      record {
        vote = w.vote;
        spelled = w.spelled;
        own = rules_own setting at.member 0 (first_half setting.setup at node).0 (sized_of setting before o) w.vote own.0;
        fits = w.fits;
      }

  -- ---- an engine goes on

  going_above : (e : Event) → InStart (λ c. ⊥) e → IsStartAbove e
  going_above (events.Start node (Some floor) stop) h = absurd h
  going_above (events.Start node None stop) h = tt
  going_above (events.Tick ms) h = tt
  going_above (events.Deliver at ref) h = tt
  going_above (events.Step at source stop) h = tt
  going_above (events.Answer at ref answer) h = tt
  going_above (events.Crash at) h = tt
  going_above (events.Inject who channel to bytes) h = tt

  pub going_passes : IsGoing setting before event noted → Each (PassesFrom setting.setup before) noted.entry.packets
  going_passes g =
      let at = g.at in
      let backers = backers_of setting before in
      let fine = fine_of setting before o in
      let sized = sized_of setting before o in
      let s = taken_fine backers before at g.made g.past g.did sized g.taken fine (subst (IsLifeFine backers at.member) g.running (fine.lives at g.runs)) in
      let same : event ≡ noted.event = ap (λ (n : Noted). n.event) g.is in
      let of : is_of at noted.event ≡ true = subst (λ (e : Event). is_of at e ≡ true) same (g.of at ∙ same_self at) in
      let own : SendsOwn at.member noted.entry.calls = votes_own at g.node g.runs of (subst IsStartAbove same (going_above event g.start)) (inr (inl g)) in
      let said = s.said in
      let new = typed.0 in
      subst (λ (n : Noted). Each IsOfBytes n.entry.packets → SendsOwn at.member n.entry.calls → Each (PassesFrom setting.setup before) n.entry.packets) g.is
      (λ b k. calls_pass setting before at sized g.did.out.calls said.calls b k) new.bytes own

  -- ---- a start

  own_above : (at : Node) (floor : Option Finalization) (b : IsBeginning setting before event noted) → b.floor ≡ floor → IsStartAbove (events.Start b.at floor b.stop)
  own_above at None b e = tt
  own_above at (Some f) b e = reported_above setting before o (floors_hold setting before o) f (subst (λ (x : Option Finalization). is_own_floor setting.setup before x ≡ true) e b.own)

  pub beginning_passes : IsBeginning setting before event noted → Each (PassesFrom setting.setup before) noted.entry.packets
  beginning_passes b =
      let at = b.at in
      let backers = backers_of setting before in
      let fine = fine_of setting before o in
      let sized = sized_of setting before o in
      let floor = floor_good backers before b.floor at b.stop b.own fine.said in
      let said = begun_said backers at b.floor b.stop b.sections (clock_of before) floor (subst (IsLifeFine backers at.member) b.stopped (fine.lives at b.runs)) in
      let same : events.Start at b.floor b.stop ≡ noted.event = ap (λ (n : Noted). n.event) b.is in
      let of : is_of at noted.event ≡ true = subst (λ (e : Event). is_of at e ≡ true) same (same_self at) in
      let own : SendsOwn at.member noted.entry.calls = votes_own at b.node b.runs of (subst IsStartAbove same (own_above at b.floor b refl)) (inl b) in
      let new = typed.0 in
      subst (λ (n : Noted). Each IsOfBytes n.entry.packets → SendsOwn at.member n.entry.calls → Each (PassesFrom setting.setup before) n.entry.packets) b.is
      (λ x k. calls_pass setting before at sized _ said.calls x k) new.bytes own
