-- No entry of a run reports evidence that names an honest member.
use Rattle.std.proofs.Common.{◌≡◌, ℕ, ◌++◌, List, [], ◌∷◌, Contains, Option, Some, None, refl, sym, ◌∙◌, subst, inl, inr, append_assoc, true, false}
use Rattle.simplex_values.specs.declared.plan.Channel.{Channel}
use Rattle.simplex_values.specs.declared.plan.Channel.TheVariants as channels
use Rattle.simplex_values.specs.declared.proposal.Subject.{Subject}
use Rattle.simplex_wire.specs.Fields.{vote_subject}
use Rattle.simplex_mailbox.specs.Mail.{received}
use Rattle.simplex_messages.specs.declared.batcher.Message as batcher_message
use Rattle.simplex_messages.specs.declared.batcher.BatcherInput.{BatcherInput}
use Rattle.simplex_messages.specs.declared.batcher.BatcherInput.TheVariants as batcher_inputs
use Rattle.simplex_messages.specs.declared.handed.Handed.TheVariants as handed
use Rattle.simplex_messages.specs.declared.voter.Message as voter_message
use Rattle.simplex_messages.specs.declared.voter.VoterInput.TheVariants as voter_inputs
use Rattle.simplex_messages.specs.declared.step.Stop.{Stop}
use Rattle.simplex_messages.specs.declared.step.Stop.TheVariants as stops
use Rattle.simplex_transcript.specs.declared.event.Event.{Event}
use Rattle.simplex_transcript.specs.declared.event.StepSource.{StepSource}
use Rattle.simplex_transcript.specs.declared.event.StepSource.TheVariants as sources
use Rattle.simplex_transcript.specs.declared.node.Node.{Node}
use Rattle.model_steps.specs.Batcher as batcher
use Rattle.model_steps.specs.Engine as engine
use Rattle.model_steps.specs.Engine.{EngineMade, Did, Taken, by_batcher}
use Rattle.model_run.specs.Setting.{Setting}
use Rattle.model_run.specs.Life.{Noted, clock_of}
use Rattle.law_agreement.specs.World.{Sent}
use Rattle.law_agreement.specs.Member.{run}
use Rattle.law_agreement.proofs.Invariant.{sent_in_order}
use Rattle.law_member.specs.Evidence.{BlameNot, subjects_of, AreInOrder, IsAuthentic, blames}
use Rattle.law_member.proofs.Blaming.{not_blamed}
use Rattle.law_run.specs.Sayings.{Each}
use Rattle.law_run.proofs.Mails.{holds_received}
use Rattle.law_run.proofs.Sparing.{Spares, none, begun_spares, voter_spares, cut_spares}
use Rattle.law_run.specs.Voting.{HasVoted}
use Rattle.law_run.specs.Blame.{AreBlameless}
use Rattle.law_run.specs.Fitting.{AreTyped}
use Rattle.law_run.specs.MostlyHonest.{IsMostlyHonest}
use Rattle.law_run.proofs.Backers.{Backers}
use Rattle.law_run.proofs.Good.{IsSized, IsGood}
use Rattle.law_run.proofs.Hearing.{IsFineDid, IsFineInput, IsFineTimed, InOwnMail, InVoterMail, inputs_fine, came_counted, handed_all}
use Rattle.law_run.proofs.Mailing.{batcher_holds}
use Rattle.law_run.proofs.Packets.{FineOn, IsFinePacket}
use Rattle.law_run.proofs.Delivered.{packet_delivered}
use Rattle.law_run.proofs.BackingEngines.{IsFineEngine, IsLifeFine, IsFineRun}
use Rattle.law_run.proofs.Running.{run_fine}
use Rattle.law_run.proofs.Turns.{IsTaken, IsTurn, entry_turn}
use Rattle.law_run.proofs.Worlds.{backers_of, sized_of, people_of, floors_hold, voted_lived}
use Rattle.std.specs.List.{list_all}
use Rattle.std.proofs.lemmas.List.Elements.{All-cons}
use Rattle.simplex_messages.specs.declared.call.Call.{Call}
use Rattle.simplex_messages.specs.declared.call.Call.TheVariants as calls
use Rattle.model_steps.specs.ResolverSteps.{is_call_of_resolver}
use Rattle.law_run.proofs.Letting.{heard_either}
use Rattle.model_steps.proofs.ResolverSteps.{heard_by_resolver, stepped_resolver, stepped_handler, stepped_fetcher}
use Rattle.law_run.specs.Faulty.{faulty_of}
use Rattle.law_run.specs.Histories.{IsRun}

-- an honest member, and what it sent in its life
module _ (backers : Backers) (member term : ℕ) (sent : List Sent) (honest : ¬ (Contains (faulty_of backers.setting.setup) member)) (order : AreInOrder term sent)
    (voted : (s : Subject) → HasVoted backers.noted member s → Contains (subjects_of sent) s) where
  came_authentic : (given : List batcher.Timed) → Each (IsFineTimed backers) given → IsAuthentic member given sent
  came_authentic given fine vote came is = elim (came_counted backers given vote fine came).0 [
    | inl f ↦ absurd (honest (subst (Contains (faulty_of backers.setting.setup)) is f))
    | inr h ↦ voted (vote_subject vote) (subst (λ n. HasVoted backers.noted n (vote_subject vote)) is (vote, h, refl))
  ]

  batcher_spares : (made : EngineMade) (past : List Did) (taken : Taken) (input : BatcherInput) (now : ℕ) (stop : Stop) → Each (IsFineDid backers) past → IsFineInput backers input
      → Spares member (by_batcher made past taken input now stop).out.calls
  unfolding by_batcher
  batcher_spares made past taken input now stop fine f =
      let given : batcher.Timed = record { input = input; now = now } in
      let before = engine.batcher_past past in
      cut_spares member stop (batcher.step_out made.batcher before given)
      (not_blamed made.batcher before given member term sent order (came_authentic (given ∷ before) (f, inputs_fine backers past fine)))

  mail_spares : (made : EngineMade) (past : List Did) (now : ℕ) (stop : Stop) (o : Option batcher_message.Message) → received (engine.batcher_mail made past) ≡ o → Each (IsFineDid backers) past
      → Spares member (engine.on_batcher_mail made past now stop o).out.calls
  mail_spares made past now stop None e fine = none member
  mail_spares made past now stop (Some message) e fine =
      batcher_spares made past (engine.Took sources.Batcher (Some (handed.Batcher message))) (batcher_inputs.Mail message) now stop fine
      (holds_received (InOwnMail backers) (engine.batcher_mail made past) message (batcher_holds (InOwnMail backers) (InVoterMail backers) (IsGood backers) made past (handed_all backers past fine)) e)

  voter_mail_spares : (made : EngineMade) (past : List Did) (now : ℕ) (stop : Stop) (o : Option voter_message.Message) → Spares member (engine.on_voter_mail made past now stop o).out.calls
  voter_mail_spares made past now stop None = none member
  voter_mail_spares made past now stop (Some message) = voter_spares member made past (voter_inputs.Mail message) now stop

  -- a resolver reports nothing
  resolver_spares : (cs : List Call) → list_all is_call_of_resolver cs ≡ true → Spares member cs
  resolver_spares [] e = none member
  resolver_spares (calls.Block who why ∷ cs) e = All-cons (λ (call : Call). blames call member ≡ false) (calls.Block who why) cs refl (resolver_spares cs e)
  resolver_spares (calls.Send channels.Resolver to bytes ∷ cs) e = All-cons (λ (call : Call). blames call member ≡ false) (calls.Send channels.Resolver to bytes) cs refl (resolver_spares cs e)
  resolver_spares (calls.Send channels.Vote to bytes ∷ cs) e = cc
  resolver_spares (calls.Send channels.Certificate to bytes ∷ cs) e = cc
  resolver_spares (calls.Append n a ∷ cs) e = cc
  resolver_spares (calls.Sync n ∷ cs) e = cc
  resolver_spares (calls.Prune n ∷ cs) e = cc
  resolver_spares (calls.Report a ∷ cs) e = cc
  resolver_spares (calls.Relay payload plan ∷ cs) e = cc

  step_spares : (made : EngineMade) (past : List Did) (source : StepSource) (now : ℕ) (stop : Stop) → Each (IsFineDid backers) past → Spares member (engine.stepped made past source now stop).out.calls
  unfolding engine.stepped
  step_spares made past sources.Batcher now stop fine = mail_spares made past now stop (received (engine.batcher_mail made past)) refl fine
  step_spares made past sources.Voter now stop fine = voter_mail_spares made past now stop (received (engine.voter_mail made past))
  step_spares made past sources.Timer now stop fine = voter_spares member made past voter_inputs.Timer now stop
  step_spares made past sources.Propose now stop fine = voter_spares member made past voter_inputs.Propose now stop
  step_spares made past sources.Verify now stop fine = voter_spares member made past voter_inputs.Verify now stop
  step_spares made past sources.Certify now stop fine = voter_spares member made past voter_inputs.Certify now stop
  step_spares made past sources.Resolver now stop fine = (let r = stepped_resolver made past now stop in resolver_spares (engine.stepped made past sources.Resolver now stop).out.calls r.calls)
  step_spares made past sources.Handler now stop fine = (let r = stepped_handler made past now stop in resolver_spares (engine.stepped made past sources.Handler now stop).out.calls r.calls)
  step_spares made past sources.Fetch now stop fine = (let r = stepped_fetcher made past now stop in resolver_spares (engine.stepped made past sources.Fetch now stop).out.calls r.calls)

  refused_or : (made : EngineMade) (past : List Did) (sender : ℕ) (channel : Channel) (bytes : List ℕ) (now : ℕ) → Spares member (engine.let_in made past sender channel bytes now).out.calls
      → Spares member (engine.heard made past sender channel bytes now).out.calls
  refused_or made past sender channel bytes now l = heard_either (λ (did : Did). Spares member did.out.calls) made past sender channel bytes now (none member) l

  heard_spares : (made : EngineMade) (past : List Did) (sender : ℕ) (channel : Channel) (bytes : List ℕ) (now : ℕ) → FineOn backers sender channel bytes → Each (IsFineDid backers) past
      → Spares member (engine.heard made past sender channel bytes now).out.calls
  unfolding engine.let_in
  heard_spares made past sender channels.Vote bytes now f fine =
      refused_or made past sender channels.Vote bytes now (batcher_spares made past (engine.Heard sender channels.Vote bytes) (batcher_inputs.Vote sender bytes) now stops.None fine f)
  heard_spares made past sender channels.Certificate bytes now f fine =
      refused_or made past sender channels.Certificate bytes now (batcher_spares made past (engine.Heard sender channels.Certificate bytes) (batcher_inputs.Certificate sender bytes) now stops.None fine f)
  heard_spares made past sender channels.Resolver bytes now f fine = (let r = heard_by_resolver made past sender bytes now in resolver_spares (engine.heard made past sender channels.Resolver bytes now).out.calls r.calls)

  taken_spares : (before : List Noted) (at : Node) (made : EngineMade) (past : List Did) (did : Did) → IsTaken backers.setting.setup before at made past did → IsFineRun backers before → Each (IsFineDid backers) past
      → Spares member did.out.calls
  taken_spares before at made past did t run fine = elim t [
    | inl h ↦ subst (λ (d : Did). Spares member d.out.calls) (sym h.is)
        (heard_spares made past h.packet.from.member h.packet.channel h.packet.bytes (clock_of before) (packet_delivered (IsFinePacket backers) before at h.ref h.packet run.packets h.found) fine)
    | inr other ↦ elim other [
      | inl s ↦ subst (λ (d : Did). Spares member d.out.calls) (sym s.is) (step_spares made past s.source (clock_of before) s.stop fine)
      | inr r ↦ subst (λ (d : Did). Spares member d.out.calls) (sym r.is) (none member)
    ]
  ]

  turn_spares : (before : List Noted) (event : Event) (noted : Noted) → IsTurn backers.setting before event noted → IsFineRun backers before → BlameNot member noted.entry.calls
  turn_spares before event noted t fine = elim t [
    | inl b ↦ subst (λ (n : Noted). BlameNot member n.entry.calls) b.is (begun_spares member backers.setting b.at b.floor b.sections (clock_of before) b.stop)
    | inr other ↦ elim other [
      | inl g ↦
          let lived : IsFineEngine backers g.at.member g.made g.past = subst (IsLifeFine backers g.at.member) g.running (fine.lives g.at g.runs) in
          subst (λ (n : Noted). BlameNot member n.entry.calls) g.is (taken_spares before g.at g.made g.past g.did g.taken fine lived.history)
      | inr rest ↦ elim rest [
        | inl c ↦ subst (λ (n : Noted). BlameNot member n.entry.calls) c.is (none member)
        | inr last ↦ elim last [
          | inl k ↦ subst (λ (n : Noted). BlameNot member n.entry.calls) k.is (none member)
          | inr a ↦ subst (BlameNot member) (sym a.calls) (none member)
        ]
      ]
    ]
  ]

-- each entry, for all honest members
blameless : (backers : Backers) (term : ℕ) (later noted : List Noted) → IsSized backers.setting.setup → backers.noted ≡ later ++ noted → IsRun backers.setting noted → AreTyped noted
    → ((member : ℕ) → ¬ (Contains (faulty_of backers.setting.setup) member) → (sent : List Sent) × AreInOrder term sent × ((s : Subject) → HasVoted backers.noted member s → Contains (subjects_of sent) s))
    → AreBlameless backers.setting.setup noted
unfolding IsRun AreBlameless
blameless backers term later [] sized whole_is ran typed lives = tt
blameless backers term later (noted ∷ before) sized whole_is ran typed lives =
    let shifted = whole_is ∙ sym (append_assoc later (noted ∷ []) before) in
    let fine = run_fine backers (later ++ noted ∷ []) before sized shifted ran.2 typed.1 in (
      (λ member honest. (let l = lives member honest in turn_spares backers member term l.0 honest l.1 l.2 before ran.0 noted (entry_turn backers.setting before ran.0 noted ran.1) fine)),
      blameless backers term (later ++ noted ∷ []) before sized shifted ran.2 typed.1 lives,
    )

pub run_blameless : (setting : Setting) (noted : List Noted) → IsMostlyHonest setting noted → AreBlameless setting.setup noted
run_blameless setting noted o =
    let p = people_of setting noted o (floors_hold setting noted o) in
    blameless (backers_of setting noted) setting.setup.term [] noted (sized_of setting noted o) refl o.ran o.typed
    (λ member honest. (let l = p.lived member honest in
    let lived = l.0.lived in
    (p.history member, subst (AreInOrder setting.setup.term) (sym l.1) (sent_in_order setting.setup.term o.term lived.calls lived.legal), λ s h. voted_lived setting noted o.ran p member s honest h)))
