-- No evidence that an honest member reports names another one.
use Rattle.std.proofs.Common.{◌≡◌, ℕ, ◌-◌, ◌==◌, Bool, true, false, List, [], ◌∷◌, ◌++◌, Contains, Option, Some, None, Ok, refl, sym, ap, ◌∙◌, subst, inl, inr, if◌then◌else◌}
use Rattle.std.specs.List.{list_all}
use Rattle.std.specs.Option.{option_map_or}
use Rattle.std.proofs.lemmas.List.Elements.{All-append, All-cons, All-take}
use Rattle.simplex_values.specs.declared.plan.Channel.{Channel}
use Rattle.simplex_values.specs.declared.plan.Channel.TheVariants as channels
use Rattle.simplex_values.specs.declared.proposal.Subject.{Subject}
use Rattle.simplex_wire.specs.declared.vote.Vote.{Vote}
use Rattle.simplex_wire.specs.Fields.{vote_subject, vote_signer}
use Rattle.simplex_wire.specs.Format.{whole}
use Rattle.simplex_wire.specs.Message as format
use Rattle.simplex_types.specs.declared.floor.Floor.{Floor}
use Rattle.simplex_journal.specs.Journal.{Section, replayed}
use Rattle.simplex_mailbox.specs.Mail.{received}
use Rattle.simplex_messages.specs.declared.batcher.Message as batcher_message
use Rattle.simplex_messages.specs.declared.batcher.BatcherInput.{BatcherInput}
use Rattle.simplex_messages.specs.declared.batcher.BatcherInput.TheVariants as batcher_inputs
use Rattle.simplex_messages.specs.declared.call.Call.{Call}
use Rattle.simplex_messages.specs.declared.call.Call.TheVariants as calls
use Rattle.simplex_messages.specs.declared.handed.Handed.TheVariants as handed
use Rattle.simplex_messages.specs.declared.step.Stop.{Stop}
use Rattle.simplex_messages.specs.declared.step.Stop.TheVariants as stops
use Rattle.simplex_messages.specs.declared.voter.Message as voter_message
use Rattle.simplex_messages.specs.declared.voter.VoterInput.TheVariants as voter_inputs
use Rattle.simplex_transcript.specs.declared.event.StepSource.{StepSource}
use Rattle.simplex_transcript.specs.declared.event.StepSource.TheVariants as sources
use Rattle.model_steps.specs.Batcher as batcher
use Rattle.model_steps.specs.Desk.{Doing}
use Rattle.model_steps.specs.Engine as engine
use Rattle.model_steps.specs.Engine.{EngineMade, Did, Taken, batcher_past, by_batcher}
use Rattle.model_steps.specs.Performed.{stop_place, whole as made_whole, broken, performed}
use Rattle.model_steps.specs.ResolverSteps.{is_call_of_resolver}
use Rattle.model_steps.specs.VoterLife.{unread, before_reading, start_at, start_performed}
use Rattle.model_steps.proofs.ResolverSteps.{heard_by_resolver, stepped_resolver, stepped_handler, stepped_fetcher}
use Rattle.law_agreement.specs.World.{Sent}
use Rattle.law_agreement.proofs.Invariant.{sent_in_order}
use Rattle.law_agreement.proofs.ListFacts.{Contains-here, Contains-there}
use Rattle.law_member.specs.Evidence.{blames, BlameNot, subjects_of, AreInOrder, IsAuthentic as IsAuthenticIn}
use Rattle.law_member.proofs.Blaming.{not_blamed}
use Rattle.law_member.proofs.Reporting.{start_blames_not}
use Rattle.law_run.specs.Sayings.{Each}
use Rattle.law_run.proofs.Letting.{heard_either}
use Rattle.law_run.proofs.Mailing.{batcher_holds}
use Rattle.law_run.proofs.Mails.{holds_received}
use Rattle.law_run.proofs.Packets.{each_contained}
use Rattle.law_run.proofs.Sparing.{Spares, none, voter_spares, cut_spares}
use Rattle.law_cluster.specs.Lives.{Group, Life, IsStart, GoesOn, IsHistory, AreLives}
use Rattle.law_cluster.specs.Signatures.{calls_in, calls_of}
use Rattle.law_cluster.specs.Cluster.{Cluster, IsHonest, IsMostlyHonest}
use Rattle.law_cluster.specs.Evidence.{IsVoteFrom, IsAuthentic, IsBlameless}
use Rattle.law_cluster.proofs.Fine.{IsGood, AreOwn, IsFit, InOwnMail, InVoterMail, IsFineInput, IsFineTimed, IsFineDid, FineOn, FineTaken, handed_all, inputs_fine, came_counted, heard_taken, history_fine}
use Rattle.law_cluster.proofs.Members.{Counts, history, sent_is, voted_lived, taken_good, IsFineLife, member_fine, member_own}
use Rattle.law_cluster.proofs.Turns.{begun_is}

-- ---- a start

module _ (other : ℕ) where
  joined : (xs ys : List Call) → BlameNot other xs → BlameNot other ys → BlameNot other (xs ++ ys)
  joined xs ys h k = All-append (λ (call : Call). blames call other ≡ false) xs ys h k

  performed_spares : (stop : Stop) (d : Doing) (js : List Section) → Spares other d.calls → Spares other (performed stop d js).out.calls
  unfolding performed
  performed_spares stop d js h = at (stop_place stop d.calls)
    where
      at : (o : Option ℕ) → Spares other (option_map_or (broken stop d js) o (made_whole d js)).out.calls
      at None = h
      at (Some place) = All-take (λ (call : Call). blames call other ≡ false) place d.calls h

  start_spares : (stop : Stop) (floor : Floor) (d : Doing) (js : List Section) → Spares other d.calls → Spares other (start_performed stop floor d js).out.calls
  unfolding start_performed
  start_spares stops.None floor d js h = performed_spares stops.None d js h
  start_spares (stops.Cut call keep) floor d js h = performed_spares (stops.Cut call keep) d js h
  start_spares (stops.Fail call keep) floor d js h = at (call == 1)
    where
      at : (b : Bool) → Spares other (if b then unread floor d keep js else performed (stops.Fail (call - 1) keep) d js).out.calls
      at true = All-take (λ (c : Call). blames c other ≡ false) (before_reading floor) d.calls h
      at false = performed_spares (stops.Fail (call - 1) keep) d js h

  begun_spares : (made : EngineMade) (did : Did) → IsStart made did → Spares other did.out.calls
  begun_spares made did s =
      let v = made.voter s.now in
      subst (λ (d : Did). Spares other d.out.calls) (sym (s.is ∙ begun_is made s.now s.stop))
      (start_spares s.stop v.floor (start_at v s.now v.sections) v.sections (start_blames_not other v.rules s.now v.floor (replayed v.sections)))

  -- a resolver reports nothing
  resolver_spares : (cs : List Call) → list_all is_call_of_resolver cs ≡ true → Spares other cs
  resolver_spares [] e = none other
  resolver_spares (calls.Block who why ∷ cs) e = All-cons (λ (call : Call). blames call other ≡ false) (calls.Block who why) cs refl (resolver_spares cs e)
  resolver_spares (calls.Send channels.Resolver to bytes ∷ cs) e = All-cons (λ (call : Call). blames call other ≡ false) (calls.Send channels.Resolver to bytes) cs refl (resolver_spares cs e)
  resolver_spares (calls.Send channels.Vote to bytes ∷ cs) e = cc
  resolver_spares (calls.Send channels.Certificate to bytes ∷ cs) e = cc
  resolver_spares (calls.Append n a ∷ cs) e = cc
  resolver_spares (calls.Sync n ∷ cs) e = cc
  resolver_spares (calls.Prune n ∷ cs) e = cc
  resolver_spares (calls.Report a ∷ cs) e = cc
  resolver_spares (calls.Relay payload plan ∷ cs) e = cc

-- ---- an engine, and what an honest member sent

module _ (group : Group) (K : ℕ → Subject → Type 0) (Told : Vote → Type 0) (told : (v : Vote) → K (vote_signer v) (vote_subject v) → Told v) (other term : ℕ) (sent : List Sent) (order : AreInOrder term sent)
    (voted : (v : Vote) → Told v → vote_signer v ≡ other → Contains (subjects_of sent) (vote_subject v)) where
  came_authentic : (given : List batcher.Timed) → Each (IsFineTimed group K Told told) given → IsAuthenticIn other given sent
  came_authentic given fine vote came is = voted vote (came_counted group K Told told given vote fine came).1 is

  batcher_spares : (made : EngineMade) (past : List Did) (taken : Taken) (input : BatcherInput) (now : ℕ) (stop : Stop) → Each (IsFineDid group K Told told) past → IsFineInput group K Told told input
      → Spares other (by_batcher made past taken input now stop).out.calls
  unfolding by_batcher
  batcher_spares made past taken input now stop fine f =
      let given : batcher.Timed = record { input = input; now = now } in
      let before = batcher_past past in
      cut_spares other stop (batcher.step_out made.batcher before given)
      (not_blamed made.batcher before given other term sent order (came_authentic (given ∷ before) (f, inputs_fine group K Told told past fine)))

  mail_spares : (made : EngineMade) (past : List Did) (now : ℕ) (stop : Stop) (o : Option batcher_message.Message) → received (engine.batcher_mail made past) ≡ o → Each (IsFineDid group K Told told) past
      → Spares other (engine.on_batcher_mail made past now stop o).out.calls
  mail_spares made past now stop None e fine = none other
  mail_spares made past now stop (Some message) e fine =
      batcher_spares made past (engine.Took sources.Batcher (Some (handed.Batcher message))) (batcher_inputs.Mail message) now stop fine
      (holds_received (InOwnMail group K Told told) (engine.batcher_mail made past) message
      (batcher_holds (InOwnMail group K Told told) (InVoterMail group K Told told) (IsGood group K) made past (handed_all group K Told told past fine)) e)

  voter_mail_spares : (made : EngineMade) (past : List Did) (now : ℕ) (stop : Stop) (o : Option voter_message.Message) → Spares other (engine.on_voter_mail made past now stop o).out.calls
  voter_mail_spares made past now stop None = none other
  voter_mail_spares made past now stop (Some message) = voter_spares other made past (voter_inputs.Mail message) now stop

  step_spares : (made : EngineMade) (past : List Did) (source : StepSource) (now : ℕ) (stop : Stop) → Each (IsFineDid group K Told told) past → Spares other (engine.stepped made past source now stop).out.calls
  unfolding engine.stepped
  step_spares made past sources.Batcher now stop fine = mail_spares made past now stop (received (engine.batcher_mail made past)) refl fine
  step_spares made past sources.Voter now stop fine = voter_mail_spares made past now stop (received (engine.voter_mail made past))
  step_spares made past sources.Timer now stop fine = voter_spares other made past voter_inputs.Timer now stop
  step_spares made past sources.Propose now stop fine = voter_spares other made past voter_inputs.Propose now stop
  step_spares made past sources.Verify now stop fine = voter_spares other made past voter_inputs.Verify now stop
  step_spares made past sources.Certify now stop fine = voter_spares other made past voter_inputs.Certify now stop
  step_spares made past sources.Resolver now stop fine = (let r = stepped_resolver made past now stop in resolver_spares other (engine.stepped made past sources.Resolver now stop).out.calls r.calls)
  step_spares made past sources.Handler now stop fine = (let r = stepped_handler made past now stop in resolver_spares other (engine.stepped made past sources.Handler now stop).out.calls r.calls)
  step_spares made past sources.Fetch now stop fine = (let r = stepped_fetcher made past now stop in resolver_spares other (engine.stepped made past sources.Fetch now stop).out.calls r.calls)

  refused_or : (made : EngineMade) (past : List Did) (sender : ℕ) (channel : Channel) (bytes : List ℕ) (now : ℕ) → Spares other (engine.let_in made past sender channel bytes now).out.calls
      → Spares other (engine.heard made past sender channel bytes now).out.calls
  refused_or made past sender channel bytes now l = heard_either (λ (did : Did). Spares other did.out.calls) made past sender channel bytes now (none other) l

  heard_spares : (made : EngineMade) (past : List Did) (sender : ℕ) (channel : Channel) (bytes : List ℕ) (now : ℕ) → FineOn group K Told told sender channel bytes → Each (IsFineDid group K Told told) past
      → Spares other (engine.heard made past sender channel bytes now).out.calls
  unfolding engine.let_in
  heard_spares made past sender channels.Vote bytes now f fine =
      refused_or made past sender channels.Vote bytes now (batcher_spares made past (engine.Heard sender channels.Vote bytes) (batcher_inputs.Vote sender bytes) now stops.None fine f)
  heard_spares made past sender channels.Certificate bytes now f fine =
      refused_or made past sender channels.Certificate bytes now (batcher_spares made past (engine.Heard sender channels.Certificate bytes) (batcher_inputs.Certificate sender bytes) now stops.None fine f)
  heard_spares made past sender channels.Resolver bytes now f fine = (let r = heard_by_resolver made past sender bytes now in resolver_spares other (engine.heard made past sender channels.Resolver bytes now).out.calls r.calls)

  goes_spares : (made : EngineMade) (past : List Did) (did : Did) → GoesOn made past did → FineTaken group K Told told did.taken → Each (IsFineDid group K Told told) past → Spares other did.out.calls
  goes_spares made past did g f fine = elim g.next [
    | inl p ↦ subst (λ (d : Did). Spares other d.out.calls) (sym p.is) (heard_spares made past p.sender p.channel p.bytes p.now
        (subst (FineTaken group K Told told) (ap (λ (d : Did). d.taken) p.is ∙ heard_taken made past p.sender p.channel p.bytes p.now) f) fine)
    | inr rest ↦ elim rest [
      | inl s ↦ subst (λ (d : Did). Spares other d.out.calls) (sym s.is) (step_spares made past s.source s.now s.stop fine)
      | inr r ↦ subst (λ (d : Did). Spares other d.out.calls) (sym r.is) (none other)
    ]
  ]

  history_spares : (member : ℕ) (made : EngineMade) (past : List Did) → IsHistory made past → IsFit group K member made → Each (λ (did : Did). FineTaken group K Told told did.taken) past → Each (λ (did : Did). AreOwn group K member did.out.handed) past
      → BlameNot other (calls_in past)
  unfolding IsHistory calls_in
  history_spares member made [] h fit f own = absurd h
  history_spares member made (did ∷ past) h fit f own = elim h [
    | inl s ↦ subst (λ xs. BlameNot other (calls_in xs ++ did.out.calls)) (sym s.0) (begun_spares other made did s.1)
    | inr g ↦ (let before = history_fine group K Told told member made past g.1 fit f.1 own.1 in
        let stands = before.engine in
        joined other (calls_in past) did.out.calls (history_spares member made past g.1 fit f.1 own.1) (goes_spares made past did g.0 f.0 stands.history))
  ]

-- ---- a cluster

module _ (c : Cluster) (o : IsMostlyHonest c) (authentic : IsAuthentic c) (member other : ℕ) (honest : IsHonest c member) (spared : IsHonest c other) where
  -- a vote of its signer is one that this sent
  abbrev pub Said : Vote → Type 0
  Said v = Counts c o (vote_signer v) (vote_subject v)

  said : (v : Vote) → Counts c o (vote_signer v) (vote_subject v) → Said v
  said v k = k

  heard_said : (l : Life) → Contains (c.lives member) l → (did : Did) → Contains l.past did → (sender : ℕ) (bytes : List ℕ) (v : Vote)
      → did.taken ≡ engine.Heard sender channels.Vote bytes → whole format.vote bytes ≡ Ok v → sender ≡ vote_signer v → Said v
  heard_said l k did m sender bytes v e r same good =
      voted_lived c o (vote_signer v) (vote_subject v) good
      (authentic member (vote_signer v) v honest good
      (subst (λ n. IsVoteFrom (c.lives member) n v) same (record { life = l; lived = k; did = did; done = m; bytes = bytes; taken = e; read = r; own = same })))

  ordered : AreInOrder c.group.term (history c o other)
  ordered = (let f = sent_is c o other spared in
      let l = f.0 in
      subst (AreInOrder c.group.term) (sym f.1) (sent_in_order c.group.term o.term l.calls l.legal))

  voted : (v : Vote) → Said v → vote_signer v ≡ other → Contains (subjects_of (history c o other)) (vote_subject v)
  voted v k e = subst (λ n. Contains (subjects_of (history c o n)) (vote_subject v)) e (k (subst (IsHonest c) (sym e) spared))

  life_spares : (l : Life) → Contains (c.lives member) l → IsHistory l.made l.past → IsFineLife c o member l → Each (λ (did : Did). AreOwn c.group (Counts c o) member did.out.handed) l.past → BlameNot other (calls_in l.past)
  life_spares l k h fine own =
      history_spares c.group (Counts c o) Said said other c.group.term (history c o other) ordered voted member l.made l.past h fine.fit
      (each_contained (λ (did : Did). FineTaken c.group (Counts c o) Said said did.taken) l.past (λ did m. taken_good c o Said said member honest l k did m (heard_said l k did m))) own

  lives_spare : (lives : List Life) → AreLives c.group member lives → ((l : Life) → Contains lives l → Contains (c.lives member) l) → Each (IsFineLife c o member) lives
      → Each (λ (l : Life). Each (λ (did : Did). AreOwn c.group (Counts c o) member did.out.handed) l.past) lives → BlameNot other (calls_of lives)
  unfolding AreLives calls_of
  lives_spare [] are among fine own = none other
  lives_spare (l ∷ before) are among fine own =
      (let is = are.0 in
      joined other (calls_of before) (calls_in l.past) (lives_spare before are.1 (λ x k. among x (Contains-there l before x k)) fine.1 own.1)
      (life_spares l (among l (Contains-here l before)) is.history fine.0 own.0))

  pub spares : BlameNot other (calls_of (c.lives member))
  spares = (let fine = member_fine c o member honest in lives_spare (c.lives member) (o.lives member honest) (λ l k. k) fine.each (member_own c o member honest))

pub cluster_blameless : (c : Cluster) → IsMostlyHonest c → IsAuthentic c → IsBlameless c
cluster_blameless c o authentic member other honest spared = spares c o authentic member other honest spared
