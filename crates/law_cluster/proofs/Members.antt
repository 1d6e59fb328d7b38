-- What each member of a cluster sent, what came to it, and that what it says is good.
use Rattle.std.proofs.Common.{◌≡◌, ℕ, ◌<◌, nat_lt, Bool, true, false, List, [], ◌∷◌, ◌++◌, Contains, Result, Ok, refl, sym, ◌∙◌, subst, inl, inr, ◌⊎◌, arith, ltb-true, ltb-false}
use Rattle.std.specs.List.{flat_map}
use Rattle.std.proofs.lemmas.List.Elements.{All-contains, All-contains_itself, All-weaker}
use Rattle.simplex_values.specs.declared.plan.Channel.{Channel}
use Rattle.simplex_values.specs.declared.plan.Channel.TheVariants as channels
use Rattle.simplex_values.specs.declared.proposal.Subject.{Subject}
use Rattle.simplex_wire.specs.declared.attestation.Attestation.{Attestation}
use Rattle.simplex_wire.specs.declared.certificate.Certificate.{Certificate}
use Rattle.simplex_wire.specs.declared.certificate.Certificate.TheVariants as certificates
use Rattle.simplex_wire.specs.declared.error.DecodeError.{DecodeError}
use Rattle.simplex_wire.specs.declared.vote.Vote.{Vote}
use Rattle.simplex_wire.specs.Fields.{vote_subject, vote_attestation, certificate_subject, certificate_signatures}
use Rattle.simplex_wire.specs.Format.{whole}
use Rattle.simplex_wire.specs.Message as format
use Rattle.simplex_types.specs.declared.floor.Floor.{Floor}
use Rattle.simplex_types.specs.declared.floor.Floor.TheVariants as floors
use Rattle.simplex_journal.specs.Journal.{Section, replayed}
use Rattle.simplex_round.specs.Votes.{vote_signer}
use Rattle.simplex_messages.specs.declared.batcher.Message.TheVariants as batcher_messages
use Rattle.simplex_messages.specs.declared.handed.Handed.{Handed}
use Rattle.simplex_messages.specs.declared.handed.Handed.TheVariants as handed
use Rattle.model_steps.specs.Engine as engine
use Rattle.model_steps.specs.Engine.{Did, Taken, voter_in, started_at, sections_of}
use Rattle.model_run.specs.Life as ran
use Rattle.law_agreement.specs.World.{Sent}
use Rattle.law_agreement.specs.Member.{newborn, run}
use Rattle.law_agreement.proofs.ListFacts.{not_in_empty, Contains-here, Contains-cons_cases}
use Rattle.law_member.specs.Evidence.{subjects_of}
use Rattle.law_member.specs.Life.{AreVotesSent}
use Rattle.law_run.specs.Backed.{read_certificate}
use Rattle.law_run.specs.Sayings.{Each, InRecord, InFloor, AllSaid}
use Rattle.law_run.specs.Voting.{read_vote}
use Rattle.law_run.proofs.Agreeing.{into_flat_map}
use Rattle.law_run.proofs.Events.{place_in}
use Rattle.law_run.proofs.Good.{certified_parts, each_verifies}
use Rattle.law_run.proofs.NodeKeeping.{InJournal, crash_keeps}
use Rattle.law_run.proofs.Packets.{each_contained}
use Rattle.law_run.proofs.Signed.{InOwn}
use Rattle.law_run.proofs.Worlds.{find}
use Rattle.law_cluster.specs.Lives.{Life, IsVerifying, IsFloorOf, IsLife, AreLives, left_by}
use Rattle.law_cluster.specs.Signatures as signatures
use Rattle.law_cluster.specs.Signatures.{calls_of, IsSignedBy, InTaken, Came, HasVoted}
use Rattle.law_cluster.specs.Cluster.{Cluster, IsHonest, IsMostlyHonest}
use Rattle.law_cluster.proofs.Fine.{IsGood, FineTaken, FineOn, AreOwn, IsPlaceFine, IsFit, history_fine}
use Rattle.law_cluster.proofs.Further.{Further}
use Rattle.law_cluster.proofs.Living.{handed_in, handed_of, floor_in, lives_lived}
use Rattle.law_cluster.proofs.Sending.{voted_in, all_fit, typed_of}

-- ---- own votes

module _ (P : Subject → Type 0) (sent : List Sent) (each : (s : Subject) → Contains (subjects_of sent) s → P s) where
  abbrev pub Owns : List Handed → Type 0
  Owns hs = Each (InOwn (λ (v : Vote). P (vote_subject v))) hs

  parts : (xs ys : List Handed) → AreVotesSent sent (xs ++ ys) → AreVotesSent sent xs × AreVotesSent sent ys
  parts [] ys h = (tt, h)
  parts (x ∷ xs) ys h = (let p = parts xs ys h.1 in ((h.0, p.0), p.1))

  owns : (hs : List Handed) → AreVotesSent sent hs → Owns hs
  owns [] h = tt
  owns (handed.Batcher (batcher_messages.Constructed v) ∷ rest) h = (each (vote_subject v) h.0, owns rest h.1)
  owns (handed.Batcher (batcher_messages.Update current leader finalized proposal) ∷ rest) h = (tt, owns rest h.1)
  owns (handed.Voter message ∷ rest) h = (tt, owns rest h.1)
  owns (handed.Resolver message ∷ rest) h = (tt, owns rest h.1)
  owns (handed.Handler message ∷ rest) h = (tt, owns rest h.1)

  in_past : (past : List Did) → AreVotesSent sent (handed_in past) → Each (λ (did : Did). Owns did.out.handed) past
  in_past [] h = tt
  in_past (did ∷ past) h = (let p = parts (handed_in past) did.out.handed h in (owns did.out.handed p.1, in_past past p.0))

  pub in_lives : (lives : List Life) → AreVotesSent sent (handed_of lives) → Each (λ (l : Life). Each (λ (did : Did). Owns did.out.handed) l.past) lives
  in_lives [] h = tt
  in_lives (l ∷ before) h = (let p = parts (handed_of before) (handed_in l.past) h in (in_past l.past p.1, in_lives before p.0))

-- what is read of bytes
certificate_read : (r : Result Certificate DecodeError) (x : Certificate) → r ≡ Ok x → Contains (read_certificate r) x
certificate_read r x e = subst (λ y. Contains (read_certificate y) x) (sym e) (Contains-here x [])

vote_read : (r : Result Vote DecodeError) (v : Vote) → r ≡ Ok v → Contains (read_vote r) v
vote_read r v e = subst (λ y. Contains (read_vote y) v) (sym e) (Contains-here v [])

-- ---- a cluster

module _ (c : Cluster) (o : IsMostlyHonest c) where
  -- what an honest member lived
  abbrev pub Lived : ℕ → Type 0
  Lived i = Further c.group.term c.group.epoch (flat_map floor_in (c.lives i)) (calls_of (c.lives i)) (handed_of (c.lives i)) (ran.Stopped (left_by (c.lives i))) newborn

  lived : (i : ℕ) → IsHonest c i → Lived i
  lived i h = lives_lived c.group i (flat_map floor_in (c.lives i)) (c.lives i) (o.lives i h) (λ l k x m. into_flat_map floor_in (c.lives i) l x k m)

  decide : (i : ℕ) → IsHonest c i ⊎ ¬ (IsHonest c i)
  decide i = at (nat_lt i c.group.members) refl (find c.faulty i)
    where
      at : (b : Bool) → nat_lt i c.group.members ≡ b → Contains c.faulty i ⊎ ¬ (Contains c.faulty i) → IsHonest c i ⊎ ¬ (IsHonest c i)
      at true e (inl f) = inr (λ h. h.1 f)
      at true e (inr g) = inl (ltb-true i c.group.members e, g)
      at false e r = inr (λ h. omega (arith, ltb-false i c.group.members e, h.0))

  sent_in : (i : ℕ) → IsHonest c i ⊎ ¬ (IsHonest c i) → List Sent
  sent_in i (inl h) = (let l = lived i h in (run newborn l.calls).sent)
  sent_in i (inr n) = []

  -- what it sent; of a faulty one nothing is said
  pub history : ℕ → List Sent
  history i = sent_in i (decide i)

  pub sent_is : (i : ℕ) → IsHonest c i → (l : Lived i) × (history i ≡ (run newborn l.calls).sent)
  unfolding sent_in history
  sent_is i h = at (decide i)
    where
      at : (d : IsHonest c i ⊎ ¬ (IsHonest c i)) → (l : Lived i) × (sent_in i d ≡ (run newborn l.calls).sent)
      at (inl g) = (lived i g, refl)
      at (inr n) = absurd (n h)

  -- a member that is honest sent a vote on the subject
  abbrev pub Counts : ℕ → Subject → Type 0
  Counts i s = IsHonest c i → Contains (subjects_of (history i)) s

  pub voted_lived : (i : ℕ) (s : Subject) → IsHonest c i → HasVoted (c.lives i) s → Contains (subjects_of (history i)) s
  voted_lived i s h v =
      let f = sent_is i h in
      let l = f.0 in
      let fits = all_fit c.group.epoch (calls_of (c.lives i)) (subjects_of l.sent) o.epoch (typed_of c.group i (c.lives i) (o.lives i h)) l.own in
      let there = voted_in (calls_of (c.lives i)) l.sent v.0 l.votes fits v.1 in
      subst (λ xs. Contains (subjects_of xs) s) (sym (f.1 ∙ l.sends)) (subst (Contains (subjects_of l.sent)) v.2 there)

  -- ---- what came to a member

  came_counts : (i : ℕ) → IsHonest c i → (s : Subject) (a : Attestation) → Came (c.lives i) s a → c.group.verifies s a ≡ true → Counts a.signer s
  came_counts i h s a came e g = voted_lived a.signer s g (o.unforged i s a h g came e)

  pub came_good : (i : ℕ) → IsHonest c i → (x : Certificate) → ((a : Attestation) → Contains (certificate_signatures x) a → Came (c.lives i) (certificate_subject x) a) → IsVerifying c.group x
      → IsGood c.group Counts x
  came_good i h x came v =
      let list = certificate_signatures x in
      let subject = certificate_subject x in
      let verifies = c.group.verifies subject in
      let n = c.group.members in
      let sound = certified_parts verifies n list v in
      let each = each_verifies verifies n list sound.each in
      record {
        verifies = v;
        backed = All-weaker (Contains list) (λ (a : Attestation). Counts a.signer subject)
            (λ a k. (let both = All-contains (λ (y : Attestation). (y.signer < n) × (verifies y ≡ true)) list a each k in came_counts i h subject a (came a k) both.1))
            list (All-contains_itself list);
      }

  -- in a packet
  pub packet_good : (i : ℕ) → IsHonest c i → (l : Life) → Contains (c.lives i) l → (did : Did) → Contains l.past did → (t : Taken) → did.taken ≡ t → (x : Certificate)
      → ((s : Subject) (a : Attestation) → IsSignedBy x s a → InTaken t s a) → IsVerifying c.group x → IsGood c.group Counts x
  packet_good i h l k did m t e x brings v =
      came_good i h x (λ a j. (l, k, inl (did, m, subst (λ y. InTaken y (certificate_subject x) a) (sym e) (brings (certificate_subject x) a (refl, j))))) v

  -- whatever an engine takes, where of each vote of its sender this is told
  pub taken_good : (Told : Vote → Type 0) (told : (v : Vote) → Counts (vote_signer v) (vote_subject v) → Told v) (i : ℕ) → IsHonest c i → (l : Life) → Contains (c.lives i) l → (did : Did) → Contains l.past did
      → ((sender : ℕ) (bytes : List ℕ) (v : Vote) → did.taken ≡ engine.Heard sender channels.Vote bytes → whole format.vote bytes ≡ Ok v → sender ≡ vote_signer v → Told v)
      → FineTaken c.group Counts Told told did.taken
  taken_good Told told i h l k did m own = at did.taken refl
    where
      on : (sender : ℕ) (channel : Channel) (bytes : List ℕ) → did.taken ≡ engine.Heard sender channel bytes → FineOn c.group Counts Told told sender channel bytes
      on sender channels.Vote bytes e = λ v r same. (
        λ verified. came_counts i h (vote_subject v) (vote_attestation v)
            (l, k, inl (did, m, subst (λ y. InTaken y (vote_subject v) (vote_attestation v)) (sym e) (inl (v, vote_read (whole format.vote bytes) v r, refl, refl)))) verified,
        own sender bytes v e r same,
      )
      on sender channels.Certificate bytes e = λ x r v.
          packet_good i h l k did m (engine.Heard sender channels.Certificate bytes) e x (λ s a signed. inr (x, certificate_read (whole format.certificate bytes) x r, signed)) v
      on sender channels.Resolver bytes e = λ x j v.
          packet_good i h l k did m (engine.Heard sender channels.Resolver bytes) e x (λ s a signed. inr (x, j, signed)) v

      at : (t : Taken) → did.taken ≡ t → FineTaken c.group Counts Told told t
      at (engine.Heard sender channel bytes) e = on sender channel bytes e
      at engine.Began e = tt
      at (engine.Took source message) e = tt
      at (engine.Replied number answer) e = tt

  -- as the floor
  floor_good : (i : ℕ) → IsHonest c i → (l : Life) → Contains (c.lives i) l → (f : Floor) → (voter_in l.made l.past).floor ≡ f → IsFloorOf c.group f → InFloor (IsGood c.group Counts) f
  floor_good i h l k (floors.Genesis payload) e is = tt
  floor_good i h l k (floors.Finalized x) e is =
      let one = certificates.Finalization x in
      came_good i h one (λ a j. (l, k, inr (one, subst (λ y. Contains (signatures.floor_certificate y) one) (sym e) (Contains-here one []), (refl, j)))) is.1

  -- ---- what a member says

  pub record IsFineLife (i : ℕ) (l : Life) : Type 0 where
    pub fit : IsFit c.group Counts i l.made
    pub said : Each (λ (did : Did). AllSaid (IsGood c.group Counts) did.out) l.past
    pub place : IsPlaceFine c.group Counts (place_in l.made l.past)
    pub floor : InFloor (IsGood c.group Counts) (voter_in l.made l.past).floor
    pub journal : InJournal (InRecord (IsGood c.group Counts)) l.left

  pub record AreFine (i : ℕ) (lives : List Life) : Type 0 where
    pub each : Each (IsFineLife i) lives
    pub journal : InJournal (InRecord (IsGood c.group Counts)) (left_by lives)

  -- nothing more is told of votes
  abbrev pub NotTold : Vote → Type 0
  NotTold v = Unit {0}

  pub not_told : (v : Vote) → Counts (vote_signer v) (vote_subject v) → NotTold v
  not_told v k = tt

  -- what is asked of a life
  pub record IsSound (i : ℕ) (l : Life) : Type 0 where
    pub taken : Each (λ (did : Did). FineTaken c.group Counts NotTold not_told did.taken) l.past
    pub floor : InFloor (IsGood c.group Counts) (voter_in l.made l.past).floor

  left_good : (l : Life) (keep : ℕ) → IsPlaceFine c.group Counts (place_in l.made l.past) → InJournal (InRecord (IsGood c.group Counts)) (sections_of l.made l.past)
  unfolding sections_of
  left_good l keep p = p.records

  life_fine : (i : ℕ) (js : List Section) (l : Life) → IsLife c.group i js l → InJournal (InRecord (IsGood c.group Counts)) js → IsSound i l → Each (λ (did : Did). AreOwn c.group Counts i did.out.handed) l.past → IsFineLife i l
  life_fine i js l is records sound own =
      let G = IsGood c.group Counts in
      let e = is.engine in
      let fit : IsFit c.group Counts i l.made = record {
        batcher = record { scheme = e.scheme; verifies = e.verifies; members = e.counts };
        resolver = record { verifies = e.resolver_verifies; members = e.resolver_counts };
        signs = λ now. (let r = e.rules now in r.signs);
        floor = λ now. subst (InFloor G) (e.stands (started_at l.past) ∙ sym (e.stands now)) sound.floor;
        records = λ now. subst (InJournal (InRecord G)) (sym (e.journal now)) records;
      } in
      let f = history_fine c.group Counts NotTold not_told i l.made l.past is.history fit sound.taken own in
      let g = f.engine in
      record {
        fit = fit;
        said = f.said;
        place = g.place;
        floor = sound.floor;
        journal = subst (InJournal (InRecord G)) (sym is.left) (crash_keeps (InRecord G) is.keep (sections_of l.made l.past) (left_good l is.keep g.place));
      }

  lives_fine : (i : ℕ) (lives : List Life) → AreLives c.group i lives → Each (IsSound i) lives → Each (λ (l : Life). Each (λ (did : Did). AreOwn c.group Counts i did.out.handed) l.past) lives → AreFine i lives
  unfolding AreLives replayed
  lives_fine i [] are sound own = record { each = tt; journal = λ a k. absurd (not_in_empty a k) }
  lives_fine i (l ∷ before) are sound own =
      let old = lives_fine i before are.1 sound.1 own.1 in
      let new = life_fine i (left_by before) l are.0 old.journal sound.0 own.0 in
      record { each = (new, old.each); journal = new.journal }

  sound_floor : (i : ℕ) → IsHonest c i → (lives : List Life) → AreLives c.group i lives → (l : Life) → Contains lives l → IsFloorOf c.group (voter_in l.made l.past).floor
  unfolding AreLives
  sound_floor i h [] are l k = absurd (not_in_empty l k)
  sound_floor i h (x ∷ before) are l k = elim (Contains-cons_cases x before l k) [
    | inl e ↦ subst (λ (y : Life). IsFloorOf c.group (voter_in y.made y.past).floor) e
        (let is = are.0 in let n = is.engine in subst (IsFloorOf c.group) (sym (n.stands (started_at x.past))) n.sound)
    | inr r ↦ sound_floor i h before are.1 l r
  ]

  -- the own votes of an honest member
  pub member_own : (i : ℕ) → IsHonest c i → Each (λ (l : Life). Each (λ (did : Did). AreOwn c.group Counts i did.out.handed) l.past) (c.lives i)
  member_own i h =
      let f = sent_is i h in
      let l = f.0 in
      in_lives (Counts i) (run newborn l.calls).sent (λ s k g. subst (λ xs. Contains (subjects_of xs) s) (sym f.1) k) (c.lives i) l.constructed

  pub member_fine : (i : ℕ) → IsHonest c i → AreFine i (c.lives i)
  member_fine i h =
      let all : Each (IsSound i) (c.lives i) = each_contained (IsSound i) (c.lives i) (λ x k. record {
        taken = each_contained (λ (did : Did). FineTaken c.group Counts NotTold not_told did.taken) x.past (λ did m. taken_good NotTold not_told i h x k did m (λ sender bytes v e r same. tt));
        floor = floor_good i h x k (voter_in x.made x.past).floor refl (sound_floor i h (c.lives i) (o.lives i h) x k);
      }) in
      lives_fine i (c.lives i) (o.lives i h) all (member_own i h)
