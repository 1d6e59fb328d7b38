-- A cluster whose faulty members are few and in which nothing is forged is a lawful world: no two of its certificates conflict.
use Rattle.std.proofs.Common.{◌≡◌, ℕ, ◌<◌, ◌⊎◌, true, List, [], ◌∷◌, length, map, All, Contains, refl, sym, subst, inl, inr, arith, None}
use Rattle.std.proofs.lemmas.List.{length-map}
use Rattle.std.proofs.lemmas.List.Elements.{All-contains, All-contains_itself, All-map, All-weaker, Contains-append_cases}
use Rattle.simplex_values.specs.declared.proposal.Subject.{Subject}
use Rattle.simplex_wire.specs.declared.artifact.Artifact.{Artifact}
use Rattle.simplex_wire.specs.declared.artifact.Artifact.TheVariants as artifacts
use Rattle.simplex_wire.specs.declared.attestation.Attestation.{Attestation}
use Rattle.simplex_wire.specs.declared.certificate.Certificate.{Certificate}
use Rattle.simplex_wire.specs.declared.certificate.Certificate.TheVariants as certificates
use Rattle.simplex_wire.specs.Fields.{certificate_subject, certificate_signatures}
use Rattle.simplex_types.specs.declared.floor.Floor.{Floor}
use Rattle.simplex_types.specs.declared.floor.Floor.TheVariants as floors
use Rattle.simplex_journal.specs.Journal.{replayed}
use Rattle.simplex_messages.specs.declared.call.Call.{Call}
use Rattle.simplex_messages.specs.declared.call.Call.TheVariants as calls
use Rattle.simplex_transcript.specs.declared.event.Event.TheVariants as events
use Rattle.model_steps.specs.Engine as engine
use Rattle.model_steps.specs.Engine.{Did, Taken, voter_in}
use Rattle.model_run.specs.Entries.{noted_blank}
use Rattle.model_run.specs.Life.{Noted}
use Rattle.law_agreement.specs.World as agreement
use Rattle.law_agreement.specs.World.{World, IsBacked, IsLawful}
use Rattle.law_agreement.specs.Member as life
use Rattle.law_agreement.proofs.Invariant.{sent_honest}
use Rattle.law_agreement.proofs.ListFacts.{not_in_empty, Contains-cons_cases}
use Rattle.law_agreement.proofs.Safety.{no_conflict}
use Rattle.law_member.specs.Life.{statement_of, certificate_in, taken, floor_statement}
use Rattle.law_run.specs.Backed.{of_record}
use Rattle.law_run.specs.Sayings.{Each, InCall, InRecord, InFloor, AllSaid}
use Rattle.law_run.proofs.Above.{sent_of}
use Rattle.law_run.proofs.Good.{certified_parts, each_verifies}
use Rattle.law_run.proofs.Speaking.{Each-append}
use Rattle.law_run.proofs.Standing.{in_said}
use Rattle.law_run.proofs.Worlds.{find, in_flat_map, rising_from}
use Rattle.law_cluster.specs.Lives.{Life, IsVerifying}
use Rattle.law_cluster.specs.Signatures.{calls_in, calls_of, floor_certificate}
use Rattle.law_cluster.specs.Cluster.{Cluster, IsHonest, IsMostlyHonest}
use Rattle.law_cluster.specs.Agree.{in_taken, said_in, HadIn, IsHad, Agree}
use Rattle.law_cluster.proofs.Fine.{IsGood}
use Rattle.law_cluster.proofs.Living.{floor_in}
use Rattle.law_cluster.proofs.Members.{Counts, history, sent_is, packet_good, IsFineLife, member_fine}

-- ---- what an honest member was brought

module _ (Good : Certificate → Type 0) where
  -- it is what a good certificate states
  abbrev pub States : agreement.Certificate → Type 0
  States x = (c : Certificate) × Good c × (statement_of c ≡ x)

  only_one : (c : Certificate) (x : agreement.Certificate) → Good c → Contains (statement_of c ∷ []) x → States x
  only_one c x g k = elim (Contains-cons_cases (statement_of c) [] x k) [ inl e ↦ (c, g, e) | inr r ↦ absurd (not_in_empty x r) ]

  in_record : (a : Artifact) (x : agreement.Certificate) → InRecord Good a → Contains (certificate_in a) x → States x
  in_record (artifacts.Notarization n) x g k = only_one (certificates.Notarization n) x g k
  in_record (artifacts.Nullification n) x g k = only_one (certificates.Nullification n) x g k
  in_record (artifacts.Finalization n) x g k = only_one (certificates.Finalization n) x g k
  in_record (artifacts.Notarize v) x g k = absurd (not_in_empty x k)
  in_record (artifacts.Nullify v) x g k = absurd (not_in_empty x k)
  in_record (artifacts.Finalize v) x g k = absurd (not_in_empty x k)
  in_record (artifacts.Certification r good) x g k = absurd (not_in_empty x k)

  taken_states : (cs : List Call) (x : agreement.Certificate) → Each (InCall Good) cs → Contains (taken cs) x → States x
  unfolding taken
  taken_states [] x g k = absurd (not_in_empty x k)
  taken_states (calls.Append n a ∷ rest) x g k =
      elim (Contains-append_cases (certificate_in a) (taken rest) x k) [ inl here ↦ in_record a x g.0 here | inr r ↦ taken_states rest x g.1 r ]
  taken_states (calls.Sync n ∷ rest) x g k = taken_states rest x g.1 k
  taken_states (calls.Prune n ∷ rest) x g k = taken_states rest x g.1 k
  taken_states (calls.Send channel to bytes ∷ rest) x g k = taken_states rest x g.1 k
  taken_states (calls.Report activity ∷ rest) x g k = taken_states rest x g.1 k
  taken_states (calls.Relay payload plan ∷ rest) x g k = taken_states rest x g.1 k
  taken_states (calls.Block who why ∷ rest) x g k = taken_states rest x g.1 k

  floor_states : (f : Floor) (x : agreement.Certificate) → InFloor Good f → Contains (floor_statement f) x → States x
  floor_states (floors.Genesis payload) x g k = absurd (not_in_empty x k)
  floor_states (floors.Finalized f) x g k = only_one (certificates.Finalization f) x g k

  said_calls : (past : List Did) → Each (λ (did : Did). AllSaid Good did.out) past → Each (InCall Good) (calls_in past)
  unfolding calls_in
  said_calls [] h = tt
  said_calls (did ∷ past) h = (let first = h.0 in Each-append (InCall Good) (calls_in past) did.out.calls (said_calls past h.1) first.calls)

  -- ---- what it had

  one_floor : (f : Floor) (c : Certificate) → InFloor Good f → Contains (floor_certificate f) c → Good c
  one_floor (floors.Genesis payload) c g k = absurd (not_in_empty c k)
  one_floor (floors.Finalized f) c g k = elim (Contains-cons_cases (certificates.Finalization f) [] c k) [ inl e ↦ subst Good e g | inr r ↦ absurd (not_in_empty c r) ]

  one_record : (a : Artifact) (c : Certificate) → InRecord Good a → Contains (of_record a) c → Good c
  one_record (artifacts.Notarization n) c g k = elim (Contains-cons_cases (certificates.Notarization n) [] c k) [ inl e ↦ subst Good e g | inr r ↦ absurd (not_in_empty c r) ]
  one_record (artifacts.Nullification n) c g k = elim (Contains-cons_cases (certificates.Nullification n) [] c k) [ inl e ↦ subst Good e g | inr r ↦ absurd (not_in_empty c r) ]
  one_record (artifacts.Finalization n) c g k = elim (Contains-cons_cases (certificates.Finalization n) [] c k) [ inl e ↦ subst Good e g | inr r ↦ absurd (not_in_empty c r) ]
  one_record (artifacts.Notarize v) c g k = absurd (not_in_empty c k)
  one_record (artifacts.Nullify v) c g k = absurd (not_in_empty c k)
  one_record (artifacts.Finalize v) c g k = absurd (not_in_empty c k)
  one_record (artifacts.Certification r good) c g k = absurd (not_in_empty c k)

  -- what an engine said stands in an entry as it does in the item
  abbrev pub entry_of : Did → Noted
  entry_of did =
      let blank = noted_blank [] (events.Tick 0) None in
      record blank { entry = record blank.entry { added = did.out.added; handed = did.out.handed; calls = did.out.calls } }

  one_said : (did : Did) (c : Certificate) → AllSaid Good did.out → Contains (said_in did) c → Good c
  one_said did c s k = in_said Good (entry_of did) c (record { floor = tt; added = s.added; handed = s.handed; calls = s.calls }) k

pub each_at : {A : Type 0} (P : A → Type 0) (xs : List A) (x : A) → Each P xs → Contains xs x → P x
each_at P [] x h k = absurd (not_in_empty x k)
each_at P (y ∷ xs) x h k = elim (Contains-cons_cases y xs x k) [ inl e ↦ subst P e h.0 | inr r ↦ each_at P xs x h.1 r ]

-- ---- a cluster

module _ (c : Cluster) (o : IsMostlyHonest c) where
  pub lives_said : (i : ℕ) (lives : List Life) → Each (IsFineLife c o i) lives → Each (InCall (IsGood c.group (Counts c o))) (calls_of lives)
  unfolding calls_of
  lives_said i [] h = tt
  lives_said i (l ∷ before) h =
      (let first = h.0 in Each-append (InCall (IsGood c.group (Counts c o))) (calls_of before) (calls_in l.past) (lives_said i before h.1) (said_calls (IsGood c.group (Counts c o)) l.past first.said))

  -- ---- its world

  abbrev pub world : World
  world = record { members = c.group.members; term_length = c.group.term; faulty = c.faulty; history = history c o }

  has_sent : (i : ℕ) (s : Subject) → i < c.group.members → Counts c o i s → Contains c.faulty i ⊎ agreement.HasSent world i s
  has_sent i s lt counts = elim (find c.faulty i) [
    | inl f ↦ inl f
    | inr honest ↦ inr (sent_of (history c o i) s (counts (lt, honest)))
  ]

  pub good_backed : (x : Certificate) → IsGood c.group (Counts c o) x → IsBacked world (statement_of x)
  good_backed x g =
      let n = c.group.members in
      let list = certificate_signatures x in
      let subject = certificate_subject x in
      let verifies = c.group.verifies subject in
      let sound = certified_parts verifies n list g.verifies in
      let below = All-weaker (λ (a : Attestation). (a.signer < n) × (verifies a ≡ true)) (λ (a : Attestation). a.signer < n) (λ a h. h.0) list (each_verifies verifies n list sound.each) in
      let signer : Attestation → ℕ = λ a. a.signer in
      let same : length (map signer list) ≡ length list = length-map list signer in
      let S = λ (i : ℕ). Contains c.faulty i ⊎ agreement.HasSent world i subject in
      record {
        quorum = record {
          rising = rising_from 0 list sound.rises;
          members = All-map (λ i. i < n) signer list below;
          enough = omega (arith, sound.quorum, same);
        };
        signed = All-map S signer list (All-weaker (Contains list) (λ (a : Attestation). S a.signer)
            (λ a k. has_sent a.signer subject (All-contains (λ (y : Attestation). y.signer < n) list a below k)
            (All-contains (λ (y : Attestation). Counts c o y.signer subject) list a g.backed k)) list (All-contains_itself list));
      }

  states_backed : (x : agreement.Certificate) → States (IsGood c.group (Counts c o)) x → IsBacked world x
  states_backed x s = subst (IsBacked world) s.2 (good_backed s.0 s.1)

  pub lawful : IsLawful world
  lawful =
      record {
        members = o.some;
        term_length = o.term;
        faulty = o.few;
        honest = λ i lt good. (let f = sent_is c o i (lt, good) in
            let l = f.0 in
            let fine = member_fine c o i (lt, good) in
            let brought : All (IsBacked world) (life.brought l.calls) =
            All-weaker (Contains (life.brought l.calls)) (IsBacked world) (λ x k. states_backed x (elim (l.brought x k) [
              | inl t ↦ taken_states (IsGood c.group (Counts c o)) (calls_of (c.lives i)) x (lives_said i (c.lives i) fine.each) t
              | inr m ↦ (let at = in_flat_map floor_in (c.lives i) x m in
                  let one = each_at (IsFineLife c o i) (c.lives i) at.0 fine.each at.1 in
                  floor_states (IsGood c.group (Counts c o)) (voter_in at.0.made at.0.past).floor x one.floor at.2)
            ])) (life.brought l.calls) (All-contains_itself (life.brought l.calls)) in
            subst (agreement.IsHonest world) (sym f.1) (sent_honest world o.term l.calls l.legal brought));
      }

  -- ---- what honest members had is good

  on_channel : (i : ℕ) → IsHonest c i → (l : Life) → Contains (c.lives i) l → (did : Did) → Contains l.past did → (x : Certificate) → IsVerifying c.group x → Contains (in_taken did.taken) x → IsGood c.group (Counts c o) x
  on_channel i h l k did m x v j = at did.taken refl j
    where
      at : (t : Taken) → did.taken ≡ t → Contains (in_taken t) x → IsGood c.group (Counts c o) x
      at (engine.Heard sender channel bytes) e q = packet_good c o i h l k did m (engine.Heard sender channel bytes) e x (λ s a signed. inr (x, q, signed)) v
      at engine.Began e q = absurd (not_in_empty x q)
      at (engine.Took source message) e q = absurd (not_in_empty x q)
      at (engine.Replied number answer) e q = absurd (not_in_empty x q)

  had_in : (i : ℕ) → IsHonest c i → (l : Life) → Contains (c.lives i) l → IsFineLife c o i l → (x : Certificate) → IsVerifying c.group x → HadIn l x → IsGood c.group (Counts c o) x
  had_in i h l k fine x v had = elim had [
    | inl f ↦ one_floor (IsGood c.group (Counts c o)) (voter_in l.made l.past).floor x fine.floor f
    | inr other ↦ elim other [
      | inl item ↦ (let did = item.0 in elim item.2 [
        | inl packet ↦ on_channel i h l k did item.1 x v packet
        | inr s ↦ one_said (IsGood c.group (Counts c o)) did x (each_at (λ (d : Did). AllSaid (IsGood c.group (Counts c o)) d.out) l.past did fine.said item.1) s
      ])
      | inr last ↦ elim last [
        | inl j ↦ (let at = in_flat_map of_record (replayed l.left) x j in one_record (IsGood c.group (Counts c o)) at.0 x (fine.journal at.0 at.1) at.2)
        | inr known ↦ (let place = fine.place in place.known x known.0 known.1)
      ]
    ]
  ]

  pub had_good : (x : Certificate) → IsHad c x → IsGood c.group (Counts c o) x
  had_good x had =
      let fine = member_fine c o had.member had.honest in
      let at = had.had in
      had_in had.member had.honest at.0 at.1 (each_at (IsFineLife c o had.member) (c.lives had.member) at.0 fine.each at.1) x had.verifies at.2

  pub cluster_agrees : Agree c
  cluster_agrees a b ha hb =
      no_conflict world lawful (certificate_subject a) (certificate_subject b) (statement_of a).signers (statement_of b).signers
      (good_backed a (had_good a ha)) (good_backed b (had_good b hb))
