-- What an honest member sends is a vote, a certificate or a message that nobody has to block it for.
use Rattle.std.proofs.Common.{◌≡◌, ℕ, ◌<◌, ◌++◌, ◌^◌, Bool, true, false, List, [], ◌∷◌, Contains, Some, Ok, refl, sym, ap, ◌∙◌, subst, inl, inr, arith, if◌then◌else◌}
use Rattle.std.proofs.lemmas.List.Elements.{Contains-append_left, Contains-append_right, Contains-append_cases}
use Rattle.std.specs.List.{flat_map}
use Rattle.simplex_values.specs.declared.plan.Channel.{Channel}
use Rattle.simplex_values.specs.declared.plan.Channel.TheVariants as channels
use Rattle.simplex_values.specs.declared.plan.Recipients.{Recipients}
use Rattle.simplex_wire.specs.declared.attestation.Attestation.{Attestation}
use Rattle.simplex_wire.specs.declared.certificate.Certificate.{Certificate}
use Rattle.simplex_wire.specs.declared.resolver.ResolverMessage.{ResolverMessage}
use Rattle.simplex_wire.specs.declared.vote.Vote.{Vote}
use Rattle.simplex_wire.specs.declared.vote.Vote.TheVariants as votes
use Rattle.simplex_wire.specs.Fields.{vote_subject, vote_signer, vote_attestation}
use Rattle.simplex_wire.specs.Fits.{FitsCertificate, IsBytes}
use Rattle.simplex_wire.specs.Format.{whole}
use Rattle.simplex_wire.specs.Message as format
use Rattle.simplex_wire.specs.ResolverMessage.{resolver_message}
use Rattle.simplex_wire.proofs.Formats.{whole_again}
use Rattle.simplex_wire.proofs.Certificates.{certificate_is}
use Rattle.simplex_messages.specs.declared.call.Call.{Call}
use Rattle.simplex_messages.specs.declared.call.Call.TheVariants as calls
use Rattle.simplex_transcript.specs.declared.entry.Packet.{Packet}
use Rattle.simplex_transcript.specs.declared.node.Node.{Node}
use Rattle.simplex_transcript.specs.declared.node.Ref.{Ref}
use Rattle.simplex_transcript.specs.declared.setup.Setup.{Setup}
use Rattle.model_steps.specs.Batcher.{vote_epoch, certificate_epoch}
use Rattle.model_run.specs.Setting.{Setting}
use Rattle.model_run.specs.Life.{Noted, is_of}
use Rattle.model_run.specs.Members.{members_of, is_same_node}
use Rattle.model_run.specs.Entries.{node_of}
use Rattle.model_run.specs.Requests.{packet_for}
use Rattle.law_agreement.specs.Member.{newborn, run}
use Rattle.law_agreement.proofs.ListFacts.{not_in_empty, Contains-cons_cases}
use Rattle.law_member.specs.Evidence.{subjects_of}
use Rattle.law_run.specs.Sayings.{Each, InCall}
use Rattle.law_run.specs.Saying.{InNoted}
use Rattle.law_run.specs.Histories.{IsRun, calls_of}
use Rattle.law_run.specs.Faulty.{faulty_of}
use Rattle.law_run.specs.Fitting.{IsTyped}
use Rattle.law_run.specs.MostlyHonest.{IsMostlyHonest}
use Rattle.law_run.specs.Backed.{IsVerifying}
use Rattle.law_run.specs.Voting.{vote_in, sent_votes}
use Rattle.law_run.proofs.Answering.{answer_reads}
use Rattle.law_run.proofs.BackingEngines.{first_half}
use Rattle.law_run.proofs.BackingEpochs.{good_names, run_own}
use Rattle.law_run.proofs.BackingNaming.{Names, calls_name, node_names}
use Rattle.law_run.proofs.Delivered.{packet_delivered}
use Rattle.law_run.proofs.Further.{same_self, same_node}
use Rattle.law_run.proofs.Good.{IsGood}
use Rattle.law_run.proofs.Nodes.{node_lives}
use Rattle.law_run.proofs.Owning.{went_own, read_of, attested}
use Rattle.law_run.proofs.Packets.{each_contained}
use Rattle.law_run.proofs.Shapes.{IsSentBy, entry_shape}
use Rattle.law_run.proofs.Speaking.{Each-weaker}
use Rattle.law_run.proofs.Worlds.{backers_of, sized_of, fine_of, people_of, floors_hold, called, from_faulty, subject_lived, in_flat_map, vote_of}

-- ---- it is one of its node's calls

-- the bytes went out of the member's node
pub record CameFrom (setup : Setup) (noted : List Noted) (member : ℕ) (channel : Channel) (bytes : List ℕ) : Type 0 where
  pub below : member < members_of setup
  pub to : Recipients
  pub call : Contains (calls_of (node_of member) noted) (calls.Send channel to bytes)

abbrev pub OfHonest : Setup → List Noted → Packet → Type 0
OfHonest setup noted p = ¬ (Contains (faulty_of setup) p.from.member) → CameFrom setup noted p.from.member p.channel p.bytes

came_later : (setup : Setup) (noted : Noted) (before : List Noted) (member : ℕ) (channel : Channel) (bytes : List ℕ) → CameFrom setup before member channel bytes → CameFrom setup (noted ∷ before) member channel bytes
unfolding calls_of
came_later setup noted before member channel bytes c = record { below = c.below; to = c.to; call = at (is_of (node_of member) noted.event) }
  where
    at : (b : Bool) → Contains (if b then calls_of (node_of member) before ++ noted.entry.calls else calls_of (node_of member) before) (calls.Send channel c.to bytes)
    at true = Contains-append_left (calls_of (node_of member) before) noted.entry.calls _ c.call
    at false = c.call

came_now : (setup : Setup) (noted : Noted) (before : List Noted) (p : Packet) → IsSentBy setup noted → Contains noted.entry.packets p → OfHonest setup (noted ∷ before) p
unfolding calls_of
came_now setup noted before p s k honest =
    let x = called setup s.at noted.entry.calls p (subst (λ ps. Contains ps p) s.packets k) in
    let half = first_half setup s.at s.node in
    elim half.1 [
      | inr bad ↦ absurd (honest (subst (λ (n : Node). Contains (faulty_of setup) n.member) (sym x.from) bad))
      | inl first ↦ (let here : s.at ≡ node_of p.from.member = sym (same_node (node_of s.at.member) s.at first) ∙ ap (λ (n : Node). node_of n.member) (sym x.from) in
          let of : is_of (node_of p.from.member) noted.event ≡ true = s.of (node_of p.from.member) ∙ ap (λ n. is_same_node n (node_of p.from.member)) here ∙ same_self (node_of p.from.member) in
          record {
            below = subst (λ (n : Node). n.member < members_of setup) (sym x.from) half.0;
            to = x.to;
            call = subst (λ (b : Bool). Contains (if b then calls_of (node_of p.from.member) before ++ noted.entry.calls else calls_of (node_of p.from.member) before) (calls.Send p.channel x.to p.bytes)) (sym of)
                (Contains-append_right (calls_of (node_of p.from.member) before) noted.entry.calls _ x.call);
          })
    ]

all_came : (setting : Setting) (noted : List Noted) → IsRun setting noted → Each (λ (n : Noted). Each (OfHonest setting.setup noted) n.entry.packets) noted
unfolding IsRun
all_came setting [] ran = tt
all_came setting (noted ∷ before) ran = (
  each_contained (OfHonest setting.setup (noted ∷ before)) noted.entry.packets new,
  Each-weaker (λ (n : Noted). Each (OfHonest setting.setup before) n.entry.packets) (λ (n : Noted). Each (OfHonest setting.setup (noted ∷ before)) n.entry.packets)
      (λ n h. Each-weaker (OfHonest setting.setup before) (OfHonest setting.setup (noted ∷ before))
      (λ p f honest. came_later setting.setup noted before p.from.member p.channel p.bytes (f honest)) n.entry.packets h) before (all_came setting before ran.2),
)
  where
    new : (p : Packet) → Contains noted.entry.packets p → OfHonest setting.setup (noted ∷ before) p
    new p k = elim (entry_shape setting before ran.0 noted ran.1) [
      | inl none ↦ absurd (not_in_empty p (subst (λ ps. Contains ps p) none k))
      | inr shape ↦ elim shape [
        | inl s ↦ came_now setting.setup noted before p s k
        | inr f ↦ λ honest. absurd (honest (from_faulty setting.setup noted.entry.packets p f k))
      ]
    ]

-- ---- it is proper

-- it is read, and its vote is the member's; votes and certificates name the epoch, and certificates verify
abbrev pub ProperOn : Setting → ℕ → Channel → List ℕ → Type 0
ProperOn setting member channels.Vote bytes = (v : Vote) × (whole format.vote bytes ≡ Ok v) × (vote_signer v ≡ member) × (vote_epoch v ≡ setting.setup.epoch)
ProperOn setting member channels.Certificate bytes = (c : Certificate) × (whole format.certificate bytes ≡ Ok c) × IsVerifying setting.setup c × (certificate_epoch c ≡ setting.setup.epoch)
ProperOn setting member channels.Resolver bytes = (m : ResolverMessage) × (whole resolver_message bytes ≡ Ok m)

signer_is : (v : Vote) → (vote_attestation v).signer ≡ vote_signer v
signer_is (votes.Notarize v) = refl
signer_is (votes.Nullify v) = refl
signer_is (votes.Finalize v) = refl

module _ (setting : Setting) (noted : List Noted) (o : IsMostlyHonest setting noted) where
  wider : (n : ℕ) → n < 2 ^ 16 → n < 2 ^ 32
  wider n h = omega (arith, h)

  -- a vote that went out of an honest member's node names the epoch
  vote_names : (member : ℕ) (to : Recipients) (bytes : List ℕ) (v : Vote) → ¬ (Contains (faulty_of setting.setup) member) → Contains (calls_of (node_of member) noted) (calls.Send channels.Vote to bytes)
      → whole format.vote bytes ≡ Ok v → Names setting.setup.epoch (vote_subject v)
  vote_names member to bytes v honest call read =
      let p = people_of setting noted o (floors_hold setting noted o) in
      let l = p.lived member honest in
      let lived = l.0.lived in
      let sent = (run newborn lived.calls).sent in
      let there : Contains (subjects_of sent) (vote_subject v) = subject_lived (node_of member) noted sent v lived.votes l.0.fits (record { to = to; bytes = bytes; call = call; read = read }) in
      elim (lived.own (vote_subject v) there) [
        | inl w ↦ calls_name setting.setup.epoch (calls_of (node_of member) noted) (vote_subject v) (node_names setting.setup (node_of member) noted (run_own setting noted o)) w
        | inr n ↦ subst (Names setting.setup.epoch) (sym n.1) n.2
      ]

  vote_proper : (member : ℕ) (bytes : List ℕ) → ¬ (Contains (faulty_of setting.setup) member) → CameFrom setting.setup noted member channels.Vote bytes → ProperOn setting member channels.Vote bytes
  vote_proper member bytes honest c =
      let few = wider (members_of setting.setup) o.not_many in
      let lived = node_lives setting noted (node_of member) o.term honest o.ran (floors_hold setting noted o) in
      let s = went_own setting (node_of member) noted c.to bytes o.epoch lived.stored o.typed c.call in
      let read = read_of setting member c.below few honest bytes s in
      let a = attested setting member c.below few honest bytes s s.vote read in
      (s.vote, read, sym (signer_is s.vote) ∙ ap (λ (x : Attestation). x.signer) a, vote_names member c.to bytes s.vote honest c.call read)

  one_call : (cs : List Call) (call : Call) → Each (InCall (IsGood (backers_of setting noted))) cs → Contains cs call → InCall (IsGood (backers_of setting noted)) call
  one_call [] call g c = absurd (not_in_empty call c)
  one_call (x ∷ cs) call g c = elim (Contains-cons_cases x cs call c) [ inl e ↦ subst (InCall (IsGood (backers_of setting noted))) e g.0 | inr r ↦ one_call cs call g.1 r ]

  call_good : (node : Node) (before : List Noted) (call : Call) → Each (InNoted (IsGood (backers_of setting noted))) before → Contains (calls_of node before) call → InCall (IsGood (backers_of setting noted)) call
  unfolding calls_of
  call_good node [] call h k = absurd (not_in_empty call k)
  call_good node (n ∷ before) call h k = at (is_of node n.event) k (λ old. call_good node before call h.1 old)
    where
      at : (b : Bool) → Contains (if b then calls_of node before ++ n.entry.calls else calls_of node before) call → (Contains (calls_of node before) call → InCall (IsGood (backers_of setting noted)) call)
          → InCall (IsGood (backers_of setting noted)) call
      at true c older = elim (Contains-append_cases (calls_of node before) n.entry.calls call c) [ inl old ↦ older old | inr new ↦ (let first = h.0 in one_call n.entry.calls call first.calls new) ]
      at false c older = older c

  certificate_proper : (member : ℕ) (bytes : List ℕ) → CameFrom setting.setup noted member channels.Certificate bytes → ProperOn setting member channels.Certificate bytes
  certificate_proper member bytes c =
      let fine = fine_of setting noted o in
      let g = call_good (node_of member) noted (calls.Send channels.Certificate c.to bytes) fine.said c.call in
      let good = g.3 in
      (g.1, ap (whole format.certificate) g.2 ∙ whole_again format.certificate FitsCertificate certificate_is g.1 good.fits, good.verifies, good_names setting noted o (run_own setting noted o) g.1 good)

  message_proper : (member : ℕ) (bytes : List ℕ) → IsBytes bytes → CameFrom setting.setup noted member channels.Resolver bytes → ProperOn setting member channels.Resolver bytes
  message_proper member bytes b c =
      let fine = fine_of setting noted o in
      answer_reads (backers_of setting noted) (sized_of setting noted o) bytes b (call_good (node_of member) noted (calls.Send channels.Resolver c.to bytes) fine.said c.call)

  proper_on : (member : ℕ) (channel : Channel) (bytes : List ℕ) → IsBytes bytes → ¬ (Contains (faulty_of setting.setup) member) → CameFrom setting.setup noted member channel bytes → ProperOn setting member channel bytes
  proper_on member channels.Vote bytes b honest c = vote_proper member bytes honest c
  proper_on member channels.Certificate bytes b honest c = certificate_proper member bytes c
  proper_on member channels.Resolver bytes b honest c = message_proper member bytes b c

  -- so is each packet that is delivered
  pub delivered_proper : (node : Node) (ref : Ref) (p : Packet) → packet_for noted node ref ≡ Some p → ¬ (Contains (faulty_of setting.setup) p.from.member) → ProperOn setting p.from.member p.channel p.bytes
  delivered_proper node ref p found honest =
      let bytes : IsBytes p.bytes = packet_delivered (λ (q : Packet). IsBytes q.bytes) noted node ref p (Each-weaker (λ (n : Noted). IsTyped n.entry) (λ (n : Noted). Each (λ (q : Packet). IsBytes q.bytes) n.entry.packets) (λ n t. t.bytes) noted o.typed) found in
      proper_on p.from.member p.channel p.bytes bytes honest (packet_delivered (OfHonest setting.setup noted) noted node ref p (all_came setting noted o.ran) found honest)

-- who sent a vote is a member, or faulty
pub sent_below : (setting : Setting) (noted : List Noted) (member : ℕ) (v : Vote) → IsRun setting noted → ¬ (Contains (faulty_of setting.setup) member) → Contains (sent_votes noted member) v → member < members_of setting.setup
unfolding IsRun sent_votes
sent_below setting [] member v ran honest k = absurd (not_in_empty v k)
sent_below setting (noted ∷ before) member v ran honest k =
    elim (Contains-append_cases (sent_votes before member) (flat_map (vote_in member) noted.entry.packets) v k) [
      | inl old ↦ sent_below setting before member v ran.2 honest old
      | inr new ↦ (let p = in_flat_map (vote_in member) noted.entry.packets v new in
          let i = vote_of member p.0 v p.2 in
          elim (entry_shape setting before ran.0 noted ran.1) [
            | inl none ↦ absurd (not_in_empty p.0 (subst (λ ps. Contains ps p.0) none p.1))
            | inr shape ↦ elim shape [
              | inl s ↦ (let x = called setting.setup s.at noted.entry.calls p.0 (subst (λ ps. Contains ps p.0) s.packets p.1) in
                  subst (λ (n : Node). n.member < members_of setting.setup) (sym x.from ∙ i.from) (first_half setting.setup s.at s.node).0)
              | inr f ↦ absurd (honest (subst (λ (n : Node). Contains (faulty_of setting.setup) n.member) i.from (from_faulty setting.setup noted.entry.packets p.0 f p.1)))
            ]
          ])
    ]
