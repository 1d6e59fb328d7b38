-- A run of members of whom few are faulty is a lawful world: no two of its certificates conflict.
use Rattle.std.proofs.Common.{◌≡◌, ℕ, zero, suc, ◌+◌, ◌^◌, ◌<◌, ◌≤◌, ◌++◌, ◌⊎◌, ◌==◌, nat_le, Bool, true, false, List, [], ◌∷◌, length, map, All, Contains, Result, Ok, Err, refl, sym, ap, ◌∙◌, subst, inl, inr, arith, eqb-true, leb-true, if◌then◌else◌}
use Rattle.std.specs.Prelude.{slice_index}
use Rattle.std.specs.List.{flat_map}
use Rattle.std.proofs.lemmas.Bool.{eqb-false}
use Rattle.std.proofs.lemmas.List.{length-map}
use Rattle.std.specs.List.Sorted.{IsStrictlyIncreasing}
use Rattle.std.proofs.lemmas.List.Elements.{All-contains, All-contains_itself, All-map, All-weaker, Contains-append_cases, Contains-append_left, Contains-append_right}
use Rattle.simplex_values.specs.declared.plan.Channel.{Channel}
use Rattle.simplex_values.specs.declared.plan.Channel.TheVariants as channels
use Rattle.simplex_values.specs.declared.plan.Recipients.{Recipients}
use Rattle.simplex_values.specs.declared.proposal.Subject.{Subject}
use Rattle.simplex_values.specs.declared.proposal.Subject.TheVariants as subjects
use Rattle.simplex_values.specs.Quorum.{max_faulty}
use Rattle.simplex_values.specs.declared.round.Round.{Round}
use Rattle.simplex_values.specs.Terms.{greatest_view}
use Rattle.simplex_wire.specs.declared.artifact.Artifact.{Artifact}
use Rattle.simplex_wire.specs.declared.artifact.Artifact.TheVariants as artifacts
use Rattle.simplex_wire.specs.declared.attestation.Attestation.{Attestation}
use Rattle.simplex_wire.specs.declared.certificate.Certificate.{Certificate}
use Rattle.simplex_wire.specs.declared.certificate.Certificate.TheVariants as certificates
use Rattle.simplex_wire.specs.declared.certificate.Finalization.{Finalization}
use Rattle.simplex_wire.specs.declared.error.DecodeError.{DecodeError}
use Rattle.simplex_wire.specs.declared.vote.Vote.{Vote}
use Rattle.simplex_wire.specs.Fields.{vote_subject, certificate_subject, certificate_signatures}
use Rattle.simplex_wire.specs.Format.{whole}
use Rattle.simplex_wire.specs.Message as format
use Rattle.simplex_wire.specs.Signatures.{rises_from}
use Rattle.simplex_types.specs.Keyed.{keyed_verifies}
use Rattle.model_rules.specs.Known.{view_of}
use Rattle.simplex_messages.specs.declared.call.Call.{Call}
use Rattle.simplex_messages.specs.declared.call.Call.TheVariants as calls
use Rattle.simplex_transcript.specs.declared.entry.Packet.{Packet}
use Rattle.simplex_transcript.specs.declared.node.Node.{Node}
use Rattle.simplex_transcript.specs.declared.setup.Setup.{Setup}
use Rattle.model_run.specs.Setting.{Setting}
use Rattle.model_run.specs.Life.{Noted, is_of}
use Rattle.model_run.specs.Members.{members_of, is_same_node}
use Rattle.model_run.specs.Entries.{node_of, packets_of}
use Rattle.law_agreement.specs.World as agreement
use Rattle.law_agreement.specs.World.{Sent, World, IsBacked, IsHonest, IsLawful}
use Rattle.law_agreement.specs.Conflict.{Conflict}
use Rattle.law_agreement.proofs.ListFacts.{not_in_empty, Contains-here, Contains-there, Contains-cons_cases}
use Rattle.law_agreement.proofs.Meeting.{quorums_meet}
use Rattle.law_agreement.proofs.Safety.{no_conflict}
use Rattle.law_agreement.specs.Member.{newborn, run}
use Rattle.law_agreement.proofs.Invariant.{sent_honest}
use Rattle.law_member.specs.Life.{statement_of, voted, AreSent}
use Rattle.law_member.specs.Life as conduct
use Rattle.law_member.specs.Evidence.{subjects_of}
use Rattle.law_member.specs.Wire.{Fits}
use Rattle.law_member.proofs.Reading.{whole_on}
use Rattle.law_run.specs.Sayings.{Each}
use Rattle.law_run.specs.Saying.{InNoted}
use Rattle.law_run.specs.Histories.{AreFloors, calls_of, IsLivedBy, IsRun}
use Rattle.law_run.proofs.Above.{sent_above, sent_of}
use Rattle.law_run.proofs.StartFloors.{IsReportedAbove, start_above}
use Rattle.law_run.proofs.NodePassing.{noted_more}
use Rattle.law_run.proofs.Further.{same_self, same_node}
use Rattle.law_run.proofs.Knowledge.{brought_good}
use Rattle.law_run.proofs.Nodes.{node_lives}
use Rattle.law_run.proofs.Speaking.{Each-append, Each-weaker}
use Rattle.law_run.specs.Voting.{read_vote, vote_on, vote_in, sent_votes, HasVoted}
use Rattle.law_run.proofs.Backers.{Backers, Counts}
use Rattle.law_run.specs.Backed.{IsVerifying, StandsIn}
use Rattle.law_run.specs.Fitting.{RecordFits, CallFits, AreTyped}
use Rattle.law_run.specs.MostlyHonest.{IsMostlyHonest}
use Rattle.law_run.proofs.Good.{IsGood, IsSized, both, certified_parts, each_verifies}
use Rattle.law_run.proofs.BackingEngines.{IsFineRun}
use Rattle.law_run.proofs.Reporting.{reported_good}
use Rattle.law_run.proofs.Running.{run_fine}
use Rattle.law_run.proofs.Shapes.{IsSentBy, entry_shape}
use Rattle.law_run.proofs.Standing.{stands_good}
use Rattle.model_run.specs.Kinds.{is_faulty_member}
use Rattle.law_run.specs.Faulty.{faulty_of}
use Rattle.law_run.proofs.Members.{faulty_listed}

abbrev pub backers_of : Setting → List Noted → Backers
backers_of setting noted = record { setting = setting; noted = noted }

pub sized_of : (setting : Setting) (noted : List Noted) → IsMostlyHonest setting noted → IsSized setting.setup
sized_of setting noted o = record { some = o.some; few = wider (members_of setting.setup) o.not_many; fewer = o.not_many }
  where
    wider : (n : ℕ) → n < 2 ^ 16 → n < 2 ^ 32
    wider n h = omega (arith, h)

pub fine_of : (setting : Setting) (noted : List Noted) → IsMostlyHonest setting noted → IsFineRun (backers_of setting noted) noted
fine_of setting noted o = run_fine (backers_of setting noted) [] noted (sized_of setting noted o) refl o.ran o.typed

pub earlier : (setting : Setting) (noted : Noted) (before : List Noted) → IsMostlyHonest setting (noted ∷ before) → IsMostlyHonest setting before
unfolding IsRun
earlier setting noted before o =
    record { some = o.some; not_many = o.not_many; term = o.term; few = o.few; epoch = o.epoch; ran = o.ran.2; typed = o.typed.1 }

-- ---- a vote that was sent is one of the life's

pub in_flat_map : {A B : Type 0} (f : A → List B) (xs : List A) (y : B) → Contains (flat_map f xs) y → (x : A) × Contains xs x × Contains (f x) y
in_flat_map f [] y k = absurd (not_in_empty y k)
in_flat_map f (x ∷ xs) y k =
    elim (Contains-append_cases (f x) (flat_map f xs) y k) [
      | inl here ↦ (x, Contains-here x xs, here)
      | inr r ↦ (let later = in_flat_map f xs y r in (later.0, Contains-there x xs later.0 later.1, later.2))
    ]

-- the packet by which it went out
pub record IsVoteIn (member : ℕ) (p : Packet) (v : Vote) : Type 0 where
  pub from : p.from ≡ node_of member
  pub channel : p.channel ≡ channels.Vote
  pub read : whole format.vote p.bytes ≡ Ok v

pub vote_of : (member : ℕ) (p : Packet) (v : Vote) → Contains (vote_in member p) v → IsVoteIn member p v
vote_of member p v k = at (is_same_node (node_of member) p.from) refl k
  where
    reading : (r : Result Vote DecodeError) → Contains (read_vote r) v → r ≡ Ok v
    reading (Ok w) h = elim (Contains-cons_cases w [] v h) [ inl e ↦ ap Ok e | inr r ↦ absurd (not_in_empty v r) ]
    reading (Err error) h = absurd (not_in_empty v h)

    on : (c : Channel) → p.channel ≡ c → Contains (vote_on c p.bytes) v → (p.channel ≡ channels.Vote) × (whole format.vote p.bytes ≡ Ok v)
    on channels.Vote e h = (e, reading (whole format.vote p.bytes) h)
    on channels.Certificate e h = absurd (not_in_empty v h)
    on channels.Resolver e h = absurd (not_in_empty v h)

    at : (b : Bool) → is_same_node (node_of member) p.from ≡ b → Contains (if b then vote_on p.channel p.bytes else []) v → IsVoteIn member p v
    at true e h =
        let parts = on p.channel refl h in
        record { from = sym (same_node (node_of member) p.from e); channel = parts.0; read = parts.1 }
    at false e h = absurd (not_in_empty v h)

-- the call that sent a packet
pub record IsCallFor (at : Node) (cs : List Call) (p : Packet) : Type 0 where
  pub from : p.from ≡ at
  pub to : Recipients
  pub call : Contains cs (calls.Send p.channel to p.bytes)

pub called : (setup : Setup) (at : Node) (cs : List Call) (p : Packet) → Contains (packets_of setup at cs) p → IsCallFor at cs p
called setup at [] p k = absurd (not_in_empty p k)
called setup at (calls.Send channel to bytes ∷ rest) p k =
    elim (Contains-cons_cases _ (packets_of setup at rest) p k) [
      | inl e ↦ record {
        from = sym (ap (λ (x : Packet). x.from) e);
        to = to;
        call = subst (λ (x : Packet). Contains (calls.Send channel to bytes ∷ rest) (calls.Send x.channel to x.bytes)) e (Contains-here (calls.Send channel to bytes) rest);
      }
      | inr r ↦ (let x = called setup at rest p r in record { from = x.from; to = x.to; call = Contains-there (calls.Send channel to bytes) rest _ x.call })
    ]
called setup at (calls.Append n a ∷ rest) p k = let x = called setup at rest p k in record { from = x.from; to = x.to; call = Contains-there (calls.Append n a) rest _ x.call }
called setup at (calls.Sync n ∷ rest) p k = let x = called setup at rest p k in record { from = x.from; to = x.to; call = Contains-there (calls.Sync n) rest _ x.call }
called setup at (calls.Prune n ∷ rest) p k = let x = called setup at rest p k in record { from = x.from; to = x.to; call = Contains-there (calls.Prune n) rest _ x.call }
called setup at (calls.Report activity ∷ rest) p k = let x = called setup at rest p k in record { from = x.from; to = x.to; call = Contains-there (calls.Report activity) rest _ x.call }
called setup at (calls.Relay payload plan ∷ rest) p k = let x = called setup at rest p k in record { from = x.from; to = x.to; call = Contains-there (calls.Relay payload plan) rest _ x.call }
called setup at (calls.Block who why ∷ rest) p k = let x = called setup at rest p k in record { from = x.from; to = x.to; call = Contains-there (calls.Block who why) rest _ x.call }

-- the bytes went out of the node
pub record WentOut (node : Node) (noted : List Noted) (v : Vote) : Type 0 where
  pub to : Recipients
  pub bytes : List ℕ
  pub call : Contains (calls_of node noted) (calls.Send channels.Vote to bytes)
  pub read : whole format.vote bytes ≡ Ok v

went_later : (node : Node) (noted : Noted) (before : List Noted) (v : Vote) → WentOut node before v → WentOut node (noted ∷ before) v
unfolding calls_of
went_later node noted before v w = record { to = w.to; bytes = w.bytes; call = at (is_of node noted.event); read = w.read }
  where
    at : (b : Bool) → Contains (if b then calls_of node before ++ noted.entry.calls else calls_of node before) (calls.Send channels.Vote w.to w.bytes)
    at true = Contains-append_left (calls_of node before) noted.entry.calls _ w.call
    at false = w.call

went_now : (setup : Setup) (member : ℕ) (noted : Noted) (before : List Noted) (p : Packet) (v : Vote) → IsSentBy setup noted → Contains noted.entry.packets p → IsVoteIn member p v → WentOut (node_of member) (noted ∷ before) v
unfolding calls_of
went_now setup member noted before p v s k i =
    let x = called setup s.at noted.entry.calls p (subst (λ ps. Contains ps p) s.packets k) in
    let here : s.at ≡ node_of member = sym x.from ∙ i.from in
    let of : is_of (node_of member) noted.event ≡ true = s.of (node_of member) ∙ ap (λ n. is_same_node n (node_of member)) here ∙ same_self (node_of member) in
    record {
      to = x.to;
      bytes = p.bytes;
      call = subst (λ (b : Bool). Contains (if b then calls_of (node_of member) before ++ noted.entry.calls else calls_of (node_of member) before) (calls.Send channels.Vote x.to p.bytes)) (sym of)
          (Contains-append_right (calls_of (node_of member) before) noted.entry.calls _ (subst (λ (c : Channel). Contains noted.entry.calls (calls.Send c x.to p.bytes)) i.channel x.call));
      read = i.read;
    }

pub from_faulty : (setup : Setup) (ps : List Packet) (p : Packet) → Each (λ (x : Packet). is_faulty_member setup x.from.member ≡ true) ps → Contains ps p → Contains (faulty_of setup) p.from.member
from_faulty setup [] p t k = absurd (not_in_empty p k)
from_faulty setup (x ∷ ps) p t k =
    elim (Contains-cons_cases x ps p k) [
      | inl e ↦ subst (λ (y : Packet). Contains (faulty_of setup) y.from.member) e (faulty_listed setup x.from.member t.0)
      | inr r ↦ from_faulty setup ps p t.1 r
    ]

pub vote_went_out : (setting : Setting) (noted : List Noted) (member : ℕ) (v : Vote) → IsRun setting noted → ¬ (Contains (faulty_of setting.setup) member) → Contains (sent_votes noted member) v
    → WentOut (node_of member) noted v
unfolding IsRun sent_votes
vote_went_out setting [] member v ran honest k = absurd (not_in_empty v k)
vote_went_out setting (noted ∷ before) member v ran honest k =
    elim (Contains-append_cases (sent_votes before member) (flat_map (vote_in member) noted.entry.packets) v k) [
      | inl old ↦ went_later (node_of member) noted before v (vote_went_out setting before member v ran.2 honest old)
      | inr new ↦ (let p = in_flat_map (vote_in member) noted.entry.packets v new in
          let i = vote_of member p.0 v p.2 in
          elim (entry_shape setting before ran.0 noted ran.1) [
            | inl none ↦ absurd (not_in_empty p.0 (subst (λ ps. Contains ps p.0) none p.1))
            | inr shape ↦ elim shape [
              | inl s ↦ went_now setting.setup member noted before p.0 v s p.1 i
              | inr f ↦ absurd (honest (subst (λ (n : Node). Contains (faulty_of setting.setup) n.member) i.from (from_faulty setting.setup noted.entry.packets p.0 f p.1)))
            ]
          ])
    ]

-- the bytes are spelled from a vote on one of these subjects
record IsSpelled (list : List Subject) (bytes : List ℕ) : Type 0 where
  vote : Vote
  spelled : bytes ≡ format.vote.spelling vote
  on : Contains list (vote_subject vote)

module _ (to : Recipients) (bytes : List ℕ) where
  abbrev packet : Call
  packet = calls.Send channels.Vote to bytes

  behind : (c : Call) (rest : List Call) → (c ≡ packet → ⊥) → Contains (c ∷ rest) packet → Contains rest packet
  behind c rest other h = elim (Contains-cons_cases c rest packet h) [ inl here ↦ absurd (other here) | inr there ↦ there ]

  spelled_in : (made : List Call) (list : List Subject) → AreSent made list → Contains made packet → IsSpelled list bytes
  unfolding AreSent
  spelled_in [] list sent h = absurd (not_in_empty packet h)
  spelled_in (calls.Send channels.Vote recipients spelling ∷ rest) list sent h =
      subst (λ (all : List Subject). IsSpelled all bytes) (sym sent.3)
      (elim (Contains-cons_cases (calls.Send channels.Vote recipients spelling) rest packet h) [
        | inl here ↦ let same : spelling ≡ bytes = cc in record { vote = sent.0; spelled = sym same ∙ sent.2; on = Contains-here (vote_subject sent.0) sent.1 }
        | inr there ↦
            let later = spelled_in rest sent.1 sent.4 there in
            record { vote = later.vote; spelled = later.spelled; on = Contains-there (vote_subject sent.0) sent.1 (vote_subject later.vote) later.on }
      ])
  spelled_in (calls.Send channels.Certificate recipients spelling ∷ rest) list sent h = spelled_in rest list sent (behind (calls.Send channels.Certificate recipients spelling) rest (λ e. cc) h)
  spelled_in (calls.Send channels.Resolver recipients spelling ∷ rest) list sent h = spelled_in rest list sent (behind (calls.Send channels.Resolver recipients spelling) rest (λ e. cc) h)
  spelled_in (calls.Append section artifact ∷ rest) list sent h = spelled_in rest list sent (behind (calls.Append section artifact) rest (λ e. cc) h)
  spelled_in (calls.Sync section ∷ rest) list sent h = spelled_in rest list sent (behind (calls.Sync section) rest (λ e. cc) h)
  spelled_in (calls.Prune least ∷ rest) list sent h = spelled_in rest list sent (behind (calls.Prune least) rest (λ e. cc) h)
  spelled_in (calls.Report activity ∷ rest) list sent h = spelled_in rest list sent (behind (calls.Report activity) rest (λ e. cc) h)
  spelled_in (calls.Relay payload plan ∷ rest) list sent h = spelled_in rest list sent (behind (calls.Relay payload plan) rest (λ e. cc) h)
  spelled_in (calls.Block who why ∷ rest) list sent h = spelled_in rest list sent (behind (calls.Block who why) rest (λ e. cc) h)

pub subject_lived : (node : Node) (noted : List Noted) (sent : List Sent) (v : Vote) → AreSent (calls_of node noted) (subjects_of sent) → All Fits (subjects_of sent) → WentOut node noted v
    → Contains (subjects_of sent) (vote_subject v)
subject_lived node noted sent v votes fits w =
    let s = spelled_in w.to w.bytes (calls_of node noted) (subjects_of sent) votes w.call in
    let fit = All-contains Fits (subjects_of sent) (vote_subject s.vote) fits s.on in
    let read : whole format.vote (format.vote.spelling s.vote) ≡ Ok v = ap (λ (b : List ℕ). whole format.vote b) (sym s.spelled) ∙ w.read in
    subst (Contains (subjects_of sent)) (sym (whole_on s.vote v fit read)) s.on

-- ---- the lives of the honest members

-- what an own record is on fits
record_fits : (a : Artifact) (s : Subject) → RecordFits a → Contains (conduct.vote_in a) s → Fits s
record_fits (artifacts.Notarize v) s f k = elim (Contains-cons_cases _ [] s k) [ inl e ↦ subst Fits e f | inr r ↦ absurd (not_in_empty s r) ]
record_fits (artifacts.Nullify v) s f k = elim (Contains-cons_cases _ [] s k) [ inl e ↦ subst Fits e f | inr r ↦ absurd (not_in_empty s r) ]
record_fits (artifacts.Finalize v) s f k = elim (Contains-cons_cases _ [] s k) [ inl e ↦ subst Fits e f | inr r ↦ absurd (not_in_empty s r) ]
record_fits (artifacts.Notarization c) s f k = absurd (not_in_empty s k)
record_fits (artifacts.Nullification c) s f k = absurd (not_in_empty s k)
record_fits (artifacts.Finalization c) s f k = absurd (not_in_empty s k)
record_fits (artifacts.Certification r good) s f k = absurd (not_in_empty s k)

calls_fit : (cs : List Call) (s : Subject) → Each CallFits cs → Contains (voted cs) s → Fits s
unfolding voted
calls_fit [] s f k = absurd (not_in_empty s k)
calls_fit (calls.Append n a ∷ rest) s f k = elim (Contains-append_cases (conduct.vote_in a) (voted rest) s k) [ inl here ↦ record_fits a s f.0 here | inr r ↦ calls_fit rest s f.1 r ]
calls_fit (calls.Sync n ∷ rest) s f k = calls_fit rest s f.1 k
calls_fit (calls.Prune n ∷ rest) s f k = calls_fit rest s f.1 k
calls_fit (calls.Send channel to bytes ∷ rest) s f k = calls_fit rest s f.1 k
calls_fit (calls.Report activity ∷ rest) s f k = calls_fit rest s f.1 k
calls_fit (calls.Relay payload plan ∷ rest) s f k = calls_fit rest s f.1 k
calls_fit (calls.Block who why ∷ rest) s f k = calls_fit rest s f.1 k

node_fits : (node : Node) (noted : List Noted) → AreTyped noted → Each CallFits (calls_of node noted)
unfolding calls_of
node_fits node [] t = tt
node_fits node (noted ∷ before) t = at (is_of node noted.event) (node_fits node before t.1)
  where
    at : (b : Bool) → Each CallFits (calls_of node before) → Each CallFits (if b then calls_of node before ++ noted.entry.calls else calls_of node before)
    at true rest = Each-append CallFits (calls_of node before) noted.entry.calls rest (let new = t.0 in new.calls)
    at false rest = rest

-- a life that the node lives, of whose votes the numbers keep to their types
pub record IsFitLife (setting : Setting) (noted : List Noted) (node : Node) : Type 0 where
  pub lived : IsLivedBy setting noted node
  pub fits : All Fits (subjects_of (run newborn lived.calls).sent)

pub low_fits : (epoch : ℕ) (r : Round) → epoch < 2 ^ 64 → r.epoch ≡ epoch → r.view < greatest_view → (r.epoch < 2 ^ 64) × (r.view < 2 ^ 64)
low_fits epoch r fit same low = (subst (λ n. n < 2 ^ 64) (sym same) fit, omega (arith, low))

pub fit_life : (setting : Setting) (noted : List Noted) (node : Node) → setting.setup.epoch < 2 ^ 64 → AreTyped noted → IsLivedBy setting noted node → IsFitLife setting noted node
fit_life setting noted node epoch typed b =
    let list = subjects_of (run newborn b.calls).sent in
    record {
      lived = b;
      fits = All-weaker (Contains list) Fits (λ s k. elim (b.own s k) [
        | inl v ↦ calls_fit (calls_of node noted) s (node_fits node noted typed) v
        | inr l ↦ subst Fits (sym l.1) (low_fits setting.setup.epoch l.0 epoch l.2 l.3)
      ]) list (All-contains_itself list);
    }

-- what each member sent in its life; of a faulty one nothing is said
pub record IsPeopled (setting : Setting) (noted : List Noted) : Type 0 where
  pub history : ℕ → List Sent
  pub lived : (i : ℕ) → ¬ (Contains (faulty_of setting.setup) i) → (f : IsFitLife setting noted (node_of i)) × (history i ≡ (run newborn f.lived.calls).sent)

pub find : (xs : List ℕ) (i : ℕ) → Contains xs i ⊎ ¬ (Contains xs i)
find [] i = inr (not_in_empty i)
find (x ∷ xs) i = at (x == i) refl (find xs i)
  where
    at : (b : Bool) → (x == i) ≡ b → Contains xs i ⊎ ¬ (Contains xs i) → Contains (x ∷ xs) i ⊎ ¬ (Contains (x ∷ xs) i)
    at true e r = inl (subst (Contains (x ∷ xs)) (eqb-true x i e) (Contains-here x xs))
    at false e (inl k) = inl (Contains-there x xs i k)
    at false e (inr n) = inr (λ k. elim (Contains-cons_cases x xs i k) [ inl same ↦ eqb-false x i e same | inr r ↦ n r ])

people : (setting : Setting) (noted : List Noted) → ((node : Node) → ¬ (Contains (faulty_of setting.setup) node.member) → IsFitLife setting noted node) → IsPeopled setting noted
people setting noted lives = record { history = λ i. sent_by i (find (faulty_of setting.setup) i); lived = λ i honest. same i honest (find (faulty_of setting.setup) i) }
  where
    sent_by : (i : ℕ) → Contains (faulty_of setting.setup) i ⊎ ¬ (Contains (faulty_of setting.setup) i) → List Sent
    sent_by i (inl f) = []
    sent_by i (inr h) = (run newborn (lives (node_of i) h).lived.calls).sent

    same : (i : ℕ) → ¬ (Contains (faulty_of setting.setup) i) → (d : Contains (faulty_of setting.setup) i ⊎ ¬ (Contains (faulty_of setting.setup) i)) → (f : IsFitLife setting noted (node_of i)) × (sent_by i d ≡ (run newborn f.lived.calls).sent)
    same i honest (inl f) = absurd (honest f)
    same i honest (inr h) = (lives (node_of i) h, refl)

abbrev pub world_of : (setting : Setting) (noted : List Noted) → IsPeopled setting noted → World
world_of setting noted p = record { members = members_of setting.setup; term_length = setting.setup.term; faulty = faulty_of setting.setup; history = p.history }

pub people_of : (setting : Setting) (noted : List Noted) → IsMostlyHonest setting noted → AreFloors noted → IsPeopled setting noted
people_of setting noted o floors =
    people setting noted (λ node honest. fit_life setting noted node o.epoch o.typed (node_lives setting noted node o.term honest o.ran floors))

-- ---- a good certificate is backed in that world

pub rising_from : (least : ℕ) (list : List Attestation) → rises_from least list ≡ true → IsStrictlyIncreasing (map (λ (a : Attestation). a.signer) list)
rising_from least [] e k lt = absurd (omega (arith, lt))
rising_from least (a ∷ []) e k lt = absurd (omega (arith, lt))
rising_from least (a ∷ b ∷ rest) e zero lt =
    let outer = both (nat_le least a.signer) (rises_from (a.signer + 1) (b ∷ rest)) e in
    let inner = both (nat_le (a.signer + 1) b.signer) (rises_from (b.signer + 1) rest) outer.1 in
    omega (arith, leb-true (a.signer + 1) b.signer inner.0)
rising_from least (a ∷ b ∷ rest) e (suc k) lt =
    let outer = both (nat_le least a.signer) (rises_from (a.signer + 1) (b ∷ rest)) e in
    let signers = map (λ (x : Attestation). x.signer) (b ∷ rest) in
    let next : suc (k + 1) ≡ suc k + 1 = omega arith in
    subst (λ m. slice_index (a.signer ∷ signers) (suc k) < slice_index (a.signer ∷ signers) m) next (rising_from (a.signer + 1) (b ∷ rest) outer.1 k (omega (arith, lt)))

module _ (setting : Setting) (noted : List Noted) (ran : IsRun setting noted) (p : IsPeopled setting noted) where
  abbrev w : World
  w = world_of setting noted p

  -- what an honest member is read to have voted for, it sent in its life
  pub voted_lived : (i : ℕ) (subject : Subject) → ¬ (Contains (faulty_of setting.setup) i) → HasVoted noted i subject → Contains (subjects_of (p.history i)) subject
  voted_lived i subject honest h =
      let l = p.lived i honest in
      let lived = l.0.lived in
      let sent = (run newborn lived.calls).sent in
      let there = subject_lived (node_of i) noted sent h.0 lived.votes l.0.fits (vote_went_out setting noted i h.0 ran honest h.1) in
      subst (λ xs. Contains (subjects_of xs) subject) (sym l.1) (subst (Contains (subjects_of sent)) h.2 there)

  has_sent : (i : ℕ) (subject : Subject) → Counts (backers_of setting noted) i subject → Contains (faulty_of setting.setup) i ⊎ agreement.HasSent w i subject
  has_sent i subject (inl f) = inl f
  has_sent i subject (inr h) = elim (find (faulty_of setting.setup) i) [
    | inl f ↦ inl f
    | inr honest ↦ inr (sent_of (p.history i) subject (voted_lived i subject honest h))
  ]

  pub good_backed : (c : Certificate) → IsGood (backers_of setting noted) c → IsBacked w (statement_of c)
  good_backed c g =
      let n = members_of setting.setup in
      let list = certificate_signatures c in
      let verifies = keyed_verifies setting.setup.key_base n (certificate_subject c) in
      let parts = certified_parts verifies n list g.verifies in
      let below = All-weaker (λ (a : Attestation). (a.signer < n) × (verifies a ≡ true)) (λ (a : Attestation). a.signer < n) (λ a h. h.0) list (each_verifies verifies n list parts.each) in
      let signer : Attestation → ℕ = λ a. a.signer in
      let same : length (map signer list) ≡ length list = length-map list signer in
      let S = λ (i : ℕ). Contains (faulty_of setting.setup) i ⊎ agreement.HasSent w i (certificate_subject c) in
      record {
        quorum = record {
          rising = rising_from 0 list parts.rises;
          members = All-map (λ i. i < n) signer list below;
          enough = omega (arith, parts.quorum, same);
        };
        signed = All-map S signer list (All-weaker (λ (a : Attestation). Counts (backers_of setting noted) a.signer (certificate_subject c)) (λ (a : Attestation). S a.signer)
            (λ a h. has_sent a.signer (certificate_subject c) h) list g.backed);
      }

  -- a finalization that is backed is of a view above 0
  pub backed_above : (f : Finalization) → 0 < members_of setting.setup → length (faulty_of setting.setup) ≤ max_faulty (members_of setting.setup) → IsBacked w (statement_of (certificates.Finalization f)) → 0 < view_of f.proposal
  backed_above f some few b =
      let signers = (statement_of (certificates.Finalization f)).signers in
      let m = quorums_meet (members_of setting.setup) (faulty_of setting.setup) signers signers some few b.quorum b.quorum in
      let S = λ (i : ℕ). Contains (faulty_of setting.setup) i ⊎ agreement.HasSent w i (subjects.Finalize f.proposal) in
      elim (All-contains S signers m.member b.signed m.first) [
        | inl bad ↦ absurd (m.good bad)
        | inr h ↦ (let l = p.lived m.member m.good in
            let lived = l.0.lived in
            let sent = (run newborn lived.calls).sent in
            let there : Contains sent (record { subject = subjects.Finalize f.proposal; known = h.0 }) = subst (λ xs. Contains xs (record { subject = subjects.Finalize f.proposal; known = h.0 })) l.1 h.1 in
            sent_above setting.setup.term lived.calls (subjects.Finalize f.proposal) lived.legal (in_map (λ (s : Sent). s.subject) sent _ there) f.proposal refl)
      ]
    where
      in_map : {A B : Type 0} (g : A → B) (xs : List A) (x : A) → Contains xs x → Contains (map g xs) (g x)
      in_map g [] x k = absurd (not_in_empty x k)
      in_map g (y ∷ xs) x k = elim (Contains-cons_cases y xs x k) [
        | inl e ↦ subst (λ z. Contains (map g (y ∷ xs)) (g z)) e (Contains-here (g y) (map g xs))
        | inr r ↦ Contains-there (g y) (map g xs) (g x) (in_map g xs x r)
      ]

-- ---- no start is at view 0

pub reported_above : (setting : Setting) (before : List Noted) → IsMostlyHonest setting before → AreFloors before → IsReportedAbove setting.setup before
reported_above setting before o floors f e =
    let p = people_of setting before o floors in
    let fine = fine_of setting before o in
    let good = reported_good (backers_of setting before) f before e fine.said in
    backed_above setting before o.ran p f o.some o.few (good_backed setting before o.ran p (certificates.Finalization f) good)

pub floors_hold : (setting : Setting) (noted : List Noted) → IsMostlyHonest setting noted → AreFloors noted
unfolding AreFloors IsRun
floors_hold setting [] o = tt
floors_hold setting (noted ∷ before) o =
    let less = earlier setting noted before o in
    let old = floors_hold setting before less in
    (start_above setting before o.ran.0 noted (reported_above setting before less old) o.ran.1, old)

-- ---- agreement

pub lawful : (setting : Setting) (noted : List Noted) (o : IsMostlyHonest setting noted) (p : IsPeopled setting noted) → IsLawful (world_of setting noted p)
lawful setting noted o p =
    let w = world_of setting noted p in
    let backers = backers_of setting noted in
    let fine = fine_of setting noted o in
    let good : (c : Certificate) → IsGood backers c → IsBacked w (statement_of c) = good_backed setting noted o.ran p in
    let all = Each-weaker (InNoted (IsGood backers)) (InNoted (λ c. IsBacked w (statement_of c))) (noted_more (IsGood backers) (λ c. IsBacked w (statement_of c)) good) noted fine.said in
    record {
      members = o.some;
      term_length = o.term;
      faulty = o.few;
      honest = λ i lt honest. (let l = p.lived i honest in
          let lived = l.0.lived in
          subst (IsHonest w) (sym l.1) (sent_honest w o.term lived.calls lived.legal (brought_good (IsBacked w) setting noted (node_of i) lived all)));
    }

pub run_agrees : (setting : Setting) (noted : List Noted) (a b : Certificate) → IsMostlyHonest setting noted → StandsIn noted a → StandsIn noted b
    → IsVerifying setting.setup a → IsVerifying setting.setup b → ¬ (Conflict setting.setup.term (certificate_subject a) (certificate_subject b))
run_agrees setting noted a b o sa sb va vb =
    let p = people_of setting noted o (floors_hold setting noted o) in
    let backers = backers_of setting noted in
    let fine = fine_of setting noted o in
    let back = λ (c : Certificate) (s : StandsIn noted c) (v : IsVerifying setting.setup c). good_backed setting noted o.ran p c (stands_good backers noted c fine.said fine.packets s v) in
    no_conflict (world_of setting noted p) (lawful setting noted o p) (certificate_subject a) (certificate_subject b) (statement_of a).signers (statement_of b).signers (back a sa va) (back b sb vb)
