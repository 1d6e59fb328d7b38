-- The votes that an honest member sent over a run are those of its life, in the same order.
use Rattle.std.proofs.Common.{◌≡◌, ℕ, ◌^◌, ◌<◌, ◌++◌, Bool, true, false, List, [], ◌∷◌, map, All, Contains, Ok, refl, sym, ap, ◌∙◌, subst, inl, inr, arith, if◌then◌else◌, append-nil, append_assoc}
use Rattle.std.specs.List.{flat_map}
use Rattle.std.proofs.lemmas.List.Elements.{All-head, All-tail, All-weaker, All-contains_itself}
use Rattle.simplex_values.specs.declared.plan.Channel.TheVariants as channels
use Rattle.simplex_values.specs.declared.plan.Recipients.{Recipients}
use Rattle.simplex_values.specs.declared.proposal.Subject.{Subject}
use Rattle.simplex_wire.specs.declared.vote.Vote.{Vote}
use Rattle.simplex_wire.specs.Fields.{vote_subject}
use Rattle.simplex_wire.specs.Format.{whole}
use Rattle.simplex_wire.specs.Message as format
use Rattle.simplex_messages.specs.declared.call.Call.{Call}
use Rattle.simplex_messages.specs.declared.call.Call.TheVariants as calls
use Rattle.simplex_transcript.specs.declared.entry.Packet.{Packet}
use Rattle.simplex_transcript.specs.declared.event.Event.{Event}
use Rattle.simplex_transcript.specs.declared.node.Node.{Node}
use Rattle.simplex_transcript.specs.declared.setup.Setup.{Setup}
use Rattle.model_run.specs.Setting.{Setting}
use Rattle.model_run.specs.Kinds.{is_faulty_member}
use Rattle.model_run.specs.Life.{Noted, is_of}
use Rattle.model_run.specs.Members.{members_of, is_same_node}
use Rattle.model_run.specs.Entries.{node_of, packets_of, entry_of}
use Rattle.law_agreement.proofs.ListFacts.{Contains-here, Contains-there, not_in_empty, Contains-cons_cases}
use Rattle.law_agreement.specs.Member.{newborn, run, brought}
use Rattle.law_agreement.proofs.Goods.{good_sent}
use Rattle.law_agreement.proofs.Invariant.{sent_in_order, sent_alone}
use Rattle.law_member.specs.Life.{AreSent}
use Rattle.law_member.specs.Evidence.{subjects_of}
use Rattle.law_member.specs.Wire.{Fits}
use Rattle.law_member.proofs.Reading.{whole_on}
use Rattle.law_run.specs.Faulty.{faulty_of}
use Rattle.law_run.specs.Histories.{IsRun, calls_of}
use Rattle.law_run.specs.Sayings.{Each}
use Rattle.law_run.proofs.Further.{same_node}
use Rattle.law_run.proofs.Members.{faulty_listed}
use Rattle.law_run.proofs.Turns.{entry_turn}
use Rattle.law_run.specs.MostlyHonest.{IsMostlyHonest}
use Rattle.law_run.specs.Voting.{read_vote, vote_on, vote_in, sent_votes, HasVoted}
use Rattle.law_run.specs.WellSent.{Came, AreWellSent, AllWellSent}
use Rattle.law_run.proofs.Owning.{went_own, read_of}
use Rattle.law_run.proofs.Sent.{same_both}
use Rattle.law_run.proofs.Shapes.{IsSentBy}
use Rattle.law_run.proofs.Worlds.{earlier, fit_life, floors_hold, IsFitLife}
use Rattle.law_run.proofs.Nodes.{node_lives}

-- ---- what is read of calls

reads : List Call → List Vote
reads [] = []
reads (calls.Send channel to bytes ∷ rest) = vote_on channel bytes ++ reads rest
reads (calls.Append n a ∷ rest) = reads rest
reads (calls.Sync n ∷ rest) = reads rest
reads (calls.Prune n ∷ rest) = reads rest
reads (calls.Report activity ∷ rest) = reads rest
reads (calls.Relay payload plan ∷ rest) = reads rest
reads (calls.Block who why ∷ rest) = reads rest

reads_both : (xs ys : List Call) → reads (xs ++ ys) ≡ reads xs ++ reads ys
unfolding reads
reads_both [] ys = refl
reads_both (calls.Send channel to bytes ∷ rest) ys = ap (λ zs. vote_on channel bytes ++ zs) (reads_both rest ys) ∙ sym (append_assoc (vote_on channel bytes) (reads rest) (reads ys))
reads_both (calls.Append n a ∷ rest) ys = reads_both rest ys
reads_both (calls.Sync n ∷ rest) ys = reads_both rest ys
reads_both (calls.Prune n ∷ rest) ys = reads_both rest ys
reads_both (calls.Report activity ∷ rest) ys = reads_both rest ys
reads_both (calls.Relay payload plan ∷ rest) ys = reads_both rest ys
reads_both (calls.Block who why ∷ rest) ys = reads_both rest ys

-- ---- of a node's packets its calls' votes are read, and of another's none

votes_of_calls : (setup : Setup) (member : ℕ) (at : Node) (cs : List Call)
    → flat_map (vote_in member) (packets_of setup at cs) ≡ (if is_same_node (node_of member) at then reads cs else [])
unfolding reads
votes_of_calls setup member at cs = by (is_same_node (node_of member) at) refl cs
  where
    by : (b : Bool) → is_same_node (node_of member) at ≡ b → (xs : List Call) → flat_map (vote_in member) (packets_of setup at xs) ≡ (if b then reads xs else [])
    by true e [] = refl
    by true e (calls.Send channel to bytes ∷ rest) =
        subst (λ (b : Bool). (if b then vote_on channel bytes else []) ++ flat_map (vote_in member) (packets_of setup at rest) ≡ vote_on channel bytes ++ reads rest) (sym e) (ap (λ zs. vote_on channel bytes ++ zs) (by true e rest))
    by true e (calls.Append n a ∷ rest) = by true e rest
    by true e (calls.Sync n ∷ rest) = by true e rest
    by true e (calls.Prune n ∷ rest) = by true e rest
    by true e (calls.Report activity ∷ rest) = by true e rest
    by true e (calls.Relay payload plan ∷ rest) = by true e rest
    by true e (calls.Block who why ∷ rest) = by true e rest
    by false e [] = refl
    by false e (calls.Send channel to bytes ∷ rest) =
        subst (λ (b : Bool). (if b then vote_on channel bytes else []) ++ flat_map (vote_in member) (packets_of setup at rest) ≡ []) (sym e) (by false e rest)
    by false e (calls.Append n a ∷ rest) = by false e rest
    by false e (calls.Sync n ∷ rest) = by false e rest
    by false e (calls.Prune n ∷ rest) = by false e rest
    by false e (calls.Report activity ∷ rest) = by false e rest
    by false e (calls.Relay payload plan ∷ rest) = by false e rest
    by false e (calls.Block who why ∷ rest) = by false e rest

none_of_faulty : (setup : Setup) (member : ℕ) (ps : List Packet) → ¬ (Contains (faulty_of setup) member) → Each (λ (p : Packet). is_faulty_member setup p.from.member ≡ true) ps
    → flat_map (vote_in member) ps ≡ []
none_of_faulty setup member [] honest t = refl
none_of_faulty setup member (p ∷ ps) honest t = at (is_same_node (node_of member) p.from) refl (none_of_faulty setup member ps honest t.1)
  where
    at : (b : Bool) → is_same_node (node_of member) p.from ≡ b → flat_map (vote_in member) ps ≡ [] → (if b then vote_on p.channel p.bytes else []) ++ flat_map (vote_in member) ps ≡ []
    at true e rest = absurd (honest (subst (λ (n : Node). Contains (faulty_of setup) n.member) (sym (same_node (node_of member) p.from e)) (faulty_listed setup p.from.member t.0)))
    at false e rest = rest

-- ---- of an entry, and of a run

-- the votes of the entry are read of its calls, where the entry is of the member's node
abbrev IsReadOf : ℕ → Noted → Type 0
IsReadOf member noted = flat_map (vote_in member) noted.entry.packets ≡ (if is_of (node_of member) noted.event then reads noted.entry.calls else [])

sent_reads : (setup : Setup) (member : ℕ) (noted : Noted) → IsSentBy setup noted → IsReadOf member noted
sent_reads setup member noted s =
    ap (flat_map (vote_in member)) s.packets ∙ votes_of_calls setup member s.at noted.entry.calls
    ∙ ap (λ (b : Bool). if b then reads noted.entry.calls else []) (same_both (node_of member) s.at ∙ sym (s.of (node_of member)))

nothing_reads : (member : ℕ) (noted : Noted) → noted.entry.packets ≡ [] → noted.entry.calls ≡ [] → IsReadOf member noted
unfolding reads
nothing_reads member noted p c =
    ap (flat_map (vote_in member)) p ∙ sym (ap (λ cs. if is_of (node_of member) noted.event then reads cs else []) c ∙ by (is_of (node_of member) noted.event))
  where
    by : (b : Bool) → ◌≡◌ {A = List Vote} (if b then [] else []) []
    by true = refl
    by false = refl

entry_reads : (setting : Setting) (before : List Noted) (event : Event) (noted : Noted) (member : ℕ) → ¬ (Contains (faulty_of setting.setup) member) → entry_of setting before event ≡ Ok noted → IsReadOf member noted
entry_reads setting before event noted member honest e = elim (entry_turn setting before event noted e) [
  | inl b ↦ sent_reads setting.setup member noted (subst (IsSentBy setting.setup) b.is (record { at = b.at; node = b.node; of = λ node. refl; packets = refl }))
  | inr other ↦ elim other [
    | inl g ↦ sent_reads setting.setup member noted (subst (IsSentBy setting.setup) g.is (record { at = g.at; node = g.node; of = g.of; packets = refl }))
    | inr rest ↦ elim rest [
      | inl c ↦ nothing_reads member noted (subst (λ (n : Noted). n.entry.packets ≡ []) c.is refl) (subst (λ (n : Noted). n.entry.calls ≡ []) c.is refl)
      | inr last ↦ elim last [
        | inl t ↦ nothing_reads member noted (subst (λ (n : Noted). n.entry.packets ≡ []) t.is refl) (subst (λ (n : Noted). n.entry.calls ≡ []) t.is refl)
        | inr a ↦
            none_of_faulty setting.setup member noted.entry.packets honest a.packets ∙ sym (ap (λ (b : Bool). if b then reads noted.entry.calls else []) (a.honest (node_of member) honest))
      ]
    ]
  ]
]

run_reads : (setting : Setting) (noted : List Noted) (member : ℕ) → ¬ (Contains (faulty_of setting.setup) member) → IsRun setting noted → sent_votes noted member ≡ reads (calls_of (node_of member) noted)
unfolding IsRun sent_votes calls_of reads
run_reads setting [] member honest ran = refl
run_reads setting (noted ∷ before) member honest ran =
    ap (λ xs. xs ++ flat_map (vote_in member) noted.entry.packets) (run_reads setting before member honest ran.2)
    ∙ ap (λ xs. reads (calls_of (node_of member) before) ++ xs) (entry_reads setting before ran.0 noted member honest ran.1)
    ∙ by (is_of (node_of member) noted.event)
  where
    old : List Call
    old = calls_of (node_of member) before

    by : (b : Bool) → reads old ++ (if b then reads noted.entry.calls else []) ≡ reads (if b then old ++ noted.entry.calls else old)
    by true = sym (reads_both old noted.entry.calls)
    by false = append-nil (reads old)

-- ---- what is read are votes on the life's subjects

-- what is sent on the vote channel is read
abbrev AreRead : List Call → Type 0
AreRead cs = (to : Recipients) (bytes : List ℕ) → Contains cs (calls.Send channels.Vote to bytes) → (w : Vote) × (whole format.vote bytes ≡ Ok w)

behind : (c : Call) (rest : List Call) → AreRead (c ∷ rest) → AreRead rest
behind c rest h to bytes k = h to bytes (Contains-there c rest _ k)

read_on : (cs : List Call) (list : List Subject) → AreSent cs list → All Fits list → AreRead cs → list ≡ map vote_subject (reads cs)
unfolding AreSent reads
read_on [] list sent fits h = sent
read_on (calls.Send channels.Vote to bytes ∷ rest) list sent fits h =
    let v = sent.0 in
    let others = sent.1 in
    let split : list ≡ vote_subject v ∷ others = sent.3 in
    let fit = subst (All Fits) split fits in
    let w = h to bytes (Contains-here (calls.Send channels.Vote to bytes) rest) in
    let read : whole format.vote (format.vote.spelling v) ≡ Ok w.0 = ap (λ (b : List ℕ). whole format.vote b) (sym sent.2) ∙ w.1 in
    let on : vote_subject w.0 ≡ vote_subject v = whole_on v w.0 (All-head Fits (vote_subject v) others fit) read in
    let later = read_on rest others sent.4 (All-tail Fits (vote_subject v) others fit) (behind (calls.Send channels.Vote to bytes) rest h) in
    split ∙ ap (λ s. s ∷ others) (sym on) ∙ ap (λ ss. vote_subject w.0 ∷ ss) later ∙ sym (ap (λ r. map vote_subject (read_vote r ++ reads rest)) w.1)
read_on (calls.Send channels.Certificate to bytes ∷ rest) list sent fits h = read_on rest list sent fits (behind (calls.Send channels.Certificate to bytes) rest h)
read_on (calls.Send channels.Resolver to bytes ∷ rest) list sent fits h = read_on rest list sent fits (behind (calls.Send channels.Resolver to bytes) rest h)
read_on (calls.Append n a ∷ rest) list sent fits h = read_on rest list sent fits (behind (calls.Append n a) rest h)
read_on (calls.Sync n ∷ rest) list sent fits h = read_on rest list sent fits (behind (calls.Sync n) rest h)
read_on (calls.Prune n ∷ rest) list sent fits h = read_on rest list sent fits (behind (calls.Prune n) rest h)
read_on (calls.Report activity ∷ rest) list sent fits h = read_on rest list sent fits (behind (calls.Report activity) rest h)
read_on (calls.Relay payload plan ∷ rest) list sent fits h = read_on rest list sent fits (behind (calls.Relay payload plan) rest h)
read_on (calls.Block who why ∷ rest) list sent fits h = read_on rest list sent fits (behind (calls.Block who why) rest h)

-- ---- the law

-- the votes of a life that the member's node lives are on the subjects of what it sent
pub life_sent : (setting : Setting) (noted : List Noted) (member : ℕ) → IsMostlyHonest setting noted → member < members_of setting.setup → ¬ (Contains (faulty_of setting.setup) member)
    → (f : IsFitLife setting noted (node_of member)) → subjects_of (run newborn f.lived.calls).sent ≡ map vote_subject (sent_votes noted member)
life_sent setting noted member o below honest f =
    let node = node_of member in
    let lived = f.lived in
    let few = wider (members_of setting.setup) o.not_many in
    let read : AreRead (calls_of node noted) = λ to bytes k. (let s = went_own setting node noted to bytes o.epoch lived.stored o.typed k in (s.vote, read_of setting member below few honest bytes s)) in
    read_on (calls_of node noted) (subjects_of (run newborn lived.calls).sent) lived.votes f.fits read ∙ ap (map vote_subject) (sym (run_reads setting noted member honest o.ran))
  where
    wider : (n : ℕ) → n < 2 ^ 16 → n < 2 ^ 32
    wider n h = omega (arith, h)

voted_of : (votes : List Vote) (s : Subject) → Contains (map vote_subject votes) s → (v : Vote) × Contains votes v × (vote_subject v ≡ s)
voted_of [] s k = absurd (not_in_empty s k)
voted_of (v ∷ votes) s k = elim (Contains-cons_cases (vote_subject v) (map vote_subject votes) s k) [
  | inl e ↦ (v, Contains-here v votes, e)
  | inr r ↦ (let w = voted_of votes s r in (w.0, Contains-there v votes w.0 w.1, w.2))
]

-- what it sent in its life went out
pub lived_voted : (setting : Setting) (noted : List Noted) (member : ℕ) (s : Subject) → IsMostlyHonest setting noted → member < members_of setting.setup → ¬ (Contains (faulty_of setting.setup) member)
    → (f : IsFitLife setting noted (node_of member)) → Contains (subjects_of (run newborn f.lived.calls).sent) s → HasVoted noted member s
lived_voted setting noted member s o below honest f k =
    voted_of (sent_votes noted member) s (subst (λ (list : List Subject). Contains list s) (life_sent setting noted member o below honest f) k)

run_well_sent : (setting : Setting) (noted : List Noted) (member : ℕ) → IsMostlyHonest setting noted → member < members_of setting.setup → ¬ (Contains (faulty_of setting.setup) member) → AreWellSent setting.setup noted member
run_well_sent setting noted member o below honest =
    let node = node_of member in
    let f = fit_life setting noted node o.epoch o.typed (node_lives setting noted node o.term honest o.ran (floors_hold setting noted o)) in
    let lived = f.lived in
    record {
      votes = (run newborn lived.calls).sent;
      same = life_sent setting noted member o below honest f;
      came = good_sent (Came noted node) lived.calls
          (All-weaker (Contains (brought lived.calls)) (Came noted node) lived.brought (brought lived.calls) (All-contains_itself (brought lived.calls)));
      alone = sent_alone setting.setup.term o.term lived.calls lived.legal;
      order = sent_in_order setting.setup.term o.term lived.calls lived.legal;
    }

-- and behind each entry, since those before it are a run
pub all_well_sent : (setting : Setting) (noted : List Noted) → IsMostlyHonest setting noted → AllWellSent setting.setup noted
unfolding AllWellSent
all_well_sent setting [] o = tt
all_well_sent setting (noted ∷ before) o = ((λ member. run_well_sent setting (noted ∷ before) member o), all_well_sent setting before (earlier setting noted before o))
