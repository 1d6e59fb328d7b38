-- What a fine engine is, and a fine run: what engines know, store, queue and say is backed, and what is read from packets.
use Rattle.std.proofs.Common.{◌≡◌, ℕ, ◌<◌, nat_lt, Bool, true, false, List, [], ◌∷◌, Contains, Option, Some, refl, sym, ◌∙◌, subst, inl, inr, arith, eqb-true, ltb-true, if◌then◌else◌, ◌⊎◌}
use Rattle.std.proofs.lemmas.Grind.{common_steps}
use Rattle.std.proofs.lemmas.Bool.Decides.{nat_tests}
use Rattle.simplex_values.specs.declared.plan.Channel.{Channel}
use Rattle.simplex_values.specs.declared.plan.Channel.TheVariants as channels
use Rattle.simplex_wire.specs.declared.certificate.Finalization.{Finalization}
use Rattle.simplex_wire.specs.Fits.{IsBytes}
use Rattle.simplex_types.specs.Keyed.{keyed_verifies}
use Rattle.simplex_journal.specs.Journal.{Section}
use Rattle.simplex_transcript.specs.declared.event.Event.{Event}
use Rattle.simplex_transcript.specs.declared.entry.Packet.{Packet}
use Rattle.simplex_transcript.specs.declared.entry.Took.{Took}
use Rattle.simplex_transcript.specs.declared.node.Node.{Node}
use Rattle.simplex_transcript.specs.declared.setup.Setup.{Setup}
use Rattle.model_steps.specs.VoterLife.{Place}
use Rattle.model_steps.specs.Engine as engine
use Rattle.model_steps.specs.Engine.{EngineMade, Did, runs, sections_of}
use Rattle.model_run.specs.Life.{Noted, Life, Stopped, Running, is_of, going_on, sections_in, after, life_in}
use Rattle.model_run.specs.Members.{is_node, members_of, is_same_node, batcher_of, engine_of, kind_of, resolver_of}
use Rattle.model_run.specs.Entries.{node_of, packets_of, noted_with}
use Rattle.law_member.proofs.Schemes.{keyed_fits}
use Rattle.law_agreement.proofs.ListFacts.{not_in_empty, Contains-cons_cases}
use Rattle.law_run.specs.Sayings.{Each, InRecord, InKnown, AllSaid}
use Rattle.law_run.specs.Saying.{InStart, InNoted}
use Rattle.law_run.proofs.Events.{place_in, engine_at}
use Rattle.law_run.proofs.Further.{same_self, same_node, life_then, life_still}
use Rattle.law_run.proofs.NodeKeeping.{InJournal}
use Rattle.law_run.proofs.Telling.{said}
use Rattle.law_run.proofs.Backers.{Backers}
use Rattle.law_run.specs.Fitting.{HandedFits}
use Rattle.law_run.proofs.Good.{IsGood, IsSized, both}
use Rattle.law_run.proofs.Hearing.{IsFineDid, IsMade}
use Rattle.law_run.proofs.Packets.{IsFinePacket, SpokenOn, IsSpoken, IsFrom, from_at, packets_fine, each_contained}
use Rattle.model_resolver.specs.Resolver as resolver
use Rattle.model_run.specs.Kinds.{is_twin, halves_of, runs_engine}
use Rattle.model_run.specs.Wrapped.{wrapped_recovers}
use Rattle.law_run.specs.Faulty.{faulty_of}
use Rattle.law_run.proofs.Members.{faulty_listed, twin_faulty}
use Rattle.law_run.proofs.Resolving.{InGiven}
use Rattle.law_run.proofs.Signing.{SignsOwn}

-- ---- what a run of the nodes with an engine is

-- each certificate that is known there is good, and so is each of the journal
pub record IsPlaceFine (backers : Backers) (place : Place) : Type 0 where
  pub known : InKnown (IsGood backers) place.standing.desk.known
  pub records : InJournal (InRecord (IsGood backers)) place.sections

-- the resolver is one of the members'
pub record IsResolverOf (backers : Backers) (made : resolver.Made) : Type 0 where
  pub verifies : made.verifies ≡ keyed_verifies backers.setting.setup.key_base (members_of backers.setting.setup)
  pub members : made.members ≡ members_of backers.setting.setup

pub record IsFineEngine (backers : Backers) (member : ℕ) (made : EngineMade) (past : List Did) : Type 0 where
  pub batcher : IsMade backers made.batcher
  pub resolver : IsResolverOf backers made.resolver
  pub signs : (start : ℕ) → SignsOwn member (made.voter start).rules
  pub history : Each (IsFineDid backers) past
  pub given : Each (InGiven made.resolver (IsGood backers)) (engine.resolver_past past)
  pub place : IsPlaceFine backers (place_in made past)

abbrev pub IsLifeFine : Backers → ℕ → Life → Type 0
IsLifeFine backers member (Stopped sections) = InJournal (InRecord (IsGood backers)) sections
IsLifeFine backers member (Running made past) = IsFineEngine backers member made past

pub life_records : (backers : Backers) (member : ℕ) (l : Life) → IsLifeFine backers member l → InJournal (InRecord (IsGood backers)) (sections_in l)
unfolding sections_of
life_records backers member (Stopped sections) h = h
life_records backers member (Running made past) h = h.place.records

pub record IsFineRun (backers : Backers) (noted : List Noted) : Type 0 where
  pub said : Each (InNoted (IsGood backers)) noted
  pub packets : Each (λ (n : Noted). Each (IsFinePacket backers) n.entry.packets) noted
  pub lives : (node : Node) → runs_engine backers.setting.setup node.member ≡ true → IsLifeFine backers node.member (life_in backers.setting noted node)

-- ---- what is given about the next entry

-- values keep to their types, and what is read from its packets counts
pub record IsTold (backers : Backers) (noted : Noted) : Type 0 where
  pub own : Each HandedFits noted.entry.handed
  pub bytes : Each (λ (p : Packet). IsBytes p.bytes) noted.entry.packets
  pub spoken : (p : Packet) → Contains noted.entry.packets p → is_same_node (node_of p.from.member) p.from ≡ true → IsSpoken backers p

-- the node is its member's first, or the member is faulty
abbrev SpeaksFor : Setup → Node → Type 0
SpeaksFor setup at = (is_same_node (node_of at.member) at ≡ true) ⊎ Contains (faulty_of setup) at.member

-- so it is with each node of the setup
pub first_half : (setup : Setup) (at : Node) → is_node setup at ≡ true → (at.member < members_of setup) × SpeaksFor setup at
first_half setup at e =
    let parts = both (nat_lt at.member (members_of setup)) (nat_lt at.half (halves_of setup at.member)) e in
    (ltb-true at.member (members_of setup) parts.0, by (is_twin setup at.member) refl parts.1)
  where
    zero_half : nat_lt at.half 1 ≡ true → is_same_node (node_of at.member) at ≡ true
    zero_half h = grind (arith, nat_tests, common_steps, eqb-true, h)

    by : (b : Bool) → is_twin setup at.member ≡ b → nat_lt at.half (if b then 2 else 1) ≡ true → SpeaksFor setup at
    by true h k = inr (faulty_listed setup at.member (twin_faulty setup at.member h))
    by false h k = inl (zero_half k)

-- ---- one more event of a node with an engine

pub lives_on : (backers : Backers) (member : ℕ) (made : EngineMade) (past : List Did) → IsFineEngine backers member made past → IsLifeFine backers member (going_on made past)
unfolding sections_of
lives_on backers member made past h = at (runs past)
  where
    at : (b : Bool) → IsLifeFine backers member (if b then Running made past else Stopped (sections_of made past))
    at true = h
    at false = h.place.records

-- the lives of all, where the one of the event goes on
pub lives_then : (backers : Backers) (noted : Noted) (before : List Noted) (at : Node) → ((node : Node) → is_of node noted.event ≡ is_same_node at node)
    → IsLifeFine backers at.member (after backers.setting noted.event noted.did (life_in backers.setting before at))
    → ((node : Node) → runs_engine backers.setting.setup node.member ≡ true → IsLifeFine backers node.member (life_in backers.setting before node))
    → (node : Node) → runs_engine backers.setting.setup node.member ≡ true → IsLifeFine backers node.member (life_in backers.setting (noted ∷ before) node)
lives_then backers noted before at of life old node good = cases (is_same_node at node) refl
  where
    cases : (t : Bool) → is_same_node at node ≡ t → IsLifeFine backers node.member (life_in backers.setting (noted ∷ before) node)
    cases true e =
        subst (λ (n : Node). IsLifeFine backers n.member (life_in backers.setting (noted ∷ before) n)) (same_node at node e)
        (subst (IsLifeFine backers at.member) (sym (life_then backers.setting noted before at (of at ∙ same_self at))) life)
    cases false e = subst (IsLifeFine backers node.member) (sym (life_still backers.setting noted before node (of node ∙ e))) (old node good)

-- each vote of a faulty member counts
faulty_spoken : (backers : Backers) (sender : ℕ) (channel : Channel) (bytes : List ℕ) → Contains (faulty_of backers.setting.setup) sender → SpokenOn backers sender channel bytes
faulty_spoken backers sender channels.Vote bytes f = λ v e. inl f
faulty_spoken backers sender channels.Certificate bytes f = tt
faulty_spoken backers sender channels.Resolver bytes f = tt

-- the packets of the entry are fine
pub entry_packets : (backers : Backers) (before : List Noted) (event : Event) (at : Node) (took : Option Took) (did : Did) → SpeaksFor backers.setting.setup at
    → IsTold backers (noted_with backers.setting.setup before event at took did) → Each (IsSpoken backers) (packets_of backers.setting.setup at did.out.calls)
entry_packets backers before event at took did speaks told =
    let ps = packets_of backers.setting.setup at did.out.calls in
    each_contained (IsSpoken backers) ps (λ p k.
    let from : p.from ≡ at = one_from ps p (from_at backers.setting.setup at did.out.calls) k in
    elim speaks [
      | inl half ↦ told.spoken p k (subst (λ (n : Node). is_same_node (node_of n.member) n ≡ true) (sym from) half)
      | inr f ↦ faulty_spoken backers p.from.member p.channel p.bytes (subst (λ (n : Node). Contains (faulty_of backers.setting.setup) n.member) (sym from) f)
    ])
  where
    one_from : (ps : List Packet) (p : Packet) → Each (IsFrom at) ps → Contains ps p → IsFrom at p
    one_from ps p f k = contained (IsFrom at) ps p f k
      where
        contained : {A : Type 0} (P : A → Type 0) (xs : List A) (x : A) → Each P xs → Contains xs x → P x
        contained P [] x h c = absurd (not_in_empty x c)
        contained P (y ∷ xs) x h c = elim (Contains-cons_cases y xs x c) [ inl e ↦ subst P e h.0 | inr r ↦ contained P xs x h.1 r ]

pub advance : (backers : Backers) (before : List Noted) (event : Event) (at : Node) (took : Option Took) (did : Did) → ((node : Node) → is_of node event ≡ is_same_node at node) → SpeaksFor backers.setting.setup at
    → IsSized backers.setting.setup → InStart (IsGood backers) event → AllSaid (IsGood backers) did.out → IsTold backers (noted_with backers.setting.setup before event at took did)
    → IsLifeFine backers at.member (after backers.setting event (Some did) (life_in backers.setting before at))
    → IsFineRun backers before → IsFineRun backers (noted_with backers.setting.setup before event at took did ∷ before)
advance backers before event at took did of speaks sized floor said told life fine =
    let noted = noted_with backers.setting.setup before event at took did in
    record {
      said = (record { floor = floor; added = said.added; handed = said.handed; calls = said.calls }, fine.said);
      packets = (packets_fine backers at did.out.calls sized said.calls told.bytes (entry_packets backers before event at took did speaks told), fine.packets);
      lives = lives_then backers noted before at of life fine.lives;
    }

-- ---- a new engine

pub engine_batcher : (backers : Backers) (at : Node) (floor : Option Finalization) (js : List Section) → IsMade backers (engine_at backers.setting at floor js).batcher
unfolding engine_of batcher_of
engine_batcher backers at floor js =
    record {
      scheme = keyed_fits (engine_at backers.setting at floor js).batcher backers.setting.setup.key_base (wrapped_recovers (kind_of backers.setting.setup at.member)) refl;
      verifies = refl;
      members = refl;
    }

pub engine_resolver : (backers : Backers) (at : Node) (floor : Option Finalization) (js : List Section) → IsResolverOf backers (engine_at backers.setting at floor js).resolver
unfolding engine_of resolver_of
engine_resolver backers at floor js = record { verifies = refl; members = refl }
