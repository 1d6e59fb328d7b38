-- In a run of members of whom some are faulty, each certificate that an engine says, and each that verifies in a
-- packet, is backed.
use Rattle.std.proofs.Common.{◌≡◌, ℕ, ◌++◌, true, false, List, [], ◌∷◌, Some, None, refl, sym, ◌∙◌, subst, inl, inr, append_assoc, Ok}
use Rattle.simplex_values.specs.declared.plan.Recipients.TheVariants as recipients
use Rattle.simplex_wire.specs.Fits.{IsBytes}
use Rattle.simplex_wire.specs.Message as format
use Rattle.simplex_journal.specs.Journal.{replayed}
use Rattle.simplex_transcript.specs.declared.event.Event.{Event}
use Rattle.simplex_transcript.specs.declared.event.Event.TheVariants as events
use Rattle.simplex_transcript.specs.declared.entry.Packet.{Packet}
use Rattle.simplex_transcript.specs.declared.node.Node.{Node}
use Rattle.model_steps.specs.VoterLife.{rest}
use Rattle.model_run.specs.Life.{Noted, is_of, sections_in, after, life_in}
use Rattle.model_run.specs.Entries.{noted_blank, entry_of}
use Rattle.law_agreement.proofs.ListFacts.{not_in_empty}
use Rattle.law_run.specs.Sayings.{Each, InCall, InMessage, InRecord}
use Rattle.law_run.specs.Saying.{InStart}
use Rattle.law_run.proofs.Further.{life_still}
use Rattle.law_run.proofs.NodeKeeping.{crash_keeps}
use Rattle.law_run.proofs.Backers.{Backers}
use Rattle.law_run.specs.Fitting.{AreTyped}
use Rattle.law_run.proofs.Good.{IsGood, IsSized}
use Rattle.law_run.proofs.Packets.{sent_spoken, is_spoken, tested_fine}
use Rattle.law_run.proofs.Turns.{IsGoing, entry_turn, IsEngineless}
use Rattle.model_run.specs.Kinds.{runs_engine}
use Rattle.law_run.specs.Histories.{IsRun}
use Rattle.law_run.proofs.Resolving.{InGiven}
use Rattle.law_run.proofs.Testing.{IsTested, entry_tested}
use Rattle.law_run.proofs.BackingEngines.{IsFineEngine, IsFineRun, IsLifeFine, IsTold, advance, entry_packets, first_half, life_records, lives_on, lives_then}
use Rattle.law_run.proofs.Handing.{given_on}
use Rattle.law_run.proofs.Beginning.{begin_fine}
use Rattle.law_run.proofs.Stepping.{taken_fine}

-- ---- an engine goes on

no_start : (backers : Backers) (event : Event) → InStart (λ c. ⊥) event → InStart (IsGood backers) event
no_start backers (events.Start node (Some floor) stop) h = absurd h
no_start backers (events.Start node None stop) h = tt
no_start backers (events.Tick ms) h = tt
no_start backers (events.Deliver at ref) h = tt
no_start backers (events.Step at source stop) h = tt
no_start backers (events.Answer at ref answer) h = tt
no_start backers (events.Crash at) h = tt
no_start backers (events.Inject who channel to bytes) h = tt

-- an engine goes on
going_fine : (backers : Backers) (before : List Noted) (event : Event) (noted : Noted) → IsSized backers.setting.setup → (g : IsGoing backers.setting before event noted)
    → IsTold backers noted → IsFineRun backers before → IsFineRun backers (noted ∷ before)
going_fine backers before event noted sized g told fine =
    let at = g.at in
    let half = first_half backers.setting.setup at g.node in
    let old : IsFineEngine backers at.member g.made g.past = subst (IsLifeFine backers at.member) g.running (fine.lives at g.runs) in
    let s = taken_fine backers before at g.made g.past g.did sized g.taken fine old in
    subst (λ n. IsTold backers n → IsFineRun backers (n ∷ before)) g.is
    (λ t.
    let spoken = entry_packets backers before event at g.took g.did half.1 t in
    let hs = s.fine (λ v k. sent_spoken backers at recipients.All (format.vote.spelling v) g.did.out.calls spoken k) t.own in
    advance backers before event at g.took g.did g.of half.1 sized (no_start backers event g.start) s.said t
    (subst (λ l. IsLifeFine backers at.member (after backers.setting event (Some g.did) l)) (sym g.running)
    (subst (IsLifeFine backers at.member) (sym g.goes)
    (lives_on backers at.member g.made (g.did ∷ g.past) (record {
      batcher = old.batcher;
      resolver = old.resolver;
      signs = old.signs;
      history = (record { handed = hs; taken = s.taken }, old.history);
      given = given_on (InGiven g.made.resolver (IsGood backers)) g.did g.past s.given old.given;
      place = s.place;
    })))) fine) told

-- ---- a crash, and what moves no engine

crash_fine : (backers : Backers) (before : List Noted) (at : Node) → runs_engine backers.setting.setup at.member ≡ true → IsFineRun backers before → IsFineRun backers (noted_blank before (events.Crash at) (Some at) ∷ before)
unfolding after
crash_fine backers before at runs_one fine =
    record {
      said = (record { floor = tt; added = tt; handed = tt; calls = tt }, fine.said);
      packets = (tt, fine.packets);
      lives = lives_then backers (noted_blank before (events.Crash at) (Some at)) before at (λ node. refl)
          (crash_keeps (InRecord (IsGood backers)) 0 (sections_in (life_in backers.setting before at)) (life_records backers at.member (life_in backers.setting before at) (fine.lives at runs_one))) fine.lives;
    }

-- an event that is of no engine
unmoved : (backers : Backers) (noted : Noted) (before : List Noted) → ((node : Node) → runs_engine backers.setting.setup node.member ≡ true → is_of node noted.event ≡ false)
    → ((node : Node) → runs_engine backers.setting.setup node.member ≡ true → IsLifeFine backers node.member (life_in backers.setting before node))
    → (node : Node) → runs_engine backers.setting.setup node.member ≡ true → IsLifeFine backers node.member (life_in backers.setting (noted ∷ before) node)
unmoved backers noted before apart old node runs_one = subst (IsLifeFine backers node.member) (sym (life_still backers.setting noted before node (apart node runs_one))) (old node runs_one)

tick_fine : (backers : Backers) (before : List Noted) (ms : ℕ) → IsFineRun backers before → IsFineRun backers (noted_blank before (events.Tick ms) None ∷ before)
tick_fine backers before ms fine =
    record {
      said = (record { floor = tt; added = tt; handed = tt; calls = tt }, fine.said);
      packets = (tt, fine.packets);
      lives = unmoved backers (noted_blank before (events.Tick ms) None) before (λ node runs_one. refl) fine.lives;
    }

-- ---- faulty members without an engine

engineless_fine : (backers : Backers) (later before : List Noted) (noted : Noted) → backers.noted ≡ later ++ before → IsEngineless backers.setting.setup noted → Each (IsTested backers.setting.setup before) noted.entry.packets
    → Each (λ (p : Packet). IsBytes p.bytes) noted.entry.packets → IsFineRun backers before → IsFineRun backers (noted ∷ before)
engineless_fine backers later before noted whole_is f tested bytes fine =
    record {
      said = (
        record {
          floor = no_start backers noted.event f.start;
          added = subst (Each (IsGood backers)) (sym f.added) tt;
          handed = subst (Each (InMessage (IsGood backers) noted.entry.calls)) (sym f.handed) tt;
          calls = subst (Each (InCall (IsGood backers))) (sym f.calls) tt;
        },
        fine.said,
      );
      packets = (tested_fine backers later before noted.entry.packets whole_is bytes tested, fine.packets);
      lives = unmoved backers noted before f.engines fine.lives;
    }

turn_fine : (backers : Backers) (later before : List Noted) (event : Event) (noted : Noted) → IsSized backers.setting.setup → backers.noted ≡ later ++ before → entry_of backers.setting before event ≡ Ok noted
    → IsTold backers noted → IsFineRun backers before → IsFineRun backers (noted ∷ before)
turn_fine backers later before event noted sized whole_is e told fine = elim (entry_turn backers.setting before event noted e) [
  | inl b ↦ begin_fine backers before event noted sized b told fine
  | inr other ↦ elim other [
    | inl g ↦ going_fine backers before event noted sized g told fine
    | inr rest ↦ elim rest [
      | inl c ↦ subst (λ n. IsFineRun backers (n ∷ before)) c.is (crash_fine backers before c.at c.runs fine)
      | inr last ↦ elim last [
        | inl k ↦ subst (λ n. IsFineRun backers (n ∷ before)) k.is (tick_fine backers before k.ms fine)
        | inr a ↦ engineless_fine backers later before noted whole_is a (entry_tested backers.setting before event noted e a.packets) told.bytes fine
      ]
    ]
  ]
]

-- ---- every run, by what was sent in all of it

pub run_fine : (backers : Backers) (later noted : List Noted) → IsSized backers.setting.setup → backers.noted ≡ later ++ noted → IsRun backers.setting noted → AreTyped noted → IsFineRun backers noted
unfolding IsRun life_in replayed
run_fine backers later [] sized whole_is ran typed = record { said = tt; packets = tt; lives = λ node runs_one a c. absurd (not_in_empty a c) }
run_fine backers later (noted ∷ before) sized whole_is ran typed =
    let shifted = whole_is ∙ sym (append_assoc later (noted ∷ []) before) in
    let old = run_fine backers (later ++ noted ∷ []) before sized shifted ran.2 typed.1 in
    let new = typed.0 in
    let told : IsTold backers noted = record { own = new.handed; bytes = new.bytes; spoken = λ p k n. is_spoken backers later before noted p whole_is k n } in
    turn_fine backers (later ++ noted ∷ []) before ran.0 noted sized shifted ran.1 told old
