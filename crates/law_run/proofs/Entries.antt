-- Each entry of a run keeps the limit.
use Rattle.std.proofs.Common.{◌≡◌, ℕ, ◌<◌, ◌≤◌, ◌++◌, ◌⊎◌, Bool, true, List, [], ◌∷◌, Contains, Ok, refl, sym, ◌∙◌, subst, inl, inr, if◌then◌else◌}
use Rattle.std.proofs.lemmas.List.Elements.{Contains-append_right}
use Rattle.simplex_messages.specs.declared.call.Call.{Call}
use Rattle.simplex_transcript.specs.declared.entry.Packet.{Packet}
use Rattle.simplex_transcript.specs.declared.event.Event.{Event}
use Rattle.simplex_transcript.specs.declared.node.Node.{Node}
use Rattle.simplex_transcript.specs.declared.setup.Setup.{Setup}
use Rattle.model_run.specs.Setting.{Setting}
use Rattle.model_run.specs.Kinds.{is_faulty_member}
use Rattle.model_run.specs.Life.{Noted, is_of}
use Rattle.model_run.specs.Members.{members_of, is_same_node}
use Rattle.model_run.specs.Entries.{packets_of, entry_of}
use Rattle.law_agreement.proofs.ListFacts.{not_in_empty, Contains-cons_cases}
use Rattle.law_run.specs.Faulty.{faulty_of}
use Rattle.law_run.specs.Histories.{IsRun, calls_of}
use Rattle.law_run.specs.Sayings.{Each, InCall}
use Rattle.law_run.proofs.Further.{same_self}
use Rattle.law_run.proofs.Members.{faulty_listed}
use Rattle.law_run.proofs.Turns.{entry_turn}
use Rattle.law_run.specs.MostlyHonest.{IsMostlyHonest}
use Rattle.law_run.proofs.BackingEngines.{first_half}
use Rattle.law_run.proofs.Good.{IsGood}
use Rattle.law_run.proofs.Packets.{IsFrom, from_at, each_contained}
use Rattle.law_run.proofs.Worlds.{backers_of, earlier, fine_of}
use Rattle.simplex_report.specs.Limit.{longest_payload}
use Rattle.law_run.specs.Limits.{IsWithinLimit, KeepsTheLimit}
use Rattle.law_run.proofs.Sending.{SendsAtMost, HasAtMost, packets_short, call_short, vote_short}

contained : {A : Type 0} (P : A → Type 0) (xs : List A) (x : A) → Each P xs → Contains xs x → P x
contained P [] x h k = absurd (not_in_empty x k)
contained P (y ∷ xs) x h k = elim (Contains-cons_cases y xs x k) [ inl e ↦ subst P e h.0 | inr r ↦ contained P xs x h.1 r ]

-- ---- whose packets an entry has

-- an entry of a node of the setup, whose calls sent its packets
record IsOfNode (setup : Setup) (noted : Noted) : Type 0 where
  at : Node
  below : at.member < members_of setup
  of : (node : Node) → is_of node noted.event ≡ is_same_node at node
  packets : noted.entry.packets ≡ packets_of setup at noted.entry.calls

-- or one without packets, or with those of faulty members
abbrev IsShaped : Setup → Noted → Type 0
IsShaped setup noted = (noted.entry.packets ≡ []) ⊎ (IsOfNode setup noted ⊎ Each (λ (p : Packet). is_faulty_member setup p.from.member ≡ true) noted.entry.packets)

entry_shape : (setting : Setting) (before : List Noted) (event : Event) (noted : Noted) → entry_of setting before event ≡ Ok noted → IsShaped setting.setup noted
entry_shape setting before event noted e = elim (entry_turn setting before event noted e) [
  | inl b ↦ subst (IsShaped setting.setup) b.is (inr (inl (record { at = b.at; below = (first_half setting.setup b.at b.node).0; of = λ node. refl; packets = refl })))
  | inr other ↦ elim other [
    | inl g ↦ subst (IsShaped setting.setup) g.is (inr (inl (record { at = g.at; below = (first_half setting.setup g.at g.node).0; of = g.of; packets = refl })))
    | inr rest ↦ elim rest [
      | inl c ↦ subst (IsShaped setting.setup) c.is (inl refl)
      | inr last ↦ elim last [
        | inl t ↦ subst (IsShaped setting.setup) t.is (inl refl)
        | inr a ↦ inr (inr a.packets)
      ]
    ]
  ]
]

-- ---- one entry

-- a call of the newest entry is one of its node
called : (node : Node) (noted : Noted) (before : List Noted) (call : Call) → is_of node noted.event ≡ true → Contains noted.entry.calls call → Contains (calls_of node (noted ∷ before)) call
unfolding calls_of
called node noted before call of k =
    subst (λ (b : Bool). Contains (if b then calls_of node before ++ noted.entry.calls else calls_of node before) call) (sym of)
    (Contains-append_right (calls_of node before) noted.entry.calls call k)

module _ (setting : Setting) (noted : Noted) (before : List Noted) (o : IsMostlyHonest setting (noted ∷ before)) (few : members_of setting.setup ≤ 1024) where
  abbrev limit : ℕ
  limit = longest_payload (members_of setting.setup)

  node_within : IsOfNode setting.setup noted → (p : Packet) → Contains noted.entry.packets p → IsWithinLimit setting.setup p
  node_within s p k honest =
      let setup = setting.setup in
      let made = noted.entry.calls in
      let ps = packets_of setup s.at made in
      let sent : Contains ps p = subst (λ (xs : List Packet). Contains xs p) s.packets k in
      let from : p.from ≡ s.at = contained (IsFrom s.at) ps p (from_at setup s.at made) sent in
      let good : ¬ (Contains (faulty_of setup) s.at.member) = subst (λ (n : Node). ¬ (Contains (faulty_of setup) n.member)) from honest in
      let of : is_of s.at noted.event ≡ true = s.of s.at ∙ same_self s.at in
      let backers = backers_of setting (noted ∷ before) in
      let said = (fine_of setting (noted ∷ before) o).said.0 in
      let short : Each (SendsAtMost limit) made = each_contained (SendsAtMost limit) made (λ call h.
      call_short backers few call (contained (InCall (IsGood backers)) made call said.calls h) (λ to bytes e.
      vote_short setting (noted ∷ before) s.at to bytes o s.below good (called s.at noted before _ of (subst (Contains made) e h)))) in
      contained (HasAtMost limit) ps p (packets_short setup s.at limit made short) sent

  shape_within : IsShaped setting.setup noted → (p : Packet) → Contains noted.entry.packets p → IsWithinLimit setting.setup p
  shape_within (inl none) p k = absurd (not_in_empty p (subst (λ (xs : List Packet). Contains xs p) none k))
  shape_within (inr (inl s)) p k = node_within s p k
  shape_within (inr (inr f)) p k = λ honest.
      absurd (honest (faulty_listed setting.setup p.from.member (contained (λ (x : Packet). is_faulty_member setting.setup x.from.member ≡ true) noted.entry.packets p f k)))

  entry_keeps : KeepsTheLimit setting.setup noted.entry
  unfolding IsRun
  entry_keeps = each_contained (IsWithinLimit setting.setup) noted.entry.packets (shape_within (entry_shape setting before o.ran.0 noted o.ran.1))

-- ---- all entries

pub entries_keep : (setting : Setting) (noted : List Noted) → IsMostlyHonest setting noted → members_of setting.setup ≤ 1024 → Each (λ (n : Noted). KeepsTheLimit setting.setup n.entry) noted
entries_keep setting [] o few = tt
entries_keep setting (noted ∷ before) o few = (entry_keeps setting noted before o few, entries_keep setting before (earlier setting noted before o) few)
