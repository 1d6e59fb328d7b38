-- The packets of an entry are what its node's calls sent, or those of faulty members.
use Rattle.std.proofs.Common.{◌≡◌, ◌⊎◌, true, List, [], Ok, refl, subst, inl, inr}
use Rattle.simplex_transcript.specs.declared.entry.Packet.{Packet}
use Rattle.simplex_transcript.specs.declared.event.Event.{Event}
use Rattle.simplex_transcript.specs.declared.node.Node.{Node}
use Rattle.simplex_transcript.specs.declared.setup.Setup.{Setup}
use Rattle.model_run.specs.Setting.{Setting}
use Rattle.model_run.specs.Kinds.{is_node, is_faulty_member}
use Rattle.model_run.specs.Life.{Noted, is_of}
use Rattle.model_run.specs.Members.{is_same_node}
use Rattle.model_run.specs.Entries.{packets_of, entry_of}
use Rattle.law_run.specs.Sayings.{Each}
use Rattle.law_run.proofs.Turns.{entry_turn}

-- an entry of a node, whose calls sent its packets
pub record IsSentBy (setup : Setup) (noted : Noted) : Type 0 where
  pub at : Node
  pub node : is_node setup at ≡ true
  pub of : (node : Node) → is_of node noted.event ≡ is_same_node at node
  pub packets : noted.entry.packets ≡ packets_of setup at noted.entry.calls

-- or one without packets, or with those of faulty members
abbrev pub IsShaped : Setup → Noted → Type 0
IsShaped setup noted = (noted.entry.packets ≡ []) ⊎ (IsSentBy setup noted ⊎ Each (λ (p : Packet). is_faulty_member setup p.from.member ≡ true) noted.entry.packets)

pub entry_shape : (setting : Setting) (before : List Noted) (event : Event) (noted : Noted) → entry_of setting before event ≡ Ok noted → IsShaped setting.setup noted
entry_shape setting before event noted e = elim (entry_turn setting before event noted e) [
  | inl b ↦ subst (IsShaped setting.setup) b.is (inr (inl (record { at = b.at; node = b.node; of = λ node. refl; packets = refl })))
  | inr other ↦ elim other [
    | inl g ↦ subst (IsShaped setting.setup) g.is (inr (inl (record { at = g.at; node = g.node; of = g.of; packets = refl })))
    | inr rest ↦ elim rest [
      | inl c ↦ subst (IsShaped setting.setup) c.is (inl refl)
      | inr last ↦ elim last [
        | inl t ↦ subst (IsShaped setting.setup) t.is (inl refl)
        | inr a ↦ inr (inr a.packets)
      ]
    ]
  ]
]
