-- What holds of each certificate that stands in a run holds of what its node knows, and of what its journal holds.
use Rattle.std.proofs.Common.{Bool, true, false, List, [], ◌∷◌, ◌++◌, All, Contains, Some, None, subst, inl, inr, if◌then◌else◌}
use Rattle.std.proofs.lemmas.List.Elements.{All-weaker, All-contains_itself, Contains-append_cases}
use Rattle.simplex_wire.specs.declared.artifact.Artifact.{Artifact}
use Rattle.simplex_wire.specs.declared.artifact.Artifact.TheVariants as artifacts
use Rattle.simplex_wire.specs.declared.certificate.Certificate.{Certificate}
use Rattle.simplex_wire.specs.declared.certificate.Certificate.TheVariants as certificates
use Rattle.simplex_wire.specs.declared.certificate.Finalization.{Finalization}
use Rattle.simplex_messages.specs.declared.call.Call.{Call}
use Rattle.simplex_messages.specs.declared.call.Call.TheVariants as calls
use Rattle.simplex_transcript.specs.declared.event.Event.{Event}
use Rattle.simplex_transcript.specs.declared.event.Event.TheVariants as events
use Rattle.simplex_transcript.specs.declared.node.Node.{Node}
use Rattle.model_run.specs.Setting.{Setting}
use Rattle.model_run.specs.Life.{Noted, is_of}
use Rattle.model_run.specs.Members.{is_same_node}
use Rattle.law_agreement.specs.World as agreement
use Rattle.law_agreement.proofs.ListFacts.{not_in_empty, Contains-cons_cases}
use Rattle.law_agreement.specs.Member as life
use Rattle.law_agreement.specs.Member.{Member}
use Rattle.law_member.specs.Life.{statement_of, certificate_in, taken}
use Rattle.law_run.specs.Sayings.{Each, InCall, InRecord}
use Rattle.law_run.specs.Histories.{calls_of, floor_in, floors_of, IsLivedBy}
use Rattle.law_run.specs.Saying.{InStart, InNoted}
use Rattle.law_run.proofs.Speaking.{Each-append}

module _ (Good : agreement.Certificate → Type 0) where
  -- what is good of it is what it states
  abbrev States : Certificate → Type 0
  States c = Good (statement_of c)

  in_record : (a : Artifact) (c : agreement.Certificate) → InRecord States a → Contains (certificate_in a) c → Good c
  in_record (artifacts.Notarization n) c g k = elim (Contains-cons_cases _ [] c k) [ inl e ↦ subst Good e g | inr r ↦ absurd (not_in_empty c r) ]
  in_record (artifacts.Nullification n) c g k = elim (Contains-cons_cases _ [] c k) [ inl e ↦ subst Good e g | inr r ↦ absurd (not_in_empty c r) ]
  in_record (artifacts.Finalization n) c g k = elim (Contains-cons_cases _ [] c k) [ inl e ↦ subst Good e g | inr r ↦ absurd (not_in_empty c r) ]
  in_record (artifacts.Notarize v) c g k = absurd (not_in_empty c k)
  in_record (artifacts.Nullify v) c g k = absurd (not_in_empty c k)
  in_record (artifacts.Finalize v) c g k = absurd (not_in_empty c k)
  in_record (artifacts.Certification r good) c g k = absurd (not_in_empty c k)

  taken_good : (cs : List Call) (c : agreement.Certificate) → Each (InCall States) cs → Contains (taken cs) c → Good c
  unfolding taken
  taken_good [] c g k = absurd (not_in_empty c k)
  taken_good (calls.Append n a ∷ rest) c g k =
      elim (Contains-append_cases (certificate_in a) (taken rest) c k) [ inl here ↦ in_record a c g.0 here | inr r ↦ taken_good rest c g.1 r ]
  taken_good (calls.Sync n ∷ rest) c g k = taken_good rest c g.1 k
  taken_good (calls.Prune n ∷ rest) c g k = taken_good rest c g.1 k
  taken_good (calls.Send channel to bytes ∷ rest) c g k = taken_good rest c g.1 k
  taken_good (calls.Report activity ∷ rest) c g k = taken_good rest c g.1 k
  taken_good (calls.Relay payload plan ∷ rest) c g k = taken_good rest c g.1 k
  taken_good (calls.Block who why ∷ rest) c g k = taken_good rest c g.1 k

  calls_said : (node : Node) (noted : List Noted) → Each (InNoted States) noted → Each (InCall States) (calls_of node noted)
  unfolding calls_of
  calls_said node [] g = tt
  calls_said node (noted ∷ before) g = at (is_of node noted.event) (calls_said node before g.1)
    where
      at : (b : Bool) → Each (InCall States) (calls_of node before) → Each (InCall States) (if b then calls_of node before ++ noted.entry.calls else calls_of node before)
      at true rest = Each-append (InCall States) (calls_of node before) noted.entry.calls rest (let new = g.0 in new.calls)
      at false rest = rest

  one_floor : (node at : Node) (f : Finalization) (c : agreement.Certificate) (b : Bool) → Good (statement_of (certificates.Finalization f))
      → Contains (if b then statement_of (certificates.Finalization f) ∷ [] else []) c → Good c
  one_floor node at f c true g k = elim (Contains-cons_cases _ [] c k) [ inl e ↦ subst Good e g | inr r ↦ absurd (not_in_empty c r) ]
  one_floor node at f c false g k = absurd (not_in_empty c k)

  floor_good : (node : Node) (event : Event) (c : agreement.Certificate) → InStart States event → Contains (floor_in node event) c → Good c
  floor_good node (events.Start at (Some f) stop) c g k = one_floor node at f c (is_same_node at node) g k
  floor_good node (events.Start at None stop) c g k = absurd (not_in_empty c k)
  floor_good node (events.Tick ms) c g k = absurd (not_in_empty c k)
  floor_good node (events.Deliver at ref) c g k = absurd (not_in_empty c k)
  floor_good node (events.Step at source stop) c g k = absurd (not_in_empty c k)
  floor_good node (events.Answer at ref answer) c g k = absurd (not_in_empty c k)
  floor_good node (events.Crash at) c g k = absurd (not_in_empty c k)
  floor_good node (events.Inject who channel to bytes) c g k = absurd (not_in_empty c k)

  floors_good : (node : Node) (noted : List Noted) (c : agreement.Certificate) → Each (InNoted States) noted → Contains (floors_of node noted) c → Good c
  unfolding floors_of
  floors_good node [] c g k = absurd (not_in_empty c k)
  floors_good node (noted ∷ before) c g k =
      elim (Contains-append_cases (floors_of node before) (floor_in node noted.event) c k) [
        | inl old ↦ floors_good node before c g.1 old
        | inr new ↦ floor_good node noted.event c (let it = g.0 in it.floor) new
      ]

  -- so all that came to the member
  pub brought_good : (setting : Setting) (noted : List Noted) (node : Node) (b : IsLivedBy setting noted node) → Each (InNoted States) noted → All Good (life.brought b.calls)
  brought_good setting noted node b g =
      All-weaker (Contains (life.brought b.calls)) Good (λ c k. elim (b.brought c k) [
        | inl t ↦ taken_good (calls_of node noted) c (calls_said node noted g) t
        | inr f ↦ floors_good node noted c g f
      ]) (life.brought b.calls) (All-contains_itself (life.brought b.calls))
