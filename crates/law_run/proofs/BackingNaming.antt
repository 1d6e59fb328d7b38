-- Where own votes name the setup's epoch, each certificate does.
use Rattle.std.proofs.Common.{◌≡◌, ℕ, ◌<◌, ◌≤◌, ◌++◌, ◌⊎◌, Bool, true, false, List, [], ◌∷◌, length, map, Contains, sym, subst, inl, inr, if◌then◌else◌}
use Rattle.std.proofs.lemmas.List.Elements.{All-contains, Contains-append_cases}
use Rattle.simplex_values.specs.declared.proposal.Subject.{Subject}
use Rattle.simplex_values.specs.Quorum.{max_faulty}
use Rattle.simplex_wire.specs.declared.artifact.Artifact.{Artifact}
use Rattle.simplex_wire.specs.declared.artifact.Artifact.TheVariants as artifacts
use Rattle.simplex_wire.specs.Fields.{subject_round}
use Rattle.simplex_messages.specs.declared.call.Call.{Call}
use Rattle.simplex_messages.specs.declared.call.Call.TheVariants as calls
use Rattle.simplex_transcript.specs.declared.node.Node.{Node}
use Rattle.simplex_transcript.specs.declared.setup.Setup.{Setup}
use Rattle.model_run.specs.Setting.{Setting}
use Rattle.model_run.specs.Life.{Noted, is_of}
use Rattle.model_run.specs.Members.{members_of}
use Rattle.model_run.specs.Entries.{node_of}
use Rattle.law_agreement.specs.World as agreement
use Rattle.law_agreement.specs.World.{Sent, IsBacked}
use Rattle.law_agreement.proofs.ListFacts.{not_in_empty, Contains-here, Contains-there, Contains-cons_cases}
use Rattle.law_agreement.proofs.Meeting.{quorums_meet}
use Rattle.law_agreement.specs.Member.{newborn, run}
use Rattle.law_member.specs.Life.{statement_of, vote_in, voted}
use Rattle.law_run.specs.Sayings.{Each}
use Rattle.law_run.specs.Histories.{calls_of}
use Rattle.law_run.proofs.Speaking.{Each-append}
use Rattle.law_run.specs.MostlyHonest.{IsMostlyHonest}
use Rattle.law_run.specs.Safe.{AllName}
use Rattle.law_run.specs.Naming.{RecordNames, CallNames, OwnName}
use Rattle.law_run.proofs.Worlds.{IsPeopled, backers_of, world_of, fine_of, people_of, floors_hold, good_backed}
use Rattle.law_run.proofs.Standing.{stands_good}
use Rattle.law_run.specs.Faulty.{faulty_of}

abbrev pub Names : ℕ → Subject → Type 0
Names epoch s = (subject_round s).epoch ≡ epoch

record_names : (epoch : ℕ) (a : Artifact) (s : Subject) → RecordNames epoch a → Contains (vote_in a) s → Names epoch s
record_names epoch (artifacts.Notarize v) s f k = elim (Contains-cons_cases _ [] s k) [ inl e ↦ subst (Names epoch) e f | inr r ↦ absurd (not_in_empty s r) ]
record_names epoch (artifacts.Nullify v) s f k = elim (Contains-cons_cases _ [] s k) [ inl e ↦ subst (Names epoch) e f | inr r ↦ absurd (not_in_empty s r) ]
record_names epoch (artifacts.Finalize v) s f k = elim (Contains-cons_cases _ [] s k) [ inl e ↦ subst (Names epoch) e f | inr r ↦ absurd (not_in_empty s r) ]
record_names epoch (artifacts.Notarization c) s f k = absurd (not_in_empty s k)
record_names epoch (artifacts.Nullification c) s f k = absurd (not_in_empty s k)
record_names epoch (artifacts.Finalization c) s f k = absurd (not_in_empty s k)
record_names epoch (artifacts.Certification r good) s f k = absurd (not_in_empty s k)

pub calls_name : (epoch : ℕ) (cs : List Call) (s : Subject) → Each (CallNames epoch) cs → Contains (voted cs) s → Names epoch s
unfolding voted
calls_name epoch [] s f k = absurd (not_in_empty s k)
calls_name epoch (calls.Append n a ∷ rest) s f k = elim (Contains-append_cases (vote_in a) (voted rest) s k) [ inl here ↦ record_names epoch a s f.0 here | inr r ↦ calls_name epoch rest s f.1 r ]
calls_name epoch (calls.Sync n ∷ rest) s f k = calls_name epoch rest s f.1 k
calls_name epoch (calls.Prune n ∷ rest) s f k = calls_name epoch rest s f.1 k
calls_name epoch (calls.Send channel to bytes ∷ rest) s f k = calls_name epoch rest s f.1 k
calls_name epoch (calls.Report activity ∷ rest) s f k = calls_name epoch rest s f.1 k
calls_name epoch (calls.Relay payload plan ∷ rest) s f k = calls_name epoch rest s f.1 k
calls_name epoch (calls.Block who why ∷ rest) s f k = calls_name epoch rest s f.1 k

pub node_names : (setup : Setup) (node : Node) (noted : List Noted) → OwnName setup noted → Each (CallNames setup.epoch) (calls_of node noted)
unfolding calls_of
node_names setup node [] t = tt
node_names setup node (noted ∷ before) t = at (is_of node noted.event) (node_names setup node before t.1)
  where
    at : (b : Bool) → Each (CallNames setup.epoch) (calls_of node before) → Each (CallNames setup.epoch) (if b then calls_of node before ++ noted.entry.calls else calls_of node before)
    at true rest = Each-append (CallNames setup.epoch) (calls_of node before) noted.entry.calls rest t.0
    at false rest = rest

pub in_map : {A B : Type 0} (g : A → B) (xs : List A) (x : A) → Contains xs x → Contains (map g xs) (g x)
in_map g [] x k = absurd (not_in_empty x k)
in_map g (y ∷ xs) x k = elim (Contains-cons_cases y xs x k) [
  | inl e ↦ subst (λ z. Contains (map g (y ∷ xs)) (g z)) e (Contains-here (g y) (map g xs))
  | inr r ↦ Contains-there (g y) (map g xs) (g x) (in_map g xs x r)
]

pub from_map : {A B : Type 0} (f : A → B) (xs : List A) (y : B) → Contains (map f xs) y → (x : A) × Contains xs x × (f x ≡ y)
from_map f [] y k = absurd (not_in_empty y k)
from_map f (x ∷ xs) y k = elim (Contains-cons_cases (f x) (map f xs) y k) [
  | inl e ↦ (x, Contains-here x xs, e)
  | inr r ↦ (let g = from_map f xs y r in (g.0, Contains-there x xs g.0 g.1, g.2))
]

-- a certificate that is backed has an honest signer, whose vote names the epoch
pub backed_names : (setting : Setting) (noted : List Noted) (p : IsPeopled setting noted) (c : agreement.Certificate) → 0 < members_of setting.setup → length (faulty_of setting.setup) ≤ max_faulty (members_of setting.setup)
    → OwnName setting.setup noted → IsBacked (world_of setting noted p) c → Names setting.setup.epoch c.subject
backed_names setting noted p c some few own b =
    let w = world_of setting noted p in
    let m = quorums_meet (members_of setting.setup) (faulty_of setting.setup) c.signers c.signers some few b.quorum b.quorum in
    let S = λ (i : ℕ). Contains (faulty_of setting.setup) i ⊎ agreement.HasSent w i c.subject in
    elim (All-contains S c.signers m.member b.signed m.first) [
      | inl bad ↦ absurd (m.good bad)
      | inr h ↦ (let l = p.lived m.member m.good in
          let lived = l.0.lived in
          let sent = (run newborn lived.calls).sent in
          let there : Contains sent (record { subject = c.subject; known = h.0 }) = subst (λ xs. Contains xs (record { subject = c.subject; known = h.0 })) l.1 h.1 in
          elim (lived.own c.subject (in_map (λ (s : Sent). s.subject) sent _ there)) [
            | inl v ↦ calls_name setting.setup.epoch (calls_of (node_of m.member) noted) c.subject (node_names setting.setup (node_of m.member) noted own) v
            | inr n ↦ subst (Names setting.setup.epoch) (sym n.1) n.2
          ])
    ]

pub backers_named : (setting : Setting) (noted : List Noted) → IsMostlyHonest setting noted → OwnName setting.setup noted → AllName setting.setup noted
backers_named setting noted o own c stands =
    let p = people_of setting noted o (floors_hold setting noted o) in
    let backers = backers_of setting noted in
    let fine = fine_of setting noted o in
    backed_names setting noted p (statement_of c) o.some o.few own (good_backed setting noted o.ran p c (stands_good backers noted c fine.said fine.packets stands.0 stands.1))
