-- Behind each proposal that a certificate of the run names is an honest member's notarize.
use Rattle.std.proofs.Common.{◌≡◌, ℕ, ◌<◌, List, All, Contains, subst, inl, inr, ◌⊎◌}
use Rattle.std.proofs.lemmas.List.Elements.{All-contains}
use Rattle.simplex_values.specs.declared.proposal.Proposal.{Proposal}
use Rattle.simplex_values.specs.declared.proposal.Subject.{Subject}
use Rattle.simplex_values.specs.declared.proposal.Subject.TheVariants as subjects
use Rattle.simplex_values.specs.declared.round.Round.{Round}
use Rattle.simplex_wire.specs.declared.certificate.Certificate.{Certificate}
use Rattle.simplex_wire.specs.Fields.{certificate_subject}
use Rattle.model_run.specs.Setting.{Setting}
use Rattle.model_run.specs.Life.{Noted}
use Rattle.model_run.specs.Members.{members_of}
use Rattle.law_agreement.specs.World as agreement
use Rattle.law_agreement.specs.World.{Sent, World, IsBacked, HasSent, Knows, MayStand}
use Rattle.law_agreement.proofs.Meeting.{quorums_meet}
use Rattle.law_agreement.specs.Member.{newborn, run}
use Rattle.law_member.specs.Life.{statement_of}
use Rattle.law_run.specs.Faulty.{faulty_of}
use Rattle.law_run.specs.Founded.{IsOn, IsNotarized}
use Rattle.law_run.specs.MostlyHonest.{IsMostlyHonest}
use Rattle.law_run.specs.Safe.{Stands}
use Rattle.law_run.proofs.BackingNaming.{in_map}
use Rattle.law_run.proofs.Standing.{stands_good}
use Rattle.law_run.proofs.Worlds.{backers_of, fine_of, IsPeopled, world_of, people_of, good_backed, floors_hold, lawful}
use Rattle.law_member.specs.Evidence.{subjects_of}
use Rattle.law_run.proofs.Listing.{lived_voted}

-- a member below the limit that is honest, and sent a vote on the subject
record Sender (w : World) (s : Subject) : Type 0 where
  pub member : ℕ
  pub below : member < w.members
  pub honest : ¬ (Contains w.faulty member)
  pub sent : HasSent w member s

module _ (setting : Setting) (noted : List Noted) (o : IsMostlyHonest setting noted) (p : IsPeopled setting noted) where
  abbrev w : World
  w = world_of setting noted p

  -- a quorum has an honest member
  sender : (c : agreement.Certificate) → IsBacked w c → Sender w c.subject
  sender c b =
      let m = quorums_meet (members_of setting.setup) (faulty_of setting.setup) c.signers c.signers o.some o.few b.quorum b.quorum in
      let S = λ (i : ℕ). Contains (faulty_of setting.setup) i ⊎ HasSent w i c.subject in
      elim (All-contains S c.signers m.member b.signed m.first) [
        | inl bad ↦ absurd (m.good bad)
        | inr h ↦ record { member = m.member; below = All-contains (λ i. i < members_of setting.setup) c.signers m.member b.quorum.members m.first; honest = m.good; sent = h }
      ]

  -- who finalizes knew the notarization, which is backed likewise
  notarizer : (s : Subject) (q : Proposal) → IsOn s q → Sender w s → Sender w (subjects.Notarize q)
  notarizer s q (inl e) f = subst (Sender w) e f
  notarizer s q (inr e) f =
      let known = f.sent.0 in
      let vote : Sent = record { subject = s; known = known } in
      let law = (lawful setting noted o p).honest f.member f.below f.honest in
      let may : MayStand setting.setup.term s known = All-contains (λ (x : Sent). MayStand setting.setup.term x.subject x.known) (p.history f.member) vote law.alone f.sent.1 in
      let knows : Knows known (subjects.Notarize q) = subst (λ (x : Subject). MayStand setting.setup.term x known) e may in
      let backed : All (IsBacked w) known = All-contains (λ (x : Sent). All (IsBacked w) x.known) (p.history f.member) vote law.backed f.sent.1 in
      let c : agreement.Certificate = record { subject = subjects.Notarize q; signers = knows.0 } in
      sender c (All-contains (IsBacked w) known c backed knows.1)

  -- what it sent in its life it had appended
  appended : (q : Proposal) → Sender w (subjects.Notarize q) → IsNotarized setting.setup noted q
  appended q f =
      let l = p.lived f.member f.honest in
      let lived = l.0.lived in
      let vote : Sent = record { subject = subjects.Notarize q; known = f.sent.0 } in
      let in_life : Contains (run newborn lived.calls).sent vote = subst (λ (xs : List Sent). Contains xs vote) l.1 f.sent.1 in
      let on : Contains (subjects_of (run newborn lived.calls).sent) (subjects.Notarize q) = in_map (λ (s : Sent). s.subject) (run newborn lived.calls).sent vote in_life in
      record {
        member = f.member;
        below = f.below;
        honest = f.honest;
        appended = elim (lived.own (subjects.Notarize q) on) [
          | inl v ↦ v
          | inr n ↦ absurd (never n.0 n.1)
        ];
        sent = lived_voted setting noted f.member (subjects.Notarize q) o f.below f.honest l.0 on;
      }
    where
      never : (r : Round) → subjects.Notarize q ≡ subjects.Nullify r → ⊥
      never r e = cc

pub run_founded : (setting : Setting) (noted : List Noted) (c : Certificate) (q : Proposal) → IsMostlyHonest setting noted → Stands setting.setup noted c → IsOn (certificate_subject c) q → IsNotarized setting.setup noted q
run_founded setting noted c q o stands on =
    let p = people_of setting noted o (floors_hold setting noted o) in
    let backers = backers_of setting noted in
    let fine = fine_of setting noted o in
    let back = good_backed setting noted o.ran p c (stands_good backers noted c fine.said fine.packets stands.0 stands.1) in
    appended setting noted o p q (notarizer setting noted o p (certificate_subject c) q on (sender setting noted o p (statement_of c) back))
