-- What holds of each certificate that comes to a member holds of each that it knows at a vote.
use Rattle.std.proofs.Common.{◌≡◌, ℕ, Bool, true, false, nat_lt, nat_le, if◌then◌else◌, List, [], ◌∷◌, ◌++◌, filter, All, Contains, refl, sym, subst, inl, inr, append_assoc}
use Rattle.std.proofs.lemmas.List.Elements.{All-push, All-nil, All-weaker, All-head, All-tail, All-contains_itself, Contains-append_cases, Contains-push_cases}
use Rattle.simplex_values.specs.declared.proposal.Subject.{Subject}
use Rattle.simplex_values.specs.declared.proposal.Subject.TheVariants.{Nullify, Finalize}
use Rattle.law_agreement.specs.World.{Certificate, Sent, view_of}
use Rattle.law_agreement.proofs.ListFacts.{not_in_empty, Contains-from_filter, All-front, All-front_alone}
use Rattle.law_agreement.specs.Artifacts.{Artifact, Own, Proved, Judged, artifact_view, last_finalized, certificates, replay}
use Rattle.law_agreement.specs.Journal.{Section, append_all, left, prune, kept, held}
use Rattle.law_agreement.specs.Member.{Member, Call, Start, StartAt, Take, Judge, Vote, Repeat, Sync, Send, Prune, Crash, newborn, appended, queued, published, started, happens, run, brought}
use Rattle.law_agreement.proofs.Knowing.{Within}
use Rattle.law_agreement.proofs.KnownFacts.{certificates_from}
use Rattle.law_agreement.proofs.JournalFacts.{append_held, kept_held, sync_held, left_held, prune_held, append_all_from}
use Rattle.law_agreement.proofs.Replays.{replay_within}

module _ (Good : Certificate → Type 0) where
  -- each certificate among the records is good
  abbrev pub AllGood : List Artifact → Type 0
  AllGood xs = (c : Certificate) → Contains xs (Proved c) → Good c

  -- a record that brings no bad certificate
  abbrev pub Fine : Artifact → Type 0
  Fine a = (c : Certificate) → a ≡ Proved c → Good c

  abbrev pub Brings : Call → Type 0
  Brings Start = Unit {0}
  Brings (StartAt p signers) = Good (record { subject = Finalize p; signers = signers })
  Brings (Take c) = Good c
  Brings (Judge view verdict) = Unit {0}
  Brings (Vote s) = Unit {0}
  Brings (Repeat r) = Unit {0}
  Brings (Sync view) = Unit {0}
  Brings Send = Unit {0}
  Brings (Prune min) = Unit {0}
  Brings (Crash keep) = Unit {0}

  own_fine : (s : Subject) → Fine (Own s)
  own_fine s c e = cc

  judged_fine : (view : ℕ) (verdict : Bool) → Fine (Judged view verdict)
  judged_fine view verdict c e = cc

  proved_fine : (c : Certificate) → Good c → Fine (Proved c)
  proved_fine c g d e = let same : c ≡ d = cc in subst Good same g

  good_within : (xs ys : List Artifact) → Within xs ys → AllGood ys → AllGood xs
  good_within xs ys w g c k = g c (w (Proved c) k)

  good_push : (xs : List Artifact) (a : Artifact) → AllGood xs → Fine a → AllGood (xs ++ a ∷ [])
  good_push xs a g f c k = elim (Contains-push_cases xs a (Proved c) k) [ inl o ↦ g c o | inr e ↦ f c e ]

  good_both : (xs ys : List Artifact) → AllGood xs → AllGood ys → AllGood (xs ++ ys)
  good_both xs ys g h c k = elim (Contains-append_cases xs ys (Proved c) k) [ inl o ↦ g c o | inr r ↦ h c r ]

  good_certificates : (known : List Artifact) → AllGood known → All Good (certificates known)
  good_certificates known g =
      All-weaker (Contains (certificates known)) Good (λ c k. g c (certificates_from known c k)) (certificates known) (All-contains_itself (certificates known))

  abbrev pub GoodSent : List Sent → Type 0
  GoodSent sent = All (λ s. All Good s.known) sent

  pub record Goods (m : Member) : Type 0 where
    pub journal : AllGood (held m.journal)
    pub known : AllGood m.known
    pub votes : GoodSent (m.sent ++ m.outbox)

  Goods-appended : (m : Member) (a : Artifact) → Fine a → Goods m → Goods (appended m a)
  Goods-appended m a f g =
      record {
        journal = λ c k. elim ((append_held (artifact_view a) a m.journal).only (Proved c) k) [ inl o ↦ g.journal c o | inr e ↦ f c e ];
        known = good_push m.known a g.known f;
        votes = g.votes;
      }

  Goods-queued : (m : Member) (s : Subject) → Goods m → Goods (queued m s)
  Goods-queued m s g =
      let item : Sent = record { subject = s; known = certificates m.known } in
      record {
        journal = g.journal;
        known = g.known;
        votes = rw (← append_assoc m.sent m.outbox (item ∷ [])) (All-push (λ (t : Sent). All Good t.known) (m.sent ++ m.outbox) item g.votes (good_certificates m.known g.known));
      }

  Goods-published : (m : Member) → Goods m → (box : List Sent) → m.outbox ≡ box → Goods (published m box)
  Goods-published m g [] is = g
  Goods-published m g (s ∷ rest) is = record { journal = g.journal; known = g.known; votes = rw append_assoc (subst (λ xs. GoodSent (m.sent ++ xs)) is g.votes) }

  good_opened : (j : List Section) (floor : List Artifact) (b : Bool) → AllGood (held j) → AllGood floor → AllGood (held (if b then j else append_all floor j))
  good_opened j floor true g f = g
  good_opened j floor false g f = good_within (held (append_all floor j)) (held j ++ floor) (append_all_from floor j) (good_both (held j) floor g f)

  Goods-started : (m : Member) (view : ℕ) (floor : List Artifact) → AllGood floor → Goods m → Goods (started m view floor)
  Goods-started m view floor f g =
      let fresh : List Artifact = filter (λ a. nat_lt view (artifact_view a)) (kept m.journal) in
      let good : AllGood fresh = λ c k. g.journal c (kept_held m.journal (Proved c) (Contains-from_filter (λ a. nat_lt view (artifact_view a)) (kept m.journal) (Proved c) k)) in
      record {
        journal = good_opened m.journal floor (nat_le view (last_finalized (kept m.journal))) g.journal f;
        known = good_within (replay floor fresh) (floor ++ fresh) (replay_within floor fresh) (good_both floor fresh f good);
        votes = All-front_alone (λ (s : Sent). All Good s.known) m.sent m.outbox g.votes;
      }

  none_good : AllGood []
  none_good c k = absurd (not_in_empty (Proved c) k)

  pub Goods-happens : (m : Member) (call : Call) → Brings call → Goods m → Goods (happens m call)
  Goods-happens m Start b g = Goods-started m 0 [] none_good g
  Goods-happens m (StartAt p signers) b g =
      let a : Artifact = Proved (record { subject = Finalize p; signers = signers }) in
      Goods-started m (view_of p) (a ∷ []) (good_push [] a none_good (proved_fine (record { subject = Finalize p; signers = signers }) b)) g
  Goods-happens m (Take c) b g = Goods-appended m (Proved c) (proved_fine c b) g
  Goods-happens m (Judge view verdict) b g = Goods-appended m (Judged view verdict) (judged_fine view verdict) g
  Goods-happens m (Vote s) b g = Goods-appended (queued m s) (Own s) (own_fine s) (Goods-queued m s g)
  Goods-happens m (Repeat r) b g = Goods-queued m (Nullify r) g
  Goods-happens m (Sync view) b g = record { journal = subst AllGood (sym (sync_held view m.journal)) g.journal; known = g.known; votes = g.votes }
  Goods-happens m Send b g = Goods-published m g m.outbox refl
  Goods-happens m (Prune min) b g = record { journal = good_within (held (prune min m.journal)) (held m.journal) (prune_held min m.journal) g.journal; known = g.known; votes = g.votes }
  Goods-happens m (Crash keep) b g =
      record {
        journal = good_within (held (left keep m.journal)) (held m.journal) (left_held keep m.journal) g.journal;
        known = none_good;
        votes = All-front_alone (λ (s : Sent). All Good s.known) m.sent m.outbox g.votes;
      }

  brings : (call : Call) (rest : List Call) → All Good (brought (call ∷ rest)) → Brings call × All Good (brought rest)
  brings Start rest h = (tt, h)
  brings (StartAt p signers) rest h = let c : Certificate = record { subject = Finalize p; signers = signers } in (All-head Good c (brought rest) h, All-tail Good c (brought rest) h)
  brings (Take c) rest h = (All-head Good c (brought rest) h, All-tail Good c (brought rest) h)
  brings (Judge view verdict) rest h = (tt, h)
  brings (Vote s) rest h = (tt, h)
  brings (Repeat r) rest h = (tt, h)
  brings (Sync view) rest h = (tt, h)
  brings Send rest h = (tt, h)
  brings (Prune min) rest h = (tt, h)
  brings (Crash keep) rest h = (tt, h)

  pub Goods-run : (m : Member) (calls : List Call) → All Good (brought calls) → Goods m → Goods (run m calls)
  Goods-run m [] h g = g
  Goods-run m (call ∷ rest) h g = Goods-run (happens m call) rest (brings call rest h).1 (Goods-happens m call (brings call rest h).0 g)

  pub Goods-newborn : Goods newborn
  Goods-newborn = record { journal = none_good; known = none_good; votes = All-nil (λ (s : Sent). All Good s.known) }

  -- the certificates that were known at the votes that were sent
  pub good_sent : (calls : List Call) → All Good (brought calls) → GoodSent (run newborn calls).sent
  good_sent calls h = All-front (λ (s : Sent). All Good s.known) (run newborn calls).sent (run newborn calls).outbox (Goods-run newborn calls h Goods-newborn).votes
