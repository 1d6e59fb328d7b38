-- Votes that are in order behind each entry are one list, in which each was made by what had come in time.
use Rattle.std.proofs.Common.{◌≡◌, ℕ, zero, suc, ◌<◌, ◌++◌, List, [], ◌∷◌, map, All, AllPairs, Contains, refl, sym, ap, ◌∙◌, subst, arith}
use Rattle.std.specs.List.{flat_map}
use Rattle.std.proofs.lemmas.List.{map-append}
use Rattle.std.proofs.lemmas.List.Elements.{All-append, All-nil, All-tail, All-weaker}
use Rattle.std.proofs.lemmas.List.Kept.{AllPairs-cons}
use Rattle.simplex_values.specs.declared.proposal.Subject.{Subject}
use Rattle.simplex_wire.specs.Fields.{vote_subject}
use Rattle.simplex_transcript.specs.declared.setup.Setup.{Setup}
use Rattle.model_run.specs.Life.{Noted}
use Rattle.model_run.specs.Members.{members_of}
use Rattle.model_run.specs.Entries.{node_of}
use Rattle.law_agreement.specs.World.{Sent, MayStand, MayFollow}
use Rattle.law_agreement.proofs.SmallWorlds.{pairs_none}
use Rattle.law_member.specs.Evidence.{subjects_of}
use Rattle.law_run.specs.Faulty.{faulty_of}
use Rattle.law_run.specs.InTime.{AreInTime, AreSentInTime}
use Rattle.law_run.specs.Voting.{vote_in, sent_votes}
use Rattle.law_run.specs.WellSent.{Came, AllWellSent}

-- ---- lists

-- where the subjects split, so does the list
record Split (votes : List Sent) (xs ys : List Subject) : Type 0 where
  pub first : List Sent
  pub rest : List Sent
  pub whole : votes ≡ first ++ rest
  pub front : subjects_of first ≡ xs
  pub back : subjects_of rest ≡ ys

split : (votes : List Sent) (xs ys : List Subject) → subjects_of votes ≡ xs ++ ys → Split votes xs ys
split votes [] ys e = record { first = []; rest = votes; whole = refl; front = refl; back = e }
split [] (x ∷ xs) ys e = cc
split (v ∷ votes) (x ∷ xs) ys e =
    let head : v.subject ≡ x = cc in
    let tail : subjects_of votes ≡ xs ++ ys = cc in
    let s = split votes xs ys tail in
    record { first = v ∷ s.first; rest = s.rest; whole = ap (λ vs. v ∷ vs) s.whole; front = cc (head, s.front); back = s.back }

All-back : {A : Type 0} (P : A → Type 0) (xs ys : List A) → All P (xs ++ ys) → All P ys
All-back P [] ys h = h
All-back P (x ∷ xs) ys h = All-back P xs ys (All-tail P x (xs ++ ys) h)

module _ (length : ℕ) where
  abbrev R : Sent → Sent → Type 0
  R s t = MayFollow length s.subject t.subject t.known

  first_all : (x : Sent) (xs : List Sent) → AllPairs R (x ∷ xs) → All (R x) xs
  first_all x xs h k d lt = h zero (suc k) d (omega arith) (omega arith)

  pairs_rest : (x : Sent) (xs : List Sent) → AllPairs R (x ∷ xs) → AllPairs R xs
  pairs_rest x xs h i j d lt within = h (suc i) (suc j) d (omega arith) (omega arith)

  -- earlier votes may be exchanged for others on the same subjects
  exchanged : (old other now : List Sent) → subjects_of old ≡ subjects_of other → AllPairs R old → AllPairs R (other ++ now) → AllPairs R (old ++ now)
  exchanged [] [] now e h k = k
  exchanged [] (y ∷ other) now e h k = cc
  exchanged (x ∷ old) [] now e h k = cc
  exchanged (x ∷ old) (y ∷ other) now e h k =
      let head : x.subject ≡ y.subject = cc in
      let tail : subjects_of old ≡ subjects_of other = cc in
      let behind : All (R y) now = All-back (R y) other now (first_all y (other ++ now) k) in
      let mine : All (R x) now = All-weaker (R y) (R x) (λ t r. subst (λ s. MayFollow length s t.subject t.known) (sym head) r) now behind in
      AllPairs-cons R x (old ++ now) (All-append (R x) old now (first_all x old h) mine) (exchanged old other now tail (pairs_rest x old h) (pairs_rest y (other ++ now) k))

-- ---- the law

-- they are the votes that the member sent
times_same : (noted : List Noted) (member : ℕ) (votes : List Sent) → AreInTime noted member votes → subjects_of votes ≡ map vote_subject (sent_votes noted member)
unfolding AreInTime sent_votes
times_same [] member votes h = ap subjects_of h
times_same (noted ∷ before) member votes h =
    ap subjects_of h.2 ∙ map-append (λ (s : Sent). s.subject) h.0 h.1
    ∙ ap (λ xs. xs ++ subjects_of h.1) (times_same before member h.0 h.5)
    ∙ ap (λ ys. map vote_subject (sent_votes before member) ++ ys) h.3
    ∙ sym (map-append vote_subject (sent_votes before member) (flat_map (vote_in member) noted.entry.packets))

module _ (setup : Setup) (member : ℕ) (below : member < members_of setup) (honest : ¬ (Contains (faulty_of setup) member)) where
  abbrev Alone : Sent → Type 0
  Alone s = MayStand setup.term s.subject s.known

  pub in_time : (noted : List Noted) → AllWellSent setup noted → AreSentInTime setup noted member
  unfolding AllWellSent AreInTime sent_votes
  in_time [] sent = record { votes = []; times = refl; alone = All-nil Alone; order = pairs_none (R setup.term) }
  in_time (noted ∷ before) sent =
      let old = in_time before sent.1 in
      let all = sent.0 member below honest in
      let packets = flat_map (vote_in member) noted.entry.packets in
      let earlier : subjects_of old.votes ≡ map vote_subject (sent_votes before member) = times_same before member old.votes old.times in
      let s = split all.votes (map vote_subject (sent_votes before member)) (map vote_subject packets) (all.same ∙ map-append vote_subject (sent_votes before member) packets) in
      let knew = λ (t : Sent). All (Came (noted ∷ before) (node_of member)) t.known in
      record {
        votes = old.votes ++ s.rest;
        times = (old.votes, s.rest, refl, s.back, All-back knew s.first s.rest (subst (All knew) s.whole all.came), old.times);
        alone = All-append Alone old.votes s.rest old.alone (All-back Alone s.first s.rest (subst (All Alone) s.whole all.alone));
        order = exchanged setup.term old.votes s.first s.rest (earlier ∙ sym s.front) old.order (subst (AllPairs (R setup.term)) s.whole all.order);
      }

pub votes_in_time : (setup : Setup) (noted : List Noted) (member : ℕ) → AllWellSent setup noted → member < members_of setup → ¬ (Contains (faulty_of setup) member) → AreSentInTime setup noted member
votes_in_time setup noted member sent below honest = in_time setup member below honest noted sent
