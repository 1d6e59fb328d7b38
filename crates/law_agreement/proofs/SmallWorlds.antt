-- The small worlds: who signed, and that all but one property holds.
use Rattle.std.proofs.Common.{ℕ, ◌==◌, ◌≡◌, ◌≤◌, ◌⊎◌, if◌then◌else◌, length, get_or, ap, inl, Bool, true, false, zero, suc, ◌<◌, List, [], ◌∷◌, All, AllPairs, Contains, refl, inr, arith}
use Rattle.std.specs.List.Sorted.{IsStrictlyIncreasing}
use Rattle.std.proofs.lemmas.List.Elements.{All-nil, All-cons}
use Rattle.std.proofs.lemmas.List.Kept.{AllPairs-cons}
use Rattle.simplex_values.specs.declared.proposal.Subject.{Subject}
use Rattle.simplex_values.specs.declared.proposal.Subject.TheVariants.{Notarize}
use Rattle.law_agreement.specs.Quorums.{IsQuorum}
use Rattle.law_agreement.specs.World.{view_of, World, Certificate, Sent, HasSent, IsBacked, Knows, MayStand, MayFollow, IsHonest, IsLawful}
use Rattle.simplex_values.specs.declared.proposal.Proposal.{Proposal}
use Rattle.law_agreement.specs.WorldExamples.{FewAreFaulty, crowded, vote, first, rival, Property, is_on_pair, is_on_vote, is_on_known, is_on_faulty, Unless, IsHonestBut, IsLawfulBut, world_of, signed}

rising : IsStrictlyIncreasing (0 ∷ 1 ∷ 2 ∷ [])
rising zero lt = omega arith
rising (suc zero) lt = omega arith
rising (suc (suc k)) lt = absurd (omega (arith, lt))

-- three of four members are a quorum
three : IsQuorum 4 (0 ∷ 1 ∷ 2 ∷ [])
three =
    record {
      rising = rising;
      members = All-cons (λ i. i < 4) 0 (1 ∷ 2 ∷ []) (omega arith) (All-cons (λ i. i < 4) 1 (2 ∷ []) (omega arith) (All-cons (λ i. i < 4) 2 [] (omega arith) (All-nil (λ i. i < 4))));
      enough = omega arith;
    }

-- what all of them sent is backed
pub sent_backed : (votes : List Sent) (s : Subject) (known : List Certificate) → Contains votes (record { subject = s; known = known }) → IsBacked (world_of votes) (signed s)
sent_backed votes s known c = record { quorum = three; signed = λ k d lt. inr (known, c) }

pub known_here : (s : Subject) → Knows (signed s ∷ []) s
known_here s = (0 ∷ 1 ∷ 2 ∷ [], (0, omega arith, refl))

-- a world of such members is lawful, or is but for one property
pub lawful : (votes : List Sent) → IsHonest (world_of votes) votes → IsLawful (world_of votes)
lawful votes h = record { members = omega arith; term_length = omega arith; faulty = omega arith; honest = λ i lt good. h }

unless : {P : Type 0} (b : Bool) → P → Unless b P
unless true p = tt
unless false p = p

pub lawful_but : (x : Property) (votes : List Sent) → IsHonestBut x (world_of votes) votes → IsLawfulBut x (world_of votes)
lawful_but x votes h =
    let few : 1 ≤ 1 = omega arith in
    record { members = omega arith; term_length = omega arith; faulty = unless (is_on_faulty x) few; honest = λ i lt good. h }

-- lists of two, three and five votes, one by one
pub all_two : {X : Type 0} (P : X → Type 0) (a b : X) → P a → P b → All P (a ∷ b ∷ [])
all_two P a b pa pb = All-cons P a (b ∷ []) pa (All-cons P b [] pb (All-nil P))

pub all_three : {X : Type 0} (P : X → Type 0) (a b c : X) → P a → P b → P c → All P (a ∷ b ∷ c ∷ [])
all_three P a b c pa pb pc = All-cons P a (b ∷ c ∷ []) pa (all_two P b c pb pc)

pub pairs_none : {X : Type 0} (R : X → X → Type 0) → AllPairs R []
pairs_none R i j d lt in' = absurd (omega (arith, in'))

pub pairs_two : {X : Type 0} (R : X → X → Type 0) (a b : X) → R a b → AllPairs R (a ∷ b ∷ [])
pairs_two R a b ab = AllPairs-cons R a (b ∷ []) (All-cons (R a) b [] ab (All-nil (R a))) (AllPairs-cons R b [] (All-nil (R b)) (pairs_none R))

pub pairs_three : {X : Type 0} (R : X → X → Type 0) (a b c : X) → R a b → R a c → R b c → AllPairs R (a ∷ b ∷ c ∷ [])
pairs_three R a b c ab ac bc = AllPairs-cons R a (b ∷ c ∷ []) (all_two (R a) b c ab ac) (pairs_two R b c bc)

pub all_five : {X : Type 0} (P : X → Type 0) (a b c d e : X) → P a → P b → P c → P d → P e → All P (a ∷ b ∷ c ∷ d ∷ e ∷ [])
all_five P a b c d e pa pb pc pd pe = All-cons P a (b ∷ c ∷ d ∷ e ∷ []) pa (All-cons P b (c ∷ d ∷ e ∷ []) pb (all_three P c d e pc pd pe))

-- a vote, and three or four behind it
pub pairs_five : {X : Type 0} (R : X → X → Type 0) (a b c d e : X) → R a b → R a c → R a d → R a e → R b c → R b d → R b e → AllPairs R (c ∷ d ∷ e ∷ [])
    → AllPairs R (a ∷ b ∷ c ∷ d ∷ e ∷ [])
pairs_five R a b c d e ab ac ad ae bc bd be rest =
    AllPairs-cons R a (b ∷ c ∷ d ∷ e ∷ []) (All-cons (R a) b (c ∷ d ∷ e ∷ []) ab (all_three (R a) c d e ac ad ae))
    (AllPairs-cons R b (c ∷ d ∷ e ∷ []) (all_three (R b) c d e bc bd be) rest)

-- the certificate of a vote that stands at this place is backed
pub one_backed : (votes : List Sent) (s : Subject) (known : List Certificate) → Contains votes (record { subject = s; known = known }) → All (IsBacked (world_of votes)) (signed s ∷ [])
one_backed votes s known c = All-cons (IsBacked (world_of votes)) (signed s) [] (sent_backed votes s known c) (All-nil (IsBacked (world_of votes)))

pub none_backed : (votes : List Sent) → All (IsBacked (world_of votes)) []
none_backed votes = All-nil (IsBacked (world_of votes))

-- what a property leaves to be shown of a vote, of two, and of what was known
abbrev pub Alone : Property → Sent → Type 0
Alone x s = Unless (is_on_vote x s.subject) (MayStand 2 s.subject s.known)

abbrev pub Order : Property → Sent → Sent → Type 0
Order x s t = Unless (is_on_pair x s.subject t.subject) (MayFollow 2 s.subject t.subject t.known)

abbrev pub Backed : Property → List Sent → Sent → Type 0
Backed x votes s = Unless (is_on_known x) (All (IsBacked (world_of votes)) s.known)

-- three votes, of which all but one property holds
pub but_three : (x : Property) (a b c : Sent) → Alone x a → Alone x b → Alone x c → Order x a b → Order x a c → Order x b c
    → Backed x (a ∷ b ∷ c ∷ []) a → Backed x (a ∷ b ∷ c ∷ []) b → Backed x (a ∷ b ∷ c ∷ []) c
    → IsLawfulBut x (world_of (a ∷ b ∷ c ∷ []))
but_three x a b c sa sb sc ab ac bc ka kb kc =
    lawful_but x (a ∷ b ∷ c ∷ [])
    (record {
      alone = all_three (Alone x) a b c sa sb sc;
      order = pairs_three (Order x) a b c ab ac bc;
      backed = all_three (Backed x (a ∷ b ∷ c ∷ [])) a b c ka kb kc;
    })

-- a world that is lawful is so but for any property
pub lawful_weaker : (x : Property) (w : World) → IsLawful w → IsLawfulBut x w
lawful_weaker x w law =
    record {
      members = law.members;
      term_length = law.term_length;
      faulty = unless (is_on_faulty x) law.faulty;
      honest = λ i lt good.
          let h : IsHonest w (w.history i) = law.honest i lt good in
          record {
            alone = λ k d in'. unless _ (h.alone k d in');
            order = λ j k d lt' in'. unless _ (h.order j k d lt' in');
            backed = λ k d in'. unless _ (h.backed k d in');
          };
    }

-- the crowded world: one vote each, and two that sign anything
one_vote : (p : Proposal) → p.parent ≡ 0 → view_of p ≡ 1 → IsHonestBut FewAreFaulty crowded (vote (Notarize p) [] ∷ [])
one_vote p parent view =
    record {
      alone = All-cons (Alone FewAreFaulty) (vote (Notarize p) []) [] (λ x a b. absurd (omega (arith, parent, view, a, b))) (All-nil (Alone FewAreFaulty));
      order = AllPairs-cons (Order FewAreFaulty) (vote (Notarize p) []) [] (All-nil (Order FewAreFaulty (vote (Notarize p) []))) (pairs_none (Order FewAreFaulty));
      backed = λ k d in' j e lt. absurd (none k d in' j lt);
    }
  where
    none : (k : ℕ) (d : Sent) → k < 1 → (j : ℕ) → j < length (get_or (vote (Notarize p) [] ∷ []) k d).known → ⊥
    none zero d in' j lt = omega (arith, lt)
    none (suc k) d in' j lt = omega (arith, in')

either_vote : (b : Bool) → IsHonestBut FewAreFaulty crowded (if b then vote (Notarize first) [] ∷ [] else vote (Notarize rival) [] ∷ [])
either_vote true = one_vote first refl refl
either_vote false = one_vote rival refl refl

pub crowded_lawful : IsLawfulBut FewAreFaulty crowded
crowded_lawful = record { members = omega arith; term_length = omega arith; faulty = tt; honest = λ i lt good. either_vote (i == 0) }

-- a member below 2 with the two faulty ones is a quorum
with_faulty : (i : ℕ) → i < 2 → IsQuorum 4 (i ∷ 2 ∷ 3 ∷ [])
with_faulty i lt = record { rising = up; members = all_three (λ j. j < 4) i 2 3 (omega (arith, lt)) (omega arith) (omega arith); enough = omega arith }
  where
    up : IsStrictlyIncreasing (i ∷ 2 ∷ 3 ∷ [])
    up zero in' = omega (arith, lt)
    up (suc zero) in' = omega arith
    up (suc (suc k)) in' = absurd (omega (arith, in'))

pub crowded_backed : (i : ℕ) (s : Subject) → i < 2 → HasSent crowded i s → IsBacked crowded (record { subject = s; signers = i ∷ 2 ∷ 3 ∷ [] })
crowded_backed i s lt sent =
    record {
      quorum = with_faulty i lt;
      signed = all_three (λ j. Contains crowded.faulty j ⊎ HasSent crowded j s) i 2 3 (inr sent) (inl (0, omega arith, refl)) (inl (1, omega arith, refl));
    }

pub differ : first ≡ rival → ⊥
differ e = let heads : 7 ≡ 8 = ap (λ (p : Proposal). get_or p.payload 0 0) e in omega (arith, heads)
