-- Where a premise is lacking, a cluster may be torn.
use Rattle.std.proofs.Common.{◌≡◌, ℕ, zero, suc, ◌==◌, ◌||◌, Bool, true, false, List, [], ◌∷◌, Contains, refl, sym, ap, ◌∙◌, subst, inl, inr, arith, eqb-true}
use Rattle.std.specs.List.{flat_map, list_any}
use Rattle.simplex_values.specs.declared.proposal.Proposal.{Proposal}
use Rattle.simplex_values.specs.declared.proposal.Subject.{Subject}
use Rattle.simplex_wire.specs.declared.certificate.Certificate.{Certificate}
use Rattle.simplex_wire.specs.declared.vote.Vote.{Vote}
use Rattle.simplex_wire.specs.Fields.{vote_subject}
use Rattle.simplex_round.specs.Votes.{is_same_subject}
use Rattle.simplex_messages.specs.declared.step.Stop.TheVariants as stops
use Rattle.model_steps.specs.Engine.{Did, begun}
use Rattle.model_run.specs.Members.{engine_of}
use Rattle.law_agreement.proofs.ListFacts.{not_in_empty, Contains-here, Contains-there, Contains-cons_cases}
use Rattle.law_member.proofs.Certifying.{subjects-same}
use Rattle.law_member.proofs.Looking.{one_passes}
use Rattle.law_run.proofs.Good.{both}
use Rattle.law_run.proofs.Worlds.{in_flat_map}
use Rattle.law_cluster.specs.Lives.{Life, AreLives, IsVerifying}
use Rattle.law_cluster.specs.Signatures.{calls_in, calls_of, sent_by, HasVoted, floor_of}
use Rattle.law_cluster.specs.Cluster.{IsHonest, IsUnforged}
use Rattle.law_cluster.specs.Agree.{in_taken, Had}
use Rattle.law_cluster.specs.Samples.{Act, engine, played, is_history, lives_by, are_histories, are_typed, fits_call, came_in, block, rival, notarized, group}
use Rattle.law_cluster.specs.TornSamples.{IsTorn, IsAlive, AreBlank, IsForgetful, hears_both, forged, blank_lives, are_blank, forgetful_acts, forgetful, is_pair, pairs, came_of_pairs, pairs_are_voted, heard_by}
use Rattle.law_cluster.proofs.Sampling.{goes, begins, engine_sample, all_at, all_parts, past_typed, lives_sample, came_signed}

-- ---- rivals

first_byte : List ℕ → ℕ
first_byte [] = 0
first_byte (x ∷ xs) = x

differ : block ≡ rival → ⊥
unfolding first_byte
differ e = (let same : 17 ≡ 34 = ap (λ (p : Proposal). first_byte p.payload) e in absurd (omega (arith, same)))

-- what came in a packet a member had
pub heard_had : (lives : List Life) (c : Certificate) → Contains (heard_by lives) c → Had lives c
heard_had lives c k =
    let life = in_flat_map (λ (l : Life). flat_map (λ (did : Did). in_taken did.taken) l.past) lives c k in
    let did = in_flat_map (λ (d : Did). in_taken d.taken) life.0.past c life.2 in
    (life.0, life.1, inr (inl (did.0, did.1, inl did.2)))

never : true ≡ false → ⊥
never e = cc

-- ---- forged signatures

pub record Hears : Type 0 where
  pub history : are_histories 0 (hears_both ∷ []) ≡ true
  pub typed : are_typed (forged.lives 0) ≡ true
  pub heard : heard_by (forged.lives 0) ≡ notarized rival (0 ∷ 1 ∷ 2 ∷ []) ∷ notarized block (0 ∷ 1 ∷ 2 ∷ []) ∷ []
  pub of_block : IsVerifying group (notarized block (0 ∷ 1 ∷ 2 ∷ []))
  pub of_rival : IsVerifying group (notarized rival (0 ∷ 1 ∷ 2 ∷ []))

none_lived : (member : ℕ) → AreLives group member []
unfolding AreLives
none_lived member = tt

not_in_one : (x y : ℕ) → (x ≡ y → ⊥) → ¬ (Contains (x ∷ []) y)
not_in_one x y n k = elim (Contains-cons_cases x [] y k) [ inl e ↦ n e | inr r ↦ not_in_empty y r ]

pub forged_alive : Hears → IsAlive forged
unfolding lives_by
forged_alive h = record { some = omega arith; term = omega arith; epoch = omega arith; few = omega arith; lives = each }
  where
    each : (member : ℕ) → IsHonest forged member → AreLives group member (forged.lives member)
    each zero honest = lives_sample 0 (hears_both ∷ []) h.history h.typed
    each (suc zero) honest = none_lived 1
    each (suc (suc zero)) honest = none_lived 2
    each (suc (suc (suc zero))) honest = none_lived 3
    each (suc (suc (suc (suc n)))) honest = absurd (omega (arith, honest.0))

pub forged_torn : Hears → IsTorn forged
forged_torn h =
    let a = notarized block (0 ∷ 1 ∷ 2 ∷ []) in
    let b = notarized rival (0 ∷ 1 ∷ 2 ∷ []) in
    let honest : IsHonest forged 0 = (omega arith, not_in_one 3 0 (λ e. omega (arith, e))) in
    record {
      first = a;
      second = b;
      has_first = record { member = 0; honest = honest; had = heard_had (forged.lives 0) a (subst (λ xs. Contains xs a) (sym h.heard) (Contains-there b (a ∷ []) a (Contains-here a []))); verifies = h.of_block };
      has_second = record { member = 0; honest = honest; had = heard_had (forged.lives 0) b (subst (λ xs. Contains xs b) (sym h.heard) (Contains-here b (a ∷ []))); verifies = h.of_rival };
      conflict = (refl, differ);
    }

-- ---- lost journals

pub record Forgets (member : ℕ) : Type 0 where
  pub history : are_blank member (forgetful_acts member) ≡ true
  pub typed : are_typed (forgetful.lives member) ≡ true
  pub came : came_of_pairs (forgetful.lives member) ≡ true

blank_sample : (member : ℕ) (list : List (List Act)) → are_blank member list ≡ true → are_typed (blank_lives member list) ≡ true → AreBlank group member (blank_lives member list)
unfolding blank_lives are_blank AreBlank calls_of
blank_sample member [] e t = tt
blank_sample member (acts ∷ before) e t =
    let made = engine member [] in
    let h = both (is_history made acts) (are_blank member before) e in
    let typed = all_parts fits_call (calls_of (blank_lives member before)) (calls_in (played made acts)) t in (
      record {
        engine = engine_sample member [];
        history = goes made (begun made 0 stops.None ∷ []) acts (begins made) h.0;
        keep = 0;
        left = refl;
        typed = past_typed (played made acts) typed.1;
      },
      blank_sample member before h.1 typed.0,
    )

no_floor : (member : ℕ) (list : List (List Act)) (l : Life) → Contains (blank_lives member list) l → floor_of l ≡ []
unfolding blank_lives engine_of
no_floor member [] l k = absurd (not_in_empty l k)
no_floor member (acts ∷ before) l k = elim (Contains-cons_cases _ (blank_lives member before) l k) [
  | inl e ↦ subst (λ (x : Life). floor_of x ≡ []) e refl
  | inr r ↦ no_floor member before l r
]

either : (a b : Bool) → (a || b) ≡ true → a ≡ false → b ≡ true
either true b e f = absurd (never f)
either false b e f = e

module _ (first : Forgets 0) (third : Forgets 2) (fourth : Forgets 3) (voted : pairs_are_voted ≡ true) where
  each : (member : ℕ) → IsHonest forgetful member → Forgets member
  each zero h = first
  each (suc zero) h = absurd (h.1 (Contains-here 1 []))
  each (suc (suc zero)) h = third
  each (suc (suc (suc zero))) h = fourth
  each (suc (suc (suc (suc n)))) h = absurd (omega (arith, h.0))

  -- who is honest is not the leader
  not_leader : (member : ℕ) → IsHonest forgetful member → (member == 1) ≡ false
  not_leader zero h = refl
  not_leader (suc zero) h = absurd (h.1 (Contains-here 1 []))
  not_leader (suc (suc zero)) h = refl
  not_leader (suc (suc (suc zero))) h = refl
  not_leader (suc (suc (suc (suc n)))) h = absurd (omega (arith, h.0))

  unforged : IsUnforged forgetful
  unforged member s a h signer came e =
      let it = each member h in
      let on = all_at (λ x. list_any (is_pair x) pairs) (flat_map came_in (forgetful.lives member)) (s, a) it.came (came_signed (forgetful.lives member) (no_floor member (forgetful_acts member)) s a came) in
      let pair = one_passes (is_pair (s, a)) pairs on in
      let same = both (a.signer == pair.0.0) (is_same_subject s pair.0.1) pair.2 in
      let is : a.signer ≡ pair.0.0 = eqb-true a.signer pair.0.0 same.0 in
      let test = λ (v : Vote). is_same_subject (vote_subject v) pair.0.1 in
      let sent = either (pair.0.0 == 1) (list_any test (sent_by (forgetful.lives pair.0.0)))
      (all_at (λ (p : ℕ × Subject). p.0 == 1 || list_any (λ v. is_same_subject (vote_subject v) p.1) (sent_by (forgetful.lives p.0))) pairs pair.0 voted pair.1)
      (subst (λ n. (n == 1) ≡ false) is (not_leader a.signer signer)) in
      let found = one_passes test (sent_by (forgetful.lives pair.0.0)) sent in
      subst (λ n. HasVoted (forgetful.lives n) s) (sym is)
      (found.0, found.1, subjects-same (vote_subject found.0) pair.0.1 found.2 ∙ sym (subjects-same s pair.0.1 same.1))

  pub forgetful_lives : IsForgetful forgetful
  forgetful_lives =
      record {
        some = omega arith;
        term = omega arith;
        epoch = omega arith;
        few = omega arith;
        lives = λ member h. (let it = each member h in blank_sample member (forgetful_acts member) it.history it.typed);
        unforged = unforged;
      }

pub forgetful_torn : heard_by (forgetful.lives 2) ≡ notarized block (0 ∷ 1 ∷ 2 ∷ []) ∷ [] → heard_by (forgetful.lives 3) ≡ notarized rival (0 ∷ 1 ∷ 3 ∷ []) ∷ []
    → IsVerifying group (notarized block (0 ∷ 1 ∷ 2 ∷ [])) → IsVerifying group (notarized rival (0 ∷ 1 ∷ 3 ∷ [])) → IsTorn forgetful
forgetful_torn third fourth va vb =
    let a = notarized block (0 ∷ 1 ∷ 2 ∷ []) in
    let b = notarized rival (0 ∷ 1 ∷ 3 ∷ []) in
    record {
      first = a;
      second = b;
      has_first = record { member = 2; honest = (omega arith, not_in_one 1 2 (λ e. omega (arith, e))); had = heard_had (forgetful.lives 2) a (subst (λ xs. Contains xs a) (sym third) (Contains-here a [])); verifies = va };
      has_second = record { member = 3; honest = (omega arith, not_in_one 1 3 (λ e. omega (arith, e))); had = heard_had (forgetful.lives 3) b (subst (λ xs. Contains xs b) (sym fourth) (Contains-here b [])); verifies = vb };
      conflict = (refl, differ);
    }
