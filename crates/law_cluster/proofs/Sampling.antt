-- The sample of four members meets all premises.
use Rattle.std.proofs.Common.{◌≡◌, ℕ, zero, suc, ◌<◌, ◌^◌, ◌==◌, ◌&&◌, nat_lt, Bool, true, List, [], ◌∷◌, ◌++◌, length, map, Contains, refl, sym, ap, ◌∙◌, subst, inl, inr, ◌⊎◌, arith, eqb-true, ltb-true}
use Rattle.std.specs.List.{flat_map, list_all, list_any}
use Rattle.std.proofs.lemmas.List.Elements.{Contains-append_left, Contains-append_right}
use Rattle.simplex_values.specs.declared.plan.Channel.{Channel}
use Rattle.simplex_values.specs.declared.proposal.Proposal.{Proposal}
use Rattle.simplex_values.specs.declared.proposal.Subject.{Subject}
use Rattle.simplex_values.specs.declared.round.Round.{Round}
use Rattle.simplex_values.specs.Terms.{greatest_view}
use Rattle.simplex_wire.specs.declared.artifact.Artifact.{Artifact}
use Rattle.simplex_wire.specs.declared.artifact.Artifact.TheVariants as artifacts
use Rattle.simplex_wire.specs.declared.attestation.Attestation.{Attestation}
use Rattle.simplex_wire.specs.declared.certificate.Certificate.{Certificate}
use Rattle.simplex_wire.specs.declared.vote.Vote.{Vote}
use Rattle.simplex_wire.specs.Fields.{vote_subject, certificate_subject, certificate_signatures}
use Rattle.simplex_wire.specs.Fits.{FitsRound, FitsProposal}
use Rattle.simplex_journal.specs.Journal.{Section}
use Rattle.simplex_round.specs.Votes.{is_same_subject}
use Rattle.simplex_messages.specs.declared.call.Call.{Call}
use Rattle.simplex_messages.specs.declared.call.Call.TheVariants as calls
use Rattle.simplex_messages.specs.declared.step.Stop.TheVariants as stops
use Rattle.model_steps.specs.Engine as engines
use Rattle.model_steps.specs.Engine.{EngineMade, Did, Taken, runs, begun}
use Rattle.model_run.specs.Members.{rules_of, batcher_of, resolver_of, engine_of}
use Rattle.law_agreement.proofs.ListFacts.{not_in_empty, Contains-here, Contains-cons_cases}
use Rattle.law_member.proofs.Certifying.{subjects-same}
use Rattle.law_member.proofs.Looking.{one_passes}
use Rattle.law_run.specs.Backed.{certificate_on}
use Rattle.law_run.specs.Fitting.{RecordFits, CallFits}
use Rattle.law_run.specs.Sayings.{Each}
use Rattle.law_run.specs.Voting.{vote_on}
use Rattle.law_run.proofs.Agreeing.{into_flat_map}
use Rattle.law_run.proofs.BackingNaming.{in_map}
use Rattle.law_run.proofs.Good.{both, AllBytes, to_bytes}
use Rattle.law_run.proofs.Telling.{some_is}
use Rattle.law_cluster.specs.Lives.{Life, IsHearing, IsStep, IsReply, IsHistory, IsEngineOf, AreLives, view_in, left_by}
use Rattle.law_cluster.specs.Signatures as signatures
use Rattle.law_cluster.specs.Signatures.{calls_in, calls_of, sent_by, HasVoted, Brings, InTaken, Came, floor_of}
use Rattle.law_cluster.specs.Cluster.{IsHonest, IsMostlyHonest}
use Rattle.law_cluster.specs.Samples.{Act, Hear, Step, Reply, did_by, play, goes_on, played, is_history, engine, lives_by, are_histories, fits_round, fits_proposal, fits_record, fits_call, are_typed, signed_vote, signed_on, signed_in, came_in, is_on, came_on, voted_on, group, four, acts_of, subjects_voted, signed_by}

-- ---- a history

next : (made : EngineMade) (past : List Did) (act : Act) → nat_lt (view_in made past) greatest_view ≡ true → IsHearing made past (did_by made past act) ⊎ (IsStep made past (did_by made past act) ⊎ IsReply (did_by made past act))
next made past (Hear sender channel bytes) low = inl (record { sender = sender; channel = channel; bytes = bytes; now = length past; is = refl })
next made past (Step source stop) low = inr (inl (record { source = source; low = ltb-true (view_in made past) greatest_view low; now = length past; stop = stop; is = refl }))
next made past (Reply number answer) low = inr (inr (record { number = number; answer = answer; now = length past; is = refl }))

pub goes : (made : EngineMade) (past : List Did) (acts : List Act) → IsHistory made past → goes_on made past acts ≡ true → IsHistory made (play made past acts)
unfolding play goes_on IsHistory
goes made past [] h e = h
goes made past (act ∷ acts) h e =
    let rest = both (runs past && nat_lt (view_in made past) greatest_view) (goes_on made (did_by made past act ∷ past) acts) e in
    let now = both (runs past) (nat_lt (view_in made past) greatest_view) rest.0 in
    goes made (did_by made past act ∷ past) acts (inr (record { running = now.0; next = next made past act now.1 }, h)) rest.1

pub begins : (made : EngineMade) → IsHistory made (begun made 0 stops.None ∷ [])
unfolding IsHistory
begins made = inl (refl, record { now = 0; stop = stops.None; is = refl })

-- ---- an engine

pub engine_sample : (member : ℕ) (js : List Section) → IsEngineOf group member js (engine member js)
unfolding engine_of batcher_of resolver_of rules_of
engine_sample member js =
    record {
      journal = λ now. refl;
      floor = _;
      stands = λ now. refl;
      sound = tt;
      rules = λ now. record { term = refl; epoch = refl; signs = λ s a e. sym (ap (λ (x : Attestation). x.signer) (some_is (signed_by member) a e)) };
      scheme = record { members = refl; signers = λ s a e. ltb-true a.signer 4 e };
      counts = refl;
      verifies = refl;
      resolver_counts = refl;
      resolver_verifies = refl;
    }

-- ---- values keep to their types

pub all_at : {A : Type 0} (test : A → Bool) (xs : List A) (x : A) → list_all test xs ≡ true → Contains xs x → test x ≡ true
all_at test [] x e k = absurd (not_in_empty x k)
all_at test (y ∷ xs) x e k =
    let p = both (test y) (list_all test xs) e in
    elim (Contains-cons_cases y xs x k) [ inl same ↦ subst (λ z. test z ≡ true) same p.0 | inr r ↦ all_at test xs x p.1 r ]

pub all_parts : {A : Type 0} (test : A → Bool) (xs ys : List A) → list_all test (xs ++ ys) ≡ true → (list_all test xs ≡ true) × (list_all test ys ≡ true)
all_parts test [] ys e = (refl, e)
all_parts test (x ∷ xs) ys e =
    let p = both (test x) (list_all test (xs ++ ys)) e in
    let rest = all_parts test xs ys p.1 in
    (subst (λ b. (b && list_all test xs) ≡ true) (sym p.0) rest.0, rest.1)

bytes_fit : (xs : List ℕ) → list_all (λ b. nat_lt b 256) xs ≡ true → AllBytes xs
bytes_fit [] e = tt
bytes_fit (x ∷ xs) e = (let p = both (nat_lt x 256) (list_all (λ b. nat_lt b 256) xs) e in (ltb-true x 256 p.0, bytes_fit xs p.1))

round_fits : (r : Round) → fits_round r ≡ true → FitsRound r
round_fits r e = (let p = both (nat_lt r.epoch (2 ^ 64)) (nat_lt r.view (2 ^ 64)) e in (ltb-true r.epoch (2 ^ 64) p.0, ltb-true r.view (2 ^ 64) p.1))

proposal_fits : (p : Proposal) → fits_proposal p ≡ true → FitsProposal p
proposal_fits p e =
    let last = both (fits_round p.round && nat_lt p.parent (2 ^ 64) && length p.payload == 32) (list_all (λ b. nat_lt b 256) p.payload) e in
    let long = both (fits_round p.round && nat_lt p.parent (2 ^ 64)) (length p.payload == 32) last.0 in
    let first = both (fits_round p.round) (nat_lt p.parent (2 ^ 64)) long.0 in
    (round_fits p.round first.0, (ltb-true p.parent (2 ^ 64) first.1, record { len = eqb-true (length p.payload) 32 long.1; each = to_bytes p.payload (bytes_fit p.payload last.1) }))

record_typed : (a : Artifact) → fits_record a ≡ true → RecordFits a
record_typed (artifacts.Notarize v) e = proposal_fits v.proposal e
record_typed (artifacts.Nullify v) e = round_fits v.round e
record_typed (artifacts.Finalize v) e = proposal_fits v.proposal e
record_typed (artifacts.Notarization c) e = tt
record_typed (artifacts.Nullification c) e = tt
record_typed (artifacts.Finalization c) e = tt
record_typed (artifacts.Certification r good) e = tt

call_typed : (c : Call) → fits_call c ≡ true → CallFits c
call_typed (calls.Append n a) e = record_typed a e
call_typed (calls.Sync n) e = tt
call_typed (calls.Prune n) e = tt
call_typed (calls.Send channel to bytes) e = tt
call_typed (calls.Report activity) e = tt
call_typed (calls.Relay payload plan) e = tt
call_typed (calls.Block who why) e = tt

calls_typed : (cs : List Call) → list_all fits_call cs ≡ true → Each CallFits cs
calls_typed [] e = tt
calls_typed (c ∷ cs) e = (let p = both (fits_call c) (list_all fits_call cs) e in (call_typed c p.0, calls_typed cs p.1))

pub past_typed : (past : List Did) → list_all fits_call (calls_in past) ≡ true → Each (λ (did : Did). Each CallFits did.out.calls) past
unfolding calls_in
past_typed [] e = tt
past_typed (did ∷ past) e = (let p = all_parts fits_call (calls_in past) did.out.calls e in (calls_typed did.out.calls p.1, past_typed past p.0))

-- ---- lives

pub lives_sample : (member : ℕ) (list : List (List Act)) → are_histories member list ≡ true → are_typed (lives_by member list) ≡ true → AreLives group member (lives_by member list)
unfolding lives_by are_histories AreLives calls_of
lives_sample member [] e t = tt
lives_sample member (acts ∷ before) e t =
    let old = lives_by member before in
    let made = engine member (left_by old) in
    let h = both (is_history made acts) (are_histories member before) e in
    let typed = all_parts fits_call (calls_of old) (calls_in (played made acts)) t in (
      record {
        engine = engine_sample member (left_by old);
        history = goes made (begun made 0 stops.None ∷ []) acts (begins made) h.0;
        keep = 0;
        left = refl;
        typed = past_typed (played made acts) typed.1;
      },
      lives_sample member before h.1 typed.0,
    )

-- ---- what came

no_floor : (member : ℕ) (list : List (List Act)) (l : Life) → Contains (lives_by member list) l → floor_of l ≡ []
unfolding lives_by engine_of
no_floor member [] l k = absurd (not_in_empty l k)
no_floor member (acts ∷ before) l k = elim (Contains-cons_cases _ (lives_by member before) l k) [
  | inl e ↦ subst (λ (x : Life). floor_of x ≡ []) e refl
  | inr r ↦ no_floor member before l r
]

certificate_signed : (c : Certificate) (s : Subject) (a : Attestation) → signatures.IsSignedBy c s a → Contains (signed_on c) (s, a)
certificate_signed c s a by =
    subst (λ (x : Subject). Contains (signed_on c) (x, a)) by.0 (in_map (λ (y : Attestation). (certificate_subject c, y)) (certificate_signatures c) a by.1)

bytes_signed : (channel : Channel) (bytes : List ℕ) (s : Subject) (a : Attestation) → Brings channel bytes s a → Contains (map signed_vote (vote_on channel bytes) ++ flat_map signed_on (certificate_on channel bytes)) (s, a)
bytes_signed channel bytes s a (inl v) =
    Contains-append_left (map signed_vote (vote_on channel bytes)) (flat_map signed_on (certificate_on channel bytes)) (s, a)
    (subst (λ (x : Subject). Contains (map signed_vote (vote_on channel bytes)) (x, a)) v.2
    (subst (λ (y : Attestation). Contains (map signed_vote (vote_on channel bytes)) (vote_subject v.0, y)) v.3 (in_map signed_vote (vote_on channel bytes) v.0 v.1)))
bytes_signed channel bytes s a (inr c) =
    Contains-append_right (map signed_vote (vote_on channel bytes)) (flat_map signed_on (certificate_on channel bytes)) (s, a)
    (into_flat_map signed_on (certificate_on channel bytes) c.0 (s, a) c.1 (certificate_signed c.0 s a c.2))

taken_signed : (t : Taken) (s : Subject) (a : Attestation) → InTaken t s a → Contains (signed_in t) (s, a)
taken_signed (engines.Heard sender channel bytes) s a h = bytes_signed channel bytes s a h
taken_signed engines.Began s a h = absurd h
taken_signed (engines.Took source message) s a h = absurd h
taken_signed (engines.Replied number answer) s a h = absurd h

pub came_signed : (lives : List Life) → ((l : Life) → Contains lives l → floor_of l ≡ []) → (s : Subject) (a : Attestation) → Came lives s a → Contains (flat_map came_in lives) (s, a)
came_signed lives none s a came =
    let l = came.0 in
    into_flat_map came_in lives l (s, a) came.1
    (elim came.2 [
      | inl item ↦ into_flat_map (λ (did : Did). signed_in did.taken) l.past item.0 (s, a) item.1 (taken_signed item.0.taken s a item.2)
      | inr floor ↦ absurd (not_in_empty floor.0 (subst (λ xs. Contains xs floor.0) (none l came.1) floor.1))
    ])

-- ---- the cluster

-- what is computed of a member
pub record Computes (member : ℕ) : Type 0 where
  pub history : are_histories member (acts_of member) ≡ true
  pub typed : are_typed (four.lives member) ≡ true
  pub came : came_on subjects_voted (four.lives member) ≡ true
  pub voted : voted_on subjects_voted (four.lives member) ≡ true

has_voted : (lives : List Life) (s t : Subject) → voted_on subjects_voted lives ≡ true → Contains subjects_voted t → s ≡ t → HasVoted lives s
has_voted lives s t e k same =
    let test = λ (v : Vote). is_same_subject (vote_subject v) t in
    let found = one_passes test (sent_by lives) (all_at (λ subject. list_any (λ v. is_same_subject (vote_subject v) subject) (sent_by lives)) subjects_voted t e k) in
    (found.0, found.1, subjects-same (vote_subject found.0) t found.2 ∙ sym same)

module _ (first : Computes 0) (second : Computes 1) (third : Computes 2) where
  each : (member : ℕ) → member < 3 → Computes member
  each zero lt = first
  each (suc zero) lt = second
  each (suc (suc zero)) lt = third
  each (suc (suc (suc n))) lt = absurd (omega (arith, lt))

  honest_three : (member : ℕ) → IsHonest four member → member < 3
  honest_three zero h = omega arith
  honest_three (suc zero) h = omega arith
  honest_three (suc (suc zero)) h = omega arith
  honest_three (suc (suc (suc zero))) h = absurd (h.1 (Contains-here 3 []))
  honest_three (suc (suc (suc (suc n)))) h = absurd (omega (arith, h.0))

  unforged : (member : ℕ) (s : Subject) (a : Attestation) → IsHonest four member → IsHonest four a.signer → Came (four.lives member) s a → four.group.verifies s a ≡ true → HasVoted (four.lives a.signer) s
  unforged member s a h signer came e =
      let it = each member (honest_three member h) in
      let by = each a.signer (honest_three a.signer signer) in
      let on = all_at (is_on subjects_voted) (flat_map came_in (four.lives member)) (s, a) it.came (came_signed (four.lives member) (no_floor member (acts_of member)) s a came) in
      let subject = both (list_any (is_same_subject s) subjects_voted) (nat_lt a.signer 3) on in
      let found = one_passes (is_same_subject s) subjects_voted subject.0 in
      has_voted (four.lives a.signer) s found.0 by.voted found.1 (subjects-same s found.0 found.2)

  pub four_honest : IsMostlyHonest four
  four_honest =
      record {
        some = omega arith;
        term = omega arith;
        epoch = omega arith;
        few = omega arith;
        lives = λ member h. (let it = each member (honest_three member h) in lives_sample member (acts_of member) it.history it.typed);
        unforged = unforged;
      }
