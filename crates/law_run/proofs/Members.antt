-- What follows from the kind of a member.
use Rattle.std.proofs.Common.{◌≡◌, ℕ, zero, suc, ◌+◌, ◌<◌, not, Bool, true, false, List, [], ◌∷◌, length, slice_get, Contains, refl, sym, subst, arith, if◌then◌else◌, inl, inr}
use Rattle.std.specs.Option.{option_map_or, unwrap_or}
use Rattle.std.proofs.lemmas.Bool.Decides.{nat_tests}
use Rattle.std.proofs.lemmas.Grind.{common_steps}
use Rattle.simplex_transcript.specs.declared.node.Node.{Node}
use Rattle.simplex_transcript.specs.declared.setup.Setup.{Setup}
use Rattle.simplex_transcript.specs.declared.setup.MemberKind.{MemberKind}
use Rattle.simplex_transcript.specs.declared.setup.MemberKind.TheVariants as kinds
use Rattle.model_run.specs.Kinds.{members_of, is_faulty, is_faulty_member, is_honest, has_engine, runs_engine, has_halves, is_twin, is_node, is_same_node}
use Rattle.law_agreement.proofs.ListFacts.{not_in_empty, Contains-here, Contains-there, Contains-cons_cases}
use Rattle.law_run.specs.Faulty.{faulty_from, faulty_of}
use Rattle.law_run.proofs.Further.{same_node}
use Rattle.model_run.specs.Members.{kind_of}

-- what each kind that passes one test does of another
module _ (test other : MemberKind → Bool) (each : (kind : MemberKind) → test kind ≡ true → other kind ≡ true) where
  kinds_pass : (ms : List MemberKind) (m : ℕ) → option_map_or test (slice_get ms m) false ≡ true → option_map_or other (slice_get ms m) false ≡ true
  kinds_pass [] m e = e
  kinds_pass (k ∷ ms) zero e = each k e
  kinds_pass (k ∷ ms) (suc m) e = kinds_pass ms m e

-- what each kind that fails one test does of another, where there is such a member
module _ (test other : MemberKind → Bool) (each : (kind : MemberKind) → test kind ≡ false → other kind ≡ true) where
  kinds_fail : (ms : List MemberKind) (m : ℕ) → m < length ms → option_map_or test (slice_get ms m) false ≡ false → option_map_or other (slice_get ms m) false ≡ true
  kinds_fail [] m lt e = absurd (omega (arith, lt))
  kinds_fail (k ∷ ms) zero lt e = each k e
  kinds_fail (k ∷ ms) (suc m) lt e = kinds_fail ms m (omega (arith, lt)) e

without_engine : (kind : MemberKind) → has_engine kind ≡ false → is_faulty kind ≡ true
without_engine kinds.Honest e = cc
without_engine kinds.Silent e = refl
without_engine kinds.Conflicter e = refl
without_engine kinds.Equivocator e = refl
without_engine kinds.Impersonator e = refl
without_engine kinds.Nuller e = refl
without_engine kinds.NullifyOnly e = refl
without_engine (kinds.Outdated delta) e = refl
without_engine kinds.Reconfigurer e = refl
without_engine kinds.Corrupt e = refl
without_engine kinds.Unrecovering e = refl
without_engine kinds.Twin e = refl

not_honest : (kind : MemberKind) → not (is_faulty kind) ≡ false → is_faulty kind ≡ true
not_honest kinds.Honest e = cc
not_honest kinds.Silent e = refl
not_honest kinds.Conflicter e = refl
not_honest kinds.Equivocator e = refl
not_honest kinds.Impersonator e = refl
not_honest kinds.Nuller e = refl
not_honest kinds.NullifyOnly e = refl
not_honest (kinds.Outdated delta) e = refl
not_honest kinds.Reconfigurer e = refl
not_honest kinds.Corrupt e = refl
not_honest kinds.Unrecovering e = refl
not_honest kinds.Twin e = refl

twins_faulty : (kind : MemberKind) → has_halves kind ≡ true → is_faulty kind ≡ true
twins_faulty kinds.Honest e = cc
twins_faulty kinds.Silent e = refl
twins_faulty kinds.Conflicter e = refl
twins_faulty kinds.Equivocator e = refl
twins_faulty kinds.Impersonator e = refl
twins_faulty kinds.Nuller e = refl
twins_faulty kinds.NullifyOnly e = refl
twins_faulty (kinds.Outdated delta) e = refl
twins_faulty kinds.Reconfigurer e = refl
twins_faulty kinds.Corrupt e = refl
twins_faulty kinds.Unrecovering e = refl
twins_faulty kinds.Twin e = refl

pub engineless_faulty : (setup : Setup) (m : ℕ) → m < members_of setup → runs_engine setup m ≡ false → is_faulty_member setup m ≡ true
engineless_faulty setup m lt e = kinds_fail has_engine is_faulty without_engine setup.members m lt e

pub unhonest_faulty : (setup : Setup) (m : ℕ) → m < members_of setup → is_honest setup m ≡ false → is_faulty_member setup m ≡ true
unhonest_faulty setup m lt e = kinds_fail (λ kind. not (is_faulty kind)) is_faulty not_honest setup.members m lt e

pub twin_faulty : (setup : Setup) (m : ℕ) → is_twin setup m ≡ true → is_faulty_member setup m ≡ true
twin_faulty setup m e = kinds_pass has_halves is_faulty twins_faulty setup.members m e

-- a member that is not faulty is of the honest kind
unfaulty : (kind : MemberKind) → is_faulty kind ≡ false → kind ≡ kinds.Honest
unfaulty kinds.Honest e = refl
unfaulty kinds.Silent e = cc
unfaulty kinds.Conflicter e = cc
unfaulty kinds.Equivocator e = cc
unfaulty kinds.Impersonator e = cc
unfaulty kinds.Nuller e = cc
unfaulty kinds.NullifyOnly e = cc
unfaulty (kinds.Outdated delta) e = cc
unfaulty kinds.Reconfigurer e = cc
unfaulty kinds.Corrupt e = cc
unfaulty kinds.Unrecovering e = cc
unfaulty kinds.Twin e = cc

kind_at : (ms : List MemberKind) (m : ℕ) → option_map_or is_faulty (slice_get ms m) false ≡ false → unwrap_or (slice_get ms m) kinds.Honest ≡ kinds.Honest
kind_at [] m e = refl
kind_at (k ∷ ms) zero e = unfaulty k e
kind_at (k ∷ ms) (suc m) e = kind_at ms m e

pub unfaulty_kind : (setup : Setup) (m : ℕ) → is_faulty_member setup m ≡ false → kind_of setup m ≡ kinds.Honest
unfaulty_kind setup m e = kind_at setup.members m e

-- a faulty member is listed
listed_from : (i : ℕ) (ms : List MemberKind) (m : ℕ) → option_map_or is_faulty (slice_get ms m) false ≡ true → Contains (faulty_from i ms) (i + m)
listed_from i [] m e = cc
listed_from i (k ∷ ms) zero e =
    let same : i + 0 ≡ i = omega arith in
    subst (λ (b : Bool). Contains (if b then i ∷ faulty_from (i + 1) ms else faulty_from (i + 1) ms) (i + 0)) (sym e)
    (subst (Contains (i ∷ faulty_from (i + 1) ms)) (sym same) (Contains-here i (faulty_from (i + 1) ms)))
listed_from i (k ∷ ms) (suc m) e =
    (let same : (i + 1) + m ≡ i + suc m = omega arith in at (is_faulty k) (subst (Contains (faulty_from (i + 1) ms)) same (listed_from (i + 1) ms m e)))
  where
    at : (b : Bool) → Contains (faulty_from (i + 1) ms) (i + suc m) → Contains (if b then i ∷ faulty_from (i + 1) ms else faulty_from (i + 1) ms) (i + suc m)
    at true later = Contains-there i (faulty_from (i + 1) ms) (i + suc m) later
    at false later = later

pub faulty_listed : (setup : Setup) (m : ℕ) → is_faulty_member setup m ≡ true → Contains (faulty_of setup) m
faulty_listed setup m e = (let same : 0 + m ≡ m = omega arith in subst (Contains (faulty_of setup)) same (listed_from 0 setup.members m e))

-- and only such ones are
from_listed : (i : ℕ) (ms : List MemberKind) (m : ℕ) → Contains (faulty_from i ms) m → (k : ℕ) × (m ≡ i + k) × (option_map_or is_faulty (slice_get ms k) false ≡ true)
from_listed i [] m h = absurd (not_in_empty m h)
from_listed i (kind ∷ ms) m h = at (is_faulty kind) refl (λ r. from_listed (i + 1) ms m r) h
  where
    step : (k : ℕ) → m ≡ (i + 1) + k → m ≡ i + suc k
    step k e = omega (arith, e)

    later : ((k : ℕ) × (m ≡ (i + 1) + k) × (option_map_or is_faulty (slice_get ms k) false ≡ true)) → (k : ℕ) × (m ≡ i + k) × (option_map_or is_faulty (slice_get (kind ∷ ms) k) false ≡ true)
    later x = (suc x.0, step x.0 x.1, x.2)

    here : i ≡ m → m ≡ i + 0
    here e = omega (arith, e)

    at : (b : Bool) → is_faulty kind ≡ b → (Contains (faulty_from (i + 1) ms) m → (k : ℕ) × (m ≡ (i + 1) + k) × (option_map_or is_faulty (slice_get ms k) false ≡ true))
        → Contains (if b then i ∷ faulty_from (i + 1) ms else faulty_from (i + 1) ms) m
        → (k : ℕ) × (m ≡ i + k) × (option_map_or is_faulty (slice_get (kind ∷ ms) k) false ≡ true)
    at true e more r = elim (Contains-cons_cases i (faulty_from (i + 1) ms) m r) [ inl same ↦ (0, here same, e) | inr rest ↦ later (more rest) ]
    at false e more r = later (more r)

pub listed_faulty : (setup : Setup) (m : ℕ) → Contains (faulty_of setup) m → is_faulty_member setup m ≡ true
listed_faulty setup m h =
    let x = from_listed 0 setup.members m h in
    let e = x.1 in
    let same : m ≡ x.0 = omega (arith, e) in
    subst (λ k. is_faulty_member setup k ≡ true) (sym same) x.2

-- the member of a node is there, and the node is its first unless it is faulty
pub is_there : (setup : Setup) (at : Node) → is_node setup at ≡ true → at.member < members_of setup
is_there setup at e = grind (arith, nat_tests, common_steps, e)

-- a node of another member
pub other_node : (setup : Setup) (P : ℕ → Type 0) (at node : Node) → P at.member → ¬ (P node.member) → is_same_node at node ≡ false
other_node setup P at node p q = by (is_same_node at node) refl
  where
    by : (b : Bool) → is_same_node at node ≡ b → is_same_node at node ≡ false
    by true e = absurd (q (subst (λ (n : Node). P n.member) (same_node at node e) p))
    by false e = e
