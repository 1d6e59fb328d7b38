-- The nodes of a setup.
use Rattle.std.proofs.Common.{◌≡◌, ◌<◌, ◌≤◌, ◌+◌, ◌++◌, ◌∷◌, ◌&&◌, [], ℕ, zero, suc, Bool, true, false, List, map, nat_lt, refl, sym, ap, ◌∙◌, arith, append-nil, if◌then◌else◌}
use Rattle.std.proofs.lemmas.Bool.{lt-ltb}
use Rattle.std.proofs.lemmas.List.Concat.{flat_map-append}
use Rattle.std.proofs.lemmas.List.Folds.{list_all-append}
use Rattle.std.specs.List.{flat_map, list_all, range_with_len}
use Rattle.simplex_transcript.specs.declared.node.Node.{Node}
use Rattle.simplex_transcript.specs.declared.setup.Setup.{Setup}
use Rattle.model_run.specs.Kinds.{halves_of, is_node, is_twin, members_of, nodes_at}
use Rattle.simplex_scripts.specs.Coming.{nodes_of}

abbrev node_with : ℕ → ℕ → Node
node_with member half = record { member = member; half = half }

half_exists : (setup : Setup) (member half count : ℕ) → nat_lt member (members_of setup) ≡ true → halves_of setup member ≡ count → nat_lt half count ≡ true
    → is_node setup (node_with member half) ≡ true
half_exists setup member half count there is within =
    ap (λ (b : Bool). b && nat_lt half (halves_of setup member)) there ∙ ap (λ (n : ℕ). nat_lt half n) is ∙ within

one_exists : (setup : Setup) (member : ℕ) → nat_lt member (members_of setup) ≡ true → halves_of setup member ≡ 1
    → list_all (is_node setup) (node_with member 0 ∷ []) ≡ true
one_exists setup member there is = ap (λ (b : Bool). b && true) (half_exists setup member 0 1 there is refl)

two_exist : (setup : Setup) (member : ℕ) → nat_lt member (members_of setup) ≡ true → halves_of setup member ≡ 2
    → list_all (is_node setup) (node_with member 0 ∷ node_with member 1 ∷ []) ≡ true
two_exist setup member there is =
    ap (λ (b : Bool). b && (is_node setup (node_with member 1) && true)) (half_exists setup member 0 2 there is refl)
    ∙ ap (λ (b : Bool). b && true) (half_exists setup member 1 2 there is refl)

-- the nodes of a member with so many halves
abbrev halves : ℕ → ℕ → List Node
halves member count = map (node_with member) (range_with_len 0 count)

-- each node of a member that is there is one of the setup
member_nodes : (setup : Setup) (member : ℕ) → member < members_of setup → list_all (is_node setup) (nodes_at setup member) ≡ true
member_nodes setup member within = by (is_twin setup member) refl
  where
    there : nat_lt member (members_of setup) ≡ true
    there = lt-ltb member (members_of setup) within

    by : (b : Bool) → is_twin setup member ≡ b → list_all (is_node setup) (nodes_at setup member) ≡ true
    by true e =
        let count : halves_of setup member ≡ 2 = ap (λ (b : Bool). if b then 2 else 1) e in
        ap (λ (n : ℕ). list_all (is_node setup) (halves member n)) count ∙ two_exist setup member there count
    by false e =
        let count : halves_of setup member ≡ 1 = ap (λ (b : Bool). if b then 2 else 1) e in
        ap (λ (n : ℕ). list_all (is_node setup) (halves member n)) count ∙ one_exists setup member there count

-- the same of some members
some_nodes : (setup : Setup) (at count : ℕ) → at + count ≤ members_of setup
    → list_all (is_node setup) (flat_map (nodes_at setup) (range_with_len at count)) ≡ true
some_nodes setup at zero within = refl
some_nodes setup at (suc count) within =
    list_all-append (is_node setup) (nodes_at setup at) (flat_map (nodes_at setup) (range_with_len (at + 1) count))
    ∙ ap (λ (b : Bool). b && list_all (is_node setup) (flat_map (nodes_at setup) (range_with_len (at + 1) count))) (member_nodes setup at (omega (arith, within)))
    ∙ some_nodes setup (at + 1) count (omega (arith, within))

-- they all are nodes
pub nodes_exist : (setup : Setup) → list_all (is_node setup) (nodes_of setup) ≡ true
nodes_exist setup = some_nodes setup 0 (members_of setup) (omega arith)

-- one number more
range_last : (at count last : ℕ) → at + count ≡ last → range_with_len at (suc count) ≡ range_with_len at count ++ last ∷ []
range_last at zero last is = let same : at ≡ last = omega (arith, is) in ap (λ (it : ℕ). it ∷ []) same
range_last at (suc count) last is = ap (λ (more : List ℕ). at ∷ more) (range_last (at + 1) count last (omega (arith, is)))

range_more : (count : ℕ) → range_with_len 0 (count + 1) ≡ range_with_len 0 count ++ count ∷ []
range_more count = let on : count + 1 ≡ suc count = omega arith in ap (range_with_len 0) on ∙ range_last 0 count count (omega arith)

-- the nodes of one member more
pub nodes_more : (setup : Setup) (member : ℕ) (nodes : List Node) → nodes ≡ flat_map (nodes_at setup) (range_with_len 0 member)
    → nodes ++ nodes_at setup member ≡ flat_map (nodes_at setup) (range_with_len 0 (member + 1))
nodes_more setup member nodes is =
    ap (λ (all : List Node). all ++ nodes_at setup member) is
    ∙ sym (ap (λ (all : List ℕ). flat_map (nodes_at setup) all) (range_more member)
    ∙ flat_map-append (nodes_at setup) (range_with_len 0 member) (member ∷ [])
    ∙ ap (λ (more : List Node). flat_map (nodes_at setup) (range_with_len 0 member) ++ more) (append-nil (nodes_at setup member)))
