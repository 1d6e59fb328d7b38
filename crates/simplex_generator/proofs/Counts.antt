-- What is counted where one count is put in another's place.
use Rattle.std.proofs.Common.{◌≡◌, ◌==◌, ◌&&◌, ℕ, Bool, true, false, not, List, [], ◌∷◌, ◌++◌, refl, sym, ap, ◌∙◌, if◌then◌else◌, eqb-true}
use Rattle.std.specs.Prelude.{filter}
use Rattle.simplex_transcript.specs.declared.node.Node.{Node}
use Rattle.model_run.specs.Kinds.{is_same_node}
use Rattle.simplex_generator.specs.declared.unanswered.Count.{Count}
use Rattle.simplex_generator.specs.Unanswered.{count_in}

both : (a b : Bool) → (a && b) ≡ true → (a ≡ true) × (b ≡ true)
both true b e = (refl, e)
both false b e = cc

same_node : (a b : Node) → is_same_node a b ≡ true → a ≡ b
same_node a b e =
    let parts = both (a.member == b.member) (a.half == b.half) e in
    whole a.member b.member a.half b.half (eqb-true a.member b.member parts.0) (eqb-true a.half b.half parts.1)
  where
    whole : (m n g h : ℕ) → m ≡ n → g ≡ h → ◌≡◌ {A = Node} (record { member = m; half = g }) (record { member = n; half = h })
    whole m n g h i k = rw (i, k) refl

-- the count of a node, where the others are these
abbrev pub others : Node → List Count → List Count
others node counts = filter (λ count. not (is_same_node count.node node)) counts

abbrev of : Node → ℕ → Count
of node asked = record { node = node; asked = asked }

-- of two nodes, of which one is a count's, the answers that the tests can give together
dropped : (node other : Node) (count : Count) (asked rest : ℕ) (b : Bool) → is_same_node count.node node ≡ true → is_same_node count.node other ≡ b
    → (if is_same_node node other then asked else rest) ≡ (if is_same_node node other then asked else (if b then count.asked else rest))
dropped node other count asked rest true same is =
    let at : count.node ≡ node = same_node count.node node same in
    let here : is_same_node node other ≡ true = ap (λ n. is_same_node n other) (sym at) ∙ is in
    rw here refl
dropped node other count asked rest false same is = refl

kept : (node other : Node) (count : Count) (asked rest : ℕ) (b : Bool) → is_same_node count.node node ≡ false → is_same_node count.node other ≡ b
    → (if b then count.asked else (if is_same_node node other then asked else rest)) ≡ (if is_same_node node other then asked else (if b then count.asked else rest))
kept node other count asked rest false apart is = refl
kept node other count asked rest true apart is = by (is_same_node node other) refl
  where
    by : (c : Bool) → is_same_node node other ≡ c → count.asked ≡ (if c then asked else count.asked)
    by false e = refl
    by true e =
        let at : node ≡ other = same_node node other e in
        let here : is_same_node count.node node ≡ true = ap (λ n. is_same_node count.node n) at ∙ is in
        absurd (cc)

-- one count more, before which this holds of the others
one_more : (node other : Node) (asked : ℕ) (count : Count) (counts : List Count) (b : Bool) → is_same_node count.node node ≡ b
    → count_in (others node counts ++ of node asked ∷ []) other ≡ (if is_same_node node other then asked else count_in counts other)
    → count_in ((if not b then count ∷ others node counts else others node counts) ++ of node asked ∷ []) other
    ≡ (if is_same_node node other then asked else (if is_same_node count.node other then count.asked else count_in counts other))
unfolding count_in
one_more node other asked count counts true e rest = rest ∙ dropped node other count asked (count_in counts other) (is_same_node count.node other) e refl
one_more node other asked count counts false e rest =
    ap (λ below. if is_same_node count.node other then count.asked else below) rest
    ∙ kept node other count asked (count_in counts other) (is_same_node count.node other) e refl

pub count_set : (node other : Node) (asked : ℕ) (counts : List Count)
    → count_in (others node counts ++ of node asked ∷ []) other ≡ (if is_same_node node other then asked else count_in counts other)
unfolding count_in
count_set node other asked [] = refl
count_set node other asked (count ∷ counts) = one_more node other asked count counts (is_same_node count.node node) refl (count_set node other asked counts)
