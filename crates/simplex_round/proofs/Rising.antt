-- The attestations of accepted votes rise by signer.
use Rattle.std.proofs.Common.{rules, arith, ℕ, ◌≡◌, ◌+◌, ◌≤◌, List, [], ◌∷◌, ◌++◌, nat_cmp, Less, map, filter}
use Rattle.std.proofs.lemmas.Grind.{common_steps}
use Rattle.std.specs.Prelude.{⊤, IsTrue}
use Rattle.std.specs.Map.{values_of, keys_of}
use Rattle.std.specs.List.{AllByRecursion}
use Rattle.std.specs.List.Sorted.{IsStrictlySortedBy}
use Rattle.simplex_wire.specs.declared.attestation.Attestation.{Attestation}
use Rattle.simplex_wire.specs.Fields.{vote_attestation}
use Rattle.simplex_wire.specs.Signatures.{rises_from}
use Rattle.simplex_values.specs.declared.proposal.Subject.{Subject}
use Rattle.simplex_round.specs.declared.ballot.Ballot.{Ballot}
use Rattle.simplex_round.specs.Ballots.{AtSigners}
use Rattle.simplex_round.specs.Assembly.{Scheme, is_valid, checked}

-- the first key is at least this, and each later one above the one before
abbrev pub Rise : ℕ → List (ℕ × Ballot) → Type 0
Rise least [] = ⊤
Rise least (e ∷ es) = (least ≤ e.0) × Rise (e.0 + 1) es

all_above : (k : ℕ) (ks : List ℕ) → AllByRecursion (λ y. nat_cmp k y ≡ Less) ks → AllByRecursion (λ y. k + 1 ≤ y) ks
all_above k [] h = search rules
all_above k (x ∷ ks) h = (grind (arith, common_steps, h.0), all_above k ks h.1)

keys_rise : (least : ℕ) (es : List (ℕ × Ballot)) → AllByRecursion (λ y. least ≤ y) (keys_of es) → IsStrictlySortedBy nat_cmp (keys_of es) → Rise least es
unfolding IsStrictlySortedBy
keys_rise least [] above sorted = search rules
keys_rise least (e ∷ es) above sorted = (above.0, keys_rise (e.0 + 1) es (all_above e.0 (keys_of es) sorted.0) sorted.1)

-- a list that rises from a number rises from each smaller one
rises_from_less : (m n : ℕ) (list : List Attestation) → m ≤ n → IsTrue (rises_from n list) → IsTrue (rises_from m list)
rises_from_less m n [] le h = h
rises_from_less m n (a ∷ list) le h = grind (arith, common_steps, le, h)

rise_valid : (scheme : Scheme) (subject : Subject) (least : ℕ) (es : List (ℕ × Ballot)) → AtSigners es → Rise least es
    → IsTrue (rises_from least (map (λ b. vote_attestation b.vote) (filter (is_valid subject) (map (checked scheme subject) (values_of es)))))
unfolding checked
rise_valid scheme subject least [] at rise = search rules
rise_valid scheme subject least (e ∷ es) at rise =
    let more = rise_valid scheme subject (e.0 + 1) es at.1 rise.1 in
    grind (arith, common_steps, more, at.0, rise.0, rises_from_less least (e.0 + 1) (map (λ b. vote_attestation b.vote) (filter (is_valid subject) (map (checked scheme subject) (values_of es)))))

every_key : (ks : List ℕ) → AllByRecursion (λ y. 0 ≤ y) ks
every_key [] = search rules
every_key (x ∷ ks) = (omega arith, every_key ks)

-- so does a list to which all valid attestations were added
pub valid_rise : (scheme : Scheme) (subject : Subject) (es : List (ℕ × Ballot)) (ballots left : List Ballot) (items : List Attestation)
    → AtSigners es → IsStrictlySortedBy nat_cmp (keys_of es) → values_of es ≡ ballots → left ≡ []
    → items ++ map (λ b. vote_attestation b.vote) (filter (is_valid subject) (map (checked scheme subject) left))
    ≡ map (λ b. vote_attestation b.vote) (filter (is_valid subject) (map (checked scheme subject) ballots))
    → IsTrue (rises_from 0 items)
valid_rise scheme subject es ballots left items at sorted are end all =
    let rise = rise_valid scheme subject 0 es at (keys_rise 0 es (every_key (keys_of es)) sorted) in
    grind (arith, common_steps, rise, are, end, all)
