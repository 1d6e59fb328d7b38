-- Logs of one member behind another.
use Rattle.std.proofs.Common.{◌≡◌, ℕ, ◌+◌, ◌<◌, Bool, true, false, List, [], ◌∷◌, ◌++◌, map, length, get_or, take, sym, ap, ◌∙◌, arith, length-take-le}
use Rattle.std.specs.Prelude.{if◌then◌else◌}
use Rattle.std.proofs.lemmas.List.{map-append, take_more}
use Rattle.simplex_transcript.specs.declared.node.Node.{Node}
use Rattle.simplex_transcript.specs.declared.setup.MemberKind.{MemberKind}
use Rattle.law_log.specs.Logs.{honest_from}
use Rattle.model_run.specs.Kinds.{is_faulty, node_of}

honest_append : (i : ℕ) (kinds later : List MemberKind) → honest_from i (kinds ++ later) ≡ honest_from i kinds ++ honest_from (i + length kinds) later
honest_append i [] later = ap (λ (n : ℕ). honest_from n later) (omega arith)
honest_append i (kind ∷ kinds) later = at (is_faulty kind) (honest_append (i + 1) kinds later)
  where
    so_many : i + 1 + length kinds ≡ i + length (kind ∷ kinds)
    so_many = omega arith

    at : (b : Bool) → honest_from (i + 1) (kinds ++ later) ≡ honest_from (i + 1) kinds ++ honest_from (i + 1 + length kinds) later
        → (if b then honest_from (i + 1) (kinds ++ later) else node_of i ∷ honest_from (i + 1) (kinds ++ later))
        ≡ (if b then honest_from (i + 1) kinds else node_of i ∷ honest_from (i + 1) kinds) ++ honest_from (i + length (kind ∷ kinds)) later
    at true rest = rest ∙ ap (λ (n : ℕ). honest_from (i + 1) kinds ++ honest_from n later) so_many
    at false rest = ap (λ (nodes : List Node). node_of i ∷ nodes) (rest ∙ ap (λ (n : ℕ). honest_from (i + 1) kinds ++ honest_from n later) so_many)

-- one more member
pub one_more : {A : Type 0} (f : Node → A) (kinds : List MemberKind) (i : ℕ) (none : MemberKind) → i < length kinds
    → map f (honest_from 0 (take i kinds)) ++ map f (honest_from i (get_or kinds i none ∷ [])) ≡ map f (honest_from 0 (take (i + 1) kinds))
one_more f kinds i none low =
    let kind = get_or kinds i none in
    let many : 0 + length (take i kinds) ≡ i = omega (arith, length-take-le i kinds (omega arith)) in
    sym (map-append f (honest_from 0 (take i kinds)) (honest_from i (kind ∷ [])))
    ∙ ap (map f) (ap (λ (n : ℕ). honest_from 0 (take i kinds) ++ honest_from n (kind ∷ [])) (sym many)
    ∙ sym (honest_append 0 (take i kinds) (kind ∷ []))
    ∙ ap (honest_from 0) (sym (take_more kinds i none low)))
