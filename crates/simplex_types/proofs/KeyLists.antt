-- The keys of the first members, one by one.
use Rattle.std.proofs.Common.{◌≡◌, ℕ, zero, suc, ◌+◌, ◌<◌, List, [], ◌∷◌, ◌++◌, length, get_or, Some, refl, sym, ap, ◌∙◌, arith, inl, inr}
use Rattle.std.specs.Prelude.{slice_get}
use Rattle.std.proofs.Math.Seq.{get_or-append_seam}
use Rattle.std.proofs.lemmas.Bool.{cases_lt}
use Rattle.std.proofs.lemmas.List.{get_or_append_left}
use Rattle.std.proofs.lemmas.Option.{slice_get-get_or}
use Rattle.std.proofs.lemmas.Grind.{common_steps}
use Rattle.simplex_types.specs.Keyed.{key_of, keys_of}

pub keys_none : (base : ℕ) → keys_of base 0 ≡ []
unfolding keys_of
keys_none base = refl

pub keys_more : (base n : ℕ) → keys_of base (n + 1) ≡ keys_of base n ++ key_of base n ∷ []
unfolding keys_of
keys_more base n = grind arith

pub keys_length : (base n : ℕ) → length (keys_of base n) ≡ n
unfolding keys_of
keys_length base zero = refl
keys_length base (suc n) = grind (arith, common_steps, keys_length base n)

key_at : (base n i : ℕ) (d : List ℕ) → i < n → get_or (keys_of base n) i d ≡ key_of base i
unfolding keys_of
key_at base zero i d lt = absurd (omega arith)
key_at base (suc n) i d lt =
    elim (cases_lt i n) [
      | inl below ↦ get_or_append_left (keys_of base n) (key_of base n ∷ []) d i (rw (keys_length base n) below) ∙ key_at base n i d below
      | inr above ↦
          let here : i ≡ n = omega arith in
          let last : i ≡ length (keys_of base n) = here ∙ sym (keys_length base n) in
          ap (λ (k : ℕ). get_or (keys_of base n ++ key_of base n ∷ []) k d) last
          ∙ get_or-append_seam (keys_of base n) (key_of base n) [] d
          ∙ ap (key_of base) (sym here)
    ]

pub key_get : (base n i : ℕ) → i < n → slice_get (keys_of base n) i ≡ Some (key_of base i)
key_get base n i lt = slice_get-get_or (keys_of base n) i [] (rw (keys_length base n) lt) ∙ ap (λ (k : List ℕ). Some k) (key_at base n i [] lt)
