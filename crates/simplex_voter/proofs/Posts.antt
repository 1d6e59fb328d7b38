-- Messages that are put one by one, each where it is for.
use Rattle.std.proofs.Common.{◌≡◌, ℕ, ◌+◌, List, [], ◌∷◌, ◌++◌, drop, Option, Some, None, refl, sym, subst}
use Rattle.std.specs.List.{filter_map, cons_option}
use Rattle.simplex_values.specs.declared.feedback.Feedback.{Feedback}
use Rattle.simplex_mailbox.specs.Post.{Posted}

module _ {S M H : Type 0} (puts : S → M → Feedback → S → Type 0) (for_post : H → Option M) where
  posted-append : (a : S) (xs : List M) (b : S) (ys : List M) (c : S) → Posted puts a xs b → Posted puts b ys c → Posted puts a (xs ++ ys) c
  posted-append a [] b ys c p q = subst (λ (v : S). Posted puts v ys c) (sym p) q
  posted-append a (x ∷ xs) b ys c p q = (p.0, p.1, posted-append p.0 xs b ys c p.2 q)

  one-first : (message : H) (rest : List H) → filter_map for_post (message ∷ rest) ≡ filter_map for_post (message ∷ []) ++ filter_map for_post rest
  one-first message rest =
      elim (for_post message) as (λ o. cons_option o (filter_map for_post rest) ≡ cons_option o [] ++ filter_map for_post rest) [ None ↦ refl | Some m ↦ refl ]

  -- once what is left is put too, all is put
  abbrev pub Posting : S → List H → ℕ → S → Type 0
  Posting before messages i now = (after : S) → Posted puts now (filter_map for_post (drop i messages)) after → Posted puts before (filter_map for_post messages) after

  -- one more was put
  pub posting-item : (before now then : S) (messages : List H) (i : ℕ) (message : H) → drop i messages ≡ message ∷ drop (i + 1) messages
      → Posted puts now (filter_map for_post (message ∷ [])) then → Posting before messages i now → Posting before messages (i + 1) then
  posting-item before now then messages i message is put posting =
      λ after left. posting after (rw is (rw (one-first message (drop (i + 1) messages)) (posted-append now (filter_map for_post (message ∷ [])) then (filter_map for_post (drop (i + 1) messages)) after put left)))
