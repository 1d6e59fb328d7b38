-- Files of no section.
use Rattle.std.proofs.Common.{◌≡◌, ◌<◌, ℕ, List, Option, None, Result, Ok, Err, sym, ap, subst, ◌∙◌}
use Rattle.std.specs.Result.{OnOk}
use Rattle.simplex_journal.specs.Journal.{Section, pruned}
use Rattle.simplex_disk.specs.declared.segment.Segment.{Segment}
use Rattle.simplex_disk.specs.Calls.{Call, content}
use Rattle.simplex_disk.specs.Left.{IsAbsent}
use Rattle.simplex_disk.specs.Index.{StandsAt, IsIndexed, IsLeaving, section_numbered, sections_in}
use Rattle.simplex_disk.proofs.Entries.{numbered-none_back}
use Rattle.simplex_disk.proofs.Prunes.{numbered_pruned}

pub on_both : {T E P Q R : Type 0} (r : Result T E) → (P → Q → R) → OnOk r P → OnOk r Q → OnOk r R
on_both (Ok x) f p q = f p q
on_both (Err e) f p q = tt

module _ (C : ℕ → Option (List ℕ)) (es : List (ℕ × Segment)) (leaving : Option ℕ) (H : List Call) (indexed : IsIndexed es leaving H) where
  pub absent_here : (n : ℕ) → ¬ IsLeaving leaving n → section_numbered n (sections_in C es) ≡ None → IsAbsent n H
  absent_here n stays none = subst (λ (o : Option Segment). StandsAt n H o) (numbered-none_back C n es none) (indexed.at n stays)

  pub no_other : ((n : ℕ) → content n H ≡ C n) → (n : ℕ) → ¬ IsLeaving leaving n → section_numbered n (sections_in C es) ≡ None → C n ≡ None
  no_other reads n stays none = sym (reads n) ∙ (absent_here n stays none).content

  -- after a prune
  pub absent_below : (least : ℕ) (before : List Section) → sections_in C es ≡ pruned least before → leaving ≡ None → (n : ℕ) → n < least → IsAbsent n H
  absent_below least before is gone n below = absent_here n (λ leaves. let none : IsLeaving None n = subst (λ (l : Option ℕ). IsLeaving l n) gone leaves in none)
      (ap (λ (s : List Section). section_numbered n s) is ∙ numbered_pruned n least before below)
