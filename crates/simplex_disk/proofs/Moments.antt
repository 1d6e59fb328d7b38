-- How moments go on, call by call and part by part.
use Rattle.std.proofs.Common.{◌≡◌, ◌≢◌, ℕ, List, [], ◌∷◌, ◌++◌, Option, refl, sym, ap, subst, ◌∙◌, append_assoc}
use Rattle.simplex_disk.specs.Calls.{Call, content, MayLeave}
use Rattle.simplex_disk.specs.Moments.{Each, Always, IsOfOnly, EachOf, AlwaysOf}
use Rattle.simplex_disk.proofs.Calls.{content-other, left-other}

module _ (n : ℕ) (P : List Call → Type 0) where
  -- No call was made.
  pub none_of : (calls : List Call) → P calls → AlwaysOf n P calls calls
  unfolding EachOf
  none_of calls here = record { made = []; goes_on = refl; each = here }

  -- One more call was made.
  pub more_of : (old mid new : List Call) (call : Call) → AlwaysOf n P old mid → new ≡ call ∷ mid → IsOfOnly n call → P new → AlwaysOf n P old new
  unfolding EachOf
  more_of old mid new call so_far is only here =
      let whole : new ≡ call ∷ so_far.made ++ old = is ∙ ap (λ (l : List Call). call ∷ l) so_far.goes_on in
      record { made = call ∷ so_far.made; goes_on = whole; each = (only, subst P whole here, so_far.each) }

  each_first : (made old : List Call) → EachOf n P made old → P (made ++ old)
  unfolding EachOf
  each_first [] old each = each
  each_first (call ∷ made) old each = each.1

  each_join : (later earlier old : List Call) → EachOf n P later (earlier ++ old) → EachOf n P earlier old → EachOf n P (later ++ earlier) old
  unfolding EachOf
  each_join [] earlier old after before = before
  each_join (call ∷ later) earlier old after before =
      (after.0, subst P (ap (λ (l : List Call). call ∷ l) (sym (append_assoc later earlier old))) after.1, each_join later earlier old after.2 before)

  -- P holds now.
  pub now_of : (old new : List Call) → AlwaysOf n P old new → P new
  now_of old new h = subst P (sym h.goes_on) (each_first h.made old h.each)

  -- Two parts are one.
  pub join_of : (old mid new : List Call) → AlwaysOf n P old mid → AlwaysOf n P mid new → AlwaysOf n P old new
  join_of old mid new first second = record {
    made = second.made ++ first.made;
    goes_on = second.goes_on ∙ ap (λ (l : List Call). second.made ++ l) first.goes_on ∙ sym (append_assoc second.made first.made old);
    each = each_join second.made first.made old (subst (λ (l : List Call). EachOf n P second.made l) first.goes_on second.each) first.each;
  }

-- What P gives, Q holds too.
each_weaker : (n : ℕ) (P Q : List Call → Type 0) → ((calls : List Call) → P calls → Q calls) → (made old : List Call) → EachOf n P made old → EachOf n Q made old
unfolding EachOf
each_weaker n P Q gives [] old each = gives old each
each_weaker n P Q gives (call ∷ made) old each = (each.0, gives (call ∷ made ++ old) each.1, each_weaker n P Q gives made old each.2)

pub weaker_of : (n : ℕ) (P Q : List Call → Type 0) → ((calls : List Call) → P calls → Q calls) → (old new : List Call) → AlwaysOf n P old new → AlwaysOf n Q old new
weaker_of n P Q gives old new h = record { made = h.made; goes_on = h.goes_on; each = each_weaker n P Q gives h.made old h.each }

-- The other files are as they were.
pub record Untouched (n : ℕ) (old new : List Call) : Type 0 where
  pub content : (m : ℕ) → m ≢ n → content m new ≡ content m old
  pub left : (m : ℕ) → m ≢ n → (x : Option (List ℕ)) → MayLeave m new x → MayLeave m old x

each_untouched : (n : ℕ) (P : List Call → Type 0) (made old : List Call) → EachOf n P made old → Untouched n old (made ++ old)
unfolding EachOf
each_untouched n P [] old each = record { content = λ m other. refl; left = λ m other x left. left }
each_untouched n P (call ∷ made) old each =
    let more = each_untouched n P made old each.2 in
    record {
      content = λ m other. content-other m call (made ++ old) (each.0 m other) ∙ more.content m other;
      left = λ m other x left. more.left m other x (left-other m call (made ++ old) x (each.0 m other) left);
    }

pub untouched : (n : ℕ) (P : List Call → Type 0) (old new : List Call) → AlwaysOf n P old new → Untouched n old new
untouched n P old new h = subst (λ (l : List Call). Untouched n old l) (sym h.goes_on) (each_untouched n P h.made old h.each)

-- Where P of one file, and the other files as they were, give Q, Q holds at each moment.
each_all : (n : ℕ) (P Q : List Call → Type 0) (made old : List Call) → ((calls : List Call) → P calls → Untouched n old calls → Q calls) → EachOf n P made old → Each Q made old
unfolding EachOf Each
each_all n P Q [] old gives each = gives old each (each_untouched n P [] old each)
each_all n P Q (call ∷ made) old gives each = (gives (call ∷ made ++ old) each.1 (each_untouched n P (call ∷ made) old each), each_all n P Q made old gives each.2)

pub always_all : (n : ℕ) (P Q : List Call → Type 0) (old new : List Call) → ((calls : List Call) → P calls → Untouched n old calls → Q calls) → AlwaysOf n P old new → Always Q old new
always_all n P Q old new gives h = record { made = h.made; goes_on = h.goes_on; each = each_all n P Q h.made old gives h.each }

-- ---- of all files

each_weaker_all : (P Q : List Call → Type 0) → ((calls : List Call) → P calls → Q calls) → (made old : List Call) → Each P made old → Each Q made old
unfolding Each
each_weaker_all P Q gives [] old each = gives old each
each_weaker_all P Q gives (call ∷ made) old each = (gives (call ∷ made ++ old) each.0, each_weaker_all P Q gives made old each.1)

pub always_weaker : (P Q : List Call → Type 0) → ((calls : List Call) → P calls → Q calls) → (old new : List Call) → Always P old new → Always Q old new
always_weaker P Q gives old new h = record { made = h.made; goes_on = h.goes_on; each = each_weaker_all P Q gives h.made old h.each }

each_first_all : (P : List Call → Type 0) (made old : List Call) → Each P made old → P (made ++ old)
unfolding Each
each_first_all P [] old each = each
each_first_all P (call ∷ made) old each = each.0

-- P holds now.
pub always_now : (P : List Call → Type 0) (old new : List Call) → Always P old new → P new
always_now P old new h = subst P (sym h.goes_on) (each_first_all P h.made old h.each)

each_join_all : (P : List Call → Type 0) (later earlier old : List Call) → Each P later (earlier ++ old) → Each P earlier old → Each P (later ++ earlier) old
unfolding Each
each_join_all P [] earlier old after before = before
each_join_all P (call ∷ later) earlier old after before =
    (subst P (ap (λ (l : List Call). call ∷ l) (sym (append_assoc later earlier old))) after.0, each_join_all P later earlier old after.1 before)

pub always_join : (P : List Call → Type 0) (old mid new : List Call) → Always P old mid → Always P mid new → Always P old new
always_join P old mid new first second = record {
  made = second.made ++ first.made;
  goes_on = second.goes_on ∙ ap (λ (l : List Call). second.made ++ l) first.goes_on ∙ sym (append_assoc second.made first.made old);
  each = each_join_all P second.made first.made old (subst (λ (l : List Call). Each P second.made l) first.goes_on second.each) first.each;
}
