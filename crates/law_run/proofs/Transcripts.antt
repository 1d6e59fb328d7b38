-- Each entry of a transcript keeps the limit.
use Rattle.std.proofs.Common.{◌≡◌, ℕ, ◌≤◌, not, Bool, true, false, List, [], ◌∷◌, map, reverse, Option, Some, None, Result, Ok, Err, refl, sym, subst, arith, if◌then◌else◌}
use mathlib.Core.List.{reverse_aux}
use Rattle.simplex_transcript.specs.declared.entry.Entry.{Entry}
use Rattle.simplex_transcript.specs.declared.event.Event.{Event}
use Rattle.simplex_transcript.specs.declared.field.Field.{Field}
use Rattle.simplex_transcript.specs.declared.field.Field.TheVariants as fields
use Rattle.simplex_transcript.specs.declared.refusal.Refusal.{Refusal}
use Rattle.simplex_transcript.specs.declared.refusal.RunError.TheVariants as refusals
use Rattle.model_run.specs.Setting.{Setting}
use Rattle.model_run.specs.Life.{Noted}
use Rattle.model_run.specs.Members.{members_of}
use Rattle.model_run.specs.Setups.{first_bad}
use Rattle.model_run.specs.Run.{refused, are_few, run, transcript_of, unless_bad, RunFrom}
use Rattle.law_run.specs.Histories.{IsRun}
use Rattle.law_run.specs.Sayings.{Each}
use Rattle.law_run.specs.Fitting.{IsTyped}
use Rattle.law_run.proofs.Ran.{IsLimited, limited, mostly_honest, run_is_run}
use Rattle.law_run.specs.Limits.{KeepsTheLimit}
use Rattle.law_run.proofs.Entries.{entries_keep}

-- ---- in either order

module _ {A : Type 0} (P : A → Type 0) where
  turned : (xs ys : List A) → Each P xs → Each P ys → Each P (reverse_aux xs ys)
  turned [] ys h k = k
  turned (x ∷ xs) ys h k = turned xs (x ∷ ys) h.1 (h.0, k)

  turned_back : (xs ys : List A) → Each P (reverse_aux xs ys) → Each P xs × Each P ys
  turned_back [] ys h = (tt, h)
  turned_back (x ∷ xs) ys h = (let r = turned_back xs (x ∷ ys) h in ((r.1.0, r.0), r.1.1))

module _ (P : Entry → Type 0) where
  abbrev entries_of : List Noted → List Entry
  entries_of noted = map (λ (n : Noted). n.entry) noted

  mapped : (noted : List Noted) → Each (λ (n : Noted). P n.entry) noted → Each P (entries_of noted)
  mapped [] h = tt
  mapped (n ∷ noted) h = (h.0, mapped noted h.1)

  unmapped : (noted : List Noted) → Each P (entries_of noted) → Each (λ (n : Noted). P n.entry) noted
  unmapped [] h = tt
  unmapped (n ∷ noted) h = (h.0, unmapped noted h.1)

  pub in_order : (noted : List Noted) (entries : List Entry) → reverse (entries_of noted) ≡ entries → Each (λ (n : Noted). P n.entry) noted → Each P entries
  in_order noted entries e h = subst (Each P) e (turned P (entries_of noted) [] (mapped noted h) tt)

  out_of_order : (noted : List Noted) (entries : List Entry) → reverse (entries_of noted) ≡ entries → Each P entries → Each (λ (n : Noted). P n.entry) noted
  out_of_order noted entries e h = unmapped noted (turned_back P (entries_of noted) [] (subst (Each P) (sym e) h)).0

-- ---- what is not refused

not_refused : {A E : Type 0} (b : Bool) (error : E) (r : Result A E) (a : A) → (if not b then Err error else r) ≡ Ok a → r ≡ Ok a
not_refused true error r a e = e
not_refused false error r a e = cc

unbad : (o : Option Field) (r : Result (List Entry) Refusal) (entries : List Entry) → unless_bad o r ≡ Ok entries → (o ≡ None) × (r ≡ Ok entries)
unbad None r entries e = (refl, e)
unbad (Some field) r entries e = cc

fewer : (n : ℕ) → n ≤ 256 → n ≤ 1024
fewer n h = omega (arith, h)

ran_keeps : (setting : Setting) (noted : List Noted) (entries : List Entry) → IsLimited setting.setup → IsRun setting noted → reverse (map (λ (n : Noted). n.entry) noted) ≡ entries → Each IsTyped entries → Each (KeepsTheLimit setting.setup) entries
ran_keeps setting noted entries l ran e typed =
    let o = mostly_honest setting noted l ran (out_of_order IsTyped noted entries e typed) in
    in_order (KeepsTheLimit setting.setup) noted entries e (entries_keep setting noted o (fewer (members_of setting.setup) l.most))

pub transcript_keeps : (setting : Setting) (events : List Event) (entries : List Entry) → RunFrom setting events ≡ Ok entries → Each IsTyped entries → Each (KeepsTheLimit setting.setup) entries
unfolding RunFrom IsRun
transcript_keeps setting events entries e typed =
    let parts = unbad (first_bad setting.setup) (transcript_of (run setting [] events)) entries
    (not_refused (are_few setting.setup events) (refused (refusals.BadSetup fields.Events) 0) _ entries e) in
    at (run setting [] events) refl parts.1 (limited setting.setup parts.0)
  where
    at : (r : Result (List Noted) Refusal) → run setting [] events ≡ r → transcript_of r ≡ Ok entries → IsLimited setting.setup → Each (KeepsTheLimit setting.setup) entries
    at (Err refusal) h k l = cc
    at (Ok noted) h k l = (let same : reverse (map (λ (n : Noted). n.entry) noted) ≡ entries = cc in ran_keeps setting noted entries l (run_is_run setting [] events noted tt h) same typed)
