-- What the passes of a mailbox know of its record.
use Rattle.std.proofs.Common.{◌≡◌, List, [], ◌∷◌, ◌++◌, ap, subst, ◌∙◌, arith}
use Rattle.std.specs.List.{All}
use Rattle.simplex_shared.specs.declared.op.Op.{Op}
use Rattle.simplex_shared.specs.Calls.{calls_by}
use Rattle.simplex_shared.specs.History.{caller_of}
use Rattle.simplex_shared.specs.Passes.{Viewer, GoesOn, calls_of}
use Rattle.simplex_shared.proofs.Places.{stays}

module _ {M : Type 0} (log : List (Op M)) where
  -- the record has the calls of this pass that it knows of, and no others of it
  abbrev Told : Viewer M → Type 0
  Told pass = calls_by caller_of pass.number log ≡ calls_of pass

  abbrev AllGoOn : List (Viewer M) → Type 0
  AllGoOn passes = All (λ (pass : Viewer M). GoesOn pass log) passes

  pub of_two : (first second : Viewer M) (none one two : List (Viewer M)) → none ≡ [] → one ≡ none ++ first ∷ [] → two ≡ one ++ second ∷ [] → AllGoOn two → Told first × Told second
  of_two first second none one two clear has_first has_second goes =
      let both : two ≡ first ∷ second ∷ [] = has_second ∙ ap (λ l. l ++ second ∷ []) (has_first ∙ ap (λ l. l ++ first ∷ []) clear) in
      let known = subst AllGoOn both goes in
      ((stays first log (known 0 first (omega arith))).0, (stays second log (known 1 second (omega arith))).0)

  pub of_three : (first second third : Viewer M) (none one two three : List (Viewer M)) → none ≡ [] → one ≡ none ++ first ∷ [] → two ≡ one ++ second ∷ [] → three ≡ two ++ third ∷ []
      → AllGoOn three → Told first × Told second × Told third
  of_three first second third none one two three clear has_first has_second has_third goes =
      let both : two ≡ first ∷ second ∷ [] = has_second ∙ ap (λ l. l ++ second ∷ []) (has_first ∙ ap (λ l. l ++ first ∷ []) clear) in
      let all : three ≡ first ∷ second ∷ third ∷ [] = has_third ∙ ap (λ l. l ++ third ∷ []) both in
      let known = subst AllGoOn all goes in
      ((stays first log (known 0 first (omega arith))).0, (stays second log (known 1 second (omega arith))).0, (stays third log (known 2 third (omega arith))).0)
