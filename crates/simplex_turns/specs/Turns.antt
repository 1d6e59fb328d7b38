-- Turns one after another: each takes something and gives an output.
use Rattle.std.specs.Prelude.{◌≡◌, List, [], ◌∷◌}
use Rattle.simplex_messages.specs.declared.step.StepOut.{StepOut}

module _ {P T : Type 0} (turn : P → T → P × StepOut) where
  -- what turns give that take these, from this place on
  unfoldable pub outs_of : P → List T → List StepOut
  outs_of place [] = []
  outs_of place (taken ∷ rest) = (turn place taken).1 ∷ outs_of (turn place taken).0 rest

  -- the place where they end
  unfoldable pub after : P → List T → P
  after place [] = place
  after place (taken ∷ rest) = after (turn place taken).0 rest

  -- wherever the old one is, its turns gave these outputs, and the new one is where they end
  abbrev pub Gives : {A : Type 0} → (A → P → Type 0) → A → A → List T → List StepOut → Type 0
  Gives IsAt old new taken outs =
      (place : P) → IsAt old place → (outs ≡ outs_of place taken) × IsAt new (after place taken)
