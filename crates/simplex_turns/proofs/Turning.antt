-- Turns, and one more behind them.
use Rattle.std.proofs.Common.{◌≡◌, List, [], ◌∷◌, ◌++◌, refl, sym, ap, ◌∙◌, subst}
use Rattle.simplex_messages.specs.declared.step.StepOut.{StepOut}
use Rattle.simplex_turns.specs.Turns.{outs_of, after, Gives}

module _ {P T : Type 0} (turn : P → T → P × StepOut) where
  -- what the turns before give, and behind it what the last one gives from the place where they end
  pub outs_of-behind : (place : P) (taken : List T) (t : T) → outs_of turn place (taken ++ t ∷ []) ≡ outs_of turn place taken ++ (turn (after turn place taken) t).1 ∷ []
  unfolding outs_of after
  outs_of-behind place [] t = refl
  outs_of-behind place (x ∷ taken) t = ap (λ outs. (turn place x).1 ∷ outs) (outs_of-behind (turn place x).0 taken t)

  pub after-behind : (place : P) (taken : List T) (t : T) → after turn place (taken ++ t ∷ []) ≡ (turn (after turn place taken) t).0
  unfolding after
  after-behind place [] t = refl
  after-behind place (x ∷ taken) t = after-behind (turn place x).0 taken t

  -- no turns give nothing
  pub gives-nothing : {A : Type 0} (IsAt : A → P → Type 0) (old : A) → Gives turn IsAt old old [] []
  unfolding outs_of after
  gives-nothing IsAt old = λ place is. (refl, is)

  -- one turn more gives one output more
  pub gives-more : {A : Type 0} (IsAt : A → P → Type 0) (old mid new : A) (taken : List T) (t : T) (outs : List StepOut) (out : StepOut)
      → Gives turn IsAt old mid taken outs
      → ((place : P) → IsAt mid place → (out ≡ (turn place t).1) × IsAt new (turn place t).0)
      → Gives turn IsAt old new (taken ++ t ∷ []) (outs ++ out ∷ [])
  gives-more IsAt old mid new taken t outs out gives one = λ place is.
      let so_far = gives place is in
      let last = one (after turn place taken) so_far.1 in (
        ap (λ l. l ++ out ∷ []) so_far.0 ∙ ap (λ o. outs_of turn place taken ++ o ∷ []) last.0 ∙ sym (outs_of-behind place taken t),
        subst (λ there. IsAt new there) (sym (after-behind place taken t)) last.1,
      )
