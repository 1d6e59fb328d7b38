use Rattle.std.proofs.Common.{◌≡◌, ◌⊎◌, ℕ, List, ◌++◌, reverse, inl, inr, sym, ap, ◌∙◌}
use Rattle.model_log.specs.declared.entry.LogEntry.{LogEntry}
use Rattle.model_log.specs.Ends.{end_in}
use Rattle.simplex_log.specs.declared.finals.Finals.{Finals}
use Rattle.simplex_log.specs.Kept.{log_to}
use Rattle.simplex_log.proofs.Raising.{log_more, log_whole}
use Rattle.simplex_log.proofs.finals.Finals.extend.Goals as goal
use Rattle.simplex_log.proofs.finals.Finals.extend.Goals.{then-foot-self+in_ok-append, else-foot-self}

at_zero : (foot tip last : ℕ) → (foot ≡ tip → ⊥) → last ≡ 0 → (foot ≡ tip) ⊎ (foot ≡ last) → foot ≡ 0
at_zero foot tip last ne whole (inl e) = absurd (ne e)
at_zero foot tip last ne whole (inr e) = e ∙ whole

pub returns-clause-entries : goal.returns-clause-entries
returns-clause-entries c = λ held stands whole was.
    let branch = c.in_ok-entries.field-0 in
    let above = branch.entries.items in
    let walked = c.in_ok-entries.ensures.walked held stands in
    elim c.if-foot-self.branch [
      | then-foot-self+in_ok-append w ↦
          let same : branch.foot ≡ c.args.self.now.tip = w.if-foot-self.true in
          ap (λ (f : Finals). f.entries.items) w.self-is ∙ w.in_ok-append.ensures.items
          ∙ ap (λ (es : List LogEntry). c.args.self.now.entries.items ++ es) c.reverse.ensures.items
          ∙ ap (λ (es : List LogEntry). es ++ reverse above) (was ∙ ap (log_to held) (sym same)) ∙ log_more held c.args.top branch.foot above walked
      | else-foot-self w ↦
          let zero = at_zero branch.foot c.args.self.now.tip (end_in held c.args.top) w.if-foot-self.false whole
          (c.in_ok-entries.ensures.ended held stands) in
          ap (λ (f : Finals). f.entries.items) w.self-is ∙ c.reverse.ensures.items ∙ log_whole held c.args.top branch.foot above zero walked
    ]
