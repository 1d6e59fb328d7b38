-- Messages that are handed over, by calls behind those before.
use Rattle.std.proofs.Common.{◌≡◌, ℕ, List, [], ◌∷◌, ◌++◌, Option, refl, sym, ap, ◌∙◌, subst, append_assoc, append-nil}
use Rattle.std.specs.List.{filter_map}
use Rattle.simplex_values.specs.declared.feedback.Feedback.{Feedback}
use Rattle.simplex_messages.specs.declared.handed.Handed.{Handed}
use Rattle.simplex_messages.specs.declared.step.StepOut.{StepOut}
use Rattle.simplex_messages.specs.Step.{no_out}
use Rattle.simplex_shared.specs.declared.op.Op.{Op}
use Rattle.simplex_shared.specs.declared.op.Op.TheVariants.{Put, Took, Shut}
use Rattle.simplex_shared.specs.Calls.{calls_by}
use Rattle.simplex_shared.specs.History.{caller_of}
use Rattle.simplex_shared.specs.Passes.{Viewer, GoesOn, EndsWith, IsSamePass, calls_of}
use Rattle.simplex_shared.proofs.Places.{stays, grows}
use Rattle.simplex_turns.specs.Handing.{Puts, PutsBehind, handed_on}

module _ {M : Type 0} where
  puts-one : (message : M) (caller : ℕ) (feedback : Feedback) → Puts (message ∷ []) (Put caller message feedback ∷ [])
  unfolding Puts
  puts-one message caller feedback = (refl, tt)

  puts-both : (first second : List M) (calls others : List (Op M)) → Puts first calls → Puts second others → Puts (first ++ second) (calls ++ others)
  unfolding Puts
  puts-both [] second [] others p q = q
  puts-both (message ∷ first) second (Put caller put feedback ∷ calls) others p q = (p.0, puts-both first second calls others p.1 q)
  puts-both [] second (call ∷ calls) others p q = absurd p
  puts-both (message ∷ first) second [] others p q = absurd p
  puts-both (message ∷ first) second (Took caller got ∷ calls) others p q = absurd p
  puts-both (message ∷ first) second (Shut caller ∷ calls) others p q = absurd p

  -- nothing is put
  pub puts-nothing : (before : List (Op M)) → PutsBehind [] before before
  unfolding Puts
  puts-nothing before = ([], sym (append-nil before), tt)

  -- one message is put
  pub puts-message : (before : List (Op M)) (message : M) (caller : ℕ) (feedback : Feedback) → PutsBehind (message ∷ []) before (before ++ Put caller message feedback ∷ [])
  puts-message before message caller feedback = (Put caller message feedback ∷ [], refl, puts-one message caller feedback)

  -- some are put, and then others
  pub puts-then : (first second : List M) (before between after : List (Op M)) → PutsBehind first before between → PutsBehind second between after → PutsBehind (first ++ second) before after
  puts-then first second before between after p q = (
    p.0 ++ q.0,
    q.1 ∙ ap (λ l. l ++ q.0) p.1 ∙ append_assoc before p.0 q.0,
    puts-both first second p.0 q.0 p.2 q.2,
  )

  -- a pass that made one call more has it at the end of its calls
  pub calls-grow : (old new : Viewer M) (call : Op M) → IsSamePass old new → caller_of call ≡ old.number → EndsWith old call new.seen → calls_of new ≡ calls_of old ++ call ∷ []
  calls-grow old new call same own ends = ap (λ number. calls_by caller_of number new.seen) same.1 ∙ (grows old call new.seen own ends).0

  -- one that made none has the calls that it had
  pub calls-stay : (old new : Viewer M) → IsSamePass old new → GoesOn old new.seen → calls_of new ≡ calls_of old
  calls-stay old new same goes = ap (λ number. calls_by caller_of number new.seen) same.1 ∙ (stays old new.seen goes).0

  pub same-still : (old mid new : Viewer M) → IsSamePass old mid → IsSamePass mid new → IsSamePass old new
  same-still old mid new p q = (q.0 ∙ p.0, q.1 ∙ p.1)

  -- a pass puts one message, and others are put behind it
  pub puts-next : (message : M) (feedback : Feedback) (rest : List M) (old new : Viewer M) (after : List (Op M))
      → IsSamePass old new → EndsWith old (Put old.number message feedback) new.seen
      → PutsBehind rest (calls_of new) after → PutsBehind (message ∷ rest) (calls_of old) after
  puts-next message feedback rest old new after same ends puts =
      let grown = calls-grow old new (Put old.number message feedback) same refl ends in
      puts-then (message ∷ []) rest (calls_of old) (calls_of new) after (subst (λ l. PutsBehind (message ∷ []) (calls_of old) l) (sym grown) (puts-message (calls_of old) message old.number feedback)) puts

  -- a step that gave nothing handed nothing on
  pub puts-idle : (for_it : Handed → Option M) (out : StepOut) (before after : List (Op M)) → out ≡ no_out → after ≡ before → PutsBehind (filter_map for_it out.handed) before after
  puts-idle for_it out before after empty same =
      subst (λ o. PutsBehind (filter_map for_it o.handed) before after) (sym empty) (subst (λ l. PutsBehind [] before l) (sym same) (puts-nothing before))

  -- what steps handed on, and one more behind them
  pub handed_on-behind : (for_it : Handed → Option M) (outs : List StepOut) (out : StepOut) → handed_on for_it (outs ++ out ∷ []) ≡ handed_on for_it outs ++ filter_map for_it out.handed
  unfolding handed_on
  handed_on-behind for_it [] out = append-nil (filter_map for_it out.handed)
  handed_on-behind for_it (first ∷ outs) out =
      ap (λ l. filter_map for_it first.handed ++ l) (handed_on-behind for_it outs out)
      ∙ sym (append_assoc (filter_map for_it first.handed) (handed_on for_it outs) (filter_map for_it out.handed))

  -- no step handed nothing on
  pub handed_on-nothing : (for_it : Handed → Option M) → handed_on for_it [] ≡ []
  unfolding handed_on
  handed_on-nothing for_it = refl
