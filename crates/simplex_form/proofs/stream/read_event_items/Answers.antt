use Rattle.std.proofs.Common.{◌≡◌, ℕ, ◌+◌, ◌-◌, List, [], ◌∷◌, ◌++◌, length, Some, None, Ok, refl, sym, ap, ◌∙◌, append_assoc, append-nil, arith}
use Rattle.std.proofs.lemmas.Grind.{common_steps}
use Rattle.json.specs.Json.{after_end_array}
use Rattle.serde_json.specs.Data.{Data, Items, no_items, item}
use Rattle.simplex_transcript.specs.declared.event.Event.{Event}
use Rattle.simplex_form.specs.Form.{list_from, cons_or, prepended}
use Rattle.simplex_form.specs.Events.{event_of}
use Rattle.simplex_form.specs.Stream.{Reads}
use Rattle.simplex_form.proofs.Reading.{reads_less, no_more_items, one_more_item}
use Rattle.simplex_form.proofs.stream.read_event_items.Goals as goal

-- an event that is said, and those behind it
one_more_event : (k : ℕ) (d : Data) (ds : Items) (e : Event) (es : List Event) → event_of d ≡ Some e → list_from event_of (k + 1) ds ≡ Ok es → list_from event_of k (item d ds) ≡ Ok (e ∷ es)
one_more_event k d ds e es one more = ap (λ o. cons_or k o (list_from event_of (k + 1) ds)) one ∙ ap (prepended (e ∷ [])) more

pub loop-alloc-init : goal.loop-alloc-init
loop-alloc-init c = (length c.args.reader.now, 2, omega arith, λ ds es rest reads says. (ds, reads, grind (arith, common_steps, says, c.new-events.ensures)))

pub loop-alloc-preserved : goal.loop-alloc-preserved
loop-alloc-preserved c =
    let l = c.loop-alloc in
    let n = l.invariant.0 in
    let k = l.invariant.1 in
    let going : (after_end_array l.reader ≡ None) × (c.take_end_array.new.self ≡ l.reader) = grind arith in
    let e = c.in_ok-event.event in
    let r = c.next_event.new.reader in
    let said = c.in_ok-event.ensures in
    let d = said.0 in
    let reads : Reads 125 l.reader d r = rw (← going.1) said.1 in
    let less = reads_less 125 l.reader r d reads in
    let pushed : c.push.new.self ≡ l.events ++ e ∷ [] = c.in_ok-push.ensures.ok in (
      n - 1,
      k + 1,
      omega (arith, less, l.invariant.2),
      λ ds es rest more told.
          let all = l.invariant.3 (item d ds) (e ∷ es) rest (one_more_item 125 n l.reader r rest d ds (omega (arith, less, l.invariant.2)) going.0 reads more) (one_more_event k d ds e es said.2 told) in
          (all.0, all.1, all.2 ∙ ap Ok (rw pushed (sym (append_assoc l.events (e ∷ []) es)))),
    )

pub loop-alloc-smaller : goal.loop-alloc-smaller
loop-alloc-smaller c =
    let said = c.in_ok-event.ensures in
    let less = reads_less 125 c.take_end_array.new.self c.next_event.new.reader said.0 said.1 in
    let going : c.take_end_array.new.self ≡ c.loop-alloc.reader = grind arith in
    rw going at less

pub returns : goal.returns
returns c =
    let l = c.loop-alloc in
    let end = c.take_end_array.new.self in
    let over : after_end_array l.reader ≡ Some end = grind arith in
    let all = l.invariant.3 no_items [] end (no_more_items 125 l.invariant.0 l.reader end l.invariant.2 over) refl in
    (all.0, all.1, all.2 ∙ ap Ok (append-nil l.events))
