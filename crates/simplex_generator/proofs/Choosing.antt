-- A drawing that is new, and one that chooses.
use Rattle.std.proofs.Common.{◌≡◌, ◌<◌, ◌+◌, ◌-◌, ◌%◌, ◌==◌, [], ℕ, zero, suc, false, nat_lt, List, length, refl, sym, ap, ◌∙◌, arith}
use Rattle.std.proofs.lemmas.Bool.{le-ltb}
use Rattle.std.specs.Prelude.{Some, None}
use Rattle.std.specs.List.{slice_get}
use Rattle.rand_core.specs.Steps.{stream_of, steps_u32}
use Rattle.rand_chacha.specs.ChaCha.{next_word}
use Rattle.simplex_transcript.specs.declared.node.Node.{Node}
use Rattle.model_faults.specs.Words.{Draws, words_of, list_seed}
use Rattle.model_run.specs.Life.{Noted, clock_of}
use Rattle.model_run.specs.Requests.{asked_since}
use Rattle.simplex_generator.specs.declared.drawing.Drawing.{Drawing}
use Rattle.simplex_generator.specs.declared.source.Held.{Held}
use Rattle.simplex_generator.specs.declared.unanswered.Unanswered.{Unanswered}
use Rattle.simplex_generator.specs.Setup.{engine_nodes}
use Rattle.simplex_generator.specs.Undelivered.{undelivered}
use Rattle.simplex_generator.specs.Unanswered.{unanswered, count_in}
use Rattle.simplex_generator.specs.Drawing.{item_at, reply, reply_to, answer_at, drawn, next_event}
use Rattle.simplex_generator.specs.Draws.{DrawsBehind, Chose}

pub draws_first : (drawing : Drawing) (number : ℕ) → drawing.undelivered ≡ [] → drawing.requests.«open».items ≡ [] → drawing.requests.counts.items ≡ []
    → drawing.clock ≡ 0 → drawing.next ≡ 1 → Draws (stream_of (steps_u32 (next_word 4)) drawing.random) (words_of (list_seed number)) 0
    → DrawsBehind drawing number [] 0
unfolding undelivered unanswered count_in asked_since clock_of
draws_first drawing number sent asked counts clock next words = record {
  undelivered = sent;
  waiting = asked;
  counts = λ node. ap (λ l. count_in l node) counts;
  clock = clock;
  next = next;
  words = words;
}

moved : (drawing : Drawing) (number : ℕ) (before : List Noted) (m n : ℕ) → m ≡ n → DrawsBehind drawing number before m → DrawsBehind drawing number before n
moved drawing number before m n e stands = rw (sym e) stands

-- where there is something to answer, that is what the answer takes
pub answered : (old new : Drawing) (place : ℕ) (it : Unanswered) → item_at old.requests.«open».items place ≡ Some it
    → ((number : ℕ) (before : List Noted) (at : ℕ) → DrawsBehind old number before at → DrawsBehind new number before (at + (reply it (words_of (list_seed number) at) it.asked).words))
    → (number : ℕ) (before : List Noted) (at : ℕ) → DrawsBehind old number before at → DrawsBehind new number before (at + (answer_at before place (words_of (list_seed number) at)).words)
answered old new place it is goes number before at stands =
    moved new number before (at + (reply it (words_of (list_seed number) at) it.asked).words) (at + (answer_at before place (words_of (list_seed number) at)).words)
    (ap (λ o. at + (reply_to (words_of (list_seed number) at) o).words) (sym (ap (λ w. item_at w place) (sym stands.waiting) ∙ is)))
    (goes number before at stands)

-- the first starts are over
late : (n : ℕ) → 0 < n → None ≡ slice_get engine_nodes (n - 1) → nat_lt n 8 ≡ false
late zero some none = absurd (omega (arith, some))
late (suc zero) some none = absurd (cc)
late (suc (suc zero)) some none = absurd (cc)
late (suc (suc (suc zero))) some none = absurd (cc)
late (suc (suc (suc (suc zero)))) some none = absurd (cc)
late (suc (suc (suc (suc (suc zero))))) some none = absurd (cc)
late (suc (suc (suc (suc (suc (suc zero)))))) some none = absurd (cc)
late (suc (suc (suc (suc (suc (suc (suc zero))))))) some none = absurd (cc)
late (suc (suc (suc (suc (suc (suc (suc (suc n)))))))) some none = le-ltb (suc (suc (suc (suc (suc (suc (suc (suc n)))))))) 8 (omega arith)

-- where no node starts or crashes, the event is drawn
pub chose_drawn : (old new : Drawing) → (0 < old.next → None ≡ slice_get engine_nodes (old.next - 1)) → (old.next % 600 == 0) ≡ false → (old.next % 600 == 1) ≡ false
    → ((running : List Node) (held : List Held) (number : ℕ) (before : List Noted) (at : ℕ) → DrawsBehind old number before at
    → DrawsBehind new number before (at + (drawn running held before (words_of (list_seed number)) at).words))
    → Chose old new
unfolding next_event
chose_drawn old new none crash start goes running held number before at stands =
    let some : 0 < old.next = rw stands.next (omega arith) in
    let first : nat_lt (length before + 1) 8 ≡ false = ap (λ n. nat_lt n 8) (sym stands.next) ∙ late old.next some (none some) in
    let second : ((length before + 1) % 600 == 0) ≡ false = ap (λ n. n % 600 == 0) (sym stands.next) ∙ crash in
    let third : ((length before + 1) % 600 == 1) ≡ false = ap (λ n. n % 600 == 1) (sym stands.next) ∙ start in
    let is : next_event running held number before at ≡ drawn running held before (words_of (list_seed number)) at = rw (first, second, third) refl in
    moved new number before (at + (drawn running held before (words_of (list_seed number)) at).words) (at + (next_event running held number before at).words)
    (ap (λ d. at + d.words) (sym is)) (goes running held number before at stands)
