-- What a log has behind the entries that were applied.
use Rattle.std.proofs.Common.{◌≡◌, ℕ, zero, suc, ◌+◌, ◌^◌, ◌≤◌, ◌&&◌, nat_lt, nat_le, true, List, [], ◌∷◌, ◌++◌, map, length, take, drop, Contains, refl, sym, ap, ◌∙◌, arith, take_all, leb-true, length-append}
use Rattle.std.specs.Prelude.{sum}
use Rattle.std.specs.List.{flat_map}
use Rattle.std.proofs.lemmas.Bool.{and_parts}
use Rattle.std.proofs.lemmas.List.{map-append, take-append-drop, append-nil}
use Rattle.model_log.specs.declared.entry.LogEntry.{LogEntry}
use Rattle.model_log.specs.Fronts.{IsFrontOf}
use Rattle.model_ledger.specs.declared.transfer.Transfer.{Transfer}
use Rattle.model_ledger.specs.Balances.{after_all, are_accounts}
use Rattle.model_ledger.specs.Blocks.{transfers_of}
use Rattle.model_ledger.specs.Ledger.{balances_at}
use Rattle.model_ledger.proofs.Keeping.{all_sum}
use Rattle.simplex_ledger.specs.Book.{Book, IsKept, entries_of, balances_of, step_of, extended, AreSound, IsAlong}
use Rattle.simplex_ledger.proofs.Transfers.{after_append, flat_append}

-- ---- sums

small_sum : (accounts : List ℕ) → are_accounts accounts ≡ true → sum accounts ≤ 2 ^ 63
small_sum accounts e =
    leb-true (sum accounts) (2 ^ 63) (and_parts (nat_lt 0 (length accounts) && nat_le (length accounts) 65536) (nat_le (sum accounts) (2 ^ 63)) e).1

pub balances_sum : (book : Book) → sum (balances_of book) ≡ sum book.accounts
balances_sum book = all_sum (flat_map (λ (step : LogEntry × List Transfer). step.1) book.applied) book.accounts

pub balances_small : (book : Book) (balances : List ℕ) (total : ℕ) → IsKept book balances total → sum balances ≤ 2 ^ 63
balances_small book balances total kept =
    (let same : sum balances ≡ sum book.accounts = ap sum kept.applied ∙ balances_sum book in let small = small_sum book.accounts kept.such in omega (arith, same, small))

-- ---- the rest of a log

drop_front : {X : Type 0} (xs rest : List X) → drop (length xs) (xs ++ rest) ≡ rest
drop_front [] rest = refl
drop_front (x ∷ xs) rest = drop_front xs rest

as_many : (applied : List (LogEntry × List Transfer)) → length (map (λ (step : LogEntry × List Transfer). step.0) applied) ≡ length applied
as_many [] = refl
as_many (step ∷ applied) = ap suc (as_many applied)

-- the log is what was applied and what is behind it
pub front_and_rest : (book : Book) (log : List LogEntry) → IsFrontOf (entries_of book) log → entries_of book ++ drop (length book.applied) log ≡ log
front_and_rest book log front =
    let many : length book.applied ≡ length (entries_of book) = sym (as_many book.applied) in
    let rest : drop (length book.applied) log ≡ front.0 = ap (λ (n : ℕ). drop n log) many ∙ ap (drop (length (entries_of book))) front.1 ∙ drop_front (entries_of book) front.0 in
    ap (λ (r : List LogEntry). entries_of book ++ r) rest ∙ sym front.1

pub front_fits : (book : Book) (log : List LogEntry) → IsFrontOf (entries_of book) log → length book.applied ≤ length log
front_fits book log front =
    let many : length book.applied ≡ length (entries_of book) = sym (as_many book.applied) in
    let long : length log ≡ length (entries_of book) + length front.0 = ap length front.1 ∙ length-append (entries_of book) front.0 in
    omega (arith, many, long)

drop_contains : {X : Type 0} (n : ℕ) (xs : List X) (x : X) → Contains (drop n xs) x → Contains xs x
drop_contains zero xs x k = k
drop_contains (suc n) [] x k = k
drop_contains (suc n) (y ∷ xs) x k = (let c = drop_contains n xs x k in (suc c.0, omega (arith, c.1), c.2))

pub rest_sound : (blocks : List (List ℕ)) (n : ℕ) (log : List LogEntry) → AreSound blocks log → AreSound blocks (drop n log)
rest_sound blocks n log sound entry k = sound entry (drop_contains n log entry k)

-- ---- logs that begin so

pub none_begins : (begun log : List LogEntry) → begun ≡ [] → IsFrontOf begun log
none_begins begun log e = (log, ap (λ (b : List LogEntry). b ++ log) (sym e))

pub part_begins : (begun log : List LogEntry) (n : ℕ) → begun ≡ take n log → IsFrontOf begun log
part_begins begun log n e = (drop n log, sym (take-append-drop n log) ∙ ap (λ (b : List LogEntry). b ++ drop n log) (sym e))

pub whole_begins : (begun log : List LogEntry) → begun ≡ log → IsFrontOf begun log
whole_begins begun log e = ([], sym e ∙ sym (append-nil begun))

-- ---- the book that is extended

entries_taken : (blocks : List (List ℕ)) (log : List LogEntry) → map (λ (step : LogEntry × List Transfer). step.0) (map (step_of blocks) log) ≡ log
entries_taken blocks [] = refl
entries_taken blocks (entry ∷ log) = ap (λ (es : List LogEntry). entry ∷ es) (entries_taken blocks log)

pub extended_entries : (book : Book) (blocks : List (List ℕ)) (log : List LogEntry) → IsFrontOf (entries_of book) log → entries_of (extended book blocks log) ≡ log
extended_entries book blocks log front =
    map-append (λ (step : LogEntry × List Transfer). step.0) book.applied (map (step_of blocks) (drop (length book.applied) log))
    ∙ ap (λ (es : List LogEntry). entries_of book ++ es) (entries_taken blocks (drop (length book.applied) log)) ∙ front_and_rest book log front

pub extended_along : (book : Book) (blocks : List (List ℕ)) (log : List LogEntry) → IsFrontOf (entries_of book) log → IsAlong blocks (entries_of book) book → IsAlong blocks log (extended book blocks log)
extended_along book blocks log front along =
    let rest = drop (length book.applied) log in
    ap (λ (applied : List (LogEntry × List Transfer)). applied ++ map (step_of blocks) rest) along
    ∙ sym (map-append (step_of blocks) (entries_of book) rest) ∙ ap (map (step_of blocks)) (front_and_rest book log front)

transfers_taken : (blocks : List (List ℕ)) (log : List LogEntry)
    → flat_map (λ (step : LogEntry × List Transfer). step.1) (map (step_of blocks) log) ≡ flat_map (λ (entry : LogEntry). transfers_of blocks entry.payload) log
transfers_taken blocks [] = refl
transfers_taken blocks (entry ∷ log) = ap (λ (ts : List Transfer). transfers_of blocks entry.payload ++ ts) (transfers_taken blocks log)

pub along_balances : (book : Book) (blocks : List (List ℕ)) (log : List LogEntry) → IsAlong blocks log book → balances_of book ≡ balances_at blocks book.accounts log (length log)
unfolding balances_at
along_balances book blocks log along =
    ap (λ (applied : List (LogEntry × List Transfer)). after_all book.accounts (flat_map (λ (step : LogEntry × List Transfer). step.1) applied)) along
    ∙ ap (after_all book.accounts) (transfers_taken blocks log)
    ∙ ap (λ (es : List LogEntry). after_all book.accounts (flat_map (λ (entry : LogEntry). transfers_of blocks entry.payload) es)) (sym (take_all (length log) log (omega arith)))

-- the balances of the book that is extended
pub extended_balances : (book : Book) (blocks : List (List ℕ)) (log : List LogEntry) (balances : List ℕ) → balances ≡ balances_of book
    → after_all balances (flat_map (λ (step : LogEntry × List Transfer). step.1) (map (step_of blocks) (drop (length book.applied) log))) ≡ balances_of (extended book blocks log)
extended_balances book blocks log balances is =
    let step = λ (step : LogEntry × List Transfer). step.1 in
    let more = map (step_of blocks) (drop (length book.applied) log) in
    ap (λ (b : List ℕ). after_all b (flat_map step more)) is
    ∙ sym (after_append book.accounts (flat_map step book.applied) (flat_map step more))
    ∙ ap (after_all book.accounts) (sym (flat_append step book.applied more))
