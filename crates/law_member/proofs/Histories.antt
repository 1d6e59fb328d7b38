-- What a history leaves of one section of a journal.
use Rattle.std.proofs.Common.{◌≡◌, ◌∙◌, ℕ, ◌||◌, Bool, true, false, refl, sym, ap, subst, List, [], ◌∷◌, ◌++◌, ◌==◌, if◌then◌else◌, arith, append_assoc}
use Rattle.std.specs.List.{list_any, Contains}
use Rattle.std.proofs.lemmas.Grind.{common_steps}
use Rattle.std.proofs.lemmas.Bool.Decides.{nat_tests}
use Rattle.std.proofs.lemmas.List.{append-nil}
use Rattle.std.proofs.lemmas.List.Elements.{Contains-append_left, Contains-push}
use Rattle.simplex_wire.specs.declared.artifact.Artifact.{Artifact}
use Rattle.simplex_journal.specs.Contents.{numbers, IsRising}
use Rattle.simplex_journal.specs.Journal.{Section, appended, synced_at, all_synced, crashed, replayed}
use Rattle.simplex_journal.proofs.Rising.{numbers-synced_at, numbers-all_synced, numbers-crashed, IsRising-appended, IsRising-pruned, IsRising-pruned_first}
use Rattle.law_member.specs.Journal.{Call, Append, Sync, SyncAll, Prune, PruneFirst, Stop, after_call, after, synced_of, read_of, prunes, syncs, is_stop, BeginsWith}
use Rattle.law_member.proofs.JournalSections.{synced_of-appended, read_of-appended, synced_of-synced_at, read_of-synced_at, synced_of-all_synced, read_of-all_synced, read_of-synced, synced_of-pruned, read_of-pruned, synced_of-pruned_first, read_of-pruned_first, synced_of-crashed, Contains-read_of}

-- ---- one call

same_numbers : (js ks : List Section) → numbers ks ≡ numbers js → IsRising js → IsRising ks
same_numbers js ks is h = rw is h

rising-call : (call : Call) (js : List Section) → IsRising js → IsRising (after_call call js)
unfolding after_call
rising-call (Append n a) js h = IsRising-appended n a js h
rising-call (Sync n) js h = same_numbers js (synced_at n js) (numbers-synced_at n js) h
rising-call SyncAll js h = same_numbers js (all_synced js) (numbers-all_synced js) h
rising-call (Prune least) js h = IsRising-pruned least js h
rising-call (PruneFirst count least) js h = IsRising-pruned_first count least js h
rising-call (Stop keep) js h = same_numbers js (crashed keep js) (numbers-crashed keep js) h

same_begins : (xs ys : List Artifact) → xs ≡ ys → BeginsWith xs ys
same_begins xs ys is = ([], is ∙ sym (append-nil ys))

chosen_begins : (b : Bool) (xs ys zs : List Artifact) → xs ≡ (if b then zs else ys) → BeginsWith zs ys → BeginsWith xs ys
chosen_begins true xs ys zs is more = (more.0, is ∙ more.1)
chosen_begins false xs ys zs is more = same_begins xs ys is

synced-call : (n : ℕ) (call : Call) (js : List Section) → IsRising js → prunes n call ≡ false → BeginsWith (synced_of n (after_call call js)) (synced_of n js)
unfolding after_call
synced-call n (Append m a) js h spared = same_begins _ _ (synced_of-appended n m a js h)
synced-call n (Sync m) js h spared = chosen_begins (n == m) _ _ (read_of n js) (synced_of-synced_at n m js) (read_of-synced n js)
synced-call n SyncAll js h spared = let more = read_of-synced n js in (more.0, synced_of-all_synced n js ∙ more.1)
synced-call n (Prune least) js h spared = same_begins _ _ (synced_of-pruned n least js spared)
synced-call n (PruneFirst count least) js h spared = same_begins _ _ (synced_of-pruned_first n count least js spared)
synced-call n (Stop keep) js h spared = synced_of-crashed n keep js

read-call : (n : ℕ) (call : Call) (js : List Section) → IsRising js → prunes n call ≡ false → is_stop call ≡ false → BeginsWith (read_of n (after_call call js)) (read_of n js)
unfolding after_call
read-call n (Append m a) js h spared goes = (_, read_of-appended n m a js h)
read-call n (Sync m) js h spared goes = same_begins _ _ (read_of-synced_at n m js)
read-call n SyncAll js h spared goes = same_begins _ _ (read_of-all_synced n js)
read-call n (Prune least) js h spared goes = same_begins _ _ (read_of-pruned n least js spared)
read-call n (PruneFirst count least) js h spared goes = same_begins _ _ (read_of-pruned_first n count least js spared)
read-call n (Stop keep) js h spared goes = cc

synced-sync : (n : ℕ) (call : Call) (js : List Section) → syncs n call ≡ true → synced_of n (after_call call js) ≡ read_of n js
unfolding after_call
synced-sync n (Append m a) js is = cc
synced-sync n (Sync m) js is = synced_of-synced_at n m js ∙ ap (λ b. if b then read_of n js else synced_of n js) is
synced-sync n SyncAll js is = synced_of-all_synced n js
synced-sync n (Prune least) js is = cc
synced-sync n (PruneFirst count least) js is = cc
synced-sync n (Stop keep) js is = cc

-- ---- a history

pub rising-after : (first : List Section) (past : List Call) → IsRising first → IsRising (after first past)
unfolding after
rising-after first [] h = h
rising-after first (call ∷ past) h = rising-call call (after first past) (rising-after first past h)

left_false : (a b : Bool) → (a || b) ≡ false → a ≡ false
left_false true b h = cc
left_false false b h = refl

right_false : (a b : Bool) → (a || b) ≡ false → b ≡ false
right_false true b h = cc
right_false false b h = h

begins-more : (xs ys zs : List Artifact) → BeginsWith xs ys → BeginsWith ys zs → BeginsWith xs zs
begins-more xs ys zs a b = (b.0 ++ a.0, a.1 ∙ ap (λ l. l ++ a.0) b.1 ∙ append_assoc zs b.0 a.0)

pub synced-after : (first : List Section) (past later : List Call) (n : ℕ) → IsRising first → list_any (prunes n) later ≡ false
    → BeginsWith (synced_of n (after first (later ++ past))) (synced_of n (after first past))
unfolding after
synced-after first past [] n h spared = same_begins _ _ refl
synced-after first past (call ∷ later) n h spared =
    let here = synced-call n call (after first (later ++ past)) (rising-after first (later ++ past) h) (left_false (prunes n call) (list_any (prunes n) later) spared) in
    begins-more _ (synced_of n (after first (later ++ past))) (synced_of n (after first past)) here
    (synced-after first past later n h (right_false (prunes n call) (list_any (prunes n) later) spared))

pub read-after : (first : List Section) (past later : List Call) (n : ℕ) → IsRising first → list_any (prunes n) later ≡ false
    → BeginsWith (read_of n (after first (later ++ past))) (synced_of n (after first past))
read-after first past later n h spared =
    begins-more _ (synced_of n (after first (later ++ past))) (synced_of n (after first past)) (read_of-synced n (after first (later ++ past))) (synced-after first past later n h spared)

begins-contains : (xs ys : List Artifact) (x : Artifact) → BeginsWith xs ys → Contains ys x → Contains xs x
begins-contains xs ys x more has = subst (λ (l : List Artifact). Contains l x) (sym more.1) (Contains-append_left ys more.0 x has)

-- with no stop nothing that is read goes
stays-read : (first : List Section) (past between : List Call) (n : ℕ) (x : Artifact) → IsRising first → list_any is_stop between ≡ false → list_any (prunes n) between ≡ false
    → Contains (read_of n (after first past)) x → Contains (read_of n (after first (between ++ past))) x
unfolding after
stays-read first past [] n x h goes spared has = has
stays-read first past (call ∷ between) n x h goes spared has =
    begins-contains _ (read_of n (after first (between ++ past))) x
    (read-call n call (after first (between ++ past)) (rising-after first (between ++ past) h)
    (left_false (prunes n call) (list_any (prunes n) between) spared) (left_false (is_stop call) (list_any is_stop between) goes))
    (stays-read first past between n x h (right_false (is_stop call) (list_any is_stop between) goes) (right_false (prunes n call) (list_any (prunes n) between) spared) has)

appended-read : (first : List Section) (past : List Call) (n : ℕ) (x : Artifact) → IsRising first → Contains (read_of n (after first (Append n x ∷ past))) x
unfolding after after_call
appended-read first past n x h =
    let is : read_of n (appended n x (after first past)) ≡ read_of n (after first past) ++ x ∷ [] = read_of-appended n n x (after first past) (rising-after first past h) ∙ grind (arith, common_steps, nat_tests) in
    subst (λ (l : List Artifact). Contains l x) (sym is) (Contains-push (read_of n (after first past)) x)

pub synced-read : (first : List Section) (past between later : List Call) (n : ℕ) (x : Artifact) (sync : Call) → IsRising first
    → syncs n sync ≡ true → list_any is_stop between ≡ false → list_any (prunes n) between ≡ false → list_any (prunes n) later ≡ false
    → Contains (replayed (after first (later ++ sync ∷ (between ++ Append n x ∷ past)))) x
unfolding after
synced-read first past between later n x sync h is goes spared left =
    let before = between ++ Append n x ∷ past in
    let has = stays-read first (Append n x ∷ past) between n x h goes spared (appended-read first past n x h) in
    let synced : Contains (synced_of n (after first (sync ∷ before))) x = subst (λ (l : List Artifact). Contains l x) (sym (synced-sync n sync (after first before) is)) has in
    Contains-read_of n (after first (later ++ sync ∷ before)) x (begins-contains _ _ x (read-after first (sync ∷ before) later n h left) synced)
