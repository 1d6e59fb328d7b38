-- What stands unsynced, call by call.
use Rattle.std.proofs.Common.{◌≡◌, ℕ, ◌==◌, not, cond, Bool, true, false, List, [], ◌∷◌, ◌++◌, fold, filter, All, Some, None, refl, sym, ap, ◌∙◌, subst, arith}
use Rattle.std.proofs.lemmas.Grind.{common_steps}
use Rattle.std.proofs.lemmas.List.Sums.{fold-append}
use Rattle.std.proofs.lemmas.List.Elements.{All-head, All-tail}
use Rattle.simplex_messages.specs.declared.call.Call.{Call}
use Rattle.simplex_messages.specs.declared.call.Call.TheVariants as calls
use Rattle.model_steps.specs.Desk.{Doing}
use Rattle.law_member.specs.Sections.{IsOfSection}
use Rattle.law_member.specs.Syncs.{unsynced_after, unsynced}
use Rattle.law_member.specs.Learned.{appended_fact}
use Rattle.law_member.proofs.Adding.{some_is}

-- ---- calls that wait for the sync

abbrev pub is_outward : Call → Bool
is_outward (calls.Send channel to bytes) = true
is_outward (calls.Prune least) = true
is_outward (calls.Report activity) = true
is_outward _ = false

-- where these sections stand unsynced at first, each such call finds none
abbrev pub Guarded : List ℕ → List Call → Type 0
Guarded loose [] = Unit {0}
Guarded loose (c ∷ rest) = (is_outward c ≡ true → loose ≡ []) × Guarded (unsynced_after loose c) rest

guarded_push : (loose : List ℕ) (cs : List Call) (c : Call) → Guarded loose cs → (is_outward c ≡ true → fold unsynced_after loose cs ≡ []) → Guarded loose (cs ++ c ∷ [])
guarded_push loose [] c g last = (last, tt)
guarded_push loose (x ∷ cs) c g last = (g.0, guarded_push (unsynced_after loose x) cs c g.1 last)

guarded_place : (loose : List ℕ) (before behind : List Call) (c : Call) → Guarded loose (before ++ c ∷ behind) → is_outward c ≡ true → fold unsynced_after loose before ≡ []
guarded_place loose [] behind c g e = g.0 e
guarded_place loose (x ∷ before) behind c g e = guarded_place (unsynced_after loose x) before behind c g.1 e

-- such a call finds nothing unsynced
pub finds_synced : (cs before behind : List Call) (c : Call) → Guarded [] cs → is_outward c ≡ true → cs ≡ before ++ c ∷ behind → unsynced before ≡ []
finds_synced cs before behind c g out e = guarded_place [] before behind c (subst (Guarded []) e g) out

-- ---- one more call

pub unsynced_last : (cs : List Call) (c : Call) → unsynced (cs ++ c ∷ []) ≡ unsynced_after (unsynced cs) c
unsynced_last cs c = fold-append unsynced_after [] cs (c ∷ [])

-- what appends nothing leaves nothing unsynced where nothing was
stays_synced : (now : ℕ) (c : Call) → appended_fact now c ≡ None → unsynced_after [] c ≡ []
stays_synced now (calls.Append section artifact) e = cc
stays_synced now (calls.Sync section) e = refl
stays_synced now (calls.Prune least) e = refl
stays_synced now (calls.Send channel to bytes) e = refl
stays_synced now (calls.Report activity) e = refl
stays_synced now (calls.Relay payload plan) e = refl
stays_synced now (calls.Block member why) e = refl

pub synced_push : (now : ℕ) (cs : List Call) (c : Call) → appended_fact now c ≡ None → unsynced cs ≡ [] → unsynced (cs ++ c ∷ []) ≡ []
synced_push now cs c none e = unsynced_last cs c ∙ ap (λ loose. unsynced_after loose c) e ∙ stays_synced now c none

pub guards_push : (cs : List Call) (c : Call) → Guarded [] cs → (is_outward c ≡ true → unsynced cs ≡ []) → Guarded [] (cs ++ c ∷ [])
guards_push cs c g last = guarded_push [] cs c g last

-- ---- the sync of the one section

pub itself : (n : ℕ) → (n == n) ≡ true
itself n = grind (arith, common_steps)

-- each is this one
abbrev pub Only : ℕ → List ℕ → Type 0
Only view [] = Unit {0}
Only view (s ∷ rest) = (s ≡ view) × Only view rest

pub only_one : (view : ℕ) (loose : List ℕ) → Only view loose → filter (λ s. not (s == view)) loose ≡ []
only_one view [] h = refl
only_one view (s ∷ rest) h =
    ap (λ b. cond (not b) (s ∷ filter (λ s. not (s == view)) rest) (filter (λ s. not (s == view)) rest)) (ap (λ n. n == view) h.0 ∙ itself view)
    ∙ only_one view rest h.1

only_after : (view : ℕ) (loose : List ℕ) (c : Call) → IsOfSection (Some view) c → Only view loose → Only view (unsynced_after loose c)
only_after view loose (calls.Append section artifact) h o = (sym (some_is view section h.0), o)
only_after view loose (calls.Sync section) h o =
    subst (Only view) (sym (subst (λ n. filter (λ s. not (s == n)) loose ≡ []) (some_is view section h) (only_one view loose o))) tt
only_after view loose (calls.Prune least) h o = o
only_after view loose (calls.Send channel to bytes) h o = o
only_after view loose (calls.Report activity) h o = o
only_after view loose (calls.Relay payload plan) h o = o
only_after view loose (calls.Block member why) h o = o

only_all : (view : ℕ) (loose : List ℕ) (cs : List Call) → All (IsOfSection (Some view)) cs → Only view loose → Only view (fold unsynced_after loose cs)
only_all view loose [] all o = o
only_all view loose (c ∷ cs) all o =
    only_all view (unsynced_after loose c) cs (All-tail (IsOfSection (Some view)) c cs all) (only_after view loose c (All-head (IsOfSection (Some view)) c cs all) o)

pub sync_ends : (view : ℕ) (cs : List Call) → All (IsOfSection (Some view)) cs → unsynced (cs ++ calls.Sync view ∷ []) ≡ []
sync_ends view cs all = unsynced_last cs (calls.Sync view) ∙ only_one view (unsynced cs) (only_all view [] cs all tt)

-- ---- where no section is touched

same_after : (loose : List ℕ) (c : Call) → IsOfSection None c → unsynced_after loose c ≡ loose
same_after loose (calls.Append section artifact) h = cc
same_after loose (calls.Sync section) h = cc
same_after loose (calls.Prune least) h = refl
same_after loose (calls.Send channel to bytes) h = refl
same_after loose (calls.Report activity) h = refl
same_after loose (calls.Relay payload plan) h = refl
same_after loose (calls.Block member why) h = refl

same_all : (loose : List ℕ) (cs : List Call) → All (IsOfSection None) cs → fold unsynced_after loose cs ≡ loose
same_all loose [] all = refl
same_all loose (c ∷ cs) all = same_all (unsynced_after loose c) cs (All-tail (IsOfSection None) c cs all) ∙ same_after loose c (All-head (IsOfSection None) c cs all)

pub untouched : (cs : List Call) → All (IsOfSection None) cs → unsynced cs ≡ []
untouched cs all = same_all [] cs all

-- ---- whether anything was appended

-- a step that appended nothing has nothing to sync
abbrev pub Flagged : Doing → Type 0
Flagged d = d.wrote ≡ false → unsynced d.calls ≡ []
