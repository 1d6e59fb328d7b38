-- The calls of a step, one by one.
use Rattle.std.proofs.Common.{◌≡◌, ℕ, ◌+◌, ◌<◌, ◌≤◌, List, [], ◌∷◌, ◌++◌, Bool, true, false, refl, sym, ap, subst, ◌∙◌, length, take, drop, get_or}
use Rattle.std.specs.Prelude.{Option, Some, None, Result, Ok, Err, ◌&&◌, ◌||◌}
use Rattle.std.specs.List.{cons_option, filter_map, list_any}
use Rattle.std.specs.Option.{option_map_or}
use Rattle.std.proofs.lemmas.List.{append-nil, take_more, drop_more, take_all, drop_all}
use Rattle.std.proofs.lemmas.List.Elements.{filter_map-append}
use Rattle.simplex_wire.specs.declared.artifact.Artifact.{Artifact}
use Rattle.simplex_wire.specs.declared.artifact.Artifact.TheVariants as artifacts
use Rattle.simplex_wire.specs.declared.vote.Nullify.{Nullify}
use Rattle.simplex_wire.specs.declared.vote.Vote.{Vote}
use Rattle.simplex_wire.specs.declared.vote.Vote.TheVariants as votes
use Rattle.simplex_wire.specs.declared.error.DecodeError.{DecodeError}
use Rattle.simplex_wire.specs.Message.{vote}
use Rattle.simplex_messages.specs.declared.call.Call.{Call}
use Rattle.simplex_journal.specs.Journal.{Section, appended, synced_at, pruned}
use Rattle.model_steps.specs.Performed.{after_calls}
use Rattle.law_member.proofs.LifeStarting.{after_append}
use Rattle.model_audit.specs.declared.record.AuditCall.{AuditCall}
use Rattle.model_audit.specs.declared.record.AuditCall.TheVariants as audit
use Rattle.model_audit.specs.Order.{are_in_order, may_call, may_send, is_record_of, is_again}
use Rattle.model_audit.specs.Order.{is_stored as model_stored}
use Rattle.model_audit.specs.Rebuilt.{call_for}
use Rattle.simplex_stored.specs.declared.before.Before.{Before}
use Rattle.simplex_stored.specs.Before.{made, may_make, is_nullify, is_stored, is_in, BeforeStands}
use Rattle.simplex_stored.proofs.Calls.{stored-as}

-- the calls so far, and those to come
abbrev pub so_far : List AuditCall → ℕ → List Call
so_far calls i = filter_map call_for (take i calls)

pub made-next : (calls : List AuditCall) (i : ℕ) (x : AuditCall) → i < length calls → x ≡ get_or calls i x → so_far calls (i + 1) ≡ so_far calls i ++ made x
made-next calls i x low is =
    ap (filter_map call_for) (take_more calls i x low ∙ ap (λ y. take i calls ++ y ∷ []) (sym is)) ∙ filter_map-append call_for (take i calls) (x ∷ [])

pub made-all : (calls : List AuditCall) (i : ℕ) → length calls ≤ i → so_far calls i ≡ filter_map call_for calls
made-all calls i over = ap (filter_map call_for) (take_all i calls over)

-- ---- the journal

pub journal-next : (calls : List AuditCall) (i : ℕ) (x : AuditCall) (first old new : List Section) → i < length calls → x ≡ get_or calls i x
    → old ≡ after_calls (so_far calls i) first → new ≡ after_calls (made x) old → new ≡ after_calls (so_far calls (i + 1)) first
journal-next calls i x first old new low is e step =
    step ∙ ap (after_calls (made x)) e ∙ sym (after_append (so_far calls i) (made x) first) ∙ ap (λ cs. after_calls cs first) (sym (made-next calls i x low is))

pub call-append : (call : AuditCall) (section : ℕ) (artifact : Artifact) (old new : List Section) → call ≡ audit.Append section artifact
    → new ≡ appended section artifact old → new ≡ after_calls (made call) old
unfolding after_calls
call-append call section artifact old new is step = subst (λ c. new ≡ after_calls (made c) old) (sym is) step

pub call-sync : (call : AuditCall) (section : ℕ) (old new : List Section) → call ≡ audit.Sync section → new ≡ synced_at section old → new ≡ after_calls (made call) old
unfolding after_calls
call-sync call section old new is step = subst (λ c. new ≡ after_calls (made c) old) (sym is) step

pub call-prune : (call : AuditCall) (least : ℕ) (old new : List Section) → call ≡ audit.Prune least → new ≡ pruned least old → new ≡ after_calls (made call) old
unfolding after_calls
call-prune call least old new is step = subst (λ c. new ≡ after_calls (made c) old) (sym is) step

pub call-other : (call : AuditCall) (old : List Section) → ((section : ℕ) (artifact : Artifact) → call ≡ audit.Append section artifact → ⊥)
    → ((section : ℕ) → call ≡ audit.Sync section → ⊥) → ((least : ℕ) → call ≡ audit.Prune least → ⊥) → old ≡ after_calls (made call) old
unfolding after_calls
call-other (audit.Append section artifact) old append sync prune = absurd (append section artifact refl)
call-other (audit.Sync section) old append sync prune = absurd (sync section refl)
call-other (audit.Prune least) old append sync prune = absurd (prune least refl)
call-other (audit.Send channel bytes) old append sync prune = refl
call-other (audit.Report certificate) old append sync prune = refl
call-other audit.Other old append sync prune = refl

-- ---- the order

goes-on : (held : List Artifact) (before : List Call) (call : Option Call) (rest : List Call) → option_map_or (may_call held before) call true ≡ true
    → are_in_order held before (cons_option call rest) ≡ are_in_order held (before ++ cons_option call []) rest
unfolding are_in_order
goes-on held before None rest may = ap (λ cs. are_in_order held cs rest) (sym (append-nil before))
goes-on held before (Some call) rest may = ap (λ b. b && are_in_order held (before ++ call ∷ []) rest) may

fails : (held : List Artifact) (before : List Call) (call : Option Call) (rest : List Call) → option_map_or (may_call held before) call true ≡ false
    → are_in_order held before (cons_option call rest) ≡ false
unfolding are_in_order
fails held before None rest may = absurd cc
fails held before (Some call) rest may = ap (λ b. b && are_in_order held (before ++ call ∷ []) rest) may

rest-next : (calls : List AuditCall) (i : ℕ) (x : AuditCall) → i < length calls → x ≡ get_or calls i x
    → filter_map call_for (drop i calls) ≡ cons_option (call_for x) (filter_map call_for (drop (i + 1) calls))
rest-next calls i x low is = ap (filter_map call_for) (drop_more calls i x low ∙ ap (λ y. y ∷ drop (i + 1) calls) (sym is))

-- what is left to be tested
abbrev pub left_of : List Artifact → List AuditCall → ℕ → Bool
left_of held calls i = are_in_order held (so_far calls i) (filter_map call_for (drop i calls))

pub order-next : (held : List Artifact) (calls : List AuditCall) (i : ℕ) (x : AuditCall) (whole : Bool) → i < length calls → x ≡ get_or calls i x
    → may_make held (so_far calls i) x ≡ true → left_of held calls i ≡ whole → left_of held calls (i + 1) ≡ whole
order-next held calls i x whole low is may e =
    ap (λ cs. are_in_order held cs (filter_map call_for (drop (i + 1) calls))) (made-next calls i x low is)
    ∙ sym (goes-on held (so_far calls i) (call_for x) (filter_map call_for (drop (i + 1) calls)) may)
    ∙ ap (are_in_order held (so_far calls i)) (sym (rest-next calls i x low is)) ∙ e

pub order-fails : (held : List Artifact) (calls : List AuditCall) (i : ℕ) (x : AuditCall) (whole : Bool) → i < length calls → x ≡ get_or calls i x
    → may_make held (so_far calls i) x ≡ false → left_of held calls i ≡ whole → false ≡ whole
order-fails held calls i x whole low is may e =
    sym (fails held (so_far calls i) (call_for x) (filter_map call_for (drop (i + 1) calls)) may)
    ∙ ap (are_in_order held (so_far calls i)) (sym (rest-next calls i x low is)) ∙ e

pub order-done : (held : List Artifact) (calls : List AuditCall) (i : ℕ) (whole : Bool) → length calls ≤ i → left_of held calls i ≡ whole → true ≡ whole
unfolding are_in_order
order-done held calls i whole over e = sym (ap (λ cs. are_in_order held (so_far calls i) (filter_map call_for cs)) (drop_all i calls over)) ∙ e

-- ---- a nullify again

again-one : (n : Nullify) (a : Artifact) → is_record_of (votes.Nullify n) a ≡ is_nullify (vote.spelling (votes.Nullify n)) a
unfolding vote
again-one n (artifacts.Notarize w) = refl
again-one n (artifacts.Nullify w) = refl
again-one n (artifacts.Finalize w) = refl
again-one n (artifacts.Notarization c) = refl
again-one n (artifacts.Nullification c) = refl
again-one n (artifacts.Finalization c) = refl
again-one n (artifacts.Certification round verdict) = refl

pub again-as : (n : Nullify) (held : List Artifact) → list_any (is_record_of (votes.Nullify n)) held ≡ list_any (is_nullify (vote.spelling (votes.Nullify n))) held
again-as n [] = refl
again-as n (a ∷ held) = ap (λ b. b || list_any (is_record_of (votes.Nullify n)) held) (again-one n a)
    ∙ ap (λ b. is_nullify (vote.spelling (votes.Nullify n)) a || b) (again-as n held)

-- ---- a vote that is sent

is-stored : (b : Before) (xs : List Call) (v : Vote) (bytes : List ℕ) → bytes ≡ vote.spelling v → BeforeStands b xs → model_stored v xs ≡ is_in b.stored bytes
is-stored b xs v bytes spelled stand = stored-as v xs ∙ ap (λ l. is_stored l xs) (sym spelled) ∙ sym (stand.stored bytes)

pub may-stored : (held : List Artifact) (b : Before) (xs : List Call) (v : Vote) (bytes : List ℕ) (read : Result Vote DecodeError) → read ≡ Ok v → bytes ≡ vote.spelling v
    → is_in b.stored bytes ≡ true → BeforeStands b xs → true ≡ may_send held xs read
may-stored held b xs v bytes read is spelled there stand =
    sym (ap (may_send held xs) is ∙ ap (λ s. s || is_again held v) (is-stored b xs v bytes spelled stand ∙ there))

pub may-again : (held : List Artifact) (b : Before) (xs : List Call) (v : Vote) (n : Nullify) (bytes : List ℕ) (read : Result Vote DecodeError) (r : Bool) → read ≡ Ok v → v ≡ votes.Nullify n
    → bytes ≡ vote.spelling v → is_in b.stored bytes ≡ false → r ≡ list_any (is_nullify bytes) held → BeforeStands b xs → r ≡ may_send held xs read
may-again held b xs v n bytes read r is kind spelled there found stand =
    found ∙ ap (λ l. list_any (is_nullify l) held) (spelled ∙ ap vote.spelling kind) ∙ sym (again-as n held)
    ∙ sym (ap (may_send held xs) is ∙ ap (λ s. s || is_again held v) (is-stored b xs v bytes spelled stand ∙ there) ∙ ap (is_again held) kind)

not-again : (held : List Artifact) (v : Vote) → ((n : Nullify) → v ≡ votes.Nullify n → ⊥) → is_again held v ≡ false
not-again held (votes.Notarize v) other = refl
not-again held (votes.Nullify v) other = absurd (other v refl)
not-again held (votes.Finalize v) other = refl

pub may-not : (held : List Artifact) (b : Before) (xs : List Call) (v : Vote) (bytes : List ℕ) (read : Result Vote DecodeError) → read ≡ Ok v → ((n : Nullify) → v ≡ votes.Nullify n → ⊥)
    → bytes ≡ vote.spelling v → is_in b.stored bytes ≡ false → BeforeStands b xs → false ≡ may_send held xs read
may-not held b xs v bytes read is other spelled there stand =
    sym (ap (may_send held xs) is ∙ ap (λ s. s || is_again held v) (is-stored b xs v bytes spelled stand ∙ there) ∙ not-again held v other)
