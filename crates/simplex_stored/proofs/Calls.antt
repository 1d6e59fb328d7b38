-- Which votes are stored, by one call more.
use Rattle.std.proofs.Common.{◌≡◌, ℕ, List, [], ◌∷◌, ◌++◌, Bool, true, false, refl, sym, ap, ◌∙◌, if◌then◌else◌}
use Rattle.std.specs.Prelude.{Result, Ok, Err, OnOk, ◌==◌, ◌||◌, ◌&&◌}
use Rattle.std.specs.List.{list_any}
use Rattle.std.proofs.lemmas.List.Folds.{list_any-append}
use Rattle.std.proofs.lemmas.List.{append-nil}
use Rattle.std.proofs.lemmas.Bool.{eqb-true}
use Rattle.simplex_wire.specs.declared.artifact.Artifact.{Artifact}
use Rattle.simplex_wire.specs.declared.artifact.Artifact.TheVariants as artifacts
use Rattle.simplex_wire.specs.declared.vote.Vote.{Vote}
use Rattle.simplex_wire.specs.declared.vote.Vote.TheVariants as votes
use Rattle.simplex_wire.specs.Message as format
use Rattle.simplex_messages.specs.declared.call.Call.{Call}
use Rattle.simplex_messages.specs.declared.call.Call.TheVariants as calls
use Rattle.simplex_values.specs.declared.plan.Recipients.TheVariants as recipients
use Rattle.simplex_values.specs.Maps.{found}
use Rattle.std.specs.BTreeMap.{is_at}
use Rattle.std.specs.Map.{lookup}
use Rattle.std.specs.Ordering.{nat_cmp}
use Rattle.std.specs.Option.{option_map_or}
use Rattle.std.specs.Str.{bytes_eq}
use Rattle.model_audit.specs.declared.record.AuditCall.{AuditCall}
use Rattle.model_audit.specs.declared.record.AuditCall.TheVariants as audit
use Rattle.model_audit.specs.Rebuilt.{activity_for}
use Rattle.model_audit.specs.Order as order
use Rattle.model_audit.specs.Order.{is_stored as model_stored}
use Rattle.simplex_stored.specs.declared.before.Before.{Before}
use Rattle.simplex_stored.specs.Before.{made, is_spelled, is_synced_by, was_appended, is_stored, is_in, waits, BeforeStands}

-- ---- one call more

grouped : (a b c d : Bool) → ((a || (b || false)) || (c || d)) ≡ ((b || c) || (a || d))
grouped true true c d = refl
grouped true false true d = refl
grouped true false false d = refl
grouped false true c d = refl
grouped false false true d = refl
grouped false false false d = refl

pub stored-more : (bytes : List ℕ) (xs : List Call) (call : Call) → is_stored bytes (xs ++ call ∷ []) ≡ (list_any (is_synced_by bytes call) xs || is_stored bytes xs)
unfolding is_stored
stored-more bytes [] call = refl
stored-more bytes (x ∷ xs) call =
    ap (λ b. b || is_stored bytes (xs ++ call ∷ [])) (list_any-append (λ later. is_synced_by bytes later x) xs (call ∷ []))
    ∙ ap (λ b. (list_any (λ later. is_synced_by bytes later x) xs || (is_synced_by bytes call x || false)) || b) (stored-more bytes xs call)
    ∙ grouped (list_any (λ later. is_synced_by bytes later x) xs) (is_synced_by bytes call x) (list_any (is_synced_by bytes call) xs) (is_stored bytes xs)

-- a call that syncs no section stores nothing
abbrev pub SyncsNone : Call → Type 0
SyncsNone call = (section : ℕ) → order.is_sync_of section call ≡ false

none-by : (bytes : List ℕ) (call x : Call) → SyncsNone call → is_synced_by bytes call x ≡ false
none-by bytes call (calls.Append section artifact) none = ap (λ b. b && is_spelled bytes artifact) (none section)
none-by bytes call (calls.Sync section) none = refl
none-by bytes call (calls.Prune least) none = refl
none-by bytes call (calls.Send channel to sent) none = refl
none-by bytes call (calls.Report activity) none = refl
none-by bytes call (calls.Relay payload plan) none = refl
none-by bytes call (calls.Block member cause) none = refl

none-of : (bytes : List ℕ) (call : Call) (xs : List Call) → SyncsNone call → list_any (is_synced_by bytes call) xs ≡ false
none-of bytes call [] none = refl
none-of bytes call (x ∷ xs) none = ap (λ b. b || list_any (is_synced_by bytes call) xs) (none-by bytes call x none) ∙ none-of bytes call xs none

stored-same : (bytes : List ℕ) (xs : List Call) (call : Call) → SyncsNone call → is_stored bytes (xs ++ call ∷ []) ≡ is_stored bytes xs
stored-same bytes xs call none = stored-more bytes xs call ∙ ap (λ b. b || is_stored bytes xs) (none-of bytes call xs none)

or-false : (a b : Bool) → (a || (b || false)) ≡ (b || a)
or-false true true = refl
or-false true false = refl
or-false false true = refl
or-false false false = refl

appended-more : (section : ℕ) (bytes : List ℕ) (xs : List Call) (call : Call)
    → was_appended section bytes (xs ++ call ∷ []) ≡ (is_synced_by bytes (calls.Sync section) call || was_appended section bytes xs)
appended-more section bytes xs call = list_any-append (is_synced_by bytes (calls.Sync section)) xs (call ∷ [])
    ∙ or-false (was_appended section bytes xs) (is_synced_by bytes (calls.Sync section) call)

-- ---- what is kept of them

left : (a b c d : Bool) → (b || d) ≡ (c || d) → ((a || b) || d) ≡ ((a || c) || d)
left true b c d e = refl
left false b c d e = e

pub before-append : (old new : Before) (xs : List Call) (section : ℕ) (artifact : Artifact) → new.stored ≡ old.stored
    → ((number : ℕ) (bytes : List ℕ) → waits new.waiting number bytes ≡ (section == number && is_spelled bytes artifact || waits old.waiting number bytes))
    → BeforeStands old xs → BeforeStands new (xs ++ calls.Append section artifact ∷ [])
before-append old new xs section artifact same more stand =
    record {
      stored = λ bytes. ap (λ s. is_in s bytes) same ∙ stand.stored bytes ∙ sym (stays bytes);
      waiting = λ number bytes. ap (λ b. waits new.waiting number bytes || b) (stays bytes)
          ∙ ap (λ b. b || is_stored bytes xs) (more number bytes)
          ∙ left (section == number && is_spelled bytes artifact) (waits old.waiting number bytes) (was_appended number bytes xs) (is_stored bytes xs) (stand.waiting number bytes)
          ∙ ap (λ b. b || is_stored bytes xs) (sym (appended-more number bytes xs (calls.Append section artifact)))
          ∙ ap (λ b. was_appended number bytes (xs ++ calls.Append section artifact ∷ []) || b) (sym (stays bytes));
    }
  where
    stays : (bytes : List ℕ) → is_stored bytes (xs ++ calls.Append section artifact ∷ []) ≡ is_stored bytes xs
    stays bytes = stored-same bytes xs (calls.Append section artifact) (λ s. refl)

within : (a s : Bool) → (a || s) ≡ (a || (a || s))
within true s = refl
within false s = refl

apart : (w a c s : Bool) → (w || s) ≡ (a || s) → (w || (c || s)) ≡ (a || (c || s))
apart true true c s e = refl
apart true false true s e = refl
apart true false false s e = e
apart false true true s e = refl
apart false true false s e = e
apart false false c s e = refl

waiting-at : (test w a c s : Bool) → (test ≡ true → a ≡ c) → (w || s) ≡ (a || s) → ((if test then false else w) || (c || s)) ≡ (a || (c || s))
waiting-at true w a c s same e = rw (same refl) (within c s)
waiting-at false w a c s same e = apart w a c s e

pub before-sync : (old new : Before) (xs : List Call) (section : ℕ)
    → ((bytes : List ℕ) → is_in new.stored bytes ≡ (waits old.waiting section bytes || is_in old.stored bytes))
    → ((number : ℕ) (bytes : List ℕ) → waits new.waiting number bytes ≡ (if section == number then false else waits old.waiting number bytes))
    → BeforeStands old xs → BeforeStands new (xs ++ calls.Sync section ∷ [])
before-sync old new xs section stores more stand =
    record {
      stored = λ bytes. stores bytes ∙ ap (λ b. waits old.waiting section bytes || b) (stand.stored bytes) ∙ stand.waiting section bytes
          ∙ sym (stored-more bytes xs (calls.Sync section));
      waiting = λ number bytes. ap (λ b. waits new.waiting number bytes || b) (stored-more bytes xs (calls.Sync section))
          ∙ ap (λ b. b || (was_appended section bytes xs || is_stored bytes xs)) (more number bytes)
          ∙ waiting-at (section == number) (waits old.waiting number bytes) (was_appended number bytes xs) (was_appended section bytes xs) (is_stored bytes xs)
          (λ is. ap (λ n. was_appended n bytes xs) (sym (eqb-true section number is))) (stand.waiting number bytes)
          ∙ ap (λ b. b || (was_appended section bytes xs || is_stored bytes xs)) (sym (appended-more number bytes xs (calls.Sync section)))
          ∙ ap (λ b. was_appended number bytes (xs ++ calls.Sync section ∷ []) || b) (sym (stored-more bytes xs (calls.Sync section)));
    }

pub before-other : (old : Before) (xs : List Call) (call : Call) → SyncsNone call → ((bytes : List ℕ) (section : ℕ) → is_synced_by bytes (calls.Sync section) call ≡ false)
    → BeforeStands old xs → BeforeStands old (xs ++ call ∷ [])
before-other old xs call none apart stand =
    record {
      stored = λ bytes. stand.stored bytes ∙ sym (stored-same bytes xs call none);
      waiting = λ number bytes. ap (λ b. waits old.waiting number bytes || b) (stored-same bytes xs call none) ∙ stand.waiting number bytes
          ∙ ap (λ b. b || is_stored bytes xs) (sym (appended-more number bytes xs call ∙ ap (λ b. b || was_appended number bytes xs) (apart bytes number)))
          ∙ ap (λ b. was_appended number bytes (xs ++ call ∷ []) || b) (sym (stored-same bytes xs call none));
    }

pub before-none : (old : Before) (xs : List Call) → BeforeStands old xs → BeforeStands old (xs ++ [])
before-none old xs stand = rw (append-nil xs) stand

-- ---- the vote that is asked for

record_spelled : (v : Vote) (a : Artifact) → order.is_record_of v a ≡ is_spelled (format.vote.spelling v) a
record_spelled v (artifacts.Notarize w) = refl
record_spelled v (artifacts.Nullify w) = refl
record_spelled v (artifacts.Finalize w) = refl
record_spelled v (artifacts.Notarization c) = refl
record_spelled v (artifacts.Nullification c) = refl
record_spelled v (artifacts.Finalization c) = refl
record_spelled v (artifacts.Certification round verdict) = refl

synced : (bytes : List ℕ) (section : ℕ) (a : Artifact) (xs : List Call)
    → list_any (λ later. is_synced_by bytes later (calls.Append section a)) xs ≡ (is_spelled bytes a && list_any (order.is_sync_of section) xs)
synced bytes section a [] = none (is_spelled bytes a)
  where
    none : (b : Bool) → false ≡ (b && false)
    none true = refl
    none false = refl
synced bytes section a (x ∷ xs) = ap (λ b. (order.is_sync_of section x && is_spelled bytes a) || b) (synced bytes section a xs)
    ∙ shared (order.is_sync_of section x) (is_spelled bytes a) (list_any (order.is_sync_of section) xs)
  where
    shared : (s b l : Bool) → ((s && b) || (b && l)) ≡ (b && (s || l))
    shared true true l = refl
    shared true false l = refl
    shared false true l = refl
    shared false false l = refl

never : (xs : List Call) → list_any (λ (later : Call). false) xs ≡ false
never [] = refl
never (x ∷ xs) = never xs

pub stored-as : (v : Vote) (xs : List Call) → order.is_stored v xs ≡ is_stored (format.vote.spelling v) xs
unfolding model_stored is_stored
stored-as v [] = refl
stored-as v (calls.Append section a ∷ xs) =
    ap (λ b. (b && list_any (order.is_sync_of section) xs) || order.is_stored v xs) (record_spelled v a)
    ∙ ap (λ b. b || order.is_stored v xs) (sym (synced (format.vote.spelling v) section a xs))
    ∙ ap (λ b. list_any (λ later. is_synced_by (format.vote.spelling v) later (calls.Append section a)) xs || b) (stored-as v xs)
stored-as v (calls.Sync section ∷ xs) = stored-as v xs ∙ ap (λ b. b || is_stored (format.vote.spelling v) xs) (sym (never xs))
stored-as v (calls.Prune least ∷ xs) = stored-as v xs ∙ ap (λ b. b || is_stored (format.vote.spelling v) xs) (sym (never xs))
stored-as v (calls.Send channel to sent ∷ xs) = stored-as v xs ∙ ap (λ b. b || is_stored (format.vote.spelling v) xs) (sym (never xs))
stored-as v (calls.Report activity ∷ xs) = stored-as v xs ∙ ap (λ b. b || is_stored (format.vote.spelling v) xs) (sym (never xs))
stored-as v (calls.Relay payload plan ∷ xs) = stored-as v xs ∙ ap (λ b. b || is_stored (format.vote.spelling v) xs) (sym (never xs))
stored-as v (calls.Block member cause ∷ xs) = stored-as v xs ∙ ap (λ b. b || is_stored (format.vote.spelling v) xs) (sym (never xs))

-- ---- a call of a record

pub on-ok-two : {A E : Type 0} {P Q R : Type 0} (r : Result A E) → (P → Q → R) → OnOk r P → OnOk r Q → OnOk r R
on-ok-two (Ok x) leads p q = leads p q
on-ok-two (Err e) leads p q = tt

pub before-default : (old : Before) (xs : List Call) (call : AuditCall) → ((section : ℕ) (artifact : Artifact) → call ≡ audit.Append section artifact → ⊥)
    → ((section : ℕ) → call ≡ audit.Sync section → ⊥) → BeforeStands old xs → BeforeStands old (xs ++ made call)
before-default old xs (audit.Append section artifact) append sync stand = absurd (append section artifact refl)
before-default old xs (audit.Sync section) append sync stand = absurd (sync section refl)
before-default old xs (audit.Prune least) append sync stand = before-other old xs (calls.Prune least) (λ s. refl) (λ bytes s. refl) stand
before-default old xs (audit.Send channel bytes) append sync stand = before-other old xs (calls.Send channel recipients.All bytes) (λ s. refl) (λ bytes s. refl) stand
before-default old xs (audit.Report certificate) append sync stand = before-other old xs (calls.Report (activity_for certificate)) (λ s. refl) (λ bytes s. refl) stand
before-default old xs audit.Other append sync stand = before-none old xs stand

pub before-new : (new : Before) → ((bytes : List ℕ) → is_in new.stored bytes ≡ false) → new.waiting.entries ≡ [] → BeforeStands new []
unfolding is_stored waits found
before-new new none empty =
    record { stored = none; waiting = λ section bytes. ap (λ es. option_map_or (λ spellings. list_any (bytes_eq bytes) spellings) (lookup (is_at (nat_cmp section)) es) false || false) empty }
