-- The verdict, entry by entry.
use Rattle.std.proofs.Common.{◌≡◌, ℕ, ◌+◌, ◌<◌, ◌≤◌, List, [], ◌∷◌, ◌++◌, Bool, true, false, refl, sym, ap, subst, ◌∙◌, Option, Some, None, length, take, drop, get_or, arith}
use Rattle.std.proofs.lemmas.List.{drop_all, drop_more, length-drop, length-take-le, take_all, take_more}
use Rattle.simplex_transcript.specs.declared.event.Event.{Event}
use Rattle.simplex_transcript.specs.declared.field.Field.{Field}
use Rattle.model_run.specs.Life.{Noted}
use Rattle.model_run.specs.Setting.{Setting}
use Rattle.model_audit.specs.declared.record.AuditEntry.{AuditEntry}
use Rattle.model_audit.specs.declared.record.AuditFault.{AuditFault}
use Rattle.model_audit.specs.declared.record.AuditFault.TheVariants as faults
use Rattle.model_audit.specs.declared.record.Verdict.{Verdict}
use Rattle.model_audit.specs.declared.record.Verdict.TheVariants.{Sound, Fault}
use Rattle.model_run.specs.Run.{are_few}
use Rattle.model_run.specs.Setups as setups
use Rattle.model_audit.specs.Audit.{audited, fault_in, judged_from}
use Rattle.model_audit.specs.Holding.{all_rebuilt, rebuilt_from}
use Rattle.model_audit.specs.Rebuilt.{rebuilt}
use Rattle.simplex_judge.specs.declared.judge.Judge.{Judge}
use Rattle.simplex_judge.specs.Judging.{JudgeStands}

-- the entries so far, as those of a run
abbrev pub so_far : List Event → List AuditEntry → ℕ → List Noted
so_far events entries i = all_rebuilt (take i events) (take i entries)

rebuilt-more : (before : List Noted) (events : List Event) (entries : List AuditEntry) (event : Event) (e : AuditEntry) → length events ≡ length entries
    → rebuilt_from before (events ++ event ∷ []) (entries ++ e ∷ []) ≡ rebuilt event e ∷ rebuilt_from before events entries
unfolding rebuilt_from
rebuilt-more before [] [] event e same = refl
rebuilt-more before [] (x ∷ entries) event e same = absurd (omega (arith, same))
rebuilt-more before (x ∷ events) [] event e same = absurd (omega (arith, same))
rebuilt-more before (x ∷ events) (y ∷ entries) event e same = rebuilt-more (rebuilt x y ∷ before) events entries event e (omega (arith, same))

rebuilt-count : (before : List Noted) (events : List Event) (entries : List AuditEntry) → length events ≡ length entries → length (rebuilt_from before events entries) ≡ length before + length events
unfolding rebuilt_from
rebuilt-count before [] [] same = omega arith
rebuilt-count before [] (x ∷ entries) same = absurd (omega (arith, same))
rebuilt-count before (x ∷ events) [] same = absurd (omega (arith, same))
rebuilt-count before (x ∷ events) (y ∷ entries) same = omega (arith, rebuilt-count (rebuilt x y ∷ before) events entries (omega (arith, same)))

taken-alike : (events : List Event) (entries : List AuditEntry) (i : ℕ) → i ≤ length events → i ≤ length entries → length (take i events) ≡ length (take i entries)
taken-alike events entries i low room = omega (arith, length-take-le i events low, length-take-le i entries room)

pub more-so_far : (events : List Event) (entries : List AuditEntry) (i : ℕ) (event : Event) (e : AuditEntry) → i < length events → i < length entries → event ≡ get_or events i event → e ≡ get_or entries i e
    → so_far events entries (i + 1) ≡ rebuilt event e ∷ so_far events entries i
more-so_far events entries i event e low room here there =
    ap (λ es. all_rebuilt es (take (i + 1) entries)) (take_more events i event low ∙ ap (λ x. take i events ++ x ∷ []) (sym here))
    ∙ ap (λ es. all_rebuilt (take i events ++ event ∷ []) es) (take_more entries i e room ∙ ap (λ x. take i entries ++ x ∷ []) (sym there))
    ∙ rebuilt-more [] (take i events) (take i entries) event e (taken-alike events entries i (omega (arith, low)) (omega (arith, room)))

count-so_far : (events : List Event) (entries : List AuditEntry) (i : ℕ) → i ≤ length events → i ≤ length entries → length (so_far events entries i) ≡ i
count-so_far events entries i low room =
    let all = rebuilt-count [] (take i events) (take i entries) (taken-alike events entries i low room) in
    omega (arith, all, length-take-le i events low)

-- the verdict on the rest
abbrev pub left_of : Setting → List Event → List AuditEntry → ℕ → Verdict
left_of setting events entries i = judged_from setting (so_far events entries i) (drop i events) (drop i entries)

one-fault : (setting : Setting) (before : List Noted) (event : Event) (e : AuditEntry) (events : List Event) (entries : List AuditEntry) (cause : AuditFault) → fault_in setting before event e ≡ Some cause
    → judged_from setting before (event ∷ events) (e ∷ entries) ≡ Fault (length before + 1) cause
unfolding judged_from
one-fault setting before event e events entries cause is = rw is refl

one-sound : (setting : Setting) (before : List Noted) (event : Event) (e : AuditEntry) (events : List Event) (entries : List AuditEntry) → fault_in setting before event e ≡ None
    → judged_from setting before (event ∷ events) (e ∷ entries) ≡ judged_from setting (rebuilt event e ∷ before) events entries
unfolding judged_from
one-sound setting before event e events entries is = rw is refl

none-there : (setting : Setting) (before : List Noted) (event : Event) (events : List Event) → judged_from setting before (event ∷ events) [] ≡ Fault (length before + 1) faults.Entry
unfolding judged_from
none-there setting before event events = refl

one-left : (setting : Setting) (before : List Noted) (e : AuditEntry) (entries : List AuditEntry) → judged_from setting before [] (e ∷ entries) ≡ Fault (length before + 1) faults.Entry
unfolding judged_from
one-left setting before e entries = refl

none-left : (setting : Setting) (before : List Noted) → judged_from setting before [] [] ≡ Sound
unfolding judged_from
none-left setting before = refl

split : (setting : Setting) (before : List Noted) (events : List Event) (entries : List AuditEntry) (i : ℕ) (event : Event) (e : AuditEntry) → i < length events → i < length entries
    → event ≡ get_or events i event → e ≡ get_or entries i e
    → judged_from setting before (drop i events) (drop i entries) ≡ judged_from setting before (event ∷ drop (i + 1) events) (e ∷ drop (i + 1) entries)
split setting before events entries i event e low room here there =
    ap (λ es. judged_from setting before es (drop i entries)) (drop_more events i event low ∙ ap (λ x. x ∷ drop (i + 1) events) (sym here))
    ∙ ap (λ es. judged_from setting before (event ∷ drop (i + 1) events) es) (drop_more entries i e room ∙ ap (λ x. x ∷ drop (i + 1) entries) (sym there))

pub left-next : (setting : Setting) (events : List Event) (entries : List AuditEntry) (i : ℕ) (event : Event) (e : AuditEntry) (whole : Verdict) → i < length events → i < length entries
    → event ≡ get_or events i event → e ≡ get_or entries i e → None ≡ fault_in setting (so_far events entries i) event e → left_of setting events entries i ≡ whole
    → left_of setting events entries (i + 1) ≡ whole
left-next setting events entries i event e whole low room here there none so =
    ap (λ before. judged_from setting before (drop (i + 1) events) (drop (i + 1) entries)) (more-so_far events entries i event e low room here there)
    ∙ sym (one-sound setting (so_far events entries i) event e (drop (i + 1) events) (drop (i + 1) entries) (sym none))
    ∙ sym (split setting (so_far events entries i) events entries i event e low room here there) ∙ so

pub left-fault : (setting : Setting) (events : List Event) (entries : List AuditEntry) (i : ℕ) (event : Event) (e : AuditEntry) (cause : AuditFault) (number : ℕ) (whole : Verdict) → i < length events → i < length entries
    → event ≡ get_or events i event → e ≡ get_or entries i e → number ≡ i + 1 → Some cause ≡ fault_in setting (so_far events entries i) event e → left_of setting events entries i ≡ whole
    → Fault number cause ≡ whole
left-fault setting events entries i event e cause number whole low room here there numbered is so =
    let count = count-so_far events entries i (omega (arith, low)) (omega (arith, room)) in
    let named : length (so_far events entries i) + 1 ≡ number = omega (arith, count, numbered) in
    sym (split setting (so_far events entries i) events entries i event e low room here there
    ∙ one-fault setting (so_far events entries i) event e (drop (i + 1) events) (drop (i + 1) entries) cause (sym is)
    ∙ ap (λ n. Fault n cause) named)
    ∙ so

pub left-missing : (setting : Setting) (events : List Event) (entries : List AuditEntry) (i : ℕ) (event : Event) (number : ℕ) (whole : Verdict) → i < length events → length entries ≤ i → i ≤ length entries
    → event ≡ get_or events i event → number ≡ i + 1 → left_of setting events entries i ≡ whole → Fault number faults.Entry ≡ whole
left-missing setting events entries i event number whole low over room here numbered so =
    let count = count-so_far events entries i (omega (arith, low)) room in
    let named : length (so_far events entries i) + 1 ≡ number = omega (arith, count, numbered) in
    sym (ap (λ es. judged_from setting (so_far events entries i) es (drop i entries)) (drop_more events i event low ∙ ap (λ x. x ∷ drop (i + 1) events) (sym here))
    ∙ ap (judged_from setting (so_far events entries i) (event ∷ drop (i + 1) events)) (drop_all i entries over)
    ∙ none-there setting (so_far events entries i) event (drop (i + 1) events)
    ∙ ap (λ n. Fault n faults.Entry) named)
    ∙ so

pub left-more : (setting : Setting) (events : List Event) (entries : List AuditEntry) (i : ℕ) (number : ℕ) (whole : Verdict) → length events ≤ i → i ≤ length events → i < length entries
    → number ≡ i + 1 → left_of setting events entries i ≡ whole → Fault number faults.Entry ≡ whole
left-more setting events entries i number whole over low room numbered so =
    let count = count-so_far events entries i low (omega (arith, room)) in
    let named : length (so_far events entries i) + 1 ≡ number = omega (arith, count, numbered) in
    let many : 0 < length (drop i entries) = omega (arith, room, length-drop i entries) in
    sym (ap (λ es. judged_from setting (so_far events entries i) es (drop i entries)) (drop_all i events over)
    ∙ at-rest (drop i entries) many
    ∙ ap (λ n. Fault n faults.Entry) named)
    ∙ so
  where
    at-rest : (rest : List AuditEntry) → 0 < length rest → judged_from setting (so_far events entries i) [] rest ≡ Fault (length (so_far events entries i) + 1) faults.Entry
    at-rest [] h = absurd (omega (arith, h))
    at-rest (x ∷ rest) h = one-left setting (so_far events entries i) x rest

pub left-sound : (setting : Setting) (events : List Event) (entries : List AuditEntry) (i : ℕ) (whole : Verdict) → length events ≤ i → length entries ≤ i → left_of setting events entries i ≡ whole → Sound ≡ whole
left-sound setting events entries i whole over past so =
    sym (ap (λ es. judged_from setting (so_far events entries i) es (drop i entries)) (drop_all i events over)
    ∙ ap (judged_from setting (so_far events entries i) []) (drop_all i entries past) ∙ none-left setting (so_far events entries i)) ∙ so

pub stands-next : (judge : Judge) (setting : Setting) (events : List Event) (entries : List AuditEntry) (i : ℕ) (event : Event) (e : AuditEntry) → i < length events → i < length entries
    → event ≡ get_or events i event → e ≡ get_or entries i e → JudgeStands judge setting (take i entries ++ e ∷ []) (rebuilt event e ∷ so_far events entries i)
    → JudgeStands judge setting (take (i + 1) entries) (so_far events entries (i + 1))
stands-next judge setting events entries i event e low room here there stand =
    let prior : take (i + 1) entries ≡ take i entries ++ e ∷ [] = take_more entries i e room ∙ ap (λ x. take i entries ++ x ∷ []) (sym there) in
    subst (λ (p : List AuditEntry). JudgeStands judge setting p (so_far events entries (i + 1))) (sym prior)
    (subst (JudgeStands judge setting (take i entries ++ e ∷ [])) (sym (more-so_far events entries i event e low room here there)) stand)

pub stands-first : (judge : Judge) (setting : Setting) (events : List Event) (entries : List AuditEntry) → JudgeStands judge setting [] []
    → JudgeStands judge setting (take 0 entries) (so_far events entries 0) × (left_of setting events entries 0 ≡ judged_from setting [] events entries)
unfolding rebuilt_from
stands-first judge setting events entries stand = (stand, refl)

-- ---- the setup

pub few-fails : (setting : Setting) (events : List Event) (entries : List AuditEntry) → are_few setting.setup events ≡ false → Fault 0 faults.Setup ≡ audited setting events entries
unfolding audited
few-fails setting events entries few = rw few refl

pub bad-fails : (setting : Setting) (events : List Event) (entries : List AuditEntry) (field : Field) → are_few setting.setup events ≡ true → setups.first_bad setting.setup ≡ Some field
    → Fault 0 faults.Setup ≡ audited setting events entries
unfolding audited
bad-fails setting events entries field few bad = rw (few, bad) refl

pub good-judges : (setting : Setting) (events : List Event) (entries : List AuditEntry) → are_few setting.setup events ≡ true → setups.first_bad setting.setup ≡ None
    → judged_from setting [] events entries ≡ audited setting events entries
unfolding audited
good-judges setting events entries few good = rw (few, good) refl
