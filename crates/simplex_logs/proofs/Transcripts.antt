-- What the entries of a whole run give: so many members, and nothing that clashes.
use Rattle.std.proofs.Common.{◌≡◌, ℕ, ◌<◌, ◌≤◌, ◌==◌, ◌&&◌, Bool, true, false, not, List, [], ◌∷◌, ◌++◌, map, length, Option, Some, None, Result, Ok, Err, refl, sym, ap, ◌∙◌, arith, append-nil, append_assoc}
use Rattle.std.specs.Prelude.{nat_le, if◌then◌else◌}
use Rattle.std.proofs.lemmas.Bool.Decides.{nat_tests}
use Rattle.simplex_types.specs.declared.activity.Activity.{Activity}
use Rattle.simplex_transcript.specs.declared.entry.Entry.{Entry}
use Rattle.simplex_transcript.specs.declared.event.Event.{Event}
use Rattle.simplex_transcript.specs.declared.field.Field.{Field}
use Rattle.simplex_transcript.specs.declared.field.Field.TheVariants as fields
use Rattle.simplex_transcript.specs.declared.node.Node.{Node}
use Rattle.simplex_transcript.specs.declared.refusal.Refusal.{Refusal}
use Rattle.simplex_transcript.specs.declared.setup.Setup.{Setup}
use Rattle.model_run.specs.Run.{unless_bad, run, transcript_of, RunFrom}
use Rattle.model_run.specs.Setting.{Setting, setting_of}
use Rattle.model_run.specs.Setups.{is_within, most_members, first_bad}
use Rattle.model_log.specs.declared.entry.LogError.{LogError}
use Rattle.model_log.specs.Log.{log_of}
use Rattle.model_log.specs.Observing.{with_next, clash_of}
use Rattle.law_log.specs.Logs.{verified_by, honest_from, log_at, logs_in}
use Rattle.law_log.specs.Reports.{reported}
use Rattle.law_log.specs.Transcripts.{IsTranscript, ReportsDoNotClash}
use Rattle.simplex_logs.specs.NodeLogs.{with_log, taken_logs}
use Rattle.simplex_logs.specs.Taken.{unless_clashing, taken_of}

-- ---- how many members there are

passed : {A E : Type 0} (b : Bool) (x : E) (r : Result A E) (a : A) → (if not b then Err x else r) ≡ Ok a → r ≡ Ok a
passed true x r a e = e
passed false x r a e = cc

no_bad : (o : Option Field) (r : Result (List Entry) Refusal) (entries : List Entry) → unless_bad o r ≡ Ok entries → o ≡ None
no_bad None r entries e = refl
no_bad (Some field) r entries e = cc

no_field : (b : Bool) (field : Field) (rest : Option Field) → (if not b then Some field else rest) ≡ None → b ≡ true
no_field true field rest e = refl
no_field false field rest e = cc

so_many : (n most scripted : ℕ) → most ≡ (if scripted == 0 then 256 else 64) → (nat_le 1 n && nat_le n most) ≡ true → (0 < n) × (n ≤ 256)
so_many n most scripted is e = (grind (arith, nat_tests), grind (arith, nat_tests))

setting_good : (setting : Setting) (events : List Event) (entries : List Entry) → RunFrom setting events ≡ Ok entries → first_bad setting.setup ≡ None
unfolding RunFrom
setting_good setting events entries e = no_bad (first_bad setting.setup) (transcript_of (run setting [] events)) entries (passed _ _ _ entries e)

members_fit : (setup : Setup) → first_bad setup ≡ None → (0 < length setup.members) × (length setup.members ≤ 256)
unfolding first_bad
members_fit setup good = so_many (length setup.members) (most_members setup) (length setup.scenario) refl (no_field (is_within 1 (most_members setup) (length setup.members)) fields.Members _ good)

pub transcript_members : (setup : Setup) (events : List Event) (entries : List Entry) → IsTranscript setup events entries → (0 < length setup.members) × (length setup.members ≤ 256)
transcript_members setup events entries t = members_fit setup (setting_good (setting_of setup t.genesis) events entries t.ran)

-- ---- all reports are taken

taken_next : (clash : Option LogError) (taken : List Activity) (activity : Activity) → clash ≡ None → unless_clashing clash taken activity ≡ with_next taken activity
taken_next None taken activity e = refl
taken_next (Some clash) taken activity e = cc

taken_all : (verifies : Activity → Bool) (before later : List Activity)
    → ((taken behind : List Activity) (activity : Activity) → before ++ later ≡ taken ++ activity ∷ behind → clash_of verifies taken activity ≡ None)
    → taken_of verifies before later ≡ before ++ later
unfolding taken_of
taken_all verifies before [] fine = sym (append-nil before)
taken_all verifies before (activity ∷ later) fine =
    let moved : (before ++ activity ∷ []) ++ later ≡ before ++ activity ∷ later = append_assoc before (activity ∷ []) later in
    ap (λ (taken : List Activity). taken_of verifies taken later) (taken_next (clash_of verifies before activity) before activity (fine before later activity refl))
    ∙ taken_all verifies (before ++ activity ∷ []) later (λ taken behind next e. fine taken behind next (sym moved ∙ e))
    ∙ moved

map_same : {A B : Type 0} (f g : A → B) (xs : List A) → ((x : A) → f x ≡ g x) → map f xs ≡ map g xs
map_same f g [] same = refl
map_same f g (x ∷ xs) same = ap (λ (y : _). y ∷ map f xs) (same x) ∙ ap (λ (ys : List _). g x ∷ ys) (map_same f g xs same)

pub all_taken : (setup : Setup) (entries : List Entry) → ReportsDoNotClash setup entries → taken_logs setup entries ≡ logs_in setup entries
unfolding taken_logs logs_in
all_taken setup entries fine = map_same (with_log setup entries) (λ (node : Node). (node, log_at setup entries node)) (honest_from 0 setup.members) at
  where
    at : (node : Node) → with_log setup entries node ≡ (node, log_at setup entries node)
    at node = ap (λ (all : List Activity). (node, log_of (verified_by setup) all)) (taken_all (verified_by setup) [] (reported entries node) (λ taken behind activity e. fine node taken behind activity e))
