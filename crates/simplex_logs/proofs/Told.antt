-- What a log stands for as it is told of one thing after another.
use Rattle.std.proofs.Common.{◌≡◌, ℕ, ◌<◌, ◌+◌, Bool, length, get_or, take, List, [], ◌∷◌, ◌++◌, filter, Option, Some, None, Ok, Err, refl, sym, ap, ◌∙◌, append_assoc}
use Rattle.std.specs.Prelude.{filter_map}
use Rattle.std.specs.List.{flat_map}
use Rattle.std.specs.Option.{option_to_list}
use Rattle.std.proofs.lemmas.List.{take_more}
use Rattle.std.proofs.lemmas.List.Elements.{filter-append, filter_map-append}
use Rattle.simplex_types.specs.declared.activity.Activity.{Activity}
use Rattle.simplex_messages.specs.declared.call.Call.{Call}
use Rattle.simplex_transcript.specs.declared.entry.Entry.{Entry}
use Rattle.simplex_transcript.specs.declared.node.Node.{Node}
use Rattle.simplex_values.specs.declared.proposal.Proposal.{Proposal}
use Rattle.model_log.specs.declared.entry.LogError.{LogError}
use Rattle.model_log.specs.declared.entry.LogError.TheVariants.{Clash}
use Rattle.model_log.specs.Observing.{with_next, unless_clash}
use Rattle.law_log.specs.Reports.{is_entry_of, report_in, reports_in, reported}
use Rattle.simplex_logs.specs.Taken.{unless_clashing, taken_with, taken_of}

-- ---- one activity

pub taken_then : (clash : Option LogError) (moved answer : Bool) (taken : List Activity) (activity : Activity) → Ok answer ≡ unless_clash clash moved
    → with_next taken activity ≡ unless_clashing clash taken activity
taken_then None moved answer taken activity e = refl
taken_then (Some clash) moved answer taken activity e = cc

pub clashed_then : (clash : Option LogError) (moved : Bool) (held other : Proposal) (taken : List Activity) (activity : Activity) → Err (Clash held other) ≡ unless_clash clash moved
    → taken ≡ unless_clashing clash taken activity
clashed_then None moved held other taken activity e = cc
clashed_then (Some clash) moved held other taken activity e = refl

-- ---- one behind another

pub taken_append : (verifies : Activity → Bool) (taken first later : List Activity) → taken_of verifies taken (first ++ later) ≡ taken_of verifies (taken_of verifies taken first) later
unfolding taken_of
taken_append verifies taken [] later = refl
taken_append verifies taken (activity ∷ first) later = taken_append verifies (taken_with verifies taken activity) first later

-- ---- one more entry

pub flat_more : {A B : Type 0} (f : A → List B) (xs ys : List A) → flat_map f (xs ++ ys) ≡ flat_map f xs ++ flat_map f ys
flat_more f [] ys = refl
flat_more f (x ∷ xs) ys = ap (λ (zs : List _). f x ++ zs) (flat_more f xs ys) ∙ sym (append_assoc (f x) (flat_map f xs) (flat_map f ys))

pub reported_append : (first later : List Entry) (node : Node) → reported (first ++ later) node ≡ reported first node ++ reported later node
unfolding reported
reported_append first later node =
    ap (flat_map reports_in) (filter-append (is_entry_of node) first later) ∙ flat_more reports_in (filter (is_entry_of node) first) (filter (is_entry_of node) later)

pub next_item : {X : Type 0} (xs : List X) (i : ℕ) (x : X) → i < length xs → x ≡ get_or xs i x → take (i + 1) xs ≡ take i xs ++ x ∷ []
next_item xs i x low is = take_more xs i x low ∙ ap (λ (y : _). take i xs ++ y ∷ []) (sym is)

picked : {X A : Type 0} (pick : X → Option A) (x : X) → filter_map pick (x ∷ []) ≡ option_to_list (pick x)
picked {X} {A} pick x = at (pick x) refl
  where
    at : (o : Option A) → pick x ≡ o → filter_map pick (x ∷ []) ≡ option_to_list (pick x)
    at None e = rw e refl
    at (Some y) e = rw e refl

-- one more call
pub taken_call : (verifies : Activity → Bool) (taken : List Activity) (calls : List Call) (i : ℕ) (call : Call) → i < length calls → call ≡ get_or calls i call
    → taken_of verifies (taken_of verifies taken (filter_map report_in (take i calls))) (option_to_list (report_in call))
    ≡ taken_of verifies taken (filter_map report_in (take (i + 1) calls))
taken_call verifies taken calls i call low is =
    sym (taken_append verifies taken (filter_map report_in (take i calls)) (option_to_list (report_in call)))
    ∙ ap (λ (more : List Activity). taken_of verifies taken (filter_map report_in (take i calls) ++ more)) (sym (picked report_in call))
    ∙ ap (taken_of verifies taken) (sym (filter_map-append report_in (take i calls) (call ∷ [])) ∙ ap (filter_map report_in) (sym (next_item calls i call low is)))

-- one more entry
pub taken_entry : (verifies : Activity → Bool) (taken : List Activity) (entries : List Entry) (node : Node) (i : ℕ) (entry : Entry) → i < length entries → entry ≡ get_or entries i entry
    → taken_of verifies (taken_of verifies taken (reported (take i entries) node)) (reported (entry ∷ []) node)
    ≡ taken_of verifies taken (reported (take (i + 1) entries) node)
taken_entry verifies taken entries node i entry low is =
    sym (taken_append verifies taken (reported (take i entries) node) (reported (entry ∷ []) node))
    ∙ ap (taken_of verifies taken) (sym (reported_append (take i entries) (entry ∷ []) node) ∙ ap (λ (es : List Entry). reported es node) (sym (next_item entries i entry low is)))
