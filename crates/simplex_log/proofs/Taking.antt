-- What one more activity adds, and what it answers.
use Rattle.std.proofs.Common.{◌≡◌, ◌==◌, ℕ, Bool, true, false, not, cond, List, [], ◌∷◌, ◌++◌, filter, Option, Some, None, Result, Ok, Err, refl, sym, ap, ap₂, subst, ◌∙◌, eq-eqb, append-nil}
use Rattle.std.specs.Prelude.{filter_map, if◌then◌else◌}
use Rattle.std.specs.Result.{OnOk}
use Rattle.std.proofs.lemmas.Result.{on_ok_weaker}
use Rattle.std.specs.Option.{option_and_then, option_to_list}
use Rattle.simplex_values.specs.declared.proposal.Proposal.{Proposal}
use Rattle.simplex_types.specs.declared.activity.Activity.{Activity}
use Rattle.model_log.specs.declared.entry.LogError.{LogError}
use Rattle.model_log.specs.declared.entry.LogError.TheVariants.{Clash, Memory}
use Rattle.model_log.specs.Ends.{top_at}
use Rattle.model_log.specs.Links.{proposal_in, final_view, is_link, proposals_of, links_of, finals_of}
use Rattle.model_log.specs.Log.{tip_of}
use Rattle.model_log.specs.Observing.{with_next, clash_with, clash_of, is_moved, unless_clash, observed}
use Rattle.model_log.proofs.Holding.{links_append, finals_append}
use Rattle.simplex_log.specs.declared.kept.Kept.{Kept}
use Rattle.simplex_log.specs.Kept.{links_in, finals_in}
use Rattle.simplex_log.specs.Stands.{KeptOf, IsUnlessMemory}

picked : {A : Type 0} (pick : Activity → Option A) (activity : Activity) → filter_map pick (activity ∷ []) ≡ option_to_list (pick activity)
picked {A} pick activity = at (pick activity) refl
  where
    at : (o : Option A) → pick activity ≡ o → filter_map pick (activity ∷ []) ≡ option_to_list (pick activity)
    at None e = rw e refl
    at (Some x) e = rw e refl

-- an answer that says whether the log moved says so of what is taken then
answer_of : (answer : Result Bool LogError) (clash : Option LogError) (moved real : Bool) → OnOk answer (moved ≡ real)
    → IsUnlessMemory answer (unless_clash clash moved) → IsUnlessMemory answer (unless_clash clash real)
answer_of (Ok m) clash moved real same is = is ∙ ap (unless_clash clash) same
answer_of (Err Memory) clash moved real same is = tt
answer_of (Err (Clash held other)) None moved real same is = cc
answer_of (Err (Clash held other)) (Some clash) moved real same is = is

module _ (verifies : Activity → Bool) (taken : List Activity) (activity : Activity) where
  abbrev links : List Proposal
  links = links_of verifies taken

  abbrev finals : List ℕ
  finals = finals_of verifies taken

  -- ---- it verifies

  module _ (valid : verifies activity ≡ true) where
    more_links : links_of verifies (with_next taken activity) ≡ links ++ links_in activity
    unfolding proposals_of links_in
    more_links =
        links_append verifies taken (activity ∷ [])
        ∙ ap (λ (b : Bool). links ++ filter is_link (filter_map proposal_in (cond b (activity ∷ []) []))) valid
        ∙ ap (λ (ps : List Proposal). links ++ filter is_link ps) (picked proposal_in activity)

    more_finals : finals_of verifies (with_next taken activity) ≡ finals ++ finals_in activity
    unfolding finals_of finals_in
    more_finals =
        finals_append verifies taken (activity ∷ [])
        ∙ ap (λ (b : Bool). finals ++ filter_map final_view (cond b (activity ∷ []) [])) valid
        ∙ ap (λ (vs : List ℕ). finals ++ vs) (picked final_view activity)

    pub kept_more : (kept : Kept) → KeptOf kept (links ++ links_in activity) (finals ++ finals_in activity)
        → KeptOf kept (links_of verifies (with_next taken activity)) (finals_of verifies (with_next taken activity))
    kept_more kept stands =
        subst (λ (ls : List Proposal). KeptOf kept ls (finals_of verifies (with_next taken activity))) (sym more_links)
        (subst (λ (vs : List ℕ). KeptOf kept (links ++ links_in activity) vs) (sym more_finals) stands)

    clash_is : clash_of verifies taken activity ≡ option_and_then (clash_with links) (proposal_in activity)
    unfolding clash_of
    clash_is = ap (λ (b : Bool). if b then option_and_then (clash_with links) (proposal_in activity) else None) valid

    pub answered : (old new : Kept) (answer : Result Bool LogError) → KeptOf old links finals
        → OnOk answer (KeptOf new (links_of verifies (with_next taken activity)) (finals_of verifies (with_next taken activity)))
        → IsUnlessMemory answer (unless_clash (option_and_then (clash_with links) (proposal_in activity)) (not (new.finals.tip == old.finals.tip)))
        → IsUnlessMemory answer (observed verifies taken activity)
    answered old new answer before after is =
        let tips = λ (k : KeptOf new (links_of verifies (with_next taken activity)) (finals_of verifies (with_next taken activity))).
        ap (λ (n : ℕ). not (n == old.finals.tip)) (k.finals_are).tip_is
        ∙ ap (λ (n : ℕ). not (tip_of verifies (with_next taken activity) == n)) (before.finals_are).tip_is in
        subst (λ (clash : Option LogError). IsUnlessMemory answer (unless_clash clash (is_moved verifies taken activity))) (sym clash_is)
        (answer_of answer (option_and_then (clash_with links) (proposal_in activity)) (not (new.finals.tip == old.finals.tip)) (is_moved verifies taken activity)
        (on_ok_weaker answer tips after) is)

  -- ---- it does not

  module _ (invalid : verifies activity ≡ false) where
    same_links : links_of verifies (with_next taken activity) ≡ links
    unfolding proposals_of
    same_links =
        links_append verifies taken (activity ∷ [])
        ∙ ap (λ (b : Bool). links ++ filter is_link (filter_map proposal_in (cond b (activity ∷ []) []))) invalid
        ∙ append-nil links

    same_finals : finals_of verifies (with_next taken activity) ≡ finals
    unfolding finals_of
    same_finals =
        finals_append verifies taken (activity ∷ [])
        ∙ ap (λ (b : Bool). finals ++ filter_map final_view (cond b (activity ∷ []) [])) invalid
        ∙ append-nil finals

    pub kept_same : (kept : Kept) → KeptOf kept links finals → KeptOf kept (links_of verifies (with_next taken activity)) (finals_of verifies (with_next taken activity))
    kept_same kept stands =
        subst (λ (ls : List Proposal). KeptOf kept ls (finals_of verifies (with_next taken activity))) (sym same_links)
        (subst (λ (vs : List ℕ). KeptOf kept links vs) (sym same_finals) stands)

    same_tip : tip_of verifies (with_next taken activity) ≡ tip_of verifies taken
    same_tip = ap₂ (λ (ls : List Proposal) (vs : List ℕ). top_at ls vs 0) same_links same_finals

    unmoved : is_moved verifies taken activity ≡ false
    unmoved =
        ap (λ (n : ℕ). not (n == tip_of verifies taken)) same_tip ∙ ap not (eq-eqb (tip_of verifies taken) (tip_of verifies taken) refl)

    pub nothing : Ok false ≡ observed verifies taken activity
    unfolding clash_of
    nothing =
        sym (ap (unless_clash (clash_of verifies taken activity)) unmoved
        ∙ ap (λ (b : Bool). unless_clash (if b then option_and_then (clash_with links) (proposal_in activity) else None) false) invalid)
