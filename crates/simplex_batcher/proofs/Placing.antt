-- The rounds by view, when one is put at a view or takes a call.
use Rattle.std.proofs.Common.{◌≡◌, ℕ, ◌==◌, nat_le, true, false, refl, sym, ap, ◌∙◌, Option, Some, None, if◌then◌else◌, unwrap_or, inl, inr, arith}
use Rattle.std.specs.Option.{is_some, option_map, option_map_or}
use Rattle.std.proofs.lemmas.Grind.{common_steps}
use Rattle.std.proofs.lemmas.Bool.{cases_eq}
use Rattle.std.proofs.lemmas.Bool.Decides.{nat_tests}
use Rattle.simplex_round.specs.Known as low
use Rattle.simplex_round.specs.Calls as rounds
use Rattle.model_steps.specs.Batcher.{Made, Standing, RoundHistory, called, led, round_for, new_round}
use Rattle.simplex_batcher.specs.Rounds.{round_of, given}
use Rattle.simplex_batcher.specs.Working.{put, with_lead, lead_of}

pub same-some : {A : Type 0} → (x y : A) → Some x ≡ Some y → x ≡ y
same-some x y e = cc

-- the rounds stand for these histories
abbrev pub Stand : (ℕ → Option low.Standing) → (ℕ → Option RoundHistory) → Type 0
Stand now histories = (q : ℕ) → now q ≡ option_map round_of (histories q)

-- the same but that the view has this one
abbrev pub set : {A : Type 0} → ℕ → A → (ℕ → Option A) → ℕ → Option A
set view one others q = if q == view then Some one else others q

-- what is at the view that was set
pub set-here : {A : Type 0} → (view : ℕ) (one : A) (others : ℕ → Option A) → set view one others view ≡ Some one
set-here view one others = grind (arith, common_steps, nat_tests)

-- a round is put at the view
pub placed : (old new : ℕ → Option low.Standing) (histories : ℕ → Option RoundHistory) (view : ℕ) (round : low.Standing) (history : RoundHistory)
    → Stand old histories → round ≡ round_of history → ((q : ℕ) → new q ≡ set view round old q) → Stand new (set view history histories)
placed old new histories view round history s is puts q =
    let here = puts q in let before = s q in grind (arith, common_steps, nat_tests)

-- the view has a round already
pub placed-already : (old : ℕ → Option low.Standing) (histories : ℕ → Option RoundHistory) (view : ℕ) (other : RoundHistory)
    → Stand old histories → is_some (old view) ≡ true → Stand old (set view (unwrap_or (histories view) other) histories)
placed-already old histories view other s there q =
    let here = s view in let before = s q in
    elim (cases_eq q view) [
      | inl same ↦ rw same (
          elim (histories view) as (λ o. old view ≡ option_map round_of o → old view ≡ option_map round_of (set view (unwrap_or o other) histories view)) [
            | None ↦ λ e. grind (arith, common_steps, nat_tests)
            | Some h ↦ λ e. e ∙ ap (option_map round_of) (sym (set-here view h histories))
          ] here)
      | inr apart ↦ grind (arith, common_steps, nat_tests)
    ]

-- the view has none
pub placed-new : (old new : ℕ → Option low.Standing) (histories : ℕ → Option RoundHistory) (view : ℕ) (round : low.Standing) (history : RoundHistory)
    → Stand old histories → is_some (old view) ≡ false → round ≡ round_of history → ((q : ℕ) → new q ≡ set view round old q)
    → Stand new (set view (unwrap_or (histories view) history) histories)
placed-new old new histories view round history s none is puts =
    let all = placed old new histories view round history s is puts in
    elim (histories view) as (λ o. old view ≡ option_map round_of o → Stand new (set view (unwrap_or o history) histories)) [
      | None ↦ λ e. all
      | Some h ↦ λ e. absurd (let bad : true ≡ false = sym (ap is_some e) ∙ none in cc)
    ] (s view)

-- a round takes a call
abbrev pub TakesCall : (ℕ → Option low.Standing) → (ℕ → Option low.Standing) → ℕ → rounds.Call → Type 0
TakesCall old new view call =
    (history : RoundHistory) → old view ≡ Some (round_of history) → (q : ℕ) → new q ≡ set view (round_of (called call history)) old q

-- the round of the view has this history
pub taken : (old new : ℕ → Option low.Standing) (histories : ℕ → Option RoundHistory) (view : ℕ) (call : rounds.Call) (history : RoundHistory)
    → Stand old histories → histories view ≡ Some history → TakesCall old new view call → Stand new (set view (called call history) histories)
taken old new histories view call history s is takes =
    placed old new histories view (round_of (called call history)) (called call history) s refl
    (takes history (s view ∙ ap (option_map round_of) is))

-- the round was just put there
pub taken-set : (old new : ℕ → Option low.Standing) (histories : ℕ → Option RoundHistory) (view : ℕ) (call : rounds.Call) (history : RoundHistory)
    → Stand old (set view history histories) → TakesCall old new view call → Stand new (set view (called call history) histories)
taken-set old new histories view call history s takes q =
    let now = takes history (s view ∙ ap (option_map round_of) (set-here view history histories)) q in
    let before = s q in grind (arith, common_steps, nat_tests)

-- the same, where it takes more than a call
pub changed-set : (old new : ℕ → Option low.Standing) (histories : ℕ → Option RoundHistory) (view : ℕ) (change : RoundHistory → RoundHistory) (history : RoundHistory)
    → Stand old (set view history histories)
    → ((h : RoundHistory) → old view ≡ Some (round_of h) → (q : ℕ) → new q ≡ set view (round_of (change h)) old q)
    → Stand new (set view (change history) histories)
changed-set old new histories view change history s takes q =
    let now = takes history (s view ∙ ap (option_map round_of) (set-here view history histories)) q in
    let before = s q in grind (arith, common_steps, nat_tests)

-- what a round that was just put there answers
pub at-set : (old : ℕ → Option low.Standing) (histories : ℕ → Option RoundHistory) (view : ℕ) (history : RoundHistory)
    → Stand old (set view history histories) → old view ≡ Some (round_of history)
at-set old histories view history s = s view ∙ ap (option_map round_of) (set-here view history histories)

-- ---- the leader

pub led-is : (made : Made) (standing : Standing) (view : ℕ) (history : RoundHistory)
    → led made standing view history ≡ option_map_or (λ leader. called (rounds.SetLeader leader) history) (lead_of made standing view) history
unfolding led lead_of
led-is made standing view history = grind (arith, common_steps)

-- the round of the view, made where there is none, with the leader
pub given-is : (made : Made) (standing : Standing) (view : ℕ) (leader : Option ℕ) → leader ≡ lead_of made standing view
    → given leader (unwrap_or (standing.rounds view) (new_round made standing view)) ≡ round_for made standing view
unfolding round_for
given-is made standing view leader is =
    ap (λ (o : Option ℕ). given o (unwrap_or (standing.rounds view) (new_round made standing view))) is
    ∙ sym (led-is made standing view (unwrap_or (standing.rounds view) (new_round made standing view)))

-- no leader is given
pub led-none : (old : ℕ → Option low.Standing) (made : Made) (standing : Standing) (view : ℕ)
    → Stand old standing.rounds → lead_of made standing view ≡ None → Stand old (with_lead made view standing).rounds
led-none old made standing view s none q =
    let before = s q in let at = s view in
    elim (cases_eq q view) [
      | inl same ↦ rw same (
          elim (standing.rounds view) as (λ o. old view ≡ option_map round_of o → old view ≡ option_map round_of (if view == view then option_map (led made standing view) o else standing.rounds view)) [
            | None ↦ λ e. grind (arith, common_steps, nat_tests)
            | Some h ↦ λ e. let is : led made standing view h ≡ h = led-is made standing view h ∙ ap (λ o. option_map_or (λ leader. called (rounds.SetLeader leader) h) o h) none in
                grind (arith, common_steps, nat_tests)
          ] at)
      | inr apart ↦ grind (arith, common_steps, nat_tests)
    ]

-- the leader is given to the round of the view, if there is one
pub led-some : (old new : ℕ → Option low.Standing) (made : Made) (standing : Standing) (view leader : ℕ)
    → Stand old standing.rounds → lead_of made standing view ≡ Some leader → TakesCall old new view (rounds.SetLeader leader)
    → (old view ≡ None → (q : ℕ) → new q ≡ old q) → Stand new (with_lead made view standing).rounds
led-some old new made standing view leader s some takes stays q =
    elim (standing.rounds view) as (λ o. standing.rounds view ≡ o → new q ≡ option_map round_of (if q == view then option_map (led made standing view) o else standing.rounds q)) [
      | None ↦ λ is.
          let before = s q in
          let same = stays (s view ∙ ap (option_map round_of) is) q in
          elim (cases_eq q view) [
            | inl here ↦ let none : standing.rounds q ≡ None = ap standing.rounds here ∙ is in grind (arith, common_steps, nat_tests)
            | inr apart ↦ grind (arith, common_steps, nat_tests)
          ]
      | Some h ↦ λ is.
          let led : led made standing view h ≡ called (rounds.SetLeader leader) h = led-is made standing view h ∙ ap (λ o. option_map_or (λ leader. called (rounds.SetLeader leader) h) o h) some in
          let now = taken old new standing.rounds view (rounds.SetLeader leader) h s is takes q in
          grind (arith, common_steps, nat_tests)
    ] refl

-- a round is put there, and then given the leader
pub made-led : (made : Made) (standing : Standing) (view : ℕ) (now : ℕ → Option low.Standing)
    → Stand now (with_lead made view (put view (unwrap_or (standing.rounds view) (new_round made standing view)) standing)).rounds
    → Stand now (put view (round_for made standing view) standing).rounds
unfolding led round_for
made-led made standing view now s q =
    let is = s q in grind (arith, common_steps, nat_tests)

-- the rounds below a view are dropped
pub kept-from : (old new : ℕ → Option low.Standing) (histories : ℕ → Option RoundHistory) (least : ℕ)
    → Stand old histories → ((q : ℕ) → new q ≡ (if nat_le least q then old q else None)) → Stand new (λ q. if nat_le least q then histories q else None)
kept-from old new histories least s drops q =
    drops q ∙ elim (nat_le least q) as (λ b. (if b then old q else None) ≡ option_map round_of (if b then histories q else None)) [
      | true ↦ s q
      | false ↦ refl
    ]
