-- The runs of epochs, one behind another.
use Rattle.std.proofs.Common.{◌≡◌, ℕ, ◌<◌, ◌+◌, ◌-◌, false, length, get_or, take, drop, arith, List, [], ◌∷◌, ◌++◌, map, Ok, Err, Result, Some, refl, sym, ap, subst, ◌∙◌, append_assoc, append-nil}
use Rattle.std.specs.Result.{IfErr}
use Rattle.std.proofs.lemmas.List.{take_rest}
use Rattle.simplex_form.specs.declared.input.Input as read
use Rattle.model_epochs.specs.declared.chain.EpochError.{EpochError}
use Rattle.model_epochs.specs.declared.chain.EpochError.TheVariants as errors
use Rattle.simplex_types.specs.Genesis.{genesis_of}
use Rattle.model_run.specs.Run.{RunFrom}
use Rattle.model_epochs.specs.Epochs.{Epochs, Input, Ran, behind, epochs_from, epochs_of}
use Rattle.model_epochs.specs.Lines.{chain_lines}
use Rattle.law_epochs.specs.Whole.{AreChainsOf, AreEpochs, AreLinked}
use Rattle.simplex_epochs.specs.declared.epoch.EpochRun.{EpochRun}
use Rattle.simplex_epochs.specs.declared.form.ChainInput.{ChainInput}
use Rattle.simplex_epochs.specs.declared.reason.ChainReason.{ChainReason}
use Rattle.simplex_epochs.specs.declared.reason.ChainReason.TheVariants as reasons
use Rattle.simplex_epochs.specs.declared.work.ChainDone.{ChainDone}
use Rattle.simplex_epochs.specs.Reasons.{error_of, reason_of}
use Rattle.simplex_epochs.specs.Runs.{AreEpochRuns, HasOneMore, IsEpochRun, all_behind, given_of, inputs_of, is_memory, ran_of, rans_of}
use Rattle.simplex_epochs.specs.Says.{AreChained}

-- ---- an error

pub err_is : {T E : Type 0} (P : E → Type 0) (r : Result T E) (e : E) → r ≡ Err e → P e → IfErr r P
err_is {T} {E} P r e is h = subst (λ (q : Result T E). IfErr q P) (sym is) h

-- ---- one more run

pub behind_one_more : (runs : List EpochRun) (run : EpochRun) (later : Result (List Ran) EpochError)
    → all_behind (rans_of (runs ++ run ∷ [])) later ≡ all_behind (rans_of runs) (behind (ran_of run) later)
unfolding all_behind
behind_one_more [] run later = refl
behind_one_more (first ∷ runs) run later = ap (behind (ran_of first)) (behind_one_more runs run later)

pub behind_ran : (rans more : List Ran) → all_behind rans (Ok more) ≡ Ok (rans ++ more)
unfolding all_behind
behind_ran [] more = refl
behind_ran (ran ∷ rans) more = ap (behind ran) (behind_ran rans more)

pub behind_none : (rans : List Ran) → all_behind rans (Ok []) ≡ Ok rans
behind_none rans = behind_ran rans [] ∙ ap (λ (all : List Ran). Ok all) (append-nil rans)

pub behind_error : (rans : List Ran) (error : EpochError) → all_behind rans (Err error) ≡ Err error
unfolding all_behind
behind_error [] error = refl
behind_error (ran ∷ rans) error = ap (behind ran) (behind_error rans error)

-- ---- the first of what is left, and the others

pub split_rest : {A : Type 0} (xs : List A) (x : A) → 0 < length xs → x ≡ get_or xs 0 x → xs ≡ x ∷ take (length xs - 1) (drop 1 xs)
split_rest [] x some is = absurd (omega arith)
split_rest (y ∷ ys) x some is = ap (λ (z : _). z ∷ ys) (sym is) ∙ ap (λ (zs : List _). x ∷ zs) (sym (take_rest (y ∷ ys) 1))

-- ---- one epoch behind another

pub begun : (height : ℕ) (input : Input) (later : List Input)
    → Epochs height (input ∷ later) ≡ all_behind [] (epochs_from RunFrom height 0 input.setup.epoch (genesis_of input.setup.epoch) (input ∷ later))
unfolding epochs_of all_behind
begun height input later = refl

pub begun_at : (height : ℕ) (inputs : List read.Input) (first : read.Input) (runs : List EpochRun) (place epoch : ℕ) (genesis : List ℕ)
    → 0 < length inputs → first ≡ get_or inputs 0 first → runs ≡ [] → place ≡ 0 → epoch ≡ first.setup.epoch → genesis ≡ genesis_of first.setup.epoch
    → Epochs height (inputs_of inputs) ≡ all_behind (rans_of runs) (epochs_from RunFrom height place epoch genesis (inputs_of inputs))
begun_at height [] first runs place epoch genesis some is none p e g = absurd (omega arith)
begun_at height (input ∷ later) first runs place epoch genesis some is none p e g =
    let number : input.setup.epoch ≡ epoch = ap (λ (i : read.Input). i.setup.epoch) (sym is) ∙ sym e in
    let digest : genesis_of input.setup.epoch ≡ genesis = ap (λ (i : read.Input). genesis_of i.setup.epoch) (sym is) ∙ sym g in
    let all = given_of input ∷ inputs_of later in
    begun height (given_of input) (inputs_of later)
    ∙ ap (λ (n : ℕ). all_behind [] (epochs_from RunFrom height n input.setup.epoch (genesis_of input.setup.epoch) all)) (sym p)
    ∙ ap (λ (n : ℕ). all_behind [] (epochs_from RunFrom height place n (genesis_of input.setup.epoch) all)) number
    ∙ ap (λ (d : List ℕ). all_behind [] (epochs_from RunFrom height place epoch d all)) digest
    ∙ ap (λ (rs : List EpochRun). all_behind (rans_of rs) (epochs_from RunFrom height place epoch genesis all)) (sym none)

-- the run of the last one
pub the_last : (height place epoch : ℕ) (genesis : List ℕ) (input : read.Input) (later : List read.Input) (before now : List EpochRun) (run : EpochRun)
    → length later ≡ 0 → now ≡ before ++ run ∷ [] → IsEpochRun height input run
    → epochs_from RunFrom height place epoch genesis (given_of input ∷ []) ≡ Ok (ran_of run ∷ [])
    → HasOneMore height before now input (epochs_from RunFrom height place epoch genesis (given_of input ∷ inputs_of later))
    (epochs_from RunFrom height place epoch genesis (inputs_of later))
unfolding epochs_from
the_last height place epoch genesis input [] before now run none pushed whole ran = record { run = run; pushed = pushed; whole = whole; ran = ran }
the_last height place epoch genesis input (next ∷ later) before now run none pushed whole ran = absurd (omega arith)

-- one behind which others come
pub one_more : (height place epoch place_behind epoch_behind : ℕ) (genesis digest : List ℕ) (input : read.Input) (later : List read.Input)
    (before now : List EpochRun) (run : EpochRun) → 0 < length later → now ≡ before ++ run ∷ [] → IsEpochRun height input run
    → ((next : Input) (others : List Input) → epochs_from RunFrom height place epoch genesis (given_of input ∷ next ∷ others)
    ≡ behind (ran_of run) (epochs_from RunFrom height place_behind epoch_behind digest (next ∷ others)))
    → HasOneMore height before now input (epochs_from RunFrom height place epoch genesis (given_of input ∷ inputs_of later))
    (epochs_from RunFrom height place_behind epoch_behind digest (inputs_of later))
one_more height place epoch place_behind epoch_behind genesis digest input [] before now run some pushed whole ran = absurd (omega arith)
one_more height place epoch place_behind epoch_behind genesis digest input (next ∷ later) before now run some pushed whole ran =
    record { run = run; pushed = pushed; whole = whole; ran = ran (given_of next) (inputs_of later) }

-- their errors
pub last_failed : (height place epoch : ℕ) (genesis : List ℕ) (input : read.Input) (later : List read.Input) (error : EpochError) → length later ≡ 0
    → (is_memory error ≡ false → epochs_from RunFrom height place epoch genesis (given_of input ∷ []) ≡ Err error)
    → is_memory error ≡ false → epochs_from RunFrom height place epoch genesis (given_of input ∷ inputs_of later) ≡ Err error
last_failed height place epoch genesis input [] error none why other = why other
last_failed height place epoch genesis input (next ∷ later) error none why other = absurd (omega arith)

pub next_failed : (height place epoch : ℕ) (genesis : List ℕ) (input : read.Input) (later : List read.Input) (error : EpochError) → 0 < length later
    → ((next : Input) (others : List Input) → is_memory error ≡ false → epochs_from RunFrom height place epoch genesis (given_of input ∷ next ∷ others) ≡ Err error)
    → is_memory error ≡ false → epochs_from RunFrom height place epoch genesis (given_of input ∷ inputs_of later) ≡ Err error
next_failed height place epoch genesis input [] error some why other = absurd (omega arith)
next_failed height place epoch genesis input (next ∷ later) error some why other = why (given_of next) (inputs_of later) other

pub ruleset adding = (the_last, one_more, last_failed, next_failed)

-- what there is behind them
pub behind_more : (height : ℕ) (input : read.Input) (before now : List EpochRun) (all some rest : Result (List Ran) EpochError)
    → all ≡ all_behind (rans_of before) some → HasOneMore height before now input some rest → all ≡ all_behind (rans_of now) rest
behind_more height input before now all some rest e more =
    e ∙ ap (all_behind (rans_of before)) more.ran ∙ sym (behind_one_more before more.run rest) ∙ ap (λ (runs : List EpochRun). all_behind (rans_of runs) rest) (sym more.pushed)

-- the first error
pub failed_behind : (runs : List EpochRun) (all rest : Result (List Ran) EpochError) (error : EpochError)
    → all ≡ all_behind (rans_of runs) rest → rest ≡ Err error → all ≡ Err error
failed_behind runs all rest error e failed = e ∙ ap (all_behind (rans_of runs)) failed ∙ behind_error (rans_of runs) error

-- none is left
pub all_ran : (height place epoch : ℕ) (genesis : List ℕ) (rest : List read.Input) (runs : List EpochRun) (all : Result (List Ran) EpochError) → length rest ≡ 0
    → all ≡ all_behind (rans_of runs) (epochs_from RunFrom height place epoch genesis (inputs_of rest)) → all ≡ Ok (rans_of runs)
unfolding epochs_from
all_ran height place epoch genesis [] runs all none e = e ∙ behind_none (rans_of runs)
all_ran height place epoch genesis (input ∷ rest) runs all none e = absurd (omega arith)

-- ---- all of them

-- whatever runs of the rest are put behind these, they are runs of all
abbrev pub AreRunsSoFar : ℕ → List read.Input → List read.Input → List EpochRun → Type 0
AreRunsSoFar height inputs rest runs = (later : List EpochRun) → AreEpochRuns height rest later → AreEpochRuns height inputs (runs ++ later)

pub one_run_more : (height : ℕ) (inputs rest : List read.Input) (input : read.Input) (runs : List EpochRun) (run : EpochRun)
    → AreRunsSoFar height inputs (input ∷ rest) runs → IsEpochRun height input run → AreRunsSoFar height inputs rest (runs ++ run ∷ [])
unfolding AreEpochRuns
one_run_more height inputs rest input runs run before is later h =
    subst (AreEpochRuns height inputs) (sym (append_assoc runs (run ∷ []) later)) (before (run ∷ later) (is, h))

pub runs_more : (height : ℕ) (inputs rest : List read.Input) (input : read.Input) (before now : List EpochRun) (all later : Result (List Ran) EpochError)
    → AreRunsSoFar height inputs (input ∷ rest) before → HasOneMore height before now input all later → AreRunsSoFar height inputs rest now
runs_more height inputs rest input before now all later so_far more =
    subst (AreRunsSoFar height inputs rest) (sym more.pushed) (one_run_more height inputs rest input before more.run so_far more.whole)

pub none_yet : (height : ℕ) (inputs : List read.Input) (runs : List EpochRun) → runs ≡ [] → AreRunsSoFar height inputs inputs runs
none_yet height inputs runs none = subst (AreRunsSoFar height inputs inputs) (sym none) (λ later h. h)

pub all_runs : (height : ℕ) (inputs rest : List read.Input) (runs : List EpochRun) → length rest ≡ 0 → AreRunsSoFar height inputs rest runs
    → AreEpochRuns height inputs runs
unfolding AreEpochRuns
all_runs height inputs [] runs none before = subst (AreEpochRuns height inputs) (append-nil runs) (before [] tt)
all_runs height inputs (input ∷ rest) runs none before = absurd (omega arith)

pub are_epochs : (height : ℕ) (inputs : List read.Input) (runs : List EpochRun) → AreEpochRuns height inputs runs → AreEpochs height (inputs_of inputs) (rans_of runs)
unfolding AreEpochRuns AreEpochs
are_epochs height [] [] h = tt
are_epochs height [] (run ∷ runs) h = absurd h
are_epochs height (input ∷ inputs) [] h = absurd h
are_epochs height (input ∷ inputs) (run ∷ runs) h =
    (record { made = h.0.whole.entries; safe = h.0.whole.safe; logs = h.0.logs }, are_epochs height inputs runs h.1)

-- ---- their chains

pub made_chained : (input : ChainInput) (runs : List EpochRun) (text : List ℕ)
    → Epochs input.height (inputs_of input.epochs) ≡ Ok (rans_of runs) → AreEpochRuns input.height input.epochs runs
    → ((height : ℕ) (inputs : List Input) (rans : List Ran) → AreEpochs height inputs rans → AreChainsOf height inputs rans)
    → 0 < input.height
    → ((height : ℕ) (inputs : List Input) (rans : List Ran) → 0 < height → Epochs height inputs ≡ Ok rans → AreEpochs height inputs rans → AreLinked height inputs rans)
    → text ≡ chain_lines input.height (inputs_of input.epochs) (rans_of runs) → AreChained input (record { runs = runs }) text
made_chained input runs text ran whole law some linked told =
    let epochs = are_epochs input.height input.epochs runs whole in
    record {
      ran = ran;
      whole = whole;
      linked = linked input.height (inputs_of input.epochs) (rans_of runs) some ran epochs;
      chains = law input.height (inputs_of input.epochs) (rans_of runs) epochs;
      told = told;
    }

-- ---- their error

pub told_reason : (all : Result (List Ran) EpochError) (error : EpochError) (reason : ChainReason) → (is_memory error ≡ false → all ≡ Err error)
    → Some reason ≡ reason_of error → all ≡ Err (error_of reason)
told_reason all (errors.WrongEpoch place) reason why e =
    let is : reasons.WrongEpoch place ≡ reason = cc in
    why refl ∙ ap (λ (r : ChainReason). Err (error_of r)) is
told_reason all (errors.Run place refusal) reason why e =
    let is : reasons.Run place refusal ≡ reason = cc in
    why refl ∙ ap (λ (r : ChainReason). Err (error_of r)) is
told_reason all (errors.Open place found) reason why e =
    let is : reasons.Open place found ≡ reason = cc in
    why refl ∙ ap (λ (r : ChainReason). Err (error_of r)) is
told_reason all errors.Memory reason why e = cc
