-- What the words and the bytes of an input say of epochs.
use Rattle.std.specs.Prelude.{ℕ, ◌≡◌, List, Option, Some, None, Ok, Err, String, codes, map, string_bytes, if◌then◌else◌}
use Rattle.std.specs.declared.alloc.Global.{Global}
use Rattle.simplex_front.specs.Words.{is_alone}
use Rattle.model_epochs.specs.Epochs.{Epochs}
use Rattle.model_epochs.specs.Lines.{chain_lines}
use Rattle.law_epochs.specs.Whole.{AreChainsOf, AreLinked}
use Rattle.simplex_epochs.specs.declared.form.ChainInput.{ChainInput}
use Rattle.simplex_epochs.specs.declared.reason.ChainReason.{ChainReason}
use Rattle.simplex_epochs.specs.declared.work.ChainDone.{ChainDone}
use Rattle.simplex_epochs.specs.Form.{chain_input_of}
use Rattle.simplex_epochs.specs.Runs.{AreEpochRuns, inputs_of, rans_of}
use Rattle.simplex_epochs.specs.Reasons.{error_of, reason_text}

-- the word is `chain` alone
abbrev pub asks_for_chains : List (String Global) → Option (Unit {0})
asks_for_chains words = if is_alone (codes "chain") (map string_bytes words) then Some tt else None

-- what is said of other words
abbrev pub usage : List ℕ
usage = codes "usage: chain\n"

-- the bytes are not of the form: this is the first place
abbrev pub IsMisread : List ℕ → ℕ → Type 0
IsMisread bytes place = chain_input_of bytes ≡ Err place

-- The runs of the epochs, each whole and safe, one after another: each goes on where the one before was closed, each request on view 0
-- names its epoch's genesis digest, and of the chains of any two members one begins the other. The text has the digests and the chains
pub record AreChained (input : ChainInput) (done : ChainDone) (text : List ℕ) : Type 0 where
  pub ran : Epochs input.height (inputs_of input.epochs) ≡ Ok (rans_of done.runs)
  pub whole : AreEpochRuns input.height input.epochs done.runs
  pub linked : AreLinked input.height (inputs_of input.epochs) (rans_of done.runs)
  pub chains : AreChainsOf input.height (inputs_of input.epochs) (rans_of done.runs)
  pub told : text ≡ chain_lines input.height (inputs_of input.epochs) (rans_of done.runs)

-- the bytes say a height and epochs, of which this comes
abbrev pub ChainSays : List ℕ → ChainDone → List ℕ → Type 0
ChainSays bytes done text = (input : ChainInput) × (chain_input_of bytes ≡ Ok input) × AreChained input done text

-- the epochs have no runs for this reason, which the text tells
abbrev pub IsRefused : ChainInput → ChainReason → List ℕ → Type 0
IsRefused input reason text =
    (Epochs input.height (inputs_of input.epochs) ≡ Err (error_of reason)) × (text ≡ reason_text reason)

-- the bytes say a height and epochs of which this is so
abbrev pub ReasonSays : List ℕ → ChainReason → List ℕ → Type 0
ReasonSays bytes reason text = (input : ChainInput) × (chain_input_of bytes ≡ Ok input) × IsRefused input reason text
