-- Each epoch goes on where the one before was closed.
use Rattle.std.proofs.Common.{◌≡◌, ℕ, ◌+◌, ◌<◌, ◌==◌, Bool, true, false, List, [], ◌∷◌, Option, Some, None, Result, Ok, Err, refl, sym, ap, subst, ◌∙◌, if◌then◌else◌}
use Rattle.simplex_types.specs.Genesis.{genesis_of}
use Rattle.simplex_transcript.specs.declared.entry.Entry.{Entry}
use Rattle.simplex_transcript.specs.declared.refusal.Refusal.{Refusal}
use Rattle.model_run.specs.Setting.{setting_of}
use Rattle.model_run.specs.Run.{RunFrom}
use Rattle.law_log.specs.Logs.{logs_in}
use Rattle.model_epochs.specs.declared.chain.EpochError.{EpochError}
use Rattle.model_epochs.specs.declared.chain.EpochError.TheVariants.{WrongEpoch}
use Rattle.model_epochs.specs.Chain.{closing_payload}
use Rattle.model_epochs.specs.Epochs.{Input, Ran, Epochs, lists_of, ran_of, behind, unless_open, unless_refused, epochs_from, epochs_of}
use Rattle.law_epochs.specs.Whole.{AreEpochs, ClosesAs, IsClosedAs, AreClosed, BeginsAtGenesis, AreLinked}
use Rattle.law_epochs.proofs.Chains.{of_epoch, closed_as}

behind_ok : (ran : Ran) (r : Result (List Ran) EpochError) (rans : List Ran) → behind ran r ≡ Ok rans → (rest : List Ran) × ((rans ≡ ran ∷ rest) × (r ≡ Ok rest))
behind_ok ran (Ok later) rans e = let same : ran ∷ later ≡ rans = cc in (later, (sym same, refl))
behind_ok ran (Err error) rans e = cc

-- the run of an epoch behind which another comes, and the payload that closes it
record GoesOn (height place epoch : ℕ) (genesis : List ℕ) (input next : Input) (later : List Input) (rans : List Ran) : Type 0 where
  entries : List Entry
  rest : List Ran
  digest : List ℕ
  is : rans ≡ ran_of height input.setup genesis entries ∷ rest
  closes : closing_payload height (lists_of (logs_in input.setup entries)) ≡ Some digest
  goes : epochs_from RunFrom height (place + 1) (epoch + 1) digest (next ∷ later) ≡ Ok rest

goes_on : (height place epoch : ℕ) (genesis : List ℕ) (input next : Input) (later : List Input) (rans : List Ran)
    → epochs_from RunFrom height place epoch genesis (input ∷ next ∷ later) ≡ Ok rans → GoesOn height place epoch genesis input next later rans
unfolding epochs_from
goes_on height place epoch genesis input next later rans e = numbered (input.setup.epoch == epoch) e
  where
    closed : (entries : List Entry) (o : Option (List ℕ)) → closing_payload height (lists_of (logs_in input.setup entries)) ≡ o
        → unless_open place (logs_in input.setup entries) (λ digest. behind (ran_of height input.setup genesis entries) (epochs_from RunFrom height (place + 1) (epoch + 1) digest (next ∷ later))) o ≡ Ok rans
        → GoesOn height place epoch genesis input next later rans
    closed entries None c h = cc
    closed entries (Some digest) c h =
        let b = behind_ok (ran_of height input.setup genesis entries) (epochs_from RunFrom height (place + 1) (epoch + 1) digest (next ∷ later)) rans h in
        record { entries = entries; rest = b.0; digest = digest; is = b.1.0; closes = c; goes = b.1.1 }

    ran : (r : Result (List Entry) Refusal)
        → unless_refused place r (λ entries. unless_open place (logs_in input.setup entries) (λ digest. behind (ran_of height input.setup genesis entries) (epochs_from RunFrom height (place + 1) (epoch + 1) digest (next ∷ later)))
        (closing_payload height (lists_of (logs_in input.setup entries)))) ≡ Ok rans
        → GoesOn height place epoch genesis input next later rans
    ran (Err refusal) h = cc
    ran (Ok entries) h = closed entries (closing_payload height (lists_of (logs_in input.setup entries))) refl h

    numbered : (b : Bool)
        → (if b then unless_refused place (RunFrom (setting_of input.setup genesis) input.events) (λ entries. unless_open place (logs_in input.setup entries)
        (λ digest. behind (ran_of height input.setup genesis entries) (epochs_from RunFrom height (place + 1) (epoch + 1) digest (next ∷ later)))
        (closing_payload height (lists_of (logs_in input.setup entries)))) else Err (WrongEpoch place)) ≡ Ok rans
        → GoesOn height place epoch genesis input next later rans
    numbered true h = ran (RunFrom (setting_of input.setup genesis) input.events) h
    numbered false h = cc

-- the first of them runs from this digest
record IsFirst (genesis : List ℕ) (rans : List Ran) : Type 0 where
  first : Ran
  rest : List Ran
  is : rans ≡ first ∷ rest
  from : first.genesis ≡ genesis

first_from : (height place epoch : ℕ) (genesis : List ℕ) (input : Input) (later : List Input) (rans : List Ran) → epochs_from RunFrom height place epoch genesis (input ∷ later) ≡ Ok rans → IsFirst genesis rans
unfolding epochs_from
first_from height place epoch genesis input [] rans e = numbered (input.setup.epoch == epoch) e
  where
    ran : (r : Result (List Entry) Refusal) → unless_refused place r (λ entries. Ok (ran_of height input.setup genesis entries ∷ [])) ≡ Ok rans → IsFirst genesis rans
    ran (Err refusal) h = cc
    ran (Ok entries) h =
        let same : ran_of height input.setup genesis entries ∷ [] ≡ rans = cc in
        record { first = ran_of height input.setup genesis entries; rest = []; is = sym same; from = refl }

    numbered : (b : Bool)
        → (if b then unless_refused place (RunFrom (setting_of input.setup genesis) input.events) (λ entries. Ok (ran_of height input.setup genesis entries ∷ [])) else Err (WrongEpoch place)) ≡ Ok rans
        → IsFirst genesis rans
    numbered true h = ran (RunFrom (setting_of input.setup genesis) input.events) h
    numbered false h = cc
first_from height place epoch genesis input (next ∷ later) rans e =
    let g = goes_on height place epoch genesis input next later rans e in
    record { first = ran_of height input.setup genesis g.entries; rest = g.rest; is = g.is; from = refl }

closed_from : (height place epoch : ℕ) (genesis : List ℕ) (inputs : List Input) (rans : List Ran) → 0 < height → epochs_from RunFrom height place epoch genesis inputs ≡ Ok rans → AreEpochs height inputs rans
    → AreClosed height inputs rans
unfolding AreClosed AreEpochs
closed_from height place epoch genesis [] rans some e epochs = tt
closed_from height place epoch genesis (input ∷ []) rans some e epochs = tt
closed_from height place epoch genesis (input ∷ next ∷ later) rans some e epochs =
    let g = goes_on height place epoch genesis input next later rans e in
    let f = first_from height (place + 1) (epoch + 1) g.digest next later g.rest g.goes in
    let ran = ran_of height input.setup genesis g.entries in
    let own : AreEpochs height (input ∷ next ∷ later) (ran ∷ g.rest) = subst (AreEpochs height (input ∷ next ∷ later)) g.is epochs in
    let tail : AreClosed height (next ∷ later) (f.first ∷ f.rest) =
    subst (AreClosed height (next ∷ later)) f.is (closed_from height (place + 1) (epoch + 1) g.digest (next ∷ later) g.rest some g.goes own.1) in
    let closes : ClosesAs height input.setup g.entries f.first.genesis =
    subst (ClosesAs height input.setup g.entries) (sym f.from) (closed_as height input.setup input.events g.entries g.digest some (of_epoch height input ran own.0) g.closes) in
    subst (AreClosed height (input ∷ next ∷ later)) (sym (g.is ∙ ap (λ (rest : List Ran). ran ∷ rest) f.is))
    (record { reached = g.closes ∙ ap Some (sym f.from); closes = closes }, tail)

begins_from : (height place epoch : ℕ) (inputs : List Input) (input : Input) (rans : List Ran) → epochs_from RunFrom height place epoch (genesis_of input.setup.epoch) (input ∷ inputs) ≡ Ok rans → BeginsAtGenesis (input ∷ inputs) rans
unfolding BeginsAtGenesis
begins_from height place epoch inputs input rans e =
    let f = first_from height place epoch (genesis_of input.setup.epoch) input inputs rans e in
    subst (BeginsAtGenesis (input ∷ inputs)) (sym f.is) f.from

pub linked : (height : ℕ) (inputs : List Input) (rans : List Ran) → 0 < height → Epochs height inputs ≡ Ok rans → AreEpochs height inputs rans → AreLinked height inputs rans
unfolding epochs_of AreClosed BeginsAtGenesis
linked height [] rans some e epochs = record { begins = tt; closed = tt }
linked height (input ∷ later) rans some e epochs =
    record {
      begins = begins_from height 0 input.setup.epoch later input rans e;
      closed = closed_from height 0 input.setup.epoch (genesis_of input.setup.epoch) (input ∷ later) rans some e epochs;
    }
