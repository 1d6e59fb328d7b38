-- The chains of runs that are safe.
use Rattle.std.proofs.Common.{◌≡◌, ℕ, suc, ◌+◌, ◌-◌, ◌<◌, ◌≤◌, ◌==◌, ◌&&◌, Bool, true, false, List, [], ◌∷◌, ◌++◌, map, reverse, take, length, Contains, Option, Some, None, ◌⊎◌, refl, sym, ap, subst, ◌∙◌, inl, inr, arith, append-nil, take_all, if◌then◌else◌}
use Rattle.std.specs.List.{slice_get}
use Rattle.std.specs.Option.{option_map, option_or}
use Rattle.std.proofs.Math.Seq.{take-append-add}
use Rattle.std.proofs.lemmas.Bool.{cases_lt}
use Rattle.std.proofs.lemmas.List.{take-append-le}
use Rattle.std.proofs.lemmas.Option.{slice_get_past, slice_get_within}
use Rattle.simplex_transcript.specs.declared.entry.Entry.{Entry}
use Rattle.simplex_transcript.specs.declared.event.Event.{Event}
use Rattle.simplex_transcript.specs.declared.node.Node.{Node}
use Rattle.simplex_transcript.specs.declared.setup.Setup.{Setup}
use Rattle.simplex_transcript.specs.declared.setup.MemberKind.{MemberKind}
use Rattle.model_run.specs.Setting.{setting_of}
use Rattle.model_run.specs.Setups.{is_faulty}
use Rattle.model_run.specs.Kinds.{is_same_node, node_of}
use Rattle.model_run.specs.Life.{Noted}
use Rattle.law_agreement.proofs.ListFacts.{not_in_empty, Contains-cons_cases}
use Rattle.law_run.specs.Sayings.{Each}
use Rattle.law_run.proofs.Further.{same_node}
use Rattle.model_log.specs.declared.entry.LogEntry.{LogEntry}
use Rattle.model_log.specs.Fronts.{IsFrontOf, AreFronts}
use Rattle.law_log.specs.Logs.{log_at, honest_from, logs_in}
use Rattle.law_log.specs.Reports.{entries_of}
use Rattle.law_log.specs.Transcripts.{IsTranscript}
use Rattle.law_log.proofs.Reporting.{from_reverse}
use Rattle.law_log.proofs.Entries.{transcript_ran, transcript_fronts}
use Rattle.law_run.specs.Rooted.{IsRooted, AreRooted}
use Rattle.law_run.proofs.AskedRunning.{requests_rooted}
use Rattle.law_epochs.specs.Alike.{AreAlike}
use Rattle.model_epochs.specs.Chain.{chain_of, payload_at, closing_payload}
use Rattle.model_epochs.specs.Epochs.{Input, Ran, lists_of, cut_at, log_in, member_logs}
use Rattle.law_epochs.specs.Whole.{IsEpoch, AreEpochs, AllRooted, EachRooted, ClosesAs, ChainsAreFronts, AreChainsOf}
use Rattle.law_epochs.proofs.Joining.{joined, agreed}

-- ---- logs up to a height

front_cut : {X : Type 0} (n : ℕ) (xs ys : List X) → IsFrontOf xs ys → IsFrontOf (take n xs) (take n ys)
front_cut {X} n xs ys f = elim (cases_lt (length xs) n) [
  | inl lt ↦ let sum : n ≡ length xs + (n - length xs) = omega (arith, lt) in
      let whole : take n xs ≡ xs = take_all n xs (omega (arith, lt)) in
      let cut : take n ys ≡ xs ++ take (n - length xs) f.0 = ap (take n) f.1 ∙ ap (λ (m : ℕ). take m (xs ++ f.0)) sum ∙ take-append-add xs f.0 (n - length xs) in
      (take (n - length xs) f.0, cut ∙ ap (λ (zs : List X). zs ++ take (n - length xs) f.0) (sym whole))
  | inr le ↦ ([], ap (take n) f.1 ∙ take-append-le n xs f.0 le ∙ sym (append-nil (take n xs)))
]

fronts_cut : {X : Type 0} (n : ℕ) (xs ys : List X) → AreFronts xs ys → AreFronts (take n xs) (take n ys)
fronts_cut n xs ys (inl f) = inl (front_cut n xs ys f)
fronts_cut n xs ys (inr f) = inr (front_cut n ys xs f)

-- ---- the log of a member

-- the log of the member's node, or none
abbrev IsLogOf : ℕ → Setup → List Entry → ℕ → List LogEntry → Type 0
IsLogOf height setup entries member log = (log ≡ take height (log_at setup entries (node_of member))) ⊎ (log ≡ [])

found_log : (height : ℕ) (setup : Setup) (entries : List Entry) (member : ℕ) (nodes : List Node) → IsLogOf height setup entries member (log_in (cut_at height (map (λ node. (node, log_at setup entries node)) nodes)) member)
found_log height setup entries member [] = inr refl
found_log height setup entries member (node ∷ rest) = at (is_same_node node (node_of member)) refl (found_log height setup entries member rest)
  where
    later : List LogEntry
    later = log_in (cut_at height (map (λ (n : Node). (n, log_at setup entries n)) rest)) member

    at : (b : Bool) → is_same_node node (node_of member) ≡ b → IsLogOf height setup entries member later → IsLogOf height setup entries member (if b then take height (log_at setup entries node) else later)
    at true e h = inl (ap (λ (n : Node). take height (log_at setup entries n)) (same_node node (node_of member) e))
    at false e h = h

epoch_log : (height : ℕ) (input : Input) (ran : Ran) → IsEpoch height input ran → (member : ℕ) → IsLogOf height input.setup ran.entries member (log_in ran.logs member)
unfolding logs_in
epoch_log height input ran e member =
    subst (λ logs. IsLogOf height input.setup ran.entries member (log_in logs member)) (sym e.logs) (found_log height input.setup ran.entries member (honest_from 0 input.setup.members))

pub of_epoch : (height : ℕ) (input : Input) (ran : Ran) → IsEpoch height input ran → IsTranscript input.setup input.events ran.entries
of_epoch height input ran e = record { genesis = ran.genesis; ran = e.made; safe = e.safe }

whole_fronts : (setup : Setup) (list : List Event) (entries : List Entry) → IsTranscript setup list entries → (a b : Node) → AreFronts (log_at setup entries a) (log_at setup entries b)
whole_fronts setup list entries t a b =
    subst (λ (es : List Entry). AreFronts (log_at setup es a) (log_at setup es b)) (take_all (length entries) entries (omega arith)) (transcript_fronts setup list entries t a b (length entries) (length entries))

epoch_fronts : (height : ℕ) (input : Input) (ran : Ran) → IsEpoch height input ran → (a b : ℕ) → AreFronts (log_in ran.logs a) (log_in ran.logs b)
epoch_fronts height input ran e a b = at (log_in ran.logs a) (log_in ran.logs b) (epoch_log height input ran e a) (epoch_log height input ran e b)
  where
    at : (x y : List LogEntry) → IsLogOf height input.setup ran.entries a x → IsLogOf height input.setup ran.entries b y → AreFronts x y
    at x y (inr h) k = inl (y, ap (λ (zs : List LogEntry). zs ++ y) (sym h))
    at x y (inl h) (inr k) = inr (x, ap (λ (zs : List LogEntry). zs ++ x) (sym k))
    at x y (inl h) (inl k) =
        subst (λ (z : List LogEntry). AreFronts z y) (sym h)
        (subst (AreFronts (take height (log_at input.setup ran.entries (node_of a)))) (sym k)
        (fronts_cut height _ _ (whole_fronts input.setup input.events ran.entries (of_epoch height input ran e) (node_of a) (node_of b))))

alike : (height : ℕ) (inputs : List Input) (rans : List Ran) → AreEpochs height inputs rans → (a b : ℕ) → AreAlike (member_logs inputs rans a) (member_logs inputs rans b)
unfolding AreEpochs
alike height [] [] e a b = tt
alike height [] (ran ∷ rest) e a b = absurd e
alike height (input ∷ later) [] e a b = absurd e
alike height (input ∷ later) (ran ∷ rest) e a b = (refl, epoch_fronts height input ran e.0 a b, alike height later rest e.1 a b)

pub chains_fronts : (height : ℕ) (inputs : List Input) (rans : List Ran) → AreEpochs height inputs rans → ChainsAreFronts height inputs rans
chains_fronts height inputs rans e a b = joined height (member_logs inputs rans a) (member_logs inputs rans b) (alike height inputs rans e a b)

-- ---- the genesis digest

entry_rooted : (genesis : List ℕ) (noted : List Noted) (entry : Entry) → AreRooted genesis noted → Contains (map (λ (n : Noted). n.entry) noted) entry → Each (IsRooted genesis) entry.asked
entry_rooted genesis [] entry r k = absurd (not_in_empty entry k)
entry_rooted genesis (noted ∷ before) entry r k = elim (Contains-cons_cases noted.entry (map (λ (n : Noted). n.entry) before) entry k) [
  | inl e ↦ subst (λ (x : Entry). Each (IsRooted genesis) x.asked) e r.0
  | inr h ↦ entry_rooted genesis before entry r.1 h
]

pub epoch_rooted : (height : ℕ) (input : Input) (ran : Ran) → IsEpoch height input ran → AllRooted ran.genesis ran.entries
unfolding of_epoch
epoch_rooted height input ran e entry k =
    let r = transcript_ran input.setup input.events ran.entries (of_epoch height input ran e) in
    let s = r.safe in
    let entries = map (λ (n : Noted). n.entry) r.noted in
    entry_rooted ran.genesis r.noted entry (requests_rooted (setting_of input.setup ran.genesis) r.noted r.ran s.above)
    (from_reverse entries entry (subst (λ (es : List Entry). Contains es entry) (sym r.same) k))

each_rooted : (height : ℕ) (inputs : List Input) (rans : List Ran) → AreEpochs height inputs rans → EachRooted rans
unfolding AreEpochs EachRooted
each_rooted height [] [] e = tt
each_rooted height [] (ran ∷ rest) e = absurd e
each_rooted height (input ∷ later) [] e = absurd e
each_rooted height (input ∷ later) (ran ∷ rest) e = (epoch_rooted height input ran e.0, each_rooted height later rest e.1)

-- ---- the payload that closes

mapped : {A B : Type 0} (f : A → B) (o : Option A) (b : B) → option_map f o ≡ Some b → (a : A) × (o ≡ Some a)
mapped f None b e = cc
mapped f (Some a) b e = (a, refl)

reaches : (height : ℕ) (log : List LogEntry) (digest : List ℕ) → 0 < height → payload_at height log ≡ Some digest → height ≤ length log
reaches height log digest some e =
    let m = mapped (λ (x : LogEntry). x.payload) (slice_get log (height - 1)) digest e in
    omega (arith, some, slice_get_within log (height - 1) m.0 m.1)

closes : (height : ℕ) (setup : Setup) (list : List Event) (entries : List Entry) (digest : List ℕ) (nodes : List Node) → 0 < height → IsTranscript setup list entries
    → closing_payload height (lists_of (map (λ node. (node, log_at setup entries node)) nodes)) ≡ Some digest → ClosesAs height setup entries digest
unfolding closing_payload
closes height setup list entries digest [] some t e = cc
closes height setup list entries digest (first ∷ rest) some t e =
    at (payload_at height (log_at setup entries first)) refl (λ h. closes height setup list entries digest rest some t h) e
  where
    at : (o : Option (List ℕ)) → payload_at height (log_at setup entries first) ≡ o
        → (closing_payload height (lists_of (map (λ (node : Node). (node, log_at setup entries node)) rest)) ≡ Some digest → ClosesAs height setup entries digest)
        → option_or o (closing_payload height (lists_of (map (λ (node : Node). (node, log_at setup entries node)) rest))) ≡ Some digest → ClosesAs height setup entries digest
    at None f go h = go h
    at (Some payload) f go h = λ node long.
        agreed height (log_at setup entries node) (log_at setup entries first) some long (reaches height (log_at setup entries first) payload some f) (whole_fronts setup list entries t node first) ∙ f ∙ h

pub closed_as : (height : ℕ) (setup : Setup) (list : List Event) (entries : List Entry) (digest : List ℕ) → 0 < height → IsTranscript setup list entries
    → closing_payload height (lists_of (logs_in setup entries)) ≡ Some digest → ClosesAs height setup entries digest
unfolding logs_in
closed_as height setup list entries digest some t e = closes height setup list entries digest (honest_from 0 setup.members) some t e

pub whole_chains : (height : ℕ) (inputs : List Input) (rans : List Ran) → AreEpochs height inputs rans → AreChainsOf height inputs rans
whole_chains height inputs rans e = record { epochs = e; rooted = each_rooted height inputs rans e; fronts = chains_fronts height inputs rans e }
