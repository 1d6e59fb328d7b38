-- A run in groups, part of the way through.
use Rattle.std.proofs.Common.{◌≡◌, ℕ, ◌+◌, ◌-◌, ◌≤◌, All, List, [], ◌∷◌, ◌++◌, length, take, drop, None, Result, Ok, Err, sym, ap, ◌∙◌, subst, arith}
use Rattle.std.proofs.lemmas.List.{take_all, take-append-drop, drop-drop, length-drop, length-take-le}
use Rattle.simplex_transcript.specs.declared.event.Event.{Event}
use Rattle.simplex_transcript.specs.declared.entry.Entry.{Entry}
use Rattle.model_run.specs.Setting.{Setting}
use Rattle.simplex_transcript.specs.declared.refusal.RunError.{RunError}
use Rattle.simplex_transcript.specs.declared.refusal.Refusal.{Refusal}
use Rattle.model_run.specs.Life.{Noted}
use Rattle.model_run.specs.Entries.{entry_of}
use Rattle.model_run.specs.Setups.{first_bad}
use Rattle.model_run.specs.Run.{unless_refused, run, transcript_of, unless_bad}
use Rattle.model_run.specs.Groups.{AllJoin}
use Rattle.model_run.proofs.Whole.{joined_join}
use Rattle.simplex_network.specs.declared.network.Network.{Network}
use Rattle.simplex_network.specs.Answer.{setup_refusal}
use Rattle.simplex_network.specs.Lending.{Groups, MayLend}
use Rattle.simplex_run.proofs.Runs.{Ran, setup-good}
use Rattle.simplex_par.specs.Steps.{GroupMakes, GroupRefuses}

run_on : (setting : Setting) (start : List Noted) (first rest : List Event) (before : List Noted) → run setting start first ≡ Ok before
    → run setting start (first ++ rest) ≡ run setting before rest
unfolding run unless_refused
run_on setting start [] rest before e = let same : start ≡ before = cc in ap (λ list. run setting list rest) same
run_on setting start (event ∷ first) rest before e = by (entry_of setting start event) e (λ noted. run_on setting (noted ∷ start) first rest before)
  where
    by : (r : Result Noted RunError) → unless_refused (length start + 1) r (λ noted. run setting (noted ∷ start) first) ≡ Ok before
        → ((noted : Noted) → run setting (noted ∷ start) first ≡ Ok before → run setting (noted ∷ start) (first ++ rest) ≡ run setting before rest)
        → unless_refused (length start + 1) r (λ noted. run setting (noted ∷ start) (first ++ rest)) ≡ run setting before rest
    by (Err error) h old = cc
    by (Ok noted) h old = old noted h

run_stops : (setting : Setting) (start : List Noted) (first rest : List Event) (refusal : Refusal) → run setting start first ≡ Err refusal
    → run setting start (first ++ rest) ≡ Err refusal
unfolding run unless_refused
run_stops setting start [] rest refusal e = cc
run_stops setting start (event ∷ first) rest refusal e = by (entry_of setting start event) e (λ noted. run_stops setting (noted ∷ start) first rest refusal)
  where
    by : (r : Result Noted RunError) → unless_refused (length start + 1) r (λ noted. run setting (noted ∷ start) first) ≡ Err refusal
        → ((noted : Noted) → run setting (noted ∷ start) first ≡ Err refusal → run setting (noted ∷ start) (first ++ rest) ≡ Err refusal)
        → unless_refused (length start + 1) r (λ noted. run setting (noted ∷ start) (first ++ rest)) ≡ Err refusal
    by (Err error) h old = h
    by (Ok noted) h old = old noted h

run_long : (setting : Setting) (before : List Noted) (events : List Event) (noted : List Noted) → run setting before events ≡ Ok noted
    → length noted ≡ length before + length events
unfolding run unless_refused
run_long setting before [] noted e = let same : before ≡ noted = cc in omega (arith, ap length same)
run_long setting before (event ∷ events) noted e = by (entry_of setting before event) e (λ n. run_long setting (n ∷ before) events noted)
  where
    by : (r : Result Noted RunError) → unless_refused (length before + 1) r (λ n. run setting (n ∷ before) events) ≡ Ok noted
        → ((n : Noted) → run setting (n ∷ before) events ≡ Ok noted → length noted ≡ length (n ∷ before) + length events)
        → length noted ≡ length before + length (event ∷ events)
    by (Err error) h old = cc
    by (Ok n) h old = let longer = old n h in omega (arith, longer)

-- ---- the cut, of all events behind those that are made

rest_is : (events : List Event) (next : ℕ) → take (length events - next) (drop next events) ≡ drop next events
rest_is events next = take_all (length events - next) (drop next events) (omega (arith, length-drop next events))

-- as many as the group has
pub size-is : (next size : ℕ) → next + size - next ≡ size
size-is next size = omega arith

pub cut-within : (events : List Event) (next size : ℕ) → size ≤ length (take (length events - next) (drop next events)) → size ≤ length (drop next events)
cut-within events next size few = subst (λ list. size ≤ length list) (rest_is events next) few

pub cut-may : (network : Network) (events : List Event) (next size : ℕ) → All (MayLend network) (take size (take (length events - next) (drop next events)))
    → All (MayLend network) (take (next + size - next) (drop next events))
cut-may network events next size may =
    subst (λ (n : ℕ). All (MayLend network) (take n (drop next events))) (sym (size-is next size))
    (subst (λ list. All (MayLend network) (take size list)) (rest_is events next) may)

pub cut-all : (network : Network) (events : List Event) (next size : ℕ) → Groups network (take (length events - next) (drop next events)) size → Groups network (drop next events) size
cut-all network events next size cut = subst (λ list. Groups network list size) (rest_is events next) cut

-- ---- a group

-- a part of the events, and those behind it
part_is : (events : List Event) (next size : ℕ) → drop next events ≡ take size (drop next events) ++ drop (next + size) events
part_is events next size = sym (take-append-drop size (drop next events)) ∙ ap (λ rest. take size (drop next events) ++ rest) (drop-drop size next events)

-- the events of the cut stand apart
cut_joins : (network : Network) (setting : Setting) (events : List Event) (entries : List Entry) (number size : ℕ) (left : List Event) → Groups network left size
    → (ran : Ran network setting events left entries number) → AllJoin setting.setup ran.before [] (take size left)
cut_joins network setting events entries number size left cut ran =
    subst (AllJoin setting.setup ran.before []) (sym (cut setting ran.before ran.stands)) (joined_join setting.setup ran.before [] left)

pub ran-group : (old new : Network) (setting : Setting) (events : List Event) (entries news : List Entry) (next size : ℕ) (group : List Event) → size ≤ length (drop next events)
    → group ≡ take size (drop next events) → Groups old (drop next events) size → GroupMakes old new group entries news → Ran old setting events (drop next events) entries next
    → Ran new setting events (drop (next + size) events) news (next + size)
ran-group old new setting events entries news next size group few is cut makes ran =
    let join = cut_joins old setting events entries next size (drop next events) cut ran in
    let m = makes setting ran.before ran.stands (subst (AllJoin setting.setup ran.before []) (sym is) join) in
    let ended : run setting ran.before (take size (drop next events)) ≡ Ok m.here = subst (λ list. run setting ran.before list ≡ Ok m.here) is m.ran in
    let long = run_long setting ran.before (take size (drop next events)) m.here ended in
    let sized = length-take-le size (drop next events) few in
    record {
      before = m.here;
      stands = m.stands;
      ends = sym (run_on setting ran.before (take size (drop next events)) (drop (next + size) events) m.here ended)
          ∙ ap (λ list. run setting ran.before list) (sym (part_is events next size)) ∙ ran.ends;
      made = m.entries ran.made;
      count = omega (arith, ran.count, long, sized);
      total = omega (arith, ran.total, long, sized, few, length-drop next events, length-drop (next + size) events);
    }

pub ran-group-ends : (old : Network) (setting : Setting) (events : List Event) (entries : List Entry) (next size first : ℕ) (group : List Event) (refusal : Refusal) → setup_refusal setting.setup ≡ None
    → group ≡ take size (drop next events) → Groups old (drop next events) size → first ≡ next + 1 → GroupRefuses old group first refusal
    → Ran old setting events (drop next events) entries next → unless_bad (first_bad setting.setup) (transcript_of (run setting [] events)) ≡ Err refusal
ran-group-ends old setting events entries next size first group refusal allowed is cut begins refuses ran =
    let join = cut_joins old setting events entries next size (drop next events) cut ran in
    let stops = refuses setting ran.before ran.stands (subst (AllJoin setting.setup ran.before []) (sym is) join) (omega (arith, begins, ran.count)) in
    let whole : run setting [] events ≡ Err refusal =
    sym ran.ends ∙ ap (λ list. run setting ran.before list) (part_is events next size)
    ∙ run_stops setting ran.before (take size (drop next events)) (drop (next + size) events) refusal (subst (λ list. run setting ran.before list ≡ Err refusal) is stops) in
    rw (setup-good setting.setup allowed) (ap (λ r. transcript_of r) whole)
