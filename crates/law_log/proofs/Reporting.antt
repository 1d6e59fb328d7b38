-- What was reported in a run in which no two certificates conflict is of one chain.
use Rattle.std.proofs.Common.{◌≡◌, ℕ, ◌<◌, ◌⊎◌, Bool, true, false, List, [], ◌∷◌, ◌++◌, length, get_or, take, drop, map, reverse, filter, Contains, Option, Some, None, refl, sym, ap, subst, ◌∙◌, inl, inr, arith, take_all}
use Rattle.std.specs.Prelude.{filter_map, flat_map}
use Rattle.std.specs.List.{cons_option}
use Rattle.std.specs.Str.{bytes_eq}
use Rattle.std.proofs.lemmas.Bool.{cases_lt, cases_eq}
use Rattle.std.proofs.lemmas.List.{take-append-drop, reverse-append}
use Rattle.std.proofs.lemmas.Slice.Eq.{bytes_eq-Decides}
use Rattle.std.proofs.lemmas.List.Elements.{Contains-append_cases, Contains-append_left, Contains-append_right, Contains-push_cases, Contains-get_or}
use Rattle.simplex_values.specs.declared.proposal.Proposal.{Proposal}
use Rattle.simplex_values.specs.declared.proposal.Subject.{Subject}
use Rattle.simplex_values.specs.declared.proposal.Subject.TheVariants as subjects
use Rattle.simplex_wire.specs.declared.certificate.Certificate.{Certificate}
use Rattle.simplex_wire.specs.declared.certificate.Certificate.TheVariants as certificates
use Rattle.simplex_wire.specs.Fields.{certificate_subject}
use Rattle.simplex_types.specs.declared.activity.Activity.{Activity}
use Rattle.simplex_types.specs.declared.activity.Activity.TheVariants as activities
use Rattle.simplex_messages.specs.declared.call.Call.{Call}
use Rattle.simplex_messages.specs.declared.call.Call.TheVariants as calls
use Rattle.simplex_transcript.specs.declared.entry.Entry.{Entry}
use Rattle.simplex_transcript.specs.declared.node.Node.{Node}
use Rattle.simplex_transcript.specs.declared.setup.Setup.{Setup}
use Rattle.model_run.specs.Life.{Noted}
use Rattle.law_agreement.specs.Conflict.{Conflict, AreRivals}
use Rattle.law_run.specs.Backed.{of_report, of_call, of_message, of_packet, StandsIn}
use Rattle.law_run.specs.Safe.{Stands, AgreeAll}
use Rattle.model_log.specs.Links.{proposal_in, final_view, proposals_of, finals_of}
use Rattle.model_log.specs.Observing.{clash_of}
use Rattle.model_log.specs.Fronts.{AreFronts, AreConsistent}
use Rattle.model_log.proofs.Holding.{not_in_empty, there, here_or_there, filtered}
use Rattle.model_log.proofs.Chaining.{no_clash, logs_are_fronts}
use Rattle.law_log.specs.Reports.{entries_of, is_entry_of, report_in, reports_in, reported, WasReported, AreReported}
use Rattle.law_run.specs.Founded.{IsOn}
use Rattle.law_log.specs.Logs.{verified_by, log_at}

-- ---- lists

-- what f gives of an element is among what it gives of all
in_flat_map : {X Y : Type 0} (f : X → List Y) (xs : List X) (x : X) (y : Y) → Contains xs x → Contains (f x) y → Contains (flat_map f xs) y
in_flat_map f [] x y c k = absurd (not_in_empty x c)
in_flat_map {X} {Y} f (z ∷ zs) x y c k = elim (here_or_there z zs x c) [
  | inl e ↦ Contains-append_left (f z) (flat_map f zs) y (subst (λ (w : X). Contains (f w) y) (sym e) k)
  | inr r ↦ Contains-append_right (f z) (flat_map f zs) y (in_flat_map f zs x y r k)
]

from_flat_map : {X Y : Type 0} (f : X → List Y) (xs : List X) (y : Y) → Contains (flat_map f xs) y → (x : X) × Contains xs x × Contains (f x) y
from_flat_map f [] y c = absurd (not_in_empty y c)
from_flat_map f (z ∷ zs) y c = elim (Contains-append_cases (f z) (flat_map f zs) y c) [
  | inl h ↦ (z, (0, omega arith, refl), h)
  | inr r ↦ let k = from_flat_map f zs y r in (k.0, there z zs k.0 k.1, k.2)
]

picked_step : {X Y : Type 0} (h : X → Option Y) (z : X) (zs : List X) (y : Y) (o : Option Y) → h z ≡ o
    → (Contains (filter_map h zs) y → (x : X) × Contains zs x × (h x ≡ Some y))
    → Contains (cons_option o (filter_map h zs)) y → (x : X) × Contains (z ∷ zs) x × (h x ≡ Some y)
picked_step h z zs y None e rest c = let k = rest c in (k.0, there z zs k.0 k.1, k.2)
picked_step {X} {Y} h z zs y (Some w) e rest c = elim (here_or_there w (filter_map h zs) y c) [
  | inl same ↦ (z, (0, omega arith, refl), e ∙ ap (λ (v : Y). Some v) same)
  | inr r ↦ let k = rest r in (k.0, there z zs k.0 k.1, k.2)
]

-- what is picked was picked from an element
picked : {X Y : Type 0} (h : X → Option Y) (xs : List X) (y : Y) → Contains (filter_map h xs) y → (x : X) × Contains xs x × (h x ≡ Some y)
picked h [] y c = absurd (not_in_empty y c)
picked h (z ∷ zs) y c = picked_step h z zs y (h z) refl (picked h zs y) c

-- ---- a report stands in the run

reported_stands : (noted : List Noted) (activity : Activity) (c : Certificate) → WasReported noted activity → Contains (of_report activity) c → StandsIn noted c
unfolding WasReported StandsIn
reported_stands [] activity c w k = absurd w
reported_stands (noted ∷ before) activity c w k =
    let entry = noted.entry in
    elim w [
      | inl here ↦ inl (Contains-append_left (entry.added ++ flat_map of_message entry.handed ++ flat_map of_call entry.calls) (flat_map of_packet entry.packets) c
          (Contains-append_right (entry.added ++ flat_map of_message entry.handed) (flat_map of_call entry.calls) c
          (in_flat_map of_call entry.calls (calls.Report activity) c here k)))
      | inr r ↦ inr (reported_stands before activity c r k)
    ]

-- ---- which certificate names a proposal

-- a certificate of the run is on the proposal, and notarizes it or makes it final
pub record Named (setup : Setup) (noted : List Noted) (p : Proposal) : Type 0 where
  pub certificate : Certificate
  pub stands : Stands setup noted certificate
  pub subject : (certificate_subject certificate ≡ subjects.Notarize p) ⊎ (certificate_subject certificate ≡ subjects.Finalize p)

-- a certificate of the run makes the view final
record Final (setup : Setup) (noted : List Noted) (view : ℕ) : Type 0 where
  certificate : Certificate
  stands : Stands setup noted certificate
  proposal : Proposal
  at : proposal.round.view ≡ view
  subject : certificate_subject certificate ≡ subjects.Finalize proposal

only : (c : Certificate) → Contains (c ∷ []) c
only c = (0, omega arith, refl)

module _ (setup : Setup) (noted : List Noted) where
  names : (x : Activity) (p : Proposal) → WasReported noted x → verified_by setup x ≡ true → proposal_in x ≡ Some p → Named setup noted p
  names (activities.Notarization c) p w v e =
      let same : c.proposal ≡ p = cc in
      record { certificate = certificates.Notarization c; stands = (reported_stands noted _ _ w (only (certificates.Notarization c)), v); subject = inl (ap (λ (q : Proposal). subjects.Notarize q) same) }
  names (activities.Certification c) p w v e =
      let same : c.proposal ≡ p = cc in
      record { certificate = certificates.Notarization c; stands = (reported_stands noted _ _ w (only (certificates.Notarization c)), v); subject = inl (ap (λ (q : Proposal). subjects.Notarize q) same) }
  names (activities.Finalization c) p w v e =
      let same : c.proposal ≡ p = cc in
      record { certificate = certificates.Finalization c; stands = (reported_stands noted _ _ w (only (certificates.Finalization c)), v); subject = inr (ap (λ (q : Proposal). subjects.Finalize q) same) }
  names (activities.Notarize v) p w t e = cc
  names (activities.Nullify v) p w t e = cc
  names (activities.Nullification v) p w t e = cc
  names (activities.Finalize v) p w t e = cc
  names (activities.ConflictingNotarize v) p w t e = cc
  names (activities.ConflictingFinalize v) p w t e = cc
  names (activities.NullifyFinalize v) p w t e = cc

  ends : (x : Activity) (view : ℕ) → WasReported noted x → verified_by setup x ≡ true → final_view x ≡ Some view → Final setup noted view
  ends (activities.Finalization c) view w v e =
      record { certificate = certificates.Finalization c; stands = (reported_stands noted _ _ w (only (certificates.Finalization c)), v); proposal = c.proposal; at = cc; subject = refl }
  ends (activities.Notarization c) view w v e = cc
  ends (activities.Certification c) view w v e = cc
  ends (activities.Notarize v) view w t e = cc
  ends (activities.Nullify v) view w t e = cc
  ends (activities.Nullification v) view w t e = cc
  ends (activities.Finalize v) view w t e = cc
  ends (activities.ConflictingNotarize v) view w t e = cc
  ends (activities.ConflictingFinalize v) view w t e = cc
  ends (activities.NullifyFinalize v) view w t e = cc

  was : (xs : List Activity) (x : Activity) → AreReported noted xs → Contains xs x → WasReported noted x
  was xs x all c = subst (WasReported noted) c.2 (all c.0 x c.1)

  pub all_named : (xs : List Activity) (p : Proposal) → AreReported noted xs → Contains (proposals_of (verified_by setup) xs) p → Named setup noted p
  unfolding proposals_of
  all_named xs p all c =
      let k = picked proposal_in (filter (verified_by setup) xs) p c in
      let f = filtered (verified_by setup) xs k.0 k.1 in
      names k.0 p (was xs k.0 all f.0) f.1 k.2

  all_final : (xs : List Activity) (view : ℕ) → AreReported noted xs → Contains (finals_of (verified_by setup) xs) view → Final setup noted view
  unfolding finals_of
  all_final xs view all c =
      let k = picked final_view (filter (verified_by setup) xs) view c in
      let f = filtered (verified_by setup) xs k.0 k.1 in
      ends k.0 view (was xs k.0 all f.0) f.1 k.2

-- ---- two proposals are one, or differ

same_bytes : (xs ys : List ℕ) → (xs ≡ ys) ⊎ (xs ≡ ys → ⊥)
same_bytes xs ys = at (bytes_eq xs ys) refl
  where
    at : (b : Bool) → bytes_eq xs ys ≡ b → (xs ≡ ys) ⊎ (xs ≡ ys → ⊥)
    at true e = inl ((bytes_eq-Decides xs ys).0 e)
    at false e = inr (λ same. let t : bytes_eq xs ys ≡ true = (bytes_eq-Decides xs ys).1 same in cc)

one_or_not : (p q : Proposal) → (p ≡ q) ⊎ (p ≡ q → ⊥)
one_or_not p q =
    elim (cases_eq p.round.epoch q.round.epoch) [
      | inr n ↦ inr (λ e. n (ap (λ (x : Proposal). x.round.epoch) e))
      | inl a ↦ elim (cases_eq p.round.view q.round.view) [
        | inr n ↦ inr (λ e. n (ap (λ (x : Proposal). x.round.view) e))
        | inl b ↦ elim (cases_eq p.parent q.parent) [
          | inr n ↦ inr (λ e. n (ap (λ (x : Proposal). x.parent) e))
          | inl c ↦ elim (same_bytes p.payload q.payload) [
            | inr n ↦ inr (λ e. n (ap (λ (x : Proposal). x.payload) e))
            | inl d ↦ inl (whole p.round.epoch q.round.epoch p.round.view q.round.view p.parent q.parent p.payload q.payload a b c d)
          ]
        ]
      ]
    ]
  where
    whole : (a b v w e f : ℕ) (x y : List ℕ) → a ≡ b → v ≡ w → e ≡ f → x ≡ y
        → ◌≡◌ {A = Proposal} (record { round = record { epoch = a; view = v }; parent = e; payload = x }) (record { round = record { epoch = b; view = w }; parent = f; payload = y })
    whole a b v w e f x y i j k l = rw (i, j, k, l) refl

-- ---- what does not conflict

rivals_conflict : (length : ℕ) (s t : Subject) (p q : Proposal) → IsOn s p → IsOn t q → AreRivals p q → Conflict length s t
rivals_conflict length s t p q (inl a) (inl b) r = rw (a, b) r
rivals_conflict length s t p q (inl a) (inr b) r = rw (a, b) (inl r)
rivals_conflict length s t p q (inr a) (inl b) r = rw (a, b) (inl r)
rivals_conflict length s t p q (inr a) (inr b) r = rw (a, b) (inl r)

skipped_conflict : (length : ℕ) (s t : Subject) (f p : Proposal) → s ≡ subjects.Finalize f → IsOn t p → f.round.view < p.round.view → p.parent < f.round.view → Conflict length s t
skipped_conflict length s t f p a (inl b) up low = rw (a, b) (inr (up, low))
skipped_conflict length s t f p a (inr b) up low = rw (a, b) (inr (inl (up, low)))

pub reported_is_chain : (setup : Setup) (noted : List Noted) (xs : List Activity) → AgreeAll setup noted → AreReported noted xs → AreConsistent (verified_by setup) xs
reported_is_chain setup noted xs agree all = record {
  one = λ p q in_p in_q same.
      let a = all_named setup noted xs p all in_p in
      let b = all_named setup noted xs q all in_q in
      elim (one_or_not p q) [
        | inl e ↦ e
        | inr n ↦ absurd (agree a.certificate b.certificate a.stands b.stands (rivals_conflict setup.term _ _ p q a.subject b.subject (same, n)))
      ];
  kept = λ view p in_f in_p above.
      let a = all_final setup noted xs view all in_f in
      let b = all_named setup noted xs p all in_p in
      elim (cases_lt p.parent view) [
        | inr le ↦ le
        | inl low ↦ absurd (agree a.certificate b.certificate a.stands b.stands
            (skipped_conflict setup.term _ _ a.proposal p a.subject b.subject (omega (arith, a.at, above)) (omega (arith, a.at, low))))
      ];
}

-- ---- what a node reported was reported

from_entry : (entry : Entry) (x : Activity) → Contains (reports_in entry) x → Contains entry.calls (calls.Report x)
from_entry entry x c = let k = picked report_in entry.calls x c in subst (Contains entry.calls) (is_report k.0 x k.2) k.1
  where
    is_report : (call : Call) (x : Activity) → report_in call ≡ Some x → call ≡ calls.Report x
    is_report (calls.Report y) x e = let same : y ≡ x = cc in ap (λ (z : Activity). calls.Report z) same
    is_report (calls.Append n a) x e = cc
    is_report (calls.Sync n) x e = cc
    is_report (calls.Prune n) x e = cc
    is_report (calls.Send channel to bytes) x e = cc
    is_report (calls.Relay payload plan) x e = cc
    is_report (calls.Block who cause) x e = cc

in_run : (noted : List Noted) (entry : Entry) (x : Activity) → Contains (map (λ (n : Noted). n.entry) noted) entry → Contains entry.calls (calls.Report x) → WasReported noted x
unfolding WasReported
in_run [] entry x c k = absurd (not_in_empty entry c)
in_run (noted ∷ before) entry x c k = elim (here_or_there noted.entry (map (λ (n : Noted). n.entry) before) entry c) [
  | inl e ↦ inl (subst (λ (y : Entry). Contains y.calls (calls.Report x)) (sym e) k)
  | inr r ↦ inr (in_run before entry x r k)
]

pub from_reverse : {X : Type 0} (xs : List X) (x : X) → Contains (reverse xs) x → Contains xs x
from_reverse [] x c = c
from_reverse {X} (y ∷ ys) x c = elim (Contains-push_cases (reverse ys) y x (subst (λ (zs : List X). Contains zs x) (reverse-append (y ∷ []) ys) c)) [
  | inl r ↦ there y ys x (from_reverse ys x r)
  | inr e ↦ (0, omega arith, e)
]

from_take : {X : Type 0} (i : ℕ) (xs : List X) (x : X) → Contains (take i xs) x → Contains xs x
from_take {X} i xs x c = subst (λ (zs : List X). Contains zs x) (take-append-drop i xs) (Contains-append_left (take i xs) (drop i xs) x c)

each_reported : (noted : List Noted) (node : Node) (i : ℕ) (x : Activity) → Contains (reported (take i (entries_of noted)) node) x → WasReported noted x
unfolding reported
each_reported noted node i x c =
    let k = from_flat_map reports_in (filter (is_entry_of node) (take i (entries_of noted))) x c in
    let f = filtered (is_entry_of node) (take i (entries_of noted)) k.0 k.1 in
    let entries = map (λ (n : Noted). n.entry) noted in
    in_run noted k.0 x (from_reverse entries k.0 (from_take i (reverse entries) k.0 f.0)) (from_entry k.0 x k.2)

pub reported_was : (noted : List Noted) (node : Node) (i : ℕ) → AreReported noted (reported (take i (entries_of noted)) node)
reported_was noted node i k d lt = each_reported noted node i _ (Contains-get_or (reported (take i (entries_of noted)) node) k d lt)

-- ---- the laws

pub run_fronts : (setup : Setup) (noted : List Noted) (a b : Node) (i j : ℕ) → AgreeAll setup noted
    → AreFronts (log_at setup (take i (entries_of noted)) a) (log_at setup (take j (entries_of noted)) b)
run_fronts setup noted a b i j agree =
    let xs = reported (take i (entries_of noted)) a in
    let ys = reported (take j (entries_of noted)) b in
    logs_are_fronts (verified_by setup) xs ys (reported_is_chain setup noted (xs ++ ys) agree (All-both xs ys (reported_was noted a i) (reported_was noted b j)))
  where
    All-both : (xs ys : List Activity) → AreReported noted xs → AreReported noted ys → AreReported noted (xs ++ ys)
    All-both xs ys p q k d lt = elim (Contains-append_cases xs ys (get_or (xs ++ ys) k d) (Contains-get_or (xs ++ ys) k d lt)) [
      | inl l ↦ was setup noted xs _ p l
      | inr r ↦ was setup noted ys _ q r
    ]

pub run_no_clash : (setup : Setup) (noted : List Noted) (node : Node) (taken later : List Activity) (activity : Activity) → AgreeAll setup noted
    → reported (entries_of noted) node ≡ taken ++ activity ∷ later → clash_of (verified_by setup) taken activity ≡ None
run_no_clash setup noted node taken later activity agree e =
    no_clash (verified_by setup) taken activity (reported_is_chain setup noted (taken ++ activity ∷ []) agree (λ k d lt. at _ (Contains-get_or (taken ++ activity ∷ []) k d lt)))
  where
    whole : take (length (entries_of noted)) (entries_of noted) ≡ entries_of noted
    whole = take_all (length (entries_of noted)) (entries_of noted) (omega arith)

    found_in : (x : Activity) → Contains (taken ++ activity ∷ later) x → WasReported noted x
    found_in x c =
        each_reported noted node (length (entries_of noted)) x
        (subst (λ (zs : List Activity). Contains zs x) (sym e ∙ ap (λ (es : List Entry). reported es node) (sym whole)) c)

    at : (x : Activity) → Contains (taken ++ activity ∷ []) x → WasReported noted x
    at x c = elim (Contains-append_cases taken (activity ∷ []) x c) [
      | inl l ↦ found_in x (Contains-append_left taken (activity ∷ later) x l)
      | inr r ↦ found_in x (Contains-append_right taken (activity ∷ later) x (elim (here_or_there activity [] x r) [
        | inl h ↦ (0, omega arith, h)
        | inr n ↦ absurd (not_in_empty x n)
      ]))
    ]
