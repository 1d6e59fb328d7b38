-- Certificates that are taken one after another: what is answered, and what is known then.
use Rattle.std.proofs.Common.{◌≡◌, ℕ, ◌+◌, ◌<◌, ◌≤◌, ◌==◌, ◌&&◌, ◌||◌, ◌++◌, length, take, drop, get_or, nat_lt, Bool, true, false, not, List, [], ◌∷◌, map, refl, sym, ap, subst, ◌∙◌, eqb-true, eq-eqb, ltb-true, arith}
use Rattle.std.specs.List.{list_any, flat_map, filter_map}
use Rattle.std.proofs.lemmas.List.{append-nil, take_all, take_more, take-append-drop}
use Rattle.std.proofs.lemmas.Grind.{flat_map-append}
use Rattle.std.proofs.lemmas.List.Elements.{filter-append}
use Rattle.std.proofs.lemmas.List.Folds.{list_any-append}
use Rattle.simplex_values.specs.declared.proposal.Proposal.{Proposal}
use Rattle.simplex_values.specs.declared.proposal.Subject.{Subject}
use Rattle.simplex_values.specs.declared.proposal.Subject.TheVariants.{Notarize, Nullify, Finalize}
use Rattle.simplex_values.specs.Proposal.{is_same_proposal}
use Rattle.simplex_values.proofs.Same.{proposals_same, proposal_itself}
use Rattle.simplex_wire.specs.declared.attestation.Attestation.{Attestation}
use Rattle.simplex_wire.specs.declared.certificate.Certificate.{Certificate}
use Rattle.simplex_wire.specs.declared.certificate.Certificate.TheVariants as certificates
use Rattle.simplex_wire.specs.Certified.{is_certified}
use Rattle.simplex_wire.specs.Fields.{certificate_subject, certificate_signatures}
use Rattle.simplex_types.specs.Keyed.{keyed_verifies}
use Rattle.simplex_transcript.specs.declared.entry.Packet.{Packet}
use Rattle.simplex_transcript.specs.declared.event.Event.{Event}
use Rattle.simplex_transcript.specs.declared.setup.Setup.{Setup}
use Rattle.model_run.specs.Kinds.{members_of}
use Rattle.model_run.specs.Life.{Noted}
use Rattle.law_agreement.specs.World.{view_of}
use Rattle.law_run.specs.Backed.{of_call, of_packet, of_record, standing_in}
use Rattle.model_audit.specs.declared.record.AuditCall.{AuditCall}
use Rattle.model_audit.specs.declared.record.AuditCall.TheVariants as audit
use Rattle.model_audit.specs.declared.record.AuditEntry.{AuditEntry}
use Rattle.model_audit.specs.Conflicts.{are_rivals, is_skipped, conflicts, is_verifying, standing_good, all_standing, has_conflict}
use Rattle.model_audit.specs.Rebuilt.{call_for, rebuilt, rebuilt_entry}
use Rattle.simplex_conflicts.specs.declared.index.Index.{Index}
use Rattle.simplex_conflicts.specs.declared.standing.Standing.{Standing}
use Rattle.simplex_conflicts.specs.Indexes.{Indexes, is_named_rival, is_named_across, is_final_at, is_nullified_at}
use Rattle.simplex_conflicts.specs.Standing.{Knows, TakesIn, StandsFor, do_conflict, good_of, in_call}
use Rattle.simplex_conflicts.proofs.Tests.{same_answer, or_false, any_same, any_either, any_map, any_never, any_turned}

-- ---- a conflict is one the other way round, and nothing conflicts with itself

rivals_turned : (p q : Proposal) → are_rivals p q ≡ are_rivals q p
rivals_turned p q =
    ap (λ (t : Bool). t && not (is_same_proposal p q)) (numbers (view_of p) (view_of q))
    ∙ ap (λ (t : Bool). (view_of q == view_of p) && not t) (same p q)
  where
    numbers : (m n : ℕ) → (m == n) ≡ (n == m)
    numbers m n = same_answer (m == n) (n == m) (λ e. eq-eqb n m (sym (eqb-true m n e))) (λ e. eq-eqb m n (sym (eqb-true n m e)))

    turned : (p q : Proposal) → is_same_proposal p q ≡ true → is_same_proposal q p ≡ true
    turned p q e = ap (λ (x : Proposal). is_same_proposal q x) (proposals_same p q e) ∙ proposal_itself q

    same : (p q : Proposal) → is_same_proposal p q ≡ is_same_proposal q p
    same p q = same_answer (is_same_proposal p q) (is_same_proposal q p) (turned p q) (turned q p)

or_turned : (a b : Bool) → (a || b) ≡ (b || a)
or_turned true true = refl
or_turned true false = refl
or_turned false true = refl
or_turned false false = refl

conflicts_turned : (length : ℕ) (s t : Subject) → conflicts length s t ≡ conflicts length t s
conflicts_turned length (Notarize p) (Notarize q) = rivals_turned p q
conflicts_turned length (Notarize p) (Nullify r) = refl
conflicts_turned length (Notarize p) (Finalize q) = ap (λ (t : Bool). t || is_skipped q p) (rivals_turned p q)
conflicts_turned length (Nullify r) (Notarize q) = refl
conflicts_turned length (Nullify r) (Nullify s) = refl
conflicts_turned length (Nullify r) (Finalize q) = refl
conflicts_turned length (Finalize p) (Notarize q) = ap (λ (t : Bool). t || is_skipped p q) (rivals_turned p q)
conflicts_turned length (Finalize p) (Nullify s) = refl
conflicts_turned length (Finalize p) (Finalize q) =
    ap (λ (t : Bool). t || (is_skipped p q || is_skipped q p)) (rivals_turned p q)
    ∙ ap (λ (t : Bool). are_rivals q p || t) (or_turned (is_skipped p q) (is_skipped q p))

no_rival : (p : Proposal) → are_rivals p p ≡ false
no_rival p =
    ap (λ (t : Bool). t && not (is_same_proposal p p)) (eq-eqb (view_of p) (view_of p) refl) ∙ ap not (proposal_itself p)

not_skipped : (p : Proposal) → is_skipped p p ≡ false
not_skipped p = first (nat_lt (view_of p) (view_of p)) (nat_lt p.parent (view_of p)) (λ e. (let lt = ltb-true (view_of p) (view_of p) e in omega arith))
  where
    first : (a b : Bool) → (a ≡ true → ⊥) → (a && b) ≡ false
    first true b never_so = absurd (never_so refl)
    first false b never_so = refl

no_conflict : (length : ℕ) (s : Subject) → conflicts length s s ≡ false
no_conflict length (Notarize p) = no_rival p
no_conflict length (Nullify r) = refl
no_conflict length (Finalize p) =
    ap (λ (t : Bool). t || (is_skipped p p || is_skipped p p)) (no_rival p) ∙ ap (λ (t : Bool). t || t) (not_skipped p)

-- ---- conflicts of two lists

module _ {X : Type 0} (clash : X → X → Bool) (turned : (x y : X) → clash x y ≡ clash y x) where
  -- one of the first with another of them, or with one of the second
  abbrev among : List X → List X → Bool
  among here known = list_any (λ x. list_any (clash x) (here ++ known)) here

  crossed : (xs ys : List X) → list_any (λ x. list_any (clash x) ys) xs ≡ list_any (λ y. list_any (clash y) xs) ys
  crossed [] ys = sym (any_never ys)
  crossed (x ∷ xs) ys =
      ap (λ (t : Bool). list_any (clash x) ys || t) (crossed xs ys)
      ∙ ap (λ (t : Bool). t || list_any (λ y. list_any (clash y) xs) ys) (any_same (clash x) (λ y. clash y x) (turned x) ys)
      ∙ sym (any_either (λ y. clash y x) (λ y. list_any (clash y) xs) ys)

  -- over three lists that are joined
  tripled : (here a b c : List X) → list_any (λ x. list_any (clash x) ((a ++ b) ++ c)) here
      ≡ ((list_any (λ x. list_any (clash x) a) here || list_any (λ x. list_any (clash x) b) here) || list_any (λ x. list_any (clash x) c) here)
  tripled here a b c =
      any_same (λ x. list_any (clash x) ((a ++ b) ++ c)) (λ x. (list_any (clash x) a || list_any (clash x) b) || list_any (clash x) c)
      (λ x. list_any-append (clash x) (a ++ b) c ∙ ap (λ (t : Bool). t || list_any (clash x) c) (list_any-append (clash x) a b)) here
      ∙ any_either (λ x. list_any (clash x) a || list_any (clash x) b) (λ x. list_any (clash x) c) here
      ∙ ap (λ (t : Bool). t || list_any (λ x. list_any (clash x) c) here) (any_either (λ x. list_any (clash x) a) (λ x. list_any (clash x) b) here)

  doubled : (here a b : List X) → list_any (λ x. list_any (clash x) (a ++ b)) here
      ≡ (list_any (λ x. list_any (clash x) a) here || list_any (λ x. list_any (clash x) b) here)
  doubled here a b =
      any_same (λ x. list_any (clash x) (a ++ b)) (λ x. list_any (clash x) a || list_any (clash x) b) (λ x. list_any-append (clash x) a b) here
      ∙ any_either (λ x. list_any (clash x) a) (λ x. list_any (clash x) b) here

  sorted : (a s k b c : Bool) → (((a || s) || k) || ((s || b) || c)) ≡ ((a || k) || (b || (s || c)))
  sorted true s k b c = refl
  sorted false true true b c = refl
  sorted false true false true c = refl
  sorted false true false false c = refl
  sorted false false true b c = refl
  sorted false false false true c = refl
  sorted false false false false c = refl

  -- first some of them, then the others behind these
  pub in_turn : (a b known : List X) → among (a ++ b) known ≡ (among a known || among b (a ++ known))
  in_turn a b known =
      let in_a = λ (ys : List X). list_any (λ x. list_any (clash x) ys) a in
      let in_b = λ (ys : List X). list_any (λ x. list_any (clash x) ys) b in
      list_any-append (λ x. list_any (clash x) ((a ++ b) ++ known)) a b
      ∙ ap (λ (t : Bool). t || in_b ((a ++ b) ++ known)) (tripled a a b known)
      ∙ ap (λ (t : Bool). ((in_a a || in_a b) || in_a known) || t) (tripled b a b known)
      ∙ ap (λ (t : Bool). ((in_a a || t) || in_a known) || ((in_b a || in_b b) || in_b known)) (crossed a b)
      ∙ sorted (in_a a) (in_b a) (in_a known) (in_b b) (in_b known)
      ∙ ap (λ (t : Bool). t || (in_b b || (in_b a || in_b known))) (sym (doubled a a known))
      ∙ ap (λ (t : Bool). in_a (a ++ known) || (in_b b || t)) (sym (doubled b a known))
      ∙ ap (λ (t : Bool). in_a (a ++ known) || t) (sym (doubled b b (a ++ known)))

-- ---- certificates

clash_of : Setup → Certificate → Certificate → Bool
clash_of setup a b = conflicts setup.term (certificate_subject a) (certificate_subject b)

in_two : (setup : Setup) (a b known : List Certificate) → do_conflict setup (a ++ b) known ≡ (do_conflict setup a known || do_conflict setup b (a ++ known))
unfolding do_conflict clash_of
in_two setup = in_turn (clash_of setup) (λ a b. conflicts_turned setup.term (certificate_subject a) (certificate_subject b))

none_here : (setup : Setup) (known : List Certificate) → do_conflict setup [] known ≡ false
unfolding do_conflict
none_here setup known = refl

one_here : (setup : Setup) (c : Certificate) (known : List Certificate)
    → do_conflict setup (c ∷ []) known ≡ list_any (conflicts setup.term (certificate_subject c)) (map certificate_subject known)
unfolding do_conflict
one_here setup c known =
    let subject = certificate_subject c in
    or_false (conflicts setup.term subject subject || list_any (λ b. conflicts setup.term subject (certificate_subject b)) known)
    ∙ ap (λ (t : Bool). t || list_any (λ b. conflicts setup.term subject (certificate_subject b)) known) (no_conflict setup.term subject)
    ∙ sym (any_map certificate_subject (conflicts setup.term subject) known)

-- ---- what is known, in any order

indexes_same : (index : Index) (a b : List Subject) → ((f : Subject → Bool) → list_any f a ≡ list_any f b) → Indexes index a → Indexes index b
indexes_same index a b same knows = record {
  some_length = knows.some_length;
  named_are = λ p. knows.named_are p ∙ same (is_named_rival p);
  finals_are = λ view. knows.finals_are view ∙ same (is_final_at view);
  nullified_are = λ view. knows.nullified_are view ∙ same (is_nullified_at view);
  stairs_are = record {
    rises = knows.stairs_are.rises;
    each = λ a b view e below above. sym (same (is_named_across view)) ∙ knows.stairs_are.each a b view e below above;
    some = λ view e. knows.stairs_are.some view (same (is_named_across view) ∙ e);
  };
}

knows_turned : (standing : Standing) (setup : Setup) (a b c : List Certificate) → Knows standing setup (b ++ (a ++ c)) → Knows standing setup ((a ++ b) ++ c)
knows_turned standing setup a b c knows = record {
  base = knows.base;
  members = knows.members;
  length = knows.length;
  index = indexes_same standing.index (map certificate_subject (b ++ (a ++ c))) (map certificate_subject ((a ++ b) ++ c)) same knows.index;
}
  where
    same : (f : Subject → Bool) → list_any f (map certificate_subject (b ++ (a ++ c))) ≡ list_any f (map certificate_subject ((a ++ b) ++ c))
    same f =
        any_map certificate_subject f (b ++ (a ++ c)) ∙ any_turned (λ x. f (certificate_subject x)) b a c
        ∙ sym (any_map certificate_subject f ((a ++ b) ++ c))

-- ---- taking some, and then others

pub takes_none : (standing : Standing) → TakesIn standing standing [] false
takes_none standing = record {
  answers = λ setup known knows. sym (none_here setup known);
  stands = λ e setup known knows. knows;
}

pub takes_nothing : (standing : Standing) (here : List Certificate) → here ≡ [] → TakesIn standing standing here false
takes_nothing standing here none = subst (λ (list : List Certificate). TakesIn standing standing list false) (sym none) (takes_none standing)

pub takes_more : (a b c : Standing) (xs ys : List Certificate) (conflict : Bool) → TakesIn a b xs false → TakesIn b c ys conflict
    → TakesIn a c (xs ++ ys) conflict
takes_more a b c xs ys conflict first second = record {
  answers = λ setup known knows.
      second.answers setup (good_of setup xs ++ known) (first.stands refl setup known knows)
      ∙ ap (λ (t : Bool). t || do_conflict setup (good_of setup ys) (good_of setup xs ++ known)) (first.answers setup known knows)
      ∙ sym (in_two setup (good_of setup xs) (good_of setup ys) known)
      ∙ ap (λ (here : List Certificate). do_conflict setup here known) (sym (filter-append (is_verifying setup) xs ys));
  stands = λ none setup known knows.
      subst (λ (here : List Certificate). Knows c setup (here ++ known)) (sym (filter-append (is_verifying setup) xs ys))
      (knows_turned c setup (good_of setup xs) (good_of setup ys) known
      (second.stands none setup (good_of setup xs ++ known) (first.stands refl setup known knows)));
}

-- where a conflict was found, what follows does not matter
pub takes_end : (a b c : Standing) (xs ys : List Certificate) → TakesIn a b xs true → TakesIn a c (xs ++ ys) true
takes_end a b c xs ys first = record {
  answers = λ setup known knows.
      ap (λ (t : Bool). t || do_conflict setup (good_of setup ys) (good_of setup xs ++ known)) (first.answers setup known knows)
      ∙ sym (in_two setup (good_of setup xs) (good_of setup ys) known)
      ∙ ap (λ (here : List Certificate). do_conflict setup here known) (sym (filter-append (is_verifying setup) xs ys));
  stands = λ none. absurd (cc);
}

-- ---- taking one

verifies_so : (standing : Standing) (setup : Setup) (known : List Certificate) (c : Certificate) (subject : Subject) (signatures : List Attestation)
    → certificate_subject c ≡ subject → certificate_signatures c ≡ signatures → Knows standing setup known
    → is_certified (keyed_verifies standing.scheme.key_base standing.scheme.participants subject) standing.scheme.participants signatures ≡ is_verifying setup c
verifies_so standing setup known c subject signatures says has knows =
    same standing.scheme.key_base setup.key_base standing.scheme.participants (members_of setup)
    subject (certificate_subject c) signatures (certificate_signatures c)
    knows.base knows.members (sym says) (sym has)
  where
    same : (base base' n n' : ℕ) (s s' : Subject) (all all' : List Attestation) → base ≡ base' → n ≡ n' → s ≡ s' → all ≡ all'
        → is_certified (keyed_verifies base n s) n all ≡ is_certified (keyed_verifies base' n' s') n' all'
    same base base' n n' s s' all all' e f g h = rw (e, f, g, h) refl

good_none : (setup : Setup) (c : Certificate) → is_verifying setup c ≡ false → good_of setup (c ∷ []) ≡ []
good_none setup c bad = rw bad refl

good_one : (setup : Setup) (c : Certificate) → is_verifying setup c ≡ true → good_of setup (c ∷ []) ≡ c ∷ []
good_one setup c good = rw good refl

-- one that does not verify
pub takes_bad : (standing : Standing) (c : Certificate) (subject : Subject) (signatures : List Attestation)
    → is_certified (keyed_verifies standing.scheme.key_base standing.scheme.participants subject) standing.scheme.participants signatures ≡ false
    → certificate_subject c ≡ subject → certificate_signatures c ≡ signatures → TakesIn standing standing (c ∷ []) false
takes_bad standing c subject signatures bad says has = record {
  answers = λ setup known knows.
      sym (ap (λ (here : List Certificate). do_conflict setup here known) (fails setup known knows) ∙ none_here setup known);
  stands = λ none setup known knows. subst (λ (here : List Certificate). Knows standing setup (here ++ known)) (sym (fails setup known knows)) knows;
}
  where
    fails : (setup : Setup) (known : List Certificate) → Knows standing setup known → good_of setup (c ∷ []) ≡ []
    fails setup known knows = good_none setup c (sym (verifies_so standing setup known c subject signatures says has knows) ∙ bad)

module _ (standing : Standing) (c : Certificate) (subject : Subject) (signatures : List Attestation) (conflict : Bool)
    (good : is_certified (keyed_verifies standing.scheme.key_base standing.scheme.participants subject) standing.scheme.participants signatures ≡ true)
    (asked : (known : List Subject) → Indexes standing.index known → conflict ≡ list_any (conflicts standing.index.length subject) known)
    (says : certificate_subject c ≡ subject) (has : certificate_signatures c ≡ signatures) where
  passes : (setup : Setup) (known : List Certificate) → Knows standing setup known → good_of setup (c ∷ []) ≡ c ∷ []
  passes setup known knows = good_one setup c (sym (verifies_so standing setup known c subject signatures says has knows) ∙ good)

  answered : (setup : Setup) (known : List Certificate) → Knows standing setup known → conflict ≡ do_conflict setup (good_of setup (c ∷ [])) known
  answered setup known knows =
      asked (map certificate_subject known) knows.index
      ∙ same standing.index.length setup.term subject (certificate_subject c) knows.length (sym says) (map certificate_subject known)
      ∙ sym (one_here setup c known)
      ∙ ap (λ (here : List Certificate). do_conflict setup here known) (sym (passes setup known knows))
    where
      same : (m n : ℕ) (s t : Subject) → m ≡ n → s ≡ t → (known : List Subject) → list_any (conflicts m s) known ≡ list_any (conflicts n t) known
      same m n s t e f known = rw (e, f) refl

  -- where it does not conflict it is kept
  pub takes_good : (new : Standing) → new.scheme ≡ standing.scheme → new.index.length ≡ standing.index.length
      → (conflict ≡ false → (known : List Subject) → Indexes standing.index known → Indexes new.index (subject ∷ known))
      → TakesIn standing new (c ∷ []) conflict
  takes_good new scheme length kept = record {
    answers = answered;
    stands = λ none setup known knows.
        subst (λ (here : List Certificate). Knows new setup (here ++ known)) (sym (passes setup known knows)) (record {
          base = ap (λ keyed. keyed.key_base) scheme ∙ knows.base;
          members = ap (λ keyed. keyed.participants) scheme ∙ knows.members;
          length = length ∙ knows.length;
          index = subst (λ (s : Subject). Indexes new.index (s ∷ map certificate_subject known)) (sym says)
              (kept none (map certificate_subject known) knows.index);
        });
  }

-- the same in other words
cast : (a b : Standing) (xs ys : List Certificate) (s t : Bool) → xs ≡ ys → s ≡ t → TakesIn a b xs s → TakesIn a b ys t
cast a b xs ys s t e f takes =
    subst (λ (u : Bool). TakesIn a b ys u) f (subst (λ (here : List Certificate). TakesIn a b here s) e takes)

-- ---- taking those of a list, one after another

flat_next : {X : Type 0} (f : X → List Certificate) (xs : List X) (i : ℕ) (x : X) → i < length xs → x ≡ get_or xs i x
    → flat_map f (take (i + 1) xs) ≡ flat_map f (take i xs) ++ f x
flat_next f xs i x lt is =
    ap (flat_map f) (take_more xs i x lt) ∙ flat_map-append f (take i xs) (get_or xs i x ∷ [])
    ∙ ap (λ (t : List Certificate). flat_map f (take i xs) ++ t) (append-nil (f (get_or xs i x)) ∙ ap f (sym is))

flat_rest : {X : Type 0} (f : X → List Certificate) (xs : List X) (i : ℕ) → flat_map f xs ≡ flat_map f (take i xs) ++ flat_map f (drop i xs)
flat_rest f xs i = ap (flat_map f) (sym (take-append-drop i xs)) ∙ flat_map-append f (take i xs) (drop i xs)

module _ {X : Type 0} (f : X → List Certificate) (xs : List X) (i : ℕ) where
  pub list_more : (x : X) → i < length xs → x ≡ get_or xs i x → (a b c : Standing) → TakesIn a b (flat_map f (take i xs)) false
      → (conflict : Bool) → conflict ≡ false → TakesIn b c (f x) conflict → TakesIn a c (flat_map f (take (i + 1) xs)) false
  list_more x lt is a b c first conflict none second =
      cast a c (flat_map f (take i xs) ++ f x) (flat_map f (take (i + 1) xs)) conflict false (sym (flat_next f xs i x lt is)) none
      (takes_more a b c (flat_map f (take i xs)) (f x) conflict first second)

  pub list_stop : (x : X) → i < length xs → x ≡ get_or xs i x → (a b c : Standing) → TakesIn a b (flat_map f (take i xs)) false
      → (conflict : Bool) → conflict ≡ true → TakesIn b c (f x) conflict → TakesIn a c (flat_map f xs) true
  list_stop x lt is a b c first conflict found second =
      subst (λ (here : List Certificate). TakesIn a c here true) (sym (flat_rest f xs (i + 1)))
      (takes_end a c c (flat_map f (take (i + 1) xs)) (flat_map f (drop (i + 1) xs))
      (cast a c (flat_map f (take i xs) ++ f x) (flat_map f (take (i + 1) xs)) conflict true (sym (flat_next f xs i x lt is)) found
      (takes_more a b c (flat_map f (take i xs)) (f x) conflict first second)))

  pub list_end : length xs ≤ i → (a b : Standing) → TakesIn a b (flat_map f (take i xs)) false → TakesIn a b (flat_map f xs) false
  list_end le a b first = subst (λ (here : List Certificate). TakesIn a b here false) (ap (flat_map f) (take_all i xs le)) first

-- of certificates that stand by themselves
abbrev pub alone : Certificate → List Certificate
alone c = c ∷ []

pub all_alone : (xs : List Certificate) → flat_map alone xs ≡ xs
all_alone [] = refl
all_alone (x ∷ xs) = ap (λ (t : List Certificate). x ∷ t) (all_alone xs)

-- ---- an entry

calls_told : (calls : List AuditCall) → flat_map of_call (filter_map call_for calls) ≡ flat_map in_call calls
calls_told [] = refl
calls_told (audit.Append section artifact ∷ calls) = ap (λ (t : List Certificate). of_record artifact ++ t) (calls_told calls)
calls_told (audit.Sync section ∷ calls) = calls_told calls
calls_told (audit.Prune least ∷ calls) = calls_told calls
calls_told (audit.Send channel bytes ∷ calls) = calls_told calls
calls_told (audit.Report (certificates.Notarization c) ∷ calls) = ap (λ (t : List Certificate). certificates.Notarization c ∷ t) (calls_told calls)
calls_told (audit.Report (certificates.Nullification c) ∷ calls) = ap (λ (t : List Certificate). certificates.Nullification c ∷ t) (calls_told calls)
calls_told (audit.Report (certificates.Finalization c) ∷ calls) = ap (λ (t : List Certificate). certificates.Finalization c ∷ t) (calls_told calls)
calls_told (audit.Other ∷ calls) = calls_told calls

-- those that stand in an entry of a record
abbrev pub in_entry : AuditEntry → List Certificate
in_entry e = (e.added ++ flat_map in_call e.calls) ++ flat_map of_packet e.packets

entry_told : (e : AuditEntry) → standing_in (rebuilt_entry e) ≡ in_entry e
unfolding rebuilt_entry
entry_told e = rw (append-nil e.added, calls_told e.calls) refl

good_told : (setup : Setup) (e : AuditEntry) → standing_good setup (rebuilt_entry e) ≡ good_of setup (in_entry e)
unfolding standing_good
good_told setup e = ap (λ (here : List Certificate). good_of setup here) (entry_told e)

-- a conflict among those that were added, among those of calls, or none up to the packets
pub takes_first : (a b : Standing) (e : AuditEntry) (xs : List Certificate) (s : Bool) → xs ≡ e.added → s ≡ true → TakesIn a b xs s
    → TakesIn a b (in_entry e) true
takes_first a b e xs s is found takes =
    takes_end a b b (e.added ++ flat_map in_call e.calls) (flat_map of_packet e.packets)
    (takes_end a b b e.added (flat_map in_call e.calls) (cast a b xs e.added s true is found takes))

calls_joined : (a b c : Standing) (e : AuditEntry) (xs : List Certificate) (calls : List AuditCall) (s t : Bool) → xs ≡ e.added → calls ≡ e.calls
    → s ≡ false → TakesIn a b xs s → TakesIn b c (flat_map in_call calls) t → TakesIn a c (e.added ++ flat_map in_call e.calls) t
calls_joined a b c e xs calls s t is are nothing first second =
    takes_more a b c e.added (flat_map in_call e.calls) t (cast a b xs e.added s false is nothing first)
    (cast b c (flat_map in_call calls) (flat_map in_call e.calls) t t (ap (flat_map in_call) are) refl second)

pub takes_second : (a b c : Standing) (e : AuditEntry) (xs : List Certificate) (calls : List AuditCall) (s t : Bool) → xs ≡ e.added → calls ≡ e.calls
    → s ≡ false → t ≡ true → TakesIn a b xs s → TakesIn b c (flat_map in_call calls) t → TakesIn a c (in_entry e) true
takes_second a b c e xs calls s t is are nothing found first second =
    takes_end a c c (e.added ++ flat_map in_call e.calls) (flat_map of_packet e.packets)
    (cast a c (e.added ++ flat_map in_call e.calls) (e.added ++ flat_map in_call e.calls) t true refl found
    (calls_joined a b c e xs calls s t is are nothing first second))

pub takes_all : (a b c d : Standing) (e : AuditEntry) (xs : List Certificate) (calls : List AuditCall) (packets : List Packet) (s t u : Bool)
    → xs ≡ e.added → calls ≡ e.calls → packets ≡ e.packets → s ≡ false → t ≡ false → TakesIn a b xs s → TakesIn b c (flat_map in_call calls) t
    → TakesIn c d (flat_map of_packet packets) u → TakesIn a d (in_entry e) u
takes_all a b c d e xs calls packets s t u is are sent nothing none first second third =
    takes_more a c d (e.added ++ flat_map in_call e.calls) (flat_map of_packet e.packets) u
    (cast a c (e.added ++ flat_map in_call e.calls) (e.added ++ flat_map in_call e.calls) t false refl none
    (calls_joined a b c e xs calls s t is are nothing first second))
    (cast c d (flat_map of_packet packets) (flat_map of_packet e.packets) u u (ap (flat_map of_packet) sent) refl third)

pub entry_answered : (old new : Standing) (e : AuditEntry) (conflict : Bool) → TakesIn old new (in_entry e) conflict
    → (setup : Setup) (before : List Noted) → StandsFor old setup before → conflict ≡ has_conflict setup before (rebuilt_entry e)
unfolding has_conflict do_conflict
entry_answered old new e conflict takes setup before stands =
    takes.answers setup (all_standing setup before) stands
    ∙ ap (λ (here : List Certificate). do_conflict setup here (all_standing setup before)) (sym (good_told setup e))

pub entry_stands : (old new : Standing) (e : AuditEntry) (conflict : Bool) → TakesIn old new (in_entry e) conflict → conflict ≡ false
    → (setup : Setup) (before : List Noted) (event : Event) → StandsFor old setup before → StandsFor new setup (rebuilt event e ∷ before)
unfolding all_standing
entry_stands old new e conflict takes none setup before event stands =
    subst (λ (here : List Certificate). Knows new setup (here ++ all_standing setup before)) (sym (good_told setup e))
    (takes.stands none setup (all_standing setup before) stands)
