-- What a start makes of the records of its journal.
use Rattle.simplex_types.specs.declared.cause.BlockCause.TheVariants.{LeaderConflict}
use Rattle.std.proofs.Common.{◌≡◌, ℕ, ◌<◌, ◌||◌, Bool, true, false, max, nat_lt, nat_le, List, [], ◌∷◌, ◌++◌, map, filter, Contains, Option, Some, None, refl, sym, ap, ◌∙◌, subst, arith, append-nil, append_assoc, if◌then◌else◌}
use Rattle.std.specs.List.{list_any}
use Rattle.std.proofs.lemmas.Bool.Decides.{nat_tests}
use Rattle.std.proofs.lemmas.Grind.{common_steps}
use Rattle.std.proofs.lemmas.List.{map-append}
use Rattle.simplex_values.specs.declared.timeout.TimeoutReason.TheVariants.{FailedCertification}
use Rattle.simplex_wire.specs.declared.vote.Vote.TheVariants as votes
use Rattle.simplex_wire.specs.declared.vote.Nullify.{Nullify}
use Rattle.simplex_wire.specs.declared.certificate.Certificate.{Certificate}
use Rattle.simplex_wire.specs.declared.certificate.Certificate.TheVariants as certificates
use Rattle.simplex_wire.specs.declared.certificate.Notarization.{Notarization}
use Rattle.simplex_wire.specs.declared.artifact.Artifact.{Artifact}
use Rattle.simplex_wire.specs.declared.artifact.Artifact.TheVariants as artifacts
use Rattle.simplex_wire.specs.declared.certificate.CertificateKind.{CertificateKind}
use Rattle.simplex_wire.specs.Fields.{artifact_round}
use Rattle.simplex_types.specs.declared.activity.Activity.{Activity}
use Rattle.model_rules.specs.Known.{Made, Fact, Added, Judged, Voted, Broadcast}
use Rattle.model_rules.specs.Deadline.{triggered}
use Rattle.model_rules.specs.Calls as state
use Rattle.model_rules.specs.Calls.{facts_of, replay_facts, replay_answer, judged, takes_verdict, certified_answer}
use Rattle.simplex_journal.specs.Journal.{Section, replayed}
use Rattle.simplex_messages.specs.declared.call.Call.{Call}
use Rattle.simplex_messages.specs.declared.call.Call.TheVariants as calls
use Rattle.model_steps.specs.Desk.{Doing, tell}
use Rattle.model_steps.specs.Voter.{activity_of, certificate_in, report_if, updated_if, block_for, replay_verdict, replay_record, replay_all, is_final_from}
use Rattle.law_agreement.proofs.ListFacts.{Contains-here, Contains-there}
use Rattle.law_agreement.specs.Artifacts as member
use Rattle.law_agreement.specs.Journal as kept
use Rattle.law_member.specs.Life.{statement_of, memory_of, remembered, section_of, journal_of, IsInOrder}
use Rattle.law_member.proofs.LifeVoting.{taken_is}
use Rattle.law_member.proofs.Facts.{one_more, quiet_memory, quiet_order}
use Rattle.law_member.proofs.LifeActing.{judged_taken, judged_left, failing_quiet, taken_has}
use Rattle.law_member.proofs.Journals.{memory_view}
use Rattle.law_member.proofs.Publishing.{remembered_push}
use Rattle.law_member.proofs.Simulating.{IsPlain}

-- ---- the records that are kept

none_left : {X : Type 0} (xs ys : List X) → xs ++ ys ≡ [] → (xs ≡ []) × (ys ≡ [])
none_left [] ys e = (refl, e)
none_left (x ∷ xs) ys e = cc

map_none : (xs : List Artifact) → map memory_of xs ≡ [] → xs ≡ []
map_none [] e = refl
map_none (x ∷ xs) e = cc

pub kept_is : (js : List Section) → kept.waiting (journal_of js) ≡ [] → kept.kept (journal_of js) ≡ map memory_of (replayed js)
unfolding journal_of replayed
kept_is [] e = refl
kept_is (s ∷ rest) e =
    let p = none_left (map memory_of s.pending) (kept.waiting (map section_of rest)) e in
    let none = map_none s.pending p.0 in
    ap (λ xs. map memory_of s.synced ++ xs) (kept_is rest p.1)
    ∙ sym (map-append memory_of s.synced (replayed rest))
    ∙ ap (λ xs. map memory_of (xs ++ replayed rest)) (sym (append-nil s.synced) ∙ ap (λ xs. s.synced ++ xs) (sym none))

-- whether the floor is among them
final_here : (view : ℕ) (a : Artifact) → 0 < view → is_final_from view a ≡ nat_le view (member.finalized_view (memory_of a))
final_here view (artifacts.Finalization f) pos = refl
final_here view (artifacts.Notarize v) pos = grind (arith, nat_tests, pos)
final_here view (artifacts.Nullify v) pos = grind (arith, nat_tests, pos)
final_here view (artifacts.Finalize v) pos = grind (arith, nat_tests, pos)
final_here view (artifacts.Notarization v) pos = grind (arith, nat_tests, pos)
final_here view (artifacts.Nullification v) pos = grind (arith, nat_tests, pos)
final_here view (artifacts.Certification r good) pos = grind (arith, nat_tests, pos)

le_max : (view a b : ℕ) → nat_le view (max a b) ≡ (nat_le view a || nat_le view b)
le_max view a b = grind (arith, nat_tests, common_steps)

pub final_among : (view : ℕ) (rs : List Artifact) → 0 < view → list_any (is_final_from view) rs ≡ nat_le view (member.last_finalized (map memory_of rs))
final_among view [] pos = grind (arith, nat_tests, common_steps, pos)
final_among view (a ∷ rest) pos =
    ap (λ b. b || list_any (is_final_from view) rest) (final_here view a pos)
    ∙ ap (λ b. nat_le view (member.finalized_view (memory_of a)) || b) (final_among view rest pos)
    ∙ sym (le_max view (member.finalized_view (memory_of a)) (member.last_finalized (map memory_of rest)))

-- ---- one record

-- one record is known as the member takes it
pub record IsReplayed (made : Made) (before after : List Fact) (a : Artifact) : Type 0 where
  pub memory : remembered after ≡ (if member.is_taken (remembered before) (memory_of a) then remembered before ++ memory_of a ∷ [] else remembered before)
  pub order : IsInOrder made before → IsInOrder made after

abbrev pub epoch_kept : Made → Artifact → Type 0
epoch_kept made (artifacts.Nullify v) = v.round.epoch ≡ made.epoch
epoch_kept made _ = Unit {0}

certificate_replayed : (made : Made) (known : List Fact) (a : Artifact) (c : Certificate) (kind : CertificateKind) (view now : ℕ) → memory_of a ≡ member.Proved (statement_of c)
    → IsReplayed made known (Broadcast kind view ∷ Added c now ∷ known) a
certificate_replayed made known a c kind view now e =
    record {
      memory = quiet_memory (Broadcast kind view ∷ []) (Added c now ∷ known) (refl, tt) ∙ remembered_push (Added c now) known
          ∙ ap (λ x. if member.is_taken (remembered known) x then remembered known ++ x ∷ [] else remembered known) (sym e);
      order = λ o. quiet_order made (Broadcast kind view ∷ []) (Added c now ∷ known) (refl, tt) (one_more made known (Added c now) tt o);
    }

pub verdict_replayed : (made : Made) (known : List Fact) (view : ℕ) (good : Bool) (now : ℕ) (t : Bool) → takes_verdict known view ≡ t
    → (remembered (judged made known view good now ++ known) ≡ (if t then remembered known ++ member.Judged view good ∷ [] else remembered known))
    × (IsInOrder made known → IsInOrder made (judged made known view good now ++ known))
verdict_replayed made known view good now true e =
    let extra = if good then [] else triggered made known view FailedCertification now in
    let quiet = failing_quiet made known view good now in
    let fact = Judged view good now in
    let same : judged made known view good now ++ known ≡ extra ++ (fact ∷ known) = ap (λ xs. xs ++ known) (judged_taken made known view good now e) ∙ append_assoc extra (fact ∷ []) known in (
      ap remembered same ∙ quiet_memory extra (fact ∷ known) quiet ∙ remembered_push fact known,
      λ o. subst (IsInOrder made) (sym same) (quiet_order made extra (fact ∷ known) quiet (one_more made known fact (taken_has known view e) o)),
    )
verdict_replayed made known view good now false e =
    let same : judged made known view good now ++ known ≡ known = ap (λ xs. xs ++ known) (judged_left made known view good now e) in
    (ap remembered same, λ o. subst (IsInOrder made) (sym same) o)

pub facts_replayed : (made : Made) (known : List Fact) (a : Artifact) (now : ℕ) → epoch_kept made a → IsReplayed made known (replay_facts made known a now ++ known) a
facts_replayed made known (artifacts.Notarize v) now own = record { memory = remembered_push (Voted (votes.Notarize v)) known; order = λ o. one_more made known (Voted (votes.Notarize v)) tt o }
facts_replayed made known (artifacts.Nullify v) now own = record { memory = remembered_push (Voted (votes.Nullify v)) known; order = λ o. one_more made known (Voted (votes.Nullify v)) own o }
facts_replayed made known (artifacts.Finalize v) now own = record { memory = remembered_push (Voted (votes.Finalize v)) known; order = λ o. one_more made known (Voted (votes.Finalize v)) tt o }
facts_replayed made known (artifacts.Notarization c) now own = certificate_replayed made known (artifacts.Notarization c) (certificates.Notarization c) _ _ now refl
facts_replayed made known (artifacts.Nullification c) now own = certificate_replayed made known (artifacts.Nullification c) (certificates.Nullification c) _ _ now refl
facts_replayed made known (artifacts.Finalization c) now own = certificate_replayed made known (artifacts.Finalization c) (certificates.Finalization c) _ _ now refl
facts_replayed made known (artifacts.Certification r good) now own =
    let v = verdict_replayed made known r.view good now (takes_verdict known r.view) refl in
    record {
      memory = v.0 ∙ ap (λ t. if t then remembered known ++ member.Judged r.view good ∷ [] else remembered known) (sym (taken_is known r.view good));
      order = v.1;
    }

-- ---- the calls of a start before it keeps its floor

abbrev pub AllPlain : List Call → Type 0
AllPlain [] = Unit {0}
AllPlain (c ∷ rest) = IsPlain c × AllPlain rest

pub AllPlain-append : (xs ys : List Call) → AllPlain xs → AllPlain ys → AllPlain (xs ++ ys)
AllPlain-append [] ys p q = q
AllPlain-append (x ∷ xs) ys p q = (p.0, AllPlain-append xs ys p.1 q)

block_plain : (o : Option ℕ) (d : Doing) → AllPlain d.calls → AllPlain (block_for o d).calls
block_plain None d p = p
block_plain (Some leader) d p = AllPlain-append d.calls (calls.Block leader LeaderConflict ∷ []) p (tt, tt)

report_plain : (o : Option Activity) (d : Doing) → AllPlain d.calls → AllPlain (report_if o d).calls
report_plain None d p = p
report_plain (Some activity) d p = AllPlain-append d.calls (calls.Report activity ∷ []) p (tt, tt)

updated_plain : (o : Option Certificate) (d : Doing) → AllPlain d.calls → AllPlain (updated_if o d).calls
updated_plain None d p = p
updated_plain (Some c) d p = p

block_known : (o : Option ℕ) (d : Doing) → (block_for o d).desk.known ≡ d.desk.known
block_known None d = refl
block_known (Some leader) d = refl

report_known : (o : Option Activity) (d : Doing) → (report_if o d).desk.known ≡ d.desk.known
report_known None d = refl
report_known (Some activity) d = refl

updated_known : (o : Option Certificate) (d : Doing) → (updated_if o d).desk.known ≡ d.desk.known
updated_known None d = refl
updated_known (Some c) d = refl

verdict_plain : (good : Bool) (o : Option Notarization) (d : Doing) → AllPlain d.calls → AllPlain (replay_verdict good o d).calls
verdict_plain good None d p = p
verdict_plain true (Some n) d p = AllPlain-append d.calls (calls.Report _ ∷ []) p (tt, tt)
verdict_plain false (Some n) d p = p

verdict_known : (good : Bool) (o : Option Notarization) (d : Doing) → (replay_verdict good o d).desk.known ≡ d.desk.known
verdict_known good None d = refl
verdict_known true (Some n) d = refl
verdict_known false (Some n) d = refl

-- a record that is no verdict
told_on : Made → ℕ → Doing → Artifact → Doing
told_on made now d a = updated_if (certificate_in a) (report_if (activity_of a) (block_for (replay_answer made d.desk.known a) (tell made (state.Replay a now) d)))

told_plain : (made : Made) (now : ℕ) (d : Doing) (a : Artifact) → AllPlain d.calls → AllPlain (told_on made now d a).calls
unfolding told_on
told_plain made now d a p =
    updated_plain (certificate_in a) _ (report_plain (activity_of a) _ (block_plain (replay_answer made d.desk.known a) (tell made (state.Replay a now) d) p))

told_known : (made : Made) (now : ℕ) (d : Doing) (a : Artifact) → (told_on made now d a).desk.known ≡ facts_of made d.desk.known (state.Replay a now) ++ d.desk.known
unfolding told_on
told_known made now d a =
    updated_known (certificate_in a) _ ∙ report_known (activity_of a) _ ∙ block_known (replay_answer made d.desk.known a) (tell made (state.Replay a now) d)

record_plain : (made : Made) (now : ℕ) (d : Doing) (a : Artifact) → AllPlain d.calls → AllPlain (replay_record made now d a).calls
unfolding replay_record told_on
record_plain made now d (artifacts.Certification r good) p = verdict_plain good (certified_answer d.desk.known r.view) (tell made (state.Replay (artifacts.Certification r good) now) d) p
record_plain made now d (artifacts.Notarize v) p = told_plain made now d (artifacts.Notarize v) p
record_plain made now d (artifacts.Nullify v) p = told_plain made now d (artifacts.Nullify v) p
record_plain made now d (artifacts.Finalize v) p = told_plain made now d (artifacts.Finalize v) p
record_plain made now d (artifacts.Notarization v) p = told_plain made now d (artifacts.Notarization v) p
record_plain made now d (artifacts.Nullification v) p = told_plain made now d (artifacts.Nullification v) p
record_plain made now d (artifacts.Finalization v) p = told_plain made now d (artifacts.Finalization v) p

pub record_known : (made : Made) (now : ℕ) (d : Doing) (a : Artifact) → (replay_record made now d a).desk.known ≡ replay_facts made d.desk.known a now ++ d.desk.known
unfolding replay_record told_on facts_of
record_known made now d (artifacts.Certification r good) = verdict_known good (certified_answer d.desk.known r.view) (tell made (state.Replay (artifacts.Certification r good) now) d)
record_known made now d (artifacts.Notarize v) = told_known made now d (artifacts.Notarize v)
record_known made now d (artifacts.Nullify v) = told_known made now d (artifacts.Nullify v)
record_known made now d (artifacts.Finalize v) = told_known made now d (artifacts.Finalize v)
record_known made now d (artifacts.Notarization v) = told_known made now d (artifacts.Notarization v)
record_known made now d (artifacts.Nullification v) = told_known made now d (artifacts.Nullification v)
record_known made now d (artifacts.Finalization v) = told_known made now d (artifacts.Finalization v)

-- ---- all records

pub all_plain : (made : Made) (now floor : ℕ) (d : Doing) (rs : List Artifact) → AllPlain d.calls → AllPlain (replay_all made now floor d rs).calls
unfolding replay_all
all_plain made now floor d [] p = p
all_plain made now floor d (a ∷ rest) p =
    all_plain made now floor (if nat_lt floor (artifact_round a).view then replay_record made now d a else d) rest (at (nat_lt floor (artifact_round a).view))
  where
    at : (b : Bool) → AllPlain (if b then replay_record made now d a else d).calls
    at true = record_plain made now d a p
    at false = p

replayed_or_not : (made : Made) (now : ℕ) (d : Doing) (a : Artifact) (b : Bool) → epoch_kept made a
    → (remembered (if b then replay_record made now d a else d).desk.known
    ≡ (if b then (if member.is_taken (remembered d.desk.known) (memory_of a) then remembered d.desk.known ++ memory_of a ∷ [] else remembered d.desk.known) else remembered d.desk.known))
    × (IsInOrder made d.desk.known → IsInOrder made (if b then replay_record made now d a else d).desk.known)
replayed_or_not made now d a true own =
    let r = facts_replayed made d.desk.known a now own in
    let same = record_known made now d a in
    (ap remembered same ∙ r.memory, λ o. subst (IsInOrder made) (sym same) (r.order o))
replayed_or_not made now d a false own = (refl, λ o. o)

above_floor : ℕ → List member.Artifact → List member.Artifact
above_floor floor xs = filter (λ a. nat_lt floor (member.artifact_view a)) xs

replay_step : (known : List member.Artifact) (a : member.Artifact) (rest : List member.Artifact) (b : Bool)
    → member.replay (if b then (if member.is_taken known a then known ++ a ∷ [] else known) else known) rest ≡ member.replay known (if b then a ∷ rest else rest)
replay_step known a rest true = refl
replay_step known a rest false = refl

own_record : (made : Made) (a : Artifact) → ((v : Nullify) → a ≡ artifacts.Nullify v → v.round.epoch ≡ made.epoch) → epoch_kept made a
own_record made (artifacts.Nullify v) h = h v refl
own_record made (artifacts.Notarize v) h = tt
own_record made (artifacts.Finalize v) h = tt
own_record made (artifacts.Notarization v) h = tt
own_record made (artifacts.Nullification v) h = tt
own_record made (artifacts.Finalization v) h = tt
own_record made (artifacts.Certification r good) h = tt

pub all_replayed : (made : Made) (now floor : ℕ) (d : Doing) (rs : List Artifact) → ((v : Nullify) → Contains rs (artifacts.Nullify v) → v.round.epoch ≡ made.epoch)
    → (remembered (replay_all made now floor d rs).desk.known ≡ member.replay (remembered d.desk.known) (filter (λ a. nat_lt floor (member.artifact_view a)) (map memory_of rs)))
    × (IsInOrder made d.desk.known → IsInOrder made (replay_all made now floor d rs).desk.known)
unfolding replay_all
all_replayed made now floor d [] own = (refl, λ o. o)
all_replayed made now floor d (a ∷ rest) own =
    let b = nat_lt floor (artifact_round a).view in
    let next = if b then replay_record made now d a else d in
    let one = replayed_or_not made now d a b (own_record made a (λ v e. own v (subst (λ x. Contains (a ∷ rest) x) e (Contains-here a rest)))) in
    let later = all_replayed made now floor next rest (λ v c. own v (Contains-there a rest (artifacts.Nullify v) c)) in
    let rest' = filter (λ x. nat_lt floor (member.artifact_view x)) (map memory_of rest) in (
      later.0 ∙ ap (λ known. member.replay known rest') one.0 ∙ replay_step (remembered d.desk.known) (memory_of a) rest' b
          ∙ ap (λ v. member.replay (remembered d.desk.known) (if nat_lt floor v then memory_of a ∷ rest' else rest')) (sym (memory_view a)),
      λ o. later.1 (one.1 o),
    )
