-- What a voter says at the end of a step.
use Rattle.std.proofs.Common.{◌≡◌, ℕ, ◌-◌, ◌==◌, Bool, true, false, nat_lt, List, [], ◌∷◌, ◌++◌, map, Contains, Option, Some, None, refl, subst, inl, inr, if◌then◌else◌}
use Rattle.std.specs.Option.{option_map_or}
use Rattle.std.proofs.lemmas.List.Elements.{Contains-append_left, Contains-push}
use Rattle.simplex_values.specs.declared.plan.Channel.TheVariants as channels
use Rattle.simplex_values.specs.declared.plan.Recipients.TheVariants as recipients
use Rattle.simplex_wire.specs.declared.vote.Vote.{Vote}
use Rattle.simplex_wire.specs.declared.vote.Vote.TheVariants as votes
use Rattle.simplex_wire.specs.declared.vote.Notarize.{Notarize}
use Rattle.simplex_wire.specs.declared.vote.Nullify.{Nullify}
use Rattle.simplex_wire.specs.declared.vote.Finalize.{Finalize}
use Rattle.simplex_wire.specs.declared.certificate.Certificate.{Certificate}
use Rattle.simplex_wire.specs.declared.certificate.Certificate.TheVariants as certificates
use Rattle.simplex_wire.specs.declared.certificate.Notarization.{Notarization}
use Rattle.simplex_wire.specs.declared.certificate.Nullification.{Nullification}
use Rattle.simplex_wire.specs.declared.certificate.Finalization.{Finalization}
use Rattle.simplex_wire.specs.declared.artifact.Artifact.TheVariants as artifacts
use Rattle.simplex_wire.specs.Message as format
use Rattle.simplex_types.specs.declared.activity.Activity.TheVariants as activities
use Rattle.simplex_messages.specs.declared.call.Call.{Call}
use Rattle.simplex_messages.specs.declared.call.Call.TheVariants as calls
use Rattle.simplex_types.specs.declared.cause.BlockCause.TheVariants.{LeaderConflict}
use Rattle.simplex_messages.specs.declared.handed.Handed.{Handed}
use Rattle.simplex_messages.specs.declared.handed.Handed.TheVariants as handed
use Rattle.simplex_messages.specs.declared.batcher.Message.TheVariants as batcher
use Rattle.simplex_messages.specs.declared.resolver.MailboxMessage.TheVariants as resolver
use Rattle.model_rules.specs.Known.{Made, Fact, Added, Voted, notarization_in, notarization_of, nullification_in, nullification_of, finalization_in, finalization_of, view_of}
use Rattle.model_rules.specs.Views.{current_of}
use Rattle.model_rules.specs.Best.{forwardable_at}
use Rattle.model_rules.specs.Votes.{notarize_at, finalize_at}
use Rattle.model_rules.specs.Calls as state
use Rattle.model_rules.specs.Calls.{facts_of, unsent_notarization, unsent_nullification, unsent_finalization, prune_answer}
use Rattle.model_rules.specs.Pending.{Sought, reconciled, iterated}
use Rattle.model_steps.specs.Desk.{Doing, tell, make, hand, append, resolve_of, seek, send_vote, send_certificate, report}
use Rattle.model_steps.specs.Voter.{vote_notarize, vote_finalize, open_requests, sync, publish_verdict, publish_nullify, publish_notarization, publish_nullification, publish_finalization, with_certificate, update_message, update_batcher, end_of_step, prune_at, prune, begin_iteration}
use Rattle.law_agreement.proofs.ListFacts.{Contains-cons_cases}
use Rattle.law_member.proofs.Remembering.{first_some}
use Rattle.law_member.proofs.Facts.{SameMemory, told_quiet, IsQuiet, reconciled_same, iterated_same}
use Rattle.law_run.specs.Sayings.{Each, InCall, InMessage}

pub Each-append : {A : Type 0} (P : A → Type 0) (xs ys : List A) → Each P xs → Each P ys → Each P (xs ++ ys)
Each-append P [] ys p q = q
Each-append P (x ∷ xs) ys p q = (p.0, Each-append P xs ys p.1 q)

pub Each-map : {A B : Type 0} (P : B → Type 0) (f : A → B) (xs : List A) → ((a : A) → P (f a)) → Each P (map f xs)
Each-map P f [] e = tt
Each-map P f (x ∷ xs) e = (e x, Each-map P f xs e)

pub Each-weaker : {A : Type 0} (P Q : A → Type 0) → ((a : A) → P a → Q a) → (xs : List A) → Each P xs → Each Q xs
Each-weaker P Q f [] h = tt
Each-weaker P Q f (x ∷ xs) h = (f x h.0, Each-weaker P Q f xs h.1)

-- every certificate that is known is good
abbrev pub KnowsGood : (Certificate → Type 0) → List Fact → Type 0
KnowsGood Good facts = (c : Certificate) (now : ℕ) → Contains facts (Added c now) → Good c

pub same_good : (Good : Certificate → Type 0) (made : Made) (before after : List Fact) → SameMemory made before after → KnowsGood Good before → KnowsGood Good after
same_good Good made before after same k c now h = k c now (same.added c now h)

-- one more fact, which may be a certificate
pub push_good : (Good : Certificate → Type 0) (fact : Fact) (known : List Fact) → ((c : Certificate) (now : ℕ) → fact ≡ Added c now → Good c) → KnowsGood Good known → KnowsGood Good (fact ∷ known)
push_good Good fact known new k c now h =
    elim (Contains-cons_cases fact known (Added c now) h) [
      | inl same ↦ new c now same
      | inr old ↦ k c now old
    ]

-- ---- what is looked up

added_notarization : (view : ℕ) (fact : Fact) (n : Notarization) → notarization_in view fact ≡ Some n → (now : ℕ) × (fact ≡ Added (certificates.Notarization n) now)
added_notarization view (Added (certificates.Notarization m) now) n e = at (view_of m.proposal == view) e
  where
    at : (b : Bool) → (if b then Some m else None) ≡ Some n → (later : ℕ) × (Added (certificates.Notarization m) now ≡ Added (certificates.Notarization n) later)
    at true h = (now, cc)
    at false h = cc
added_notarization view _ n e = cc

added_nullification : (view : ℕ) (fact : Fact) (n : Nullification) → nullification_in view fact ≡ Some n → (now : ℕ) × (fact ≡ Added (certificates.Nullification n) now)
added_nullification view (Added (certificates.Nullification m) now) n e = at (m.round.view == view) e
  where
    at : (b : Bool) → (if b then Some m else None) ≡ Some n → (later : ℕ) × (Added (certificates.Nullification m) now ≡ Added (certificates.Nullification n) later)
    at true h = (now, cc)
    at false h = cc
added_nullification view _ n e = cc

added_finalization : (view : ℕ) (fact : Fact) (n : Finalization) → finalization_in view fact ≡ Some n → (now : ℕ) × (fact ≡ Added (certificates.Finalization n) now)
added_finalization view (Added (certificates.Finalization m) now) n e = at (view_of m.proposal == view) e
  where
    at : (b : Bool) → (if b then Some m else None) ≡ Some n → (later : ℕ) × (Added (certificates.Finalization m) now ≡ Added (certificates.Finalization n) later)
    at true h = (now, cc)
    at false h = cc
added_finalization view _ n e = cc

pub good_notarization : (Good : Certificate → Type 0) (known : List Fact) (view : ℕ) (n : Notarization) → KnowsGood Good known → notarization_of known view ≡ Some n
    → Good (certificates.Notarization n)
unfolding notarization_of
good_notarization Good known view n k e =
    let one = first_some (notarization_in view) known n e in
    let was = added_notarization view one.0 n one.2 in
    k (certificates.Notarization n) was.0 (subst (Contains known) was.1 one.1)

pub good_nullification : (Good : Certificate → Type 0) (known : List Fact) (view : ℕ) (n : Nullification) → KnowsGood Good known → nullification_of known view ≡ Some n
    → Good (certificates.Nullification n)
unfolding nullification_of
good_nullification Good known view n k e =
    let one = first_some (nullification_in view) known n e in
    let was = added_nullification view one.0 n one.2 in
    k (certificates.Nullification n) was.0 (subst (Contains known) was.1 one.1)

pub good_finalization : (Good : Certificate → Type 0) (known : List Fact) (view : ℕ) (n : Finalization) → KnowsGood Good known → finalization_of known view ≡ Some n
    → Good (certificates.Finalization n)
unfolding finalization_of
good_finalization Good known view n k e =
    let one = first_some (finalization_in view) known n e in
    let was = added_finalization view one.0 n one.2 in
    k (certificates.Finalization n) was.0 (subst (Contains known) was.1 one.1)

-- ---- what a step says so far

abbrev pub OfVerdict : (Certificate → Type 0) → Option (Notarization × Bool) → Type 0
OfVerdict Good None = Unit {0}
OfVerdict Good (Some v) = Good (certificates.Notarization v.0)

abbrev pub OfOption : (Certificate → Type 0) → Option Certificate → Type 0
OfOption Good None = Unit {0}
OfOption Good (Some c) = Good c

abbrev pub OfNullify : (Certificate → Type 0) → Option (Nullify × Option Certificate) → Type 0
OfNullify Good None = Unit {0}
OfNullify Good (Some n) = OfOption Good n.1

-- a voter blocks nobody but a leader that was contradicted
abbrev pub InVoterCall : (Certificate → Type 0) → Call → Type 0
InVoterCall Good (calls.Block who why) = why ≡ LeaderConflict
InVoterCall Good call = InCall Good call

pub voter_calls : (Good : Certificate → Type 0) (cs : List Call) → Each (InVoterCall Good) cs → Each (InCall Good) cs
voter_calls Good [] h = tt
voter_calls Good (calls.Block who why ∷ cs) h = (tt, voter_calls Good cs h.1)
voter_calls Good (calls.Append n a ∷ cs) h = (h.0, voter_calls Good cs h.1)
voter_calls Good (calls.Sync n ∷ cs) h = (h.0, voter_calls Good cs h.1)
voter_calls Good (calls.Prune n ∷ cs) h = (h.0, voter_calls Good cs h.1)
voter_calls Good (calls.Send channel to bytes ∷ cs) h = (h.0, voter_calls Good cs h.1)
voter_calls Good (calls.Report activity ∷ cs) h = (h.0, voter_calls Good cs h.1)
voter_calls Good (calls.Relay payload plan ∷ cs) h = (h.0, voter_calls Good cs h.1)

pub record Says (Good : Certificate → Type 0) (cs : List Call) (hs : List Handed) (news : List Certificate) (facts : List Fact) (v : Option (Notarization × Bool)) (n : Option (Nullify × Option Certificate)) : Type 0 where
  pub in_calls : Each (InVoterCall Good) cs
  pub in_messages : Each (InMessage Good cs) hs
  pub in_added : Each Good news
  pub in_known : KnowsGood Good facts
  pub in_verdict : OfVerdict Good v
  pub in_nullify : OfNullify Good n

abbrev pub SaysGood : (Certificate → Type 0) → Doing → Type 0
SaysGood Good d = Says Good d.calls d.handed d.added d.desk.known d.verdict d.nullify

pub later_message : (Good : Certificate → Type 0) (cs ds : List Call) (h : Handed) → InMessage Good cs h → InMessage Good (cs ++ ds) h
later_message Good cs ds (handed.Batcher (batcher.Constructed v)) m = Contains-append_left cs ds _ m
later_message Good cs ds (handed.Batcher (batcher.Update current leader finalized proposal)) m = tt
later_message Good cs ds (handed.Voter message) m = m
later_message Good cs ds (handed.Resolver message) m = m
later_message Good cs ds (handed.Handler message) m = tt

pub say : (Good : Certificate → Type 0) (cs : List Call) (hs : List Handed) (news : List Certificate) (facts : List Fact) (v : Option (Notarization × Bool)) (n : Option (Nullify × Option Certificate)) (c : Call)
    → InVoterCall Good c → Says Good cs hs news facts v n → Says Good (cs ++ c ∷ []) hs news facts v n
say Good cs hs news facts v n c good s =
    record {
      in_calls = Each-append (InVoterCall Good) cs (c ∷ []) s.in_calls (good, tt);
      in_messages = Each-weaker (InMessage Good cs) (InMessage Good (cs ++ c ∷ [])) (later_message Good cs (c ∷ [])) hs s.in_messages;
      in_added = s.in_added;
      in_known = s.in_known;
      in_verdict = s.in_verdict;
      in_nullify = s.in_nullify;
    }

pub pass : (Good : Certificate → Type 0) (cs : List Call) (hs more : List Handed) (news : List Certificate) (facts : List Fact) (v : Option (Notarization × Bool)) (n : Option (Nullify × Option Certificate))
    → Each (InMessage Good cs) more → Says Good cs hs news facts v n → Says Good cs (hs ++ more) news facts v n
pass Good cs hs more news facts v n good s =
    record {
      in_calls = s.in_calls;
      in_messages = Each-append (InMessage Good cs) hs more s.in_messages good;
      in_added = s.in_added;
      in_known = s.in_known;
      in_verdict = s.in_verdict;
      in_nullify = s.in_nullify;
    }

pub learn : (Good : Certificate → Type 0) (cs : List Call) (hs : List Handed) (news : List Certificate) (facts later : List Fact) (v : Option (Notarization × Bool)) (n : Option (Nullify × Option Certificate))
    → KnowsGood Good later → Says Good cs hs news facts v n → Says Good cs hs news later v n
learn Good cs hs news facts later v n good s =
    record { in_calls = s.in_calls; in_messages = s.in_messages; in_added = s.in_added; in_known = good; in_verdict = s.in_verdict; in_nullify = s.in_nullify }

pub says_told : (Good : Certificate → Type 0) (made : Made) (call : state.Call) (d : Doing) → IsQuiet call → SaysGood Good d → SaysGood Good (tell made call d)
says_told Good made call d q s =
    learn Good d.calls d.handed d.added d.desk.known (facts_of made d.desk.known call ++ d.desk.known) d.verdict d.nullify
    (same_good Good made d.desk.known (facts_of made d.desk.known call ++ d.desk.known) (told_quiet made d.desk.known call q) s.in_known) s

pub says_made : (Good : Certificate → Type 0) (c : Call) (d : Doing) → InVoterCall Good c → SaysGood Good d → SaysGood Good (make c d)
says_made Good c d good s = say Good d.calls d.handed d.added d.desk.known d.verdict d.nullify c good s

pub says_handed : (Good : Certificate → Type 0) (h : Handed) (d : Doing) → InMessage Good d.calls h → SaysGood Good d → SaysGood Good (hand h d)
says_handed Good h d good s = pass Good d.calls d.handed (h ∷ []) d.added d.desk.known d.verdict d.nullify (good, tt) s

says_sought : (Good : Certificate → Type 0) (d : Doing) → SaysGood Good d → SaysGood Good (seek d)
says_sought Good d s =
    pass Good d.calls d.handed (map (λ s. handed.Resolver (resolve_of s)) d.desk.sought) d.added d.desk.known d.verdict d.nullify
    (Each-map (InMessage Good d.calls) (λ (s : Sought). handed.Resolver (resolve_of s)) d.desk.sought (λ a. tt)) s

-- ---- votes, requests, sync

says_notarize : (Good : Certificate → Type 0) (made : Made) (view : ℕ) (d : Doing) → SaysGood Good d → SaysGood Good (vote_notarize made view d)
unfolding vote_notarize facts_of
says_notarize Good made view d s = at (notarize_at made d.desk.known view)
  where
    at : (o : Option Notarize)
        → (let told = record d { desk = record d.desk { known = state.fact_of (λ v. Voted (votes.Notarize v)) o ++ d.desk.known } } in
        SaysGood Good (option_map_or (λ n. append (artifacts.Notarize n) told) o told))
    at None = s
    at (Some n) =
        say Good d.calls d.handed d.added (Voted (votes.Notarize n) ∷ d.desk.known) d.verdict d.nullify (calls.Append (view_of n.proposal) (artifacts.Notarize n)) tt
        (learn Good d.calls d.handed d.added d.desk.known (Voted (votes.Notarize n) ∷ d.desk.known) d.verdict d.nullify
        (push_good Good (Voted (votes.Notarize n)) d.desk.known (λ c now h. cc) s.in_known) s)

says_finalize : (Good : Certificate → Type 0) (made : Made) (view : ℕ) (d : Doing) → SaysGood Good d → SaysGood Good (vote_finalize made view d)
unfolding vote_finalize facts_of
says_finalize Good made view d s = at (finalize_at made d.desk.known view)
  where
    at : (o : Option Finalize)
        → (let told = record d { desk = record d.desk { known = state.fact_of (λ v. Voted (votes.Finalize v)) o ++ d.desk.known } } in
        SaysGood Good (option_map_or (λ n. append (artifacts.Finalize n) told) o told))
    at None = s
    at (Some n) =
        say Good d.calls d.handed d.added (Voted (votes.Finalize n) ∷ d.desk.known) d.verdict d.nullify (calls.Append (view_of n.proposal) (artifacts.Finalize n)) tt
        (learn Good d.calls d.handed d.added d.desk.known (Voted (votes.Finalize n) ∷ d.desk.known) d.verdict d.nullify
        (push_good Good (Voted (votes.Finalize n)) d.desk.known (λ c now h. cc) s.in_known) s)

says_requests : (Good : Certificate → Type 0) (made : Made) (now : ℕ) (d : Doing) → SaysGood Good d → SaysGood Good (open_requests made now d)
unfolding open_requests
says_requests Good made now d s =
    says_sought Good (record d { desk = reconciled made now d.desk })
    (learn Good d.calls d.handed d.added d.desk.known (reconciled made now d.desk).known d.verdict d.nullify
    (same_good Good made d.desk.known (reconciled made now d.desk).known (reconciled_same made now d.desk) s.in_known) s)

says_synced : (Good : Certificate → Type 0) (view : ℕ) (d : Doing) → SaysGood Good d → SaysGood Good (sync view d)
says_synced Good view d s = at d.wrote
  where
    at : (b : Bool) → SaysGood Good (if b then make (calls.Sync view) d else d)
    at true = says_made Good (calls.Sync view) d tt s
    at false = s

-- ---- what is published

says_verdict : (Good : Certificate → Type 0) (d : Doing) → SaysGood Good d → SaysGood Good (publish_verdict d)
unfolding publish_verdict
says_verdict Good d s = at d.verdict s.in_verdict
  where
    one : (n : Notarization) (good b : Bool) → Good (certificates.Notarization n) → (let told = hand (handed.Resolver (resolver.Certified n good)) d in
        SaysGood Good (if b then report (activities.Certification n) told else told))
    one n good true g = says_made Good (calls.Report (activities.Certification n)) (hand (handed.Resolver (resolver.Certified n good)) d) g (says_handed Good (handed.Resolver (resolver.Certified n good)) d g s)
    one n good false g = says_handed Good (handed.Resolver (resolver.Certified n good)) d g s

    at : (o : Option (Notarization × Bool)) → OfVerdict Good o → SaysGood Good (option_map_or (λ v.
        let told = hand (handed.Resolver (resolver.Certified v.0 v.1)) d in
        if v.1 then report (activities.Certification v.0) told else told) o d)
    at None g = s
    at (Some v) g = one v.0 v.1 v.1 g

says_certificate : (Good : Certificate → Type 0) (c : Certificate) (d : Doing) → Good c → SaysGood Good d → SaysGood Good (send_certificate c d)
says_certificate Good c d g s = says_made Good (calls.Send channels.Certificate recipients.All (format.certificate.spelling c)) d (refl, c, refl, g) s

says_option : (Good : Certificate → Type 0) (o : Option Certificate) (d : Doing) → OfOption Good o → SaysGood Good d → SaysGood Good (with_certificate o d)
says_option Good None d g s = s
says_option Good (Some c) d g s = says_certificate Good c d g s

pub says_vote : (Good : Certificate → Type 0) (v : Vote) (d : Doing) → SaysGood Good d → SaysGood Good (send_vote v d)
says_vote Good v d s =
    let c = calls.Send channels.Vote recipients.All (format.vote.spelling v) in
    pass Good (d.calls ++ c ∷ []) d.handed (handed.Batcher (batcher.Constructed v) ∷ []) d.added d.desk.known d.verdict d.nullify (Contains-push d.calls c, tt)
    (say Good d.calls d.handed d.added d.desk.known d.verdict d.nullify c refl s)

says_nullify : (Good : Certificate → Type 0) (d : Doing) → SaysGood Good d → SaysGood Good (publish_nullify d)
unfolding publish_nullify
says_nullify Good d s = at d.nullify s.in_nullify
  where
    at : (o : Option (Nullify × Option Certificate)) → OfNullify Good o → SaysGood Good (option_map_or (λ n. with_certificate n.1 (send_vote (votes.Nullify n.0) d)) o d)
    at None g = s
    at (Some n) g = says_option Good n.1 (send_vote (votes.Nullify n.0) d) g (says_vote Good (votes.Nullify n.0) d s)

says_option_notarize : (Good : Certificate → Type 0) (o : Option Notarize) (d : Doing) → SaysGood Good d → SaysGood Good (option_map_or (λ n. send_vote (votes.Notarize n) d) o d)
says_option_notarize Good None d s = s
says_option_notarize Good (Some n) d s = says_vote Good (votes.Notarize n) d s

says_option_finalize : (Good : Certificate → Type 0) (o : Option Finalize) (d : Doing) → SaysGood Good d → SaysGood Good (option_map_or (λ n. send_vote (votes.Finalize n) d) o d)
says_option_finalize Good None d s = s
says_option_finalize Good (Some n) d s = says_vote Good (votes.Finalize n) d s

unsent_known : {A : Type 0} (b : Bool) (o : Option A) (a : A) → (if b then None else o) ≡ Some a → o ≡ Some a
unsent_known true o a e = cc
unsent_known false o a e = e

says_notarization : (Good : Certificate → Type 0) (made : Made) (view : ℕ) (d : Doing) → SaysGood Good d → SaysGood Good (publish_notarization made view d)
unfolding publish_notarization unsent_notarization
says_notarization Good made view d s = at (unsent_notarization d.desk.known view) refl
  where
    told : SaysGood Good (tell made (state.BroadcastNotarization view) d)
    told = says_told Good made (state.BroadcastNotarization view) d tt s

    at : (o : Option Notarization) → unsent_notarization d.desk.known view ≡ o
        → SaysGood Good (option_map_or (λ n. report (activities.Notarization n) (send_certificate (certificates.Notarization n) (tell made (state.BroadcastNotarization view) d))) o (tell made (state.BroadcastNotarization view) d))
    at None e = told
    at (Some n) e =
        let g = good_notarization Good d.desk.known view n s.in_known (unsent_known _ _ n e) in
        says_made Good (calls.Report (activities.Notarization n)) (send_certificate (certificates.Notarization n) (tell made (state.BroadcastNotarization view) d)) g
        (says_certificate Good (certificates.Notarization n) (tell made (state.BroadcastNotarization view) d) g told)

says_nullification : (Good : Certificate → Type 0) (made : Made) (view : ℕ) (d : Doing) → SaysGood Good d → SaysGood Good (publish_nullification made view d)
unfolding publish_nullification unsent_nullification
says_nullification Good made view d s = at (unsent_nullification d.desk.known view) refl
  where
    told : SaysGood Good (tell made (state.BroadcastNullification view) d)
    told = says_told Good made (state.BroadcastNullification view) d tt s

    at : (o : Option Nullification) → unsent_nullification d.desk.known view ≡ o
        → SaysGood Good (option_map_or (λ n. report (activities.Nullification n) (send_certificate (certificates.Nullification n) (tell made (state.BroadcastNullification view) d))) o (tell made (state.BroadcastNullification view) d))
    at None e = told
    at (Some n) e =
        let g = good_nullification Good d.desk.known view n s.in_known (unsent_known _ _ n e) in
        says_made Good (calls.Report (activities.Nullification n)) (send_certificate (certificates.Nullification n) (tell made (state.BroadcastNullification view) d)) g
        (says_certificate Good (certificates.Nullification n) (tell made (state.BroadcastNullification view) d) g told)

says_finalization : (Good : Certificate → Type 0) (made : Made) (view : ℕ) (d : Doing) → SaysGood Good d → SaysGood Good (publish_finalization made view d)
unfolding publish_finalization unsent_finalization
says_finalization Good made view d s = at (unsent_finalization d.desk.known view) refl
  where
    told : SaysGood Good (tell made (state.BroadcastFinalization view) d)
    told = says_told Good made (state.BroadcastFinalization view) d tt s

    at : (o : Option Finalization) → unsent_finalization d.desk.known view ≡ o
        → SaysGood Good (option_map_or (λ n. report (activities.Finalization n) (send_certificate (certificates.Finalization n) (tell made (state.BroadcastFinalization view) d))) o (tell made (state.BroadcastFinalization view) d))
    at None e = told
    at (Some n) e =
        let g = good_finalization Good d.desk.known view n s.in_known (unsent_known _ _ n e) in
        says_made Good (calls.Report (activities.Finalization n)) (send_certificate (certificates.Finalization n) (tell made (state.BroadcastFinalization view) d)) g
        (says_certificate Good (certificates.Finalization n) (tell made (state.BroadcastFinalization view) d) g told)

says_update : (Good : Certificate → Type 0) (made : Made) (before : ℕ) (d : Doing) → SaysGood Good d → SaysGood Good (update_batcher made before d)
unfolding update_batcher
says_update Good made before d s = at (nat_lt before (current_of made d.desk.known))
  where
    at : (b : Bool) → SaysGood Good (if b then hand (update_message made d.desk.known (forwardable_at d.desk.known (current_of made d.desk.known - 1))) d else d)
    at true = says_handed Good (update_message made d.desk.known (forwardable_at d.desk.known (current_of made d.desk.known - 1))) d tt s
    at false = s

-- ---- the end of a step, and the next iteration

pub says_at_end : (Good : Certificate → Type 0) (made : Made) (now before view : ℕ) (d : Doing) → SaysGood Good d → SaysGood Good (end_of_step made now before view d)
unfolding end_of_step
says_at_end Good made now before view d s =
    let notarize = notarize_at made d.desk.known view in
    let voted = vote_notarize made view d in
    let finalize = finalize_at made voted.desk.known view in
    let finalized = vote_finalize made view voted in
    let opened = sync view (open_requests made now finalized) in
    let first = publish_nullify (publish_verdict opened) in
    let second = option_map_or (λ n. send_vote (votes.Notarize n) first) notarize first in
    let third = publish_notarization made view second in
    let fourth = publish_nullification made view third in
    let fifth = option_map_or (λ f. send_vote (votes.Finalize f) fourth) finalize fourth in
    let sixth = publish_finalization made view fifth in
    says_update Good made before sixth
    (says_finalization Good made view fifth
    (says_option_finalize Good finalize fourth
    (says_nullification Good made view third
    (says_notarization Good made view second
    (says_option_notarize Good notarize first
    (says_nullify Good (publish_verdict opened)
    (says_verdict Good opened
    (says_synced Good view (open_requests made now finalized)
    (says_requests Good made now finalized (says_finalize Good made view voted (says_notarize Good made view d s)))))))))))

pub says_iteration : (Good : Certificate → Type 0) (made : Made) (now : ℕ) (d : Doing) → SaysGood Good d → SaysGood Good (begin_iteration made now d)
unfolding begin_iteration prune
says_iteration Good made now d s =
    let begun = seek (record d { desk = iterated made now d.desk }) in
    at begun (says_sought Good (record d { desk = iterated made now d.desk })
    (learn Good d.calls d.handed d.added d.desk.known (iterated made now d.desk).known d.verdict d.nullify
    (same_good Good made d.desk.known (iterated made now d.desk).known (iterated_same made now d.desk) s.in_known) s)) (prune_answer made begun.desk.known)
  where
    at : (b : Doing) → SaysGood Good b → (o : Option ℕ) → SaysGood Good (prune_at o (tell made state.Prune b))
    at b g None = says_told Good made state.Prune b tt g
    at b g (Some least) = says_made Good (calls.Prune least) (tell made state.Prune b) tt (says_told Good made state.Prune b tt g)
