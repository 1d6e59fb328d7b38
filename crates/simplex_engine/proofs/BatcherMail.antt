-- A batcher hands on to the voter alone.
use Rattle.simplex_types.specs.declared.cause.BlockCause.TheVariants.{InvalidCertificate}
use Rattle.std.proofs.Common.{◌≡◌, refl, ℕ, zero, suc, Bool, true, false, List, [], ◌∷◌, ◌++◌, map, Option, Some, None, Result, Ok, Err}
use Rattle.std.specs.Prelude.{if◌then◌else◌, nat_le, not, ◌||◌}
use Rattle.std.specs.List.{filter_map}
use Rattle.std.specs.Option.{option_map_or}
use Rattle.std.proofs.lemmas.List.Elements.{filter_map-append}
use Rattle.simplex_values.specs.declared.proposal.Proposal.{Proposal}
use Rattle.simplex_values.specs.declared.policy.SkipPolicy.{SkipPolicy}
use Rattle.simplex_values.specs.declared.policy.SkipPolicy.TheVariants as skip
use Rattle.simplex_values.specs.declared.timeout.TimeoutReason.{TimeoutReason}
use Rattle.simplex_values.specs.declared.timeout.TimeoutReason.TheVariants.{Inactivity}
use Rattle.simplex_wire.specs.declared.error.DecodeError.{DecodeError}
use Rattle.simplex_wire.specs.declared.vote.Vote.{Vote}
use Rattle.simplex_wire.specs.declared.certificate.Certificate.{Certificate}
use Rattle.simplex_wire.specs.Certified.{is_certified}
use Rattle.simplex_wire.specs.Fields.{certificate_subject, certificate_signatures}
use Rattle.simplex_round.specs.declared.batch.Batch.{Batch}
use Rattle.simplex_round.specs.Acceptance as votes
use Rattle.simplex_messages.specs.declared.batcher.BatcherInput.{BatcherInput}
use Rattle.simplex_messages.specs.declared.batcher.BatcherInput.TheVariants as input
use Rattle.simplex_messages.specs.declared.batcher.Message.TheVariants as batcher
use Rattle.simplex_messages.specs.declared.voter.Message.{Message}
use Rattle.simplex_messages.specs.declared.voter.Message.TheVariants as voter
use Rattle.simplex_messages.specs.declared.handed.Handed.{Handed}
use Rattle.simplex_messages.specs.declared.handed.Handed.TheVariants as handed
use Rattle.simplex_messages.specs.declared.step.Stop.{Stop}
use Rattle.simplex_messages.specs.declared.step.Stop.TheVariants as stops
use Rattle.simplex_messages.specs.declared.step.Outcome.{Outcome}
use Rattle.simplex_messages.specs.declared.step.StepOut.{StepOut}
use Rattle.model_steps.specs.Batcher.{Made, Timed, Doing, RoundHistory, dropped, is_me, is_active, leader_nullified, retains_view, admits_view, holds_kind, certificate_view, and_blocked, hinted_at_vote, hinting_nullify, hinted_at_update, hinting, forwarding, with_heard, took_vote, took_constructed, kept_certificate, took_certificate, took_update, forwarded, with_batch, constructing, constructing_times, worked, worked_all, heard_vote, heard_certificate, acted, finished, step, step_out}
use Rattle.model_steps.specs.Engine.{for_batcher, for_resolver, cut_short}

-- none of these is for the mailbox of the batcher or of the resolver
pub record IsForVoter (messages : List Handed) : Type 0 where
  pub batcher : filter_map for_batcher messages ≡ []
  pub resolver : filter_map for_resolver messages ≡ []

-- nothing that was handed on so far is for one of these two
abbrev Tells : Doing → Type 0
Tells doing = IsForVoter doing.handed

-- ---- lists

pub nil-tells : IsForVoter []
nil-tells = record { batcher = refl; resolver = refl }

append-tells : (xs ys : List Handed) → IsForVoter xs → IsForVoter ys → IsForVoter (xs ++ ys)
append-tells xs ys q r = record {
  batcher = rw (filter_map-append, q.batcher, r.batcher) refl;
  resolver = rw (filter_map-append, q.resolver, r.resolver) refl;
}

one-tells : (message : Message) → IsForVoter (handed.Voter message ∷ [])
one-tells message = record { batcher = refl; resolver = refl }

each-tells : {A : Type 0} (f : A → Message) (xs : List A) → IsForVoter (map (λ x. handed.Voter (f x)) xs)
each-tells f [] = nil-tells
each-tells f (x ∷ xs) = record { batcher = (each-tells f xs).batcher; resolver = (each-tells f xs).resolver }

-- ---- choices

tells-if : (test : Bool) (x y : Doing) → Tells x → Tells y → Tells (if test then x else y)
tells-if true x y q r = q
tells-if false x y q r = r

tells-option : {A : Type 0} (f : A → Doing) (o : Option A) (d : Doing) → ((a : A) → Tells (f a)) → Tells d → Tells (option_map_or f o d)
tells-option f None d q r = r
tells-option f (Some a) d q r = q a

-- ---- acting

tells-nullify : (made : Made) (doing : Doing) → Tells doing → Tells (hinting_nullify made doing)
tells-nullify made doing q = append-tells _ _ q (one-tells _)

tells-hinting : (made : Made) (reason : TimeoutReason) (doing : Doing) → Tells doing → Tells (hinting made reason doing)
tells-hinting made reason doing q = append-tells _ _ q (one-tells _)

tells-at_vote : (made : Made) (accepted : Bool) (doing : Doing) → Tells doing → Tells (hinted_at_vote made accepted doing)
unfolding hinted_at_vote
tells-at_vote made accepted doing q = tells-if _ _ _ (tells-nullify made doing q) q

tells-at_update : (made : Made) (policy : SkipPolicy) (leader now : ℕ) (doing : Doing) → Tells doing → Tells (hinted_at_update made policy leader now doing)
unfolding hinted_at_update
tells-at_update made skip.Disabled leader now doing q = q
tells-at_update made (skip.Enabled timeout budget) leader now doing q =
    let good = is_me made leader || is_active made doing.standing leader timeout now in
    let hint = hinting made Inactivity doing in
    tells-if (leader_nullified doing.standing) (hinting_nullify made doing) (if good then doing else hint) (tells-nullify made doing q)
    (tells-if good doing hint q (tells-hinting made Inactivity doing q))

tells-forwarding : (made : Made) (leader : ℕ) (proposal : Option Proposal) (doing : Doing) → Tells doing → Tells (forwarding made leader proposal doing)
unfolding forwarding
tells-forwarding made leader None doing q = q
tells-forwarding made leader (Some proposal) doing q = q

tells-heard : (view : ℕ) (round : RoundHistory) (heard : votes.Heard) (doing : Doing) → Tells doing → Tells (with_heard view round heard doing)
unfolding with_heard
tells-heard view round heard doing q = q

tells-vote : (made : Made) (sender : ℕ) (vote : Vote) (doing : Doing) → Tells doing → Tells (took_vote made sender vote doing)
unfolding took_vote
tells-vote made sender vote doing q = tells-if _ _ _ (tells-at_vote made _ _ (tells-heard _ _ _ doing q)) q

tells-constructed : (made : Made) (vote : Vote) (doing : Doing) → Tells doing → Tells (took_constructed made vote doing)
unfolding took_constructed
tells-constructed made vote doing q = tells-if _ _ _ (tells-heard _ _ _ doing q) q

tells-kept : (made : Made) (certificate : Certificate) (doing : Doing) → Tells doing → Tells (kept_certificate made certificate doing)
unfolding kept_certificate
tells-kept made certificate doing q = append-tells _ _ q (one-tells _)

tells-certificate : (made : Made) (sender : ℕ) (certificate : Certificate) (doing : Doing) → Tells doing → Tells (took_certificate made sender certificate doing)
unfolding took_certificate
tells-certificate made sender certificate doing q =
    let good = is_certified (made.scheme.verifies (certificate_subject certificate)) made.members (certificate_signatures certificate) in
    let kept = kept_certificate made certificate doing in
    let blocked = and_blocked sender InvalidCertificate doing in
    tells-if (not (retains_view made doing.standing (certificate_view certificate)) || holds_kind doing.standing certificate)
    doing (if good then kept else blocked) q (tells-if good kept blocked (tells-kept made certificate doing q) q)

tells-update : (made : Made) (current leader finalized : ℕ) (proposal : Option Proposal) (now : ℕ) (doing : Doing) → Tells doing
    → Tells (took_update made current leader finalized proposal now doing)
unfolding took_update
tells-update made current leader finalized proposal now doing q =
    tells-forwarding made leader proposal _ (tells-at_update made made.skip leader now _ q)

-- ---- work

tells-forwarded : (made : Made) (view : ℕ) (round : RoundHistory) (doing : Doing) → Tells doing → Tells (forwarded made view round doing)
unfolding forwarded
tells-forwarded made view round doing q = append-tells _ _ q (each-tells voter.Proposal _)

tells-batch : (batch : Option Batch) (doing : Doing) → Tells doing → Tells (with_batch batch doing)
tells-batch None doing q = q
tells-batch (Some batch) doing q = append-tells _ _ q (each-tells voter.Verified _)

tells-constructing : (made : Made) (view : ℕ) (round : RoundHistory) (doing : Doing) → Tells doing → Tells (constructing made view round doing)
unfolding constructing
tells-constructing made view round doing q = tells-batch _ doing q

tells-times : (times : ℕ) (made : Made) (view : ℕ) (doing : Doing) → Tells doing → Tells (constructing_times times made view doing)
unfolding constructing_times
tells-times zero made view doing q = q
tells-times (suc n) made view doing q =
    tells-times n made view _ (tells-option _ _ _ (λ round. tells-constructing made view round doing q) q)

tells-worked : (made : Made) (view : ℕ) (doing : Doing) → Tells doing → Tells (worked made view doing)
unfolding worked
tells-worked made view doing q =
    let handing = option_map_or (λ round. forwarded made view round doing) (doing.standing.rounds view) doing in
    let done = constructing_times 3 made view handing in
    let calm : Tells handing = tells-option _ _ _ (λ round. tells-forwarded made view round doing q) q in
    let admits = admits_view made doing.standing view in
    tells-if (nat_le view doing.standing.finalized) doing (if admits then done else handing) q
    (tells-if admits done handing (tells-times 3 made view handing calm) calm)

tells-worked_all : (made : Made) (views : List ℕ) (doing : Doing) → Tells doing → Tells (worked_all made views doing)
unfolding worked_all
tells-worked_all made [] doing q = q
tells-worked_all made (view ∷ views) doing q = tells-worked_all made views _ (tells-worked made view doing q)

-- ---- a step

tells-heard_vote : (made : Made) (sender : ℕ) (vote : Result Vote DecodeError) (now : ℕ) (doing : Doing) → Tells doing → Tells (heard_vote made sender vote now doing)
unfolding heard_vote
tells-heard_vote made sender (Err fault) now doing q = q
tells-heard_vote made sender (Ok vote) now doing q = tells-if _ _ _ (tells-vote made sender vote _ q) q

tells-heard_certificate : (made : Made) (sender : ℕ) (certificate : Result Certificate DecodeError) (now : ℕ) (doing : Doing) → Tells doing
    → Tells (heard_certificate made sender certificate now doing)
unfolding heard_certificate
tells-heard_certificate made sender (Err fault) now doing q = q
tells-heard_certificate made sender (Ok certificate) now doing q = tells-if _ _ _ (tells-certificate made sender certificate _ q) q

tells-acted : (made : Made) (given : BatcherInput) (now : ℕ) (doing : Doing) → Tells doing → Tells (acted made given now doing)
unfolding acted
tells-acted made (input.Mail (batcher.Update current leader finalized proposal)) now doing q =
    tells-update made current leader finalized proposal now doing q
tells-acted made (input.Mail (batcher.Constructed vote)) now doing q = tells-constructed made vote doing q
tells-acted made (input.Vote sender bytes) now doing q = tells-heard_vote made sender _ now doing q
tells-acted made (input.Certificate sender bytes) now doing q = tells-heard_certificate made sender _ now doing q

-- a step hands on to the voter alone
pub step-tells : (made : Made) (before : List Timed) (given : Timed) → IsForVoter (step_out made before given).handed
unfolding step_out step finished dropped
step-tells made before given = tells-worked_all made _ _ (tells-acted made given.input given.now _ nil-tells)

cut-tells-at : (test : Bool) (out : StepOut) (cut : Outcome × StepOut) (whole : Outcome) → IsForVoter out.handed → IsForVoter cut.1.handed
    → IsForVoter (if test then cut else (whole, out)).1.handed
cut-tells-at true out cut whole q r = r
cut-tells-at false out cut whole q r = q

-- also where its calls are cut
pub cut-tells : (stop : Stop) (out : StepOut) → IsForVoter out.handed → IsForVoter (cut_short stop out).1.handed
cut-tells stops.None out q = q
cut-tells (stops.Cut call keep) out q = cut-tells-at _ out _ _ q nil-tells
cut-tells (stops.Fail call keep) out q = q
