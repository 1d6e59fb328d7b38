-- What a batcher calls and hands on: it reports, blocks and relays, it hands messages to the voter, and that is all.
use Rattle.simplex_types.specs.declared.cause.BlockCause.{BlockCause}
use Rattle.simplex_types.specs.declared.cause.BlockCause.TheVariants.{InvalidSignature}
use Rattle.simplex_messages.specs.Step.{block_call}
use Rattle.std.proofs.Common.{ℕ, zero, suc, ◌==◌, ◌&&◌, ◌||◌, not, nat_le, Bool, true, false, List, [], ◌∷◌, ◌++◌, map, option_to_list, Option, Some, None, Result, Ok, Err, if◌then◌else◌}
use Rattle.std.specs.Option.{option_map_or}
use Rattle.simplex_values.specs.declared.proposal.Proposal.{Proposal}
use Rattle.simplex_values.specs.declared.policy.SkipPolicy.{SkipPolicy}
use Rattle.simplex_values.specs.declared.policy.SkipPolicy.TheVariants as skip
use Rattle.simplex_values.specs.declared.timeout.TimeoutReason.{TimeoutReason}
use Rattle.simplex_values.specs.declared.timeout.TimeoutReason.TheVariants.{Inactivity, LeaderNullify}
use Rattle.simplex_wire.specs.declared.error.DecodeError.{DecodeError}
use Rattle.simplex_wire.specs.declared.vote.Vote.{Vote}
use Rattle.simplex_wire.specs.declared.certificate.Certificate.{Certificate}
use Rattle.simplex_wire.specs.Format.{whole}
use Rattle.simplex_wire.specs.Message as format
use Rattle.simplex_wire.specs.Certified.{is_certified}
use Rattle.simplex_wire.specs.Fields.{certificate_subject, certificate_signatures}
use Rattle.simplex_round.specs.declared.batch.Batch.{Batch}
use Rattle.simplex_round.specs.Acceptance as votes
use Rattle.simplex_round.specs.Assembly as assembly
use Rattle.simplex_round.specs.Forwarding as proposals
use Rattle.simplex_round.specs.Calls as rounds
use Rattle.simplex_messages.specs.declared.batcher.BatcherInput.{BatcherInput}
use Rattle.simplex_messages.specs.declared.batcher.BatcherInput.TheVariants as input
use Rattle.simplex_messages.specs.declared.batcher.Message.TheVariants as batcher
use Rattle.simplex_messages.specs.declared.voter.Message as voter_message
use Rattle.simplex_messages.specs.declared.voter.Message.TheVariants as voter
use Rattle.simplex_messages.specs.declared.handed.Handed.{Handed}
use Rattle.simplex_messages.specs.declared.handed.Handed.TheVariants as handed
use Rattle.simplex_messages.specs.declared.call.Call.{Call}
use Rattle.simplex_messages.specs.declared.call.Call.TheVariants as call
use Rattle.model_steps.specs.Batcher.{Made, Timed, RoundHistory, Doing, begun, and_handed, number_of, known_in, called, and_blocked, has_skipping, leader_nullified, hinting, hinting_nullify, hinted_at_vote, is_me, is_active, hinted_at_update, targets_of, relayed, forwarding, vote_view, vote_epoch, certificate_view, certificate_epoch, retains_view, admits_view, round_for, with_heard, took_vote, took_constructed, holds_kind, kept_certificate, took_certificate, window_views, with_leader, took_update, forwarded, with_batch, constructing, constructing_times, worked, worked_all, dropped, seen_now, heard_vote, heard_certificate, acted, finished, step, standing_after, step_out}
use Rattle.law_member.proofs.Replaying.{AllPlain}
use Rattle.law_member.proofs.Constructing.{AreSilent}

-- no call of the journal or the network
abbrev pub IsHush : Call → Type 0
IsHush (call.Report activity) = Unit {0}
IsHush (call.Relay payload plan) = Unit {0}
IsHush (call.Block who why) = Unit {0}
IsHush _ = ⊥

abbrev pub AllHush : List Call → Type 0
AllHush [] = Unit {0}
AllHush (c ∷ rest) = IsHush c × AllHush rest

AllHush-append : (xs ys : List Call) → AllHush xs → AllHush ys → AllHush (xs ++ ys)
AllHush-append [] ys p q = q
AllHush-append (x ∷ xs) ys p q = (p.0, AllHush-append xs ys p.1 q)

-- for the voter
abbrev pub IsForVoter : Handed → Type 0
IsForVoter (handed.Voter message) = Unit {0}
IsForVoter _ = ⊥

abbrev pub AllForVoter : List Handed → Type 0
AllForVoter [] = Unit {0}
AllForVoter (h ∷ rest) = IsForVoter h × AllForVoter rest

for_voter-append : (xs ys : List Handed) → AllForVoter xs → AllForVoter ys → AllForVoter (xs ++ ys)
for_voter-append [] ys p q = q
for_voter-append (x ∷ xs) ys p q = (p.0, for_voter-append xs ys p.1 q)

for_voter-map : {A : Type 0} (f : A → Handed) (xs : List A) → ((a : A) → IsForVoter (f a)) → AllForVoter (map f xs)
for_voter-map f [] e = tt
for_voter-map f (x ∷ xs) e = (e x, for_voter-map f xs e)

plain_map : {A : Type 0} (f : A → Call) (xs : List A) → ((a : A) → IsHush (f a)) → AllHush (map f xs)
plain_map f [] e = tt
plain_map f (x ∷ xs) e = (e x, plain_map f xs e)

abbrev Plain : Doing → Type 0
Plain d = AllHush d.calls × AllForVoter d.handed

handing_one : (d : Doing) (message : voter_message.Message) → Plain d → Plain (and_handed message d)
handing_one d message p = (p.0, for_voter-append d.handed (handed.Voter message ∷ []) p.1 (tt, tt))

blocked : (member : ℕ) (why : BlockCause) (d : Doing) → Plain d → Plain (and_blocked member why d)
blocked member why d p = (AllHush-append d.calls (call.Block member why ∷ []) p.0 (tt, tt), p.1)

either : (b : Bool) (x y : Doing) → Plain x → Plain y → Plain (if b then x else y)
either true x y p q = p
either false x y p q = q

hint : (made : Made) (reason : TimeoutReason) (d : Doing) → Plain d → Plain (hinting made reason d)
hint made reason d p = handing_one d (voter.Timeout (record { epoch = made.epoch; view = d.standing.current }) reason) p

hinted_vote : (made : Made) (accepted : Bool) (d : Doing) → Plain d → Plain (hinted_at_vote made accepted d)
unfolding hinted_at_vote
hinted_vote made accepted d p = either (accepted && has_skipping made.skip && not d.standing.hinted && leader_nullified d.standing) (hinting_nullify made d) d (hint made LeaderNullify (record d { standing = record d.standing { hinted = true } }) p) p

hinted_update : (made : Made) (policy : SkipPolicy) (leader now : ℕ) (d : Doing) → Plain d → Plain (hinted_at_update made policy leader now d)
unfolding hinted_at_update
hinted_update made skip.Disabled leader now d p = p
hinted_update made (skip.Enabled timeout budget) leader now d p =
    either (leader_nullified d.standing) (hinting_nullify made d) (if is_me made leader || is_active made d.standing leader timeout now then d else hinting made Inactivity d)
    (hint made LeaderNullify (record d { standing = record d.standing { hinted = true } }) p)
    (either (is_me made leader || is_active made d.standing leader timeout now) d (hinting made Inactivity d) p (hint made Inactivity d p))

plain_relayed : (proposal : Proposal) (xs : List ℕ) → AllHush (relayed proposal xs)
plain_relayed proposal [] = tt
plain_relayed proposal (x ∷ xs) = (tt, tt)

forwards : (made : Made) (leader : ℕ) (o : Option Proposal) (d : Doing) → Plain d → Plain (forwarding made leader o d)
unfolding forwarding
forwards made leader None d p = p
forwards made leader (Some proposal) d p = (AllHush-append d.calls _ p.0 (at (d.standing.rounds proposal.round.view)), p.1)
  where
    at : (o : Option RoundHistory) → AllHush (option_map_or (λ round. relayed proposal (targets_of made made.forward leader proposal round)) o [])
    at None = tt
    at (Some round) = plain_relayed proposal (targets_of made made.forward leader proposal round)

heard_plain : (view : ℕ) (round : RoundHistory) (heard : votes.Heard) (d : Doing) → Plain d → Plain (with_heard view round heard d)
unfolding with_heard
heard_plain view round heard d p = (
  AllHush-append (d.calls ++ map call.Report heard.reports) (map block_call heard.blocks)
      (AllHush-append d.calls (map call.Report heard.reports) p.0 (plain_map call.Report heard.reports (λ a. tt))) (plain_map block_call heard.blocks (λ a. tt)),
  p.1,
)

vote_plain : (made : Made) (sender : ℕ) (vote : Vote) (d : Doing) → Plain d → Plain (took_vote made sender vote d)
unfolding took_vote
vote_plain made sender vote d p =
    let view = vote_view vote in
    let round = round_for made d.standing view in
    let heard = votes.heard_from (known_in round) sender vote in
    either (retains_view made d.standing view && admits_view made d.standing view)
    (hinted_at_vote made heard.accepted (with_heard view (called (rounds.AddNetwork sender vote) round) heard d)) d
    (hinted_vote made heard.accepted (with_heard view (called (rounds.AddNetwork sender vote) round) heard d)
    (heard_plain view (called (rounds.AddNetwork sender vote) round) heard d p)) p

constructed_plain : (made : Made) (vote : Vote) (d : Doing) → Plain d → Plain (took_constructed made vote d)
unfolding took_constructed
constructed_plain made vote d p =
    let view = vote_view vote in
    let round = round_for made d.standing view in
    let heard = votes.heard (known_in round) vote in
    either (retains_view made d.standing view) (with_heard view (called (rounds.AcceptVote vote) round) heard d) d
    (heard_plain view (called (rounds.AcceptVote vote) round) heard d p) p

certificate_plain : (made : Made) (sender : ℕ) (c : Certificate) (d : Doing) → Plain d → Plain (took_certificate made sender c d)
unfolding took_certificate kept_certificate
certificate_plain made sender c d p =
    either (not (retains_view made d.standing (certificate_view c)) || holds_kind d.standing c) d _ p
    (either (is_certified (made.scheme.verifies (certificate_subject c)) made.members (certificate_signatures c)) (kept_certificate made c d) (and_blocked sender _ d)
    (handing_one d (voter.Verified c) p) (blocked sender _ d p))

update_plain : (made : Made) (current leader finalized : ℕ) (o : Option Proposal) (now : ℕ) (d : Doing) → Plain d → Plain (took_update made current leader finalized o now d)
unfolding took_update
update_plain made current leader finalized o now d p =
    let standing = with_leader made (record d.standing { current = current; leader = Some leader; finalized = finalized; hinted = false }) in
    let x = record d { standing = standing; dirty = current ∷ window_views made standing } in
    forwards made leader o (hinted_at_update made made.skip leader now x) (hinted_update made made.skip leader now x p)

forwarded_plain : (made : Made) (view : ℕ) (round : RoundHistory) (d : Doing) → Plain d → Plain (forwarded made view round d)
unfolding forwarded
forwarded_plain made view round d p = (p.0, for_voter-append d.handed _ p.1 (for_voter-map (λ x. handed.Voter (voter.Proposal x)) (option_to_list (proposals.forwarded_to_voter (known_in round) (number_of made))) (λ x. tt)))

batch_plain : (o : Option Batch) (d : Doing) → Plain d → Plain (with_batch o d)
batch_plain None d p = p
batch_plain (Some batch) d p = (
  AllHush-append d.calls (map (λ signer. call.Block signer InvalidSignature) batch.invalid) p.0 (plain_map (λ signer. call.Block signer InvalidSignature) batch.invalid (λ a. tt)),
  for_voter-append d.handed _ p.1 (for_voter-map (λ c. handed.Voter (voter.Verified c)) (option_to_list batch.certificate) (λ c. tt)),
)

constructing_plain : (made : Made) (view : ℕ) (round : RoundHistory) (d : Doing) → Plain d → Plain (constructing made view round d)
unfolding constructing
constructing_plain made view round d p = batch_plain (assembly.constructed round.made made.scheme (known_in round)) d p

once_plain : (made : Made) (view : ℕ) (o : Option RoundHistory) (d : Doing) → Plain d → Plain (option_map_or (λ round. constructing made view round d) o d)
once_plain made view None d p = p
once_plain made view (Some round) d p = constructing_plain made view round d p

times_plain : (n : ℕ) (made : Made) (view : ℕ) (d : Doing) → Plain d → Plain (constructing_times n made view d)
unfolding constructing_times
times_plain zero made view d p = p
times_plain (suc n) made view d p =
    times_plain n made view (option_map_or (λ round. constructing made view round d) (d.standing.rounds view) d) (once_plain made view (d.standing.rounds view) d p)

handing_plain : (made : Made) (view : ℕ) (o : Option RoundHistory) (d : Doing) → Plain d → Plain (option_map_or (λ round. forwarded made view round d) o d)
handing_plain made view None d p = p
handing_plain made view (Some round) d p = forwarded_plain made view round d p

worked_plain : (made : Made) (view : ℕ) (d : Doing) → Plain d → Plain (worked made view d)
unfolding worked
worked_plain made view d p =
    let handing = option_map_or (λ round. forwarded made view round d) (d.standing.rounds view) d in
    let h = handing_plain made view (d.standing.rounds view) d p in
    either (nat_le view d.standing.finalized) d _ p
    (either (admits_view made d.standing view) (constructing_times 3 made view handing) handing (times_plain 3 made view handing h) h)

all_plain : (made : Made) (views : List ℕ) (d : Doing) → Plain d → Plain (worked_all made views d)
unfolding worked_all
all_plain made [] d p = p
all_plain made (view ∷ views) d p = all_plain made views (worked made view d) (worked_plain made view d p)

heard_vote_plain : (made : Made) (sender : ℕ) (r : Result Vote DecodeError) (now : ℕ) (d : Doing) → Plain d → Plain (heard_vote made sender r now d)
unfolding heard_vote
heard_vote_plain made sender (Err fault) now d p = blocked sender _ d p
heard_vote_plain made sender (Ok vote) now d p =
    either (vote_epoch vote == made.epoch) (took_vote made sender vote (record d { standing = seen_now sender now d.standing })) (and_blocked sender _ d)
    (vote_plain made sender vote (record d { standing = seen_now sender now d.standing }) p) (blocked sender _ d p)

heard_certificate_plain : (made : Made) (sender : ℕ) (r : Result Certificate DecodeError) (now : ℕ) (d : Doing) → Plain d → Plain (heard_certificate made sender r now d)
unfolding heard_certificate
heard_certificate_plain made sender (Err fault) now d p = blocked sender _ d p
heard_certificate_plain made sender (Ok c) now d p =
    either (certificate_epoch c == made.epoch) (took_certificate made sender c (record d { standing = seen_now sender now d.standing })) (and_blocked sender _ d)
    (certificate_plain made sender c (record d { standing = seen_now sender now d.standing }) p) (blocked sender _ d p)

acted_plain : (made : Made) (i : BatcherInput) (now : ℕ) (d : Doing) → Plain d → Plain (acted made i now d)
unfolding acted
acted_plain made (input.Mail (batcher.Update current leader finalized proposal)) now d p = update_plain made current leader finalized proposal now d p
acted_plain made (input.Mail (batcher.Constructed vote)) now d p = constructed_plain made vote d p
acted_plain made (input.Vote sender bytes) now d p = heard_vote_plain made sender (whole format.vote bytes) now d p
acted_plain made (input.Certificate sender bytes) now d p = heard_certificate_plain made sender (whole format.certificate bytes) now d p

pub batcher_hush : (made : Made) (past : List Timed) (given : Timed) → AllHush (step_out made past given).calls × AllForVoter (step_out made past given).handed
unfolding step_out step finished dropped
batcher_hush made past given =
    let d = acted made given.input given.now (begun (standing_after made past)) in
    all_plain made d.dirty d (acted_plain made given.input given.now (begun (standing_after made past)) (tt, tt))

hush_plain : (xs : List Call) → AllHush xs → AllPlain xs
hush_plain [] h = tt
hush_plain (call.Report activity ∷ xs) h = (tt, hush_plain xs h.1)
hush_plain (call.Relay payload plan ∷ xs) h = (tt, hush_plain xs h.1)
hush_plain (call.Block who why ∷ xs) h = (tt, hush_plain xs h.1)
hush_plain (call.Append section artifact ∷ xs) h = absurd h.0
hush_plain (call.Sync section ∷ xs) h = absurd h.0
hush_plain (call.Prune least ∷ xs) h = absurd h.0
hush_plain (call.Send channel to bytes ∷ xs) h = absurd h.0

pub batcher_plain : (made : Made) (past : List Timed) (given : Timed) → AllPlain (step_out made past given).calls
batcher_plain made past given = hush_plain (step_out made past given).calls (batcher_hush made past given).0

-- and no constructed vote
pub for_voter_silent : (hs : List Handed) → AllForVoter hs → AreSilent hs
for_voter_silent [] h = tt
for_voter_silent (handed.Voter message ∷ rest) h = (tt, for_voter_silent rest h.1)
for_voter_silent (handed.Batcher message ∷ rest) h = absurd h.0
for_voter_silent (handed.Resolver message ∷ rest) h = absurd h.0
for_voter_silent (handed.Handler message ∷ rest) h = absurd h.0
