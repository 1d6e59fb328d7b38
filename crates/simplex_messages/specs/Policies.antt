-- What becomes of a message for which a mailbox has no room: the four policies, and when a requester leaves.
use Rattle.std.specs.Prelude.{ℕ, ◌==◌, nat_lt, nat_le, Bool, true, false, not, ◌&&◌, ◌||◌, if◌then◌else◌, map, filter, Option, Some, None}
use Rattle.std.specs.List.{list_any}
use Rattle.simplex_values.specs.declared.ask.Kind.{Kind}
use Rattle.simplex_values.specs.declared.ask.Kind.TheVariants as kind
use Rattle.simplex_values.specs.declared.timeout.TimeoutReason.{TimeoutReason}
use Rattle.simplex_values.specs.declared.timeout.TimeoutReason.TheVariants.{Inactivity, LeaderNullify}
use Rattle.simplex_wire.specs.declared.certificate.Certificate.{Certificate}
use Rattle.simplex_wire.specs.declared.certificate.Certificate.TheVariants as certificates
use Rattle.simplex_wire.specs.declared.vote.Vote.{Vote}
use Rattle.simplex_wire.specs.declared.vote.Vote.TheVariants as votes
use Rattle.simplex_wire.specs.Fields.{certificate_kind}
pub use Rattle.simplex_wire.specs.Fields.{certificate_view, vote_kind, vote_view}
use Rattle.model_rules.specs.Known.{is_same_kind}
use Rattle.simplex_mailbox.specs.Waiting.{Waiting, put_last}
use Rattle.simplex_messages.specs.declared.batcher.Message as batcher_message
use Rattle.simplex_messages.specs.declared.batcher.Message.TheVariants as batcher
use Rattle.simplex_messages.specs.declared.voter.Message as voter_message
use Rattle.simplex_messages.specs.declared.voter.Message.TheVariants as voter
use Rattle.simplex_messages.specs.declared.resolver.MailboxMessage.{MailboxMessage}
use Rattle.simplex_messages.specs.declared.resolver.MailboxMessage.TheVariants as resolver
use Rattle.simplex_messages.specs.declared.resolver.HandlerMessage.{HandlerMessage}
use Rattle.simplex_messages.specs.declared.resolver.HandlerMessage.TheVariants as handler

-- ---- what certificates and votes are about

-- whether it finalizes
abbrev pub is_finalization : Certificate → Bool
is_finalization (certificates.Finalization c) = true
is_finalization _ = false

-- whether two certificates are of one view and kind
abbrev pub are_alike : Certificate → Certificate → Bool
are_alike c d = certificate_view c == certificate_view d && is_same_kind (certificate_kind c) (certificate_kind d)

-- whether the same is asked for
abbrev pub are_same_ask : Kind → Kind → Bool
are_same_ask kind.Nullification kind.Nullification = true
are_same_ask kind.Notarization kind.Notarization = true
are_same_ask _ _ = false

-- ---- by view: the voter and the resolver

-- whether a finalization is queued that is at or above a view
abbrev pub is_final_from : {M : Type 0} → (view_of : M → ℕ) → Option M → ℕ → Bool
is_final_from view_of None view = false
is_final_from view_of (Some final) view = nat_le view (view_of final)

-- A queued finalization at or above the message's view drops it. A finalization takes the place, and of the others
-- those stay that outlast it. A message that a queued one stands for changes that one, and is not queued itself.
-- Else it is last.
unfoldable pub handled_by_view : {M : Type 0} → (view_of : M → ℕ) (is_final : M → Bool)
    (outlasts stands_for : M → M → Bool) (changed_by : M → M → M) → Waiting M → M → Waiting M
handled_by_view view_of is_final outlasts stands_for changed_by waiting message =
    if is_final_from view_of waiting.place (view_of message) then waiting
    else if is_final message
    then record { place = Some message; rest = filter (λ queued. outlasts queued message) waiting.rest }
    else if list_any (λ queued. stands_for queued message) waiting.rest
    then record waiting { rest = map (changed_by message) waiting.rest }
    else put_last waiting message

-- ---- the voter

abbrev pub voter_view : voter_message.Message → ℕ
voter_view (voter.Proposal proposal) = proposal.round.view
voter_view (voter.Timeout round reason) = round.view
voter_view (voter.Verified certificate) = certificate_view certificate

abbrev pub is_final_for_voter : voter_message.Message → Bool
is_final_for_voter (voter.Verified certificate) = is_finalization certificate
is_final_for_voter _ = false

-- a proposal or a timeout of one view, a certificate of one view and kind
abbrev pub stands_for_voter : (queued message : voter_message.Message) → Bool
stands_for_voter (voter.Proposal p) (voter.Proposal q) = p.round.view == q.round.view
stands_for_voter (voter.Timeout r reason) (voter.Timeout s other) = r.view == s.view
stands_for_voter (voter.Verified c) (voter.Verified d) = are_alike c d
stands_for_voter _ _ = false

-- the leader's nullify says more than that the leader seems to be gone
abbrev pub outranks : TimeoutReason → TimeoutReason → Bool
outranks LeaderNullify Inactivity = true
outranks _ _ = false

-- the queued message once this one came: a timeout of its view for inactivity gives way to one for the leader's nullify
abbrev pub changed_for_voter : (message queued : voter_message.Message) → voter_message.Message
changed_for_voter (voter.Timeout round reason) (voter.Timeout old other) =
    if old.view == round.view && outranks reason other then voter.Timeout round reason else voter.Timeout old other
changed_for_voter _ queued = queued

-- what is above a finalization's view outlasts it
abbrev pub outlasts_for_voter : (queued final : voter_message.Message) → Bool
outlasts_for_voter queued final = nat_lt (voter_view final) (voter_view queued)

unfoldable pub voter_handled : Waiting voter_message.Message → voter_message.Message → Waiting voter_message.Message
voter_handled = handled_by_view voter_view is_final_for_voter outlasts_for_voter stands_for_voter changed_for_voter

-- ---- the resolver

-- of a Resolve the view whose certificate is missing; Replayed is of none
abbrev pub resolver_view : MailboxMessage → ℕ
resolver_view (resolver.Updated certificate) = certificate_view certificate
resolver_view (resolver.Certified notarization success) = notarization.proposal.round.view
resolver_view (resolver.Resolve proposal view kind target) = view
resolver_view resolver.Replayed = 0

abbrev pub is_final_for_resolver : MailboxMessage → Bool
is_final_for_resolver (resolver.Updated certificate) = is_finalization certificate
is_final_for_resolver _ = false

abbrev pub is_replayed : MailboxMessage → Bool
is_replayed resolver.Replayed = true
is_replayed _ = false

-- a certificate of one view and kind, a verdict on one view, a Resolve of one proposal, view and kind
abbrev pub stands_for_resolver : (queued message : MailboxMessage) → Bool
stands_for_resolver (resolver.Updated c) (resolver.Updated d) = are_alike c d
stands_for_resolver (resolver.Certified n success) (resolver.Certified m other) =
    n.proposal.round.view == m.proposal.round.view
stands_for_resolver (resolver.Resolve p v k t) (resolver.Resolve q w l u) = p == q && v == w && are_same_ask k l
stands_for_resolver _ _ = false

-- the queued message once this one came: a Resolve loses its target where the same came without one
abbrev pub changed_for_resolver : (message queued : MailboxMessage) → MailboxMessage
changed_for_resolver (resolver.Resolve q w l None) (resolver.Resolve p v k t) =
    resolver.Resolve p v k (if p == q && v == w && are_same_ask k l then None else t)
changed_for_resolver _ queued = queued

-- what is above a finalization's view outlasts it, and so does Replayed
abbrev pub outlasts_for_resolver : (queued final : MailboxMessage) → Bool
outlasts_for_resolver queued final = is_replayed queued || nat_lt (resolver_view final) (resolver_view queued)

-- Replayed is last, whatever else is queued
unfoldable pub resolver_handled : Waiting MailboxMessage → MailboxMessage → Waiting MailboxMessage
resolver_handled waiting message =
    if is_replayed message then put_last waiting message
    else handled_by_view resolver_view is_final_for_resolver
    outlasts_for_resolver stands_for_resolver changed_for_resolver waiting message

-- ---- the batcher

-- whether an update to this current and this finalized view makes a vote needless
abbrev pub outdates : (current finalized : ℕ) → Vote → Bool
outdates current finalized (votes.Finalize v) = nat_le v.proposal.round.view finalized
outdates current finalized vote = nat_lt (vote_view vote) current || nat_le (vote_view vote) finalized

abbrev pub outdates_message : (current finalized : ℕ) → batcher_message.Message → Bool
outdates_message current finalized (batcher.Constructed vote) = outdates current finalized vote
outdates_message current finalized (batcher.Update c leader f proposal) = false

-- whether an update is queued that is as great, by the current view and then by the finalized one
abbrev pub is_as_great : Option batcher_message.Message → (current finalized : ℕ) → Bool
is_as_great (Some (batcher.Update c leader f proposal)) current finalized =
    nat_lt current c || (c == current && nat_le finalized f)
is_as_great _ current finalized = false

-- whether an update is queued that makes the vote needless
abbrev pub is_outdated : Option batcher_message.Message → Vote → Bool
is_outdated (Some (batcher.Update c leader f proposal)) vote = outdates c f vote
is_outdated _ vote = false

-- whether it is a vote that the queued update, if there is one, makes needless
abbrev pub is_needless : Option batcher_message.Message → batcher_message.Message → Bool
is_needless place (batcher.Constructed vote) = is_outdated place vote
is_needless place (batcher.Update c leader f proposal) = false

-- a vote of one view and kind
abbrev pub stands_for_batcher : (queued message : batcher_message.Message) → Bool
stands_for_batcher (batcher.Constructed v) (batcher.Constructed w) =
    vote_view v == vote_view w && is_same_kind (vote_kind v) (vote_kind w)
stands_for_batcher _ _ = false

-- An update takes the place unless the queued one is as great, and of the votes those stay that it does not make
-- needless. A vote is last, unless the queued update makes it needless or one of its view and kind is queued.
unfoldable pub batcher_handled : Waiting batcher_message.Message
    → batcher_message.Message → Waiting batcher_message.Message
batcher_handled waiting (batcher.Update current leader finalized proposal) =
    if is_as_great waiting.place current finalized then waiting
    else record {
      place = Some (batcher.Update current leader finalized proposal);
      rest = filter (λ queued. not (outdates_message current finalized queued)) waiting.rest;
    }
batcher_handled waiting (batcher.Constructed vote) =
    if is_outdated waiting.place vote
    || list_any (λ queued. stands_for_batcher queued (batcher.Constructed vote)) waiting.rest
    then waiting
    else put_last waiting (batcher.Constructed vote)

-- ---- the resolver's handler

-- whether its requester left
abbrev pub has_left : HandlerMessage → Bool
has_left (handler.Deliver id view bytes asks waiting) = not waiting
has_left (handler.Produce id view) = false

-- a request to be served is dropped, and a response is queued where its requester waits
unfoldable pub handler_handled : Waiting HandlerMessage → HandlerMessage → Waiting HandlerMessage
handler_handled waiting (handler.Produce id view) = waiting
handler_handled waiting (handler.Deliver id view bytes asks waits) =
    if waits then put_last waiting (handler.Deliver id view bytes asks waits) else waiting

-- the message once the requester of this number left
abbrev pub handler_leave : ℕ → HandlerMessage → HandlerMessage
handler_leave left (handler.Deliver id view bytes asks waiting) =
    handler.Deliver id view bytes asks (waiting && not (id == left))
handler_leave left (handler.Produce id view) = handler.Produce id view
