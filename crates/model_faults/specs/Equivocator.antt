-- A leader that proposes two payloads, one to one member and one to the others.
use Rattle.std.specs.Option.{option_map_or}
use Rattle.std.specs.Prelude.{ℕ, ◌+◌, ◌-◌, ◌^◌, ◌%◌, ◌==◌, ◌&&◌, ◌||◌, nat_lt, Bool, false, not, List, [], ◌∷◌, ◌++◌, filter, Option, Some, None, option_map, option_to_list, slice_index, if◌then◌else◌}
use Rattle.std.specs.List.{range_with_len}
use Rattle.simplex_values.specs.declared.plan.Channel.TheVariants as channels
use Rattle.simplex_values.specs.declared.plan.Recipients.{Recipients}
use Rattle.simplex_values.specs.declared.plan.Recipients.TheVariants as recipients
use Rattle.simplex_values.specs.declared.proposal.Proposal.{Proposal}
use Rattle.simplex_values.specs.declared.proposal.Subject.{Subject}
use Rattle.simplex_values.specs.declared.proposal.Subject.TheVariants as subjects
use Rattle.simplex_values.specs.declared.round.Round.{Round}
use Rattle.simplex_wire.specs.declared.attestation.Attestation.{Attestation}
use Rattle.simplex_wire.specs.declared.certificate.Certificate.{Certificate}
use Rattle.simplex_wire.specs.declared.certificate.Certificate.TheVariants as certificates
use Rattle.simplex_wire.specs.declared.vote.Vote.{Vote}
use Rattle.simplex_wire.specs.Message as message
use Rattle.model_faults.specs.declared.sent.Sent.{Sent}
use Rattle.model_faults.specs.Heard.{Heard, certificate_heard, own_vote}
use Rattle.model_faults.specs.Payload.{payload_digest}
use Rattle.model_faults.specs.Words.{Words}

-- what it is made with: what it signs, who leads a round, its own number, how many members there are, its epoch,
-- and the random words
pub record Made : Type 0 where
  pub attests : Subject → Option Attestation
  pub leader : Round → ℕ
  pub me : Option ℕ
  pub members : ℕ
  pub epoch : ℕ
  pub words : Words

-- the proposal of a notarization or finalization
abbrev pub proposal_in : Option Certificate → Option Proposal
proposal_in (Some (certificates.Notarization c)) = Some c.proposal
proposal_in (Some (certificates.Finalization c)) = Some c.proposal
proposal_in _ = None

-- the round of the next view, in the own epoch
abbrev pub next_round : Made → ℕ → Round
next_round made view = record { epoch = made.epoch; view = view + 1 }

-- whether it leads the next view, and has another to send to; the last view has no next one
abbrev pub leads_next : Made → ℕ → Bool
leads_next made view =
    nat_lt view (2 ^ 64 - 1) && nat_lt 1 made.members
    && option_map_or (λ me. made.leader (next_round made view) == me) made.me false

abbrev pub is_of_view : ℕ → Option Proposal → Bool
is_of_view view proposal = option_map_or (λ p. view == p.round.view) proposal false

-- whether a notarization or finalization of the view was heard
unfoldable pub was_heard : List Heard → ℕ → Bool
was_heard [] view = false
was_heard (heard ∷ before) view = is_of_view view (proposal_in (certificate_heard heard)) || was_heard before view

-- the proposal that it is to answer: that of the first notarization or finalization of a view, where it leads the next
abbrev pub if_answered : Made → List Heard → Option Proposal → Option Proposal
if_answered made before None = None
if_answered made before (Some p) =
    if leads_next made p.round.view && not (was_heard before p.round.view) then Some p else None

unfoldable pub answered : Made → List Heard → Heard → Option Proposal
answered made before heard = if_answered made before (proposal_in (certificate_heard heard))

-- how many words the answers so far took: three each
unfoldable pub equivocator_drew : Made → List Heard → ℕ
equivocator_drew made [] = 0
equivocator_drew made (heard ∷ before) =
    equivocator_drew made before + option_map_or (λ p. 3) (answered made before heard) 0

-- the other members, in rising order
abbrev pub others_than : ℕ → ℕ → List ℕ
others_than n member = filter (λ m. not (m == member)) (range_with_len 0 n)

-- the own notarize of a payload with this word, on the certified proposal
abbrev pub notarize_with : Made → Proposal → ℕ → Option Vote
notarize_with made parent word =
    (let round = next_round made parent.round.view in
    own_vote made.attests (subjects.Notarize
    (record { round = round; parent = parent.round.view; payload = payload_digest round parent.payload word })))

abbrev pub to_members : Recipients → Vote → Sent
to_members members vote = record { channel = channels.Vote; recipients = members; bytes = message.vote.spelling vote }

-- the votes on this proposal: a word names who gets the first vote, by its place among the others, and the others get
-- the second; each payload has a word of its own
unfoldable pub equivocates : Made → (me : ℕ) → Proposal → (word first second : ℕ) → List Sent
equivocates made me parent word first second =
    (let others = others_than made.members me in
    let victim = slice_index others (word % (made.members - 1)) in
    option_to_list (option_map (to_members (recipients.One victim)) (notarize_with made parent first))
    ++ option_to_list (option_map (to_members (recipients.Some (filter (λ m. not (m == victim)) others)))
    (notarize_with made parent second)))

abbrev pub if_equivocates : Made → Option ℕ → ℕ → Option Proposal → List Sent
if_equivocates made (Some me) place (Some parent) =
    equivocates made me parent (made.words place) (made.words (place + 1)) (made.words (place + 2))
if_equivocates made _ place _ = []

unfoldable pub equivocator_sends : Made → List Heard → Heard → List Sent
equivocator_sends made before heard =
    if_equivocates made made.me (equivocator_drew made before) (answered made before heard)
