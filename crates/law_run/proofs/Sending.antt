-- What a call of a node sends is within the limit.
use Rattle.std.proofs.Common.{◌≡◌, ℕ, ◌<◌, ◌≤◌, List, [], ◌∷◌, length, Contains, refl, sym, subst}
use Rattle.simplex_values.specs.declared.plan.Channel.TheVariants as channels
use Rattle.simplex_values.specs.declared.plan.Recipients.{Recipients}
use Rattle.simplex_wire.specs.declared.certificate.Certificate.{Certificate}
use Rattle.simplex_wire.specs.declared.resolver.ResolverBody.{ResolverBody}
use Rattle.simplex_wire.specs.declared.resolver.ResolverBody.TheVariants as bodies
use Rattle.simplex_wire.specs.Message as format
use Rattle.simplex_wire.specs.ResolverMessage.{resolver_message}
use Rattle.simplex_messages.specs.declared.call.Call.{Call}
use Rattle.simplex_messages.specs.declared.call.Call.TheVariants as calls
use Rattle.simplex_transcript.specs.declared.entry.Packet.{Packet}
use Rattle.simplex_transcript.specs.declared.node.Node.{Node}
use Rattle.simplex_transcript.specs.declared.setup.Setup.{Setup}
use Rattle.model_run.specs.Setting.{Setting}
use Rattle.model_run.specs.Life.{Noted}
use Rattle.model_run.specs.Members.{members_of}
use Rattle.model_run.specs.Entries.{packets_of}
use Rattle.law_run.specs.Faulty.{faulty_of}
use Rattle.law_run.specs.Histories.{calls_of}
use Rattle.law_run.specs.Sayings.{Each, InBody, InCall}
use Rattle.law_run.proofs.Nodes.{node_lives}
use Rattle.law_run.specs.MostlyHonest.{IsMostlyHonest}
use Rattle.law_run.proofs.Backers.{Backers}
use Rattle.law_run.proofs.Good.{IsGood, signatures_few}
use Rattle.law_run.proofs.Owning.{went_own}
use Rattle.law_run.proofs.Packets.{fits_vote}
use Rattle.law_run.proofs.Signing.{rules_own}
use Rattle.law_run.proofs.Worlds.{floors_hold, sized_of}
use Rattle.simplex_report.specs.Limit.{longest_payload}
use Rattle.simplex_report.proofs.Lengths.{vote_within, certificate_within, request_within, error_within, response_within}

-- ---- calls and packets

-- the call sends no more bytes than so many
abbrev pub SendsAtMost : ℕ → Call → Type 0
SendsAtMost most (calls.Send channel to bytes) = length bytes ≤ most
SendsAtMost most _ = Unit {0}

abbrev pub HasAtMost : ℕ → Packet → Type 0
HasAtMost most p = length p.bytes ≤ most

pub packets_short : (setup : Setup) (at : Node) (most : ℕ) (cs : List Call) → Each (SendsAtMost most) cs → Each (HasAtMost most) (packets_of setup at cs)
packets_short setup at most [] h = tt
packets_short setup at most (calls.Send channel to bytes ∷ rest) h = (h.0, packets_short setup at most rest h.1)
packets_short setup at most (calls.Append n a ∷ rest) h = packets_short setup at most rest h.1
packets_short setup at most (calls.Sync n ∷ rest) h = packets_short setup at most rest h.1
packets_short setup at most (calls.Prune n ∷ rest) h = packets_short setup at most rest h.1
packets_short setup at most (calls.Report activity ∷ rest) h = packets_short setup at most rest h.1
packets_short setup at most (calls.Relay payload plan ∷ rest) h = packets_short setup at most rest h.1
packets_short setup at most (calls.Block who why ∷ rest) h = packets_short setup at most rest h.1

-- ---- certificates, and answers with one

module _ (backers : Backers) (few : members_of backers.setting.setup ≤ 1024) where
  abbrev limit : ℕ
  limit = longest_payload (members_of backers.setting.setup)

  certificate_short : (c : Certificate) → IsGood backers c → length (format.certificate.spelling c) ≤ limit
  certificate_short c g = certificate_within (members_of backers.setting.setup) c few (signatures_few backers.setting.setup c g.verifies) g.fits

  message_short : (id : ℕ) (body : ResolverBody) → InBody (IsGood backers) body → length (resolver_message.spelling (record { id = id; body = body })) ≤ limit
  message_short id (bodies.Request view) h = request_within (members_of backers.setting.setup) id view
  message_short id (bodies.Response bytes) h =
      let g = h.2 in
      subst (λ (xs : List ℕ). length (resolver_message.spelling (record { id = id; body = bodies.Response xs })) ≤ limit) (sym h.1)
      (response_within (members_of backers.setting.setup) id h.0 few (signatures_few backers.setting.setup h.0 g.verifies) g.fits)
  message_short id bodies.Error h = error_within (members_of backers.setting.setup) id

  -- a call, where its vote is short
  pub call_short : (call : Call) → InCall (IsGood backers) call → ((to : Recipients) (bytes : List ℕ) → call ≡ calls.Send channels.Vote to bytes → length bytes ≤ limit) → SendsAtMost limit call
  call_short (calls.Send channels.Vote to bytes) h vote = vote to bytes refl
  call_short (calls.Send channels.Certificate to bytes) h vote = subst (λ (xs : List ℕ). length xs ≤ limit) (sym h.2) (certificate_short h.1 h.3)
  call_short (calls.Send channels.Resolver to bytes) h vote = (let m = h.0 in subst (λ (xs : List ℕ). length xs ≤ limit) (sym h.1) (message_short m.id m.body h.2))
  call_short (calls.Append n a) h vote = tt
  call_short (calls.Sync n) h vote = tt
  call_short (calls.Prune n) h vote = tt
  call_short (calls.Report activity) h vote = tt
  call_short (calls.Relay payload plan) h vote = tt
  call_short (calls.Block who why) h vote = tt

-- ---- votes

-- what a node of a member that is not faulty sent on the vote channel is a vote that keeps to its types
pub vote_short : (setting : Setting) (noted : List Noted) (node : Node) (to : Recipients) (bytes : List ℕ) → IsMostlyHonest setting noted → node.member < members_of setting.setup → ¬ (Contains (faulty_of setting.setup) node.member)
    → Contains (calls_of node noted) (calls.Send channels.Vote to bytes) → length bytes ≤ longest_payload (members_of setting.setup)
vote_short setting noted node to bytes o below honest k =
    let lived = node_lives setting noted node o.term honest o.ran (floors_hold setting noted o) in
    let sent = went_own setting node noted to bytes o.epoch lived.stored o.typed k in
    let own = sent.own in
    let signed = (rules_own setting node.member 0 below (sized_of setting noted o) sent.vote own.0).1 in
    subst (λ (xs : List ℕ). length xs ≤ longest_payload (members_of setting.setup)) (sym sent.spelled)
    (vote_within (members_of setting.setup) sent.vote o.some (fits_vote sent.vote sent.fits signed))
