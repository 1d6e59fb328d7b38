-- A start, at genesis or at a floor, and wherever a stop ends it.
use Rattle.std.proofs.Common.{◌≡◌, ℕ, zero, suc, List, [], ◌∷◌, ◌++◌, take, Option, Some, None, refl, sym, ap, ◌∙◌, subst, inl, inr, ◌⊎◌, append-nil, append_assoc}
use Rattle.simplex_values.specs.declared.plan.Channel.TheVariants as channels
use Rattle.simplex_values.specs.declared.proposal.Subject.{Subject}
use Rattle.simplex_wire.specs.declared.vote.Vote.{Vote}
use Rattle.simplex_wire.specs.declared.artifact.Artifact.{Artifact}
use Rattle.model_rules.specs.Known.{Made, Fact}
use Rattle.simplex_journal.specs.Journal.{Section}
use Rattle.simplex_messages.specs.declared.call.Call.{Call}
use Rattle.simplex_messages.specs.declared.call.Call.TheVariants as calls
use Rattle.simplex_messages.specs.declared.step.Stop.{Stop}
use Rattle.simplex_messages.specs.declared.step.Stop.TheVariants as stops
use Rattle.model_steps.specs.Performed.{after_call, after_calls, failing_at, after_failing}
use Rattle.law_agreement.specs.World.{Sent}
use Rattle.law_agreement.specs.Member.{Member}
use Rattle.law_member.specs.Life.{taken, AreSent}
use Rattle.law_member.proofs.Living.{subjects_of}
use Rattle.law_member.proofs.Simulating.{Stores, IsPlain, stores_plain}
use Rattle.law_member.proofs.Replaying.{AllPlain}
use Rattle.law_member.proofs.Stopping.{failing_later}

-- ---- nothing goes out on the vote channel

abbrev pub IsVoteless : Call → Type 0
IsVoteless (calls.Send channels.Vote to bytes) = ⊥
IsVoteless _ = Unit {0}

abbrev pub Voteless : List Call → Type 0
Voteless [] = Unit {0}
Voteless (c ∷ rest) = IsVoteless c × Voteless rest

pub Voteless-append : (xs ys : List Call) → Voteless xs → Voteless ys → Voteless (xs ++ ys)
Voteless-append [] ys p q = q
Voteless-append (x ∷ xs) ys p q = (p.0, Voteless-append xs ys p.1 q)

pub Voteless-take : (n : ℕ) (xs : List Call) → Voteless xs → Voteless (take n xs)
Voteless-take zero xs p = tt
Voteless-take (suc n) [] p = tt
Voteless-take (suc n) (x ∷ xs) p = (p.0, Voteless-take n xs p.1)

pub plain_voteless : (xs : List Call) → AllPlain xs → Voteless xs
plain_voteless [] p = tt
plain_voteless (calls.Report activity ∷ xs) p = (tt, plain_voteless xs p.1)
plain_voteless (calls.Relay payload plan ∷ xs) p = (tt, plain_voteless xs p.1)
plain_voteless (calls.Block who why ∷ xs) p = (tt, plain_voteless xs p.1)
plain_voteless (calls.Send channels.Certificate to bytes ∷ xs) p = (tt, plain_voteless xs p.1)
plain_voteless (calls.Send channels.Vote to bytes ∷ xs) p = absurd p.0
plain_voteless (calls.Send channels.Resolver to bytes ∷ xs) p = absurd p.0
plain_voteless (calls.Append n a ∷ xs) p = absurd p.0
plain_voteless (calls.Sync n ∷ xs) p = absurd p.0
plain_voteless (calls.Prune n ∷ xs) p = absurd p.0

pub none_sent : (cs : List Call) → Voteless cs → AreSent cs []
unfolding AreSent
none_sent [] p = refl
none_sent (calls.Report activity ∷ xs) p = none_sent xs p.1
none_sent (calls.Relay payload plan ∷ xs) p = none_sent xs p.1
none_sent (calls.Block who why ∷ xs) p = none_sent xs p.1
none_sent (calls.Send channels.Certificate to bytes ∷ xs) p = none_sent xs p.1
none_sent (calls.Send channels.Vote to bytes ∷ xs) p = absurd p.0
none_sent (calls.Send channels.Resolver to bytes ∷ xs) p = none_sent xs p.1
none_sent (calls.Append n a ∷ xs) p = none_sent xs p.1
none_sent (calls.Sync n ∷ xs) p = none_sent xs p.1
none_sent (calls.Prune n ∷ xs) p = none_sent xs p.1

only_none : (cs : List Call) (subjects : List Subject) → Voteless cs → AreSent cs subjects → subjects ≡ []
unfolding AreSent
only_none [] subjects p e = e
only_none (calls.Report activity ∷ xs) subjects p e = only_none xs subjects p.1 e
only_none (calls.Relay payload plan ∷ xs) subjects p e = only_none xs subjects p.1 e
only_none (calls.Block who why ∷ xs) subjects p e = only_none xs subjects p.1 e
only_none (calls.Send channels.Certificate to bytes ∷ xs) subjects p e = only_none xs subjects p.1 e
only_none (calls.Send channels.Vote to bytes ∷ xs) subjects p e = absurd p.0
only_none (calls.Send channels.Resolver to bytes ∷ xs) subjects p e = only_none xs subjects p.1 e
only_none (calls.Append n a ∷ xs) subjects p e = only_none xs subjects p.1 e
only_none (calls.Sync n ∷ xs) subjects p e = only_none xs subjects p.1 e
only_none (calls.Prune n ∷ xs) subjects p e = only_none xs subjects p.1 e

no_subject : (sent : List Sent) → subjects_of sent ≡ [] → sent ≡ []
no_subject [] e = refl
no_subject (x ∷ sent) e = cc

pub sent_nothing : (m n : Member) (sent : List Sent) (cs : List Call) → Voteless cs → AreSent cs (subjects_of sent) → n.sent ≡ m.sent ++ sent → n.sent ≡ m.sent
sent_nothing m n sent cs p e same = same ∙ ap (λ xs. m.sent ++ xs) (no_subject sent (only_none cs (subjects_of sent) p e)) ∙ append-nil m.sent

-- a start appends nothing that is not its floor
abbrev pub IsTakeless : Call → Type 0
IsTakeless (calls.Append n a) = ⊥
IsTakeless _ = Unit {0}

abbrev pub Takeless : List Call → Type 0
Takeless [] = Unit {0}
Takeless (c ∷ rest) = IsTakeless c × Takeless rest

pub Takeless-append : (xs ys : List Call) → Takeless xs → Takeless ys → Takeless (xs ++ ys)
Takeless-append [] ys p q = q
Takeless-append (x ∷ xs) ys p q = (p.0, Takeless-append xs ys p.1 q)

pub Takeless-take : (n : ℕ) (xs : List Call) → Takeless xs → Takeless (take n xs)
Takeless-take zero xs p = tt
Takeless-take (suc n) [] p = tt
Takeless-take (suc n) (x ∷ xs) p = (p.0, Takeless-take n xs p.1)

pub plain_takeless : (xs : List Call) → AllPlain xs → Takeless xs
plain_takeless [] p = tt
plain_takeless (calls.Report activity ∷ xs) p = (tt, plain_takeless xs p.1)
plain_takeless (calls.Relay payload plan ∷ xs) p = (tt, plain_takeless xs p.1)
plain_takeless (calls.Block who why ∷ xs) p = (tt, plain_takeless xs p.1)
plain_takeless (calls.Send channel to bytes ∷ xs) p = (tt, plain_takeless xs p.1)
plain_takeless (calls.Append n a ∷ xs) p = absurd p.0
plain_takeless (calls.Sync n ∷ xs) p = absurd p.0
plain_takeless (calls.Prune n ∷ xs) p = absurd p.0

pub none_taken : (cs : List Call) → Takeless cs → taken cs ≡ []
unfolding taken
none_taken [] p = refl
none_taken (calls.Report activity ∷ xs) p = none_taken xs p.1
none_taken (calls.Relay payload plan ∷ xs) p = none_taken xs p.1
none_taken (calls.Block who why ∷ xs) p = none_taken xs p.1
none_taken (calls.Send channel to bytes ∷ xs) p = none_taken xs p.1
none_taken (calls.Append n a ∷ xs) p = absurd p.0
none_taken (calls.Sync n ∷ xs) p = none_taken xs p.1
none_taken (calls.Prune n ∷ xs) p = none_taken xs p.1

-- ---- where a list of plain calls is stopped

pub sim_plains : (made : Made) (m : Member) (cs ds : List Call) (facts : List Fact) (queue : List Vote) → AllPlain ds → Stores made m cs facts queue → Stores made m (cs ++ ds) facts queue
sim_plains made m cs [] facts queue p s = subst (λ xs. Stores made m xs facts queue) (sym (append-nil cs)) s
sim_plains made m cs (d ∷ ds) facts queue p s =
    subst (λ xs. Stores made m xs facts queue) (append_assoc cs (d ∷ []) ds)
    (sim_plains made m (cs ++ d ∷ []) ds facts queue p.1 (stores_plain made m cs facts queue d p.0 s))

pub plain_after : (xs : List Call) (js : List Section) → AllPlain xs → after_calls xs js ≡ js
unfolding after_calls
plain_after [] js p = refl
plain_after (calls.Report activity ∷ xs) js p = plain_after xs js p.1
plain_after (calls.Relay payload plan ∷ xs) js p = plain_after xs js p.1
plain_after (calls.Block who why ∷ xs) js p = plain_after xs js p.1
plain_after (calls.Send channel to bytes ∷ xs) js p = plain_after xs js p.1
plain_after (calls.Append n a ∷ xs) js p = absurd p.0
plain_after (calls.Sync n ∷ xs) js p = absurd p.0
plain_after (calls.Prune n ∷ xs) js p = absurd p.0

pub after_append : (xs ys : List Call) (js : List Section) → after_calls (xs ++ ys) js ≡ after_calls ys (after_calls xs js)
unfolding after_calls
after_append [] ys js = refl
after_append (x ∷ xs) ys js = after_append xs ys (after_call x js)

plain_unfailing : (stop : Stop) (c : Call) (js : List Section) → IsPlain c → after_failing stop c js ≡ js
plain_unfailing stops.None c js p = refl
plain_unfailing (stops.Cut call keep) c js p = refl
plain_unfailing (stops.Fail call keep) (calls.Report activity) js p = refl
plain_unfailing (stops.Fail call keep) (calls.Relay payload plan) js p = refl
plain_unfailing (stops.Fail call keep) (calls.Block who why) js p = refl
plain_unfailing (stops.Fail call keep) (calls.Send channel to bytes) js p = refl
plain_unfailing (stops.Fail call keep) (calls.Append n a) js p = absurd p
plain_unfailing (stops.Fail call keep) (calls.Sync n) js p = absurd p
plain_unfailing (stops.Fail call keep) (calls.Prune n) js p = absurd p

append_unfailing : (stop : Stop) (n : ℕ) (a : Artifact) (js : List Section) → after_failing stop (calls.Append n a) js ≡ js
append_unfailing stops.None n a js = refl
append_unfailing (stops.Cut call keep) n a js = refl
append_unfailing (stops.Fail call keep) n a js = refl

-- before the append or behind it
abbrev pub IsBefore : Stop → List Call → ℕ → Type 0
IsBefore stop cs place = AllPlain (take place cs) × ((js : List Section) → failing_at stop cs place js ≡ js)

abbrev pub IsBehind : Stop → List Call → Call → List Call → ℕ → Type 0
IsBehind stop plain c rest place =
    (k : ℕ) × (take place (plain ++ (c ∷ rest)) ≡ plain ++ (c ∷ take k rest))
    × ((js : List Section) → failing_at stop (plain ++ (c ∷ rest)) place js ≡ failing_at stop rest k js)

pub split_at : (stop : Stop) (plain : List Call) (n : ℕ) (a : Artifact) (rest : List Call) (place : ℕ) → AllPlain plain
    → IsBefore stop (plain ++ (calls.Append n a ∷ rest)) place ⊎ IsBehind stop plain (calls.Append n a) rest place
split_at stop [] n a rest zero p = inl (tt, λ js. append_unfailing stop n a js)
split_at stop [] n a rest (suc k) p = inr (k, refl, λ js. failing_later stop (calls.Append n a) rest k js)
split_at stop (c ∷ plain) n a rest zero p = inl (tt, λ js. plain_unfailing stop c js p.0)
split_at stop (c ∷ plain) n a rest (suc place) p =
    elim (split_at stop plain n a rest place p.1) [
      | inl before ↦ inl ((p.0, before.0), λ js. failing_later stop c (plain ++ (calls.Append n a ∷ rest)) place js ∙ before.1 js)
      | inr b ↦ inr (b.0, ap (λ xs. c ∷ xs) b.1, λ js. failing_later stop c (plain ++ (calls.Append n a ∷ rest)) place js ∙ b.2 js)
    ]

-- ---- the start of the first iteration

abbrev pub tail_of : Option ℕ → List Call
tail_of None = []
tail_of (Some least) = calls.Prune least ∷ []
