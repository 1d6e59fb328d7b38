-- Each vote that a step hands to the batcher as constructed is one that the member sent.
use Rattle.std.proofs.Common.{◌≡◌, List, [], ◌∷◌, ◌++◌, map, Contains, refl, sym, subst}
use Rattle.std.proofs.lemmas.List.{map-append}
use Rattle.std.proofs.lemmas.List.Elements.{Contains-append_left, Contains-append_right}
use Rattle.simplex_values.specs.declared.plan.Channel.TheVariants as channels
use Rattle.simplex_values.specs.declared.plan.Recipients.TheVariants as recipients
use Rattle.simplex_values.specs.declared.proposal.Subject.{Subject}
use Rattle.simplex_wire.specs.declared.vote.Vote.{Vote}
use Rattle.simplex_wire.specs.Fields.{vote_subject}
use Rattle.simplex_wire.specs.Message as format
use Rattle.simplex_messages.specs.declared.call.Call.{Call}
use Rattle.simplex_messages.specs.declared.call.Call.TheVariants as calls
use Rattle.simplex_messages.specs.declared.handed.Handed.{Handed}
use Rattle.simplex_messages.specs.declared.handed.Handed.TheVariants as handed
use Rattle.simplex_messages.specs.declared.batcher.Message.TheVariants as batcher
use Rattle.model_rules.specs.Known.{Made, Fact}
use Rattle.law_agreement.specs.World.{Sent}
use Rattle.law_agreement.proofs.ListFacts.{Contains-here}
use Rattle.law_agreement.specs.Member.{Member}
use Rattle.law_member.specs.Life.{IsVoteSent, AreVotesSent}
use Rattle.law_member.proofs.Facts.{SameMemory}
use Rattle.law_member.proofs.Living.{behind, subjects_of, first_out}
use Rattle.law_member.proofs.Simulating.{Stores, IsPlain, behind-push, plain_behind, stores_known, stores_plain, stores_send}

-- no constructed vote
abbrev pub IsSilent : Handed → Type 0
IsSilent (handed.Batcher (batcher.Constructed v)) = ⊥
IsSilent _ = Unit {0}

abbrev pub AreSilent : List Handed → Type 0
AreSilent [] = Unit {0}
AreSilent (h ∷ rest) = IsSilent h × AreSilent rest

pub AreSilent-append : (xs ys : List Handed) → AreSilent xs → AreSilent ys → AreSilent (xs ++ ys)
AreSilent-append [] ys h k = k
AreSilent-append (x ∷ xs) ys h k = (h.0, AreSilent-append xs ys h.1 k)

pub AreSilent-map : {A : Type 0} (f : A → Handed) (xs : List A) → ((a : A) → IsSilent (f a)) → AreSilent (map f xs)
AreSilent-map f [] e = tt
AreSilent-map f (x ∷ xs) e = (e x, AreSilent-map f xs e)

silent_sent : (sent : List Sent) (h : Handed) → IsSilent h → IsVoteSent sent h
silent_sent sent (handed.Batcher (batcher.Constructed v)) s = absurd s
silent_sent sent (handed.Batcher (batcher.Update current leader finalized proposal)) s = tt
silent_sent sent (handed.Voter message) s = tt
silent_sent sent (handed.Resolver message) s = tt
silent_sent sent (handed.Handler message) s = tt

pub all_silent : (sent : List Sent) (hs : List Handed) → AreSilent hs → AreVotesSent sent hs
all_silent sent [] s = tt
all_silent sent (h ∷ rest) s = (silent_sent sent h s.0, all_silent sent rest s.1)

pub AreVotesSent-append : (sent : List Sent) (xs ys : List Handed) → AreVotesSent sent xs → AreVotesSent sent ys → AreVotesSent sent (xs ++ ys)
AreVotesSent-append sent [] ys h k = k
AreVotesSent-append sent (x ∷ xs) ys h k = (h.0, AreVotesSent-append sent xs ys h.1 k)

-- it lasts as more is sent
sent_more : (sent more : List Sent) (h : Handed) → IsVoteSent sent h → IsVoteSent (sent ++ more) h
sent_more sent more (handed.Batcher (batcher.Constructed v)) s =
    subst (λ xs. Contains xs (vote_subject v)) (sym (map-append (λ (x : Sent). x.subject) sent more)) (Contains-append_left (subjects_of sent) (subjects_of more) (vote_subject v) s)
sent_more sent more (handed.Batcher (batcher.Update current leader finalized proposal)) s = tt
sent_more sent more (handed.Voter message) s = tt
sent_more sent more (handed.Resolver message) s = tt
sent_more sent more (handed.Handler message) s = tt

pub AreVotesSent-more : (sent more : List Sent) (hs : List Handed) → AreVotesSent sent hs → AreVotesSent (sent ++ more) hs
AreVotesSent-more sent more [] s = tt
AreVotesSent-more sent more (h ∷ rest) s = (sent_more sent more h s.0, AreVotesSent-more sent more rest s.1)

-- ---- what a step has done so far, and what it handed on

pub record Published (made : Made) (m : Member) (cs : List Call) (hs : List Handed) (facts : List Fact) (queue : List Vote) : Type 0 where
  pub stores : Stores made m cs facts queue
  pub constructed : AreVotesSent (behind m cs).sent hs

pub published_known : (made : Made) (m : Member) (cs : List Call) (hs : List Handed) (facts later : List Fact) (queue : List Vote) → SameMemory made facts later
    → Published made m cs hs facts queue → Published made m cs hs later queue
published_known made m cs hs facts later queue same p = record { stores = stores_known made m cs facts later queue same p.stores; constructed = p.constructed }

pub published_plain : (made : Made) (m : Member) (cs : List Call) (hs : List Handed) (facts : List Fact) (queue : List Vote) (c : Call) → IsPlain c
    → Published made m cs hs facts queue → Published made m (cs ++ c ∷ []) hs facts queue
published_plain made m cs hs facts queue c plain p =
    record {
      stores = stores_plain made m cs facts queue c plain p.stores;
      constructed = subst (λ (n : Member). AreVotesSent n.sent hs) (sym (plain_behind m cs c plain)) p.constructed;
    }

pub published_hand : (made : Made) (m : Member) (cs : List Call) (hs : List Handed) (facts : List Fact) (queue : List Vote) (h : Handed) → IsSilent h
    → Published made m cs hs facts queue → Published made m cs (hs ++ h ∷ []) facts queue
published_hand made m cs hs facts queue h silent p =
    record {
      stores = p.stores;
      constructed = AreVotesSent-append (behind m cs).sent hs (h ∷ []) p.constructed (silent_sent (behind m cs).sent h silent, tt);
    }

here : (xs : List Sent) (x : Sent) (s : Subject) → x.subject ≡ s → Contains (subjects_of (xs ++ x ∷ [])) s
here xs x s e =
    subst (λ ys. Contains ys s) (sym (map-append (λ (y : Sent). y.subject) xs (x ∷ [])))
    (Contains-append_right (subjects_of xs) (x.subject ∷ []) s (subst (λ t. Contains (x.subject ∷ []) t) e (Contains-here x.subject [])))

pub published_send : (made : Made) (m : Member) (cs : List Call) (hs : List Handed) (facts : List Fact) (queue : List Vote) (v : Vote)
    → Published made m cs hs facts (v ∷ queue)
    → Published made m (cs ++ calls.Send channels.Vote recipients.All (format.vote.spelling v) ∷ []) (hs ++ handed.Batcher (batcher.Constructed v) ∷ []) facts queue
published_send made m cs hs facts queue v p =
    let now = behind m cs in
    let c = calls.Send channels.Vote recipients.All (format.vote.spelling v) in
    let x = first_out now now.outbox (vote_subject v) (map vote_subject queue) refl p.stores.sim.box in
    record {
      stores = stores_send made m cs facts queue v p.stores;
      constructed = subst (λ (n : Member). AreVotesSent n.sent (hs ++ handed.Batcher (batcher.Constructed v) ∷ [])) (sym (behind-push m cs c))
          (subst (λ sent. AreVotesSent sent (hs ++ handed.Batcher (batcher.Constructed v) ∷ [])) (sym x.2)
          (AreVotesSent-append (now.sent ++ x.0 ∷ []) hs (handed.Batcher (batcher.Constructed v) ∷ [])
          (AreVotesSent-more now.sent (x.0 ∷ []) hs p.constructed)
          (here now.sent x.0 (vote_subject v) x.1, tt)));
    }
