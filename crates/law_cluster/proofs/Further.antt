-- What a member lives more, and that lives go on from one another.
use Rattle.std.proofs.Common.{◌≡◌, ℕ, ◌<◌, List, [], ◌∷◌, ◌++◌, Contains, refl, sym, ap, ◌∙◌, subst, inl, inr, ◌⊎◌, append_assoc}
use Rattle.std.proofs.lemmas.List.{map-append}
use Rattle.std.proofs.lemmas.List.Elements.{Contains-append_left, Contains-append_right, Contains-append_cases}
use Rattle.simplex_values.specs.declared.plan.Channel.TheVariants as channels
use Rattle.simplex_values.specs.declared.proposal.Subject.{Subject}
use Rattle.simplex_values.specs.declared.proposal.Subject.TheVariants as subjects
use Rattle.simplex_values.specs.declared.round.Round.{Round}
use Rattle.simplex_values.specs.Terms.{greatest_view}
use Rattle.simplex_journal.specs.Journal.{Section}
use Rattle.simplex_messages.specs.declared.call.Call.{Call}
use Rattle.simplex_messages.specs.declared.call.Call.TheVariants as calls
use Rattle.simplex_messages.specs.declared.handed.Handed.{Handed}
use Rattle.model_rules.specs.Known.{Made}
use Rattle.model_steps.specs.Engine.{voter_in}
use Rattle.model_run.specs.Life as ran
use Rattle.law_agreement.specs.World as agreement
use Rattle.law_agreement.specs.World.{Sent}
use Rattle.law_agreement.specs.Member as life
use Rattle.law_agreement.specs.Member.{Member, run, IsLegal}
use Rattle.law_agreement.proofs.CallFacts.{run-append, IsLegal-append, brought-append}
use Rattle.law_member.specs.Evidence.{subjects_of}
use Rattle.law_member.specs.Life.{certificate_in, taken, vote_in, voted, AreSent, AreVotesSent, IsRunning, IsStopped}
use Rattle.law_member.proofs.Constructing.{AreVotesSent-append, AreVotesSent-more}
use Rattle.law_run.proofs.Events.{place_in}

-- ---- where a member is

-- it is stopped, for whatever rules of this epoch
abbrev pub IsStoppedIn : ℕ → List Section → Member → Type 0
IsStoppedIn epoch js m = (rules : Made) → rules.epoch ≡ epoch → IsStopped rules js m

pub stopped_in : (epoch : ℕ) (rules : Made) (js : List Section) (m : Member) → rules.epoch ≡ epoch → IsStopped rules js m → IsStoppedIn epoch js m
stopped_in epoch rules js m e s other f =
    record { up = s.up; blank = s.blank; journal = s.journal; stored = s.stored; rising = s.rising; own = λ v k. s.own v k ∙ e ∙ sym f }

-- the member is where an engine is that runs, or where a journal is
abbrev pub IsAt : ℕ → ran.Life → Member → Type 0
IsAt epoch (ran.Stopped js) m = IsStoppedIn epoch js m
IsAt epoch (ran.Running made past) m = IsRunning (voter_in made past).rules (place_in made past).standing.desk.known (place_in made past).sections m

-- a nullify of a view below the greatest, of this epoch
abbrev pub IsLowIn : ℕ → Subject → Type 0
IsLowIn epoch s = (r : Round) × (s ≡ subjects.Nullify r) × (r.epoch ≡ epoch) × (r.view < greatest_view)

-- ---- lists

pub taken-append : (xs ys : List Call) → taken (xs ++ ys) ≡ taken xs ++ taken ys
unfolding taken
taken-append [] ys = refl
taken-append (calls.Append n a ∷ xs) ys = ap (λ zs. certificate_in a ++ zs) (taken-append xs ys) ∙ sym (append_assoc (certificate_in a) (taken xs) (taken ys))
taken-append (calls.Sync n ∷ xs) ys = taken-append xs ys
taken-append (calls.Prune n ∷ xs) ys = taken-append xs ys
taken-append (calls.Send channel to bytes ∷ xs) ys = taken-append xs ys
taken-append (calls.Report activity ∷ xs) ys = taken-append xs ys
taken-append (calls.Relay payload plan ∷ xs) ys = taken-append xs ys
taken-append (calls.Block who why ∷ xs) ys = taken-append xs ys

pub voted-append : (xs ys : List Call) → voted (xs ++ ys) ≡ voted xs ++ voted ys
unfolding voted
voted-append [] ys = refl
voted-append (calls.Append n a ∷ xs) ys = ap (λ zs. vote_in a ++ zs) (voted-append xs ys) ∙ sym (append_assoc (vote_in a) (voted xs) (voted ys))
voted-append (calls.Sync n ∷ xs) ys = voted-append xs ys
voted-append (calls.Prune n ∷ xs) ys = voted-append xs ys
voted-append (calls.Send channel to bytes ∷ xs) ys = voted-append xs ys
voted-append (calls.Report activity ∷ xs) ys = voted-append xs ys
voted-append (calls.Relay payload plan ∷ xs) ys = voted-append xs ys
voted-append (calls.Block who why ∷ xs) ys = voted-append xs ys

pub AreSent-append : (xs ys : List Call) (s t : List Subject) → AreSent xs s → AreSent ys t → AreSent (xs ++ ys) (s ++ t)
unfolding AreSent
AreSent-append [] ys s t h k = subst (λ zs. AreSent ys (zs ++ t)) (sym h) k
AreSent-append (calls.Send channels.Vote to bytes ∷ xs) ys s t h k =
    (h.0, h.1 ++ t, h.2, ap (λ zs. zs ++ t) h.3, AreSent-append xs ys h.1 t h.4 k)
AreSent-append (calls.Send channels.Certificate to bytes ∷ xs) ys s t h k = AreSent-append xs ys s t h k
AreSent-append (calls.Send channels.Resolver to bytes ∷ xs) ys s t h k = AreSent-append xs ys s t h k
AreSent-append (calls.Append n a ∷ xs) ys s t h k = AreSent-append xs ys s t h k
AreSent-append (calls.Sync n ∷ xs) ys s t h k = AreSent-append xs ys s t h k
AreSent-append (calls.Prune n ∷ xs) ys s t h k = AreSent-append xs ys s t h k
AreSent-append (calls.Report activity ∷ xs) ys s t h k = AreSent-append xs ys s t h k
AreSent-append (calls.Relay payload plan ∷ xs) ys s t h k = AreSent-append xs ys s t h k
AreSent-append (calls.Block who why ∷ xs) ys s t h k = AreSent-append xs ys s t h k

-- ---- what it lives more

-- What a member lives while these calls are made and this is handed on: its calls are legal, certificates come to it only as
-- records that are appended or as one of these floors, it sends the votes that go out, and it is then where the engine is
pub record Further (term epoch : ℕ) (floors : List agreement.Certificate) (cs : List Call) (hs : List Handed) (later : ran.Life) (m : Member) : Type 0 where
  pub calls : List life.Call
  pub sent : List Sent
  pub legal : IsLegal term m calls
  pub brought : (c : agreement.Certificate) → Contains (life.brought calls) c → Contains (taken cs) c ⊎ Contains floors c
  pub sends : (run m calls).sent ≡ m.sent ++ sent
  pub votes : AreSent cs (subjects_of sent)
  pub at : IsAt epoch later (run m calls)
  pub constructed : AreVotesSent (run m calls).sent hs
  pub own : (s : Subject) → Contains (subjects_of sent) s → Contains (voted cs) s ⊎ IsLowIn epoch s

module _ (term epoch : ℕ) (floors : List agreement.Certificate) where
  pub go : (cs ds : List Call) (hs gs : List Handed) (l later : ran.Life) (m : Member) (f : Further term epoch floors cs hs l m) → Further term epoch floors ds gs later (run m f.calls)
      → Further term epoch floors (cs ++ ds) (hs ++ gs) later m
  go cs ds hs gs l later m f g =
      let joined = run-append m f.calls g.calls in
      let taken_is = taken-append cs ds in
      let voted_is = voted-append cs ds in
      let n = run (run m f.calls) g.calls in
      let subjects_is : subjects_of (f.sent ++ g.sent) ≡ subjects_of f.sent ++ subjects_of g.sent = map-append (λ (x : Sent). x.subject) f.sent g.sent in
      record {
        calls = f.calls ++ g.calls;
        sent = f.sent ++ g.sent;
        legal = IsLegal-append term m f.calls g.calls f.legal g.legal;
        brought = λ c k. elim (Contains-append_cases (life.brought f.calls) (life.brought g.calls) c (subst (λ xs. Contains xs c) (brought-append f.calls g.calls) k)) [
          | inl old ↦ elim (f.brought c old) [
            | inl t ↦ inl (subst (λ xs. Contains xs c) (sym taken_is) (Contains-append_left (taken cs) (taken ds) c t))
            | inr t ↦ inr t
          ]
          | inr new ↦ elim (g.brought c new) [
            | inl t ↦ inl (subst (λ xs. Contains xs c) (sym taken_is) (Contains-append_right (taken cs) (taken ds) c t))
            | inr t ↦ inr t
          ]
        ];
        sends = ap (λ (x : Member). x.sent) joined ∙ g.sends ∙ ap (λ xs. xs ++ g.sent) f.sends ∙ append_assoc m.sent f.sent g.sent;
        votes = subst (AreSent (cs ++ ds)) (sym subjects_is) (AreSent-append cs ds (subjects_of f.sent) (subjects_of g.sent) f.votes g.votes);
        at = subst (IsAt epoch later) (sym joined) g.at;
        constructed = subst (λ (x : Member). AreVotesSent x.sent (hs ++ gs)) (sym joined)
            (AreVotesSent-append n.sent hs gs (subst (λ xs. AreVotesSent xs hs) (sym g.sends) (AreVotesSent-more (run m f.calls).sent g.sent hs f.constructed)) g.constructed);
        own = λ s k. elim (Contains-append_cases (subjects_of f.sent) (subjects_of g.sent) s (subst (λ xs. Contains xs s) subjects_is k)) [
          | inl old ↦ elim (f.own s old) [
            | inl t ↦ inl (subst (λ xs. Contains xs s) (sym voted_is) (Contains-append_left (voted cs) (voted ds) s t))
            | inr t ↦ inr t
          ]
          | inr new ↦ elim (g.own s new) [
            | inl t ↦ inl (subst (λ xs. Contains xs s) (sym voted_is) (Contains-append_right (voted cs) (voted ds) s t))
            | inr t ↦ inr t
          ]
        ];
      }
