-- A member over all its lives, call by call.
use Rattle.std.specs.Prelude.{ℕ, ◌≡◌, ◌≤◌, Bool, true, false, if◌then◌else◌, nat_lt, nat_le, List, [], ◌∷◌, ◌++◌, filter, Contains, ◌<◌, All}
use Rattle.simplex_values.specs.declared.proposal.Proposal.{Proposal}
use Rattle.simplex_values.specs.declared.proposal.Subject.{Subject}
use Rattle.simplex_values.specs.declared.proposal.Subject.TheVariants.{Nullify, Finalize}
use Rattle.simplex_values.specs.declared.round.Round.{Round}
use Rattle.law_agreement.specs.World.{Certificate, Sent, World, IsBacked, view_of}
use Rattle.law_agreement.specs.Artifacts.{Artifact, Own, Proved, Judged, artifact_view, last_finalized, certificates, is_taken, replay}
use Rattle.law_agreement.specs.Journal.{Section, append, append_all, sync, left, prune, kept, waiting}
use Rattle.law_agreement.specs.Votes.{MayVote}

-- whether it runs, what its journal holds, what it knows since its start, the votes that it made and
-- did not send yet, and the votes that it sent in all its lives
pub record Member : Type 0 where
  pub up : Bool
  pub journal : List Section
  pub known : List Artifact
  pub outbox : List Sent
  pub sent : List Sent

-- what a member does, or what comes over it
pub data Call : Type 0 where
  -- it starts at genesis
  Start : Call
  -- it starts at a floor: a finalization, of a proposal and by these signers
  StartAt : Proposal → List ℕ → Call
  -- it appends a certificate
  Take : Certificate → Call
  -- it appends the verdict on a view
  Judge : ℕ → Bool → Call
  -- it makes a vote: it appends the vote, and queues it to be sent
  Vote : Subject → Call
  -- it queues again a nullify that it made before
  Repeat : Round → Call
  -- it syncs a section
  Sync : ℕ → Call
  -- it sends the first vote of the queue
  Send : Call
  -- it prunes the sections below a view
  Prune : ℕ → Call
  -- it stops, and so many pending records of each section are left
  Crash : (ℕ → ℕ) → Call

-- a member that never ran
abbrev pub newborn : Member
newborn = record { up = false; journal = []; known = []; outbox = []; sent = [] }

-- a record is appended, and known from now on
abbrev pub appended : Member → Artifact → Member
appended m a = record m { journal = append a m.journal; known = m.known ++ a ∷ [] }

-- a vote is queued, with the certificates that are known now
abbrev pub queued : Member → Subject → Member
queued m s = record m { outbox = m.outbox ++ record { subject = s; known = certificates m.known } ∷ [] }

-- the first vote of the queue is sent
abbrev pub published : Member → List Sent → Member
published m [] = m
published m (s ∷ rest) = record m { sent = m.sent ++ s ∷ []; outbox = rest }

-- the member starts: it knows the floor and the records of its journal above the floor's view, and it
-- appends the floor unless its journal has a finalization of that view or a greater one
abbrev pub started : Member → ℕ → List Artifact → Member
started m view floor =
    record {
      up = true;
      journal = if nat_le view (last_finalized (kept m.journal)) then m.journal else append_all floor m.journal;
      known = replay floor (filter (λ a. nat_lt view (artifact_view a)) (kept m.journal));
      outbox = [];
      sent = m.sent;
    }

-- the member after the call
abbrev pub happens : Member → Call → Member
happens m Start = started m 0 []
happens m (StartAt p signers) = started m (view_of p) (Proved (record { subject = Finalize p; signers = signers }) ∷ [])
happens m (Take c) = appended m (Proved c)
happens m (Judge view verdict) = appended m (Judged view verdict)
happens m (Vote s) = appended (queued m s) (Own s)
happens m (Repeat r) = queued m (Nullify r)
happens m (Sync view) = record m { journal = sync view m.journal }
happens m Send = published m m.outbox
happens m (Prune min) = record m { journal = prune min m.journal }
happens m (Crash keep) = record { up = false; journal = left keep m.journal; known = []; outbox = []; sent = m.sent }

-- when the call may come: a verdict where it is taken, a vote where the rule gives it, a nullify again
-- where the rule still gives it, a send and a prune with nothing pending, a prune at most to what is
-- final, a crash always
abbrev pub May : ℕ → Member → Call → Type 0
May length m Start = m.up ≡ false
May length m (StartAt p signers) = m.up ≡ false
May length m (Take c) = m.up ≡ true
May length m (Judge view verdict) = (m.up ≡ true) × (is_taken m.known (Judged view verdict) ≡ true)
May length m (Vote s) = (m.up ≡ true) × MayVote length m.known s
May length m (Repeat r) = (m.up ≡ true) × MayVote length m.known (Nullify r) × Contains m.known (Own (Nullify r))
May length m (Sync view) = m.up ≡ true
May length m Send = (m.up ≡ true) × (waiting m.journal ≡ [])
May length m (Prune min) = (m.up ≡ true) × (waiting m.journal ≡ []) × (min ≤ last_finalized m.known)
May length m (Crash keep) = Unit {0}

-- the member after these calls, in order
abbrev pub run : Member → List Call → Member
run m [] = m
run m (call ∷ rest) = run (happens m call) rest

-- each of these calls may come where it does
abbrev pub IsLegal : ℕ → Member → List Call → Type 0
IsLegal length m [] = Unit {0}
IsLegal length m (call ∷ rest) = May length m call × IsLegal length (happens m call) rest

-- the certificates that come to the member: those that it takes, and the floors
abbrev pub brought : List Call → List Certificate
brought [] = []
brought (Take c ∷ rest) = c ∷ brought rest
brought (StartAt p signers ∷ rest) = record { subject = Finalize p; signers = signers } ∷ brought rest
brought (Start ∷ rest) = brought rest
brought (Judge view verdict ∷ rest) = brought rest
brought (Vote s ∷ rest) = brought rest
brought (Repeat r ∷ rest) = brought rest
brought (Sync view ∷ rest) = brought rest
brought (Send ∷ rest) = brought rest
brought (Prune min ∷ rest) = brought rest
brought (Crash keep ∷ rest) = brought rest

-- each member of a world that is not faulty lived lawfully, on backed certificates, and sent what its history says
abbrev pub HonestLive : World → Type 0
HonestLive w =
    (i : ℕ) → i < w.members → ¬ (Contains w.faulty i)
    → (calls : List Call) × IsLegal w.term_length newborn calls
    × All (IsBacked w) (brought calls) × (w.history i ≡ (run newborn calls).sent)
