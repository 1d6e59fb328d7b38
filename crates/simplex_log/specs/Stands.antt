-- Which links and final views a log was made from.
use Rattle.std.specs.Prelude.{◌≡◌, ◌≢◌, ◌<◌, ◌==◌, ℕ, max, Bool, List, Option, Some, None, Result, Ok, Err, if◌then◌else◌}
use Rattle.simplex_values.specs.Maps.{found}
use Rattle.simplex_values.specs.declared.proposal.Proposal.{Proposal}
use Rattle.simplex_values.specs.declared.proposal.Subject.{Subject}
use Rattle.simplex_wire.specs.declared.attestation.Attestation.{Attestation}
use Rattle.simplex_types.specs.declared.activity.Activity.{Activity}
use Rattle.simplex_types.specs.Evidence.{activity_verifies}
use Rattle.model_log.specs.declared.entry.LogError.{LogError}
use Rattle.model_log.specs.declared.entry.LogError.TheVariants.{Clash, Memory}
use Rattle.model_log.specs.Links.{links_of, finals_of}
use Rattle.model_log.specs.Log.{greatest}
use Rattle.model_log.specs.Walks.{link_at}
use Rattle.model_log.specs.Ends.{GoDown, end_in, top_at}
use Rattle.simplex_log.specs.declared.links.Link.{Link}
use Rattle.simplex_log.specs.declared.links.Links.{Links}
use Rattle.simplex_log.specs.declared.finals.Finals.{Finals}
use Rattle.simplex_log.specs.declared.kept.Kept.{Kept}
use Rattle.simplex_log.specs.declared.finalized_log.FinalizedLog.{FinalizedLog}
use Rattle.simplex_log.specs.Kept.{held_at, top_in, log_to}

-- from a link's view it goes down to a view whose walk ends as its own does
abbrev pub IsShorter : List Proposal → ℕ → Option Link → Type 0
IsShorter links view None = Unit {0}
IsShorter links view (Some l) = (l.down < view) × (end_in links l.down ≡ end_in links view)

pub record LinksOf (kept : Links) (links : List Proposal) : Type 0 where
  pub falls : GoDown links
  pub held_is : (view : ℕ) → held_at kept.views view ≡ link_at links view
  pub shorter : (view : ℕ) → IsShorter links view (found kept.views view)

pub record FinalsOf (kept : Finals) (links : List Proposal) (finals : List ℕ) : Type 0 where
  pub tops_are : (view : ℕ) → 0 < view → top_in kept.tops view ≡ top_at links finals view
  pub tip_is : kept.tip ≡ top_at links finals 0
  pub entries_are : kept.entries.items ≡ log_to links kept.tip

-- a final view was raised whose walk ends there
pub record Raised (links : List Proposal) (old new : Finals) (at top : ℕ) : Type 0 where
  pub tops_rise : (view : ℕ) → 0 < view
      → top_in new.tops view ≡ max (top_in old.tops view) (if at == view then top else 0)
  pub tip_rises : new.tip ≡ max old.tip (if at == 0 then top else 0)
  pub entries_rise : old.entries.items ≡ log_to links old.tip → new.entries.items ≡ log_to links new.tip

-- nothing that is read was changed
pub record Untouched (old new : Finals) : Type 0 where
  pub tops_same : (view : ℕ) → top_in new.tops view ≡ top_in old.tops view
  pub tip_same : new.tip ≡ old.tip
  pub entries_same : new.entries.items ≡ old.entries.items

-- and the view whose walk is followed is `last`
pub record KeptAt (kept : Kept) (links : List Proposal) (finals : List ℕ) (last : ℕ) : Type 0 where
  pub links_are : LinksOf kept.links links
  pub finals_are : FinalsOf kept.finals links finals
  pub last_is : kept.last ≡ last
  pub end_is : kept.«end» ≡ end_in links kept.last

-- it is the greatest
abbrev pub KeptOf : Kept → List Proposal → List ℕ → Type 0
KeptOf kept links finals = KeptAt kept links finals (greatest finals)

-- whatever it was made from, it is made from that still
abbrev pub Stays : Kept → Kept → Type 0
Stays old new = (links : List Proposal) (finals : List ℕ) → KeptOf old links finals → KeptOf new links finals

-- the link is the first of its view, and `top` is the greatest final view whose walk ends there
pub record IsJoining (kept : Kept) (links : List Proposal) (finals : List ℕ) (p : Proposal)
    (top last : ℕ) : Type 0 where
  pub links_are : LinksOf kept.links links
  pub first_is : link_at links p.round.view ≡ None
  pub tops_are : (view : ℕ) → 0 < view → view ≢ p.round.view → top_in kept.finals.tops view ≡ top_at links finals view
  pub top_is : top ≡ top_at links finals p.round.view
  pub tip_is : kept.finals.tip ≡ top_at links finals 0
  pub entries_are : kept.finals.entries.items ≡ log_to links kept.finals.tip
  pub last_is : kept.last ≡ last
  pub end_is : kept.«end» ≡ end_in links kept.last

-- the answer is this, unless memory was wanting
abbrev pub IsUnlessMemory : Result Bool LogError → Result Bool LogError → Type 0
IsUnlessMemory (Ok moved) expected = Ok moved ≡ expected
IsUnlessMemory (Err Memory) expected = Unit {0}
IsUnlessMemory (Err (Clash held other)) expected = Err (Clash held other) ≡ expected

module _ {S : Type 0} where
  -- the log verifies so, and these activities were taken, in order
  unfoldable pub StandsFor : (S → Subject → Attestation → Bool) → (S → ℕ) → FinalizedLog S → (Activity → Bool)
      → List Activity → Type 0
  StandsFor verified_by members log verifies taken =
      (verifies ≡ activity_verifies (verified_by log.scheme) (members log.scheme))
      × KeptOf log.kept (links_of verifies taken) (finals_of verifies taken)

  -- whatever activities the log took, the answer is the rule's of them
  abbrev pub Answers : {R : Type 0} → (S → Subject → Attestation → Bool) → (S → ℕ) → FinalizedLog S
      → ((Activity → Bool) → List Activity → R) → R → Type 0
  Answers verified_by members log rule answer =
      (verifies : Activity → Bool) (taken : List Activity) → StandsFor verified_by members log verifies taken
      → answer ≡ rule verifies taken
