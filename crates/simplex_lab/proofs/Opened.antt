-- Requests that are taken in one by one.
use Rattle.std.proofs.Common.{◌≡◌, ◌∷◌, [], ℕ, List, refl, sym, ap, ◌∙◌}
use mathlib.Core.Path.{fun_ext}
use Rattle.simplex_transcript.specs.declared.entry.Entry.{Entry}
use Rattle.simplex_transcript.specs.declared.event.Event.{Event}
use Rattle.simplex_transcript.specs.declared.node.Node.{Node}
use Rattle.simplex_generator.specs.declared.unanswered.Unanswered.{Unanswered}
use Rattle.simplex_generator.specs.declared.unanswered.Requests.{Requests}
use Rattle.simplex_generator.specs.Unanswered.{unanswered_behind, count_in, count_behind, first_in}
use Rattle.simplex_lab.specs.Opening.{open_from, open_requests}

-- what these requests come to behind the events that are left
pub record Opens (requests : Requests) (events : List Event) (entries : List Entry) (all : List Unanswered) : Type 0 where
  pub opens : open_from (count_in requests.counts.items) requests.«open».items events entries ≡ all

pub none_yet : (requests : Requests) (events : List Event) (entries : List Entry) → requests.«open».items ≡ [] → requests.counts.items ≡ []
    → Opens requests events entries (open_requests events entries)
unfolding open_requests count_in
none_yet requests events entries none uncounted = record {
  opens =
      ap (λ (before : List Unanswered). open_from (count_in requests.counts.items) before events entries) none
      ∙ ap (λ (counts : List _). open_from (count_in counts) [] events entries) uncounted;
}

pub one_more : (old new : Requests) (deeds events : List Event) (made entries : List Entry) (event : Event) (entry : Entry) (all : List Unanswered)
    → deeds ≡ event ∷ events → made ≡ entry ∷ entries
    → new.«open».items ≡ unanswered_behind event entry (first_in event old.counts.items) old.«open».items
    → ((node : Node) → count_in new.counts.items node ≡ count_behind event entry old.counts.items node)
    → Opens old deeds made all → Opens new events entries all
unfolding count_behind
one_more old new deeds events made entries event entry all first_deed first_made asked counts opens = record {
  opens =
      ap (λ (before : List Unanswered). open_from (count_in new.counts.items) before events entries) asked
      ∙ ap (λ (counted : Node → ℕ).
      open_from counted (unanswered_behind event entry (first_in event old.counts.items) old.«open».items) events entries) (fun_ext counts)
      ∙ sym (ap (λ (its : List Entry). open_from (count_in old.counts.items) old.«open».items (event ∷ events) its) first_made)
      ∙ sym (ap (λ (its : List Event). open_from (count_in old.counts.items) old.«open».items its made) first_deed)
      ∙ opens.opens;
}

-- behind the last event
pub at_end : (requests : Requests) (events : List Event) (entries : List Entry) (all : List Unanswered) → events ≡ [] → Opens requests events entries all
    → requests.«open».items ≡ all
at_end requests events entries all none opens =
    sym (ap (λ (its : List Event). open_from (count_in requests.counts.items) requests.«open».items its entries) none) ∙ opens.opens

-- where an event has no entry
pub at_lack : (requests : Requests) (events : List Event) (entries : List Entry) (all : List Unanswered) → entries ≡ [] → Opens requests events entries all
    → requests.«open».items ≡ all
at_lack requests events entries all none opens =
    sym (lack (count_in requests.counts.items) requests.«open».items events)
    ∙ sym (ap (λ (its : List Entry). open_from (count_in requests.counts.items) requests.«open».items events its) none)
    ∙ opens.opens
  where
    lack : (counts : Node → ℕ) (before : List Unanswered) (its : List Event) → open_from counts before its [] ≡ before
    lack counts before [] = refl
    lack counts before (event ∷ its) = refl
