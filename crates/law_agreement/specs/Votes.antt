-- The vote rule, as far as safety needs it.
use Rattle.std.specs.Prelude.{ℕ, ◌≡◌, ◌<◌, true, List, Contains}
use Rattle.simplex_values.specs.declared.proposal.Proposal.{Proposal}
use Rattle.simplex_values.specs.declared.proposal.Subject.{Subject}
use Rattle.simplex_values.specs.declared.proposal.Subject.TheVariants.{Notarize, Nullify, Finalize}
use Rattle.simplex_values.specs.declared.round.Round.{Round}
use Rattle.law_agreement.specs.Terms.{Covers}
use Rattle.law_agreement.specs.World.{Knows, KnowsNullified, view_of}
use Rattle.law_agreement.specs.Artifacts.{Artifact, Own, Judged, last_finalized, certificates}

-- when a member that knows this may make the vote. Each is for a view above all that is final.
-- A notarize: each view between the parent and the proposal is nullified, and the member notarized
-- nothing in the view.
-- A nullify: no view that it covers has a true verdict.
-- A finalize: the proposal is notarized and the verdict true, the member finalized nothing in the view,
-- and it nullified no view that covers it and is not behind what is final.
abbrev pub MayVote : ℕ → List Artifact → Subject → Type 0
MayVote length known (Notarize p) =
    (last_finalized known < view_of p)
    × ((x : ℕ) → p.parent < x → x < view_of p → KnowsNullified length (certificates known) x)
    × ((q : Proposal) → view_of q ≡ view_of p → ¬ (Contains known (Own (Notarize q))))
MayVote length known (Nullify r) =
    (last_finalized known < r.view)
    × ((view : ℕ) → Covers length r.view view → ¬ (Contains known (Judged view true)))
MayVote length known (Finalize p) =
    (last_finalized known < view_of p)
    × Contains known (Judged (view_of p) true)
    × Knows (certificates known) (Notarize p)
    × ((q : Proposal) → view_of q ≡ view_of p → ¬ (Contains known (Own (Finalize q))))
    × ((r : Round) → last_finalized known < r.view → Covers length r.view (view_of p)
    → ¬ (Contains known (Own (Nullify r))))
