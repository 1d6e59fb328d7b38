-- The votes of the small lives, each given by the rule.
use Rattle.std.proofs.Common.{◌≡◌, ℕ, ◌==◌, ◌<◌, nat_le, ◌&&◌, Bool, true, false, List, Contains, refl, eq-eqb, le-leb}
use Rattle.std.specs.List.{list_any}
use Rattle.std.proofs.lemmas.Bool.{and_from}
use Rattle.std.proofs.lemmas.List.Folds.{list_any-from_Any}
use Rattle.simplex_values.specs.declared.proposal.Proposal.{Proposal}
use Rattle.simplex_values.specs.declared.proposal.Subject.TheVariants.{Notarize, Nullify, Finalize}
use Rattle.simplex_values.specs.declared.round.Round.{Round}
use Rattle.law_agreement.specs.World.{Knows, KnowsNullified, view_of}
use Rattle.law_agreement.specs.Artifacts.{Artifact, Own, Judged, last_finalized, certificates}
use Rattle.law_agreement.specs.Votes.{MayVote}

-- what passes no test is not in the list
absent : (test : Artifact → Bool) (xs : List Artifact) → list_any test xs ≡ false → (a : Artifact) → test a ≡ true → Contains xs a → ⊥
absent test xs none a is c =
    let some : list_any test xs ≡ true = list_any-from_Any test xs (c.0, a, c.1, c.2, is) in
    cc

abbrev pub is_notarize : ℕ → Artifact → Bool
is_notarize view (Own (Notarize p)) = view_of p == view
is_notarize view _ = false

abbrev pub is_finalize : ℕ → Artifact → Bool
is_finalize view (Own (Finalize p)) = view_of p == view
is_finalize view _ = false

abbrev pub is_nullify : Artifact → Bool
is_nullify (Own (Nullify r)) = true
is_nullify _ = false

abbrev pub is_good_from : ℕ → Artifact → Bool
is_good_from view (Judged v verdict) = nat_le view v && verdict
is_good_from view _ = false

pub may_notarize : (known : List Artifact) (p : Proposal) → last_finalized known < view_of p
    → ((x : ℕ) → p.parent < x → x < view_of p → KnowsNullified 2 (certificates known) x)
    → list_any (is_notarize (view_of p)) known ≡ false → MayVote 2 known (Notarize p)
may_notarize known p above between none = (above, between, λ q e c. absent (is_notarize (view_of p)) known none (Own (Notarize q)) (eq-eqb (view_of q) (view_of p) e) c)

pub may_nullify : (known : List Artifact) (r : Round) → last_finalized known < r.view → list_any (is_good_from r.view) known ≡ false → MayVote 2 known (Nullify r)
may_nullify known r above none =
    (above, λ view covers c. absent (is_good_from r.view) known none (Judged view true) (and_from (nat_le r.view view) true (le-leb r.view view covers.1) refl) c)

pub may_finalize : (known : List Artifact) (p : Proposal) → last_finalized known < view_of p → Contains known (Judged (view_of p) true) → Knows (certificates known) (Notarize p)
    → list_any (is_finalize (view_of p)) known ≡ false → list_any is_nullify known ≡ false → MayVote 2 known (Finalize p)
may_finalize known p above judged notarized none never =
    (above, judged, notarized, λ q e c. absent (is_finalize (view_of p)) known none (Own (Finalize q)) (eq-eqb (view_of q) (view_of p) e) c, λ r lt covers c. absent is_nullify known never (Own (Nullify r)) refl c)
