-- Entries in which the one member learns of a notarization behind the finalize that needs it. They are of no run.
use Rattle.std.specs.Prelude.{List, [], ◌∷◌}
use Rattle.simplex_values.specs.declared.proposal.Subject.TheVariants as subjects
use Rattle.simplex_wire.specs.declared.artifact.Artifact.TheVariants as artifacts
use Rattle.simplex_wire.specs.declared.certificate.Notarization.{Notarization}
use Rattle.simplex_wire.specs.declared.vote.Finalize.{Finalize}
use Rattle.simplex_wire.specs.declared.vote.Vote.{Vote}
use Rattle.simplex_wire.specs.declared.vote.Vote.TheVariants as votes
use Rattle.simplex_messages.specs.declared.call.Call.TheVariants as calls
use Rattle.simplex_messages.specs.declared.step.Outcome.TheVariants as outcomes
use Rattle.model_run.specs.Life.{Noted}
use Rattle.law_run.specs.BackingSamples.{signed, block, own_notarize, apart, its}

abbrev pub own_finalize : Finalize
own_finalize = record { proposal = block 1; attestation = signed (subjects.Finalize (block 1)) }

abbrev pub its_notarization : Notarization
its_notarization = record { proposal = block 1; certificate = signed (subjects.Notarize (block 1)) ∷ [] }

-- it notarizes and finalizes at once
abbrev pub hasty_votes : List Vote
hasty_votes = votes.Notarize (own_notarize 1) ∷ votes.Finalize own_finalize ∷ []

abbrev pub hasty : Noted
hasty = apart [] hasty_votes []

-- and appends the notarization then
abbrev pub late : List Noted
late = its outcomes.Cut (calls.Append 1 (artifacts.Notarization its_notarization) ∷ []) ∷ hasty ∷ []
