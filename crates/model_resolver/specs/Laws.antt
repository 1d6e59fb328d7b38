-- What is promised of a step.
use Rattle.std.specs.Prelude.{◌≡◌, ℕ, ◌&&◌, nat_le, Bool, true, List, [], ◌∷◌}
use Rattle.simplex_wire.specs.Certified.{is_certified}
use Rattle.simplex_wire.specs.Fields.{certificate_subject, certificate_signatures}
use Rattle.simplex_messages.specs.declared.voter.Message.TheVariants as voter
use Rattle.simplex_messages.specs.declared.handed.Handed.{Handed}
use Rattle.simplex_messages.specs.declared.handed.Handed.TheVariants as handed
use Rattle.model_resolver.specs.declared.sending.Sending.{Sending}
use Rattle.model_resolver.specs.Resolver.{Made}

-- a quorum signed the certificate, if it is one for the voter
abbrev pub Verifies : Made → Handed → Type 0
Verifies made (handed.Voter (voter.Verified certificate)) =
    is_certified (made.verifies (certificate_subject certificate)) made.members
    (certificate_signatures certificate) ≡ true
Verifies made _ = Unit {0}

-- whether no view is later than this one, nor than the one before it
unfoldable pub falls_from : ℕ → List Sending → Bool
falls_from top [] = true
falls_from top (sent ∷ others) = nat_le sent.view top && falls_from sent.view others

-- whether no view is later than the one before it
unfoldable pub falls : List Sending → Bool
falls [] = true
falls (sent ∷ others) = falls_from sent.view others
