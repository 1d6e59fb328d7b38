-- Which certificates of a record are taken, and what is told of those that are taken next.
use Rattle.std.specs.Prelude.{◌≡◌, ◌++◌, ◌∷◌, [], Bool, false, List, map, filter}
use Rattle.std.specs.List.{list_any}
use Rattle.simplex_wire.specs.declared.certificate.Certificate.{Certificate}
use Rattle.simplex_wire.specs.Fields.{certificate_subject}
use Rattle.simplex_transcript.specs.declared.setup.Setup.{Setup}
use Rattle.model_run.specs.Kinds.{members_of}
use Rattle.model_run.specs.Life.{Noted}
use Rattle.law_run.specs.Backed.{of_record}
use Rattle.model_audit.specs.declared.record.AuditCall.{AuditCall}
use Rattle.model_audit.specs.declared.record.AuditCall.TheVariants as audit
use Rattle.model_audit.specs.Conflicts.{conflicts, is_verifying, all_standing}
use Rattle.simplex_conflicts.specs.declared.standing.Standing.{Standing}
use Rattle.simplex_conflicts.specs.Indexes.{Indexes}

-- the certificate that a call of a record has
abbrev pub in_call : AuditCall → List Certificate
in_call (audit.Append section artifact) = of_record artifact
in_call (audit.Report certificate) = certificate ∷ []
in_call _ = []

-- of the certificates those that verify
abbrev pub good_of : Setup → List Certificate → List Certificate
good_of setup certificates = filter (is_verifying setup) certificates

-- one of the first conflicts with another of them, or with one of the second
unfoldable pub do_conflict : Setup → List Certificate → List Certificate → Bool
do_conflict setup here known =
    list_any (λ a. list_any (λ b. conflicts setup.term (certificate_subject a) (certificate_subject b)) (here ++ known)) here

-- these certificates are known, in a run that is so set up
pub record Knows (standing : Standing) (setup : Setup) (known : List Certificate) : Type 0 where
  pub base : standing.scheme.key_base ≡ setup.key_base
  pub members : standing.scheme.participants ≡ members_of setup
  pub length : standing.index.length ≡ setup.term
  pub index : Indexes standing.index (map certificate_subject known)

-- the certificates of these entries that verify are known
abbrev pub StandsFor : Standing → Setup → List Noted → Type 0
StandsFor standing setup before = Knows standing setup (all_standing setup before)

-- whatever was known, this tells whether one of these that verify conflicts with another of them or with what was known; and if
-- none does, they are known then too
pub record TakesIn (old new : Standing) (here : List Certificate) (conflict : Bool) : Type 0 where
  pub answers : (setup : Setup) (known : List Certificate) → Knows old setup known → conflict ≡ do_conflict setup (good_of setup here) known
  pub stands : conflict ≡ false → (setup : Setup) (known : List Certificate) → Knows old setup known → Knows new setup (good_of setup here ++ known)
