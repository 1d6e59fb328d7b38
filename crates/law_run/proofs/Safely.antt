-- A run of members of whom few are faulty is safe.
use Rattle.std.proofs.Common.{◌≡◌, ℕ, suc, ◌+◌, Bool, true, false, List, [], ◌∷◌, length, filter, refl, ap, if◌then◌else◌}
use Rattle.simplex_transcript.specs.declared.setup.MemberKind.{MemberKind}
use Rattle.model_run.specs.Setting.{Setting}
use Rattle.model_run.specs.Life.{Noted}
use Rattle.model_run.specs.Setups.{is_faulty, faulty_in}
use Rattle.law_run.proofs.Ruling.{run_by_rule}
use Rattle.law_run.specs.MostlyHonest.{IsMostlyHonest}
use Rattle.law_run.specs.Safe.{IsSafe}
use Rattle.law_run.proofs.Blameless.{run_blameless}
use Rattle.law_run.proofs.BackingEpochs.{run_names}
use Rattle.law_run.proofs.Owning.{run_backed}
use Rattle.law_run.proofs.Founding.{run_founded}
use Rattle.law_run.proofs.Barring.{run_unbarred}
use Rattle.law_run.proofs.Genuine.{run_genuine}
use Rattle.law_run.proofs.Listing.{all_well_sent}
use Rattle.law_run.proofs.Worlds.{run_agrees, floors_hold}
use Rattle.law_run.specs.Faulty.{faulty_from}
use Rattle.law_run.proofs.Nodes.{node_lives}
use Rattle.model_run.specs.Kinds.{is_faulty}

pub mostly_honest_is_safe : (setting : Setting) (noted : List Noted) → IsMostlyHonest setting noted → IsSafe setting noted
mostly_honest_is_safe setting noted o =
    record {
      backed = run_backed setting noted o;
      genuine = run_genuine setting noted o;
      agrees = λ a b sa sb. run_agrees setting noted a b o sa.0 sb.0 sa.1 sb.1;
      named = run_names setting noted o;
      founded = λ c p stands on. run_founded setting noted c p o stands on;
      stored = λ node honest. (let lived = node_lives setting noted node o.term honest o.ran (floors_hold setting noted o) in lived.stored);
      ruled = λ node honest. run_by_rule setting noted node honest o.ran;
      ordered = all_well_sent setting noted o;
      blameless = run_blameless setting noted o;
      above = floors_hold setting noted o;
      unbarred = run_unbarred setting noted o;
    }

-- as many as the setup's limit counts
pub faulty_counted : (i : ℕ) (kinds : List MemberKind) → length (faulty_from i kinds) ≡ faulty_in kinds
faulty_counted i [] = refl
faulty_counted i (kind ∷ rest) = at (is_faulty kind) (faulty_counted (i + 1) rest)
  where
    at : (b : Bool) → length (faulty_from (i + 1) rest) ≡ faulty_in rest
        → length (if b then i ∷ faulty_from (i + 1) rest else faulty_from (i + 1) rest) ≡ length (if b then kind ∷ filter is_faulty rest else filter is_faulty rest)
    at true e = ap suc e
    at false e = e
