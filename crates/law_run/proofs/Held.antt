-- What an engine holds is good, so it verifies and is backed.
use Rattle.std.proofs.Common.{◌≡◌, true, List}
use Rattle.simplex_wire.specs.declared.artifact.Artifact.{Artifact}
use Rattle.simplex_wire.specs.declared.artifact.Artifact.TheVariants as artifacts
use Rattle.simplex_wire.specs.declared.certificate.Certificate.{Certificate}
use Rattle.simplex_transcript.specs.declared.node.Node.{Node}
use Rattle.model_run.specs.Kinds.{runs_engine}
use Rattle.model_run.specs.Setting.{Setting}
use Rattle.model_run.specs.Life.{Noted, Life, Stopped, Running, life_in}
use Rattle.law_run.specs.Sayings.{InRecord, InKnown}
use Rattle.law_run.specs.Held.{IsSound, HoldsSound}
use Rattle.law_run.specs.Keeping.{IfRuns}
use Rattle.law_run.specs.MostlyHonest.{IsMostlyHonest}
use Rattle.law_run.proofs.BackingEngines.{IsLifeFine, life_records}
use Rattle.law_run.proofs.Good.{IsGood}
use Rattle.law_run.proofs.Owning.{signed_backed}
use Rattle.law_run.proofs.Worlds.{backers_of, fine_of}

module _ (setting : Setting) (noted : List Noted) (o : IsMostlyHonest setting noted) where
  abbrev Good : Certificate → Type 0
  Good c = IsGood (backers_of setting noted) c

  abbrev Sound : Certificate → Type 0
  Sound c = IsSound setting.setup noted c

  sound : (c : Certificate) → Good c → Sound c
  sound c g = (g.verifies, signed_backed setting noted o c g.verifies g.backed)

  in_record : (a : Artifact) → InRecord Good a → InRecord Sound a
  in_record (artifacts.Notarization c) h = sound _ h
  in_record (artifacts.Nullification c) h = sound _ h
  in_record (artifacts.Finalization c) h = sound _ h
  in_record (artifacts.Notarize v) h = tt
  in_record (artifacts.Nullify v) h = tt
  in_record (artifacts.Finalize v) h = tt
  in_record (artifacts.Certification r good) h = tt

  known_at : (node : Node) (l : Life) → IsLifeFine (backers_of setting noted) node.member l → IfRuns (λ sections known. InKnown Sound known) l
  known_at node (Stopped sections) h = tt
  known_at node (Running made past) h = λ c now k. (let place = h.place in sound c (place.known c now k))

  pub held_sound : (node : Node) → runs_engine setting.setup node.member ≡ true → HoldsSound setting noted node
  held_sound node runs =
      let fine = fine_of setting noted o in
      let l = life_in setting noted node in
      let here = fine.lives node runs in
      record {
        records = λ a k. in_record a (life_records (backers_of setting noted) node.member l here a k);
        known = known_at node l here;
      }
