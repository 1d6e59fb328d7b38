-- Records, file by file.
use Rattle.std.proofs.Common.{◌≡◌, ℕ, ◌+◌, List, ◌∷◌, ◌++◌, length, Option, ap}
use Rattle.std.proofs.lemmas.List.{take-append-drop}
use Rattle.simplex_wire.specs.declared.artifact.Artifact.{Artifact}
use Rattle.simplex_journal.specs.Journal.{replayed}
use Rattle.simplex_journal.specs.Memory.{sections_of}
use Rattle.simplex_disk.specs.declared.segment.Segment.{Segment}
use Rattle.simplex_disk.specs.Calls.{bytes_of}
use Rattle.simplex_disk.specs.Chain.{walked}
use Rattle.simplex_disk.specs.Segments.{lists_in}
use Rattle.simplex_disk.specs.Index.{read_entries, sections_in}

pub replayed-entry : (F : ℕ → Option (List ℕ)) (e : ℕ × Segment) (es : List (ℕ × Segment))
    → replayed (sections_in F (e ∷ es)) ≡ walked (e.1.synced + length e.1.gates.items) (bytes_of (F e.0)) ++ replayed (sections_in F es)
unfolding replayed sections_of read_entries lists_in
replayed-entry F e es = ap (λ (l : List Artifact). l ++ replayed (sections_in F es)) (take-append-drop e.1.synced (walked (e.1.synced + length e.1.gates.items) (bytes_of (F e.0))))
