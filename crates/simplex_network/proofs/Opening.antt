-- A journal on a disk with no file.
use Rattle.std.proofs.Common.{◌≡◌, ℕ, List, [], ◌∷◌, refl, arith}
use Rattle.std.specs.Prelude.{None, Some}
use Rattle.std.proofs.lemmas.Bool.Decides.{nat_tests}
use Rattle.std.proofs.lemmas.Grind.{common_steps}
use Rattle.simplex_journal.specs.Journal.{Section}
use Rattle.simplex_journal.specs.Order.{no_order}
use Rattle.simplex_disk.specs.Index.{section_numbered}
use Rattle.simplex_disk.specs.Memory as disks
use Rattle.simplex_disk.specs.Memory.{Held, file_in}
use Rattle.simplex_disk.specs.Opening.{AreRead}
use Rattle.simplex_network.specs.NodeEngine.{NodeJournal, JournalStands, sections_held}

-- there is no file, so there is no section
no-sections : (sections : List Section) → AreRead (file_in []) sections → sections ≡ []
unfolding section_numbered
no-sections [] read = refl
no-sections (s ∷ rest) read =
    let none : section_numbered s.number (s ∷ rest) ≡ None = read.each s.number in
    absurd (grind (arith, common_steps, nat_tests))

-- a journal that is opened there has no section, and tells that no call of it will fail
pub opened-blank : (failing : List ℕ) (disk : Held) (journal : NodeJournal) → failing ≡ []
    → disk ≡ record { kept = []; made = 0; failing = failing; ordered = 0; faults = 0 }
    → journal.order ≡ no_order → AreRead (file_in disk.kept) (sections_held journal)
    → (disks.order_told disk.failing disk.ordered ≡ Some 0 → disks.order_told journal.disk.failing journal.disk.ordered ≡ Some 0)
    → JournalStands journal []
opened-blank failing disk journal none blank order read quiet =
    let told : disks.order_told journal.disk.failing journal.disk.ordered ≡ Some 0 = quiet (rw (blank, none) refl) in
    record {
      holds = no-sections (sections_held journal) (rw blank at read);
      quiet = rw (told, order) refl;
    }
