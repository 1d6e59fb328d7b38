-- The engine of a node: its member's scheme, the leaders of the setup, and a journal in segment files on a disk in
-- memory.
use Rattle.std.specs.Prelude.{◌≡◌, List, Option, Some}
use Rattle.simplex_types.specs.contracts.keyed.Keyed as keyed
use Rattle.simplex_types.specs.contracts.keyed.KeyedScheme.TheImpl as keys
use Rattle.simplex_types.specs.contracts.round_robin.RoundRobinElector as robin
use Rattle.simplex_types.specs.contracts.round_robin.RoundRobinElectorElector.TheImpl as turns
use Rattle.simplex_mocks.specs.contracts.wrapped.SchemeInner.TheImpl as wrapped
use Rattle.simplex_twins.specs.contracts.elector.ElectorStateElector.TheImpl as scripted
use Rattle.simplex_journal.specs.Journal.{Section}
use Rattle.simplex_journal.specs.Order.{Order, no_order}
use Rattle.simplex_disk.specs.contracts.journal.DiskJournalJournal.TheImpl as segments
use Rattle.simplex_disk.specs.contracts.memory.MemoryDisk as memory
use Rattle.simplex_disk.specs.contracts.memory.MemoryDiskStopDisk.TheImpl as stops
use Rattle.simplex_disk.specs.contracts.memory.MemoryDiskDisk.TheImpl as reads
use Rattle.simplex_disk.specs.Contents.{OnDisk, sections_kept}
use Rattle.simplex_disk.specs.Memory as disks
use Rattle.simplex_disk.specs.Memory.{Held, file_in}
use Rattle.simplex_disk.specs.Orders.{order_told}
use Rattle.model_steps.specs.Engine.{EngineMade, Did}
use Rattle.simplex_engine.specs.declared.engine.Engine.{Engine}
use Rattle.simplex_engine.specs.Stands as engines
use Rattle.simplex_members.specs.NodeEngine.{NodeScheme}
use Rattle.simplex_members.specs.Leading.{NodeElector}

-- its journal, as callers see it: its sections, and what it tells of which call of it will fail
abbrev pub NodeJournal : Type 0
NodeJournal = OnDisk Held

abbrev pub sections_held : NodeJournal → List Section
sections_held journal = sections_kept (λ (disk : Held). file_in disk.kept) journal

abbrev pub order_held : NodeJournal → Option Order
order_held journal = order_told (disks.order_told journal.disk.failing journal.disk.ordered) journal.order

-- the journal holds these sections, and tells that no call of it will fail
pub record JournalStands (journal : NodeJournal) (sections : List Section) : Type 0 where
  pub holds : sections_held journal ≡ sections
  pub quiet : order_held journal ≡ Some no_order

abbrev pub NodeEngine : Type 0
NodeEngine = Engine NodeScheme NodeElector NodeJournal (wrapped.ghosts keyed.the_row keys.ghosts wrapped.no_dict)
    (scripted.ghosts robin.the_row turns.ghosts scripted.no_dict)
    (segments.ghosts memory.the_row stops.ghosts segments.no_dict reads.ghosts segments.no_dict)

-- the engine, so made, has this history
abbrev pub EngineStands : NodeEngine → EngineMade → List Did → Type 0
EngineStands engine made past = engines.StandsFor engine made past
