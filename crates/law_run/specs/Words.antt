-- The words of the headline that say what members do, one by one. Two of the headline's are not among them: that no two
-- certificates conflict follows from these, and that no start is at view 0 is said of the events alone.
use Rattle.std.specs.Prelude.{◌≡◌, List}
use Rattle.model_run.specs.Setting.{Setting}
use Rattle.model_run.specs.Life.{Noted}
use Rattle.law_run.specs.Histories.{AreStored}
use Rattle.law_run.specs.Ruled.{AreByRule}
use Rattle.law_run.specs.Backed.{AreBacked}
use Rattle.law_run.specs.Blame.{AreBlameless, NoneBarred}
use Rattle.law_run.specs.Genuine.{AreGenuine}
use Rattle.law_run.specs.Safe.{AgreeAll, AllName, AreFounded, EachHonest}
use Rattle.law_run.specs.WellSent.{AllWellSent}

pub data Word : Type 0 where
  Backed : Word
  Genuine : Word
  Named : Word
  Founded : Word
  Stored : Word
  Ruled : Word
  Ordered : Word
  Blameless : Word
  Unbarred : Word

-- what it says of a run
abbrev pub Says : Setting → List Noted → Word → Type 0
Says setting noted Backed = AreBacked setting.setup noted
Says setting noted Genuine = AreGenuine setting.setup noted
Says setting noted Named = AllName setting.setup noted
Says setting noted Founded = AreFounded setting.setup noted
Says setting noted Stored = EachHonest setting.setup (λ node. AreStored setting node noted)
Says setting noted Ruled = EachHonest setting.setup (λ node. AreByRule setting node noted)
Says setting noted Ordered = AllWellSent setting.setup noted
Says setting noted Blameless = AreBlameless setting.setup noted
Says setting noted Unbarred = NoneBarred setting.setup noted

-- all others hold, no two certificates conflict, and it does not hold
pub record AllBut (setting : Setting) (noted : List Noted) (word : Word) : Type 0 where
  pub others : (other : Word) → ¬ (other ≡ word) → Says setting noted other
  pub agrees : AgreeAll setting.setup noted
  pub fails : ¬ (Says setting noted word)
