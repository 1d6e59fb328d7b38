-- What lies under the lock.
use Rattle.std.specs.Prelude.{List}
use Rattle.simplex_mailbox.specs.Mail.{Mail}
use Rattle.simplex_shared.specs.declared.op.Op.{Op}

-- what the mailbox holds, and the calls that were made on it
pub record Recorded (M : Type 0) : Type 0 where
  pub mail : Mail M
  pub log : List (Op M)
