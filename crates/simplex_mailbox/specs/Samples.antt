-- A mailbox for samples.
use Rattle.std.specs.Prelude.{ℕ, List}
use Rattle.simplex_mailbox.specs.Waiting.{put_last}
use Rattle.simplex_mailbox.specs.Mail.{Mail, no_mail, all_enqueued}

-- a mailbox with room for two, into which these numbers were put
abbrev pub of_two : List ℕ → Mail ℕ
of_two numbers = all_enqueued put_last (no_mail 2) numbers
