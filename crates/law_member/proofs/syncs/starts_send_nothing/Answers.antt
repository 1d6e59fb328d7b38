use Rattle.law_member.proofs.VoterStarting.{start_sound}
use Rattle.law_member.proofs.syncs.starts_send_nothing.Goals as goal

pub returns : goal.returns
returns c = λ made now floor records. let s = start_sound made now floor records in s.silent
