use Rattle.law_run.proofs.Blaming.{transcript_blames_none}
use Rattle.law_run.proofs.reports.transcripts_blame_no_honest_member.Goals as goal

pub returns : goal.returns
returns c = transcript_blames_none
