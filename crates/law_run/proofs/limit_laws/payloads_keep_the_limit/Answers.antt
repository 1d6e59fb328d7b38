use Rattle.law_run.proofs.Transcripts.{transcript_keeps}
use Rattle.law_run.proofs.limit_laws.payloads_keep_the_limit.Goals as goal

pub returns : goal.returns
returns c = transcript_keeps
