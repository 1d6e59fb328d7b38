use Rattle.law_run.proofs.OneChain.{transcript_agrees}
use Rattle.law_run.proofs.reports.transcripts_report_one_chain.Goals as goal

pub returns : goal.returns
returns c = transcript_agrees
