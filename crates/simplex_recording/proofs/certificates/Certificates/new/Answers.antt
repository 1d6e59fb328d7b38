use Rattle.simplex_recording.proofs.Entered.{none_at}
use Rattle.simplex_recording.proofs.certificates.Certificates.new.Goals as goal

pub returns : goal.returns
returns c = record { views_are = λ view. none_at _ view (c.empty_map.ensures view) }
