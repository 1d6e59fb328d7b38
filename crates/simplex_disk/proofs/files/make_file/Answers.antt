use Rattle.std.proofs.Common.{Some}
use Rattle.simplex_disk.proofs.Keeping.{updated_files}
use Rattle.simplex_disk.proofs.files.make_file.Goals as goal

pub returns-clause-ok : goal.returns-clause-ok
returns-clause-ok c = updated_files c.args.files.now.entries c.insert.new.self.entries c.args.number (Some c.args.bytes) c.in_ok-insert.ensures.updates.0
