use Rattle.std.proofs.Common.{None}
use Rattle.simplex_disk.proofs.Keeping.{updated_files}
use Rattle.simplex_disk.proofs.files.remove_file.Goals as goal

pub returns : goal.returns
returns c = updated_files c.args.files.now.entries c.remove.new.self.entries c.args.number None c.remove.ensures.updates.0
