use Rattle.simplex_disk.proofs.Found.{found_all, found_left, found_settled}
use Rattle.simplex_disk.proofs.memory.MemoryDisk.may_be_settled.Goals as goal

pub returns : goal.returns
returns c = (found_all c.args.self.now.kept, found_left c.args.self.now.kept, found_settled c.args.self.now.kept)
