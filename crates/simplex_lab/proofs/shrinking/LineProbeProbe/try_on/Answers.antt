use Rattle.std.proofs.Common.{◌≡◌, rules}
use Rattle.simplex_writer.specs.Inputs.{input_text}
use Rattle.simplex_lab.proofs.Saying.{as_written}
use Rattle.simplex_lab.proofs.shrinking.LineProbeProbe.try_on.Goals as goal

pub returns : goal.returns
returns c =
    let setup = c.args.self.now.setup.now in
    let line = c.args.self.now.line.now in
    let events = c.args.events.now in
    let written : c.as_bytes.result.now ≡ input_text setup events = search rules in
    as_written setup line events c.as_bytes.result.now c.in_ok-read.read c.in_ok-makes.makes written c.in_ok-read.ensures c.in_ok-makes.ensures
