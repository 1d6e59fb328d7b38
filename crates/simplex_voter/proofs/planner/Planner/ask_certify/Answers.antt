use Rattle.std.proofs.Common.{arith, refl, None}
use Rattle.std.proofs.lemmas.Grind.{common_steps}
use Rattle.std.proofs.lemmas.List.{map-append}
use Rattle.simplex_voter.specs.Arrivals.{opened_of}
use Rattle.simplex_voter.specs.Stands.{doing_of}
use Rattle.simplex_voter.proofs.Arriving.{arrived-certify}
use Rattle.simplex_voter.proofs.planner.Planner.ask_certify.Goals as goal

pub returns : goal.returns
unfolding doing_of
returns g c = λ made answers doing s. record {
  calls = s.calls;
  state = s.state;
  retains = s.retains;
  does = grind (arith, common_steps, s.does, map-append opened_of c.args.self.now.certify.items);
  keeps = grind (arith, common_steps, arrived-certify answers c.args.self.now.proposal c.args.self.now.verify c.args.self.now.certify.items c.args.self.now.opened c.args.self.now.arrivals (record { number = c.args.self.now.opened; view = c.args.proposal.now.round.view; arrival = None }) refl refl s.keeps);
}
