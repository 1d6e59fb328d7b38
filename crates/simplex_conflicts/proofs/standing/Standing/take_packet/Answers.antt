use Rattle.std.proofs.Common.{ℕ, List, false, subst, sym, ap, ◌∙◌}
use Rattle.std.specs.Option.{option_to_list}
use Rattle.simplex_wire.specs.declared.certificate.Certificate.{Certificate}
use Rattle.law_run.specs.Backed.{certificate_on}
use Rattle.simplex_conflicts.specs.Standing.{TakesIn}
use Rattle.simplex_conflicts.proofs.Clashing.{takes_none}
use Rattle.simplex_conflicts.proofs.standing.Standing.take_packet.Goals as goal

pub returns-in-None : goal.returns-in-None
returns-in-None c =
    subst (λ (here : List Certificate). TakesIn c.args.self.now c.args.self.now here false)
    (ap option_to_list (sym c.in-None.is) ∙ c.in_ok-certificate_on.ensures
    ∙ ap (λ (bytes : List ℕ). certificate_on c.args.packet.now.channel bytes) c.as_slice.ensures)
    (takes_none c.args.self.now)
