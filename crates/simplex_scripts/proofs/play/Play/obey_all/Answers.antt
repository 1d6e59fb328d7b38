use Rattle.std.proofs.Common.{◌≡◌, ◌-◌, arith, drop, length, subst, take}
use Rattle.std.proofs.lemmas.List.{nil_from_length}
use Rattle.simplex_scripts.specs.declared.came.Came.{Came}
use Rattle.simplex_scripts.specs.Playing.{obeyed}
use Rattle.simplex_scripts.specs.Stands.{Leads}
use Rattle.simplex_scripts.proofs.Going.{commands_more, commands_over, commands_stop, split_taken}
use Rattle.simplex_scripts.proofs.play.Play.obey_all.Goals as goal

pub loop-rest-preserved : goal.loop-rest-preserved
loop-rest-preserved c =
    commands_more c.args.self.now c.loop-rest.self c.obey.new.self c.args.commands.now c.loop-rest.rest.now (take (length c.loop-rest.rest.now - 1) (drop 1 c.loop-rest.rest.now)) c.it-item.result
    (split_taken c.loop-rest.rest.now c.it-item.result c.in-len1-up.len_at_least c.it-item.is) c.loop-rest.invariant
    (subst (λ (it : Came). Leads c.loop-rest.self c.obey.new.self (λ setting. obeyed setting c.it-item.result.line c.it-item.result.command) it) c.in-On.is
    c.in_ok-stopped.ensures)

pub returns-in_default-2 : goal.returns-in_default-2
returns-in_default-2 c =
    commands_stop c.args.self.now c.loop-rest.self c.obey.new.self c.args.commands.now c.loop-rest.rest.now (take (length c.loop-rest.rest.now - 1) (drop 1 c.loop-rest.rest.now)) c.it-item.result
    c.in_ok-stopped.stopped (split_taken c.loop-rest.rest.now c.it-item.result c.in-len1-up.len_at_least c.it-item.is) c.loop-rest.invariant
    c.in_ok-stopped.ensures c.in_default-2.not-On

pub returns : goal.returns
returns c =
    let none : length c.loop-rest.rest.now ≡ 0 = omega arith in
    commands_over c.args.self.now c.loop-rest.self c.args.commands.now c.loop-rest.rest.now (nil_from_length c.loop-rest.rest.now none)
    c.loop-rest.invariant
