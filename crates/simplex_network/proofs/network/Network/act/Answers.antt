use Rattle.std.proofs.Common.{refl, sym, ap, ◌∙◌}
use Rattle.std.proofs.lemmas.Result.{IfOk-weaker, IfErr-weaker}
use Rattle.model_run.specs.Life.{Running}
use Rattle.simplex_network.specs.Parts.{part_in}
use Rattle.simplex_network.specs.Stands.{entered}
use Rattle.simplex_network.proofs.Acting.{act-input, act-missing, act-stopped}
use Rattle.simplex_network.proofs.Found.{found-none, found-stopped, found-running, found-faulty}
use Rattle.simplex_network.proofs.Lending.{remembers-of}
use Rattle.simplex_network.proofs.ManyHosts.{hosts-at, hosts-set, hosts-kept}
use Rattle.simplex_network.proofs.Networks.{part-lives, hosts-rest, network-entered, network-polled}
use Rattle.simplex_network.proofs.Places.{node-member, node-half}
use Rattle.simplex_network.proofs.Polled.{poll-refused, whole-error}
use Rattle.simplex_network.proofs.network.Network.act.Goals as goal

pub returns-in-Err-clause-reason : goal.returns-in-Err-clause-reason
returns-in-Err-clause-reason c =
    λ whole setting before s.
    let n = found-none setting before c.args.node _ (c.in-Err.ensures.found setting before s) in
    rw n.1 (act-missing setting before c.args.node c.args.event.now c.requires n.0)

pub returns-in-Stopped-clause-reason : goal.returns-in-Stopped-clause-reason
returns-in-Stopped-clause-reason c =
    λ whole setting before s.
    act-stopped setting before c.args.node c.args.event.now c.requires (found-stopped setting before c.args.node (rw c.in-Stopped.is at (c.in-Ok.ensures.found setting before s)))

pub returns-in-Faulty-clause-stands : goal.returns-in-Faulty-clause-stands
returns-in-Faulty-clause-stands c =
    IfOk-weaker c.act_without_engine.result _ _
    (λ _ adds setting before noted s is.
    let f = found-faulty setting before c.args.node (rw c.in-Faulty.is at (c.in-Ok.ensures.found setting before s)) in
    adds setting before noted s f.engine is)
    c.act_without_engine.ensures.stands

pub returns-in-Faulty-clause-entry : goal.returns-in-Faulty-clause-entry
returns-in-Faulty-clause-entry c =
    IfOk-weaker c.act_without_engine.result _ _
    (λ entry gives setting before s.
    let f = found-faulty setting before c.args.node (rw c.in-Faulty.is at (c.in-Ok.ensures.found setting before s)) in
    gives setting before s f.engine)
    c.act_without_engine.ensures.entry

pub returns-in-Faulty-clause-reason : goal.returns-in-Faulty-clause-reason
returns-in-Faulty-clause-reason c =
    IfErr-weaker c.act_without_engine.result _ _
    (λ error denies whole setting before s.
    let f = found-faulty setting before c.args.node (rw c.in-Faulty.is at (c.in-Ok.ensures.found setting before s)) in
    denies whole setting before s f.engine)
    c.act_without_engine.ensures.reason

pub returns-in-Faulty-clause-stays : goal.returns-in-Faulty-clause-stays
returns-in-Faulty-clause-stays c =
    IfErr-weaker c.act_without_engine.result _ _
    (λ error rests whole setting before s.
    let f = found-faulty setting before c.args.node (rw c.in-Faulty.is at (c.in-Ok.ensures.found setting before s)) in
    rests whole setting before s f.engine)
    c.act_without_engine.ensures.stays

pub returns-in-Err-given-clause-reason : goal.returns-in-Err-given-clause-reason
returns-in-Err-given-clause-reason c =
    λ whole setting before s.
    c.in-Err-given.ensures.reason whole setting before (remembers-of c.args.self.now setting before s) (rw c.in-Running.is at (c.in-Ok.ensures.found setting before s))

pub returns-in-Err-poll-clause-reason : goal.returns-in-Err-poll-clause-reason
returns-in-Err-poll-clause-reason c =
    λ whole setting before s.
    let found = rw c.in-Running.is at (c.in-Ok.ensures.found setting before s) in
    let r = found-running setting before c.args.node _ found in
    (c.in-Ok-given.ensures.is setting before (Running r.made r.past) (remembers-of c.args.self.now setting before s) found (r.engine, r.life))
    ∙ rw c.run_error.ensures (poll-refused setting.setup before c.args.event.now _ _ _ _ _ (Running r.made r.past)
    (c.in-Err-poll.ensures.refused (whole-error _ (rw c.run_error.ensures at whole)) setting.setup _ (Running r.made r.past)
    (hosts-at setting.setup _ (part_in setting before) c.args.node _ _ (rw s.given at s.hosts) c.seat-at.ensures.has (rw c.seat-at.ensures.seat at c.index_mut-host.ensures.value)
    (part-lives setting before c.args.node (Running r.made r.past) (r.engine, r.life)))))

pub returns-in-Err-poll-clause-stays : goal.returns-in-Err-poll-clause-stays
returns-in-Err-poll-clause-stays c =
    λ whole setting before s.
    hosts-rest c.args.self.now _ setting before refl refl refl refl refl (λ setup parts stand. rw c.seat-at.ensures.seat (hosts-kept setup _ parts c.args.node _ c.seat-at.ensures.has.0 stand
    (c.in-Err-poll.ensures.stays (whole-error _ (rw c.run_error.ensures at whole)) setup _ _ (hosts-at setup _ parts c.args.node _ _ stand c.seat-at.ensures.has (rw c.seat-at.ensures.seat at c.index_mut-host.ensures.value) refl)))) s

pub returns-clause-entry : goal.returns-clause-entry
returns-clause-entry c =
    λ setting before s.
    let found = rw c.in-Running.is at (c.in-Ok.ensures.found setting before s) in
    let r = found-running setting before c.args.node _ found in
    ap (λ x. entered x) (c.in-Ok-given.ensures.is setting before (Running r.made r.past) (remembers-of c.args.self.now setting before s) found (r.engine, r.life)) ∙ (network-entered c.args.self.now setting before c.args.event.now c.args.node _ _ _ _ (Running r.made r.past) s (r.engine, r.life)
    (λ setup parts life stand does. c.in-Ok-poll.ensures.gives setup _ life (hosts-at setup _ parts c.args.node _ _ stand c.seat-at.ensures.has (rw c.seat-at.ensures.seat at c.index_mut-host.ensures.value) does))
    c.in_ok-entry.ensures.entry)

pub returns-clause-stands : goal.returns-clause-stands
returns-clause-stands c =
    λ setting before noted s is.
    let found = rw c.in-Running.is at (c.in-Ok.ensures.found setting before s) in
    let r = found-running setting before c.args.node _ found in
    let noted_is = sym (c.in-Ok-given.ensures.is setting before (Running r.made r.past) (remembers-of c.args.self.now setting before s) found (r.engine, r.life)) ∙ is in
    network-polled c.args.self.now _ setting before c.args.event.now noted c.args.node _ _ _ _ _ _ _ (Running r.made r.past)
    (node-half c.args.self.now.setup c.args.node c.in-Ok.ensures.exists) (rw s.given at (node-member c.args.self.now.setup c.args.node c.in-Ok.ensures.exists))
    refl refl refl refl s (r.engine, r.life) (act-input c.args.event.now c.args.node c.requires) noted_is
    (network-entered c.args.self.now setting before c.args.event.now c.args.node _ _ _ _ (Running r.made r.past) s (r.engine, r.life)
    (λ setup parts life stand does. c.in-Ok-poll.ensures.gives setup _ life (hosts-at setup _ parts c.args.node _ _ stand c.seat-at.ensures.has (rw c.seat-at.ensures.seat at c.index_mut-host.ensures.value) does))
    c.in_ok-entry.ensures.entry)
    (λ setup parts life stand does. c.in-Ok-poll.ensures.gives setup _ life (hosts-at setup _ parts c.args.node _ _ stand c.seat-at.ensures.has (rw c.seat-at.ensures.seat at c.index_mut-host.ensures.value) does))
    (λ setup parts life stand does. rw c.seat-at.ensures.seat (hosts-set setup _ parts c.args.node _ _ c.seat-at.ensures.has.0 stand (c.in-Ok-poll.ensures.stands setup _ life (hosts-at setup _ parts c.args.node _ _ stand c.seat-at.ensures.has (rw c.seat-at.ensures.seat at c.index_mut-host.ensures.value) does)))) c.in_ok-entry.ensures.stands
