use Rattle.std.proofs.Common.{ap, sym, ◌∙◌}
use Rattle.model_run.specs.Setting.{setting_of}
use Rattle.model_run.specs.Wrapped.{behavior_of}
use Rattle.simplex_members.specs.Leading.{elects}
use Rattle.simplex_members.proofs.Configs.{setup-allowed, setup-stall, setup-lookahead, setup-made}
use Rattle.simplex_members.proofs.config.config_of.Goals as goal

pub returns-clause-built : goal.returns-clause-built
returns-clause-built c =
    let with = c.config_with.ensures in
    ap (λ e. e.fallback.members) with.elector ∙ c.in_ok-elector.ensures.members
    ∙ sym (ap (λ s. s.inner.participants) with.scheme ∙ ap (λ s. s.participants) c.new-scheme.ensures.inner ∙ c.in_ok-inner.ensures.1)

pub returns-clause-lookahead : goal.returns-clause-lookahead
returns-clause-lookahead c = setup-lookahead c.config_with.result (setting_of c.args.setup.now c.args.genesis) c.requires.good (ap (λ e. e.fallback.terms) c.config_with.ensures.elector ∙ c.in_ok-elector.ensures.terms)

pub returns-clause-stall : goal.returns-clause-stall
returns-clause-stall c = setup-stall _ (setting_of c.args.setup.now c.args.genesis) c.requires.good c.config_with.ensures.setup (ap (λ e. e.fallback.terms) c.config_with.ensures.elector ∙ c.in_ok-elector.ensures.terms)

pub returns-clause-allowed : goal.returns-clause-allowed
returns-clause-allowed c = setup-allowed _ (setting_of c.args.setup.now c.args.genesis) c.requires.good c.config_with.ensures.setup

pub returns-clause-made : goal.returns-clause-made
returns-clause-made c =
    let with = c.config_with.ensures in
    λ sections. setup-made _ (setting_of c.args.setup.now c.args.genesis) _ _ sections with.setup (with.floor ∙ c.in_ok-floor.ensures)
    (ap (λ e. e.fallback.terms) with.elector ∙ c.in_ok-elector.ensures.terms)
    (ap elects with.elector ∙ c.in_ok-elector.ensures.leaders)
    (ap (λ s. s.behavior) with.scheme ∙ c.new-scheme.ensures.behavior ∙ c.behavior_of.ensures ∙ ap behavior_of c.kind_of.ensures)
    (ap (λ s. s.inner.key_base) with.scheme ∙ ap (λ s. s.key_base) c.new-scheme.ensures.inner ∙ c.in_ok-inner.ensures.0)
    (ap (λ s. s.inner.participants) with.scheme ∙ ap (λ s. s.participants) c.new-scheme.ensures.inner ∙ c.in_ok-inner.ensures.1)
    (ap (λ s. s.inner.me) with.scheme ∙ ap (λ s. s.me) c.new-scheme.ensures.inner ∙ c.in_ok-inner.ensures.2)
