-- What an engine that was just made is.
use Rattle.std.proofs.Common.{◌≡◌, refl, Bool, []}
use Rattle.simplex_wire.specs.declared.scheme.Scheme as scheme
use Rattle.simplex_types.specs.declared.elector.Elector as elector
use Rattle.simplex_journal.specs.declared.journal.Journal as journal
use Rattle.simplex_state.specs.Stands.{made_of}
use Rattle.simplex_voter.specs.Actor.{voter_made}
use Rattle.simplex_batcher.specs.declared.config.Config as batcher_configs
use Rattle.simplex_batcher.specs.Stands as batcher
use Rattle.simplex_batcher.specs.Stands.{batcher_made}
use Rattle.simplex_resolver.specs.declared.config.Config as resolver_configs
use Rattle.simplex_resolver.specs.Stands as resolver
use Rattle.simplex_resolver.specs.Stands.{resolver_made}
use Rattle.simplex_engine.specs.declared.config.EngineConfig.{EngineConfig}
use Rattle.simplex_engine.specs.declared.unstarted.Unstarted.{Unstarted}
use Rattle.simplex_engine.specs.Config.{engine_made}
use Rattle.simplex_engine.specs.Made.{voter_config, batcher_config, resolver_config}
use Rattle.simplex_engine.specs.Stands.{IsTold, Waits, empty_boxes}

module _ {S L J : Type 0} {s : scheme.Ghosts S} {l : elector.Ghosts L} {j : journal.Ghosts J} where
  pub made-waits : (told : Bool) (unstarted : Unstarted S L J s l j) (config : EngineConfig S L) (for_batcher : batcher_configs.Config S) (for_resolver : resolver_configs.Config S)
      → IsTold told unstarted
      → unstarted.config ≡ voter_config s.members config
      → for_batcher ≡ batcher_config l.cuts config
      → for_resolver ≡ resolver_config l.cuts config
      → batcher.StandsFor unstarted.batcher
      (batcher_made s.verifies s.recovers s.members s.member for_batcher) []
      → resolver.StandsFor unstarted.resolver (resolver_made s.verifies s.members s.member for_resolver) []
      → unstarted.boxes ≡ empty_boxes config.mailbox
      → Waits told unstarted (engine_made s.attests s.verifies s.recovers s.members s.member l.elects l.cuts config (j.sections unstarted.journal))
  unfolding engine_made voter_made made_of batcher_made resolver_made
  made-waits told unstarted config for_batcher for_resolver order e f k stands asks boxes = record {
    order = order;
    voter = λ start. rw e refl;
    batcher = rw f at stands;
    resolver = rw k at asks;
    boxes = boxes;
  }
