-- What a configuration makes of the configurations of the voter, of the batcher and of the resolver.
use Rattle.std.specs.Prelude.{ℕ}
use Rattle.simplex_values.specs.declared.terms.Terms.{Terms}
use Rattle.simplex_voter.specs.declared.config.Config as voter
use Rattle.simplex_batcher.specs.declared.config.Config as batcher
use Rattle.simplex_resolver.specs.declared.config.Config as resolver
use Rattle.simplex_engine.specs.declared.config.EngineConfig.{EngineConfig}
use Rattle.simplex_engine.specs.Config.{budget, view_at}

module _ {S L : Type 0} where
  -- what the voter is made with
  abbrev pub voter_config : (S → ℕ) → EngineConfig S L → voter.Config S L
  voter_config members config =
      record {
        scheme = config.scheme;
        elector = config.elector;
        epoch = config.epoch;
        floor = config.floor;
        mailbox_size = config.mailbox;
        leader_timeout = config.leader_timeout;
        certification_timeout = config.certification_timeout;
        timeout_retry = config.retry;
        skip_budget = budget (members config.scheme) config.skip;
        view_retention = config.retention;
        handoff = config.handoff;
        genesis = config.genesis;
      }

  -- what the batcher is made with
  abbrev pub batcher_config : (L → Terms) → EngineConfig S L → batcher.Config S
  batcher_config cuts config =
      record {
        scheme = config.scheme;
        track_historical_votes = config.track;
        view_retention = config.retention;
        skip = config.skip;
        epoch = config.epoch;
        mailbox_size = config.mailbox;
        lookahead = record { length = (cuts config.elector).length; views = (cuts config.elector).lookahead };
        forward = config.forward;
        floor = view_at config.floor;
      }

  -- what the resolver is made with
  abbrev pub resolver_config : (L → Terms) → EngineConfig S L → resolver.Config S
  resolver_config cuts config =
      record {
        scheme = config.scheme;
        epoch = config.epoch;
        mailbox_size = config.mailbox;
        handler_size = config.mailbox;
        fetch_timeout = config.fetch_timeout;
        fetch_retry_delay = config.fetch_retry;
        term_length = (cuts config.elector).length;
      }
