use Rattle.simplex_wire.specs.Format.{whole}
use Rattle.simplex_wire.specs.ResolverMessage.{resolver_message}
use Rattle.model_resolver.specs.Fetcher.{heard}
use Rattle.simplex_fetch.proofs.Rounds.{message_opens}
use Rattle.simplex_fetch.proofs.laws.answers_are_of_open_requests.Goals as goal

pub returns : goal.returns
unfolding heard
returns c = λ fetcher sender bytes now id view answer asks given. message_opens fetcher sender now id view answer asks (whole resolver_message bytes) given
