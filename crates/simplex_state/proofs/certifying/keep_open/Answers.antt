use Rattle.std.proofs.Common.{◌&&◌, nat_lt, rules}
use Rattle.std.proofs.lemmas.Fn.{filter_same}
use Rattle.simplex_state.specs.Rounds.{round_in, is_open}
use Rattle.simplex_state.proofs.Waiting.{kept}
use Rattle.simplex_state.proofs.certifying.keep_open.Goals as goal

pub returns : goal.returns
returns c = λ q.
    kept (λ v. nat_lt c.args.last v && is_open (round_in c.args.rounds.now v)) _ _ q
    (filter_same _ _ _ (λ x b f' k. search rules) _ _ c.retain.ensures.filtered)
