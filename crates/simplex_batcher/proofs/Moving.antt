-- Where a batcher stands when its rounds change.
use Rattle.std.proofs.Common.{◌≡◌, ◌∙◌, sym, ℕ, Option}
use Rattle.simplex_wire.specs.declared.scheme.Scheme as scheme
use Rattle.model_steps.specs.Batcher.{Made, Standing, RoundHistory}
use Rattle.simplex_batcher.specs.declared.actor.Actor.{Actor}
use Rattle.simplex_batcher.specs.declared.rounds.Rounds.{Rounds}
use Rattle.simplex_batcher.specs.Rounds.{round_at}
use Rattle.simplex_batcher.specs.Stands.{IsAt}
use Rattle.simplex_batcher.proofs.Placing.{Stand}

-- its rounds stand for these histories from now on
pub moved : {S : Type 0} {g : scheme.Ghosts S} (actor : Actor S g) (made : Made) (standing : Standing) (rounds : Rounds) (histories : ℕ → Option RoundHistory)
    → IsAt actor made standing → rounds.current ≡ actor.rounds.current → Stand (round_at rounds) histories
    → IsAt (record actor { rounds = rounds }) made (record standing { rounds = histories })
moved actor made standing rounds histories s current stand = record {
  made_is = s.made_is;
  current_is = s.current_is ∙ sym current;
  leader_is = s.leader_is;
  finalized_is = s.finalized_is;
  hinted_is = s.hinted_is;
  seen_is = s.seen_is;
  round_is = stand;
}
