-- Bytes of a faulty member that are more than the limit.
use Rattle.std.proofs.Common.{◌≡◌, ℕ, zero, suc, ◌≤◌, [], ◌∷◌, None, Ok, replicate, refl, arith}
use Rattle.simplex_values.specs.declared.plan.Channel.TheVariants as channels
use Rattle.simplex_wire.specs.Message as format
use Rattle.simplex_transcript.specs.declared.entry.Packet.{Packet}
use Rattle.model_run.specs.Entries.{node_of, noted_packets, made_of, entry_of}
use Rattle.model_run.specs.Forged.{unless_forged, first_forged, is_forged, signed_in}
use Rattle.model_run.specs.Life.{Noted}
use Rattle.model_run.specs.Run.{unless_refused, run, RunFrom, Run}
use Rattle.model_run.specs.Samples.{at}
use Rattle.model_run.specs.Setting.{at_epoch_genesis}
use Rattle.model_run.specs.Setups.{first_bad}
use Rattle.law_run.specs.BackingSamples.{with_silent}
use Rattle.law_run.proofs.Good.{AllBytes, to_bytes}
use Rattle.law_run.specs.LimitSamples.{shouts, BreaksTheLimit}

abbrev packet : Packet
packet = record { from = node_of 3; channel = channels.Vote; to = at ∷ []; bytes = replicate 231 7 }

abbrev shout : Noted
shout = noted_packets [] shouts (node_of 3) None (packet ∷ [])

made : entry_of (at_epoch_genesis with_silent) [] shouts ≡ Ok shout
unfolding entry_of made_of unless_forged first_forged is_forged signed_in format.vote
made = refl

ran : Run with_silent (shouts ∷ []) ≡ Ok (shout.entry ∷ [])
unfolding RunFrom run unless_refused first_bad entry_of made_of unless_forged first_forged is_forged signed_in format.vote
ran = refl

sevens : (n : ℕ) → AllBytes (replicate n 7)
sevens zero = tt
sevens (suc n) = (omega arith, sevens n)

more : 231 ≤ 230 → ⊥
more h = omega (arith, h)

pub long_one : BreaksTheLimit with_silent (shouts ∷ [])
long_one =
    record {
      entries = shout.entry ∷ [];
      ran = ran;
      typed = (record { handed = tt; calls = tt; bytes = (to_bytes (replicate 231 7) (sevens 231), tt) }, tt);
      broken = λ h. more h.0.0;
    }
