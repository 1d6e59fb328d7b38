use Rattle.std.proofs.Common.{ap, ◌∙◌}
use Rattle.std.specs.Prelude.{filter_map}
use Rattle.std.specs.List.{list_any}
use Rattle.std.specs.Str.{bytes_eq}
use Rattle.model_audit.specs.VotesDue.{vote_bytes}
use Rattle.simplex_judge.proofs.Sent.{carries-votes}
use Rattle.simplex_judge.proofs.sending.is_sent.Goals as goal

pub returns : goal.returns
returns c =
    c.is_among.ensures ∙ carries-votes _ c.args.packets.now
    ∙ ap (λ bytes. list_any (bytes_eq bytes) (filter_map vote_bytes c.args.packets.now)) (c.as_slice.ensures.value ∙ c.in_ok-bytes.ensures.spelled)
