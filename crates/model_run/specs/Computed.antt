-- Names for what a clause unfolds to compute a sample: an attribute cites one of them, and each cites those below it.
use Rattle.std.specs.Prelude.{⊤}
use Rattle.model_faults.specs.Wrapped.{wrapped_attests}
use Rattle.model_run.specs.Entries.{entry_of, made_of, taken_of, was_reported}
use Rattle.model_run.specs.Forged.{first_forged, is_forged, signed_in, unless_forged}
use Rattle.model_run.specs.Hearing.{heard_in}
use Rattle.model_run.specs.Life.{after, clock_of, life_in}
use Rattle.model_run.specs.Members.{batcher_of, engine_of, resolver_of, rules_of}
use Rattle.model_run.specs.Mocks.{heard_by}
use Rattle.model_run.specs.Requests.{asked_since, packet_at, packet_for, request_number, request_place}
use Rattle.model_run.specs.Routing.{is_routed, nodes_for, packet_view}
use Rattle.model_run.specs.Run.{RunFrom, run as run_run, unless_refused}
use Rattle.model_run.specs.SentVotes.{has_sent, sent_votes}
use Rattle.model_run.specs.Setups.{first_bad}
use Rattle.model_run.specs.Twins.{elected, is_in_part, round_at}
use Rattle.model_steps.specs.Computed.{steps}
use Rattle.simplex_journal.specs.Journal.{all_synced, appended, appended_section, crashed, crashed_section, opened_section, pruned, pruned_first, replayed, synced_at, synced_section}
use Rattle.simplex_types.specs.Keyed.{key_of, keyed_attests, keyed_verifies, keys_of, signature_of}
use Rattle.simplex_types.specs.RoundRobin.{leader_of}

-- what computes a whole run, but for signatures and random words
unfoldable pub run : ⊤
unfolding steps wrapped_attests entry_of made_of taken_of was_reported first_forged is_forged signed_in unless_forged
    heard_in after clock_of life_in batcher_of engine_of resolver_of rules_of heard_by asked_since packet_at packet_for
    request_number request_place is_routed nodes_for packet_view RunFrom run_run unless_refused has_sent sent_votes
    first_bad elected is_in_part round_at all_synced appended appended_section crashed crashed_section opened_section
    pruned pruned_first replayed synced_at synced_section key_of keyed_attests keyed_verifies keys_of signature_of
    leader_of
run = tt
