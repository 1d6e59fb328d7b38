-- Names for what a clause unfolds to compute a sample: an attribute cites one of them, and each cites those below it.
use Rattle.std.specs.Prelude.{⊤}
use Rattle.model_resolver.specs.Asks.{asks_behind, targets_behind}
use Rattle.model_resolver.specs.Fetcher.{adding, answered as fetcher_answered, asked_on, asking, attempted, attempted_at, attempting, blocking, delivered as fetcher_delivered, expired, expired_as, expired_at, expiring as fetcher_expiring, fetched_beside, heard, heard_body, heard_message, judged, judged_as, judged_at, judged_entry, kept_or_left, message_bytes, noting, others_of, peer_of, refused, requested as fetcher_requested, retained, retired_at, retiring as fetcher_retiring, retried, retrying, served, served_as, visited}
use Rattle.model_resolver.specs.Resolver.{accepted, acted, after_blocking, after_taking, answered as resolver_answered, at_first, called, called_all, deadline_after, delivered as resolver_delivered, expiring as resolver_expiring, fetching, handler_message, hearing, holds_handled, is_excepted, is_valid, judging, leaving, minded, minded_all, passed_over, produced, putting, repairing, requested as resolver_requested, resolving, retiring as resolver_retiring, retiring_all, serving, settled_count, standing_after, step, step_out, took_handled, took_mail, validated, verdict_of, with_effects}
use Rattle.model_resolver.specs.Retirement.{touches}
use Rattle.model_resolver.specs.Sends.{asked_in, placed, send_calls}
use Rattle.model_resolver.specs.Views.{entry_at, first_view, next_deadline, views_where, with_entry, without_entry}
use Rattle.model_rules.specs.Computed.{repairs, wire}
use Rattle.simplex_mailbox.specs.Mail.{after_leave, after_recv, all_enqueued, enqueued, feedback_of, taken_from}
use Rattle.simplex_mailbox.specs.Waiting.{behind, drained, in_turn, undrained, undrained_at}
use Rattle.simplex_messages.specs.Policies.{batcher_handled, handled_by_view, handler_handled, resolver_handled, voter_handled}

-- what computes a resolver's calls
unfoldable pub resolver : ⊤
unfolding repairs wire asks_behind targets_behind adding fetcher_answered asked_on asking attempted attempted_at
    attempting blocking fetcher_delivered expired expired_as expired_at fetcher_expiring fetched_beside heard heard_body
    heard_message judged judged_as judged_at judged_entry kept_or_left message_bytes noting others_of peer_of refused
    fetcher_requested retained retired_at fetcher_retiring retried retrying served served_as visited accepted acted
    after_blocking after_taking resolver_answered at_first called called_all deadline_after resolver_delivered
    resolver_expiring fetching handler_message hearing holds_handled is_excepted is_valid judging leaving minded
    minded_all passed_over produced putting repairing resolver_requested resolving resolver_retiring retiring_all
    serving settled_count standing_after step step_out took_handled took_mail validated verdict_of with_effects touches
    asked_in placed send_calls entry_at first_view next_deadline views_where with_entry without_entry after_leave
    after_recv all_enqueued enqueued feedback_of taken_from behind drained in_turn undrained undrained_at
    batcher_handled handled_by_view handler_handled resolver_handled voter_handled
resolver = tt
