use Rattle.std.proofs.Common.{List, ap, ◌∙◌}
use Rattle.std.specs.List.{filter_map}
use Rattle.simplex_journal.specs.Journal.{Section, crashed}
use Rattle.model_audit.specs.declared.record.AuditCall.{AuditCall}
use Rattle.model_audit.specs.Journal.{after_failure}
use Rattle.model_audit.specs.Rebuilt.{call_for}
use Rattle.model_steps.specs.Performed.{kept_by, after_calls}
use Rattle.simplex_reader.proofs.Failing.{behind_cut, behind_failure, behind_done, behind_idle, behind_refused}
use Rattle.simplex_reader.proofs.sections.take_calls.Goals as goal

pub returns-in-Cut : goal.returns-in-Cut
returns-in-Cut c = λ ruled pruned.
    behind_cut c.args.stop ruled _ c.args.stored.now _ c.args.entry.now.outcome c.in-Cut.is
    (c.crash.ensures
    ∙ ap (λ k. crashed k c.take_calls.new.self) c.kept_by.ensures
    ∙ ap (crashed (kept_by c.args.stop))
    (c.in_ok-take_calls.ensures ∙ ap (λ (calls : List AuditCall). after_calls (filter_map call_for calls) c.args.stored.now) c.as_slice.ensures))

pub returns-in-Journal : goal.returns-in-Journal
returns-in-Journal c = λ ruled pruned.
    behind_failure c.args.stop ruled _ c.args.stored.now _ c.args.entry.now.outcome c.in-Journal.is
    (c.stop_at_failure.ensures ruled pruned
    ∙ ap (λ (js : List Section). crashed (kept_by c.args.stop) (after_failure c.args.stop ruled js))
    (c.in_ok-take_calls.ensures ∙ ap (λ (calls : List AuditCall). after_calls (filter_map call_for calls) c.args.stored.now) c.as_slice.ensures))

pub returns-in-Done : goal.returns-in-Done
returns-in-Done c = λ ruled pruned.
    behind_done c.args.stop ruled _ c.args.stored.now _ c.args.entry.now.outcome c.in-Done.is
    (c.in_ok-take_calls.ensures ∙ ap (λ (calls : List AuditCall). after_calls (filter_map call_for calls) c.args.stored.now) c.as_slice.ensures)

pub returns-in-Idle : goal.returns-in-Idle
returns-in-Idle c = λ ruled pruned.
    behind_idle c.args.stop ruled _ c.args.stored.now _ c.args.entry.now.outcome c.in-Idle.is
    (c.in_ok-take_calls.ensures ∙ ap (λ (calls : List AuditCall). after_calls (filter_map call_for calls) c.args.stored.now) c.as_slice.ensures)

pub returns-in-Refused : goal.returns-in-Refused
returns-in-Refused c = λ ruled pruned.
    behind_refused c.args.stop ruled _ c.args.stored.now _ c.args.entry.now.outcome c.in-Refused.is
    (c.in_ok-take_calls.ensures ∙ ap (λ (calls : List AuditCall). after_calls (filter_map call_for calls) c.args.stored.now) c.as_slice.ensures)
