use Rattle.std.proofs.Common.{◌≡◌, [], Some, string_bytes, ap, ◌∙◌, rules}
use Rattle.serde_json.specs.Data.{no_members, put}
use Rattle.serde_json.specs.View.{view, members_view}
use Rattle.serde_json.specs.declared.value.Value.{Object}
use Rattle.serde_json.proofs.Views.{view-Object, members_view-insert_entry}
use Rattle.simplex_form.specs.Events.{event_of}
use Rattle.simplex_form.proofs.next_event.rest_of_any.Goals as goal

pub returns : goal.returns
returns c =
    let key = c.in_ok-key.key in
    let value = c.args.member in
    let none : c.new-found.result.entries ≡ [] = search rules in
    let copied : string_bytes key ≡ c.args.name.now = search rules in
    let inserted : members_view c.insert.new.self.entries ≡ put c.args.name.now (view value) no_members =
    ap members_view c.in_ok-insert.ensures.entries ∙ members_view-insert_entry c.new-found.result.entries key value
    ∙ ap (λ ms. put (string_bytes key) (view value) ms) (ap members_view none) ∙ ap (λ name. put name (view value) no_members) copied in
    let found = c.in_ok-rest_of_members.field-0 in
    let says : event_of (view (Object found)) ≡ Some c.in_ok-event.event = search rules in
    (members_view found.entries, λ n enough. rw inserted at (c.in_ok-rest_of_members.ensures.said n enough), rw (view-Object found) at says)
