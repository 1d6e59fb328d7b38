use Rattle.std.proofs.Common.{◌≡◌, true, false, refl, sym, ◌∙◌, Some, None, rules, arith}
use Rattle.std.specs.Ordering.{nat_cmp}
use Rattle.std.specs.Map.{lookup}
use Rattle.std.specs.BTreeMap.{is_at}
use Rattle.std.proofs.lemmas.Grind.{common_steps}
use Rattle.model_resolver.specs.declared.entry.Entry.{Entry}
use Rattle.model_resolver.specs.Views.{entry_at, is_asked_as}
use Rattle.simplex_fetch.proofs.Entries.{passes}
use Rattle.simplex_fetch.proofs.Indexing.{found-unknown, found-no, found-yes, asked_needs}
use Rattle.simplex_fetch.proofs.views.Views.asked_view.Goals as goal

pub returns-in_err-view : goal.returns-in_err-view
returns-in_err-view c =
    let none : lookup (is_at (nat_cmp c.args.id)) c.self.inside.numbers.entries ≡ None = search rules in
    let is = found-unknown c.self.inside.entries.entries c.self.inside.timers.keys c.self.inside.numbers.entries c.self.invariant.0 c.args.id (λ (e : Entry). is_asked_as c.args.id c.args.sender.now e.state) (λ e. asked_needs c.args.id c.args.sender.now e.state) none in
    grind (arith, common_steps, is, c.self.view_is)

pub returns-in_err-entry : goal.returns-in_err-entry
unfolding entry_at
returns-in_err-entry c =
    let some : lookup (is_at (nat_cmp c.args.id)) c.self.inside.numbers.entries ≡ Some c.in_ok-view.field-0.now = search rules in
    let gone : entry_at c.self.inside.entries.entries c.in_ok-view.field-0.now ≡ None = search rules in
    let fails : passes (λ (e : Entry). is_asked_as c.args.id c.args.sender.now e.state) (entry_at c.self.inside.entries.entries c.in_ok-view.field-0.now) ≡ false = rw gone refl in
    let is = found-no c.self.inside.entries.entries c.self.inside.timers.keys c.self.inside.numbers.entries c.self.invariant.0 c.args.id (λ (e : Entry). is_asked_as c.args.id c.args.sender.now e.state) (λ e. asked_needs c.args.id c.args.sender.now e.state) c.in_ok-view.field-0.now some fails in
    grind (arith, common_steps, is, c.self.view_is)

pub returns-then-is_asked_as : goal.returns-then-is_asked_as
unfolding entry_at
returns-then-is_asked_as c =
    let some : lookup (is_at (nat_cmp c.args.id)) c.self.inside.numbers.entries ≡ Some c.in_ok-view.field-0.now = search rules in
    let there : entry_at c.self.inside.entries.entries c.in_ok-view.field-0.now ≡ Some c.in_ok-entry.entry.now = search rules in
    let pass : passes (λ (e : Entry). is_asked_as c.args.id c.args.sender.now e.state) (entry_at c.self.inside.entries.entries c.in_ok-view.field-0.now) ≡ true = rw there (sym c.is_asked_as.ensures ∙ c.if-is_asked_as.true) in
    let is = found-yes c.self.inside.entries.entries c.self.inside.timers.keys c.self.inside.numbers.entries c.self.invariant.0 c.args.id (λ (e : Entry). is_asked_as c.args.id c.args.sender.now e.state) (λ e. asked_needs c.args.id c.args.sender.now e.state) c.in_ok-view.field-0.now some pass in
    grind (arith, common_steps, is, c.self.view_is)

pub returns-else-is_asked_as : goal.returns-else-is_asked_as
unfolding entry_at
returns-else-is_asked_as c =
    let some : lookup (is_at (nat_cmp c.args.id)) c.self.inside.numbers.entries ≡ Some c.in_ok-view.field-0.now = search rules in
    let there : entry_at c.self.inside.entries.entries c.in_ok-view.field-0.now ≡ Some c.in_ok-entry.entry.now = search rules in
    let fails : passes (λ (e : Entry). is_asked_as c.args.id c.args.sender.now e.state) (entry_at c.self.inside.entries.entries c.in_ok-view.field-0.now) ≡ false = rw there (sym c.is_asked_as.ensures ∙ c.if-is_asked_as.false) in
    let is = found-no c.self.inside.entries.entries c.self.inside.timers.keys c.self.inside.numbers.entries c.self.invariant.0 c.args.id (λ (e : Entry). is_asked_as c.args.id c.args.sender.now e.state) (λ e. asked_needs c.args.id c.args.sender.now e.state) c.in_ok-view.field-0.now some fails in
    grind (arith, common_steps, is, c.self.view_is)
