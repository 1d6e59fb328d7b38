use Rattle.std.proofs.Common.{◌++◌, ◌∷◌, [], ℕ, List, filter, ap, ◌∙◌}
use Rattle.std.specs.List.{flat_map}
use Rattle.model_epochs.specs.Lines.{is_honest_in, member_lines}
use Rattle.simplex_epochs.specs.Runs.{inputs_of, rans_of}
use Rattle.simplex_epochs.proofs.Written.{members_more}
use Rattle.std.specs.Prelude.{string_bytes}
use Rattle.simplex_epochs.proofs.text.write_members.Goals as goal

pub loop-member-preserved : goal.loop-member-preserved
loop-member-preserved c =
    let f = member_lines c.args.height (inputs_of c.args.epochs.now) (rans_of c.args.runs.now) in
    let test = is_honest_in (inputs_of c.args.epochs.now) in
    let member = c.loop-member.member in
    c.in_ok-write_member.ensures
    ∙ ap (λ (bytes : List ℕ). bytes ++ flat_map f (filter test (member ∷ []))) c.loop-member.invariant
    ∙ members_more f test (string_bytes c.args.text.now) member
