use Rattle.std.proofs.Common.{◌≡◌, take}
use Rattle.std.specs.Prelude.{◌||◌, filter_map}
use Rattle.std.specs.List.{list_any}
use Rattle.simplex_values.specs.declared.proposal.Subject.{Subject}
use Rattle.simplex_records.specs.Votes.{vote_in, is_on, has_subject}
use Rattle.simplex_records.proofs.subjects.Subjects.add.Given as goal

abbrev pub invariant-loop-packet : goal.invariant-loop-packet
invariant-loop-packet l =
    (s : Subject) → has_subject l.self s ≡ (list_any (is_on s) (filter_map vote_in (take l.packet-index l.packets)) || has_subject l.initial.self s)
