-- What is named by a word.
use Rattle.std.specs.Prelude.{ℕ, ◌==◌, nat_lt, Bool, true, false, List, length, codes, Option, Some, None, if◌then◌else◌}
use Rattle.std.specs.List.{before_first, after_first, position_or_len}
use Rattle.std.specs.Option.{option_map}
use Rattle.std.specs.Str.{bytes_eq}
use Rattle.simplex_transcript.specs.declared.node.Node.{Node}
use Rattle.simplex_names.specs.Numbers.{number_of}
use Rattle.simplex_script.specs.declared.command.Question.{Question}
use Rattle.simplex_script.specs.declared.command.Question.TheVariants as questions
use Rattle.simplex_script.specs.declared.command.Whom.{Whom}
use Rattle.simplex_script.specs.declared.command.Whom.TheVariants as whoms

-- whether the byte stands in the word
abbrev pub has : ℕ → List ℕ → Bool
has mark word = nat_lt (position_or_len (λ c. c == mark) word) (length word)

-- the word up to the first such byte, and behind it
abbrev pub before : ℕ → List ℕ → List ℕ
before mark word = before_first (λ c. c == mark) word

abbrev pub behind : ℕ → List ℕ → List ℕ
behind mark word = after_first (λ c. c == mark) word

abbrev pub node_with : Option ℕ → Option ℕ → Option Node
node_with (Some member) (Some half) = Some (record { member = member; half = half })
node_with _ _ = None

-- a node: a member, and behind a dot its half, which is 0 where none is named
abbrev pub node_of : List ℕ → Option Node
node_of word =
    if has 46 word then node_with (number_of (before 46 word)) (number_of (behind 46 word))
    else node_with (number_of word) (Some 0)

abbrev pub both : Option Node → Option Node → Option (Node × Node)
both (Some from) (Some to) = Some (from, to)
both _ _ = None

-- the node behind the point of an arrow
abbrev pub pointed : List ℕ → Option Node
pointed word = if has 62 word then (if length (before 62 word) == 0 then node_of (behind 62 word) else None) else None

-- two nodes, with an arrow from one to the other
abbrev pub way_of : List ℕ → Option (Node × Node)
way_of word = if has 45 word then both (node_of (before 45 word)) (pointed (behind 45 word)) else None

abbrev pub question_word : Question → List ℕ
question_word questions.Verify = codes "verify"
question_word questions.Certify = codes "certify"

abbrev pub verdict_of : List ℕ → Option Bool
verdict_of word =
    if bytes_eq word (codes "yes") then Some true else if bytes_eq word (codes "no") then Some false else None

abbrev pub whom_of : List ℕ → Option Whom
whom_of word =
    if bytes_eq word (codes "all") then Some whoms.All else option_map (λ node. whoms.One node) (node_of word)
