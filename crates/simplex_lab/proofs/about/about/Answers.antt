-- The help that is written is the definition's, letter by letter.
use Rattle.std.proofs.Common.{◌≡◌, ◌∙◌, ℕ, Bool, true, List, Some, cond, sym, ap}
use Rattle.std.specs.Prelude.{None, Option, String, codes, map, string_bytes}
use Rattle.std.specs.declared.alloc.Global.{Global}
use Rattle.simplex_front.specs.Words.{is_alone}
use Rattle.simplex_lab.specs.About.{help, said_on, version}
use Rattle.simplex_lab.proofs.about.about.Goals as goal

said_help : (words : List (String Global)) (asks : Bool) → asks ≡ is_alone (codes "--help") (map string_bytes words) → asks ≡ true
    → Some help ≡ said_on words
said_help words asks is so =
    let other : Option (List ℕ) = cond (is_alone (codes "--version") (map string_bytes words)) (Some version) None in
    sym (ap (λ (it : Bool). cond it (Some help) other) (sym is ∙ so))

pub returns-then-is_word : goal.returns-then-is_word
returns-then-is_word c = said_help c.args.words.now c.is_word.result c.is_word.ensures c.if-is_word.true
