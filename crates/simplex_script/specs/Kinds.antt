-- The kinds of members.
use Rattle.std.specs.Prelude.{ℕ, List, [], ◌∷◌, codes, Option, Some, None, if◌then◌else◌}
use Rattle.std.specs.Str.{bytes_eq}
use Rattle.simplex_transcript.specs.declared.setup.MemberKind.{MemberKind}
use Rattle.simplex_transcript.specs.declared.setup.MemberKind.TheVariants as kinds
use Rattle.simplex_names.specs.Names.{named_kind_of}
use Rattle.simplex_names.specs.Numbers.{number_of}
use Rattle.simplex_script.specs.Names.{has, before, behind}

-- outdated by so many views
abbrev pub outdated : List ℕ → Option ℕ → Option MemberKind
outdated word (Some views) = if bytes_eq word (codes "outdated") then Some (kinds.Outdated views) else None
outdated word None = None

-- a kind; behind a colon stands by how many views it is outdated
abbrev pub kind_of : List ℕ → Option MemberKind
kind_of word = if has 58 word then outdated (before 58 word) (number_of (behind 58 word)) else named_kind_of word

abbrev pub with_kind : Option MemberKind → Option (List MemberKind) → Option (List MemberKind)
with_kind (Some kind) (Some kinds_) = Some (kind ∷ kinds_)
with_kind _ _ = None

-- the kinds that the words say, if each says one
abbrev pub kinds_of : List (List ℕ) → Option (List MemberKind)
kinds_of [] = Some []
kinds_of (word ∷ words) = with_kind (kind_of word) (kinds_of words)
