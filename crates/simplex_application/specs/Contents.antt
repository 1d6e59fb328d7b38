-- Contents by their payloads.
use Rattle.std.specs.Prelude.{ℕ, List, Option}
use Rattle.std.specs.Ordering.{nat_cmp}
use Rattle.std.specs.declared.cmp.Ordering.{Ordering}
use Rattle.std.specs.Cmp.Lexicographic.{slice_cmp}
use Rattle.std.specs.Map.{lookup, remove_entry}
use Rattle.std.specs.BTreeMap.{is_at, insert_entry}

-- payloads with their contents, in rising order of the payloads
abbrev pub Contents : Type 0
Contents = List (List ℕ × List ℕ)

abbrev pub in_order : List ℕ → List ℕ → Ordering
in_order a b = slice_cmp nat_cmp a b

unfoldable pub contents_in : Contents → List ℕ → Option (List ℕ)
contents_in known payload = lookup (is_at (in_order payload)) known

-- in place of other contents of the payload
unfoldable pub with_contents : Contents → List ℕ → List ℕ → Contents
with_contents known payload contents = insert_entry in_order known payload contents

unfoldable pub without : Contents → List ℕ → Contents
without known payload = remove_entry (is_at (in_order payload)) known
