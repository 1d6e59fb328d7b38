-- What stands in a room into which bytes were written.
use Rattle.std.specs.Prelude.{ℕ, List, ◌++◌, length, take, drop}

-- the first of the bytes, as many as there is room for, and then what stood there
abbrev pub filled : List ℕ → List ℕ → List ℕ
filled room bytes = take (length room) bytes ++ drop (length bytes) room
