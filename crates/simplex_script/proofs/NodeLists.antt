-- What words name, one more at a time.
use Rattle.std.proofs.Common.{◌≡◌, List, [], ◌∷◌, ◌++◌, refl, ap, append_assoc}
use Rattle.std.specs.Prelude.{Option, Some, None}
use Rattle.simplex_transcript.specs.declared.node.Node.{Node}
use Rattle.simplex_script.specs.Orders.{with_node}

-- these before those, if there are some
abbrev pub behind : List Node → Option (List Node) → Option (List Node)
behind items None = None
behind items (Some others) = Some (items ++ others)

pub behind_none : (o : Option (List Node)) → behind [] o ≡ o
behind_none None = refl
behind_none (Some others) = refl

pub behind_more : (items : List Node) (item : Node) (o : Option (List Node)) → behind (items ++ item ∷ []) o ≡ behind items (with_node (Some item) o)
behind_more items item None = refl
behind_more items item (Some others) = ap Some (append_assoc items (item ∷ []) others)

pub behind_no : (items : List Node) (o : Option (List Node)) → behind items (with_node None o) ≡ None
behind_no items None = refl
behind_no items (Some others) = refl
