-- What words name, one more at a time.
use Rattle.std.proofs.Common.{◌≡◌, List, [], ◌∷◌, ◌++◌, refl, ap, append_assoc}
use Rattle.std.specs.Prelude.{Option, Some, None}
use Rattle.simplex_transcript.specs.declared.setup.MemberKind.{MemberKind}
use Rattle.simplex_script.specs.Kinds.{with_kind}

-- these before those, if there are some
abbrev pub behind : List MemberKind → Option (List MemberKind) → Option (List MemberKind)
behind items None = None
behind items (Some others) = Some (items ++ others)

pub behind_none : (o : Option (List MemberKind)) → behind [] o ≡ o
behind_none None = refl
behind_none (Some others) = refl

pub behind_more : (items : List MemberKind) (item : MemberKind) (o : Option (List MemberKind)) → behind (items ++ item ∷ []) o ≡ behind items (with_kind (Some item) o)
behind_more items item None = refl
behind_more items item (Some others) = ap Some (append_assoc items (item ∷ []) others)

pub behind_no : (items : List MemberKind) (o : Option (List MemberKind)) → behind items (with_kind None o) ≡ None
behind_no items None = refl
behind_no items (Some others) = refl
