-- How faults of bytes are printed.
use Rattle.std.specs.Prelude.{ℕ, List, codes}
use Rattle.simplex_wire.specs.declared.error.DecodeCause.{DecodeCause}
use Rattle.simplex_wire.specs.declared.error.DecodeCause.TheVariants.{Short, Tag, LongNumber, Order, Rest}

abbrev pub cause_text : DecodeCause → List ℕ
cause_text Short = codes "the bytes end too soon"
cause_text Tag = codes "unknown tag"
cause_text LongNumber = codes "number too long or too large"
cause_text Order = codes "signers out of order"
cause_text Rest = codes "bytes are left"
