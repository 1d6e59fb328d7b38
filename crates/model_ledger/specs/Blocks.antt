-- Blocks: lists of transfers, as bytes.
use Rattle.std.specs.Prelude.{ℕ, zero, suc, ◌&&◌, Bool, List, [], ◌∷◌, ◌++◌, length, Option, Some, None, Result, Ok, Err, is_ok}
use Rattle.std.specs.List.{flat_map, list_any, find}
use Rattle.std.specs.Str.{bytes_eq}
use Rattle.sha2.specs.Sha256.{sha256}
use Rattle.simplex_wire.specs.declared.error.DecodeError.{DecodeError}
use Rattle.simplex_wire.specs.Format.{◌>>=◌, Format, Left, both, seen_as, whole}
use Rattle.simplex_wire.specs.Number.{varint, number32, number64}
use Rattle.model_ledger.specs.declared.transfer.Transfer.{Transfer}

-- sender, receiver and amount
unfoldable pub transfer : Format Transfer
transfer = seen_as (λ p. record { from = p.0; to = p.1.0; amount = p.1.1 })
    (λ t. (t.from, (t.to, t.amount))) (both number32 (both number32 number64))

-- so many of them
unfoldable pub transfers_from : ℕ → Left → Result (List Transfer × Left) DecodeError
transfers_from zero left = Ok ([], left)
transfers_from (suc n) left = do
  first ← transfer.reading left
  others ← transfers_from n first.1
  Ok (first.0 ∷ others.0, others.1)

-- their count, and then they
unfoldable pub block : Format (List Transfer)
block = record {
  spelling = λ list. varint (length list) ++ flat_map transfer.spelling list;
  reading = λ left. number32.reading left >>= λ count. transfers_from count.0 count.1;
}

abbrev pub decoded : List ℕ → Result (List Transfer) DecodeError
decoded bytes = whole block bytes

-- the block's digest is this one
abbrev pub has_digest : List ℕ → List ℕ → Bool
has_digest digest bytes = bytes_eq (sha256 bytes) digest

-- a block has this digest, and decodes
unfoldable pub is_sound : List (List ℕ) → List ℕ → Bool
is_sound blocks digest = list_any (λ bytes. has_digest digest bytes && is_ok (decoded bytes)) blocks

-- those that were decoded, if any
abbrev pub decoded_or_none : Result (List Transfer) DecodeError → List Transfer
decoded_or_none (Ok transfers) = transfers
decoded_or_none (Err error) = []

abbrev pub transfers_in : Option (List ℕ) → List Transfer
transfers_in None = []
transfers_in (Some bytes) = decoded_or_none (decoded bytes)

-- the transfers of the block with this digest
unfoldable pub transfers_of : List (List ℕ) → List ℕ → List Transfer
transfers_of blocks digest = transfers_in (find (has_digest digest) blocks)
