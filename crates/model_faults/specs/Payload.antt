-- The payloads that members make.
use Rattle.std.specs.Prelude.{ℕ, List, ◌++◌}
use Rattle.std.specs.Int.{w64, to_be_bytes}
use Rattle.sha2.specs.Sha256.{sha256}
use Rattle.simplex_values.specs.declared.round.Round.{Round}
use Rattle.simplex_wire.specs.Message as message

-- the text of a payload: its round, the digest of its parent, and a word, the highest byte first
abbrev pub payload_text : Round → (parent : List ℕ) → (word : ℕ) → List ℕ
payload_text round parent word = message.round.spelling round ++ parent ++ to_be_bytes w64 word

-- the digest of that text, which is what is proposed
abbrev pub payload_digest : Round → (parent : List ℕ) → (word : ℕ) → List ℕ
payload_digest round parent word = sha256 (payload_text round parent word)
