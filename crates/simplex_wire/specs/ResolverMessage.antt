-- The format of requests and responses, and which have a spelling that is read again.
use Rattle.std.specs.Prelude.{ℕ, zero, suc, ◌<◌, ◌^◌, List, [], ◌∷◌, ◌++◌, length, Result, Ok, Err}
use Rattle.std.specs.Int.{w64, to_be_bytes, from_be_bytes}
use Rattle.simplex_wire.specs.declared.error.DecodeError.{DecodeError}
use Rattle.simplex_wire.specs.declared.error.DecodeCause.TheVariants.{Tag}
use Rattle.simplex_wire.specs.declared.resolver.ResolverMessage.{ResolverMessage}
use Rattle.simplex_wire.specs.declared.resolver.ResolverBody.{ResolverBody}
use Rattle.simplex_wire.specs.declared.resolver.ResolverBody.TheVariants.{Request, Response, Error}
use Rattle.simplex_wire.specs.Format.{◌>>=◌, fault_at, Format, Left, both, seen_as, raw, byte}
use Rattle.simplex_wire.specs.Fits.{IsBytes}
use Rattle.simplex_wire.specs.Number.{varint, number32}

-- eight bytes, the highest first
abbrev pub wide : Format ℕ
wide = seen_as (from_be_bytes w64) (to_be_bytes w64) (raw 8)

-- a length, and so many bytes
abbrev pub counted : Format (List ℕ)
counted = record {
  spelling = λ bytes. varint (length bytes) ++ bytes;
  reading = λ left. number32.reading left >>= λ count. (raw count.0).reading count.1;
}

abbrev pub body_spelling : ResolverBody → List ℕ
body_spelling (Request view) = 0 ∷ wide.spelling view
body_spelling (Response bytes) = 1 ∷ counted.spelling bytes
body_spelling Error = 2 ∷ []

-- the body behind this tag, which stands at `start`
abbrev pub body_behind : Left → ℕ → Left → Result (ResolverBody × Left) DecodeError
body_behind start zero left = wide.reading left >>= λ view. Ok (Request view.0, view.1)
body_behind start (suc zero) left =
    counted.reading left >>= λ bytes. Ok (Response bytes.0, bytes.1)
body_behind start (suc (suc zero)) left = Ok (Error, left)
body_behind start (suc (suc (suc _))) left = Err (fault_at Tag start)

unfoldable pub body : Format ResolverBody
body = record { spelling = body_spelling; reading = λ left. byte.reading left >>= λ tag. body_behind left tag.0 tag.1 }

unfoldable pub resolver_message : Format ResolverMessage
resolver_message = seen_as (λ p. record { id = p.0; body = p.1 }) (λ m. (m.id, m.body)) (both wide body)

-- numbers and bytes keep to their types
abbrev pub FitsNumbers : ResolverBody → Type 0
FitsNumbers (Request view) = view < 2 ^ 64
FitsNumbers (Response bytes) = IsBytes bytes
FitsNumbers Error = Unit {0}

-- how many bytes a response has
abbrev pub body_length : ResolverBody → ℕ
body_length (Request view) = 0
body_length (Response bytes) = length bytes
body_length Error = 0

abbrev pub response_length : ResolverMessage → ℕ
response_length message = body_length message.body

abbrev pub FitsBody : ResolverBody → Type 0
FitsBody body = FitsNumbers body × (body_length body < 2 ^ 32)

abbrev pub FitsResolverMessage : ResolverMessage → Type 0
FitsResolverMessage message = (message.id < 2 ^ 64) × FitsBody message.body
