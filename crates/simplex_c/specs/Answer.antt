-- That an answer tells what is to be told.
use Rattle.std.specs.Prelude.{◌≡◌, string_bytes}
use Rattle.simplex_c.specs.Told.{Told}
use Rattle.simplex_c.specs.declared.answer.Answer.{Answer}

pub record Tells (answer : Answer) (told : Told) : Type 0 where
  pub status : answer.status ≡ told.status
  pub text : string_bytes answer.text ≡ told.text
