use Rattle.std.proofs.Common.{string_bytes, decimal}
use Rattle.simplex_program.proofs.Commands.{unparsed, unprinted, other_text}
use Rattle.simplex_program.proofs.command.number_in.Goals as goal

pub returns-in_default-clause-none : goal.returns-in_default-clause-none
returns-in_default-clause-none c = unparsed (string_bytes c.args.word.now) _ _ (rw c.as_str.ensures.value at c.parse.ensures.value.0) c.in_default.is

pub returns-clause-none : goal.returns-clause-none
returns-clause-none c =
    unprinted (string_bytes c.args.word.now) _ c.in-Ok.number (rw c.as_str.ensures.value at c.parse.ensures.value.0) c.in-Ok.is
    (other_text (decimal c.in-Ok.number) (string_bytes c.args.word.now) c.eq.result
    (rw (c.as_str-2.ensures.value, c.in_ok-printed.ensures.ok, c.as_str-3.ensures.value) at c.eq.ensures) c.if-eq.false)
