use Rattle.std.proofs.Common.{ap, sym, length, Option}
use Rattle.simplex_wire.specs.declared.vote.Nullify.{Nullify}
use Rattle.simplex_wire.specs.declared.vote.Vote.TheVariants as votes
use Rattle.law_member.specs.VoterVotes.{votes_of}
use Rattle.simplex_reader.proofs.Counted.{repeats_none, repeats_some}
use Rattle.simplex_reader.proofs.pruning.repeats.Goals as goal

pub returns-then-not-has_nullified : goal.returns-then-not-has_nullified
returns-then-not-has_nullified g c = λ made facts k signs.
    repeats_none made facts _ _ (c.current-view.ensures made facts k) (c.has_nullified.ensures made facts k) c.if-not-has_nullified.true

pub returns-in-None : goal.returns-in-None
returns-in-None g c = λ made facts k signs.
    repeats_some made facts _ _ _ 0 (c.current-view.ensures made facts k) (c.has_nullified.ensures made facts k) c.if-not-has_nullified.false
    (c.nullify_at.ensures made facts k signs) (ap (λ (o : Option Nullify). length (votes_of votes.Nullify o)) (sym c.in-None.is))

pub returns-in-Some : goal.returns-in-Some
returns-in-Some g c = λ made facts k signs.
    repeats_some made facts _ _ _ 1 (c.current-view.ensures made facts k) (c.has_nullified.ensures made facts k) c.if-not-has_nullified.false
    (c.nullify_at.ensures made facts k signs) (ap (λ (o : Option Nullify). length (votes_of votes.Nullify o)) (sym c.in-Some.is))
