use Rattle.std.proofs.Common.{◌++◌, sym, subst}
use Rattle.std.proofs.lemmas.Result.{on_ok_weaker}
use Rattle.simplex_wire.specs.declared.artifact.Artifact.{Artifact}
use Rattle.simplex_known.specs.Knows.{Knows}
use Rattle.simplex_reader.specs.Votes.{vote_facts}
use Rattle.simplex_reader.proofs.votes.take_record.Goals as goal

pub returns-in-Notarize : goal.returns-in-Notarize
returns-in-Notarize c =
    on_ok_weaker c.vote.result
    (λ did made facts k. subst (λ (artifact : Artifact). Knows c.vote.new.self made (vote_facts artifact ++ facts)) (sym c.in-Notarize.is) (did made facts k))
    c.vote.ensures

pub returns-in-Nullify : goal.returns-in-Nullify
returns-in-Nullify c =
    on_ok_weaker c.vote-in-Nullify.result
    (λ did made facts k. subst (λ (artifact : Artifact). Knows c.vote-in-Nullify.new.self made (vote_facts artifact ++ facts)) (sym c.in-Nullify.is) (did made facts k))
    c.vote-in-Nullify.ensures

pub returns-in-Finalize : goal.returns-in-Finalize
returns-in-Finalize c =
    on_ok_weaker c.vote-in-Finalize.result
    (λ did made facts k. subst (λ (artifact : Artifact). Knows c.vote-in-Finalize.new.self made (vote_facts artifact ++ facts)) (sym c.in-Finalize.is) (did made facts k))
    c.vote-in-Finalize.ensures
