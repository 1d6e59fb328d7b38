use Rattle.std.proofs.Common.{◌++◌, Option, sym, ap, ◌∙◌}
use Rattle.simplex_wire.specs.declared.vote.Notarize.{Notarize}
use Rattle.simplex_wire.specs.declared.vote.Finalize.{Finalize}
use Rattle.simplex_wire.specs.declared.vote.Vote.TheVariants as votes
use Rattle.model_rules.specs.Votes.{notarize_at}
use Rattle.law_member.specs.VoterVotes.{votes_of}
use Rattle.model_audit.specs.Taking.{votes_then}
use Rattle.simplex_due.proofs.Voting.{votes_are}
use Rattle.simplex_due.proofs.due.due_on.Goals as goal

pub returns-in-None : goal.returns-in-None
returns-in-None g c = λ made facts k signs. sym (ap (votes_then made facts) c.in-None.is)

pub returns-in-Some : goal.returns-in-Some
returns-in-Some g c = λ made facts k signs.
    ap (λ (vote : Option Notarize). votes_of votes.Notarize vote ++ votes_of votes.Finalize c.finalize_at.result)
    (c.notarize_at.ensures made facts k signs)
    ∙ ap (λ (vote : Option Finalize). votes_of votes.Notarize (notarize_at made facts c.in-Some.view) ++ votes_of votes.Finalize vote)
    (c.finalize_at.ensures made facts k signs)
    ∙ sym (votes_are made facts c.in-Some.view)
    ∙ sym (ap (votes_then made facts) c.in-Some.is)
