use Rattle.std.proofs.Common.{sym, subst}
use Rattle.std.proofs.lemmas.Result.{on_ok_weaker}
use Rattle.simplex_wire.specs.declared.artifact.Artifact.{Artifact}
use Rattle.simplex_known.specs.Knows.{Relearns}
use Rattle.simplex_known.proofs.Apart.{sent_kept}
use Rattle.simplex_known.proofs.known.Known.replay.Goals as goal

pub returns-in-Notarize : goal.returns-in-Notarize
returns-in-Notarize c =
    on_ok_weaker c.vote_notarize.result
    (λ did. subst (λ (artifact : Artifact). Relearns c.args.self.now c.vote_notarize.new.self artifact) (sym c.in-Notarize.is) (λ made known now k. did made known k))
    c.vote_notarize.ensures

pub returns-in-Nullify : goal.returns-in-Nullify
returns-in-Nullify c =
    on_ok_weaker c.vote_nullify.result
    (λ did. subst (λ (artifact : Artifact). Relearns c.args.self.now c.vote_nullify.new.self artifact) (sym c.in-Nullify.is) (λ made known now k. did made known k))
    c.vote_nullify.ensures

pub returns-in-Finalize : goal.returns-in-Finalize
returns-in-Finalize c =
    on_ok_weaker c.vote_final.result
    (λ did. subst (λ (artifact : Artifact). Relearns c.args.self.now c.vote_final.new.self artifact) (sym c.in-Finalize.is) (λ made known now k. did made known k))
    c.vote_final.ensures

pub returns-in-Notarization : goal.returns-in-Notarization
returns-in-Notarization c =
    on_ok_weaker c.add_notarization.result
    (λ did. subst (λ (artifact : Artifact). Relearns c.args.self.now c.add_notarization.new.self artifact) (sym c.in-Notarization.is) (λ made known now k. sent_kept _ made _ _ _ (did now made known k)))
    c.add_notarization.ensures

pub returns-in-Nullification : goal.returns-in-Nullification
returns-in-Nullification c =
    on_ok_weaker c.add_nullification.result
    (λ did. subst (λ (artifact : Artifact). Relearns c.args.self.now c.add_nullification.new.self artifact) (sym c.in-Nullification.is) (λ made known now k. sent_kept _ made _ _ _ (did now made known k)))
    c.add_nullification.ensures

pub returns-in-Finalization : goal.returns-in-Finalization
returns-in-Finalization c =
    on_ok_weaker c.add_finalization.result
    (λ did. subst (λ (artifact : Artifact). Relearns c.args.self.now c.add_finalization.new.self artifact) (sym c.in-Finalization.is) (λ made known now k. sent_kept _ made _ _ _ (did now made known k)))
    c.add_finalization.ensures

pub returns-in-Certification : goal.returns-in-Certification
returns-in-Certification c =
    on_ok_weaker c.judge_again.result
    (λ did. subst (λ (artifact : Artifact). Relearns c.args.self.now c.judge_again.new.self artifact) (sym c.in-Certification.is) (λ made known now k. did made known now k))
    c.judge_again.ensures
