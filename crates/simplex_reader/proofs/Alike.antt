-- Facts that are alike are kept alike.
use Rattle.std.proofs.Common.{◌≡◌, ℕ, false, List, refl, sym, ap, ◌∙◌}
use Rattle.model_rules.specs.Known.{Made, Fact, Added, Judged, Voted}
use Rattle.model_rules.specs.Ancestry.{is_covered}
use Rattle.law_member.specs.Learned.{is_lasting, lasting}
use Rattle.law_member.proofs.Quiet.{Same}
use Rattle.model_audit.specs.Alike.{is_vote, own_votes, verdicts, AreAlike}
use Rattle.law_audit.proofs.Finishing.{within, verdicts_last}
use Rattle.law_audit.proofs.Looking.{same_notarization, same_nullification, same_finalization, same_notarize, same_proposal, same_finalize, same_verdict, same_finalized, same_current, same_nullified, same_covered, same_answered, same_approved}
use Rattle.simplex_known.specs.declared.known.Known.{Known}
use Rattle.simplex_known.specs.Knows.{Knows}
use Rattle.simplex_known.specs.Rounds.{round_of}
use Rattle.simplex_known.proofs.Growing.{covers_same}

module _ (a b : List Fact) (alike : AreAlike a b) where
  same_round : (view : ℕ) → round_of a view ≡ round_of b view
  unfolding round_of
  same_round view =
      rw (same_notarization a b alike view, same_finalization a b alike view, same_nullification a b alike view, same_notarize a b alike view, same_proposal a b alike view, same_finalize a b alike view, same_verdict a b alike view)
      refl

  pub knows_alike : (kept : Known) (made : Made) → Knows kept made a → Knows kept made b
  knows_alike kept made k =
      record {
        rules = k.rules;
        length = k.length;
        final = k.final ∙ same_finalized a b alike;
        current = k.current ∙ same_current a b alike made;
        rounds = λ view. k.rounds view ∙ same_round view;
        given_up = λ view. k.given_up view ∙ same_nullified a b alike view;
        covers = covers_same kept.covers (is_covered made a) (is_covered made b) (same_covered a b alike made) k.covers;
        answered = λ p. k.answered p ∙ same_answered a b alike p;
        approved = λ p. k.approved p ∙ same_approved a b alike p;
      }

-- ---- the same certificates, verdicts, own votes and proposals

vote_lasts : (f : Fact) → is_lasting f ≡ false → is_vote f ≡ false
vote_lasts (Added certificate now) e = refl
vote_lasts (Judged view good now) e = refl
vote_lasts (Voted vote) e = cc
vote_lasts _ e = refl

votes_last : (known : List Fact) → own_votes (lasting known) ≡ own_votes known
votes_last = within is_vote is_lasting vote_lasts

pub alike_same : (a b : List Fact) → Same a b → AreAlike a b
alike_same a b s =
    record {
      certificates = sym s.adds;
      judged = sym (verdicts_last a) ∙ ap verdicts (sym s.lasts) ∙ verdicts_last b;
      voted = sym (votes_last a) ∙ ap own_votes (sym s.lasts) ∙ votes_last b;
      proposals = sym s.learns;
    }
