-- Facts that say nothing but what the record of their view keeps.
use Rattle.std.proofs.Common.{◌≡◌, ℕ, ◌≤◌, Bool, true, false, List, ◌∷◌, Option, refl, sym, ap, ◌∙◌, arith}
use Rattle.std.proofs.lemmas.Grind.{common_steps}
use Rattle.std.specs.BTreeMap.{BTreeMap}
use Rattle.std.specs.List.{list_any}
use Rattle.simplex_values.specs.declared.ask.Kind.{Kind}
use Rattle.simplex_values.specs.declared.timeout.TimeoutReason.{TimeoutReason}
use Rattle.simplex_values.specs.declared.timeout.TimeoutReason.TheVariants.{Inactivity}
use Rattle.simplex_wire.specs.declared.vote.Vote.TheVariants as votes
use Rattle.simplex_wire.specs.declared.certificate.CertificateKind.{CertificateKind}
use Rattle.simplex_wire.specs.declared.certificate.CertificateKind.TheVariants as kinds
use Rattle.model_rules.specs.Lists.{first_of, greatest_of}
use Rattle.model_rules.specs.Known.{Made, Fact, FloorAt, Added, Taken, Answered, Approved, Judged, Voted, Published, Expired, Failed, Broadcast, ProposalAsked, ProposalFreed, VerifyAsked, CertifyAsked, MissingAsked, ParentAsked, Pruned, notarization_of, nullification_of, finalization_of, was_broadcast, verdict_of, has_nullified}
use Rattle.model_rules.specs.Views.{least_active, last_finalized}
use Rattle.model_rules.specs.Ancestry.{is_covered, has_true_verdict, has_false_verdict}
use Rattle.model_rules.specs.Requests.{is_unjudged, is_missing_in}
use Rattle.model_rules.specs.Calls.{unsent_notarization, unsent_nullification, unsent_finalization}
use Rattle.simplex_wire.specs.declared.scheme.Scheme as scheme
use Rattle.simplex_types.specs.declared.elector.Elector as elector
use Rattle.simplex_state.specs.declared.rounds.RoundRecord.{RoundRecord}
use Rattle.simplex_state.specs.declared.progress.Progress.{Progress}
use Rattle.simplex_state.specs.declared.state.State.{State}
use Rattle.simplex_state.specs.Rounds.{round_in, learn_round}
use Rattle.simplex_state.specs.Progress.{progress_of, learn_progress}
use Rattle.simplex_state.specs.Certificates.{held_notarization, held_nullification, held_finalization}
use Rattle.simplex_state.specs.Stands.{Keeps, IsSound, IsTimely}
use Rattle.simplex_state.proofs.Facts.{round_step, progress_step, option_or-none}
use Rattle.simplex_state.proofs.Publishing.{is_published, published_same, unpublished_later}

abbrev pub is_round_fact : Fact → Bool
is_round_fact (Added c now) = false
is_round_fact (Judged v good now) = false
is_round_fact (Voted (votes.Nullify n)) = false
is_round_fact (Published v now) = false
is_round_fact (Broadcast k v) = false
is_round_fact (MissingAsked p v k) = false
is_round_fact (Pruned v) = false
is_round_fact _ = true

-- the fact moves nothing and changes no set
pub record Quiet (made : Made) (f : Fact) (known : List Fact) : Type 0 where
  pub pruned : (progress_of made (f ∷ known)).pruned ≡ (progress_of made known).pruned
  pub current : (progress_of made (f ∷ known)).current ≡ (progress_of made known).current
  pub last : last_finalized (f ∷ known) ≡ last_finalized known
  pub publishes : is_published f ≡ false
  pub nullified : (v : ℕ) → has_nullified (f ∷ known) v ≡ has_nullified known v
  pub verdict : (v : ℕ) → verdict_of (f ∷ known) v ≡ verdict_of known v
  pub covered : (v : ℕ) → is_covered made (f ∷ known) v ≡ is_covered made known v
  pub notarization : (v : ℕ) → notarization_of (f ∷ known) v ≡ notarization_of known v
  pub nullification : (v : ℕ) → nullification_of (f ∷ known) v ≡ nullification_of known v
  pub finalization : (v : ℕ) → finalization_of (f ∷ known) v ≡ finalization_of known v
  pub sent : (k : CertificateKind) (v : ℕ) → was_broadcast (f ∷ known) k v ≡ was_broadcast known k v
  pub asked : (p v : ℕ) (k : Kind) → list_any (is_missing_in p v k) (f ∷ known) ≡ list_any (is_missing_in p v k) known
  pub unjudged : (v : ℕ) → is_unjudged (f ∷ known) v ≡ true → is_unjudged known v ≡ true

false_true : false ≡ true → ⊥
false_true e = cc

none_true : {A : Type 0} → false ≡ true → A
none_true e = absurd (false_true e)

-- an expiry leaves views as they are
expired_pruned : (made : Made) (v : ℕ) (reason : TimeoutReason) (now : ℕ) (p : Progress) → (learn_progress made (Expired v reason now) p).pruned ≡ p.pruned
unfolding learn_progress
expired_pruned made v Inactivity now p = refl
expired_pruned made v _ now p = refl

expired_current : (made : Made) (v : ℕ) (reason : TimeoutReason) (now : ℕ) (p : Progress) → (learn_progress made (Expired v reason now) p).current ≡ p.current
unfolding learn_progress
expired_current made v Inactivity now p = refl
expired_current made v _ now p = refl

pub quiet : (made : Made) (f : Fact) (known : List Fact) → is_round_fact f ≡ true → Quiet made f known
unfolding last_finalized has_nullified is_covered is_unjudged verdict_of notarization_of nullification_of finalization_of was_broadcast first_of greatest_of learn_progress
quiet made (Added c now) known e = none_true e
quiet made (Judged v good now) known e = none_true e
quiet made (Voted (votes.Nullify n)) known e = none_true e
quiet made (Published v now) known e = none_true e
quiet made (Broadcast k v) known e = none_true e
quiet made (MissingAsked p v k) known e = none_true e
quiet made (Pruned v) known e = none_true e
quiet made (Voted (votes.Notarize n)) known e = let p = progress_step made (Voted (votes.Notarize n)) known in record {
  pruned = grind (arith, p);
  current = grind (arith, p);
  last = grind arith;
  publishes = refl;
  nullified = λ v. refl;
  verdict = λ v. option_or-none _;
  covered = λ v. refl;
  notarization = λ v. option_or-none _;
  nullification = λ v. option_or-none _;
  finalization = λ v. option_or-none _;
  sent = λ k v. refl;
  asked = λ p v k. refl;
  unjudged = λ v. grind (arith, common_steps, option_or-none);
}
quiet made (Voted (votes.Finalize n)) known e = let p = progress_step made (Voted (votes.Finalize n)) known in record {
  pruned = grind (arith, p);
  current = grind (arith, p);
  last = grind arith;
  publishes = refl;
  nullified = λ v. refl;
  verdict = λ v. option_or-none _;
  covered = λ v. refl;
  notarization = λ v. option_or-none _;
  nullification = λ v. option_or-none _;
  finalization = λ v. option_or-none _;
  sent = λ k v. refl;
  asked = λ p v k. refl;
  unjudged = λ v. grind (arith, common_steps, option_or-none);
}
quiet made (FloorAt a b) known e = let p = progress_step made (FloorAt a b) known in record {
  pruned = grind (arith, p);
  current = grind (arith, p);
  last = grind arith;
  publishes = refl;
  nullified = λ v. refl;
  verdict = λ v. option_or-none _;
  covered = λ v. refl;
  notarization = λ v. option_or-none _;
  nullification = λ v. option_or-none _;
  finalization = λ v. option_or-none _;
  sent = λ k v. refl;
  asked = λ p v k. refl;
  unjudged = λ v. grind (arith, common_steps, option_or-none);
}
quiet made (Taken a) known e = let p = progress_step made (Taken a) known in record {
  pruned = grind (arith, p);
  current = grind (arith, p);
  last = grind arith;
  publishes = refl;
  nullified = λ v. refl;
  verdict = λ v. option_or-none _;
  covered = λ v. refl;
  notarization = λ v. option_or-none _;
  nullification = λ v. option_or-none _;
  finalization = λ v. option_or-none _;
  sent = λ k v. refl;
  asked = λ p v k. refl;
  unjudged = λ v. grind (arith, common_steps, option_or-none);
}
quiet made (Answered a) known e = let p = progress_step made (Answered a) known in record {
  pruned = grind (arith, p);
  current = grind (arith, p);
  last = grind arith;
  publishes = refl;
  nullified = λ v. refl;
  verdict = λ v. option_or-none _;
  covered = λ v. refl;
  notarization = λ v. option_or-none _;
  nullification = λ v. option_or-none _;
  finalization = λ v. option_or-none _;
  sent = λ k v. refl;
  asked = λ p v k. refl;
  unjudged = λ v. grind (arith, common_steps, option_or-none);
}
quiet made (Approved a) known e = let p = progress_step made (Approved a) known in record {
  pruned = grind (arith, p);
  current = grind (arith, p);
  last = grind arith;
  publishes = refl;
  nullified = λ v. refl;
  verdict = λ v. option_or-none _;
  covered = λ v. refl;
  notarization = λ v. option_or-none _;
  nullification = λ v. option_or-none _;
  finalization = λ v. option_or-none _;
  sent = λ k v. refl;
  asked = λ p v k. refl;
  unjudged = λ v. grind (arith, common_steps, option_or-none);
}
quiet made (Expired a b c) known e = let p = progress_step made (Expired a b c) known in record {
  pruned = grind (arith, common_steps, p, expired_pruned made a b c (progress_of made known));
  current = grind (arith, common_steps, p, expired_current made a b c (progress_of made known));
  last = grind arith;
  publishes = refl;
  nullified = λ v. refl;
  verdict = λ v. option_or-none _;
  covered = λ v. refl;
  notarization = λ v. option_or-none _;
  nullification = λ v. option_or-none _;
  finalization = λ v. option_or-none _;
  sent = λ k v. refl;
  asked = λ p v k. refl;
  unjudged = λ v. grind (arith, common_steps, option_or-none);
}
quiet made (Failed a b) known e = let p = progress_step made (Failed a b) known in record {
  pruned = grind (arith, p);
  current = grind (arith, p);
  last = grind arith;
  publishes = refl;
  nullified = λ v. refl;
  verdict = λ v. option_or-none _;
  covered = λ v. refl;
  notarization = λ v. option_or-none _;
  nullification = λ v. option_or-none _;
  finalization = λ v. option_or-none _;
  sent = λ k v. refl;
  asked = λ p v k. refl;
  unjudged = λ v. grind (arith, common_steps, option_or-none);
}
quiet made (ProposalAsked a) known e = let p = progress_step made (ProposalAsked a) known in record {
  pruned = grind (arith, p);
  current = grind (arith, p);
  last = grind arith;
  publishes = refl;
  nullified = λ v. refl;
  verdict = λ v. option_or-none _;
  covered = λ v. refl;
  notarization = λ v. option_or-none _;
  nullification = λ v. option_or-none _;
  finalization = λ v. option_or-none _;
  sent = λ k v. refl;
  asked = λ p v k. refl;
  unjudged = λ v. grind (arith, common_steps, option_or-none);
}
quiet made (ProposalFreed a) known e = let p = progress_step made (ProposalFreed a) known in record {
  pruned = grind (arith, p);
  current = grind (arith, p);
  last = grind arith;
  publishes = refl;
  nullified = λ v. refl;
  verdict = λ v. option_or-none _;
  covered = λ v. refl;
  notarization = λ v. option_or-none _;
  nullification = λ v. option_or-none _;
  finalization = λ v. option_or-none _;
  sent = λ k v. refl;
  asked = λ p v k. refl;
  unjudged = λ v. grind (arith, common_steps, option_or-none);
}
quiet made (VerifyAsked a) known e = let p = progress_step made (VerifyAsked a) known in record {
  pruned = grind (arith, p);
  current = grind (arith, p);
  last = grind arith;
  publishes = refl;
  nullified = λ v. refl;
  verdict = λ v. option_or-none _;
  covered = λ v. refl;
  notarization = λ v. option_or-none _;
  nullification = λ v. option_or-none _;
  finalization = λ v. option_or-none _;
  sent = λ k v. refl;
  asked = λ p v k. refl;
  unjudged = λ v. grind (arith, common_steps, option_or-none);
}
quiet made (CertifyAsked a) known e = let p = progress_step made (CertifyAsked a) known in record {
  pruned = grind (arith, p);
  current = grind (arith, p);
  last = grind arith;
  publishes = refl;
  nullified = λ v. refl;
  verdict = λ v. option_or-none _;
  covered = λ v. refl;
  notarization = λ v. option_or-none _;
  nullification = λ v. option_or-none _;
  finalization = λ v. option_or-none _;
  sent = λ k v. refl;
  asked = λ p v k. refl;
  unjudged = λ v. grind (arith, common_steps, option_or-none);
}
quiet made (ParentAsked a) known e = let p = progress_step made (ParentAsked a) known in record {
  pruned = grind (arith, p);
  current = grind (arith, p);
  last = grind arith;
  publishes = refl;
  nullified = λ v. refl;
  verdict = λ v. option_or-none _;
  covered = λ v. refl;
  notarization = λ v. option_or-none _;
  nullification = λ v. option_or-none _;
  finalization = λ v. option_or-none _;
  sent = λ k v. refl;
  asked = λ p v k. refl;
  unjudged = λ v. grind (arith, common_steps, option_or-none);
}

-- the state behind a quiet fact. The records below the last pruned view may be anything
module _ {S L : Type 0} {g : scheme.Ghosts S} {h : elector.Ghosts L} where
  pub keeps_quiet_above : (state : State S L g h) (made : Made) (f : Fact) (known : List Fact) (rounds : BTreeMap ℕ RoundRecord) (progress : Progress)
      → Keeps state made known
      → is_round_fact f ≡ true
      → IsSound (f ∷ known)
      → IsTimely made (f ∷ known)
      → progress ≡ learn_progress made f state.progress
      → ((q : ℕ) → (progress_of made known).pruned ≤ q → round_in rounds q ≡ learn_round f q (round_in state.rounds q))
      → Keeps (record state { rounds = rounds; progress = progress }) made (f ∷ known)
  unfolding least_active has_false_verdict has_true_verdict held_notarization held_nullification held_finalization unsent_notarization unsent_nullification unsent_finalization
  keeps_quiet_above state made f known rounds progress k is_round sound timely progress_is rounds_are =
      let w = quiet made f known is_round in
      record {
        attest = k.attest;
        leads = k.leads;
        settings = k.settings;
        progress = progress_is ∙ ap (learn_progress made f) k.progress ∙ sym (progress_step made f known);
        active = grind (arith, k.active, w.pruned, w.last);
        ahead = grind (arith, k.ahead, w.pruned, w.current);
        sound = sound;
        held = record {
          notarizations = λ v. grind (arith, k.held.notarizations v, w.sent kinds.Notarization v, w.notarization v);
          nullifications = λ v. grind (arith, k.held.nullifications v, w.sent kinds.Nullification v, w.nullification v);
          finalizations = λ v. grind (arith, k.held.finalizations v, w.sent kinds.Finalization v, w.finalization v);
        };
        timely = timely;
        rounds = λ view. grind (arith, k.rounds view, rounds_are view, w.pruned, round_step f known view);
        published = published_same made f known _ w.publishes w.current k.published;
        unpublished = unpublished_later made f known w.publishes (grind (arith, w.current)) k.unpublished;
        nullified = λ view. grind (arith, k.nullified view, w.nullified view, w.current);
        failed = λ view. grind (arith, k.failed view, w.verdict view);
        certified = λ view. grind (arith, k.certified view, w.verdict view, w.pruned);
        covered = λ view. grind (arith, k.covered view, w.covered view, w.pruned);
        whole = λ view lies. grind (arith, k.whole view lies, w.covered view);
        waiting = λ view. grind (arith, k.waiting view, w.unjudged view, w.notarization view);
        missing = λ p v kind. grind (arith, k.missing p v kind, w.asked p v kind, w.pruned);
        notarizations = λ view. grind (arith, k.notarizations view, w.notarization view, w.sent kinds.Notarization view, w.pruned);
        finalizations = λ view. grind (arith, k.finalizations view, w.finalization view, w.sent kinds.Finalization view, w.pruned);
        nullifications = λ view. grind (arith, k.nullifications view, w.nullification view, w.sent kinds.Nullification view, w.pruned, w.current);
        unsent_notarizations = λ view. grind (arith, k.unsent_notarizations view, w.notarization view, w.sent kinds.Notarization view);
        unsent_nullifications = λ view. grind (arith, k.unsent_nullifications view, w.nullification view, w.sent kinds.Nullification view);
        unsent_finalizations = λ view. grind (arith, k.unsent_finalizations view, w.finalization view, w.sent kinds.Finalization view);
      }

  pub keeps_quiet : (state : State S L g h) (made : Made) (f : Fact) (known : List Fact) (rounds : BTreeMap ℕ RoundRecord) (progress : Progress)
      → Keeps state made known
      → is_round_fact f ≡ true
      → IsSound (f ∷ known)
      → IsTimely made (f ∷ known)
      → progress ≡ learn_progress made f state.progress
      → ((q : ℕ) → round_in rounds q ≡ learn_round f q (round_in state.rounds q))
      → Keeps (record state { rounds = rounds; progress = progress }) made (f ∷ known)
  keeps_quiet state made f known rounds progress k is_round sound timely progress_is rounds_are =
      keeps_quiet_above state made f known rounds progress k is_round sound timely progress_is (λ q low. rounds_are q)
