-- A view that is worked hands on the certificate of its quorum.
use Rattle.std.proofs.Common.{◌≡◌, ℕ, zero, suc, ◌⊎◌, inl, inr, Bool, true, false, if◌then◌else◌, List, [], ◌∷◌, ◌++◌, map, nat_le, refl, sym, subst, arith}
use Rattle.std.specs.Prelude.{◌==◌, Option, Some, None, Contains}
use Rattle.std.specs.Option.{option_map, option_map_or, option_to_list}
use Rattle.std.proofs.lemmas.Bool.{lt-leb}
use Rattle.std.proofs.lemmas.Bool.Decides.{Decides-eqb}
use Rattle.std.proofs.lemmas.List.Elements.{Contains-push}
use Rattle.std.proofs.lemmas.Map.Made.{Contains-tail}
use Rattle.simplex_values.specs.declared.proposal.Proposal.{Proposal}
use Rattle.simplex_values.specs.declared.proposal.Subject.{Subject}
use Rattle.simplex_wire.specs.declared.certificate.Certificate.{Certificate}
use Rattle.simplex_wire.specs.declared.certificate.CertificateKind.{CertificateKind}
use Rattle.simplex_wire.specs.declared.certificate.CertificateKind.TheVariants as kinds
use Rattle.simplex_wire.specs.declared.vote.Vote.{Vote}
use Rattle.simplex_wire.specs.Fields.{certificate_subject}
use Rattle.simplex_round.specs.declared.batch.Batch.{Batch}
use Rattle.simplex_round.specs.Known as rules
use Rattle.simplex_round.specs.Forwarding.{proposal_of, leader_proposal, forwarded_to_voter}
use Rattle.simplex_round.specs.Assembly.{Work, subject_of, first_work, batch_of, constructed}
use Rattle.simplex_round.specs.Calls as rounds
use Rattle.simplex_messages.specs.declared.voter.Message.TheVariants as voter
use Rattle.simplex_messages.specs.declared.handed.Handed.TheVariants as handed
use Rattle.model_steps.specs.Batcher.{Made, Timed, RoundHistory, Doing, known_in, called, with_round, with_batch, number_of, forwarded, constructing, constructing_times, worked, worked_all, dropped, finished, admits_view, step, step_out}
use Rattle.law_member.specs.BatcherVotes.{Accepted, IsOf}
use Rattle.law_member.specs.Certificates.{IsSchemeOfMembers}
use Rattle.law_member.specs.Quorums.{taken, IsWorked, HasQuorum, HandsOnOne}
use Rattle.law_member.proofs.Choices.{if_case, map_or_any, some_at}
use Rattle.law_member.proofs.Rounds.{GoodRound}
use Rattle.law_member.proofs.Steps.{taken_sound, rounds_good}
use Rattle.law_member.proofs.Handing.{times_keeps, worked_all_keeps}
use Rattle.law_member.proofs.Assembling.{Makes, Waits, Reaches, reaches}

either : (b : Bool) → (b ≡ true) ⊎ (b ≡ false)
either true = inl refl
either false = inr refl

-- handing on a proposal leaves the round as it waits
forward_waits : (made : Made) (accepted : Vote → Type 0) (round : rules.Made) (known : rules.Known) (b : Bool) (kind : CertificateKind) (subject : Subject)
    → Waits made accepted round known kind subject → Waits made accepted round (record known { forwarded = b }) kind subject
unfolding subject_of proposal_of leader_proposal
forward_waits made accepted round known b kinds.Notarization subject w =
    record { about = w.about; none_held = w.none_held; quorum = w.quorum; good = record { notarizes = w.good.notarizes; others = w.good.others } }
forward_waits made accepted round known b kinds.Nullification subject w =
    record { about = w.about; none_held = w.none_held; quorum = w.quorum; good = record { notarizes = w.good.notarizes; others = w.good.others } }
forward_waits made accepted round known b kinds.Finalization subject w =
    record { about = w.about; none_held = w.none_held; quorum = w.quorum; good = record { notarizes = w.good.notarizes; others = w.good.others } }

module _ (made : Made) (view : ℕ) (subject : Subject) where
  -- a certificate on the subject is handed on
  pub record Such (doing : Doing) : Type 0 where
    pub certificate : Certificate
    pub about : certificate_subject certificate ≡ subject
    pub is_handed : Contains doing.handed (handed.Voter (voter.Verified certificate))

  batch_hands : (o : Option Work) (doing : Doing) → Makes subject o → Such (with_batch (option_map batch_of o) doing)
  batch_hands o doing m =
      let message = handed.Voter (voter.Verified m.certificate) in
      record {
        certificate = m.certificate;
        about = m.about;
        is_handed = subst (λ (p : Option Work). Contains (with_batch (option_map batch_of p) doing).handed message) (sym m.is)
            (subst (λ (c : Option Certificate). Contains (doing.handed ++ map (λ (x : Certificate). handed.Voter (voter.Verified x)) (option_to_list c)) message) (sym m.gives)
            (Contains-push doing.handed message));
      }

  constructing_hands : (round : RoundHistory) (doing : Doing) → Makes subject (first_work round.made made.scheme (known_in round)) → Such (constructing made view round doing)
  unfolding constructing constructed
  constructing_hands round doing m =
      let it = batch_hands (first_work round.made made.scheme (known_in round)) doing m in
      record { certificate = it.certificate; about = it.about; is_handed = it.is_handed }

  put_at : (round : RoundHistory) (doing : Doing) → (with_round view round doing).standing.rounds view ≡ Some round
  put_at round doing =
      if_case (λ (o : Option RoundHistory). o ≡ Some round) (view == view) (Some round) (doing.standing.rounds view)
      (λ h. refl) (λ h. absurd (cc (h, (Decides-eqb view view).1 refl)))

  constructing_at : (round : RoundHistory) (doing : Doing) → (constructing made view round doing).standing.rounds view ≡ Some (called (rounds.TryConstruct made.scheme) round)
  unfolding constructing
  constructing_at round doing = put_at (called (rounds.TryConstruct made.scheme) round) (with_batch (constructed round.made made.scheme (known_in round)) doing)

  times_hand : (n : ℕ) (round : RoundHistory) (doing : Doing) → doing.standing.rounds view ≡ Some round → Reaches made round.made subject n (known_in round)
      → Such (constructing_times n made view doing)
  unfolding constructing_times rounds.known_after rounds.after_call
  times_hand zero round doing at r = absurd r
  times_hand (suc n) round doing at r =
      let turn : RoundHistory → Doing = λ x. constructing made view x doing in
      let once = constructing made view round doing in
      subst (λ (o : Option RoundHistory). Such (constructing_times n made view (option_map_or turn o doing))) (sym at)
      (elim r [
        | inl m ↦
            let it = constructing_hands round doing m in
            record { certificate = it.certificate; about = it.about; is_handed = times_keeps made (handed.Voter (voter.Verified it.certificate)) n view once it.is_handed }
        | inr rest ↦ times_hand n (called (rounds.TryConstruct made.scheme) round) once (constructing_at round doing) rest
      ])

  -- the view is still to be worked, and its round is this one
  pub record At (round : RoundHistory) (doing : Doing) : Type 0 where
    pub is : doing.standing.rounds view ≡ Some round
    pub above : nat_le view doing.standing.finalized ≡ false
    pub admitted : admits_view made doing.standing view ≡ true

  module _ (round : RoundHistory) (v : ℕ) (other : (view == v) ≡ false) where
    round_at : (turned : RoundHistory) (doing : Doing) → At round doing → At round (with_round v turned doing)
    unfolding admits_view
    round_at turned doing at = record {
      is = if_case (λ (o : Option RoundHistory). o ≡ Some round) (view == v) (Some turned) (doing.standing.rounds view) (λ h. absurd (cc (h, other))) (λ h. at.is);
      above = at.above;
      admitted = at.admitted;
    }

    batch_at : (o : Option Batch) (doing : Doing) → At round doing → At round (with_batch o doing)
    batch_at None doing at = at
    batch_at (Some batch) doing at = record { is = at.is; above = at.above; admitted = at.admitted }

    constructing_other : (x : RoundHistory) (doing : Doing) → At round doing → At round (constructing made v x doing)
    unfolding constructing
    constructing_other x doing at =
        round_at (called (rounds.TryConstruct made.scheme) x) (with_batch (constructed x.made made.scheme (known_in x)) doing)
        (batch_at (constructed x.made made.scheme (known_in x)) doing at)

    forwarded_other : (x : RoundHistory) (doing : Doing) → At round doing → At round (forwarded made v x doing)
    unfolding forwarded
    forwarded_other x doing at =
        let given = option_to_list (forwarded_to_voter (known_in x) (number_of made)) in
        round_at (called (rounds.TryForward (number_of made)) x)
        (record doing { handed = doing.handed ++ map (λ (proposal : Proposal). handed.Voter (voter.Proposal proposal)) given })
        (record { is = at.is; above = at.above; admitted = at.admitted })

    times_other : (n : ℕ) (doing : Doing) → At round doing → At round (constructing_times n made v doing)
    unfolding constructing_times
    times_other zero doing at = at
    times_other (suc n) doing at =
        let turn : RoundHistory → Doing = λ x. constructing made v x doing in
        times_other n (option_map_or turn (doing.standing.rounds v) doing)
        (map_or_any (At round) turn (doing.standing.rounds v) doing (λ x. constructing_other x doing at) at)

    worked_other : (doing : Doing) → At round doing → At round (worked made v doing)
    unfolding worked
    worked_other doing at =
        let turn : RoundHistory → Doing = λ x. forwarded made v x doing in
        let handing = option_map_or turn (doing.standing.rounds v) doing in
        let keeps : At round handing = map_or_any (At round) turn (doing.standing.rounds v) doing (λ x. forwarded_other x doing at) at in
        if_case (At round) (nat_le v doing.standing.finalized) doing (if admits_view made doing.standing v then constructing_times 3 made v handing else handing)
        (λ e. at)
        (λ e. if_case (At round) (admits_view made doing.standing v) (constructing_times 3 made v handing) handing (λ k. times_other 3 handing keeps) (λ k. keeps))

  module _ (round : RoundHistory) (makes : Reaches made round.made subject 3 (known_in (called (rounds.TryForward (number_of made)) round))) where
    worked_hands : (doing : Doing) → At round doing → Such (worked made view doing)
    unfolding worked forwarded
    worked_hands doing at =
        let turn : RoundHistory → Doing = λ x. forwarded made view x doing in
        let handing = option_map_or turn (doing.standing.rounds view) doing in
        let next = called (rounds.TryForward (number_of made)) round in
        let given = option_to_list (forwarded_to_voter (known_in round) (number_of made)) in
        let after : handing.standing.rounds view ≡ Some next =
        subst (λ (o : Option RoundHistory). (option_map_or turn o doing).standing.rounds view ≡ Some next) (sym at.is)
        (put_at next (record doing { handed = doing.handed ++ map (λ (proposal : Proposal). handed.Voter (voter.Proposal proposal)) given })) in
        if_case Such (nat_le view doing.standing.finalized) doing (if admits_view made doing.standing view then constructing_times 3 made view handing else handing)
        (λ e. absurd (cc (e, at.above)))
        (λ e. if_case Such (admits_view made doing.standing view) (constructing_times 3 made view handing) handing (λ k. times_hand 3 next handing after makes) (λ k. absurd (cc (k, at.admitted))))

    all_hand : (views : List ℕ) (doing : Doing) → At round doing → Contains views view → Such (worked_all made views doing)
    unfolding worked_all
    all_hand [] doing at marked = absurd (omega (arith, marked.1))
    all_hand (v ∷ views) doing at marked =
        elim (either (view == v)) [
          | inl e ↦
              subst (λ (n : ℕ). Such (worked_all made views (worked made n doing))) ((Decides-eqb view v).0 e)
              (let it = worked_hands doing at in
              record { certificate = it.certificate; about = it.about; is_handed = worked_all_keeps made (handed.Voter (voter.Verified it.certificate)) views (worked made view doing) it.is_handed })
          | inr e ↦
              all_hand views (worked made v doing) (worked_other round v e doing at)
              (Contains-tail v views view (λ same. cc (e, (Decides-eqb view v).1 (sym same))) marked)
        ]

pub quorum_handed : (made : Made) (past : List Timed) (given : Timed) (view : ℕ) (round : RoundHistory) (kind : CertificateKind) (subject : Subject)
    → IsSchemeOfMembers made → made.scheme.recovers ≡ true → IsWorked made (taken made past given) view
    → (taken made past given).standing.rounds view ≡ Some round → HasQuorum made round kind subject → HandsOnOne (step_out made past given) subject
unfolding step_out step finished dropped rounds.known_after rounds.after_call
quorum_handed made past given view round kind subject fits recovers worked is has =
    let accepted : Vote → Type 0 = IsOf view (Accepted made (given ∷ past)) in
    let doing = taken made past given in
    let good : GoodRound made accepted round =
    some_at (GoodRound made accepted) (doing.standing.rounds view) round is ((taken_sound made past given (rounds_good made past)).rounds view) in
    let waits : Waits made accepted round.made (known_in round) kind subject =
    record { about = has.about; none_held = has.none_held; quorum = has.quorum; good = good.known } in
    let forwards = known_in (called (rounds.TryForward (number_of made)) round) in
    let makes : Reaches made round.made subject 3 forwards =
    reaches made accepted round.made fits recovers has.assembles (good.quorum has.assembles) forwards kind subject
    (forward_waits made accepted round.made (known_in round) forwards.forwarded kind subject waits) in
    let it = all_hand made view subject round makes doing.dirty doing
    (record { is = is; above = lt-leb view doing.standing.finalized worked.above; admitted = worked.admitted }) worked.marked in
    record { certificate = it.certificate; about = it.about; is_handed = it.is_handed }
