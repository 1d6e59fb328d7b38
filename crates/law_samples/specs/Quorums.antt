-- A batcher of the first of four members, whose members' signatures are easy to read, and what it is given.
use Rattle.std.specs.Prelude.{ℕ, nat_lt, true, List, [], ◌∷◌, map, replicate, Some, None, unwrap_or}
use Rattle.simplex_values.specs.declared.policy.ForwardPolicy.TheVariants as forward
use Rattle.simplex_values.specs.declared.policy.SkipPolicy.TheVariants as skip
use Rattle.simplex_wire.specs.declared.attestation.Attestation.{Attestation}
use Rattle.simplex_wire.specs.declared.vote.Vote.TheVariants as votes
use Rattle.simplex_wire.specs.declared.certificate.Certificate.{Certificate}
use Rattle.simplex_wire.specs.declared.certificate.Certificate.TheVariants as certificates
use Rattle.simplex_wire.specs.Message as format
use Rattle.simplex_round.specs.Assembly.{as_scheme}
use Rattle.simplex_messages.specs.declared.batcher.BatcherInput.TheVariants as input
use Rattle.simplex_messages.specs.declared.batcher.Message.TheVariants as mail
use Rattle.model_steps.specs.Batcher.{Made, Timed, Standing, RoundHistory, new_round}
use Rattle.law_agreement.specs.WorldExamples.{first}
use Rattle.law_member.specs.Quorums.{taken}

-- each signature of a member verifies
abbrev pub batcher : Made
batcher = record {
  scheme = as_scheme (λ subject (a : Attestation). nat_lt a.signer 4) true 4;
  me = Some 0;
  members = 4;
  epoch = 0;
  floor = 0;
  retention = 10;
  lookahead = record { length = 2; views = 0 };
  track = true;
  skip = skip.Disabled;
  forward = forward.Disabled;
}

abbrev pub signed : ℕ → Attestation
signed member = record { signer = member; signature = replicate 32 member }

-- the member's vote on the first proposal of view 1 comes
abbrev pub votes_for_it : ℕ → Timed
votes_for_it member = record {
  input = input.Vote member
      (format.vote.spelling (votes.Notarize (record { proposal = first; attestation = signed member })));
  now = 0;
}

-- view 1 is current and the second member leads it; its vote comes, and the third's
abbrev pub two_votes : List Timed
two_votes = votes_for_it 2 ∷ votes_for_it 1 ∷ record { input = input.Mail (mail.Update 1 1 0 None); now = 0 } ∷ []

-- and then the fourth's
abbrev pub third_vote : Timed
third_vote = votes_for_it 3

-- the round of view 1 there
abbrev pub round_after : Standing → RoundHistory
round_after standing = unwrap_or (standing.rounds 1) (new_round batcher standing 1)

abbrev pub last_round : RoundHistory
last_round = round_after (taken batcher two_votes third_vote).standing

-- the three make a notarization, which the third member sends
abbrev pub notarization : Certificate
notarization = certificates.Notarization (record { proposal = first; certificate = map signed (1 ∷ 2 ∷ 3 ∷ []) })

abbrev pub brings : Timed
brings = record { input = input.Certificate 2 (format.certificate.spelling notarization); now = 0 }
