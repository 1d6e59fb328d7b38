use Rattle.std.proofs.Common.{rules, ◌≡◌, ◌∷◌, map, filter}
use Rattle.std.specs.Prelude.{not}
use Rattle.simplex_wire.specs.Fields.{vote_attestation}
use Rattle.simplex_round.specs.declared.ballot.Ballot.{Ballot}
use Rattle.simplex_round.specs.Votes.{vote_signer}
use Rattle.simplex_round.specs.Assembly.{is_unchecked, is_valid, checked, as_scheme}
use Rattle.simplex_round.proofs.Turns.{turned, filter_turn, filters_turn, valid_turn}
use Rattle.simplex_round.proofs.Rising.{valid_rise}
use Rattle.simplex_round.proofs.ballots.Ballots.findings.Goals as goal

pub loop-ballot-preserved : goal.loop-ballot-preserved
loop-ballot-preserved g c =
    let subject = c.args.subject.now in
    let verifies = g.S.Scheme.verifies c.args.scheme.now subject in
    let scheme = as_scheme (g.S.Scheme.verifies c.args.scheme.now) (g.S.Scheme.recovers c.args.scheme.now) (g.S.Scheme.members c.args.scheme.now) in
    let ballot = c.in-Some.ballot.now in
    let left : c.loop-ballot.ballot-iterator ≡ ballot ∷ c.next.new.self = search rules in
    record {
      found = turned (λ bs. map (λ b. verifies (vote_attestation b.vote)) (filter (is_unchecked subject) bs)) _ _ _ _ _ _ _ left
          (filter_turn (is_unchecked subject) (λ b. verifies (vote_attestation b.vote)) ballot c.next.new.self) c.in_ok-take.ensures.found c.loop-ballot.invariant.found;
      invalid = turned (λ bs. map (λ (b : Ballot). vote_signer b.vote) (filter (λ b. not (verifies (vote_attestation b.vote))) (filter (is_unchecked subject) bs))) _ _ _ _ _ _ _ left
          (filters_turn (is_unchecked subject) (λ b. not (verifies (vote_attestation b.vote))) (λ b. vote_signer b.vote) ballot c.next.new.self) c.in_ok-take.ensures.invalid c.loop-ballot.invariant.invalid;
      valid = turned (λ bs. map (λ (b : Ballot). vote_attestation b.vote) (filter (is_valid subject) (map (checked scheme subject) bs))) _ _ _ _ _ _ _ left
          (valid_turn scheme subject ballot c.next.new.self) c.in_ok-take.ensures.valid c.loop-ballot.invariant.valid;
    }

pub returns-clause-rises : goal.returns-clause-rises
returns-clause-rises g c =
    let scheme = as_scheme (g.S.Scheme.verifies c.args.scheme.now) (g.S.Scheme.recovers c.args.scheme.now) (g.S.Scheme.members c.args.scheme.now) in
    valid_rise scheme c.args.subject.now c.self.inside.by_signer.entries c.args.self.now c.loop-ballot.ballot-iterator c.loop-ballot.findings.valid.items
    c.self.invariant c.values-ballot-items.ensures.ordered c.self.view_is (search rules) c.loop-ballot.invariant.valid
