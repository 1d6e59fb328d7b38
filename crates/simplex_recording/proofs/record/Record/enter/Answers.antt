use Rattle.std.proofs.Common.{◌≡◌, false, None, Some, sym, ◌∙◌}
use Rattle.std.proofs.lemmas.Result.{on_ok_weaker}
use Rattle.simplex_types.specs.Evidence.{was_verified}
use Rattle.simplex_recording.specs.Recording.{against}
use Rattle.simplex_recording.proofs.Apart.{certificates_apart, unlocked_apart, seen_apart, faults_apart, votes_at_evidence}
use Rattle.simplex_recording.proofs.record.Record.enter.Goals as goal

pub returns-in-None-clause-ok : goal.returns-in-None-clause-ok
returns-in-None-clause-ok g c =
    let it = c.args.activity in
    let old = c.args.self.now in
    let unverified : was_verified it ≡ false = sym c.verified.ensures ∙ c.if-verified.false in
    let nobody : against it ≡ None = sym c.in-None.ensures in
    on_ok_weaker c.enter.result (λ entered. λ made all leader term stands. record {
      votes_are = entered all stands.votes_are;
      certificates_are = certificates_apart old.certificates it all unverified stands.certificates_are;
      unlocked_are = unlocked_apart old.unlocked made it all unverified stands.unlocked_are;
      seen_are = seen_apart old.seen it all unverified stands.seen_are;
      faults_are = faults_apart old.faults it all nobody stands.faults_are;
    }) c.enter.ensures.ok

pub returns-in-Some-clause-ok : goal.returns-in-Some-clause-ok
returns-in-Some-clause-ok g c =
    let it = c.args.activity in
    let old = c.args.self.now in
    let unverified : was_verified it ≡ false = sym c.verified.ensures ∙ c.if-verified.false in
    let somebody : against it ≡ Some c.in-Some.member = sym c.in-Some.ensures in
    on_ok_weaker c.enter-in-Some.result (λ entered. λ made all leader term stands. record {
      votes_are = votes_at_evidence old.votes it all c.in-Some.member somebody stands.votes_are;
      certificates_are = certificates_apart old.certificates it all unverified stands.certificates_are;
      unlocked_are = unlocked_apart old.unlocked made it all unverified stands.unlocked_are;
      seen_are = seen_apart old.seen it all unverified stands.seen_are;
      faults_are = entered all stands.faults_are;
    }) c.enter-in-Some.ensures.ok
