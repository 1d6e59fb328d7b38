use Rattle.simplex_recording.proofs.Apart.{faults_at_certificate, votes_at_certificate}
use Rattle.simplex_recording.proofs.Entered.{certificates_same}
use Rattle.simplex_recording.proofs.record.Record.certify.Goals as goal

pub returns-clause-ok : goal.returns-clause-ok
returns-clause-ok g c = λ made all leader term stands. record {
  votes_are = votes_at_certificate c.args.self.now.votes c.args.activity all c.requires stands.votes_are;
  certificates_are = c.enter-3.ensures all (certificates_same c.args.self.now.certificates c.make_room.new.self all c.make_room.ensures.same stands.certificates_are);
  unlocked_are = c.in_ok-enter.ensures.ok made all leader term stands.unlocked_are;
  seen_are = c.enter-2.ensures all (c.make_room-2.ensures.same all stands.seen_are);
  faults_are = faults_at_certificate c.args.self.now.faults c.args.activity all c.requires stands.faults_are;
}
