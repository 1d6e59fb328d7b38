use Rattle.std.proofs.Common.{◌≡◌, Some, rules}
use Rattle.std.specs.Ordering.{nat_cmp}
use Rattle.std.specs.BTreeMap as tree
use Rattle.simplex_types.specs.Evidence.{activity_round}
use Rattle.simplex_recording.proofs.Entered.{certificates_entered}
use Rattle.simplex_recording.proofs.certificates.Certificates.enter.Goals as goal

pub returns-in-Some : goal.returns-in-Some
returns-in-Some c = λ all stands.
    let key = c.view.inside.0 in
    let is = c.enter.new.self in
    let there : tree.get nat_cmp c.args.self.now.views key ≡ Some c.in-Some.kept.now = search rules in
    let at : key ≡ (activity_round c.args.activity).view = cc in
    record {
      views_are = certificates_entered c.args.self.now.views (c.get_mut.follows.lender is) c.in-Some.kept.now is c.args.activity all key at there ((c.get_mut.follows.holds is).3 (search rules)).0 c.requires.certificate (c.enter.ensures all) stands.views_are;
    }
