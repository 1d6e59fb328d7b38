use Rattle.std.proofs.Common.{ℕ, List, [], rules}
use Rattle.simplex_disk.specs.Calls.{Call}
use Rattle.simplex_disk.specs.Left.{LeavesFront, LeavesClosed, IsShut}
use Rattle.simplex_disk.specs.Moments.{AlwaysOf}
use Rattle.simplex_disk.proofs.Moments.{join_of, weaker_of, now_of}
use Rattle.simplex_disk.proofs.Chains.{Stands-shut, LeavesFront-closed}
use Rattle.simplex_disk.proofs.Segments.{ok_of}
use Rattle.simplex_disk.proofs.index.first_record.Goals as goal

-- the making of the file
shut_closed : (n : ℕ) (H H1 : List Call) → AlwaysOf n (IsShut n) H H1 → AlwaysOf n (LeavesClosed n) H H1
shut_closed n H H1 h = weaker_of n (IsShut n) (LeavesClosed n) (λ l shut. shut.left) H H1 h

-- and of the record
both : (n : ℕ) (H H1 H2 : List Call) → AlwaysOf n (IsShut n) H H1 → AlwaysOf n (LeavesFront n [] []) H1 H2 → AlwaysOf n (LeavesClosed n) H H2
both n H H1 H2 h more = join_of n (LeavesClosed n) H H1 H2 (shut_closed n H H1 h) (weaker_of n (LeavesFront n [] []) (LeavesClosed n) (λ l left. LeavesFront-closed n l left) H1 H2 more)

pub returns-in_err-make_file-clause-stands : goal.returns-in_err-make_file-clause-stands
returns-in_err-make_file-clause-stands g c = λ H st shut.
    let t = c.make_file.ensures.stands H st shut in
    record { now = t.now; stands = t.stands; held = shut_closed c.args.file H t.now t.held; holds = (now_of c.args.file (IsShut c.args.file) H t.now t.held, search rules) }

pub append_record-requires : goal.append_record-requires
append_record-requires g c =
    let t = c.make_file.ensures.stands c.requires.0 c.requires.1 c.requires.2 in
    (t.now, t.stands, ([], [], record { stands = ok_of c.make_file.result _ c.in_ok-make_file.was t.holds; kept = c.new-segment.ensures }))

pub returns-in_err-append_record-clause-stands : goal.returns-in_err-append_record-clause-stands
returns-in_err-append_record-clause-stands g c = λ H st shut.
    let n = c.args.file in
    let t = c.make_file.ensures.stands H st shut in
    let made = ok_of c.make_file.result _ c.in_ok-make_file.was t.holds in
    let u = c.append_record.ensures.stands t.now t.stands [] [] (record { stands = made; kept = c.new-segment.ensures }) in
    record { now = u.now; stands = u.stands; held = both n H t.now u.now t.held u.held; holds = (Stands-shut n u.now u.holds.0, search rules) }

pub returns-clause-stands : goal.returns-clause-stands
returns-clause-stands g c = λ H st shut.
    let n = c.args.file in
    let t = c.make_file.ensures.stands H st shut in
    let made = ok_of c.make_file.result _ c.in_ok-make_file.was t.holds in
    let u = c.append_record.ensures.stands t.now t.stands [] [] (record { stands = made; kept = c.new-segment.ensures }) in
    record { now = u.now; stands = u.stands; held = both n H t.now u.now t.held u.held; holds = (Stands-shut n u.now u.holds.0, ok_of c.append_record.result _ c.in_ok-append_record.was u.holds.1) }
