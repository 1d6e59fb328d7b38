-- What is tested for forgeries.
use Rattle.std.proofs.Common.{◌≡◌, ℕ, List, true, false, refl, sym, ap}
use Rattle.std.specs.Prelude.{find, Option, Some, None, Result, Ok, Err}
use Rattle.std.specs.Option.{option_map}
use Rattle.simplex_values.specs.declared.proposal.Subject.{Subject}
use Rattle.simplex_transcript.specs.declared.entry.Packet.{Packet}
use Rattle.simplex_transcript.specs.declared.node.Node.{Node}
use Rattle.simplex_transcript.specs.declared.setup.Setup.{Setup}
use Rattle.simplex_transcript.specs.declared.refusal.RunError.{RunError}
use Rattle.simplex_transcript.specs.declared.refusal.RunError.TheVariants as refusals
use Rattle.model_run.specs.Kinds.{is_of_kind}
use Rattle.model_run.specs.Life.{Noted}
use Rattle.model_run.specs.Forged.{Signed, is_forged, signed_by_faulty, first_forged, unless, unless_forged}
use Rattle.law_run.specs.EventForging.{is_impersonator}
use Rattle.simplex_records.specs.Forgeries.{forgery_of, first_forgery}
use Rattle.simplex_records.specs.declared.forgery.Forgery.{Forgery}
use Rattle.simplex_network.specs.Stands.{heard_test}

none_by : (noted : Noted) (o : Option Signed) → None ≡ option_map forgery_of o → unless o noted ≡ Ok noted
none_by noted None e = refl
none_by noted (Some s) e = absurd (cc)

pub test-passes : (setup : Setup) (before : List Noted) (noted : Noted) (packets : List Packet) → noted.entry.packets ≡ packets → None ≡ first_forgery setup before packets
    → unless_forged setup before (Ok noted) ≡ Ok noted
unfolding unless_forged first_forged first_forgery
test-passes setup before noted packets same none = none_by noted (find (is_forged setup before) (signed_by_faulty setup noted.entry.packets)) (rw same none)

some_is : (a b : Forgery) → Some a ≡ Some b → a ≡ b
some_is a b e = cc

some_by : (noted : Noted) (member : ℕ) (subject : Subject) (o : Option Signed) → Some (record { member = member; subject = subject }) ≡ option_map forgery_of o
    → unless o noted ≡ Err (refusals.Forged member subject)
some_by noted member subject None e = absurd (cc)
some_by noted member subject (Some s) e =
    let is = some_is (record { member = member; subject = subject }) (forgery_of s) e in
    ap (λ (f : Forgery). Err (refusals.Forged f.member f.subject)) (sym is)

pub test-stops : (setup : Setup) (before : List Noted) (noted : Noted) (packets : List Packet) (member : ℕ) (subject : Subject) → noted.entry.packets ≡ packets
    → Some (record { member = member; subject = subject }) ≡ first_forgery setup before packets
    → unless_forged setup before (Ok noted) ≡ Err (refusals.Forged member subject)
unfolding unless_forged first_forged first_forgery
test-stops setup before noted packets member subject same some =
    some_by noted member subject (find (is_forged setup before) (signed_by_faulty setup noted.entry.packets)) (rw same some)

pub heard-tested : (setup : Setup) (before : List Noted) (node : Node) (noted : Noted) (r : Result Noted RunError) → is_of_kind is_impersonator setup node.member ≡ true
    → unless_forged setup before (Ok noted) ≡ r → heard_test setup before node noted ≡ r
heard-tested setup before node noted r e is = rw e is

pub heard-untested : (setup : Setup) (before : List Noted) (node : Node) (noted : Noted) → is_of_kind is_impersonator setup node.member ≡ false → heard_test setup before node noted ≡ Ok noted
heard-untested setup before node noted e = rw e refl
