-- Entries whose evidence names no honest member accuse none.
use Rattle.std.proofs.Common.{◌≡◌, ℕ, ◌==◌, ◌||◌, Bool, true, false, List, [], ◌∷◌, filter_map, refl}
use Rattle.std.specs.List.{cons_option}
use Rattle.std.proofs.lemmas.List.Elements.{All-nil, All-cons, All-head, All-tail, All-append}
use Rattle.simplex.specs.declared.types.Activity.TheVariants as activities
use Rattle.simplex.specs.declared.actors.Call.{Call}
use Rattle.simplex.specs.declared.actors.Call.TheVariants as calls
use Rattle.simplex.specs.declared.Entry.{Entry}
use Rattle.simplex.specs.declared.Setup.{Setup}
use Rattle.simplex.specs.Blame.{BlamesNoHonest}
use Rattle.simplex.specs.Sayings.{Each}
use Rattle.simplex.specs.Evidence.{BlameNot, blames}
use Rattle.example_monitor.specs.declared.accusation.Accusation.{Accusation}
use Rattle.example_monitor.specs.Accusations.{Spares, SparesHonest, accusation_by, accusations_of}

first_false : (a b : Bool) → (a || b) ≡ false → a ≡ false
first_false false b h = refl
first_false true b h = cc

second_false : (a b : Bool) → (a || b) ≡ false → b ≡ false
second_false false b h = h
second_false true b h = cc

-- another member is accused
other_accused : (member event other : ℕ) (rest : List Accusation) → (other == member) ≡ false → Spares member rest → Spares member (record { event = event; member = other } ∷ rest)
other_accused member event other rest h k =
    All-cons (λ (accusation : Accusation). (accusation.member == member) ≡ false) (record { event = event; member = other }) rest h k

-- what is said of other accusations, where this call does not blame the member
not_accused : (member event : ℕ) (call : Call) (rest : List Accusation) → blames call member ≡ false → Spares member rest
    → Spares member (cons_option (accusation_by event call) rest)
not_accused member event (calls.Report (activities.ConflictingNotarize e)) rest h k =
    other_accused member event e.first.attestation.signer rest (first_false (e.first.attestation.signer == member) (e.second.attestation.signer == member) h) k
not_accused member event (calls.Report (activities.ConflictingFinalize e)) rest h k =
    other_accused member event e.first.attestation.signer rest (first_false (e.first.attestation.signer == member) (e.second.attestation.signer == member) h) k
not_accused member event (calls.Report (activities.NullifyFinalize e)) rest h k =
    other_accused member event e.finalize.attestation.signer rest (second_false (e.nullify.attestation.signer == member) (e.finalize.attestation.signer == member) h) k
not_accused member event (calls.Report (activities.Notarize v)) rest h k = k
not_accused member event (calls.Report (activities.Notarization c)) rest h k = k
not_accused member event (calls.Report (activities.Certification c)) rest h k = k
not_accused member event (calls.Report (activities.Nullify v)) rest h k = k
not_accused member event (calls.Report (activities.Nullification c)) rest h k = k
not_accused member event (calls.Report (activities.Finalize v)) rest h k = k
not_accused member event (calls.Report (activities.Finalization c)) rest h k = k
not_accused member event (calls.Append section artifact) rest h k = k
not_accused member event (calls.Sync section) rest h k = k
not_accused member event (calls.Prune least) rest h k = k
not_accused member event (calls.Send channel recipients bytes) rest h k = k
not_accused member event (calls.Relay payload plan) rest h k = k
not_accused member event (calls.Block blocked cause) rest h k = k

none_accused : (member event : ℕ) (made : List Call) → BlameNot member made → Spares member (filter_map (accusation_by event) made)
none_accused member event [] h = All-nil (λ (accusation : Accusation). (accusation.member == member) ≡ false)
none_accused member event (call ∷ made) h =
    not_accused member event call (filter_map (accusation_by event) made) (All-head (λ (c : Call). blames c member ≡ false) call made h) (none_accused member event made (All-tail (λ (c : Call). blames c member ≡ false) call made h))

pub spared : (setup : Setup) (entries : List Entry) → Each (BlamesNoHonest setup) entries → SparesHonest setup (accusations_of entries)
spared setup [] h member honest = All-nil (λ (accusation : Accusation). (accusation.member == member) ≡ false)
spared setup (entry ∷ entries) h member honest =
    All-append (λ (accusation : Accusation). (accusation.member == member) ≡ false) (filter_map (accusation_by entry.event) entry.calls) (accusations_of entries) (none_accused member entry.event entry.calls (h.0 member honest)) (spared setup entries h.1 member honest)
