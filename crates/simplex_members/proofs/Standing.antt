-- What faulty members that were made so, and heard this, stand for.
use Rattle.std.proofs.Common.{◌≡◌, ◌∙◌, ap, sym, refl, subst, ℕ, zero, suc, ◌<◌, true, false, List, [], ◌∷◌, length, Option, Some, Result, Ok, Err, arith, ◌⊎◌, inl, inr}
use Rattle.std.specs.Prelude.{IfOk, OnOk, slice_get, unwrap_or}
use Rattle.std.specs.Option.{option_map_or}
use Rattle.std.specs.declared.alloc.AllocError.{AllocError}
use Rattle.simplex_values.specs.declared.proposal.Subject.{Subject}
use Rattle.simplex_values.specs.declared.round.Round.{Round}
use Rattle.simplex_wire.specs.declared.attestation.Attestation.{Attestation}
use Rattle.simplex_types.specs.declared.keyed.Keyed.{Keyed}
use Rattle.simplex_types.specs.Keyed.{keyed_attests}
use Rattle.simplex_transcript.specs.declared.setup.Setup.{Setup}
use Rattle.simplex_transcript.specs.declared.setup.MemberKind.{MemberKind}
use Rattle.simplex_transcript.specs.declared.setup.MemberKind.TheVariants as kinds
use Rattle.model_run.specs.Kinds.{has_engine, runs_engine, members_of}
use Rattle.model_run.specs.Members.{kind_of}
use Rattle.model_run.specs.Twins.{elected}
use Rattle.model_run.specs.Mocks.{Heard, Sent, heard_by, attests_of, words_for, equivocator_of}
use Rattle.model_faults.specs.Words.{Words}
use Rattle.model_faults.specs.Conflicter.{conflicter_sends}
use Rattle.model_faults.specs.Equivocator.{Made, equivocator_sends}
use Rattle.model_faults.specs.Impersonator.{impersonator_sends}
use Rattle.model_faults.specs.Nuller.{nuller_sends}
use Rattle.model_faults.specs.NullifyOnly.{nullify_only_sends}
use Rattle.model_faults.specs.Outdated.{outdated_sends}
use Rattle.model_faults.specs.Reconfigurer.{reconfigurer_sends}
use Rattle.simplex_mocks.specs.Conflicting as conflicting
use Rattle.simplex_mocks.specs.Equivocating as equivocating
use Rattle.simplex_mocks.specs.Remembering as remembering
use Rattle.simplex_mocks.specs.declared.conflicter.Conflicter.{Conflicter}
use Rattle.simplex_mocks.specs.declared.equivocator.Equivocator.{Equivocator}
use Rattle.simplex_mocks.specs.declared.outdated.Outdated.{Outdated}
use Rattle.simplex_members.specs.Leading.{NodeElector, elects}
use Rattle.simplex_members.specs.FaultyMember.{FaultyStands, is_impersonator, signs}
use Rattle.simplex_members.specs.declared.faulty_member.FaultyMember.{FaultyMember}
use Rattle.simplex_members.specs.declared.faulty_member.FaultyMember.TheVariants as faulty

-- ---- members without an engine

kind_at : (members : List MemberKind) (member : ℕ) → member < length members
    → option_map_or has_engine (slice_get members member) false ≡ has_engine (unwrap_or (slice_get members member) kinds.Honest)
kind_at [] member below = absurd (omega arith)
kind_at (kind ∷ members) zero below = refl
kind_at (kind ∷ members) (suc member) below = kind_at members member (omega arith)

engine_kind : (kind : MemberKind) → has_engine kind ≡ false → (kind ≡ kinds.Honest) ⊎ ((kind ≡ kinds.Corrupt) ⊎ ((kind ≡ kinds.Unrecovering) ⊎ (kind ≡ kinds.Twin))) → ⊥
engine_kind kind none (inl e) = let no : true ≡ false = sym (ap has_engine e) ∙ none in cc
engine_kind kind none (inr (inl e)) = let no : true ≡ false = sym (ap has_engine e) ∙ none in cc
engine_kind kind none (inr (inr (inl e))) = let no : true ≡ false = sym (ap has_engine e) ∙ none in cc
engine_kind kind none (inr (inr (inr e))) = let no : true ≡ false = sym (ap has_engine e) ∙ none in cc

pub no_engine : (setup : Setup) (member : ℕ) (kind : MemberKind) → member < length setup.members → runs_engine setup member ≡ false → kind ≡ kind_of setup member
    → (kind ≡ kinds.Honest) ⊎ ((kind ≡ kinds.Corrupt) ⊎ ((kind ≡ kinds.Unrecovering) ⊎ (kind ≡ kinds.Twin))) → ⊥
no_engine setup member kind below none is one = engine_kind kind (ap has_engine is ∙ sym (kind_at setup.members member below) ∙ none) one

-- ---- made

pub signed : (setup : Setup) (member : ℕ) (scheme : Keyed) → scheme.key_base ≡ setup.key_base → scheme.me ≡ Some member → signs scheme ≡ attests_of setup member
signed setup member scheme base me = ap (λ b. keyed_attests b scheme.me) base ∙ ap (keyed_attests setup.key_base) me

pub silent-made : (setup : Setup) (member : ℕ) (kind : MemberKind) → kind ≡ kind_of setup member → kind ≡ kinds.Silent → FaultyStands faulty.Silent setup member []
unfolding FaultyStands
silent-made setup member kind e is = sym e ∙ is

pub conflicter-made : (setup : Setup) (member : ℕ) (kind : MemberKind) (attests : Subject → Option Attestation) (words : Words) (c : Conflicter Keyed)
    → kind ≡ kind_of setup member → kind ≡ kinds.Conflicter → attests ≡ attests_of setup member → words ≡ words_for setup member
    → conflicting.StandsFor signs c attests words [] → FaultyStands (faulty.Conflicter c) setup member []
unfolding FaultyStands
conflicter-made setup member kind attests words c e is a w stands =
    (sym e ∙ is, subst (λ v. conflicting.StandsFor signs c (attests_of setup member) v []) w (subst (λ b. conflicting.StandsFor signs c b words []) a stands))

made_same : (attests attests' : Subject → Option Attestation) (leader leader' : Round → ℕ) (me me' : Option ℕ) (members members' epoch : ℕ) (words words' : Words)
    → attests ≡ attests' → leader ≡ leader' → me ≡ me' → members ≡ members' → words ≡ words'
    → ◌≡◌ {A = Made} (record { attests = attests; leader = leader; me = me; members = members; epoch = epoch; words = words })
    (record { attests = attests'; leader = leader'; me = me'; members = members'; epoch = epoch; words = words' })
made_same attests attests' leader leader' me me' members members' epoch words words' a l m n w = rw (a, l, m, n, w) refl

pub equivocator-made : (setup : Setup) (member : ℕ) (kind : MemberKind) (scheme : Keyed) (elector : NodeElector) (words : Words) (e : Equivocator Keyed NodeElector)
    → kind ≡ kind_of setup member → kind ≡ kinds.Equivocator → signs scheme ≡ attests_of setup member → elects elector ≡ elected setup
    → scheme.me ≡ Some member → scheme.participants ≡ length setup.members → words ≡ words_for setup member
    → equivocating.StandsFor signs (λ s. s.me) (λ s. s.participants) elects e
    (equivocating.made_of signs (λ s. s.me) (λ s. s.participants) elects scheme elector setup.epoch words) []
    → FaultyStands (faulty.Equivocator e) setup member []
unfolding FaultyStands
equivocator-made setup member kind scheme elector words e eq is a l m n w stands = (
  sym eq ∙ is,
  subst (λ made. equivocating.StandsFor signs (λ s. s.me) (λ s. s.participants) elects e made [])
      (made_same (signs scheme) (attests_of setup member) (elects elector) (elected setup) scheme.me (Some member) scheme.participants (members_of setup) setup.epoch words (words_for setup member) a l m n w) stands,
)

pub outdated-made : (setup : Setup) (member delta : ℕ) (kind : MemberKind) (attests : Subject → Option Attestation) (o : Outdated Keyed)
    → kind ≡ kind_of setup member → kind ≡ kinds.Outdated delta → attests ≡ attests_of setup member
    → remembering.StandsFor signs o attests delta [] → FaultyStands (faulty.Outdated o) setup member []
unfolding FaultyStands
outdated-made setup member delta kind attests o e is a stands =
    (delta, sym e ∙ is, subst (λ b. remembering.StandsFor signs o b delta []) a stands)

pub impersonator-made : (setup : Setup) (member : ℕ) (kind : MemberKind) (scheme made : Keyed) → kind ≡ kind_of setup member → kind ≡ kinds.Impersonator
    → signs scheme ≡ attests_of setup member → made ≡ scheme → FaultyStands (faulty.Impersonator made) setup member []
unfolding FaultyStands
impersonator-made setup member kind scheme made e is a same = (sym e ∙ is, ap signs same ∙ a)

pub nuller-made : (setup : Setup) (member : ℕ) (kind : MemberKind) (scheme made : Keyed) → kind ≡ kind_of setup member → kind ≡ kinds.Nuller
    → signs scheme ≡ attests_of setup member → made ≡ scheme → FaultyStands (faulty.Nuller made) setup member []
unfolding FaultyStands
nuller-made setup member kind scheme made e is a same = (sym e ∙ is, ap signs same ∙ a)

pub nullify_only-made : (setup : Setup) (member : ℕ) (kind : MemberKind) (scheme made : Keyed) → kind ≡ kind_of setup member → kind ≡ kinds.NullifyOnly
    → signs scheme ≡ attests_of setup member → made ≡ scheme → FaultyStands (faulty.NullifyOnly made) setup member []
unfolding FaultyStands
nullify_only-made setup member kind scheme made e is a same = (sym e ∙ is, ap signs same ∙ a)

pub reconfigurer-made : (setup : Setup) (member : ℕ) (kind : MemberKind) (scheme made : Keyed) → kind ≡ kind_of setup member → kind ≡ kinds.Reconfigurer
    → signs scheme ≡ attests_of setup member → made ≡ scheme → FaultyStands (faulty.Reconfigurer made) setup member []
unfolding FaultyStands
reconfigurer-made setup member kind scheme made e is a same = (sym e ∙ is, ap signs same ∙ a)

-- ---- what is heard

on_ok : {A : Type 0} (result : Result A AllocError) {P : Type 0} → P → OnOk result P
on_ok (Ok value) p = p
on_ok (Err error) p = tt

then_ok : {A : Type 0} (result : Result A AllocError) {P Q : Type 0} → (P → Q) → OnOk result P → OnOk result Q
then_ok (Ok value) to p = to p
then_ok (Err error) to p = tt

-- what is sent by a member of this kind
by_kind : (setup : Setup) (member : ℕ) (kind : MemberKind) (past : List Heard) (now : Heard) (result : Result (List Sent) AllocError) → kind_of setup member ≡ kind
    → IfOk result (λ sent. sent ≡ heard_by setup member kind past now) → IfOk result (λ sent. sent ≡ heard_by setup member (kind_of setup member) past now)
by_kind setup member kind past now result is sends = subst (λ k. IfOk result (λ sent. sent ≡ heard_by setup member k past now)) (sym is) sends

-- the member is none that votes under another's number
no_impersonator : {P : Type 0} (setup : Setup) (member : ℕ) (kind : MemberKind) → kind_of setup member ≡ kind → is_impersonator kind ≡ false
    → is_impersonator (kind_of setup member) ≡ true → P
no_impersonator setup member kind is isnt it = let no : false ≡ true = sym isnt ∙ sym (ap is_impersonator is) ∙ it in absurd (cc)

pub silent-sends : (setup : Setup) (member : ℕ) (past : List Heard) (now : Heard) (self : FaultyMember) (sent : List Sent) → self ≡ faulty.Silent → sent ≡ []
    → FaultyStands self setup member past → sent ≡ heard_by setup member (kind_of setup member) past now
unfolding FaultyStands heard_by
silent-sends setup member past now self sent is none stands =
    let s : FaultyStands faulty.Silent setup member past = subst (λ f. FaultyStands f setup member past) is stands in
    by_kind setup member kinds.Silent past now (Ok sent) s none

pub silent-stands : (setup : Setup) (member : ℕ) (past later : List Heard) (self : FaultyMember) → self ≡ faulty.Silent → FaultyStands self setup member past
    → FaultyStands self setup member later
unfolding FaultyStands
silent-stands setup member past later self is stands =
    let s : FaultyStands faulty.Silent setup member later = subst (λ f. FaultyStands f setup member past) is stands in
    subst (λ f. FaultyStands f setup member later) (sym is) s

pub conflicter-sends : (setup : Setup) (member : ℕ) (past : List Heard) (now : Heard) (self : FaultyMember) (c : Conflicter Keyed) (result : Result (List Sent) AllocError)
    → self ≡ faulty.Conflicter c
    → ((attests : Subject → Option Attestation) (words : Words) (before : List Heard) → conflicting.StandsFor signs c attests words before
    → IfOk result (λ sent. sent ≡ conflicter_sends attests words before now))
    → FaultyStands self setup member past → IfOk result (λ sent. sent ≡ heard_by setup member (kind_of setup member) past now)
unfolding FaultyStands heard_by
conflicter-sends setup member past now self c result is sends stands =
    let s : FaultyStands (faulty.Conflicter c) setup member past = subst (λ f. FaultyStands f setup member past) is stands in
    by_kind setup member kinds.Conflicter past now result s.0 (sends (attests_of setup member) (words_for setup member) past s.1)

pub conflicter-stands : (setup : Setup) (member : ℕ) (past : List Heard) (now : Heard) (self : FaultyMember) (c c' : Conflicter Keyed) (result : Result (List Sent) AllocError)
    → self ≡ faulty.Conflicter c
    → ((attests : Subject → Option Attestation) (words : Words) (before : List Heard) → conflicting.StandsFor signs c attests words before
    → OnOk result (conflicting.StandsFor signs c' attests words (now ∷ before)))
    → FaultyStands self setup member past → OnOk result (FaultyStands (faulty.Conflicter c') setup member (now ∷ past))
unfolding FaultyStands
conflicter-stands setup member past now self c c' result is heard stands =
    let s : FaultyStands (faulty.Conflicter c) setup member past = subst (λ f. FaultyStands f setup member past) is stands in
    then_ok result (λ h. (s.0, h)) (heard (attests_of setup member) (words_for setup member) past s.1)

pub conflicter-unmoved : (setup : Setup) (member : ℕ) (past : List Heard) (self : FaultyMember) (c : Conflicter Keyed) {P : Type 0}
    → self ≡ faulty.Conflicter c → FaultyStands self setup member past → is_impersonator (kind_of setup member) ≡ true → P
unfolding FaultyStands
conflicter-unmoved setup member past self c is stands it =
    let s : FaultyStands (faulty.Conflicter c) setup member past = subst (λ f. FaultyStands f setup member past) is stands in
    no_impersonator setup member kinds.Conflicter s.0 refl it

pub equivocator-sends : (setup : Setup) (member : ℕ) (past : List Heard) (now : Heard) (self : FaultyMember) (e : Equivocator Keyed NodeElector) (result : Result (List Sent) AllocError)
    → self ≡ faulty.Equivocator e
    → ((made : Made) (before : List Heard) → equivocating.StandsFor signs (λ s. s.me) (λ s. s.participants) elects e made before
    → IfOk result (λ sent. sent ≡ equivocator_sends made before now))
    → FaultyStands self setup member past → IfOk result (λ sent. sent ≡ heard_by setup member (kind_of setup member) past now)
unfolding FaultyStands heard_by
equivocator-sends setup member past now self e result is sends stands =
    let s : FaultyStands (faulty.Equivocator e) setup member past = subst (λ f. FaultyStands f setup member past) is stands in
    by_kind setup member kinds.Equivocator past now result s.0 (sends (equivocator_of setup member) past s.1)

pub equivocator-stands : (setup : Setup) (member : ℕ) (past : List Heard) (now : Heard) (self : FaultyMember) (e e' : Equivocator Keyed NodeElector) (result : Result (List Sent) AllocError)
    → self ≡ faulty.Equivocator e
    → ((made : Made) (before : List Heard) → equivocating.StandsFor signs (λ s. s.me) (λ s. s.participants) elects e made before
    → OnOk result (equivocating.StandsFor signs (λ s. s.me) (λ s. s.participants) elects e' made (now ∷ before)))
    → FaultyStands self setup member past → OnOk result (FaultyStands (faulty.Equivocator e') setup member (now ∷ past))
unfolding FaultyStands
equivocator-stands setup member past now self e e' result is heard stands =
    let s : FaultyStands (faulty.Equivocator e) setup member past = subst (λ f. FaultyStands f setup member past) is stands in
    then_ok result (λ h. (s.0, h)) (heard (equivocator_of setup member) past s.1)

pub equivocator-unmoved : (setup : Setup) (member : ℕ) (past : List Heard) (self : FaultyMember) (e : Equivocator Keyed NodeElector) {P : Type 0}
    → self ≡ faulty.Equivocator e → FaultyStands self setup member past → is_impersonator (kind_of setup member) ≡ true → P
unfolding FaultyStands
equivocator-unmoved setup member past self e is stands it =
    let s : FaultyStands (faulty.Equivocator e) setup member past = subst (λ f. FaultyStands f setup member past) is stands in
    no_impersonator setup member kinds.Equivocator s.0 refl it

pub outdated-sends : (setup : Setup) (member : ℕ) (past : List Heard) (now : Heard) (self : FaultyMember) (o : Outdated Keyed) (result : Result (List Sent) AllocError)
    → self ≡ faulty.Outdated o
    → ((attests : Subject → Option Attestation) (delta : ℕ) (before : List Heard) → remembering.StandsFor signs o attests delta before
    → IfOk result (λ sent. sent ≡ outdated_sends attests delta before now))
    → FaultyStands self setup member past → IfOk result (λ sent. sent ≡ heard_by setup member (kind_of setup member) past now)
unfolding FaultyStands heard_by
outdated-sends setup member past now self o result is sends stands =
    let s : FaultyStands (faulty.Outdated o) setup member past = subst (λ f. FaultyStands f setup member past) is stands in
    by_kind setup member (kinds.Outdated s.0) past now result s.1 (sends (attests_of setup member) s.0 past s.2)

pub outdated-stands : (setup : Setup) (member : ℕ) (past : List Heard) (now : Heard) (self : FaultyMember) (o o' : Outdated Keyed) (result : Result (List Sent) AllocError)
    → self ≡ faulty.Outdated o
    → ((attests : Subject → Option Attestation) (delta : ℕ) (before : List Heard) → remembering.StandsFor signs o attests delta before
    → OnOk result (remembering.StandsFor signs o' attests delta (now ∷ before)))
    → FaultyStands self setup member past → OnOk result (FaultyStands (faulty.Outdated o') setup member (now ∷ past))
unfolding FaultyStands
outdated-stands setup member past now self o o' result is heard stands =
    let s : FaultyStands (faulty.Outdated o) setup member past = subst (λ f. FaultyStands f setup member past) is stands in
    then_ok result (λ h. (s.0, s.1, h)) (heard (attests_of setup member) s.0 past s.2)

pub outdated-unmoved : (setup : Setup) (member : ℕ) (past : List Heard) (self : FaultyMember) (o : Outdated Keyed) {P : Type 0}
    → self ≡ faulty.Outdated o → FaultyStands self setup member past → is_impersonator (kind_of setup member) ≡ true → P
unfolding FaultyStands
outdated-unmoved setup member past self o is stands it =
    let s : FaultyStands (faulty.Outdated o) setup member past = subst (λ f. FaultyStands f setup member past) is stands in
    no_impersonator setup member (kinds.Outdated s.0) s.1 refl it

pub impersonator-sends : (setup : Setup) (member : ℕ) (past : List Heard) (now : Heard) (self : FaultyMember) (scheme : Keyed) (result : Result (List Sent) AllocError)
    → self ≡ faulty.Impersonator scheme → IfOk result (λ sent. sent ≡ impersonator_sends (signs scheme) now)
    → FaultyStands self setup member past → IfOk result (λ sent. sent ≡ heard_by setup member (kind_of setup member) past now)
unfolding FaultyStands heard_by
impersonator-sends setup member past now self scheme result is sends stands =
    let s : FaultyStands (faulty.Impersonator scheme) setup member past = subst (λ f. FaultyStands f setup member past) is stands in
    by_kind setup member kinds.Impersonator past now result s.0 (subst (λ attests. IfOk result (λ sent. sent ≡ impersonator_sends attests now)) s.1 sends)

pub impersonator-stands : (setup : Setup) (member : ℕ) (past later : List Heard) (self : FaultyMember) (scheme scheme' : Keyed) (result : Result (List Sent) AllocError)
    → self ≡ faulty.Impersonator scheme → scheme' ≡ scheme → FaultyStands self setup member past → OnOk result (FaultyStands (faulty.Impersonator scheme') setup member later)
unfolding FaultyStands
impersonator-stands setup member past later self scheme scheme' result is same stands =
    let s : FaultyStands (faulty.Impersonator scheme) setup member past = subst (λ f. FaultyStands f setup member past) is stands in
    on_ok result (s.0, ap signs same ∙ s.1)

pub nuller-sends : (setup : Setup) (member : ℕ) (past : List Heard) (now : Heard) (self : FaultyMember) (scheme : Keyed) (result : Result (List Sent) AllocError)
    → self ≡ faulty.Nuller scheme → IfOk result (λ sent. sent ≡ nuller_sends (signs scheme) now)
    → FaultyStands self setup member past → IfOk result (λ sent. sent ≡ heard_by setup member (kind_of setup member) past now)
unfolding FaultyStands heard_by
nuller-sends setup member past now self scheme result is sends stands =
    let s : FaultyStands (faulty.Nuller scheme) setup member past = subst (λ f. FaultyStands f setup member past) is stands in
    by_kind setup member kinds.Nuller past now result s.0 (subst (λ attests. IfOk result (λ sent. sent ≡ nuller_sends attests now)) s.1 sends)

pub nuller-stands : (setup : Setup) (member : ℕ) (past later : List Heard) (self : FaultyMember) (scheme scheme' : Keyed) (result : Result (List Sent) AllocError)
    → self ≡ faulty.Nuller scheme → scheme' ≡ scheme → FaultyStands self setup member past → OnOk result (FaultyStands (faulty.Nuller scheme') setup member later)
unfolding FaultyStands
nuller-stands setup member past later self scheme scheme' result is same stands =
    let s : FaultyStands (faulty.Nuller scheme) setup member past = subst (λ f. FaultyStands f setup member past) is stands in
    on_ok result (s.0, ap signs same ∙ s.1)

pub nullify_only-sends : (setup : Setup) (member : ℕ) (past : List Heard) (now : Heard) (self : FaultyMember) (scheme : Keyed) (result : Result (List Sent) AllocError)
    → self ≡ faulty.NullifyOnly scheme → IfOk result (λ sent. sent ≡ nullify_only_sends (signs scheme) now)
    → FaultyStands self setup member past → IfOk result (λ sent. sent ≡ heard_by setup member (kind_of setup member) past now)
unfolding FaultyStands heard_by
nullify_only-sends setup member past now self scheme result is sends stands =
    let s : FaultyStands (faulty.NullifyOnly scheme) setup member past = subst (λ f. FaultyStands f setup member past) is stands in
    by_kind setup member kinds.NullifyOnly past now result s.0 (subst (λ attests. IfOk result (λ sent. sent ≡ nullify_only_sends attests now)) s.1 sends)

pub nullify_only-stands : (setup : Setup) (member : ℕ) (past later : List Heard) (self : FaultyMember) (scheme scheme' : Keyed) (result : Result (List Sent) AllocError)
    → self ≡ faulty.NullifyOnly scheme → scheme' ≡ scheme → FaultyStands self setup member past → OnOk result (FaultyStands (faulty.NullifyOnly scheme') setup member later)
unfolding FaultyStands
nullify_only-stands setup member past later self scheme scheme' result is same stands =
    let s : FaultyStands (faulty.NullifyOnly scheme) setup member past = subst (λ f. FaultyStands f setup member past) is stands in
    on_ok result (s.0, ap signs same ∙ s.1)

pub reconfigurer-sends : (setup : Setup) (member : ℕ) (past : List Heard) (now : Heard) (self : FaultyMember) (scheme : Keyed) (result : Result (List Sent) AllocError)
    → self ≡ faulty.Reconfigurer scheme → IfOk result (λ sent. sent ≡ reconfigurer_sends (signs scheme) now)
    → FaultyStands self setup member past → IfOk result (λ sent. sent ≡ heard_by setup member (kind_of setup member) past now)
unfolding FaultyStands heard_by
reconfigurer-sends setup member past now self scheme result is sends stands =
    let s : FaultyStands (faulty.Reconfigurer scheme) setup member past = subst (λ f. FaultyStands f setup member past) is stands in
    by_kind setup member kinds.Reconfigurer past now result s.0 (subst (λ attests. IfOk result (λ sent. sent ≡ reconfigurer_sends attests now)) s.1 sends)

pub reconfigurer-stands : (setup : Setup) (member : ℕ) (past later : List Heard) (self : FaultyMember) (scheme scheme' : Keyed) (result : Result (List Sent) AllocError)
    → self ≡ faulty.Reconfigurer scheme → scheme' ≡ scheme → FaultyStands self setup member past → OnOk result (FaultyStands (faulty.Reconfigurer scheme') setup member later)
unfolding FaultyStands
reconfigurer-stands setup member past later self scheme scheme' result is same stands =
    let s : FaultyStands (faulty.Reconfigurer scheme) setup member past = subst (λ f. FaultyStands f setup member past) is stands in
    on_ok result (s.0, ap signs same ∙ s.1)
