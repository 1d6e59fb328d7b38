-- The own votes among the records that calls append.
use Rattle.std.proofs.Common.{◌≡◌, ℕ, List, [], ◌∷◌, ◌++◌, reverse, refl, sym, ap, ◌∙◌, subst, append_assoc}
use Rattle.std.specs.List.{filter_map}
use Rattle.std.proofs.lemmas.List.{reverse-append}
use Rattle.std.proofs.lemmas.List.Elements.{filter-append, filter_map-append}
use Rattle.simplex_wire.specs.declared.artifact.Artifact.{Artifact}
use Rattle.simplex_wire.specs.declared.artifact.Artifact.TheVariants as artifacts
use Rattle.simplex_messages.specs.declared.call.Call.{Call}
use Rattle.model_rules.specs.Known.{Made, Fact}
use Rattle.law_member.specs.Learned.{appended_fact}
use Rattle.model_audit.specs.declared.record.AuditCall.{AuditCall}
use Rattle.model_audit.specs.declared.record.AuditCall.TheVariants as audit
use Rattle.model_audit.specs.Alike.{is_vote, own_votes}
use Rattle.model_audit.specs.Reading.{votes_in}
use Rattle.model_audit.specs.Rebuilt.{call_for}
use Rattle.simplex_known.specs.declared.known.Known.{Known}
use Rattle.simplex_known.specs.Knows.{Knows}
use Rattle.simplex_reader.specs.Votes.{vote_facts}

-- those of the later calls are the newer
votes-append : (now : ℕ) (a b : List Call) → votes_in now (a ++ b) ≡ votes_in now b ++ votes_in now a
votes-append now a b =
    let first = filter_map (appended_fact now) a in
    let later = filter_map (appended_fact now) b in
    ap (λ (facts : List Fact). own_votes (reverse facts)) (filter_map-append (appended_fact now) a b)
    ∙ ap own_votes (reverse-append first later)
    ∙ filter-append is_vote (reverse later) (reverse first)

-- whatever facts were kept, those of these calls are kept with them
abbrev pub Appends : Known → Known → List AuditCall → Type 0
Appends old new calls =
    (made : Made) (facts : List Fact) (now : ℕ) → Knows old made facts → Knows new made (votes_in now (filter_map call_for calls) ++ facts)

pub appended : (old new : Known) (told calls : List AuditCall) → told ≡ calls → Appends old new told → Appends old new calls
appended old new told calls e appends = subst (Appends old new) e appends

pub appends_none : (kept : Known) → Appends kept kept []
appends_none kept made facts now k = k

pub appends_more : (old mid new : Known) (calls : List AuditCall) (call : AuditCall) → Appends old mid calls → Appends mid new (call ∷ []) → Appends old new (calls ++ call ∷ [])
appends_more old mid new calls call before one made facts now k =
    let earlier = filter_map call_for calls in
    let last = filter_map call_for (call ∷ []) in
    subst (Knows new made)
    (sym (append_assoc (votes_in now last) (votes_in now earlier) facts)
    ∙ ap (λ votes. votes ++ facts) (sym (votes-append now earlier last) ∙ ap (votes_in now) (sym (filter_map-append call_for calls (call ∷ [])))))
    (one made (votes_in now earlier ++ facts) now (before made facts now k))

record_votes : (now section : ℕ) (artifact : Artifact) → vote_facts artifact ≡ votes_in now (filter_map call_for (audit.Append section artifact ∷ []))
record_votes now section (artifacts.Notarize v) = refl
record_votes now section (artifacts.Nullify v) = refl
record_votes now section (artifacts.Finalize v) = refl
record_votes now section (artifacts.Notarization c) = refl
record_votes now section (artifacts.Nullification c) = refl
record_votes now section (artifacts.Finalization c) = refl
record_votes now section (artifacts.Certification round good) = refl

pub appends_record : (old new : Known) (section : ℕ) (artifact : Artifact)
    → ((made : Made) (facts : List Fact) → Knows old made facts → Knows new made (vote_facts artifact ++ facts)) → Appends old new (audit.Append section artifact ∷ [])
appends_record old new section artifact did made facts now k =
    subst (λ (votes : List Fact). Knows new made (votes ++ facts)) (record_votes now section artifact) (did made facts k)
