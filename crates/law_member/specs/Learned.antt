-- What a step adds to what is known, read from what it gave.
use Rattle.std.specs.Prelude.{ℕ, Bool, true, false, List, filter, filter_map, reverse, Option, Some, None}
use Rattle.simplex_wire.specs.declared.artifact.Artifact.{Artifact}
use Rattle.simplex_wire.specs.declared.artifact.Artifact.TheVariants as artifacts
use Rattle.simplex_wire.specs.declared.certificate.Certificate.{Certificate}
use Rattle.simplex_wire.specs.declared.certificate.Certificate.TheVariants as certificates
use Rattle.simplex_wire.specs.declared.vote.Vote.{Vote}
use Rattle.simplex_wire.specs.declared.vote.Vote.TheVariants as votes
use Rattle.simplex_messages.specs.declared.call.Call.{Call}
use Rattle.simplex_messages.specs.declared.call.Call.TheVariants as calls
use Rattle.model_rules.specs.Known.{Fact, Added, Judged, Voted, Published}

-- ---- certificates, verdicts and own votes

abbrev pub is_lasting : Fact → Bool
is_lasting (Added certificate now) = true
is_lasting (Judged view good now) = true
is_lasting (Voted vote) = true
is_lasting _ = false

-- what of this is known, the newest first
abbrev pub lasting : List Fact → List Fact
lasting known = filter is_lasting known

-- the fact that a record tells
abbrev pub fact_of_record : ℕ → Artifact → Fact
fact_of_record now (artifacts.Notarize v) = Voted (votes.Notarize v)
fact_of_record now (artifacts.Nullify v) = Voted (votes.Nullify v)
fact_of_record now (artifacts.Finalize v) = Voted (votes.Finalize v)
fact_of_record now (artifacts.Notarization n) = Added (certificates.Notarization n) now
fact_of_record now (artifacts.Nullification n) = Added (certificates.Nullification n) now
fact_of_record now (artifacts.Finalization f) = Added (certificates.Finalization f) now
fact_of_record now (artifacts.Certification round good) = Judged round.view good now

abbrev pub appended_fact : ℕ → Call → Option Fact
appended_fact now (calls.Append section artifact) = Some (fact_of_record now artifact)
appended_fact now _ = None

-- what the records tell that a step appends: the later one tells the newer fact
abbrev pub facts_of_step : ℕ → List Call → List Fact
facts_of_step now made = reverse (filter_map (appended_fact now) made)

-- ---- certificates alone

abbrev pub is_addition : Fact → Bool
is_addition (Added certificate now) = true
is_addition _ = false

abbrev pub additions : List Fact → List Fact
additions known = filter is_addition known

abbrev pub added_at : ℕ → Certificate → Fact
added_at now certificate = Added certificate now

-- ---- nullifies that went out

abbrev pub is_publication : Fact → Bool
is_publication (Published view now) = true
is_publication _ = false

abbrev pub publications : List Fact → List Fact
publications known = filter is_publication known

abbrev pub publication_of : ℕ → Vote → Option Fact
publication_of now (votes.Nullify v) = Some (Published v.round.view now)
publication_of now _ = None

-- the publications that the nullifies among these votes are
abbrev pub publications_of : ℕ → List Vote → List Fact
publications_of now sent = filter_map (publication_of now) sent
