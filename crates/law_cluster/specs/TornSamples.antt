-- Two clusters that lack one premise each, and are torn.
use Rattle.std.specs.Prelude.{ℕ, ◌==◌, ◌&&◌, ◌||◌, ◌<◌, ◌≤◌, ◌^◌, Bool, true, List, [], ◌∷◌, ◌++◌, length, if◌then◌else◌}
use Rattle.std.specs.List.{flat_map, list_all, list_any}
use Rattle.simplex_values.specs.declared.plan.Channel.TheVariants as channels
use Rattle.simplex_values.specs.declared.proposal.Subject.{Subject}
use Rattle.simplex_values.specs.declared.proposal.Subject.TheVariants as subjects
use Rattle.simplex_values.specs.Quorum.{max_faulty}
use Rattle.simplex_wire.specs.declared.attestation.Attestation.{Attestation}
use Rattle.simplex_wire.specs.declared.certificate.Certificate.{Certificate}
use Rattle.simplex_wire.specs.Fields.{certificate_subject, vote_subject}
use Rattle.simplex_wire.specs.Message as format
use Rattle.simplex_journal.specs.Journal.{crashed}
use Rattle.simplex_round.specs.Votes.{is_same_subject}
use Rattle.model_steps.specs.Engine.{Did, sections_of}
use Rattle.law_agreement.specs.Conflict.{Conflict}
use Rattle.law_cluster.specs.Lives.{Group, Life, IsLife, AreLives}
use Rattle.law_cluster.specs.Signatures.{sent_by}
use Rattle.law_cluster.specs.Cluster.{Cluster, IsHonest, IsUnforged}
use Rattle.law_cluster.specs.Agree.{IsHad, in_taken}
use Rattle.law_cluster.specs.Samples.{Act, Hear, engine, played, is_history, lives_by, came_in, block, rival, notarized, follows_on, group}

-- two certificates that honest members had and that verify conflict
pub record IsTorn (c : Cluster) : Type 0 where
  pub first : Certificate
  pub second : Certificate
  pub has_first : IsHad c first
  pub has_second : IsHad c second
  pub conflict : Conflict c.group.term (certificate_subject first) (certificate_subject second)

-- all premises hold, but perhaps the one on signatures
pub record IsAlive (c : Cluster) : Type 0 where
  pub some : 0 < c.group.members
  pub term : 0 < c.group.term
  pub epoch : c.group.epoch < 2 ^ 64
  pub few : length c.faulty ≤ max_faulty c.group.members
  pub lives : (member : ℕ) → IsHonest c member → AreLives c.group member (c.lives member)

-- each is a life over an empty journal, whatever the one before left
unfoldable pub AreBlank : Group → ℕ → List Life → Type 0
AreBlank group member [] = Unit {0}
AreBlank group member (life ∷ before) = IsLife group member [] life × AreBlank group member before

-- all premises hold, but that members may have lost their journals
pub record IsForgetful (c : Cluster) : Type 0 where
  pub some : 0 < c.group.members
  pub term : 0 < c.group.term
  pub epoch : c.group.epoch < 2 ^ 64
  pub few : length c.faulty ≤ max_faulty c.group.members
  pub lives : (member : ℕ) → IsHonest c member → AreBlank c.group member (c.lives member)
  pub unforged : IsUnforged c

-- ---- forged signatures

abbrev pub hear_certificate : Certificate → Act
hear_certificate c = Hear 3 channels.Certificate (format.certificate.spelling c)

-- the first member hears that all notarized a block, and that all notarized its rival
abbrev pub hears_both : List Act
hears_both = hear_certificate (notarized block (0 ∷ 1 ∷ 2 ∷ [])) ∷ hear_certificate (notarized rival (0 ∷ 1 ∷ 2 ∷ [])) ∷ []

abbrev pub forged : Cluster
forged = record { group = group; faulty = 3 ∷ []; lives = λ member. lives_by member (if member == 0 then hears_both ∷ [] else []) }

-- ---- lost journals: the second member leads and is faulty, and the first votes for both blocks

-- the lives in which a member does these acts, each over an empty journal
unfoldable pub blank_lives : ℕ → List (List Act) → List Life
blank_lives member [] = []
blank_lives member (acts ∷ before) =
    let made = engine member [] in
    let past = played made acts in
    record { made = made; past = past; left = crashed 0 (sections_of made past) } ∷ blank_lives member before

unfoldable pub are_blank : ℕ → List (List Act) → Bool
are_blank member [] = true
are_blank member (acts ∷ before) = is_history (engine member []) acts && are_blank member before

abbrev pub forgetful_acts : ℕ → List (List Act)
forgetful_acts member =
    if member == 0 then follows_on rival ∷ follows_on block ∷ []
    else (if member == 2 then (follows_on block ++ hear_certificate (notarized block (0 ∷ 1 ∷ 2 ∷ [])) ∷ []) ∷ []
    else (if member == 3 then (follows_on rival ++ hear_certificate (notarized rival (0 ∷ 1 ∷ 3 ∷ [])) ∷ []) ∷ [] else []))

abbrev pub forgetful : Cluster
forgetful = record { group = group; faulty = 1 ∷ []; lives = λ member. blank_lives member (forgetful_acts member) }

-- who votes for what
abbrev pub is_pair : Subject × Attestation → ℕ × Subject → Bool
is_pair (subject, a) (member, voted) = a.signer == member && is_same_subject subject voted

abbrev pub pairs : List (ℕ × Subject)
pairs =
    (0, subjects.Notarize block) ∷ (0, subjects.Notarize rival) ∷ (1, subjects.Notarize block)
    ∷ (1, subjects.Notarize rival) ∷ (2, subjects.Notarize block) ∷ (3, subjects.Notarize rival) ∷ []

abbrev pub came_of_pairs : List Life → Bool
came_of_pairs lives = list_all (λ x. list_any (is_pair x) pairs) (flat_map came_in lives)

abbrev pub pairs_are_voted : Bool
pairs_are_voted =
    list_all (λ (pair : ℕ × Subject).
    pair.0 == 1 || list_any (λ v. is_same_subject (vote_subject v) pair.1) (sent_by (forgetful.lives pair.0))) pairs

-- the certificates that came to a member in packets
abbrev pub heard_by : List Life → List Certificate
heard_by lives = flat_map (λ (life : Life). flat_map (λ (did : Did). in_taken did.taken) life.past) lives
