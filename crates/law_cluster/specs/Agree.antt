-- What a member of a cluster knows, and that members agree.
use Rattle.std.specs.Prelude.{ℕ, ◌⊎◌, ◌++◌, List, [], Contains}
use Rattle.std.specs.List.{flat_map}
use Rattle.simplex_wire.specs.declared.certificate.Certificate.{Certificate}
use Rattle.simplex_wire.specs.Fields.{certificate_subject}
use Rattle.simplex_journal.specs.Journal.{replayed}
use Rattle.model_rules.specs.Known.{Added}
use Rattle.model_steps.specs.VoterLife.{place_of}
use Rattle.model_steps.specs.Engine.{Did, Taken, Heard, voter_in, voter_past}
use Rattle.law_agreement.specs.Conflict.{Conflict}
use Rattle.law_run.specs.Backed.{certificate_on, of_call, of_message, of_record}
use Rattle.law_cluster.specs.Lives.{Life, IsVerifying}
use Rattle.law_cluster.specs.Signatures.{floor_of}
use Rattle.law_cluster.specs.Cluster.{Cluster, IsHonest}

-- ---- the certificates that a member has

-- in a packet
abbrev pub in_taken : Taken → List Certificate
in_taken (Heard sender channel bytes) = certificate_on channel bytes
in_taken _ = []

-- that an engine said in an item: it added, handed on, appended or reported them
abbrev pub said_in : Did → List Certificate
said_in did = did.out.added ++ flat_map of_message did.out.handed ++ flat_map of_call did.out.calls

-- in its journal, when the life had ended
abbrev pub in_journal : Life → List Certificate
in_journal life = flat_map of_record (replayed life.left)

-- the voter knew it then
abbrev pub IsKnown : Life → Certificate → Type 0
IsKnown life c =
    let voter = voter_in life.made life.past in
    (now : ℕ) × Contains (place_of voter (voter_past life.past)).standing.desk.known (Added c now)

-- it had it in a life: as the floor, in a packet or in what its engine said, in its journal, or among what its voter knew
abbrev pub HadIn : Life → Certificate → Type 0
HadIn life c = Contains (floor_of life) c
    ⊎ (((did : Did) × Contains life.past did × (Contains (in_taken did.taken) c ⊎ Contains (said_in did) c))
    ⊎ (Contains (in_journal life) c ⊎ IsKnown life c))

abbrev pub Had : List Life → Certificate → Type 0
Had lives c = (life : Life) × Contains lives life × HadIn life c

-- an honest member had it in one of its lives, and it verifies
pub record IsHad (c : Cluster) (certificate : Certificate) : Type 0 where
  pub member : ℕ
  pub honest : IsHonest c member
  pub had : Had (c.lives member) certificate
  pub verifies : IsVerifying c.group certificate

-- no two of these conflict
abbrev pub Agree : Cluster → Type 0
Agree c = (a b : Certificate) → IsHad c a → IsHad c b
    → ¬ (Conflict c.group.term (certificate_subject a) (certificate_subject b))
