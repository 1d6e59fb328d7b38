-- The text of a setup.
use Rattle.std.specs.Prelude.{ℕ, List, [], ◌∷◌, Option, None, Some, codes, decimal}
use Rattle.simplex_values.specs.declared.policy.SkipBudget.{SkipBudget}
use Rattle.simplex_values.specs.declared.policy.SkipBudget.TheVariants as budgets
use Rattle.simplex_values.specs.declared.policy.SkipPolicy.{SkipPolicy}
use Rattle.simplex_values.specs.declared.policy.SkipPolicy.TheVariants as skips
use Rattle.simplex_transcript.specs.declared.setup.MemberKind.{MemberKind}
use Rattle.simplex_transcript.specs.declared.setup.MemberKind.TheVariants as kinds
use Rattle.simplex_transcript.specs.declared.setup.SetupRound.{SetupRound}
use Rattle.simplex_transcript.specs.declared.setup.Setup.{Setup}
use Rattle.simplex_text.specs.Lines.{pieces}
use Rattle.simplex_writer.specs.Names.{flag_name, forward_name}
use Rattle.simplex_writer.specs.Pieces.{list_text}

abbrev pub kind_text : MemberKind → List ℕ
kind_text kinds.Honest = codes "\"honest\""
kind_text kinds.Silent = codes "\"silent\""
kind_text kinds.Conflicter = codes "\"conflicter\""
kind_text kinds.Equivocator = codes "\"equivocator\""
kind_text kinds.Impersonator = codes "\"impersonator\""
kind_text kinds.Nuller = codes "\"nuller\""
kind_text kinds.NullifyOnly = codes "\"nullify_only\""
kind_text (kinds.Outdated views) = pieces (codes "{\"outdated\":" ∷ decimal views ∷ codes "}" ∷ [])
kind_text kinds.Reconfigurer = codes "\"reconfigurer\""
kind_text kinds.Corrupt = codes "\"corrupt\""
kind_text kinds.Unrecovering = codes "\"unrecovering\""
kind_text kinds.Twin = codes "\"twin\""

abbrev pub round_text : SetupRound → List ℕ
round_text round =
    pieces (codes "{\"leader\":" ∷ decimal round.leader ∷ codes ",\"primary\":" ∷ decimal round.primary ∷ codes ",\"secondary\":" ∷ decimal round.secondary ∷ codes "}" ∷ [])

-- null, or a number
abbrev pub limit_text : Option ℕ → List ℕ
limit_text None = codes "null"
limit_text (Some limit) = decimal limit

abbrev pub budget_text : SkipBudget → List ℕ
budget_text (budgets.Fixed views) = decimal views
budget_text budgets.Participants = codes "\"participants\""

abbrev pub skip_text : SkipPolicy → List ℕ
skip_text skips.Disabled = codes "null"
skip_text (skips.Enabled timeout budget) = pieces (codes "{\"timeout\":" ∷ decimal timeout ∷ codes ",\"budget\":" ∷ budget_text budget ∷ codes "}" ∷ [])

-- who takes part, and in which terms, by the text of the members
abbrev pub committee_of : Setup → List ℕ → List ℕ
committee_of setup members =
    pieces (codes "\"epoch\":" ∷ decimal setup.epoch ∷ codes ",\"key_base\":" ∷ decimal setup.key_base
    ∷ codes ",\"members\":" ∷ members ∷ codes ",\"term\":" ∷ decimal setup.term ∷ codes ",\"lookahead\":" ∷ decimal setup.lookahead ∷ [])

-- the same, with its members
abbrev pub committee_text : Setup → List ℕ
committee_text setup = committee_of setup (list_text kind_text (codes ",") setup.members)

-- how long things last
abbrev pub timing_text : Setup → List ℕ
timing_text setup =
    pieces (codes "\"leader_timeout\":" ∷ decimal setup.leader_timeout ∷ codes ",\"certification_timeout\":" ∷ decimal setup.certification_timeout
    ∷ codes ",\"retry\":" ∷ decimal setup.retry ∷ codes ",\"stall\":" ∷ limit_text setup.stall ∷ codes ",\"retention\":" ∷ decimal setup.retention ∷ [])

-- what a member does beyond the rules
abbrev pub policies_text : Setup → List ℕ
policies_text setup =
    pieces (codes "\"skip\":" ∷ skip_text setup.skip ∷ codes ",\"forward\":\"" ∷ forward_name setup.forward ∷ codes "\",\"mailbox\":" ∷ decimal setup.mailbox
    ∷ codes ",\"track\":" ∷ flag_name setup.track ∷ codes ",\"handoff\":" ∷ flag_name setup.handoff ∷ [])

-- fetching, and the scripted rounds
abbrev pub fetching_text : Setup → List ℕ
fetching_text setup =
    pieces (codes "\"fetch_timeout\":" ∷ decimal setup.fetch_timeout ∷ codes ",\"fetch_retry\":" ∷ decimal setup.fetch_retry
    ∷ codes ",\"scenario\":" ∷ list_text round_text (codes ",") setup.scenario ∷ [])

-- an object of these eighteen members
abbrev pub setup_text : Setup → List ℕ
setup_text setup =
    pieces (codes "{" ∷ committee_text setup ∷ codes "," ∷ timing_text setup ∷ codes "," ∷ policies_text setup ∷ codes "," ∷ fetching_text setup ∷ codes "}" ∷ [])
