-- One host.
use Rattle.std.proofs.Common.{◌≡◌, ℕ, List, [], ◌∷◌, true, false, refl, sym, ap}
use Rattle.std.specs.Prelude.{Option, Some, None}
use Rattle.simplex_journal.specs.Journal.{Section}
use Rattle.model_rules.specs.Views.{current_of}
use Rattle.simplex_messages.specs.declared.step.Outcome.{Outcome}
use Rattle.simplex_messages.specs.declared.step.Stop.{Stop}
use Rattle.simplex_messages.specs.declared.step.StepOut.{StepOut}
use Rattle.model_steps.specs.VoterLife.{place_of}
use Rattle.model_steps.specs.Engine.{EngineMade, Did, runs, is_whole, begun, sections_of, voter_in, voter_past}
use Rattle.simplex_engine.specs.declared.input.Input.{Input}
use Rattle.simplex_engine.specs.declared.input.TakenInside.{TakenInside}
use Rattle.simplex_engine.specs.declared.error.PollError.{PollError}
use Rattle.simplex_engine.specs.Polled.{polled, refusal_of, taken_inside}
use Rattle.model_run.specs.Life.{Life, Stopped, Running, going_on, sections_in}
use Rattle.simplex_network.specs.declared.host.Host.{Host}
use Rattle.simplex_network.specs.declared.host.Host.TheVariants as hosts
use Rattle.simplex_transcript.specs.declared.setup.Setup.{Setup}
use Rattle.simplex_members.specs.declared.faulty_member.FaultyMember.{FaultyMember}
use Rattle.simplex_members.specs.NodeEngine.{NodeConfig, made_with}
use Rattle.simplex_network.specs.declared.status.Status.TheVariants as statuses
use Rattle.simplex_network.specs.NodeEngine.{NodeJournal, NodeEngine, EngineStands, JournalStands}
use Rattle.simplex_network.specs.Parts.{Part, Lives, Hears, goes_on, status_of, status_in, refusal_in, after_poll, IsPolled, after_start}
use Rattle.simplex_network.specs.Stands.{HostStands}

-- an engine that was polled, and was settled by how the poll ended
pub host-polled : (setup : Setup) (member : ℕ) (old new : NodeEngine) (host : Host) (input : Input) (now : ℕ) (stop : Stop) (outcome : Outcome)
    → ((made : EngineMade) (past : List Did) → EngineStands old made past → EngineStands new made (polled made past input now stop ∷ past))
    → ((made : EngineMade) (past : List Did) → EngineStands old made past → outcome ≡ (polled made past input now stop).outcome)
    → ((setup : Setup) (member : ℕ) (made : EngineMade) (past : List Did) → runs past ≡ is_whole outcome → HostStands setup member (hosts.Running new) (Lives (Running made past)) → HostStands setup member host (Lives (going_on made past)))
    → (life : Life) → HostStands setup member (hosts.Running old) (Lives life) → HostStands setup member host (Lives (after_poll input now stop life))
unfolding HostStands after_poll runs
host-polled setup member old new host input now stop outcome takes gives settles (Stopped sections) stand = absurd stand
host-polled setup member old new host input now stop outcome takes gives settles (Running made past) stand =
    settles setup member made (polled made past input now stop ∷ past) (ap (λ o. is_whole o) (sym (gives made past stand))) (takes made past stand)

pub host-gives : (setup : Setup) (member : ℕ) (engine : NodeEngine) (input : Input) (now : ℕ) (stop : Stop) (outcome : Outcome) (taken : Option TakenInside) (out : StepOut)
    → ((made : EngineMade) (past : List Did) → EngineStands engine made past → None ≡ refusal_of made past input)
    → ((made : EngineMade) (past : List Did) → EngineStands engine made past
    → (outcome ≡ (polled made past input now stop).outcome) × (taken ≡ taken_inside made past (polled made past input now stop)) × (out ≡ (polled made past input now stop).out))
    → (life : Life) → HostStands setup member (hosts.Running engine) (Lives life) → IsPolled life input now stop outcome taken out
unfolding HostStands IsPolled
host-gives setup member engine input now stop outcome taken out accepts gives (Stopped sections) stand = absurd stand
host-gives setup member engine input now stop outcome taken out accepts gives (Running made past) stand =
    let given = gives made past stand in (sym (accepts made past stand), given.0, given.1, given.2)

pub host-refuses : (setup : Setup) (member : ℕ) (engine : NodeEngine) (input : Input) (error : PollError)
    → ((made : EngineMade) (past : List Did) → EngineStands engine made past → Some error ≡ refusal_of made past input)
    → (life : Life) → HostStands setup member (hosts.Running engine) (Lives life) → refusal_in life input ≡ Some error
unfolding HostStands refusal_in
host-refuses setup member engine input error refuses (Stopped sections) stand = absurd stand
host-refuses setup member engine input error refuses (Running made past) stand = sym (refuses made past stand)

pub host-stays : (setup : Setup) (member : ℕ) (old new : NodeEngine) → ((made : EngineMade) (past : List Did) → EngineStands old made past → EngineStands new made past)
    → (part : Part) → HostStands setup member (hosts.Running old) part → HostStands setup member (hosts.Running new) part
unfolding HostStands
host-stays setup member old new stays (Lives (Stopped sections)) stand = absurd stand
host-stays setup member old new stays (Lives (Running made past)) stand = stays made past stand
host-stays setup member old new stays (Hears past) stand = absurd stand

pub host-views : (setup : Setup) (member : ℕ) (engine : NodeEngine) (view : ℕ)
    → ((made : EngineMade) (past : List Did) → EngineStands engine made past → runs past ≡ true
    → view ≡ current_of (voter_in made past).rules (place_of (voter_in made past) (voter_past past)).standing.desk.known)
    → (part : Part) → HostStands setup member (hosts.Running engine) part → goes_on part ≡ true → statuses.Running view ≡ status_in part
unfolding HostStands goes_on status_in status_of
host-views setup member engine view views (Lives (Stopped sections)) stand goes = absurd stand
host-views setup member engine view views (Lives (Running made past)) stand goes = ap (λ v. statuses.Running v) (views made past stand goes)
host-views setup member engine view views (Hears past) stand goes = absurd stand

pub stopped-views : (setup : Setup) (member : ℕ) (journal : NodeJournal) (part : Part) → HostStands setup member (hosts.Stopped journal) part → statuses.Stopped ≡ status_in part
unfolding HostStands status_in status_of
stopped-views setup member journal (Lives (Stopped sections)) stand = refl
stopped-views setup member journal (Lives (Running made past)) stand = absurd stand
stopped-views setup member journal (Hears past) stand = absurd stand

pub away-views : (setup : Setup) (member : ℕ) (part : Part) → HostStands setup member hosts.Away part → statuses.Stopped ≡ status_in part
unfolding HostStands status_in status_of
away-views setup member (Lives (Stopped sections)) stand = refl
away-views setup member (Lives (Running made past)) stand = absurd stand
away-views setup member (Hears past) stand = absurd stand

pub faulty-views : (setup : Setup) (member : ℕ) (faulty : FaultyMember) (part : Part) → HostStands setup member (hosts.Faulty faulty) part → statuses.Faulty ≡ status_in part
unfolding HostStands status_in
faulty-views setup member faulty (Lives (Stopped sections)) stand = absurd stand
faulty-views setup member faulty (Lives (Running made past)) stand = absurd stand
faulty-views setup member faulty (Hears past) stand = refl

-- an engine goes on, or is stopped, by how its last step ended
pub going-whole : (setup : Setup) (member : ℕ) (engine : NodeEngine) (made : EngineMade) (past : List Did) → runs past ≡ true → EngineStands engine made past
    → HostStands setup member (hosts.Running engine) (Lives (going_on made past))
unfolding HostStands
going-whole setup member engine made past whole stand = rw whole stand

pub going-broken : (setup : Setup) (member : ℕ) (journal : NodeJournal) (made : EngineMade) (past : List Did) → runs past ≡ false → JournalStands journal (sections_of made past)
    → HostStands setup member (hosts.Stopped journal) (Lives (going_on made past))
unfolding HostStands
going-broken setup member journal made past broken left = rw broken left

-- an engine that was started over a journal, and was settled by how the start ended
pub host-started : (setup : Setup) (member : ℕ) (config : NodeConfig) (sections : List Section) (old new : NodeEngine) (host : Host) (now : ℕ) (stop : Stop) (outcome : Outcome) (out : StepOut) (life : Life)
    → sections ≡ sections_in life
    → EngineStands old (made_with config sections) []
    → ((made : EngineMade) → EngineStands old made [] → EngineStands new made (begun made now stop ∷ []))
    → ((made : EngineMade) → EngineStands old made [] → (outcome ≡ (begun made now stop).outcome) × (out ≡ (begun made now stop).out))
    → ((setup : Setup) (member : ℕ) (made : EngineMade) (past : List Did) → runs past ≡ is_whole outcome → EngineStands new made past → HostStands setup member host (Lives (going_on made past)))
    → HostStands setup member host (Lives (after_start (made_with config (sections_in life)) now stop))
unfolding after_start runs
host-started setup member config sections old new host now stop outcome out life left stands starts gives settles =
    let made = made_with config (sections_in life) in
    let begins = rw left at stands in
    settles setup member made (begun made now stop ∷ []) (ap (λ o. is_whole o) (sym (gives made begins).0)) (starts made begins)
