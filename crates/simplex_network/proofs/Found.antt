-- What is found of a node.
use Rattle.std.proofs.Common.{◌≡◌, ℕ, List, [], ◌∷◌, Bool, true, false, refl, ap, if◌then◌else◌}
use Rattle.std.specs.Prelude.{Option, Some, None, Result, Ok, Err}
use Rattle.model_rules.specs.Views.{current_of}
use Rattle.simplex_journal.specs.Journal.{Section}
use Rattle.simplex_transcript.specs.declared.event.Event.{Event}
use Rattle.simplex_transcript.specs.declared.event.Event.TheVariants as events
use Rattle.simplex_transcript.specs.declared.node.Node.{Node}
use Rattle.simplex_transcript.specs.declared.setup.Setup.{Setup}
use Rattle.simplex_transcript.specs.declared.refusal.RunError.{RunError}
use Rattle.simplex_transcript.specs.declared.refusal.RunError.TheVariants as refusals
use Rattle.model_steps.specs.VoterLife.{place_of}
use Rattle.model_steps.specs.Engine.{EngineMade, Did, runs, sections_of, voter_in, voter_past}
use Rattle.model_run.specs.Setting.{Setting}
use Rattle.model_run.specs.Kinds.{is_node, runs_engine}
use Rattle.model_run.specs.Life.{Noted, Life, Stopped, Running, is_of, after, going_on, went_on, life_in}
use Rattle.model_run.specs.Hearing.{heard_in}
use Rattle.simplex_network.specs.declared.status.Status.{Status}
use Rattle.simplex_network.specs.declared.status.Status.TheVariants as statuses
use Rattle.simplex_network.specs.Parts.{Part, Lives, Hears, part_in, goes_on, status_of, status_in, found_in}

-- ---- an engine that runs goes on

going_at : (made : EngineMade) (past : List Did) (b : Bool) → runs past ≡ b → goes_on (Lives (if b then Running made past else Stopped (sections_of made past))) ≡ true
unfolding goes_on
going_at made past true e = e
going_at made past false e = refl

going-goes : (made : EngineMade) (past : List Did) → goes_on (Lives (going_on made past)) ≡ true
going-goes made past = going_at made past (runs past) refl

went-goes : (did : Did) (life : Life) → goes_on (Lives (went_on did life)) ≡ true
unfolding goes_on
went-goes did (Stopped sections) = refl
went-goes did (Running made past) = going-goes made (did ∷ past)

after-goes : (setting : Setting) (event : Event) (did : Option Did) (life : Life) → goes_on (Lives life) ≡ true → goes_on (Lives (after setting event did life)) ≡ true
unfolding after goes_on
after-goes setting (events.Start node floor stop) (Some did) life goes = going-goes _ (did ∷ [])
after-goes setting (events.Start node floor stop) None life goes = goes
after-goes setting (events.Tick ms) (Some did) life goes = went-goes did life
after-goes setting (events.Tick ms) None life goes = goes
after-goes setting (events.Deliver node at) (Some did) life goes = went-goes did life
after-goes setting (events.Deliver node at) None life goes = goes
after-goes setting (events.Step node source stop) (Some did) life goes = went-goes did life
after-goes setting (events.Step node source stop) None life goes = goes
after-goes setting (events.Answer node at answer) (Some did) life goes = went-goes did life
after-goes setting (events.Answer node at answer) None life goes = goes
after-goes setting (events.Crash node) (Some did) life goes = refl
after-goes setting (events.Crash node) None life goes = refl
after-goes setting (events.Inject member channel to bytes) (Some did) life goes = went-goes did life
after-goes setting (events.Inject member channel to bytes) None life goes = goes

goes_if : (b : Bool) (changed life : Life) → goes_on (Lives changed) ≡ true → goes_on (Lives life) ≡ true → goes_on (Lives (if b then changed else life)) ≡ true
goes_if true changed life c l = c
goes_if false changed life c l = l

life-goes : (setting : Setting) (before : List Noted) (node : Node) → goes_on (Lives (life_in setting before node)) ≡ true
unfolding life_in goes_on
life-goes setting [] node = refl
life-goes setting (noted ∷ before) node =
    goes_if (is_of node noted.event) (after setting noted.event noted.did (life_in setting before node)) (life_in setting before node)
    (after-goes setting noted.event noted.did (life_in setting before node) (life-goes setting before node)) (life-goes setting before node)

pub part-goes : (setting : Setting) (before : List Noted) (node : Node) → goes_on (part_in setting before node) ≡ true
unfolding part_in goes_on
part-goes setting before node = by (runs_engine setting.setup node.member)
  where
    by : (b : Bool) → goes_on (if b then Lives (life_in setting before node) else Hears (heard_in before node)) ≡ true
    by true = life-goes setting before node
    by false = refl

-- ---- what a node is at

pub record AtStopped (setting : Setting) (before : List Noted) (node : Node) : Type 0 where
  pub exists : is_node setting.setup node ≡ true
  pub engine : runs_engine setting.setup node.member ≡ true
  pub sections : List Section
  pub life : life_in setting before node ≡ Stopped sections

pub record AtRunning (setting : Setting) (before : List Noted) (node : Node) (view : ℕ) : Type 0 where
  pub exists : is_node setting.setup node ≡ true
  pub engine : runs_engine setting.setup node.member ≡ true
  pub made : EngineMade
  pub past : List Did
  pub life : life_in setting before node ≡ Running made past
  pub goes : runs past ≡ true
  pub current : view ≡ current_of (voter_in made past).rules (place_of (voter_in made past) (voter_past past)).standing.desk.known

pub record AtFaulty (setup : Setup) (node : Node) : Type 0 where
  pub exists : is_node setup node ≡ true
  pub engine : runs_engine setup node.member ≡ false

stopped_by : (setting : Setting) (before : List Noted) (node : Node) (b : Bool) → is_node setting.setup node ≡ b → (c : Bool) → runs_engine setting.setup node.member ≡ c
    → (life : Life) → life_in setting before node ≡ life
    → Ok statuses.Stopped ≡ (if b then Ok (status_in (if c then Lives life else Hears (heard_in before node))) else Err refusals.NoMember) → AtStopped setting before node
unfolding status_in status_of
stopped_by setting before node true e true f (Stopped sections) g is = record { exists = e; engine = f; sections = sections; life = g }
stopped_by setting before node true e true f (Running made past) g is = absurd (cc)
stopped_by setting before node true e false f life g is = absurd (cc)
stopped_by setting before node false e c f life g is = absurd (cc)

pub found-stopped : (setting : Setting) (before : List Noted) (node : Node) → Ok statuses.Stopped ≡ found_in setting.setup node (part_in setting before node) → AtStopped setting before node
unfolding found_in part_in
found-stopped setting before node is =
    stopped_by setting before node (is_node setting.setup node) refl (runs_engine setting.setup node.member) refl (life_in setting before node) refl is

running_is : (view other : ℕ) → ◌≡◌ {A = Result Status RunError} (Ok (statuses.Running view)) (Ok (statuses.Running other)) → view ≡ other
running_is view other e = cc

running_by : (setting : Setting) (before : List Noted) (node : Node) (view : ℕ) (b : Bool) → is_node setting.setup node ≡ b → (c : Bool) → runs_engine setting.setup node.member ≡ c
    → (life : Life) → life_in setting before node ≡ life → goes_on (Lives life) ≡ true
    → Ok (statuses.Running view) ≡ (if b then Ok (status_in (if c then Lives life else Hears (heard_in before node))) else Err refusals.NoMember) → AtRunning setting before node view
unfolding status_in status_of goes_on
running_by setting before node view true e true f (Stopped sections) g goes is = absurd (cc)
running_by setting before node view true e true f (Running made past) g goes is =
    record { exists = e; engine = f; made = made; past = past; life = g; goes = goes; current = running_is view _ is }
running_by setting before node view true e false f life g goes is = absurd (cc)
running_by setting before node view false e c f life g goes is = absurd (cc)

pub found-running : (setting : Setting) (before : List Noted) (node : Node) (view : ℕ) → Ok (statuses.Running view) ≡ found_in setting.setup node (part_in setting before node)
    → AtRunning setting before node view
unfolding found_in part_in
found-running setting before node view is =
    running_by setting before node view (is_node setting.setup node) refl (runs_engine setting.setup node.member) refl (life_in setting before node) refl (life-goes setting before node) is

faulty_by : (setup : Setup) (before : List Noted) (node : Node) (b : Bool) → is_node setup node ≡ b → (c : Bool) → runs_engine setup node.member ≡ c → (life : Life)
    → Ok statuses.Faulty ≡ (if b then Ok (status_in (if c then Lives life else Hears (heard_in before node))) else Err refusals.NoMember) → AtFaulty setup node
unfolding status_in status_of
faulty_by setup before node true e true f (Stopped sections) is = absurd (cc)
faulty_by setup before node true e true f (Running made past) is = absurd (cc)
faulty_by setup before node true e false f life is = record { exists = e; engine = f }
faulty_by setup before node false e c f life is = absurd (cc)

pub found-faulty : (setting : Setting) (before : List Noted) (node : Node) → Ok statuses.Faulty ≡ found_in setting.setup node (part_in setting before node) → AtFaulty setting.setup node
unfolding found_in part_in
found-faulty setting before node is = faulty_by setting.setup before node (is_node setting.setup node) refl (runs_engine setting.setup node.member) refl (life_in setting before node) is

missing_by : (b : Bool) (status : Status) (error : RunError) → Err error ≡ (if b then Ok status else Err refusals.NoMember) → (b ≡ false) × (error ≡ refusals.NoMember)
missing_by true status error is = absurd (cc)
missing_by false status error is = (refl, cc)

-- where none is found, there is no such node
pub found-none : (setting : Setting) (before : List Noted) (node : Node) (error : RunError) → Err error ≡ found_in setting.setup node (part_in setting before node)
    → (is_node setting.setup node ≡ false) × (error ≡ refusals.NoMember)
unfolding found_in
found-none setting before node error is = missing_by (is_node setting.setup node) (status_in (part_in setting before node)) error is

pub found-is : (setup : Setup) (node : Node) (part : Part) (status : Status) → is_node setup node ≡ true → status ≡ status_in part → Ok status ≡ found_in setup node part
unfolding found_in
found-is setup node part status e is = rw e (ap (λ x. Ok x) is)

pub found-not : (setup : Setup) (node : Node) (part : Part) → is_node setup node ≡ false → Err refusals.NoMember ≡ found_in setup node part
unfolding found_in
found-not setup node part e = rw e refl
