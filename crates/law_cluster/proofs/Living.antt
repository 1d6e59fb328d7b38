-- All lives of a member are one life of an honest member.
use Rattle.std.proofs.Common.{◌≡◌, ℕ, Bool, true, false, List, [], ◌∷◌, ◌++◌, Contains, refl, sym, ap, ◌∙◌, subst, inl, inr, append-nil, if◌then◌else◌}
use Rattle.std.specs.List.Sorted.{IsStrictlySortedBy}
use Rattle.simplex_types.specs.declared.floor.Floor.{Floor}
use Rattle.simplex_types.specs.declared.floor.Floor.TheVariants as floors
use Rattle.simplex_journal.specs.Journal.{Section, replayed, crashed}
use Rattle.simplex_journal.specs.Contents.{numbers}
use Rattle.simplex_journal.proofs.Contents.{crashed-rested}
use Rattle.simplex_messages.specs.declared.handed.Handed.{Handed}
use Rattle.model_rules.specs.Known.{Made}
use Rattle.model_steps.specs.Engine.{EngineMade, Did, voter_in, started_at, sections_of, runs}
use Rattle.model_run.specs.Life as ran
use Rattle.model_run.specs.Life.{going_on}
use Rattle.law_agreement.specs.Journal as kept
use Rattle.law_agreement.specs.World as agreement
use Rattle.law_agreement.specs.Member as life
use Rattle.law_agreement.specs.Member.{Member, happens, newborn, run}
use Rattle.law_agreement.proofs.ListFacts.{not_in_empty, Contains-here, Contains-there}
use Rattle.law_member.specs.Life.{floor_statement, journal_of, IsFloor, IsStopped}
use Rattle.law_member.proofs.Floors.{crash_lived}
use Rattle.law_member.proofs.LifeStarting.{none_sent}
use Rattle.law_run.proofs.Events.{place_in}
use Rattle.law_run.proofs.Further.{at_rest}
use Rattle.law_cluster.specs.Lives.{Group, Life, IsFloorOf, IsEngineOf, IsLife, AreLives, IsHistory, left_by}
use Rattle.law_cluster.specs.Signatures.{calls_in, calls_of}
use Rattle.law_cluster.proofs.Further.{IsAt, IsStoppedIn, stopped_in, Further, go}
use Rattle.law_cluster.proofs.Turns.{Keeps, taken_further, begin_further}

-- what is handed on in a life, and in all of them, in order
abbrev pub handed_in : List Did → List Handed
handed_in [] = []
handed_in (did ∷ past) = handed_in past ++ did.out.handed

abbrev pub handed_of : List Life → List Handed
handed_of [] = []
handed_of (life ∷ before) = handed_of before ++ handed_in life.past

-- the floor of a life
abbrev pub floor_in : Life → List agreement.Certificate
floor_in l = floor_statement (voter_in l.made l.past).floor

-- ---- a life

module _ (term epoch : ℕ) (floors : List agreement.Certificate) (made : EngineMade) (keeps : Keeps term epoch made) where
  -- the member where the engine may start
  pub record MayStart (m : Member) : Type 0 where
    pub floor : (now : ℕ) → IsFloor (made.voter now).floor
    pub stopped : (now : ℕ) → IsStoppedIn epoch (made.voter now).sections m

  runs_at : (past : List Did) (m : Member) → runs past ≡ true → IsAt epoch (going_on made past) m → IsAt epoch (ran.Running made past) m
  runs_at past m e a = subst (λ (b : Bool). IsAt epoch (if b then ran.Running made past else ran.Stopped (sections_of made past)) m) e a

  stops_at : (past : List Did) (m : Member) → runs past ≡ false → IsAt epoch (going_on made past) m → IsStoppedIn epoch (sections_of made past) m
  stops_at past m e a = subst (λ (b : Bool). IsAt epoch (if b then ran.Running made past else ran.Stopped (sections_of made past)) m) e a

  history_lives : (past : List Did) → IsHistory made past → (m : Member) → MayStart m → ((now : ℕ) (c : agreement.Certificate) → Contains (floor_statement (made.voter now).floor) c → Contains floors c)
      → Further term epoch floors (calls_in past) (handed_in past) (going_on made past) m
  unfolding IsHistory calls_in
  history_lives [] h m may among = absurd h
  history_lives (did ∷ past) h m may among = elim h [
    | inl s ↦ subst (λ xs. Further term epoch floors (calls_in (did ∷ xs)) (handed_in (did ∷ xs)) (going_on made (did ∷ xs)) m) (sym s.0)
        (begin_further term epoch floors made keeps did m s.1 may.floor among may.stopped)
    | inr g ↦ (let f = history_lives past g.1 m may among in
        let on = g.0 in
        go term epoch floors (calls_in past) did.out.calls (handed_in past) did.out.handed (going_on made past) (going_on made (did ∷ past)) m f
        (taken_further term epoch floors made keeps past (run m f.calls) (runs_at past (run m f.calls) on.running f.at) did on))
  ]

  -- a crash after the last item, or what a stop left
  ended : (past : List Did) (keep : ℕ) (m : Member) (f : Further term epoch floors (calls_in past) (handed_in past) (going_on made past) m)
      → Further term epoch floors (calls_in past) (handed_in past) (ran.Stopped (crashed keep (sections_of made past))) m
  unfolding sections_of
  ended past keep m f = at (runs past) refl
    where
      crash : runs past ≡ true → Further term epoch floors [] [] (ran.Stopped (crashed keep (sections_of made past))) (run m f.calls)
      crash e =
          let place = place_in made past in
          let v = voter_in made past in
          let a = runs_at past (run m f.calls) e f.at in
          record {
            calls = life.Crash (λ view. keep) ∷ [];
            sent = [];
            legal = (tt, tt);
            brought = λ c k. absurd (not_in_empty c k);
            sends = sym (append-nil (run m f.calls).sent);
            votes = none_sent [] tt;
            at = stopped_in epoch v.rules (crashed keep place.sections) (happens (run m f.calls) (life.Crash (λ view. keep))) (keeps.epochs (started_at past))
                (crash_lived v.rules keep place.standing.desk.known place.sections (run m f.calls) a);
            constructed = tt;
            own = λ s k. absurd (not_in_empty s k);
          }

      rested : runs past ≡ false → IsStoppedIn epoch (crashed keep (sections_of made past)) (run m f.calls)
      rested e =
          let stopped = stops_at past (run m f.calls) e f.at in
          let js = sections_of made past in
          let s = stopped (made.voter 0).rules (keeps.epochs 0) in
          subst (λ x. IsStoppedIn epoch x (run m f.calls)) (sym (crashed-rested keep js (at_rest js (ap kept.waiting (sym s.journal) ∙ s.stored)))) stopped

      at : (b : Bool) → runs past ≡ b → Further term epoch floors (calls_in past) (handed_in past) (ran.Stopped (crashed keep (sections_of made past))) m
      at true e =
          subst (λ cs. Further term epoch floors cs (handed_in past) (ran.Stopped (crashed keep (sections_of made past))) m) (append-nil (calls_in past))
          (subst (λ hs. Further term epoch floors (calls_in past ++ []) hs (ran.Stopped (crashed keep (sections_of made past))) m) (append-nil (handed_in past))
          (go term epoch floors (calls_in past) [] (handed_in past) [] (going_on made past) (ran.Stopped (crashed keep (sections_of made past))) m f (crash e)))
      at false e =
          record {
            calls = f.calls;
            sent = f.sent;
            legal = f.legal;
            brought = f.brought;
            sends = f.sends;
            votes = f.votes;
            at = rested e;
            constructed = f.constructed;
            own = f.own;
          }

-- ---- all lives

floor_above : (group : Group) (floor : Floor) → IsFloorOf group floor → IsFloor floor
floor_above group (floors.Genesis payload) f = tt
floor_above group (floors.Finalized c) f = f.0

pub keeps_of : (group : Group) (member : ℕ) (js : List Section) (made : EngineMade) → IsEngineOf group member js made → Keeps group.term group.epoch made
keeps_of group member js made e = record { terms = λ now. (let r = e.rules now in r.term); epochs = λ now. (let r = e.rules now in r.epoch) }

life_lives : (group : Group) (member : ℕ) (list : List agreement.Certificate) (js : List Section) (l : Life) (m : Member) → IsLife group member js l
    → ((c : agreement.Certificate) → Contains (floor_in l) c → Contains list c) → IsStoppedIn group.epoch js m
    → Further group.term group.epoch list (calls_in l.past) (handed_in l.past) (ran.Stopped l.left) m
life_lives group member list js l m is among stopped =
    let e = is.engine in
    let keeps = keeps_of group member js l.made e in
    let may : MayStart group.term group.epoch list l.made keeps m = record {
      floor = λ now. subst IsFloor (sym (e.stands now)) (floor_above group e.floor e.sound);
      stopped = λ now. subst (λ x. IsStoppedIn group.epoch x m) (sym (e.journal now)) stopped;
    } in
    let f = history_lives group.term group.epoch list l.made keeps l.past is.history m may
    (λ now c k. among c (subst (λ x. Contains (floor_statement x) c) (e.stands now ∙ sym (e.stands (started_at l.past))) k)) in
    subst (λ x. Further group.term group.epoch list (calls_in l.past) (handed_in l.past) (ran.Stopped x) m) (sym is.left)
    (ended group.term group.epoch list l.made keeps l.past is.keep m f)

fresh : (rules : Made) → IsStopped rules [] newborn
unfolding journal_of numbers IsStrictlySortedBy replayed
fresh rules = record { up = refl; blank = refl; journal = refl; stored = refl; rising = tt; own = λ v c. absurd (not_in_empty _ c) }

pub lives_lived : (group : Group) (member : ℕ) (list : List agreement.Certificate) (lives : List Life) → AreLives group member lives
    → ((l : Life) → Contains lives l → (c : agreement.Certificate) → Contains (floor_in l) c → Contains list c)
    → Further group.term group.epoch list (calls_of lives) (handed_of lives) (ran.Stopped (left_by lives)) newborn
unfolding AreLives calls_of
lives_lived group member list [] are among =
    record {
      calls = [];
      sent = [];
      legal = tt;
      brought = λ c k. absurd (not_in_empty c k);
      sends = refl;
      votes = none_sent [] tt;
      at = λ rules e. fresh rules;
      constructed = tt;
      own = λ s k. absurd (not_in_empty s k);
    }
lives_lived group member list (l ∷ before) are among =
    let f = lives_lived group member list before are.1 (λ x k. among x (Contains-there l before x k)) in
    let m = run newborn f.calls in
    go group.term group.epoch list (calls_of before) (calls_in l.past) (handed_of before) (handed_in l.past) (ran.Stopped (left_by before)) (ran.Stopped l.left) newborn f
    (life_lives group member list (left_by before) l m are.0 (among l (Contains-here l before)) f.at)
