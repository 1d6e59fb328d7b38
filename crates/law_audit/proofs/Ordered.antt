-- In the record of a run an honest member's votes were stored before they were sent.
use Rattle.std.proofs.Common.{◌≡◌, ℕ, ◌<◌, ◌==◌, ◌&&◌, ◌||◌, nat_lt, Bool, true, false, List, [], ◌∷◌, ◌++◌, map, Contains, Option, Some, None, Result, Ok, Err, refl, sym, ap, ◌∙◌, subst, inl, inr, ◌⊎◌, append-nil, arith, if◌then◌else◌}
use Rattle.std.specs.List.{filter_map, cons_option, list_any, list_all}
use Rattle.std.specs.Str.{bytes_eq}
use Rattle.std.proofs.lemmas.List.{append_assoc, map-append}
use Rattle.std.proofs.lemmas.List.Elements.{filter_map-append}
use Rattle.std.proofs.lemmas.Slice.Eq.{bytes_eq-Decides}
use Rattle.simplex_values.specs.declared.plan.Channel.TheVariants as channels
use Rattle.simplex_values.specs.declared.proposal.Subject.{Subject}
use Rattle.simplex_values.specs.declared.proposal.Subject.TheVariants as subjects
use Rattle.simplex_wire.specs.declared.artifact.Artifact.{Artifact}
use Rattle.simplex_wire.specs.declared.artifact.Artifact.TheVariants as artifacts
use Rattle.simplex_wire.specs.declared.attestation.Attestation.{Attestation}
use Rattle.simplex_wire.specs.declared.error.DecodeError.{DecodeError}
use Rattle.simplex_wire.specs.declared.vote.Nullify.{Nullify}
use Rattle.simplex_wire.specs.declared.vote.Vote.{Vote}
use Rattle.simplex_wire.specs.declared.vote.Vote.TheVariants as votes
use Rattle.simplex_wire.specs.Fields.{artifact_round}
use Rattle.simplex_wire.specs.Fits.{IsBytes, FitsVote}
use Rattle.simplex_wire.specs.Format.{whole}
use Rattle.simplex_wire.specs.Message as format
use Rattle.simplex_wire.proofs.Formats.{whole_takes}
use Rattle.simplex_wire.proofs.Messages.{vote_is}
use Rattle.simplex_types.specs.declared.activity.Activity.{Activity}
use Rattle.simplex_types.specs.declared.activity.Activity.TheVariants as activities
use Rattle.simplex_journal.specs.Journal.{Section}
use Rattle.simplex_journal.specs.Contents.{kept}
use Rattle.simplex_messages.specs.declared.call.Call.{Call}
use Rattle.simplex_messages.specs.declared.call.Call.TheVariants as calls
use Rattle.simplex_transcript.specs.declared.event.Event.{Event}
use Rattle.simplex_transcript.specs.declared.event.Event.TheVariants as events
use Rattle.simplex_transcript.specs.declared.node.Node.{Node}
use Rattle.simplex_transcript.specs.declared.setup.Setup.{Setup}
use Rattle.model_rules.specs.Known.{Made}
use Rattle.model_steps.specs.Engine as engine
use Rattle.model_steps.specs.Engine.{EngineMade, Did}
use Rattle.model_run.specs.Setting.{Setting}
use Rattle.model_run.specs.Kinds.{members_of, is_node, is_honest, runs_engine, is_same_node, node_of}
use Rattle.model_run.specs.Members.{rules_of, floor_of, engine_of}
use Rattle.model_run.specs.Life.{Noted, Life, Stopped, Running, clock_of, is_of, sections_in, life_in}
use Rattle.model_run.specs.Entries.{packets_of, noted_packets, made_of, entry_of}
use Rattle.model_run.proofs.Honest.{was_made}
use Rattle.law_agreement.proofs.ListFacts.{not_in_empty, Contains-cons_cases}
use Rattle.law_member.specs.Storing.{record_of_vote, IsStored, IsRepeated, IsSigned, IsOwn, AreStoredFirst}
use Rattle.simplex_transcript.specs.declared.refusal.RunError.TheVariants as refusals
use Rattle.law_member.specs.VoterVotes.{is_nullify}
use Rattle.law_run.specs.Complete.{node_named}
use Rattle.law_run.specs.Fitting.{IsOfBytes, IsTyped}
use Rattle.law_run.specs.Histories.{IsRun, AreFloors, IsHeld, AreStored}
use Rattle.law_run.specs.Sayings.{Each}
use Rattle.law_run.proofs.AskedEvents.{entry_event}
use Rattle.law_run.proofs.Further.{same_self}
use Rattle.law_run.proofs.Nodes.{node_lives}
use Rattle.law_run.proofs.Speaking.{Each-append}
use Rattle.law_run.proofs.Telling.{some_is}
use Rattle.law_requests.specs.Turns.{IsTurnOf}
use Rattle.law_requests.proofs.Turning.{entry_turns}
use Rattle.model_audit.specs.Record.{call_of, record_entry}
use Rattle.model_audit.specs.Rebuilt.{call_for, rebuilt_entry, recorded}
use Rattle.model_audit.specs.Reading.{read}
use Rattle.model_audit.specs.Order.{is_record_of, is_sync_of, is_stored, is_again, may_send, may_call, are_in_order}
use Rattle.model_audit.specs.Audit.{if_honest, stores_first}
use Rattle.law_audit.specs.Recording.{IsReadAs}
use Rattle.law_audit.proofs.Journals.{told}
use Rattle.law_audit.proofs.Signed.{IsSignedRecord, AreSigned}
use Rattle.law_audit.proofs.Holding.{holds}
use Rattle.law_audit.proofs.Tracked.{tracks}
use Rattle.law_audit.proofs.Voted.{honest_runs, honest_listed}

-- ---- lists

contained : {A : Type 0} (P : A → Type 0) (xs : List A) (x : A) → Each P xs → Contains xs x → P x
contained P [] x h k = absurd (not_in_empty x k)
contained P (y ∷ ys) x h k = elim (Contains-cons_cases y ys x k) [ inl e ↦ subst P e h.0 | inr r ↦ contained P ys x h.1 r ]

any_contained : {A : Type 0} (test : A → Bool) (xs : List A) (x : A) → Contains xs x → test x ≡ true → list_any test xs ≡ true
any_contained test [] x k e = absurd (not_in_empty x k)
any_contained test (y ∷ ys) x k e = elim (Contains-cons_cases y ys x k) [
  | inl same ↦ ap (λ b. b || list_any test ys) (ap test same ∙ e)
  | inr r ↦ ap (λ b. test y || b) (any_contained test ys x r e) ∙ either (test y)
]
  where
    either : (b : Bool) → (b || true) ≡ true
    either true = refl
    either false = refl

or_either : (b : Bool) → (b || true) ≡ true
or_either true = refl
or_either false = refl

self_bytes : (xs : List ℕ) → bytes_eq xs xs ≡ true
self_bytes xs = (bytes_eq-Decides xs xs).1 refl

told-append : (xs ys : List Call) → told (xs ++ ys) ≡ told xs ++ told ys
told-append xs ys = ap (filter_map call_for) (map-append call_of xs ys) ∙ filter_map-append call_for (map call_of xs) (map call_of ys)

-- ---- a record that was stored is found

stored_behind : (v : Vote) (xs ys : List Call) → is_stored v ys ≡ true → is_stored v (xs ++ ys) ≡ true
unfolding is_stored
stored_behind v [] ys h = h
stored_behind v (calls.Append section a ∷ xs) ys h =
    ap (λ b. (is_record_of v a && list_any (is_sync_of section) (xs ++ ys)) || b) (stored_behind v xs ys h) ∙ or_either (is_record_of v a && list_any (is_sync_of section) (xs ++ ys))
stored_behind v (calls.Sync section ∷ xs) ys h = stored_behind v xs ys h
stored_behind v (calls.Prune least ∷ xs) ys h = stored_behind v xs ys h
stored_behind v (calls.Send channel to bytes ∷ xs) ys h = stored_behind v xs ys h
stored_behind v (calls.Report a ∷ xs) ys h = stored_behind v xs ys h
stored_behind v (calls.Relay payload plan ∷ xs) ys h = stored_behind v xs ys h
stored_behind v (calls.Block who why ∷ xs) ys h = stored_behind v xs ys h

sync_there : (section : ℕ) (xs ys : List Call) → list_any (is_sync_of section) (xs ++ calls.Sync section ∷ ys) ≡ true
sync_there section [] ys = ap (λ b. b || list_any (is_sync_of section) ys) (same section)
  where
    same : (n : ℕ) → (n == n) ≡ true
    same n = grind arith
sync_there section (x ∷ xs) ys = ap (λ b. is_sync_of section x || b) (sync_there section xs ys) ∙ or_either (is_sync_of section x)

stored_here : (v : Vote) (section : ℕ) (a : Artifact) (rest : List Call) → is_record_of v a ≡ true → list_any (is_sync_of section) rest ≡ true → is_stored v (calls.Append section a ∷ rest) ≡ true
unfolding is_stored
stored_here v section a rest p q = rw (p, q) refl

own_record : (v w : Vote) → format.vote.spelling w ≡ format.vote.spelling v → is_record_of w (record_of_vote v) ≡ true
own_record (votes.Notarize m) w e = ap (λ bytes. bytes_eq bytes (format.vote.spelling (votes.Notarize m))) e ∙ self_bytes (format.vote.spelling (votes.Notarize m))
own_record (votes.Nullify m) w e = ap (λ bytes. bytes_eq bytes (format.vote.spelling (votes.Nullify m))) e ∙ self_bytes (format.vote.spelling (votes.Nullify m))
own_record (votes.Finalize m) w e = ap (λ bytes. bytes_eq bytes (format.vote.spelling (votes.Finalize m))) e ∙ self_bytes (format.vote.spelling (votes.Finalize m))

stored_told : (v w : Vote) (pre : List Call) → format.vote.spelling w ≡ format.vote.spelling v → IsStored (record_of_vote v) pre → is_stored w (told pre) ≡ true
stored_told v w pre e s =
    let a = record_of_vote v in
    let n = (artifact_round a).view in
    let rest = s.between ++ (calls.Sync n ∷ s.behind) in
    let split : told pre ≡ told s.before ++ (calls.Append n a ∷ told rest) = ap told s.place ∙ told-append s.before (calls.Append n a ∷ rest) in
    let synced : list_any (is_sync_of n) (told rest) ≡ true = ap (list_any (is_sync_of n)) (told-append s.between (calls.Sync n ∷ s.behind)) ∙ sync_there n (told s.between) (told s.behind) in
    ap (is_stored w) split ∙ stored_behind w (told s.before) (calls.Append n a ∷ told rest) (stored_here w n a (told rest) (own_record v w e) synced)

-- ---- a nullify again

still_nullify : (w : Vote) (n : Nullify) → format.vote.spelling w ≡ format.vote.spelling (votes.Nullify n) → is_nullify w ≡ true
unfolding format.vote
still_nullify (votes.Notarize m) n e = cc
still_nullify (votes.Nullify m) n e = refl
still_nullify (votes.Finalize m) n e = cc

same_nullify : (w n : Nullify) → w.round ≡ n.round → w.attestation ≡ n.attestation → w ≡ n
same_nullify w n e f =
    ap (λ r. let x : Nullify = record { round = r; attestation = w.attestation } in x) e ∙ ap (λ a. let x : Nullify = record { round = n.round; attestation = a } in x) f

kept_signed : (signs : Subject → Option Attestation) (js : List Section) → AreSigned signs js → Each (IsSignedRecord signs) (kept js)
unfolding kept
kept_signed signs [] h = tt
kept_signed signs (s ∷ rest) h = Each-append (IsSignedRecord signs) s.synced (kept rest) h.0.0 (kept_signed signs rest h.1)

again_held : (signs : Subject → Option Attestation) (js : List Section) (n : Nullify) (w : Vote) → AreSigned signs js → signs (subjects.Nullify n.round) ≡ Some n.attestation
    → format.vote.spelling w ≡ format.vote.spelling (votes.Nullify n) → IsHeld js n → is_again (kept js) w ≡ true
again_held signs js n w signed own e held =
    let is : signs (subjects.Nullify held.0.round) ≡ Some held.0.attestation = contained (IsSignedRecord signs) (kept js) (artifacts.Nullify held.0) (kept_signed signs js signed) held.2 in
    let same : held.0 ≡ n = same_nullify held.0 n held.1 (some_is held.0.attestation n.attestation (sym is ∙ ap (λ r. signs (subjects.Nullify r)) held.1 ∙ own)) in
    let there : Contains (kept js) (artifacts.Nullify n) = subst (λ (x : Nullify). Contains (kept js) (artifacts.Nullify x)) same held.2 in
    ap (λ b. b && list_any (is_record_of w) (kept js)) (still_nullify w n e) ∙ any_contained (is_record_of w) (kept js) (artifacts.Nullify n) there (own_record (votes.Nullify n) w e)

-- ---- the calls of an entry

-- what goes out on the vote channel is bytes
abbrev pub SendsBytes : Call → Type 0
SendsBytes (calls.Send channels.Vote to bytes) = IsBytes bytes
SendsBytes _ = Unit {0}

module _ (made : Made) (js : List Section) (signed : AreSigned made.signs js) where
  abbrev First : List Call → Type 0
  First cs = AreStoredFirst (IsHeld js) (IsOwn made) cs

  vote_may : (pre rest : List Call) (to : _) (bytes : List ℕ) → First (pre ++ calls.Send channels.Vote to bytes ∷ rest) → IsBytes bytes → may_send (kept js) (told pre) (whole format.vote bytes) ≡ true
  vote_may pre rest to bytes h b = at (whole format.vote bytes) refl
    where
      at : (r : Result Vote DecodeError) → whole format.vote bytes ≡ r → may_send (kept js) (told pre) r ≡ true
      at (Err error) e = refl
      at (Ok w) e =
          let x = h pre rest to bytes refl in
          let same : format.vote.spelling w ≡ format.vote.spelling x.0 = sym (whole_takes format.vote FitsVote vote_is bytes w b e).0 ∙ x.1 in
          elim x.2 [
            | inl s ↦ ap (λ b. b || is_again (kept js) w) (stored_told x.0 w pre same s)
            | inr again ↦ repeated x.0 w same again x.3.0
          ]
        where
          repeated : (v w : Vote) → format.vote.spelling w ≡ format.vote.spelling v → IsRepeated (IsHeld js) v → IsSigned made v → (is_stored w (told pre) || is_again (kept js) w) ≡ true
          repeated (votes.Notarize v) w s again own = absurd again
          repeated (votes.Nullify v) w s again own = ap (λ b. is_stored w (told pre) || b) (again_held made.signs js v w signed own s again) ∙ or_either (is_stored w (told pre))
          repeated (votes.Finalize v) w s again own = absurd again

  report_may : (pre : List Call) (a : Activity) (x : Call) → call_for (call_of (calls.Report a)) ≡ Some x → may_call (kept js) (told pre) x ≡ true
  report_may pre (activities.Notarize v) x e = cc
  report_may pre (activities.Notarization c) x e = subst (λ (y : Call). may_call (kept js) (told pre) y ≡ true) (some_is _ x e) refl
  report_may pre (activities.Certification c) x e = subst (λ (y : Call). may_call (kept js) (told pre) y ≡ true) (some_is _ x e) refl
  report_may pre (activities.Nullify v) x e = cc
  report_may pre (activities.Nullification c) x e = subst (λ (y : Call). may_call (kept js) (told pre) y ≡ true) (some_is _ x e) refl
  report_may pre (activities.Finalize v) x e = cc
  report_may pre (activities.Finalization c) x e = subst (λ (y : Call). may_call (kept js) (told pre) y ≡ true) (some_is _ x e) refl
  report_may pre (activities.ConflictingNotarize v) x e = cc
  report_may pre (activities.ConflictingFinalize v) x e = cc
  report_may pre (activities.NullifyFinalize v) x e = cc

  -- one call more
  one_more : (pre rest : List Call) (c : Call) (o : Option Call) → call_for (call_of c) ≡ o → ((x : Call) → o ≡ Some x → may_call (kept js) (told pre) x ≡ true)
      → are_in_order (kept js) (told (pre ++ c ∷ [])) (told rest) ≡ true → are_in_order (kept js) (told pre) (cons_option o (told rest)) ≡ true
  unfolding are_in_order
  one_more pre rest c None e may next =
      subst (λ (p : List Call). are_in_order (kept js) p (told rest) ≡ true) (told-append pre (c ∷ []) ∙ ap (λ o. told pre ++ cons_option o []) e ∙ append-nil (told pre)) next
  one_more pre rest c (Some x) e may next =
      ap (λ b. b && are_in_order (kept js) (told pre ++ x ∷ []) (told rest)) (may x refl)
      ∙ subst (λ (p : List Call). are_in_order (kept js) p (told rest) ≡ true) (told-append pre (c ∷ []) ∙ ap (λ o. told pre ++ cons_option o []) e) next

  may_any : (pre rest : List Call) (c : Call) → First (pre ++ c ∷ rest) → SendsBytes c → (x : Call) → call_for (call_of c) ≡ Some x → may_call (kept js) (told pre) x ≡ true
  may_any pre rest (calls.Append section a) h b x e = subst (λ (y : Call). may_call (kept js) (told pre) y ≡ true) (some_is _ x e) refl
  may_any pre rest (calls.Sync section) h b x e = subst (λ (y : Call). may_call (kept js) (told pre) y ≡ true) (some_is _ x e) refl
  may_any pre rest (calls.Prune least) h b x e = subst (λ (y : Call). may_call (kept js) (told pre) y ≡ true) (some_is _ x e) refl
  may_any pre rest (calls.Send channels.Vote to bytes) h b x e = subst (λ (y : Call). may_call (kept js) (told pre) y ≡ true) (some_is _ x e) (vote_may pre rest to bytes h b)
  may_any pre rest (calls.Send channels.Certificate to bytes) h b x e = subst (λ (y : Call). may_call (kept js) (told pre) y ≡ true) (some_is _ x e) refl
  may_any pre rest (calls.Send channels.Resolver to bytes) h b x e = subst (λ (y : Call). may_call (kept js) (told pre) y ≡ true) (some_is _ x e) refl
  may_any pre rest (calls.Report a) h b x e = report_may pre a x e
  may_any pre rest (calls.Relay payload plan) h b x e = cc
  may_any pre rest (calls.Block who why) h b x e = cc

  in_order : (pre rest : List Call) → First (pre ++ rest) → Each SendsBytes rest → are_in_order (kept js) (told pre) (told rest) ≡ true
  unfolding are_in_order
  in_order pre [] h b = refl
  in_order pre (c ∷ rest) h b =
      one_more pre rest c (call_for (call_of c)) refl (may_any pre rest c h b.0) (in_order (pre ++ c ∷ []) rest (subst First (sym (append_assoc pre (c ∷ []) rest)) h) b.1)

-- ---- bytes of packets are those of the calls

sent_bytes : (setup : Setup) (node : Node) (cs : List Call) → Each IsOfBytes (packets_of setup node cs) → Each SendsBytes cs
sent_bytes setup node [] h = tt
sent_bytes setup node (calls.Send channels.Vote to bytes ∷ cs) h = (h.0, sent_bytes setup node cs h.1)
sent_bytes setup node (calls.Send channels.Certificate to bytes ∷ cs) h = (tt, sent_bytes setup node cs h.1)
sent_bytes setup node (calls.Send channels.Resolver to bytes ∷ cs) h = (tt, sent_bytes setup node cs h.1)
sent_bytes setup node (calls.Append section a ∷ cs) h = (tt, sent_bytes setup node cs h)
sent_bytes setup node (calls.Sync section ∷ cs) h = (tt, sent_bytes setup node cs h)
sent_bytes setup node (calls.Prune least ∷ cs) h = (tt, sent_bytes setup node cs h)
sent_bytes setup node (calls.Report a ∷ cs) h = (tt, sent_bytes setup node cs h)
sent_bytes setup node (calls.Relay payload plan ∷ cs) h = (tt, sent_bytes setup node cs h)
sent_bytes setup node (calls.Block who why ∷ cs) h = (tt, sent_bytes setup node cs h)

-- ---- the events of one honest node

module _ (setting : Setting) (node : Node) (honest : is_honest setting.setup node.member ≡ true) (before : List Noted) (pos : 0 < setting.setup.term) (ran : IsRun setting before) (floors : AreFloors before) where
  good : runs_engine setting.setup node.member ≡ true
  good = honest_runs setting.setup node.member honest

  -- what is read of its journal
  sections_read : (read setting (map recorded before) node).sections ≡ sections_in (life_in setting before node)
  sections_read = at (life_in setting before node) (tracks setting node pos good before ran floors)
    where
      at : (l : Life) → IsReadAs setting node l (read setting (map recorded before) node) → (read setting (map recorded before) node).sections ≡ sections_in l
      at (Stopped js) h = h
      at (Running made past) h = h.sections

  abbrev Bytes : Noted → Type 0
  Bytes noted = Each IsOfBytes noted.entry.packets → Each SendsBytes noted.entry.calls

  turned_bytes : (noted : Noted) → IsTurnOf setting before node noted → is_of node noted.event ≡ true → Bytes noted
  turned_bytes noted t of = elim t [
    | inl e ↦ absurd (both (sym of ∙ e))
    | inr a ↦ elim a [
      | inl s ↦ subst Bytes s.is (sent_bytes setting.setup node (engine.begun (engine_of setting node.member (floor_of setting.genesis s.floor) s.sections) (clock_of before) s.stop).out.calls)
      | inr b ↦ elim b [
        | inl h ↦ subst Bytes h.is (sent_bytes setting.setup node (engine.heard h.made h.past h.packet.from.member h.packet.channel h.packet.bytes (clock_of before)).out.calls)
        | inr c ↦ elim c [
          | inl p ↦ subst Bytes p.is (sent_bytes setting.setup node (engine.stepped p.made p.past p.source (clock_of before) p.stop).out.calls)
          | inr d ↦ elim d [
            | inl w ↦ subst Bytes w.is (sent_bytes setting.setup node (engine.replied w.number w.answer (clock_of before)).out.calls)
            | inr z ↦ subst Bytes z.is (λ h. tt)
          ]
        ]
      ]
    ]
  ]
    where
      both : true ≡ false → ⊥
      both h = cc

  stored_of : (noted : Noted) → is_of node noted.event ≡ true → AreStored setting node (noted ∷ before) → Each SendsBytes noted.entry.calls
      → stores_first setting (map recorded before) (rebuilt_entry (record_entry noted.entry)) node ≡ true
  unfolding AreStored rebuilt_entry record_entry
  stored_of noted of stored bytes =
      let js = sections_in (life_in setting before node) in
      ap (λ (xs : List Section). are_in_order (kept xs) [] (told noted.entry.calls)) sections_read
      ∙ in_order (rules_of setting node.member 0) js (holds setting node good before ran).0 [] noted.entry.calls (stored.0 of) bytes

-- bytes are injected for faulty members alone
inject_faulty : (setting : Setting) (before : List Noted) (who : ℕ) (channel : _) (to : List Node) (bytes : List ℕ) (noted : Noted) → made_of setting before (events.Inject who channel to bytes) ≡ Ok noted → is_honest setting.setup who ≡ true → ⊥
unfolding made_of
inject_faulty setting before who channel to bytes noted e honest = at (nat_lt who (members_of setting.setup) && list_all (is_node setting.setup) to) (is_honest setting.setup who) honest e
  where
    at : (b h : Bool) → h ≡ true
        → (if b then (if h then Err refusals.NotFaulty else Ok (noted_packets before (events.Inject who channel to bytes) (node_of who) None (record { from = node_of who; channel = channel; to = to; bytes = bytes } ∷ []))) else Err refusals.NoMember) ≡ Ok noted → ⊥
    at true true h k = cc
    at true false h k = cc
    at false h f k = cc

-- the event is of the node that it names, unless bytes are injected
named_of : (event : Event) (node : Node) → node_named event ≡ Some node → (is_of node event ≡ true) ⊎ ((who : ℕ) × (node_of who ≡ node) × ((setting : Setting) (before : List Noted) (noted : Noted) → made_of setting before event ≡ Ok noted → is_honest setting.setup who ≡ true → ⊥))
named_of (events.Start at floor stop) node e = inl (ap (λ (x : Node). is_same_node x node) (some_is at node e) ∙ same_self node)
named_of (events.Tick ms) node e = cc
named_of (events.Deliver at ref) node e = inl (ap (λ (x : Node). is_same_node x node) (some_is at node e) ∙ same_self node)
named_of (events.Step at source stop) node e = inl (ap (λ (x : Node). is_same_node x node) (some_is at node e) ∙ same_self node)
named_of (events.Answer at ref answer) node e = inl (ap (λ (x : Node). is_same_node x node) (some_is at node e) ∙ same_self node)
named_of (events.Crash at) node e = inl (ap (λ (x : Node). is_same_node x node) (some_is at node e) ∙ same_self node)
named_of (events.Inject who channel to bytes) node e = inr (who, some_is (node_of who) node e, λ setting before noted m h. inject_faulty setting before who channel to bytes noted m h)

pub votes_stored : (setting : Setting) (before : List Noted) (event : Event) (noted : Noted) → 0 < setting.setup.term → IsRun setting before → AreFloors (noted ∷ before) → IsTyped noted.entry → entry_of setting before event ≡ Ok noted
    → if_honest setting (node_named event) (stores_first setting (map recorded before) (rebuilt_entry (record_entry noted.entry))) ≡ true
unfolding AreFloors IsRun
votes_stored setting before event noted pos ran floors typed e = named (node_named event) refl
  where
    node_stores : (node : Node) → node_named event ≡ Some node → is_honest setting.setup node.member ≡ true → stores_first setting (map recorded before) (rebuilt_entry (record_entry noted.entry)) node ≡ true
    node_stores node n honest = elim (named_of event node n) [
      | inl of ↦
          (let there : is_of node noted.event ≡ true = ap (is_of node) (entry_event setting before event noted e) ∙ of in
          let lived = node_lives setting (noted ∷ before) node pos (honest_listed setting.setup node.member honest) (event, e, ran) floors in
          let turn = entry_turns setting before node (honest_runs setting.setup node.member honest) event noted e in
          stored_of setting node honest before pos ran floors.1 noted there lived.stored (turned_bytes setting node honest before pos ran floors.1 noted turn there typed.bytes))
      | inr other ↦ absurd (other.2 setting before noted (was_made setting before event noted e) (subst (λ (x : Node). is_honest setting.setup x.member ≡ true) (sym other.1) honest))
    ]

    named : (o : Option Node) → node_named event ≡ o → if_honest setting o (stores_first setting (map recorded before) (rebuilt_entry (record_entry noted.entry))) ≡ true
    named None n = refl
    named (Some node) n = tested (is_honest setting.setup node.member) refl
      where
        tested : (b : Bool) → is_honest setting.setup node.member ≡ b → (if b then stores_first setting (map recorded before) (rebuilt_entry (record_entry noted.entry)) node else true) ≡ true
        tested true honest = node_stores node n honest
        tested false honest = refl
