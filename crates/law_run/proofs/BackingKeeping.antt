-- A node of an honest member keeps the invariant, since the life that it lives does.
use Rattle.std.proofs.Common.{◌≡◌, ℕ, ◌<◌, ◌++◌, true, List, [], ◌∷◌, map, Contains, refl, sym, ap, ◌∙◌, subst, inl, inr, arith}
use Rattle.std.proofs.lemmas.List.{map-append}
use Rattle.simplex_values.specs.declared.proposal.Proposal.{Proposal}
use Rattle.simplex_values.specs.declared.proposal.Subject.{Subject}
use Rattle.simplex_values.specs.declared.proposal.Subject.TheVariants as subjects
use Rattle.simplex_wire.specs.declared.artifact.Artifact.{Artifact}
use Rattle.simplex_wire.specs.declared.vote.Vote.{Vote}
use Rattle.simplex_wire.specs.Fields.{vote_subject}
use Rattle.model_rules.specs.Known.{Fact}
use Rattle.model_rules.specs.Views.{last_finalized}
use Rattle.simplex_journal.specs.Journal.{Section}
use Rattle.simplex_journal.specs.Contents as journal
use Rattle.model_steps.specs.VoterLife.{place_of}
use Rattle.model_steps.specs.Engine.{voter_in, voter_past, sections_of}
use Rattle.model_run.specs.Setting.{Setting}
use Rattle.model_run.specs.Life.{Noted, Life, Stopped, Running, life_in, sections_in}
use Rattle.model_run.specs.Members.{members_of}
use Rattle.model_run.specs.Entries.{node_of}
use Rattle.law_agreement.specs.Artifacts as member
use Rattle.law_agreement.specs.Artifacts.{subject_view, artifact_view, finalized_view}
use Rattle.law_agreement.specs.Invariant as lives
use Rattle.law_agreement.specs.Invariant.{floor_from}
use Rattle.law_agreement.specs.Journal as kept
use Rattle.law_agreement.specs.Member.{Member, newborn, run}
use Rattle.law_agreement.proofs.Keeping.{lives_keep}
use Rattle.law_member.specs.Life.{memory_of, remembered, section_of, journal_of}
use Rattle.law_member.proofs.Remembering.{final_is}
use Rattle.law_member.specs.Evidence.{subjects_of}
use Rattle.law_run.specs.Faulty.{faulty_of}
use Rattle.law_run.specs.Histories.{IsAt}
use Rattle.law_run.proofs.Nodes.{node_lives}
use Rattle.law_run.specs.Keeping.{HasRecord, IsOutrun, IsGrounded, AreKept, IsAware, IfRuns, KeepsInvariant}
use Rattle.law_run.specs.MostlyHonest.{IsMostlyHonest}
use Rattle.law_run.specs.Voting.{sent_votes}
use Rattle.law_run.proofs.Floored.{run_above}
use Rattle.law_run.proofs.Listing.{life_sent}
use Rattle.law_run.proofs.BackingNaming.{in_map, from_map}
use Rattle.law_run.proofs.Worlds.{fit_life, floors_hold}

-- ---- a journal, and the member's

kept_map : (sections : List Section) → kept.kept (journal_of sections) ≡ map memory_of (journal.kept sections)
unfolding journal_of journal.kept
kept_map [] = refl
kept_map (s ∷ rest) = ap (λ xs. map memory_of s.synced ++ xs) (kept_map rest) ∙ sym (map-append memory_of s.synced (journal.kept rest))

-- where an image splits, so does the list
record Split {A B : Type 0} (f : A → B) (xs : List A) (before : List B) (y : B) : Type 0 where
  pub first : List A
  pub item : A
  pub rest : List A
  pub whole : xs ≡ first ++ item ∷ rest
  pub front : map f first ≡ before
  pub is : f item ≡ y

one_more : {A : Type 0} (x : A) (xs ys : List A) → xs ≡ ys → ◌≡◌ {A = List A} (x ∷ xs) (x ∷ ys)
one_more x xs ys e = ap (λ zs. x ∷ zs) e

split : {A B : Type 0} (f : A → B) (xs : List A) (before : List B) (y : B) (behind : List B) → map f xs ≡ before ++ y ∷ behind → Split f xs before y
split f [] [] y behind e = cc
split f [] (b ∷ before) y behind e = cc
split f (x ∷ xs) [] y behind e = record { first = []; item = x; rest = xs; whole = refl; front = refl; is = cc }
split f (x ∷ xs) (b ∷ before) y behind e =
    let head : f x ≡ b = cc in
    let tail : map f xs ≡ before ++ y ∷ behind = cc in
    let s = split f xs before y behind tail in
    record { first = x ∷ s.first; item = s.item; rest = s.rest; whole = one_more x xs (s.first ++ s.item ∷ s.rest) s.whole; front = cc (head, s.front); is = s.is }

-- ---- what the member's journal has, the node's has

module _ (sections : List Section) (m : Member) (same : m.journal ≡ journal_of sections) where
  in_kept : (x : member.Artifact) → Contains (kept.kept m.journal) x → HasRecord (journal.kept sections) x
  in_kept x k = from_map memory_of (journal.kept sections) x (subst (λ xs. Contains xs x) (ap kept.kept same ∙ kept_map sections) k)

  kept_in : (a : Artifact) → Contains (journal.kept sections) a → Contains (kept.kept m.journal) (memory_of a)
  kept_in a k = subst (λ xs. Contains xs (memory_of a)) (sym (ap kept.kept same ∙ kept_map sections)) (in_map memory_of (journal.kept sections) a k)

  outrun : (view : ℕ) → lives.IsOutrun (kept.kept m.journal) view → IsOutrun (journal.kept sections) view
  outrun view o = let r = in_kept o.0 o.1 in (r.0, r.1, omega (arith, o.2, ap finalized_view r.2))

  grounded : (p : Proposal) → lives.IsGrounded m.journal p → IsGrounded sections p
  unfolding journal_of
  grounded p g =
      let s = from_map section_of sections g.section (subst (λ js. Contains js g.section) same g.here) in
      let inside = g.grounded in
      let records : map memory_of s.0.synced ≡ inside.before ++ member.Own (subjects.Finalize p) ∷ inside.behind = ap (λ (x : kept.Section). x.synced) s.2 ∙ inside.place in
      let parts = split memory_of s.0.synced inside.before (member.Own (subjects.Finalize p)) inside.behind records in
      let has : (x : member.Artifact) → Contains inside.before x → HasRecord parts.first x = λ x k. from_map memory_of parts.first x (subst (λ xs. Contains xs x) (sym parts.front) k) in
      record {
        section = s.0;
        here = s.1;
        view = ap (λ (x : kept.Section). x.view) s.2 ∙ g.view;
        before = parts.first;
        own = parts.item;
        behind = parts.rest;
        place = parts.whole;
        is = parts.is;
        notarized = (inside.notarized.0, has _ inside.notarized.1);
        judged = has _ inside.judged;
      }

  are_kept : (floor : ℕ) (sent : List Vote) → subjects_of m.sent ≡ map vote_subject sent → lives.KeepsInvariant floor m → AreKept sections sent
  are_kept floor sent votes inv =
      let has : (v : Vote) → Contains sent v → lives.HasSent m (vote_subject v) = λ v k. subst (λ (xs : List Subject). Contains xs (vote_subject v)) (sym votes) (in_map vote_subject sent v k) in
      record {
        stands = λ v k. elim (inv.stands (vote_subject v) (has v k)) [ inl st ↦ inl (in_kept _ st) | inr o ↦ inr (outrun _ o) ];
        grounded = λ v p k e. elim (inv.grounded p (subst (lives.HasSent m) e (has v k))) [ inl g ↦ inl (grounded p g) | inr o ↦ inr (outrun _ o) ];
      }

  is_aware : (floor : ℕ) (known : List Fact) → m.up ≡ true → kept.waiting m.journal ≡ [] → m.known ≡ remembered known → lives.KeepsInvariant floor m → IsAware sections known
  is_aware floor known up none memory inv =
      let last : member.last_finalized m.known ≡ last_finalized known = ap member.last_finalized memory ∙ final_is known in
      record {
        finals = λ a k. omega (arith, inv.finals up (memory_of a) (kept_in a k), last);
        seen = λ a k lt. subst (λ xs. Contains xs (memory_of a)) memory (inv.seen up (memory_of a) (kept_in a k) (omega (arith, lt, last)));
        final = λ pos. (let b = inv.final up none (omega (arith, pos, last)) in
            let r = in_kept b.0 b.1 in
            (r.0, r.1, ap finalized_view r.2 ∙ b.2 ∙ last));
      }

-- ---- the law

keeps_at : (setting : Setting) (member : ℕ) (l : Life) (m : Member) (floor : ℕ) (sent : List Vote) → subjects_of m.sent ≡ map vote_subject sent → IsAt setting (node_of member) l m → lives.KeepsInvariant floor m
    → AreKept (sections_in l) sent × IfRuns IsAware l
unfolding IsAt sections_of
keeps_at setting member (Stopped sections) m floor sent votes a inv = (are_kept sections m a.journal floor sent votes inv, tt)
keeps_at setting member (Running made past) m floor sent votes a inv =
    let r = a.1 in
    let place = place_of (voter_in made past) (voter_past past) in
    (are_kept place.sections m r.journal floor sent votes inv, is_aware place.sections m r.journal floor place.standing.desk.known r.up r.stored r.memory inv)

pub run_keeps : (setting : Setting) (noted : List Noted) (member : ℕ) → IsMostlyHonest setting noted → member < members_of setting.setup → ¬ (Contains (faulty_of setting.setup) member) → KeepsInvariant setting noted member
run_keeps setting noted member o below honest =
    let node = node_of member in
    let f = fit_life setting noted node o.epoch o.typed (node_lives setting noted node o.term honest o.ran (floors_hold setting noted o)) in
    let lived = f.lived in
    let both = keeps_at setting member (life_in setting noted node) (run newborn lived.calls) (floor_from 0 lived.calls) (sent_votes noted member) (life_sent setting noted member o below honest f) lived.at
    (lives_keep setting.setup.term lived.calls o.term lived.legal) in
    record { sent = both.0; aware = both.1; above = run_above setting noted node honest o.ran }
