use Rattle.std.proofs.Common.{◌≡◌, ◌∙◌, ℕ, List, [], ◌∷◌, Option, None, ap, subst}
use Rattle.simplex_journal.specs.Journal.{Section, appended, synced_at}
use Rattle.simplex_disk.specs.Contents.{OnDisk, sections_kept, IsOf, Any}
use Rattle.simplex_disk.specs.Index.{LeavesJournal}
use Rattle.simplex_disk.specs.Memory.{Held, file_in, IsLeftBy}
use Rattle.simplex_disk.specs.Moments.{Always, Then}
use Rattle.simplex_disk.specs.Opening.{AreRead}
use Rattle.test_disk.proofs.Two.{no_sections, first_synced, second_appended, none_more}
use Rattle.test_disk.proofs.samples.two_records.Goals as goal

-- the sections of a journal on a disk in memory
abbrev kept : OnDisk Held → List Section
kept journal = sections_kept (λ disk. file_in disk.kept) journal

-- before the last append
one : (a : _) (opened first synced : OnDisk Held) (files : List (ℕ × List ℕ)) → files ≡ [] → AreRead (file_in files) (kept opened) → kept first ≡ appended 1 a (kept opened) → kept synced ≡ synced_at 1 (kept first)
    → kept synced ≡ record { number = 1; synced = a ∷ []; pending = [] } ∷ []
one a opened first synced files none read is now =
    let nothing : kept opened ≡ [] = no_sections (kept opened) (subst (λ (l : List (ℕ × List ℕ)). AreRead (file_in l) (kept opened)) none read) in
    now ∙ ap (λ (s : List Section). synced_at 1 s) (is ∙ ap (λ (s : List Section). appended 1 a s) nothing) ∙ first_synced a

pub returns-clause-sections : goal.returns-clause-sections
returns-clause-sections c =
    let before = one c.args.first.now c.in-Ok.journal c.append.new.self c.sync.new.self c.new-disk.result.kept (ap (λ (h : Held). h.kept) c.new-disk.ensures) c.in-Ok.ensures.ok.2 c.in_ok-append.ensures.ok c.in_ok-sync.ensures.ok in
    c.in_ok-append-2.ensures.ok ∙ ap (λ (s : List Section). appended 1 c.args.second.now s) before ∙ second_appended c.args.first.now c.args.second.now

pub returns-clause-met : goal.returns-clause-met
returns-clause-met c =
    let before = one c.args.first.now c.in-Ok.journal c.append.new.self c.sync.new.self c.new-disk.result.kept (ap (λ (h : Held). h.kept) c.new-disk.ensures) c.in-Ok.ensures.ok.2 c.in_ok-append.ensures.ok c.in_ok-sync.ensures.ok in
    let none = c.sync.ensures.leaving ∙ none_more c.in-Ok.journal.leaving c.append.new.self.leaving c.in-Ok.ensures.ok.0 c.in_ok-append.ensures.made in
    let settled = c.may_be_settled.ensures in
    let t0 = c.in-Ok.ensures.moments settled.0 settled.1 settled.2 in
    let t1 = c.append.ensures.moments t0.now t0.stands in
    let t2 = c.sync.ensures.moments t1.now t1.stands in
    let t3 = c.append-2.ensures.moments t2.now t2.stands in
    let now = c.append-2.new.self in (
      t2.now,
      subst (λ (s : List Section). Then (IsOf (λ disk. IsLeftBy disk.kept) now) (Always (LeavesJournal s None t2.now) t2.now) Any) before
          (subst (λ (l : Option ℕ). Then (IsOf (λ disk. IsLeftBy disk.kept) now) (Always (LeavesJournal (kept c.sync.new.self) l t2.now) t2.now) Any) none t3),
    )
