-- Behind each entry of a log is an honest member's notarize.
use Rattle.std.proofs.Common.{◌≡◌, ℕ, Bool, List, [], ◌∷◌, map, reverse, length, Contains, refl, sym, ap, subst, inl, inr, arith, take_all}
use Rattle.simplex_values.specs.declared.proposal.Proposal.{Proposal}
use Rattle.simplex_types.specs.declared.activity.Activity.{Activity}
use Rattle.simplex_transcript.specs.declared.entry.Entry.{Entry}
use Rattle.simplex_transcript.specs.declared.node.Node.{Node}
use Rattle.model_run.specs.Setting.{Setting}
use Rattle.model_run.specs.Life.{Noted}
use Rattle.law_run.specs.Safe.{IsSafe}
use Rattle.model_log.specs.declared.entry.LogEntry.{LogEntry}
use Rattle.model_log.specs.Links.{proposals_of, links_of, finals_of}
use Rattle.model_log.specs.Walks.{walk}
use Rattle.model_log.specs.Log.{entry_for, tip_of, log_of}
use Rattle.model_log.proofs.Holding.{not_in_empty, there, here_or_there, links_are}
use Rattle.model_log.proofs.Walking.{Descends, whole_descends}
use Rattle.model_log.proofs.Chaining.{tip_is}
use Rattle.law_log.specs.Founded.{IsFounded}
use Rattle.law_log.specs.Logs.{verified_by, log_at}
use Rattle.law_log.specs.Reports.{entries_of, reported, AreReported}
use Rattle.law_log.proofs.Reporting.{all_named, reported_was, from_reverse}

from_map : {A B : Type 0} (g : A → B) (xs : List A) (y : B) → Contains (map g xs) y → (x : A) × Contains xs x × (y ≡ g x)
from_map g [] y k = absurd (not_in_empty y k)
from_map g (x ∷ xs) y k = elim (here_or_there (g x) (map g xs) y k) [
  | inl e ↦ (x, (0, omega arith, refl), sym e)
  | inr r ↦ let m = from_map g xs y r in (m.0, there x xs m.0 m.1, m.2)
]

-- ---- entries of a log

on_walk : (links : List Proposal) (view : ℕ) (ps : List Proposal) (q : Proposal) → Descends links view ps → Contains ps q → Contains links q
on_walk links view [] q d k = absurd (not_in_empty q k)
on_walk links view (p ∷ ps) q d k = elim (here_or_there p ps q k) [
  | inl e ↦ subst (Contains links) e d.1
  | inr r ↦ on_walk links p.parent ps q d.2 r
]

in_log : (verifies : Activity → Bool) (a : List Activity) (entry : LogEntry) → Contains (log_of verifies a) entry
    → (q : Proposal) × Contains (proposals_of verifies a) q × (entry ≡ entry_for q)
unfolding log_of
in_log verifies a entry k =
    let links = links_of verifies a in
    let ps = walk links (tip_of verifies a) in
    let m = from_map entry_for (reverse ps) entry k in
    let whole = whole_descends links (tip_of verifies a) (tip_is links (finals_of verifies a)).0 in
    (m.0, (links_are verifies a m.0 (on_walk links (tip_of verifies a) ps m.0 whole (from_reverse ps m.0 m.1))).0, m.2)

pub logged_founded : (setting : Setting) (noted : List Noted) (node : Node) (entry : LogEntry) → IsSafe setting noted
    → Contains (log_at setting.setup (entries_of noted) node) entry → IsFounded setting.setup noted entry
logged_founded setting noted node entry safe k =
    let xs = reported (entries_of noted) node in
    let m = in_log (verified_by setting.setup) xs entry k in
    let all : AreReported noted xs = subst (λ (es : List Entry). AreReported noted (reported es node)) (take_all (length (entries_of noted)) (entries_of noted) (omega arith)) (reported_was noted node (length (entries_of noted))) in
    let n = all_named setting.setup noted xs m.0 all m.1 in
    (m.0, m.2, safe.founded n.certificate m.0 n.stands n.subject)
