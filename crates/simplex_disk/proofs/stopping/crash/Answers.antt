use Rattle.std.proofs.Common.{◌∙◌, ◌<◌, ◌∷◌, ◌+◌, ℕ, Option, Some, None, ap, subst, sym, rules}
use Rattle.std.specs.Ordering.{nat_cmp}
use Rattle.std.specs.Map.{lookup}
use Rattle.std.specs.BTreeMap.{is_at}
use Rattle.simplex_disk.specs.Calls.{Settle}
use Rattle.simplex_disk.specs.Contents.{Any}
use Rattle.simplex_disk.specs.Index.{IsLeaving}
use Rattle.simplex_disk.specs.Stopping.{crashed_lists, IsNext}
use Rattle.simplex_disk.proofs.Moments.{untouched}
use Rattle.simplex_disk.proofs.Each.{done_none, done_more}
use Rattle.simplex_disk.proofs.Crashes.{content-settle, settled-settle, old_settle, IsIndexed-settle, crashed_all, left_of, smaller, small_of, some_value}
use Rattle.simplex_disk.proofs.Whole.{stays_of}
use Rattle.simplex_disk.proofs.stopping.crash.Goals as goal

pub loop-next-init : goal.loop-next-init
loop-next-init g c = record {
  stops = λ H st leaving indexed.
      let es = c.args.index.now.entries in
      record {
        now = Settle ∷ H;
        stands = c.settle.ensures.stands H st;
        held = tt;
        holds = (IsIndexed-settle es leaving H (g.met.D.Disk.stays c.args.disk.now H st) indexed, settled-settle H, (0, done_none (crashed_lists c.args.keep) H (Settle ∷ H) es (λ n. content-settle n H), c.first_section-next.ensures.next), λ n leaves. old_settle n H (g.met.D.Disk.stays c.args.disk.now H st n));
      };
  small = λ n is. small_of c.first_section-next.result c.first_section-next.ensures.small n is;
  faults = c.settle.ensures.faults;
  order = search rules;
}

pub crash_at-requires : goal.crash_at-requires
crash_at-requires g c =
    let r = c.requires in
    let t = c.loop-next.invariant.stops r.0 r.1 r.2.0 r.2.1 in
    (t.now, t.stands, (r.2.0, t.holds.0, t.holds.1))

pub loop-next-preserved : goal.loop-next-preserved
loop-next-preserved g c = record {
  stops = λ H st leaving indexed.
      let n = c.in-Some.number in
      let es = c.loop-next.index.entries in
      let t = c.loop-next.invariant.stops H st leaving indexed in
      let u = c.crash_at.ensures.stands t.now t.stands leaving t.holds.0 t.holds.1 in
      let nx : IsNext es t.holds.2.0 (Some n) = subst (λ (o : Option ℕ). IsNext es t.holds.2.0 o) c.in-Some.is t.holds.2.2 in
      let v = some_value (lookup (is_at (nat_cmp n)) es) nx.1 in
      let step = u.holds.2 v.0 v.1 in
      record {
        now = u.now;
        stands = u.stands;
        held = tt;
        holds = (
          u.holds.0,
          u.holds.1,
          (
            n + 1,
            done_more (crashed_lists c.args.keep) t.holds.2.0 n H t.now u.now c.args.index.now.entries es _ v.0 step.0 t.holds.2.1 nx.0 nx.2 v.1 step.1 (untouched n Any t.now u.now u.held) step.2,
            c.section_after-next.ensures.next,
          ),
          λ m leaves x now. t.holds.3 m leaves x
              ((untouched n Any t.now u.now u.held).left m (λ same. stays_of n es leaving t.now t.holds.0 v.0 v.1 (subst (λ (k : ℕ). IsLeaving leaving k) same leaves)) x now),
        );
      };
  small = λ n is. small_of c.section_after-next.result c.section_after-next.ensures.small n is;
  faults = c.crash_at.ensures.faults ∙ c.loop-next.invariant.faults;
  order = search rules;
}

pub loop-next-smaller : goal.loop-next-smaller
loop-next-smaller g c =
    let n = c.in-Some.number in
    subst (λ (k : ℕ). left_of c.section_after-next.result < k) (sym (ap left_of c.in-Some.is))
    (smaller c.crash_at.new.index.entries c.section_after-next.result n (c.loop-next.invariant.small n c.in-Some.is) c.section_after-next.ensures.next)

pub returns-clause-stands : goal.returns-clause-stands
returns-clause-stands g c = λ H st leaving indexed.
    let es = c.loop-next.index.entries in
    let t = c.loop-next.invariant.stops H st leaving indexed in
    let none : IsNext es t.holds.2.0 None = subst (λ (o : Option ℕ). IsNext es t.holds.2.0 o) c.in_default.is t.holds.2.2 in
    record {
      now = t.now;
      stands = t.stands;
      held = tt;
      holds = (t.holds.0, t.holds.1, crashed_all c.args.keep t.holds.2.0 H t.now c.args.index.now.entries es t.holds.2.1 none c.len-ordered.ensures.ordered, t.holds.3);
    }
