use Rattle.std.proofs.Common.{◌≡◌, ◌∙◌, ap, false}
use Rattle.model_resolver.specs.Fetcher.{retrying, is_done}
use Rattle.simplex_fetch.proofs.Taken.{blocked_waits, blocked_views, blocked_ids, judged_open}
use Rattle.simplex_fetch.proofs.fetcher.Fetcher.judge.Goals as goal

pub retry-requires-clause-absent : goal.retry-requires-clause-absent
retry-requires-clause-absent c =
    let same = ap (λ f. f.views) c.in_ok-block_judged.ensures.fetcher ∙ blocked_views c.args.verdict.now c.args.entry.state c.args.self.now in
    rw same c.requires.absent

pub retry-requires-clause-sound : goal.retry-requires-clause-sound
retry-requires-clause-sound c =
    let same = ap (λ f. f.next_id) c.in_ok-block_judged.ensures.fetcher ∙ blocked_ids c.args.verdict.now c.args.entry.state c.args.self.now in
    rw same c.requires.sound

pub returns-clause-fetcher : goal.returns-clause-fetcher
returns-clause-fetcher c =
    let waits = blocked_waits c.args.verdict.now c.args.now c.args.view c.args.entry c.args.self.now in
    let after = ap (retrying c.args.now c.args.view c.args.entry) c.in_ok-block_judged.ensures.fetcher ∙ waits in
    let kept : is_done c.args.verdict.now ≡ false = cc in
    let is = judged_open c.args.verdict.now c.args.now c.args.view c.args.entry c.args.self.now kept in
    rw (is, ← after) c.retry.ensures
