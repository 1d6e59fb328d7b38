use Rattle.std.proofs.Common.{true, refl, ap, ◌∙◌, []}
use Rattle.std.specs.Prelude.{filter_map, map}
use Rattle.std.proofs.lemmas.Result.{IfOk-weaker}
use Rattle.simplex_wire.specs.Message as format
use Rattle.model_audit.specs.Running.{is_done}
use Rattle.model_audit.specs.VotesDue.{are_those, vote_bytes}
use Rattle.simplex_judge.proofs.Following.{starts-on, not-whole, is-whole}
use Rattle.simplex_judge.proofs.follower.Follower.start.Goals as goal

pub returns-then-not-is_done : goal.returns-then-not-is_done
returns-then-not-is_done c =
    starts-on c.args.self.now (record { scheme = c.args.self.now.scheme; reader = c.take_start.new.self }) c.args.floor.now c.args.stop c.args.entry.now true refl c.in_ok-take_start.ensures
    (not-whole (is_done c.args.entry.now.outcome) c.is_done.result (are_those [] (filter_map vote_bytes c.args.entry.now.packets)) c.is_done.ensures c.if-not-is_done.true)

pub returns : goal.returns
returns c =
    IfOk-weaker c.sends.result _ _
    (λ sent is. starts-on c.args.self.now (record { scheme = c.args.self.now.scheme; reader = c.take_start.new.self }) c.args.floor.now c.args.stop c.args.entry.now sent refl
    c.in_ok-take_start.ensures
    (is-whole (is_done c.args.entry.now.outcome) c.is_done.result (are_those [] (filter_map vote_bytes c.args.entry.now.packets)) sent c.is_done.ensures c.if-not-is_done.false
    (is ∙ ap (λ votes. are_those (map format.vote.spelling votes) (filter_map vote_bytes c.as_slice.result.now)) c.nothing_due.ensures
    ∙ ap (λ packets. are_those [] (filter_map vote_bytes packets)) c.as_slice.ensures)))
    c.sends.ensures
