-- What waits to be verified.
use Rattle.std.specs.Prelude.{◌&&◌, not, Bool, true, List}
use Rattle.std.specs.Option.{is_none, is_some}
use Rattle.model_rules.specs.declared.request.Verify.{Verify}
use Rattle.model_rules.specs.declared.request.Verify.TheVariants.{Ready}
use Rattle.model_rules.specs.Known.{Fact, view_of}
use Rattle.model_rules.specs.Requests.{verify_asked}
use Rattle.simplex_state.specs.declared.rounds.RoundRecord.{RoundRecord}
use Rattle.simplex_state.specs.Rounds.{slot_in, own_slot_in}

-- a slot of another's that waits to be verified, but for an own nullify
unfoldable pub wants_in : RoundRecord → Bool
wants_in r =
    is_some (slot_in r) && not (own_slot_in r) && is_none r.asked
    && is_none r.voted && is_none r.notarized && is_none r.finalized

-- a request that gives no proposal to verify a second time
abbrev pub is_unasked : List Fact → Verify → Bool
is_unasked known (Ready context proposal) = is_none (verify_asked known (view_of proposal))
is_unasked known _ = true
