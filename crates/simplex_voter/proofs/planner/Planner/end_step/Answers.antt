use Rattle.model_steps.specs.Voter.{end_of_step}
use Rattle.simplex_voter.proofs.planner.Planner.end_step.Goals as goal

pub returns : goal.returns
unfolding end_of_step
returns g c = λ made answers doing s.
    let voted = c.in_ok-notarize.ensures.stands made answers doing s in
    let final = c.in_ok-finalize.ensures.stands made answers _ voted in
    let opened = c.in_ok-open_requests.ensures made answers _ final in
    let synced = c.in_ok-sync.ensures made answers _ opened in
    let judged = c.in_ok-publish_verdict.ensures made answers _ synced in
    let nullified = c.in_ok-publish_nullify.ensures made answers _ judged in
    let sent = c.in_ok-publish_notarize.ensures made answers _ nullified in
    let notarized = c.in_ok-publish_notarization.ensures made answers _ sent in
    let given_up = c.in_ok-publish_nullification.ensures made answers _ notarized in
    let sent_final = c.in_ok-publish_finalize.ensures made answers _ given_up in
    let finalized = c.in_ok-publish_finalization.ensures made answers _ sent_final in
    let updated = c.in_ok-update_batcher.ensures made answers _ finalized in
    rw (c.in_ok-notarize.ensures.vote made answers doing s, c.in_ok-finalize.ensures.vote made answers _ voted) at updated
