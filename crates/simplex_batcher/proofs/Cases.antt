-- What the rules of a step come to in each case.
use Rattle.simplex_types.specs.declared.cause.BlockCause.TheVariants.{InvalidCertificate, WrongEpoch}
use Rattle.std.proofs.Common.{◌≡◌, ℕ, ◌==◌, nat_le, Bool, true, false, ◌&&◌, refl, ◌++◌, ◌∷◌, [], Some, arith}
use Rattle.std.proofs.lemmas.Grind.{common_steps}
use Rattle.simplex_values.specs.declared.policy.SkipBudget.{SkipBudget}
use Rattle.simplex_values.specs.declared.policy.ForwardPolicy.TheVariants.{SilentLeader}
use Rattle.simplex_values.specs.declared.proposal.Proposal.{Proposal}
use Rattle.simplex_values.specs.declared.policy.SkipPolicy.TheVariants as skip
use Rattle.simplex_values.specs.declared.timeout.TimeoutReason.TheVariants.{Inactivity}
use Rattle.simplex_wire.specs.declared.vote.Vote.{Vote}
use Rattle.simplex_wire.specs.declared.certificate.Certificate.{Certificate}
use Rattle.simplex_wire.specs.Certified.{is_certified}
use Rattle.simplex_wire.specs.Fields.{certificate_subject, certificate_signatures}
use Rattle.simplex_round.specs.Acceptance.{heard_from}
use Rattle.simplex_round.specs.Forwarding.{is_missing_voter}
use Rattle.model_steps.specs.Batcher.{Made, Doing, leader_nullified, hinted_at_update, hinted_at_vote, hinting_nullify, hinting, has_skipping, is_me, is_active, required_active, retains_view, admits_view, vote_view, vote_epoch, certificate_view, certificate_epoch, took_vote, took_constructed, took_certificate, kept_certificate, holds_kind, and_blocked, known_in, round_for, worked, RoundHistory, forwarding, relayed, targets_of, heard_vote, heard_certificate, seen_now}
use Rattle.simplex_batcher.specs.Working.{heard_at, own_heard_at, forwarded_at, worked_near, decoded_vote, decoded_certificate}

-- ---- hints

-- the leader gave the view up
pub update-nullified : (made : Made) (doing : Doing) (leader now timeout : ℕ) (budget : SkipBudget)
    → made.skip ≡ skip.Enabled timeout budget → leader_nullified doing.standing ≡ true
    → hinted_at_update made made.skip leader now doing ≡ hinting_nullify made doing
unfolding hinted_at_update
update-nullified made doing leader now timeout budget is so = rw (is, so) refl

-- this member leads
pub update-own : (made : Made) (doing : Doing) (leader now timeout : ℕ) (budget : SkipBudget)
    → made.skip ≡ skip.Enabled timeout budget → leader_nullified doing.standing ≡ false → is_me made leader ≡ true
    → hinted_at_update made made.skip leader now doing ≡ doing
unfolding hinted_at_update
update-own made doing leader now timeout budget is isnt me = rw (is, isnt, me) refl

-- the leader is active
pub update-active : (made : Made) (doing : Doing) (leader now timeout : ℕ) (budget : SkipBudget)
    → made.skip ≡ skip.Enabled timeout budget → leader_nullified doing.standing ≡ false
    → is_me made leader ≡ false → is_active made doing.standing leader timeout now ≡ true
    → hinted_at_update made made.skip leader now doing ≡ doing
unfolding hinted_at_update is_active required_active
update-active made doing leader now timeout budget is isnt other active = rw (is, isnt, other, active) refl

-- the leader seems to be gone
pub update-inactive : (made : Made) (doing : Doing) (leader now timeout : ℕ) (budget : SkipBudget)
    → made.skip ≡ skip.Enabled timeout budget → leader_nullified doing.standing ≡ false
    → is_me made leader ≡ false → is_active made doing.standing leader timeout now ≡ false
    → hinted_at_update made made.skip leader now doing ≡ hinting made Inactivity doing
unfolding hinted_at_update is_active required_active
update-inactive made doing leader now timeout budget is isnt other gone = rw (is, isnt, other, gone) refl

-- the vote shows that the leader gave the view up
pub vote-nullified : (made : Made) (doing : Doing) (accepted : Bool)
    → accepted ≡ true → has_skipping made.skip ≡ true → doing.standing.hinted ≡ false → leader_nullified doing.standing ≡ true
    → hinted_at_vote made accepted doing ≡ hinting_nullify made doing
unfolding hinted_at_vote
vote-nullified made doing accepted so skips first nullified = grind (arith, common_steps)

-- ---- votes

pub vote-outside : (made : Made) (doing : Doing) (sender : ℕ) (vote : Vote)
    → (retains_view made doing.standing (vote_view vote) && admits_view made doing.standing (vote_view vote)) ≡ false → took_vote made sender vote doing ≡ doing
unfolding took_vote
vote-outside made doing sender vote out = rw out refl

pub vote-inside : (made : Made) (doing : Doing) (sender : ℕ) (vote : Vote)
    → (retains_view made doing.standing (vote_view vote) && admits_view made doing.standing (vote_view vote)) ≡ true
    → took_vote made sender vote doing ≡ hinted_at_vote made (heard_from (known_in (round_for made doing.standing (vote_view vote))) sender vote).accepted (heard_at made sender vote doing)
unfolding took_vote heard_at
vote-inside made doing sender vote inside = rw inside refl

pub constructed-outside : (made : Made) (doing : Doing) (vote : Vote) → retains_view made doing.standing (vote_view vote) ≡ false → took_constructed made vote doing ≡ doing
unfolding took_constructed
constructed-outside made doing vote out = rw out refl

pub constructed-inside : (made : Made) (doing : Doing) (vote : Vote) → retains_view made doing.standing (vote_view vote) ≡ true → took_constructed made vote doing ≡ own_heard_at made vote doing
unfolding took_constructed own_heard_at
constructed-inside made doing vote inside = rw inside refl

-- ---- certificates

pub certificate-outside : (made : Made) (doing : Doing) (sender : ℕ) (certificate : Certificate)
    → retains_view made doing.standing (certificate_view certificate) ≡ false → took_certificate made sender certificate doing ≡ doing
unfolding took_certificate
certificate-outside made doing sender certificate out = rw out refl

pub certificate-held : (made : Made) (doing : Doing) (sender : ℕ) (certificate : Certificate)
    → retains_view made doing.standing (certificate_view certificate) ≡ true → holds_kind doing.standing certificate ≡ true → took_certificate made sender certificate doing ≡ doing
unfolding took_certificate
certificate-held made doing sender certificate inside held = rw (inside, held) refl

pub certificate-false : (made : Made) (doing : Doing) (sender : ℕ) (certificate : Certificate)
    → retains_view made doing.standing (certificate_view certificate) ≡ true → holds_kind doing.standing certificate ≡ false
    → is_certified (made.scheme.verifies (certificate_subject certificate)) made.members (certificate_signatures certificate) ≡ false
    → took_certificate made sender certificate doing ≡ and_blocked sender InvalidCertificate doing
unfolding took_certificate
certificate-false made doing sender certificate inside new bad = rw (inside, new, bad) refl

pub certificate-true : (made : Made) (doing : Doing) (sender : ℕ) (certificate : Certificate)
    → retains_view made doing.standing (certificate_view certificate) ≡ true → holds_kind doing.standing certificate ≡ false
    → is_certified (made.scheme.verifies (certificate_subject certificate)) made.members (certificate_signatures certificate) ≡ true
    → took_certificate made sender certificate doing ≡ kept_certificate made certificate doing
unfolding took_certificate
certificate-true made doing sender certificate inside new good = rw (inside, new, good) refl

-- ---- work

pub work-final : (made : Made) (view : ℕ) (doing : Doing) → nat_le view doing.standing.finalized ≡ true → worked made view doing ≡ doing
unfolding worked
work-final made view doing final = rw final refl

pub work-near : (made : Made) (view : ℕ) (doing : Doing) → nat_le view doing.standing.finalized ≡ false → admits_view made doing.standing view ≡ true
    → worked made view doing ≡ worked_near made view doing
unfolding worked forwarded_at worked_near
work-near made view doing open_view near = rw (open_view, near) refl

pub work-far : (made : Made) (view : ℕ) (doing : Doing) → nat_le view doing.standing.finalized ≡ false → admits_view made doing.standing view ≡ false
    → worked made view doing ≡ forwarded_at made view doing
unfolding worked forwarded_at
work-far made view doing open_view far = rw (open_view, far) refl

-- ---- packets

pub vote-foreign : (made : Made) (doing : Doing) (sender : ℕ) (vote : Vote) (now : ℕ) → (vote_epoch vote == made.epoch) ≡ false → decoded_vote made sender vote now doing ≡ and_blocked sender WrongEpoch doing
unfolding decoded_vote heard_vote
vote-foreign made doing sender vote now other = rw other refl

pub vote-own : (made : Made) (doing : Doing) (sender : ℕ) (vote : Vote) (now : ℕ) → (vote_epoch vote == made.epoch) ≡ true
    → decoded_vote made sender vote now doing ≡ took_vote made sender vote (record doing { standing = seen_now sender now doing.standing })
unfolding decoded_vote heard_vote
vote-own made doing sender vote now own = rw own refl

pub certificate-foreign : (made : Made) (doing : Doing) (sender : ℕ) (certificate : Certificate) (now : ℕ) → (certificate_epoch certificate == made.epoch) ≡ false → decoded_certificate made sender certificate now doing ≡ and_blocked sender WrongEpoch doing
unfolding decoded_certificate heard_certificate
certificate-foreign made doing sender certificate now other = rw other refl

pub certificate-own : (made : Made) (doing : Doing) (sender : ℕ) (certificate : Certificate) (now : ℕ) → (certificate_epoch certificate == made.epoch) ≡ true
    → decoded_certificate made sender certificate now doing ≡ took_certificate made sender certificate (record doing { standing = seen_now sender now doing.standing })
unfolding decoded_certificate heard_certificate
certificate-own made doing sender certificate now own = rw own refl

-- ---- forwarding

pub leader-own : (made : Made) (leader : ℕ) (proposal : Proposal) (history : RoundHistory) → is_me made leader ≡ true → targets_of made SilentLeader leader proposal history ≡ []
unfolding targets_of
leader-own made leader proposal history me = rw me refl

pub leader-heard : (made : Made) (leader : ℕ) (proposal : Proposal) (history : RoundHistory) → is_me made leader ≡ false
    → is_missing_voter history.made (known_in history) proposal leader ≡ false → targets_of made SilentLeader leader proposal history ≡ []
unfolding targets_of
leader-heard made leader proposal history other heard = rw (other, heard) refl

pub leader-silent : (made : Made) (leader : ℕ) (proposal : Proposal) (history : RoundHistory) → is_me made leader ≡ false
    → is_missing_voter history.made (known_in history) proposal leader ≡ true → targets_of made SilentLeader leader proposal history ≡ leader ∷ []
unfolding targets_of
leader-silent made leader proposal history other silent = rw (other, silent) refl

pub forward-at : (made : Made) (leader : ℕ) (proposal : Proposal) (doing : Doing) (history : RoundHistory) → doing.standing.rounds proposal.round.view ≡ Some history
    → forwarding made leader (Some proposal) doing ≡ record doing { calls = doing.calls ++ relayed proposal (targets_of made made.forward leader proposal history) }
unfolding forwarding
forward-at made leader proposal doing history at = rw at refl
