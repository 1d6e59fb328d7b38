-- What shows that a vote was accepted, and what an accepted one is reported by.
use Rattle.simplex_round.specs.Acceptance.{evidence_cause}
use Rattle.simplex_types.specs.declared.cause.BlockCause.TheVariants.{WrongSender}
use Rattle.std.proofs.Common.{◌≡◌, ◌∙◌, ◌==◌, ◌&&◌, not, Bool, true, false, length, refl, sym, ℕ, [], ◌∷◌, Option, Some, None, if◌then◌else◌}
use Rattle.simplex_wire.specs.declared.vote.Vote.{Vote}
use Rattle.simplex_round.specs.declared.evidence.Evidence.{Evidence}
use Rattle.simplex_round.specs.declared.ballot.Ballot.{Ballot}
use Rattle.simplex_round.specs.Known.{Known, ballot_of, side_of}
use Rattle.simplex_round.specs.Votes.{vote_kind, vote_signer}
use Rattle.simplex_round.specs.Acceptance.{Heard, unheard, heard, heard_beside, heard_from, accused, was_given, with_given, evidence_activity, evidence_of}
use Rattle.simplex_batcher.specs.Hearing.{IsAlone}

-- an own vote is reported, and nobody is blocked
abbrev pub shows : Heard → Bool
shows heard = not (length heard.reports == 0) && length heard.blocks == 0

if-shows : (x y : Heard) (b : Bool) → shows x ≡ x.accepted → shows y ≡ y.accepted → shows (if b then x else y) ≡ (if◌then◌else◌ {A = Heard} b x y).accepted
if-shows x y true this that = this
if-shows x y false this that = that

accused-shows : (known : Known) (signer : ℕ) (evidence : Option Evidence) → shows (accused known signer evidence) ≡ (accused known signer evidence).accepted
unfolding accused
accused-shows known signer None = refl
accused-shows known signer (Some proof) =
    let given : Heard = record { accepted = false; reports = evidence_activity proof ∷ []; blocks = (signer, evidence_cause proof) ∷ []; known = record known { given = with_given proof known.given } } in
    if-shows (unheard known) given (was_given proof known.given) refl refl

beside-shows : (known : Known) (vote : Vote) (other : Option Ballot) → shows (heard_beside known vote other) ≡ (heard_beside known vote other).accepted
unfolding heard_beside
beside-shows known vote None = refl
beside-shows known vote (Some old) = accused-shows known (vote_signer vote) (evidence_of old.vote vote)

pub heard-shows : (known : Known) (vote : Vote) → shows (heard known vote) ≡ (heard known vote).accepted
unfolding heard
heard-shows known vote = beside-shows known vote (ballot_of (side_of known (vote_kind vote)) (vote_signer vote))

if-not : (x y : Heard) (b : Bool) → x.accepted ≡ false → y.accepted ≡ false → (if◌then◌else◌ {A = Heard} b x y).accepted ≡ false
if-not x y true this that = this
if-not x y false this that = that

accused-not : (known : Known) (signer : ℕ) (evidence : Option Evidence) → (accused known signer evidence).accepted ≡ false
unfolding accused
accused-not known signer None = refl
accused-not known signer (Some proof) =
    let given : Heard = record { accepted = false; reports = evidence_activity proof ∷ []; blocks = (signer, evidence_cause proof) ∷ []; known = record known { given = with_given proof known.given } } in
    if-not (unheard known) given (was_given proof known.given) refl refl

beside-alone : (known : Known) (vote : Vote) (other : Option Ballot)
    → IsAlone (heard_beside known vote other).accepted vote (heard_beside known vote other).reports (heard_beside known vote other).blocks
unfolding heard_beside
beside-alone known vote None = λ is. (refl, refl)
beside-alone known vote (Some old) = λ is. absurd (let bad : true ≡ false = sym is ∙ accused-not known (vote_signer vote) (evidence_of old.vote vote) in cc)

if-alone : (vote : Vote) (x y : Heard) (b : Bool) → IsAlone x.accepted vote x.reports x.blocks → y.accepted ≡ false
    → IsAlone (if◌then◌else◌ {A = Heard} b x y).accepted vote (if◌then◌else◌ {A = Heard} b x y).reports (if◌then◌else◌ {A = Heard} b x y).blocks
if-alone vote x y true this that = this
if-alone vote x y false this that = λ is. absurd (let bad : true ≡ false = sym is ∙ that in cc)

-- an accepted vote is all that its round reports
pub heard-alone : (known : Known) (sender : ℕ) (vote : Vote)
    → IsAlone (heard_from known sender vote).accepted vote (heard_from known sender vote).reports (heard_from known sender vote).blocks
unfolding heard_from heard
heard-alone known sender vote =
    let strange : Heard = record { accepted = false; reports = []; blocks = (sender, WrongSender) ∷ []; known = known } in
    if-alone vote (heard_beside known vote (ballot_of (side_of known (vote_kind vote)) (vote_signer vote))) strange (vote_signer vote == sender) (beside-alone known vote (ballot_of (side_of known (vote_kind vote)) (vote_signer vote))) refl
