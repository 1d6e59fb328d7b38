-- What the actors of an engine hand on is fine, and what its resolver is given.
use Rattle.std.proofs.Common.{ℕ, List, [], ◌∷◌, Contains, sym, subst, refl}
use Rattle.simplex_values.specs.declared.plan.Channel.TheVariants as channels
use Rattle.simplex_values.specs.declared.plan.Recipients.TheVariants as recipients
use Rattle.simplex_wire.specs.declared.certificate.Certificate.{Certificate}
use Rattle.simplex_wire.specs.declared.vote.Vote.{Vote}
use Rattle.simplex_wire.specs.Fits.{FitsVote}
use Rattle.simplex_wire.specs.Message as format
use Rattle.simplex_wire.proofs.Formats.{whole_again}
use Rattle.simplex_wire.proofs.Messages.{vote_is}
use Rattle.model_rules.specs.Known.{Made}
use Rattle.simplex_messages.specs.declared.batcher.Message.TheVariants as batcher_messages
use Rattle.simplex_messages.specs.declared.call.Call.{Call}
use Rattle.simplex_messages.specs.declared.call.Call.TheVariants as calls
use Rattle.simplex_messages.specs.declared.voter.Message.TheVariants as voter_messages
use Rattle.simplex_messages.specs.declared.handed.Handed.{Handed}
use Rattle.simplex_messages.specs.declared.handed.Handed.TheVariants as handed
use Rattle.simplex_messages.specs.declared.step.Outcome.{Outcome}
use Rattle.simplex_messages.specs.declared.step.StepOut.{StepOut}
use Rattle.simplex_messages.specs.declared.step.Stop.{Stop}
use Rattle.model_steps.specs.VoterLife.{rest}
use Rattle.model_steps.specs.Engine as engine
use Rattle.model_steps.specs.Engine.{Did, Began}
use Rattle.law_member.proofs.Constructing.{AreSilent}
use Rattle.law_run.specs.Sayings.{Each, InMessage}
use Rattle.law_run.proofs.Speaking.{Each-append}
use Rattle.law_run.proofs.Backers.{Backers, Spoke}
use Rattle.law_run.specs.Fitting.{HandedFits}
use Rattle.law_run.proofs.Good.{IsGood}
use Rattle.law_run.proofs.Hearing.{IsFine}
use Rattle.law_run.proofs.Mailing.{InResolverMail}
use Rattle.law_run.proofs.Packets.{SpokenOn, fits_vote}
use Rattle.law_member.specs.Storing.{IsSigned}
use Rattle.law_run.proofs.Signed.{InOwn}
use Rattle.simplex_messages.specs.declared.resolver.MailboxMessage.{MailboxMessage}
use Rattle.simplex_messages.specs.declared.resolver.MailboxMessage.TheVariants as resolver_messages
use Rattle.model_resolver.specs.Resolver as resolver
use Rattle.law_run.proofs.Signing.{SignsOwn}
use Rattle.law_run.proofs.Letting.{told_alone}

-- ---- own votes

mail_told : (Good : Certificate → Type 0) (cs : List Call) (message : MailboxMessage) → InMessage Good cs (handed.Resolver message) → InResolverMail Good message
mail_told Good cs (resolver_messages.Updated c) g = g
mail_told Good cs (resolver_messages.Certified n success) g = g
mail_told Good cs (resolver_messages.Resolve proposal view kind target) g = tt
mail_told Good cs resolver_messages.Replayed g = tt

-- what the voter of a node hands on is fine, where its votes were spoken
pub own_fine : (backers : Backers) (member : ℕ) (rules : Made) (cs : List Call) (hs : List Handed) → SignsOwn member rules
    → ((v : Vote) → Contains cs (calls.Send channels.Vote recipients.All (format.vote.spelling v)) → SpokenOn backers member channels.Vote (format.vote.spelling v))
    → Each (InMessage (IsGood backers) cs) hs → Each (InOwn (IsSigned rules)) hs → Each HandedFits hs → Each (IsFine backers) hs
own_fine backers member rules cs [] own spoken s g f = tt
own_fine backers member rules cs (handed.Batcher (batcher_messages.Constructed v) ∷ rest) own spoken s g f =
    let mine = own v g.0 in
    let spoke : Spoke backers member v = spoken v s.0 v (whole_again format.vote FitsVote vote_is v (fits_vote v f.0 mine.1)) in
    ((subst (λ n. Spoke backers n v) (sym mine.0) spoke, f.0), own_fine backers member rules cs rest own spoken s.1 g.1 f.1)
own_fine backers member rules cs (handed.Batcher (batcher_messages.Update current leader finalized proposal) ∷ rest) own spoken s g f = (tt, own_fine backers member rules cs rest own spoken s.1 g.1 f.1)
own_fine backers member rules cs (handed.Voter (voter_messages.Verified c) ∷ rest) own spoken s g f = (s.0, own_fine backers member rules cs rest own spoken s.1 g.1 f.1)
own_fine backers member rules cs (handed.Voter (voter_messages.Proposal p) ∷ rest) own spoken s g f = (tt, own_fine backers member rules cs rest own spoken s.1 g.1 f.1)
own_fine backers member rules cs (handed.Voter (voter_messages.Timeout round reason) ∷ rest) own spoken s g f = (tt, own_fine backers member rules cs rest own spoken s.1 g.1 f.1)
own_fine backers member rules cs (handed.Resolver message ∷ rest) own spoken s g f = (mail_told (IsGood backers) cs message s.0, own_fine backers member rules cs rest own spoken s.1 g.1 f.1)
own_fine backers member rules cs (handed.Handler message ∷ rest) own spoken s g f = (tt, own_fine backers member rules cs rest own spoken s.1 g.1 f.1)

-- where nothing was constructed, nothing need be spoken
pub silent_fine : (backers : Backers) (cs : List Call) (hs : List Handed) → Each (InMessage (IsGood backers) cs) hs → AreSilent hs → Each (IsFine backers) hs
silent_fine backers cs [] s g = tt
silent_fine backers cs (handed.Batcher (batcher_messages.Constructed v) ∷ rest) s g = absurd g.0
silent_fine backers cs (handed.Batcher (batcher_messages.Update current leader finalized proposal) ∷ rest) s g = (tt, silent_fine backers cs rest s.1 g.1)
silent_fine backers cs (handed.Voter (voter_messages.Verified c) ∷ rest) s g = (s.0, silent_fine backers cs rest s.1 g.1)
silent_fine backers cs (handed.Voter (voter_messages.Proposal p) ∷ rest) s g = (tt, silent_fine backers cs rest s.1 g.1)
silent_fine backers cs (handed.Voter (voter_messages.Timeout round reason) ∷ rest) s g = (tt, silent_fine backers cs rest s.1 g.1)
silent_fine backers cs (handed.Resolver message ∷ rest) s g = (mail_told (IsGood backers) cs message s.0, silent_fine backers cs rest s.1 g.1)
silent_fine backers cs (handed.Handler message ∷ rest) s g = (tt, silent_fine backers cs rest s.1 g.1)

-- ---- what a resolver was given

pub given_on : (P : resolver.Given → Type 0) (did : Did) (past : List Did) → Each P (engine.given_to_resolver did) → Each P (engine.resolver_past past) → Each P (engine.resolver_past (did ∷ past))
unfolding engine.resolver_past
given_on P did past new old = Each-append P (engine.given_to_resolver did) (engine.resolver_past past) new old

pub start_given : (P : resolver.Given → Type 0) → ((member : ℕ) → P (resolver.Blocked member)) → (now : ℕ) (stop : Stop) (o : Outcome) (out : StepOut)
    → Each P (engine.resolver_past (engine.did_of Began now stop o out ∷ []))
unfolding engine.resolver_past
start_given P each now stop o out = (let did = engine.did_of Began now stop o out in Each-append P (engine.given_to_resolver did) [] (told_alone P each did refl) tt)
