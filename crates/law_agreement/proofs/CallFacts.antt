-- Lists of calls: joined, cut, and what they bring.
use Rattle.std.proofs.Common.{◌≡◌, ℕ, zero, suc, List, [], ◌∷◌, ◌++◌, take, Contains, refl, ap}
use Rattle.std.proofs.lemmas.List.Elements.{Contains-append_left}
use Rattle.law_agreement.specs.World.{Sent}
use Rattle.simplex_values.specs.declared.proposal.Subject.TheVariants.{Finalize}
use Rattle.law_agreement.specs.Member.{Member, Call, Start, StartAt, Take, Judge, Vote, Repeat, Sync, Send, Prune, Crash, published, happens, run, IsLegal, brought}

pub run-append : (m : Member) (xs ys : List Call) → run m (xs ++ ys) ≡ run (run m xs) ys
run-append m [] ys = refl
run-append m (call ∷ xs) ys = run-append (happens m call) xs ys

pub IsLegal-append : (length : ℕ) (m : Member) (xs ys : List Call) → IsLegal length m xs → IsLegal length (run m xs) ys → IsLegal length m (xs ++ ys)
IsLegal-append length m [] ys h k = k
IsLegal-append length m (call ∷ xs) ys h k = (h.0, IsLegal-append length (happens m call) xs ys h.1 k)

pub IsLegal-take : (length : ℕ) (m : Member) (k : ℕ) (xs : List Call) → IsLegal length m xs → IsLegal length m (take k xs)
IsLegal-take length m zero xs h = tt
IsLegal-take length m (suc k) [] h = tt
IsLegal-take length m (suc k) (call ∷ xs) h = (h.0, IsLegal-take length (happens m call) k xs h.1)

pub brought-append : (xs ys : List Call) → brought (xs ++ ys) ≡ brought xs ++ brought ys
brought-append [] ys = refl
brought-append (Start ∷ xs) ys = brought-append xs ys
brought-append (StartAt p signers ∷ xs) ys = ap (λ cs. record { subject = Finalize p; signers = signers } ∷ cs) (brought-append xs ys)
brought-append (Take c ∷ xs) ys = ap (λ cs. c ∷ cs) (brought-append xs ys)
brought-append (Judge view verdict ∷ xs) ys = brought-append xs ys
brought-append (Vote s ∷ xs) ys = brought-append xs ys
brought-append (Repeat r ∷ xs) ys = brought-append xs ys
brought-append (Sync view ∷ xs) ys = brought-append xs ys
brought-append (Send ∷ xs) ys = brought-append xs ys
brought-append (Prune min ∷ xs) ys = brought-append xs ys
brought-append (Crash keep ∷ xs) ys = brought-append xs ys

-- what was sent stays sent
published_stays : (m : Member) (box : List Sent) (s : Sent) → Contains m.sent s → Contains (published m box).sent s
published_stays m [] s c = c
published_stays m (x ∷ rest) s c = Contains-append_left m.sent (x ∷ []) s c

sent_stays_once : (m : Member) (call : Call) (s : Sent) → Contains m.sent s → Contains (happens m call).sent s
sent_stays_once m Start s c = c
sent_stays_once m (StartAt p signers) s c = c
sent_stays_once m (Take x) s c = c
sent_stays_once m (Judge view verdict) s c = c
sent_stays_once m (Vote x) s c = c
sent_stays_once m (Repeat r) s c = c
sent_stays_once m (Sync view) s c = c
sent_stays_once m Send s c = published_stays m m.outbox s c
sent_stays_once m (Prune min) s c = c
sent_stays_once m (Crash keep) s c = c

pub sent_stays : (m : Member) (xs : List Call) (s : Sent) → Contains m.sent s → Contains (run m xs).sent s
sent_stays m [] s c = c
sent_stays m (call ∷ xs) s c = sent_stays (happens m call) xs s (sent_stays_once m call s c)
