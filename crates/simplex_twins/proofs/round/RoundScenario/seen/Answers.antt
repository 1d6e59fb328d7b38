use Rattle.std.proofs.Common.{◌≡◌, false, sym, subst, ◌∙◌}
use Rattle.simplex_twins.specs.Script.{ScriptedRound, scripted}
use Rattle.simplex_twins.specs.Every.{is_seen, IsAmong}
use Rattle.simplex_twins.proofs.Laters.{seen_is_first, raised_is_first, raised_fits}
use Rattle.simplex_twins.proofs.round.RoundScenario.seen.Goals as goal

pub returns-then-is_seen-clause-first : goal.returns-then-is_seen-clause-first
returns-then-is_seen-clause-first c =
    rw c.self.view_is (seen_is_first c.args.participants c.args.self c.requires.among (sym c.is_seen.ensures ∙ c.if-is_seen.true)).0

pub returns-then-is_seen-clause-good : goal.returns-then-is_seen-clause-good
returns-then-is_seen-clause-good c =
    rw c.self.view_is (seen_is_first c.args.participants c.args.self c.requires.among (sym c.is_seen.ensures ∙ c.if-is_seen.true)).1

pub raised-requires-clause-fits : goal.raised-requires-clause-fits
raised-requires-clause-fits c =
    let round = scripted c.self.inside.leader c.self.inside.primary c.self.inside.secondary in
    let among : IsAmong c.args.participants round = subst (IsAmong c.args.participants) (sym c.self.view_is) c.requires.among in
    let unseen : is_seen round ≡ false = subst (λ (r : ScriptedRound). is_seen r ≡ false) (sym c.self.view_is) (sym c.is_seen.ensures ∙ c.if-is_seen.false) in
    raised_fits c.args.participants round c.requires.most among unseen

pub returns-clause-first : goal.returns-clause-first
returns-clause-first c =
    let round = scripted c.self.inside.leader c.self.inside.primary c.self.inside.secondary in
    let among : IsAmong c.args.participants round = subst (IsAmong c.args.participants) (sym c.self.view_is) c.requires.among in
    let unseen : is_seen round ≡ false = subst (λ (r : ScriptedRound). is_seen r ≡ false) (sym c.self.view_is) (sym c.is_seen.ensures ∙ c.if-is_seen.false) in
    rw (c.raised.ensures, ← c.self.view_is) (raised_is_first c.args.participants round among unseen).0

pub returns-clause-good : goal.returns-clause-good
returns-clause-good c =
    let round = scripted c.self.inside.leader c.self.inside.primary c.self.inside.secondary in
    let among : IsAmong c.args.participants round = subst (IsAmong c.args.participants) (sym c.self.view_is) c.requires.among in
    let unseen : is_seen round ≡ false = subst (λ (r : ScriptedRound). is_seen r ≡ false) (sym c.self.view_is) (sym c.is_seen.ensures ∙ c.if-is_seen.false) in
    rw c.raised.ensures (raised_is_first c.args.participants round among unseen).1
