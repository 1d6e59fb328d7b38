-- What a post that holds messages back holds.
use Rattle.std.proofs.Common.{◌≡◌, sym, refl, ◌∙◌, append_assoc, List, [], ◌∷◌, ◌++◌}
use Rattle.std.proofs.lemmas.List.{append-nil}
use Rattle.simplex_mailbox.specs.Post.{Posted}

pub held-posted : {M : Type 0} (before messages after : List M)
    → Posted (λ held message answer next. next ≡ held ++ message ∷ []) before messages after
    → after ≡ before ++ messages
held-posted before [] after posted = sym posted ∙ sym (append-nil before)
held-posted before (message ∷ messages) after posted =
    held-posted posted.0 messages after posted.2 ∙ rw (posted.1.1, append_assoc) refl
