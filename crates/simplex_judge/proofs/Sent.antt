-- The votes among packets.
use Rattle.std.proofs.Common.{◌≡◌, ℕ, List, [], ◌∷◌, ◌++◌, Bool, true, false, refl, sym, ap, ◌∙◌, Option, Some, None, length, map, arith, if◌then◌else◌}
use Rattle.std.specs.Prelude.{◌==◌, ◌&&◌, ◌||◌, filter, filter_map, is_some}
use Rattle.std.specs.List.{cons_option, list_all, list_any}
use Rattle.std.proofs.lemmas.Bool.{eq-eqb, eqb-true}
use Rattle.std.proofs.lemmas.List.{length-map, map-append}
use Rattle.std.proofs.lemmas.List.Folds.{list_all-append}
use Rattle.std.specs.Option.{option_map, option_map_or}
use Rattle.std.specs.Str.{bytes_eq}
use Rattle.simplex_wire.specs.declared.vote.Vote.{Vote}
use Rattle.simplex_wire.specs.declared.vote.Vote.TheVariants as votes
use Rattle.simplex_wire.specs.Message as format
use Rattle.simplex_transcript.specs.declared.entry.Packet.{Packet}
use Rattle.law_member.specs.VoterVotes.{votes_of}
use Rattle.model_audit.specs.VotesDue.{are_those, vote_bytes}
use Rattle.simplex_due.specs.declared.due.Due.{Due}
use Rattle.simplex_due.specs.Due.{votes_in}
use Rattle.simplex_judge.specs.Sending.{carries, is_sent}

-- ---- among packets

counted : (o : Option (List ℕ)) (packet : Packet) (packets : List Packet) (sent : List (List ℕ)) → length packets ≡ length sent
    → length (if is_some o then packet ∷ packets else packets) ≡ length (cons_option o sent)
counted None packet packets sent e = e
counted (Some bytes) packet packets sent e = omega (arith, e)

pub count-votes : (packets : List Packet) → length (filter (λ packet. is_some (vote_bytes packet)) packets) ≡ length (filter_map vote_bytes packets)
count-votes [] = refl
count-votes (packet ∷ rest) = counted (vote_bytes packet) packet (filter (λ p. is_some (vote_bytes p)) rest) (filter_map vote_bytes rest) (count-votes rest)

carried : (bytes : List ℕ) (o : Option (List ℕ)) (sent : List (List ℕ)) (rest : Bool) → rest ≡ list_any (bytes_eq bytes) sent
    → (option_map_or (bytes_eq bytes) o false || rest) ≡ list_any (bytes_eq bytes) (cons_option o sent)
carried bytes None sent rest e = e
carried bytes (Some other) sent rest e = ap (λ b. bytes_eq bytes other || b) e

pub carries-votes : (bytes : List ℕ) (packets : List Packet) → list_any (carries bytes) packets ≡ list_any (bytes_eq bytes) (filter_map vote_bytes packets)
carries-votes bytes [] = refl
carries-votes bytes (packet ∷ rest) = carried bytes (vote_bytes packet) (filter_map vote_bytes rest) (list_any (carries bytes) rest) (carries-votes bytes rest)

-- ---- those that are due

alone : (b : Bool) → (b && true) ≡ b
alone true = refl
alone false = refl

all-of : {A : Type 0} (kind : A → Vote) (o : Option A) (sent : List (List ℕ))
    → list_all (λ bytes. list_any (bytes_eq bytes) sent) (map format.vote.spelling (votes_of kind o)) ≡ option_map_or (is_sent sent) (option_map kind o) true
all-of kind None sent = refl
all-of kind (Some v) sent = alone (is_sent sent (kind v))

grouped : (a b c : Bool) → (a && (b && c)) ≡ ((a && b) && c)
grouped true b c = refl
grouped false b c = refl

all-due : (due : Due) (sent : List (List ℕ)) → list_all (λ bytes. list_any (bytes_eq bytes) sent) (map format.vote.spelling (votes_in due))
    ≡ (option_map_or (is_sent sent) (option_map votes.Nullify due.nullify) true && option_map_or (is_sent sent) (option_map votes.Notarize due.notarize) true
    && option_map_or (is_sent sent) (option_map votes.Finalize due.finalize) true)
all-due due sent =
    let test : List ℕ → Bool = λ bytes. list_any (bytes_eq bytes) sent in
    let a : List Vote = votes_of votes.Nullify due.nullify in
    let b : List Vote = votes_of votes.Notarize due.notarize in
    let c : List Vote = votes_of votes.Finalize due.finalize in
    ap (list_all test) (map-append format.vote.spelling a (b ++ c))
    ∙ list_all-append test (map format.vote.spelling a) (map format.vote.spelling (b ++ c))
    ∙ ap (λ l. list_all test (map format.vote.spelling a) && list_all test l) (map-append format.vote.spelling b c)
    ∙ ap (λ l. list_all test (map format.vote.spelling a) && l) (list_all-append test (map format.vote.spelling b) (map format.vote.spelling c))
    ∙ grouped (list_all test (map format.vote.spelling a)) (list_all test (map format.vote.spelling b)) (list_all test (map format.vote.spelling c))
    ∙ ap (λ x. x && list_all test (map format.vote.spelling b) && list_all test (map format.vote.spelling c)) (all-of votes.Nullify due.nullify sent)
    ∙ ap (λ x. option_map_or (is_sent sent) (option_map votes.Nullify due.nullify) true && x && list_all test (map format.vote.spelling c)) (all-of votes.Notarize due.notarize sent)
    ∙ ap (λ x. option_map_or (is_sent sent) (option_map votes.Nullify due.nullify) true && option_map_or (is_sent sent) (option_map votes.Notarize due.notarize) true && x)
    (all-of votes.Finalize due.finalize sent)

unlike : (a b : ℕ) → (a ≡ b → ⊥) → (a == b) ≡ false
unlike a b apart = by (a == b) refl
  where
    by : (t : Bool) → (a == b) ≡ t → (a == b) ≡ false
    by true e = absurd (apart (eqb-true a b e))
    by false e = e

pub sends-other : (due : Due) (sent : List (List ℕ)) (count least : ℕ) → count ≡ length sent → least ≡ length (votes_in due) → (count ≡ least → ⊥)
    → false ≡ are_those (map format.vote.spelling (votes_in due)) sent
sends-other due sent count least is due_is apart =
    sym (ap (λ b. b && list_all (λ bytes. list_any (bytes_eq bytes) sent) (map format.vote.spelling (votes_in due)))
    (unlike (length (map format.vote.spelling (votes_in due))) (length sent)
    (λ same. apart (is ∙ sym same ∙ length-map (votes_in due) format.vote.spelling ∙ sym due_is))))

pub sends-those : (due : Due) (sent : List (List ℕ)) (count least : ℕ) (all : Bool) → count ≡ length sent → least ≡ length (votes_in due) → count ≡ least
    → all ≡ (option_map_or (is_sent sent) (option_map votes.Nullify due.nullify) true && option_map_or (is_sent sent) (option_map votes.Notarize due.notarize) true
    && option_map_or (is_sent sent) (option_map votes.Finalize due.finalize) true)
    → all ≡ are_those (map format.vote.spelling (votes_in due)) sent
sends-those due sent count least all is due_is same each =
    each ∙ sym (all-due due sent)
    ∙ sym (ap (λ b. b && list_all (λ bytes. list_any (bytes_eq bytes) sent) (map format.vote.spelling (votes_in due)))
    (eq-eqb (length (map format.vote.spelling (votes_in due))) (length sent)
    (length-map (votes_in due) format.vote.spelling ∙ sym due_is ∙ sym same ∙ is)))
