-- The members of an event, one after the other, and what they say.
use Rattle.std.proofs.Common.{◌≡◌, ℕ, ◌-◌, List, ◌∷◌, length, codes, Some, Result, Ok, Err, IfOk, refl, ap, ◌∙◌, arith}
use Rattle.json.specs.Token.{Token}
use Rattle.serde_json.specs.Data.{Num, Data, number, string, array, object, no_items, item, Members, no_members, put}
use Rattle.json.specs.Json.{read_key}
use Rattle.json.proofs.Grammar.{read_key-shorter}
use Rattle.serde_json.specs.Find.{as_str}
use Rattle.serde_json.specs.Read as read
use Rattle.simplex_messages.specs.declared.step.Stop.{Stop}
use Rattle.simplex_transcript.specs.declared.node.Node.{Node}
use Rattle.simplex_transcript.specs.declared.node.Ref.{Ref}
use Rattle.simplex_transcript.specs.declared.event.StepSource.{StepSource}
use Rattle.simplex_transcript.specs.declared.event.Event.TheVariants as events
use Rattle.simplex_form.specs.Form.{◌>>=◌}
use Rattle.simplex_names.specs.Names.{source_of}
use Rattle.simplex_form.specs.Events.{event_of, node_of, ref_of, stop_of}
use Rattle.simplex_form.specs.Stream.{Reads, ReadsItems, ReadsRest, TakesNumber, IsPair, IsSource}
use Rattle.simplex_form.proofs.Reading.{reads_less, reads_number, reads_array, reads_object, no_more_items, one_more_item, no_more_members, one_more_member}

-- ---- members

pub rest_ends : (end : List Token) (ms : Members) → ReadsRest (Token.end_object ∷ end) ms ms end
rest_ends end ms n enough = no_more_members 124 n (Token.end_object ∷ end) end ms enough refl

pub rest_goes : (k : List ℕ) (s r end : List Token) (d : Data) (old ms : Members) → Reads 124 s d r → ReadsRest r (put k d old) ms end → ReadsRest (Token.key k ∷ s) old ms end
rest_goes k s r end d old ms reads more n enough =
    let less = reads_less 124 s r d reads in
    one_more_member 124 n k (Token.key k ∷ s) s r end d old ms (omega (arith, enough)) refl reads (more (n - 1) (omega (arith, enough, less)))

-- what a text says that is the same
along : (a b : List Token) (old ms : Members) (end : List Token) → a ≡ b → ReadsRest b old ms end → ReadsRest a old ms end
along a b old ms end e h n enough = rw e (h n (rw e at enough))

-- an object of a first member and the rest
pub rest_said : (k : List ℕ) (text ts s r end : List Token) (d : Data) (ms : Members) → text ≡ Token.begin_object ∷ ts → read_key ts ≡ Some (Some k, s) → Reads 124 s d r
    → ReadsRest r (put k d no_members) ms end → Reads 125 text (object ms) end
rest_said k text ts s r end d ms is key reads more =
    let less = reads_less 124 s r d reads in
    let shorter = read_key-shorter ts (Some k) s key in
    rw is (reads_object 125 ts end ms (omega arith)
    (one_more_member 124 (length ts) k ts s r end d no_members ms (omega (arith, shorter)) key reads (more (length ts - 1) (omega (arith, less, shorter)))))

-- ---- pairs

-- two numbers and the bracket behind them
two_numbers : (x y : List ℕ) (m n : Num) (r : List Token) → read.number_of x ≡ Some m → read.number_of y ≡ Some n
    → Reads 124 (Token.begin_array ∷ Token.number x ∷ Token.number y ∷ Token.end_array ∷ r) (array (item (number m) (item (number n) no_items))) r
two_numbers x y m n r first second =
    let end = Token.end_array ∷ r in
    let ts = Token.number x ∷ Token.number y ∷ end in
    let over : ReadsItems 123 (length ts - 1 - 1) end no_items r = no_more_items 123 (length ts - 1 - 1) end r (omega arith) refl in
    let last = one_more_item 123 (length ts - 1) (Token.number y ∷ end) end r (number n) no_items (omega arith) refl (reads_number 123 y n end second) over in
    reads_array 124 ts r (item (number m) (item (number n) no_items)) (omega arith)
    (one_more_item 123 (length ts) ts (Token.number y ∷ end) r (number m) (item (number n) no_items) (omega arith) refl (reads_number 123 x m (Token.number y ∷ end) first) last)

pub pair_said : (ts s t u r : List Token) (a b : ℕ) → ts ≡ Token.begin_array ∷ s → TakesNumber s a t → TakesNumber t b u → u ≡ Token.end_array ∷ r
    → (d : Data) × Reads 124 ts d r × IsPair d a b
pair_said ts s t u r a b opens (x, m, is, first, one) (y, n, goes, second, two) close =
    let reads : Reads 124 ts (array (item (number m) (item (number n) no_items))) r = rw (opens, is, goes, close) (two_numbers x y m n r first second) in
    (array (item (number m) (item (number n) no_items)), reads, (refl, one, two))

-- ---- events

pub delivery_said : (d e : Data) (node : Node) (packet : Ref) → node_of d ≡ Some node → ref_of e ≡ Some packet
    → event_of (object (put (codes "packet") e (put (codes "node") d (put (codes "do") (string (codes "deliver")) no_members)))) ≡ Some (events.Deliver node packet)
delivery_said d e node packet first second =
    ap (λ o. o >>= (λ x. ref_of e >>= (λ y. Some (events.Deliver x y)))) first ∙ ap (λ o. o >>= (λ y. Some (events.Deliver node y))) second

pub step_said : (d e f : Data) (node : Node) (source : StepSource) (stop : Stop) → node_of d ≡ Some node → (as_str e >>= source_of) ≡ Some source → stop_of f ≡ Some stop
    → event_of (object (put (codes "stop") f (put (codes "source") e (put (codes "node") d (put (codes "do") (string (codes "step")) no_members))))) ≡ Some (events.Step node source stop)
step_said d e f node source stop first second third =
    ap (λ o. o >>= (λ x. (as_str e >>= source_of) >>= (λ y. stop_of f >>= (λ z. Some (events.Step x y z))))) first
    ∙ ap (λ o. o >>= (λ y. stop_of f >>= (λ z. Some (events.Step node y z)))) second
    ∙ ap (λ o. o >>= (λ z. Some (events.Step node source z))) third

-- ---- the rest of an event

pub delivery_rest : (a b m s t end : List Token) (d e : Data) (node : Node) (packet : Ref) → a ≡ Token.key (codes "node") ∷ b → Reads 124 b d m → node_of d ≡ Some node
    → m ≡ Token.key (codes "packet") ∷ s → Reads 124 s e t → ref_of e ≡ Some packet → t ≡ Token.end_object ∷ end
    → (ms : Members) × ReadsRest a (put (codes "do") (string (codes "deliver")) no_members) ms end × (event_of (object ms) ≡ Some (events.Deliver node packet))
delivery_rest a b m s t end d e node packet first one is second two says last =
    let start = put (codes "do") (string (codes "deliver")) no_members in
    let ms = put (codes "packet") e (put (codes "node") d start) in
    let over = along t (Token.end_object ∷ end) ms ms end last (rest_ends end ms) in
    let more = along m (Token.key (codes "packet") ∷ s) (put (codes "node") d start) ms end second (rest_goes (codes "packet") s t end e (put (codes "node") d start) ms two over) in
    let all = along a (Token.key (codes "node") ∷ b) start ms end first (rest_goes (codes "node") b m end d start ms one more) in
    (ms, all, delivery_said d e node packet is says)

pub step_rest : (a b m s t u v end : List Token) (d e f : Data) (node : Node) (source : StepSource) (stop : Stop) → a ≡ Token.key (codes "node") ∷ b → Reads 124 b d m → node_of d ≡ Some node
    → m ≡ Token.key (codes "source") ∷ s → Reads 124 s e t → IsSource e source → t ≡ Token.key (codes "stop") ∷ u → Reads 124 u f v → stop_of f ≡ Some stop → v ≡ Token.end_object ∷ end
    → (ms : Members) × ReadsRest a (put (codes "do") (string (codes "step")) no_members) ms end × (event_of (object ms) ≡ Some (events.Step node source stop))
step_rest a b m s t u v end d e f node source stop first one is second two says third three ends last =
    let start = put (codes "do") (string (codes "step")) no_members in
    let after = put (codes "node") d start in
    let behind = put (codes "source") e after in
    let ms = put (codes "stop") f behind in
    let over = along v (Token.end_object ∷ end) ms ms end last (rest_ends end ms) in
    let stopped = along t (Token.key (codes "stop") ∷ u) behind ms end third (rest_goes (codes "stop") u v end f behind ms three over) in
    let more = along m (Token.key (codes "source") ∷ s) after ms end second (rest_goes (codes "source") s t end e after ms two stopped) in
    let all = along a (Token.key (codes "node") ∷ b) start ms end first (rest_goes (codes "node") b m end d start ms one more) in
    (ms, all, step_said d e f node source stop is says ends)

-- what an answer brings with it may be said in other words
pub if_ok : {A E : Type 0} {P Q : A → Type 0} (r : Result A E) → ((a : A) → P a → Q a) → IfOk r P → IfOk r Q
if_ok (Ok a) f h = f a h
if_ok (Err e) f h = tt
