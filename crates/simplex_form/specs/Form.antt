-- What a JSON value says, if it is of a form: the pieces of which all forms are made.
use Rattle.std.specs.Prelude.{ℕ, ◌+◌, ◌==◌, List, [], ◌∷◌, ◌++◌, Bool, false, is_some, Option, Some, None, Result, Ok, Err}
use Rattle.serde_json.specs.Data.{Data, null, boolean, number, string, array, object, Items, no_items, item}
use Rattle.serde_json.specs.Events.{items_len, members_len}
use Rattle.serde_json.specs.Find.{get, as_null, as_bool, as_number, as_u64, as_str, as_array}

-- the second step, if the first gave a value
infixl 10 ◌>>=◌
abbrev pub ◌>>=◌ : {A B : Type 0} → Option A → (A → Option B) → Option B
Some x >>= f = f x
None >>= f = None

-- an object of exactly so many members: where so many different names are found in it, it has no other
abbrev pub has_members : ℕ → Data → Bool
has_members n null = false
has_members n (boolean b) = false
has_members n (number x) = false
has_members n (string s) = false
has_members n (array ds) = false
has_members n (object ms) = members_len ms == n

-- a list of exactly so many items
abbrev pub has_items : ℕ → Data → Bool
has_items n null = false
has_items n (boolean b) = false
has_items n (number x) = false
has_items n (string s) = false
has_items n (array ds) = items_len ds == n
has_items n (object ms) = false

-- a whole number from 0 below 2 ^ 64
abbrev pub number_of : Data → Option ℕ
number_of d = as_number d >>= as_u64

-- the number at a name
abbrev pub number_at : List ℕ → Data → Option ℕ
number_at name d = get name d >>= number_of

-- the text at a name
abbrev pub text_at : List ℕ → Data → Option (List ℕ)
text_at name d = get name d >>= as_str

-- the truth value at a name
abbrev pub flag_at : List ℕ → Data → Option Bool
flag_at name d = get name d >>= as_bool

abbrev pub is_null : Data → Bool
is_null d = is_some (as_null d)

-- these, and then those of the result
abbrev pub prepended : {A E : Type 0} → List A → Result (List A) E → Result (List A) E
prepended xs (Ok ys) = Ok (xs ++ ys)
prepended xs (Err e) = Err e

-- this one first, or its number where there is none
abbrev pub cons_or : {A : Type 0} → ℕ → Option A → Result (List A) ℕ → Result (List A) ℕ
cons_or k (Some x) rest = prepended (x ∷ []) rest
cons_or k None rest = Err k

-- what each item says, or the number of the first that is not of the form, where they are counted from k
abbrev pub list_from : {A : Type 0} → (Data → Option A) → ℕ → Items → Result (List A) ℕ
list_from of k no_items = Ok []
list_from of k (item d ds) = cons_or k (of d) (list_from of (k + 1) ds)

-- what was made, if all was
abbrev pub made : {A E : Type 0} → Result A E → Option A
made (Ok x) = Some x
made (Err e) = None

-- a list of things of this form
abbrev pub list_of : {A : Type 0} → (Data → Option A) → Data → Option (List A)
list_of of d = as_array d >>= (λ ds. made (list_from of 0 ds))
