-- What holds of each choice holds of what is chosen.
use Rattle.std.proofs.Common.{◌≡◌, Bool, true, false, if◌then◌else◌, List, [], ◌∷◌, All, refl, subst}
use Rattle.std.specs.Prelude.{Option, Some, None, find}
use Rattle.std.specs.Option.{IfSome, option_or, option_map, option_map_or, option_and_then, unwrap_or, option_to_list}
use Rattle.std.proofs.lemmas.List.Elements.{All-nil, All-cons, All-head, All-tail}

pub if_case : {X : Type 0} (Q : X → Type 0) (c : Bool) (x y : X) → (c ≡ true → Q x) → (c ≡ false → Q y) → Q (if c then x else y)
if_case Q true x y t f = t refl
if_case Q false x y t f = f refl

pub either_case : {X : Type 0} (Q : X → Type 0) (o p : Option X) → IfSome o Q → IfSome p Q → IfSome (option_or o p) Q
either_case Q None p first second = second
either_case Q (Some x) p first second = first

pub default_case : {X : Type 0} (Q : X → Type 0) (o : Option X) (d : X) → IfSome o Q → Q d → Q (unwrap_or o d)
default_case Q None d some none = none
default_case Q (Some x) d some none = some

pub map_case : {X Y : Type 0} (P : X → Type 0) (Q : Y → Type 0) (f : X → Y) (o : Option X) → ((x : X) → P x → Q (f x)) → IfSome o P → IfSome (option_map f o) Q
map_case P Q f None turn some = tt
map_case P Q f (Some x) turn some = turn x some

pub map_or_case : {X Y : Type 0} (P : X → Type 0) (Q : Y → Type 0) (f : X → Y) (o : Option X) (d : Y) → ((x : X) → P x → Q (f x)) → IfSome o P → Q d → Q (option_map_or f o d)
map_or_case P Q f None d turn some none = none
map_or_case P Q f (Some x) d turn some none = turn x some

pub some_more : {X : Type 0} (P Q : X → Type 0) (o : Option X) → ((x : X) → P x → Q x) → IfSome o P → IfSome o Q
some_more P Q None turn some = tt
some_more P Q (Some x) turn some = turn x some

pub some_at : {X : Type 0} (P : X → Type 0) (o : Option X) (x : X) → o ≡ Some x → IfSome o P → P x
some_at P o x e some = let at : IfSome (Some x) P = subst (λ (p : Option _). IfSome p P) e some in at

pub found_case : {X : Type 0} (P : X → Type 0) (test : X → Bool) (xs : List X) → All P xs → IfSome (find test xs) P
found_case P test [] all = tt
found_case P test (x ∷ xs) all = if_case (λ o. IfSome o P) (test x) (Some x) (find test xs) (λ h. All-head P x xs all) (λ h. found_case P test xs (All-tail P x xs all))

pub listed : {X : Type 0} (P : X → Type 0) (o : Option X) → IfSome o P → All P (option_to_list o)
listed P None some = All-nil P
listed P (Some x) some = All-cons P x [] some (All-nil P)

pub map_or_any : {X Y : Type 0} (Q : Y → Type 0) (f : X → Y) (o : Option X) (d : Y) → ((x : X) → Q (f x)) → Q d → Q (option_map_or f o d)
map_or_any Q f None d some none = none
map_or_any Q f (Some x) d some none = some x

pub and_then_case : {X Y : Type 0} (Q : Y → Type 0) (f : X → Option Y) (o : Option X) → ((x : X) → IfSome (f x) Q) → IfSome (option_and_then f o) Q
and_then_case Q f None turn = tt
and_then_case Q f (Some x) turn = turn x

-- what holds of everything holds of each
pub all_any : {X : Type 0} (P : X → Type 0) (xs : List X) → ((x : X) → P x) → All P xs
all_any P [] every = All-nil P
all_any P (x ∷ xs) every = All-cons P x xs (every x) (all_any P xs every)
