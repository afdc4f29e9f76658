-- How steps that may fail follow one another, and how values are evaluated in turn.
use Rattle.std.proofs.Common.{◌≡◌, ℕ, ◌+◌, ◌<◌, ◌≤◌, length, List, [], ◌∷◌, ◌++◌, drop, get_or, Option, None, Result, Ok, Err, refl, sym, ap, subst, ◌∙◌, append_assoc}
use Rattle.std.proofs.lemmas.List.{at_drop_more, at_drop_all, drop_more, append-nil}
use Rattle.ob_expr.specs.declared.fault.EvalFault.{EvalFault}
use Rattle.ob_expr.specs.declared.fault.EvalFault.TheVariants.{Overflow, TooLong, ZeroDivisor, Read, NoMemory}
use Rattle.ob_expr.specs.Chain.{and_then, each}
use Rattle.ob_base.specs.declared.id.Cell.{Cell}
use Rattle.ob_base.specs.declared.value.Value.{Value}
use Rattle.ob_expr.specs.Computing.{Lack}
use Rattle.ob_expr.specs.Outcome.{IsEvalFault}
use Rattle.ob_expr.specs.Reads.{EachInTurn}
use Rattle.ob_expr.specs.Told.{TellsRead, TellsValue}

abbrev pub valued : {A : Type 0} → A → Result A Lack
valued a = Ok a

-- a value comes of two steps that each have one
pub then_ok : {A B E : Type 0} (m : Result A E) (next : A → Result B E) (b : B) → and_then m next ≡ Ok b → (a : A) × (m ≡ Ok a) × (next a ≡ Ok b)
then_ok (Ok a) next b is = (a, refl, is)
then_ok (Err e) next b is = absurd (cc)

-- the fault of the first step is that of the whole
pub then_fault : {A B F : Type 0} (failed : F → Cell → Type 0) (held : Cell → Option Value) (m : Result A Lack) (next : A → Result B Lack) (fault : EvalFault F)
    → IsEvalFault failed held m fault → IsEvalFault failed held (and_then m next) fault
then_fault failed held m next Overflow is = rw is refl
then_fault failed held m next TooLong is = rw is refl
then_fault failed held m next ZeroDivisor is = rw is refl
then_fault failed held m next (Read f) is = (is.0, is.1, λ none. rw (is.2 none) refl)
then_fault failed held m next NoMemory is = tt

-- the same of the second step, where the first has a value
pub after_fault : {A B F : Type 0} (failed : F → Cell → Type 0) (held : Cell → Option Value) (m : Result A Lack) (next : A → Result B Lack) (a : A) (fault : EvalFault F)
    → m ≡ Ok a → IsEvalFault failed held (next a) fault → IsEvalFault failed held (and_then m next) fault
after_fault failed held m next a fault is of = rw is of

-- where no read can fail, neither can one that is known of
pub widened_fault : {A F : Type 0} (failed : F → Cell → Type 0) (held : Cell → Option Value) (m : Result A Lack) (fault : EvalFault F) → IsEvalFault (λ _ _. ⊥) (λ _. None) m fault → IsEvalFault failed held m fault
widened_fault failed held m Overflow is = is
widened_fault failed held m TooLong is = is
widened_fault failed held m ZeroDivisor is = is
widened_fault failed held m (Read f) is = absurd is.1
widened_fault failed held m NoMemory is = tt

-- what comes of values that are there before those that are left
abbrev pub with_left : {A B E : Type 0} → (A → Result B E) → List B → List A → Result (List B) E
with_left f before left = and_then (each f left) (λ vs. Ok (before ++ vs))

one_before : {B E : Type 0} (before : List B) (v : B) (m : Result (List B) E)
    → and_then (and_then m (λ vs. Ok (v ∷ vs))) (λ vs. Ok (before ++ vs)) ≡ and_then m (λ vs. Ok ((before ++ v ∷ []) ++ vs))
one_before before v (Ok vs) = ap Ok (sym (append_assoc before (v ∷ []) vs))
one_before before v (Err e) = refl

pub with_left-cons : {A B E : Type 0} (f : A → Result B E) (x : A) (left : List A) (before : List B) (v : B) → f x ≡ Ok v
    → with_left f before (x ∷ left) ≡ with_left f (before ++ v ∷ []) left
with_left-cons f x left before v is = rw is (one_before before v (each f left))

-- the item in its turn has a value
pub with_left-more : {A B E : Type 0} (f : A → Result B E) (xs : List A) (i : ℕ) (x : A) (before : List B) (v : B) → i < length xs → x ≡ get_or xs i x → f x ≡ Ok v
    → with_left f before (drop i xs) ≡ with_left f (before ++ v ∷ []) (drop (i + 1) xs)
with_left-more f xs i x before v lt at is =
    at_drop_more (with_left f before) xs i x lt ∙ ap (λ y. with_left f before (y ∷ drop (i + 1) xs)) (sym at) ∙ with_left-cons f x (drop (i + 1) xs) before v is

-- all have had their turn
pub with_left-end : {A B E : Type 0} (f : A → Result B E) (xs : List A) (i : ℕ) (before : List B) → length xs ≤ i → with_left f before (drop i xs) ≡ Ok before
with_left-end f xs i before le = at_drop_all (with_left f before) xs i le ∙ ap Ok (append-nil before)

-- the item in its turn has a fault
pub with_left-fault : {A B F : Type 0} (failed : F → Cell → Type 0) (held : Cell → Option Value) (f : A → Result B Lack) (xs : List A) (i : ℕ) (x : A) (before : List B) (fault : EvalFault F)
    → i < length xs → x ≡ get_or xs i x → IsEvalFault failed held (f x) fault → IsEvalFault failed held (with_left f before (drop i xs)) fault
with_left-fault failed held f xs i x before fault lt at is =
    let left : drop i xs ≡ x ∷ drop (i + 1) xs = drop_more xs i x lt ∙ ap (λ y. y ∷ drop (i + 1) xs) (sym at) in
    rw left (then_fault failed held (each f (x ∷ drop (i + 1) xs)) (λ vs. Ok (before ++ vs)) fault
    (then_fault failed held (f x) (λ v. and_then (each f (drop (i + 1) xs)) (λ vs. Ok (v ∷ vs))) fault is))

-- the next is come to once those before have a value
pub in_turn : {A : Type 0} (HasValue May : A → Type 0) (xs : List A) (i : ℕ) (x : A) → i < length xs → x ≡ get_or xs i x → EachInTurn HasValue May (drop i xs)
    → May x × (HasValue x → EachInTurn HasValue May (drop (i + 1) xs))
in_turn HasValue May xs i x lt at each =
    let left : drop i xs ≡ x ∷ drop (i + 1) xs = drop_more xs i x lt ∙ ap (λ y. y ∷ drop (i + 1) xs) (sym at) in
    let here : EachInTurn HasValue May (x ∷ drop (i + 1) xs) = subst (EachInTurn HasValue May) left each in
    here

same_then : {B E : Type 0} (m : Result B E) → m ≡ and_then m (λ v. Ok v)
same_then (Ok v) = refl
same_then (Err e) = refl

-- none has had its turn
pub with_left-start : {A B E : Type 0} (f : A → Result B E) (xs : List A) → each f xs ≡ with_left f [] xs
with_left-start f xs = same_then (each f xs)

-- what is told where nothing is read is told of reads too
pub tells_read : {F : Type 0} (failed : F → Cell → Type 0) (held : Cell → Option Value) (answer : Result Value (EvalFault F)) (meant : Result Value Lack)
    → TellsValue answer meant → TellsRead failed held (λ (v : Value). v) answer meant
tells_read failed held (Ok v) meant told = told
tells_read failed held (Err fault) meant told = widened_fault failed held meant fault told
