-- The columns of the numbers of the fields that an argument names.
use Rattle.std.proofs.Common.{◌≡◌, ℕ, suc, ◌+◌, ◌<◌, List, [], ◌∷◌, map, length, Option, Some, None, option_and_then, Result, Ok, Err, Vec, Global, refl, sym, ap, subst, ◌∙◌, arith}
use Rattle.std.specs.Prelude.{All, IfOk, IfSome, IsSome}
use Rattle.std.proofs.lemmas.List.Elements.{All-cons, All-nil, All-head, All-tail, All-filter}
use Rattle.std.proofs.lemmas.List.FromFn.{get_or-enumerate_from, length-enumerate_from}
use Rattle.std.proofs.lemmas.Option.{slice_get-get_or}
use Rattle.serde_json.specs.Data.{Data, null, boolean, number, string, array, object}
use Rattle.ob_base.specs.declared.id.FieldNo.{FieldNo}
use Rattle.ob_base.specs.declared.memory.NoMemory.{NoMemory}
use Rattle.ob_call.specs.Arguments.{Given}
use Rattle.ob_call.specs.Columns.{asked_columns, columns_at, columns_in, columns_named}
use Rattle.ob_call.proofs.NamedNumbers.{numbers_in}
use Rattle.ob_call.proofs.NumberedFields.{numbered-before}
use Rattle.ob_codec.specs.Commands.{listed}
use Rattle.ob_schema.specs.Built.{numbered}
use Rattle.ob_schema.specs.Fields.{Column, columns}
use Rattle.ob_schema.specs.Models.{fields_of}
use Rattle.ob_schema.specs.declared.info.ModelInfo.{ModelInfo}

-- the column is that of its number
abbrev IsOwn : ModelInfo → Column → Type 0
IsOwn info column = numbered info.fields column.0 ≡ Some column.1

-- each column of a model is that of its number
own_columns : (info : ModelInfo) → All (IsOwn info) (columns info)
own_columns info k d lt =
    let within : k < length info.fields = let e = length-enumerate_from 1 info.fields in omega arith in
    let place : 1 + k ≡ suc k = omega arith in
    subst (IsOwn info) (sym (get_or-enumerate_from 1 info.fields k d within))
    (ap (numbered info.fields) place ∙ slice_get-get_or info.fields k d.1 within)

-- and those that a list names
own_named : (info : ModelInfo) (names : List Data) → All (IsOwn info) (columns_named info names)
own_named info [] = own_columns info
own_named info (d ∷ ds) = All-filter _ (IsOwn info) (columns info) (own_columns info)

-- and those of an argument
own_in : (info : ModelInfo) (d : Data) → All (IsOwn info) (columns_in info d)
own_in info null = All-nil (IsOwn info)
own_in info (boolean b) = All-nil (IsOwn info)
own_in info (number n) = All-nil (IsOwn info)
own_in info (string text) = All-nil (IsOwn info)
own_in info (array items) = own_named info (listed items)
own_in info (object _) = All-nil (IsOwn info)

-- and those that are asked for
own_asked : (info : ModelInfo) (g : Option Given) → All (IsOwn info) (asked_columns info g)
own_asked info None = own_columns info
own_asked info (Some g) = own_in info g.json

-- the columns of these numbers are those that have them
same_columns : (info : ModelInfo) (numbers : List FieldNo) (cs : List Column) → numbers_in numbers ≡ map (λ c. c.0) cs → All (IsOwn info) cs → columns_at info numbers ≡ cs
same_columns info [] [] e own = refl
same_columns info [] (c ∷ cs) e own = absurd cc
same_columns info (n ∷ numbers) [] e own = absurd cc
same_columns info (n ∷ numbers) (c ∷ cs) e own =
    let first : n.0 ≡ c.0 = cc in
    let rest : numbers_in numbers ≡ map (λ (x : Column). x.0) cs = cc in
    let here : numbered info.fields n.0 ≡ Some c.1 = ap (numbered info.fields) first ∙ All-head (IsOwn info) c cs own in
    rw (numbered-before info.fields info.hidden n.0 c.1 here) (ap (λ (m : ℕ). (m, c.1) ∷ columns_at info numbers) first ∙ ap (λ (xs : List Column). c ∷ xs) (same_columns info numbers cs rest (All-tail (IsOwn info) c cs own)))

-- a field of this number is there
abbrev IsThere : Option ModelInfo → FieldNo → Type 0
IsThere found n = IsSome (option_and_then (λ info. numbered (fields_of info) n.0) found)

-- each of the numbers is that of a field
pub there_each : (info : ModelInfo) (numbers : List FieldNo) (cs : List Column) → numbers_in numbers ≡ map (λ c. c.0) cs → All (IsOwn info) cs → All (IsThere (Some info)) numbers
there_each info [] cs e own = All-nil (IsThere (Some info))
there_each info (n ∷ numbers) [] e own = absurd cc
there_each info (n ∷ numbers) (c ∷ cs) e own =
    let first : n.0 ≡ c.0 = cc in
    let rest : numbers_in numbers ≡ map (λ (x : Column). x.0) cs = cc in
    let here : numbered info.fields n.0 ≡ Some c.1 = ap (numbered info.fields) first ∙ All-head (IsOwn info) c cs own in
    All-cons (IsThere (Some info)) n numbers (rw (numbered-before info.fields info.hidden n.0 c.1 here) refl) (there_each info numbers cs rest (All-tail (IsOwn info) c cs own))

-- what is answered numbers the fields that are asked for
abbrev pub NumbersAsked : Option ModelInfo → Option Given → Result (Vec FieldNo Global) NoMemory → Type 0
NumbersAsked found g r = IfOk r (λ numbers. IfSome found (λ info. numbers_in numbers.items ≡ map (λ c. c.0) (asked_columns info g)))

-- their columns are those
pub NumbersAsked-columns : (found : Option ModelInfo) (g : Option Given) (r : Result (Vec FieldNo Global) NoMemory) → NumbersAsked found g r
    → IfOk r (λ numbers. IfSome found (λ info. columns_at info numbers.items ≡ asked_columns info g))
NumbersAsked-columns found g (Err e) are = tt
NumbersAsked-columns None g (Ok numbers) are = tt
NumbersAsked-columns (Some info) g (Ok numbers) are = same_columns info numbers.items (asked_columns info g) are (own_asked info g)

-- and each is there
pub NumbersAsked-there : (found : Option ModelInfo) (g : Option Given) (r : Result (Vec FieldNo Global) NoMemory) → IsSome found → NumbersAsked found g r → IfOk r (λ numbers. All (IsThere found) numbers.items)
NumbersAsked-there found g (Err e) known are = tt
NumbersAsked-there None g (Ok numbers) known are = absurd cc
NumbersAsked-there (Some info) g (Ok numbers) known are = there_each info numbers.items (asked_columns info g) are (own_asked info g)
