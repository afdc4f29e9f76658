-- The values of a list, as far as they are operands.
use Rattle.std.proofs.Common.{◌≡◌, ℕ, ◌+◌, ◌<◌, List, [], ◌∷◌, ◌++◌, append_assoc, append-nil, length, map, get_or, drop, Result, Ok, Err, refl, sym, ap, ◌∙◌}
use Rattle.ob_base.specs.Chain.{◌>>=◌}
use Rattle.ob_domain.proofs.Lists.{next-item}
use Rattle.ob_domain.specs.Operands.{each_of, listed}
use Rattle.ob_domain.specs.declared.fault.Unfit.{Unfit}
use Rattle.serde_json.specs.Data.{Data}
use Rattle.serde_json.specs.View.{items_of, view}
use Rattle.serde_json.specs.declared.value.Value.{Value}

pub listed_items : (ds : List Data) → listed (items_of ds) ≡ ds
listed_items [] = refl
listed_items (d ∷ ds) = ap (λ (xs : List Data). d ∷ xs) (listed_items ds)

-- what is given behind others
abbrev pub with_done : {B : Type 0} → List B → Result (List B) Unfit → Result (List B) Unfit
with_done done given = given >>= λ ys. Ok (done ++ ys)

with_done-none : {B : Type 0} (r : Result (List B) Unfit) → r ≡ with_done [] r
with_done-none (Ok ys) = refl
with_done-none (Err why) = refl

with_done-more : {B : Type 0} (done : List B) (y : B) (r : Result (List B) Unfit) → with_done done (r >>= λ ys. Ok (y ∷ ys)) ≡ with_done (done ++ y ∷ []) r
with_done-more done y (Ok ys) = ap (λ (zs : List _). Ok zs) (sym (append_assoc done (y ∷ []) ys))
with_done-more done y (Err why) = refl

-- the values give these before what the others give
pub record IsEachTo {B : Type 0} (form : Data → Result B Unfit) (vs : List Value) (n : ℕ) (done : List B) : Type 0 where
  pub is : each_of form (map view vs) ≡ with_done done (each_of form (map view (drop n vs)))

pub IsEachTo-none : {B : Type 0} (form : Data → Result B Unfit) (vs : List Value) → IsEachTo form vs 0 []
IsEachTo-none form vs = record { is = with_done-none (each_of form (map view vs)) }

at_value : {B : Type 0} (form : Data → Result B Unfit) (vs : List Value) (n : ℕ) (v : Value) → n < length vs → v ≡ get_or vs n v
    → each_of form (map view (drop n vs)) ≡ (form (view v) >>= λ y. each_of form (map view (drop (n + 1) vs)) >>= λ ys. Ok (y ∷ ys))
at_value form vs n v within is = ap (λ (xs : List Value). each_of form (map view xs)) (next-item vs n v within is)

pub IsEachTo-more : {B : Type 0} (form : Data → Result B Unfit) (vs : List Value) (n : ℕ) (done : List B) (v : Value) (y : B) → n < length vs → v ≡ get_or vs n v → form (view v) ≡ Ok y
    → IsEachTo form vs n done → IsEachTo form vs (n + 1) (done ++ y ∷ [])
IsEachTo-more form vs n done v y within is one before =
    let next : each_of form (map view (drop n vs)) ≡ (each_of form (map view (drop (n + 1) vs)) >>= λ ys. Ok (y ∷ ys)) = at_value form vs n v within is ∙ (rw one refl) in
    record { is = before.is ∙ ap (with_done done) next ∙ with_done-more done y (each_of form (map view (drop (n + 1) vs))) }

pub IsEachTo-stop : {B : Type 0} (form : Data → Result B Unfit) (vs : List Value) (n : ℕ) (done : List B) (v : Value) (why : Unfit) → n < length vs → v ≡ get_or vs n v → form (view v) ≡ Err why
    → IsEachTo form vs n done → each_of form (map view vs) ≡ Err why
IsEachTo-stop form vs n done v why within is one before =
    let next : each_of form (map view (drop n vs)) ≡ Err why = at_value form vs n v within is ∙ (rw one refl) in
    before.is ∙ ap (with_done done) next

pub IsEachTo-all : {B : Type 0} (form : Data → Result B Unfit) (vs : List Value) (n : ℕ) (done : List B) → drop n vs ≡ [] → IsEachTo form vs n done → each_of form (map view vs) ≡ Ok done
IsEachTo-all form vs n done end before =
    let next : each_of form (map view (drop n vs)) ≡ Ok [] = ap (λ (xs : List Value). each_of form (map view xs)) end in
    before.is ∙ ap (with_done done) next ∙ (rw append-nil refl)
