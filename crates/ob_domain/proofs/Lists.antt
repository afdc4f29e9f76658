-- The terms of a list, as far as they are read.
use Rattle.std.proofs.Common.{◌≡◌, ◌≢◌, ◌≤◌, true, false, ℕ, suc, ◌+◌, ◌<◌, List, [], ◌∷◌, ◌++◌, append_assoc, append-nil, length, get_or, drop, Ok, Err, refl, sym, ap, ◌∙◌, arith, add-one, drop-cons}
use Rattle.ob_base.specs.Chain.{◌>>=◌}
use Rattle.ob_base.specs.declared.id.ModelNo.{ModelNo}
use Rattle.ob_domain.specs.Reading.{Counted, are_whole, item_from, items_from, listed_from, misshapen, tree_from}
use Rattle.ob_domain.specs.Trees.{Item, all_of, spelled}
use Rattle.ob_domain.specs.declared.fault.DomainFault.{DomainFault}
use Rattle.ob_schema.specs.declared.info.ModelInfo.{ModelInfo}
use Rattle.serde_json.specs.Data.{array}
use Rattle.serde_json.specs.View.{view, items_view}
use Rattle.serde_json.specs.declared.value.Value.{Value}

-- the item at a place, before those behind it
pub next-item : {A : Type 0} (xs : List A) (n : ℕ) (x : A) → n < length xs → x ≡ get_or xs n x → drop n xs ≡ x ∷ drop (n + 1) xs
next-item xs n x within is =
    let more : suc n ≡ n + 1 = omega arith in
    drop-cons xs n x within ∙ (cc)

-- what is read behind others
abbrev pub with_front : List Item → Counted (List Item) → Counted (List Item)
with_front front read = read >>= λ r. Ok (front ++ r.0, r.1)

with_front-none : (r : Counted (List Item)) → r ≡ with_front [] r
with_front-none (Ok x) = refl
with_front-none (Err why) = refl

with_front-more : (done : List Item) (first : Item) (r : Counted (List Item)) → with_front done (r >>= λ rest. Ok (first ∷ rest.0, rest.1)) ≡ with_front (done ++ first ∷ []) r
with_front-more done first (Ok x) = ap (λ (items : List Item). Ok (items, x.1)) (sym (append_assoc done (first ∷ []) x.0))
with_front-more done first (Err why) = refl

-- three values, and no more
pub three_values : (vs : List Value) (a b c : Value) → 3 ≤ length vs → length vs < 4 → a ≡ get_or vs 0 a → b ≡ get_or vs 1 b → c ≡ get_or vs 2 c → vs ≡ a ∷ b ∷ c ∷ []
three_values [] a b c some few is_a is_b is_c = absurd (omega arith)
three_values (x ∷ []) a b c some few is_a is_b is_c = absurd (omega arith)
three_values (x ∷ y ∷ []) a b c some few is_a is_b is_c = absurd (omega arith)
three_values (x ∷ y ∷ z ∷ []) a b c some few is_a is_b is_c = cc
three_values (x ∷ y ∷ z ∷ w ∷ vs) a b c some few is_a is_b is_c = absurd (omega arith)

module _ (models : List ModelInfo) (model : ModelNo) (numbers : List ℕ) where
  -- the items from a place on, as they are read
  abbrev pub rest_from : ℕ → ℕ → List Value → Counted (List Item)
  rest_from n left vs = items_from models model numbers n left (items_view (drop n vs))

  -- a list is read as these items before the others
  pub record IsReadTo (start : ℕ) (vs : List Value) (n : ℕ) (done : List Item) (left : ℕ) : Type 0 where
    pub is : items_from models model numbers 0 start (items_view vs) ≡ with_front done (rest_from n left vs)

  pub IsReadTo-none : (start : ℕ) (vs : List Value) → IsReadTo start vs 0 [] start
  IsReadTo-none start vs = record { is = with_front-none (items_from models model numbers 0 start (items_view vs)) }

  at_item : (vs : List Value) (n left : ℕ) (v : Value) → n < length vs → v ≡ get_or vs n v → rest_from n left vs
      ≡ (item_from models model numbers n left (view v) >>= λ first. items_from models model numbers (suc n) first.1 (items_view (drop (n + 1) vs)) >>= λ rest. Ok (first.0 ∷ rest.0, rest.1))
  at_item vs n left v within is = ap (λ (xs : List Value). items_from models model numbers n left (items_view xs)) (next-item vs n v within is)

  pub IsReadTo-more : (start : ℕ) (vs : List Value) (n : ℕ) (done : List Item) (left rest : ℕ) (v : Value) (first : Item) → n < length vs → v ≡ get_or vs n v
      → item_from models model numbers n left (view v) ≡ Ok (first, rest) → IsReadTo start vs n done left → IsReadTo start vs (n + 1) (done ++ first ∷ []) rest
  IsReadTo-more start vs n done left rest v first within is one before =
      let next : rest_from n left vs ≡ (rest_from (suc n) rest vs >>= λ rest. Ok (first ∷ rest.0, rest.1)) = at_item vs n left v within is ∙ (rw (one, add-one) refl) in
      record { is = before.is ∙ ap (with_front done) next ∙ with_front-more done first (rest_from (suc n) rest vs) ∙ (rw add-one refl) }

  pub IsReadTo-stop : (start : ℕ) (vs : List Value) (n : ℕ) (done : List Item) (left : ℕ) (v : Value) (why : DomainFault) → n < length vs → v ≡ get_or vs n v
      → item_from models model numbers n left (view v) ≡ Err why → IsReadTo start vs n done left → items_from models model numbers 0 start (items_view vs) ≡ Err why
  IsReadTo-stop start vs n done left v why within is one before =
      let next : rest_from n left vs ≡ Err why = at_item vs n left v within is ∙ (rw one refl) in
      before.is ∙ ap (with_front done) next

  pub IsReadTo-all : (start : ℕ) (vs : List Value) (n : ℕ) (done : List Item) (left : ℕ) → drop n vs ≡ [] → IsReadTo start vs n done left
      → items_from models model numbers 0 start (items_view vs) ≡ Ok (done, left)
  IsReadTo-all start vs n done left end before =
      let next : rest_from n left vs ≡ Ok ([], left) = ap (λ (xs : List Value). items_from models model numbers n left (items_view xs)) end in
      before.is ∙ ap (with_front done) next ∙ (rw append-nil refl)

  -- a list of terms, of which all are read
  pub list_whole : (start : ℕ) (vs : List Value) (items : List Item) (left : ℕ) → items_from models model numbers 0 start (items_view vs) ≡ Ok (items, left) → are_whole items ≡ true
      → tree_from models model numbers start (array (items_view vs)) ≡ Ok (all_of (spelled items), left)
  list_whole start vs items left read whole = rw (read, whole) refl

  pub list_broken : (start : ℕ) (vs : List Value) (items : List Item) (left : ℕ) → items_from models model numbers 0 start (items_view vs) ≡ Ok (items, left) → are_whole items ≡ false
      → tree_from models model numbers start (array (items_view vs)) ≡ misshapen numbers
  list_broken start vs items left read broken = rw (read, broken) refl

  -- a term that is no list of three
  pub listed-other : (n left : ℕ) (vs : List Value) → length vs ≢ 3 → listed_from models model numbers n left (items_view vs) ≡ misshapen numbers
  listed-other n left [] other = refl
  listed-other n left (a ∷ []) other = refl
  listed-other n left (a ∷ b ∷ []) other = refl
  listed-other n left (a ∷ b ∷ c ∷ []) other = absurd (other refl)
  listed-other n left (a ∷ b ∷ c ∷ d ∷ vs) other = refl
