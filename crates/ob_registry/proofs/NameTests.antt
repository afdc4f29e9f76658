-- Names that are looked up one after another, and what their tests tell.
use Rattle.std.proofs.Common.{◌≡◌, inl, inr, ℕ, zero, suc, arith, ◌+◌, ◌<◌, Bool, true, false, List, [], ◌∷◌, length, map, take, get_or, Option, Some, None, is_none, not, refl, sym, ap, subst, ◌∙◌}
use Rattle.std.specs.Prelude.{◌==◌, ◌&&◌, ◌||◌, IsSomeAnd}
use Rattle.std.specs.List.{list_any, list_all}
use Rattle.std.specs.Option.{option_map_or}
use Rattle.std.proofs.lemmas.Bool.{false≢true}
use Rattle.std.proofs.lemmas.Bool.Decides.{nat_tests}
use Rattle.std.proofs.lemmas.List.Folds.{list_any_more, list_all_more, list_any_at}
use Rattle.ob_definition.specs.declared.wrong.Wrong.{Wrong}
use Rattle.ob_definition.specs.declared.wrong.Wrong.TheVariants as wrong
use Rattle.ob_definition.specs.Findings.{Tells}
use Rattle.ob_definition.specs.Members.{Member, named}
use Rattle.ob_definition.specs.declared.orders.OrderEntry.{OrderEntry}
use Rattle.ob_definition.specs.Orders.{Term, order_terms, term_of_entry, terms_of}
use Rattle.ob_definition.proofs.CallerLemmas.{list_any-map}
use Rattle.ob_registry.specs.Faults.{HasRefused, HasUnknown, is_plain_kept, is_unknown, names_of_terms, orders_rows}
use Rattle.ob_registry.specs.Telling.{AreNamesWrong, IsOrderWrong, IsSetWrong}
use Rattle.ob_schema.proofs.CallerLemmas.{Tells-none, Tells-one, Tells-same, known_on}

-- a test holds or fails, not both
pub no_both : (b : Bool) → b ≡ true → b ≡ false → ⊥
no_both b holds fails = false≢true (sym fails ∙ holds)

and_swap : (a b c : Bool) → ((a && b) && c) ≡ ((a && c) && b)
and_swap true true true = refl
and_swap true true false = refl
and_swap true false true = refl
and_swap true false false = refl
and_swap false b c = refl

-- an item read again
pub read_again : {X : Type 0} (xs : List X) (i : ℕ) (d : X) → i < length xs → get_or xs i d ≡ get_or xs i (get_or xs i d)
read_again [] i d within = absurd (omega (arith, within))
read_again (x ∷ xs) zero d within = refl
read_again (x ∷ xs) (suc i) d within = read_again xs i d (omega (arith, within))

-- the names of things
module _ {X : Type 0} (h : X → List ℕ) (members : List Member) where
  abbrev pub misses : X → Bool
  misses x = is_none (named members (h x))

  abbrev pub passes : (Member → Bool) → X → Bool
  passes test x = option_map_or test (named members (h x)) false

  -- one more is a field
  pub known_more : (xs : List X) (i : ℕ) (x : X) (m : Member) → i < length xs → x ≡ get_or xs i x → named members (h x) ≡ Some m → list_any misses (take i xs) ≡ false → list_any misses (take (i + 1) xs) ≡ false
  known_more xs i x m within is found known =
      list_any_more misses xs i x within ∙ ap (λ (b : Bool). b || misses (get_or xs i x)) known ∙ ap misses (sym is) ∙ ap (λ (o : Option Member). is_none o) found

  -- one more is none
  pub missed_at : (xs : List X) (i : ℕ) (x : X) → i < length xs → x ≡ get_or xs i x → named members (h x) ≡ None → list_any misses xs ≡ true
  missed_at xs i x within is found = list_any_at misses xs i x within (ap misses (sym is) ∙ ap (λ (o : Option Member). is_none o) found)

  -- one more is tested
  pub tested_more : (test : Member → Bool) (xs : List X) (i : ℕ) (x : X) (m : Member) (kept begun : Bool) → i < length xs → x ≡ get_or xs i x → named members (h x) ≡ Some m
      → kept ≡ (list_all (passes test) (take i xs) && begun) → (kept && test m) ≡ (list_all (passes test) (take (i + 1) xs) && begun)
  tested_more test xs i x m kept begun within is found so_far =
      ap (λ (b : Bool). b && test m) so_far ∙ and_swap (list_all (passes test) (take i xs)) begun (test m)
      ∙ ap (λ (b : Bool). (list_all (passes test) (take i xs) && b) && begun) (sym (ap (passes test) (sym is) ∙ ap (λ (o : Option Member). option_map_or test o false) found))
      ∙ ap (λ (b : Bool). b && begun) (sym (list_all_more (passes test) xs i x within))

pub list_all-map : {X Y : Type 0} (p : Y → Bool) (f : X → Y) (xs : List X) → list_all p (map f xs) ≡ list_all (λ x. p (f x)) xs
list_all-map p f [] = refl
list_all-map p f (x ∷ xs) = ap (λ (b : Bool). p (f x) && b) (list_all-map p f xs)

-- the names of the entries of an order
pub entries_any : (members : List Member) (entries : List OrderEntry) → list_any (is_unknown members) (names_of_terms (terms_of entries)) ≡ list_any (misses (λ e. e.name.now) members) entries
entries_any members entries = list_any-map (is_unknown members) (λ t. t.name) (terms_of entries) ∙ list_any-map (λ t. is_unknown members t.name) term_of_entry entries

pub entries_all : (members : List Member) (test : Member → Bool) (entries : List OrderEntry) → list_all (passes (λ x. x) members test) (names_of_terms (terms_of entries)) ≡ list_all (passes (λ e. e.name.now) members test) entries
entries_all members test entries = list_all-map (passes (λ x. x) members test) (λ t. t.name) (terms_of entries) ∙ list_all-map (λ t. passes (λ x. x) members test t.name) term_of_entry entries

not_zero : (n : ℕ) → (suc n == 0) ≡ false
not_zero n = grind (arith, nat_tests)

-- a list whose length is told to be 0, or not to be
pub told_empty : (names : List (List ℕ)) (e : Bool) → e ≡ (length names == 0) → not e ≡ false → names ≡ []
told_empty [] e is some = refl
told_empty (x ∷ names) e is some = absurd (false≢true (sym some ∙ ap (λ (b : Bool). not b) (is ∙ not_zero (length names))))

pub told_some : (names : List (List ℕ)) (e : Bool) → e ≡ (length names == 0) → not e ≡ true → names ≡ [] → ⊥
told_some [] e is some none = false≢true (sym (ap (λ (b : Bool). not b) is) ∙ some)
told_some (x ∷ names) e is some none = let same : ◌≡◌ {A = List (List ℕ)} (x ∷ names) [] = none in cc

-- names of which a test refuses none, one that is no field, and a refused one
pub tells_passed : (members : List Member) (test : Member → Bool) (names : List (List ℕ)) → list_any (is_unknown members) names ≡ false → list_all (passes (λ x. x) members test) names ≡ true
    → Tells (AreNamesWrong members test names) None
tells_passed members test names known passed = Tells-none (AreNamesWrong members test names) none
  where
    none : (w : Wrong) → AreNamesWrong members test names w → ⊥
    none wrong.Field is = no_both (list_any (is_unknown members) names) is known
    none wrong.Kind is = no_both (list_all (passes (λ x. x) members test) names) passed is.1
    none _ is = absurd is

pub tells_missed : (members : List Member) (test : Member → Bool) (names : List (List ℕ)) → list_any (is_unknown members) names ≡ true → Tells (AreNamesWrong members test names) (Some wrong.Field)
tells_missed members test names missed = Tells-one (AreNamesWrong members test names) wrong.Field missed only
  where
    only : (w : Wrong) → AreNamesWrong members test names w → w ≡ wrong.Field
    only wrong.Field is = refl
    only wrong.Kind is = absurd (no_both (list_any (is_unknown members) names) missed is.0)
    only _ is = absurd is

pub tells_refused : (members : List Member) (test : Member → Bool) (names : List (List ℕ)) → list_any (is_unknown members) names ≡ false → list_all (passes (λ x. x) members test) names ≡ false
    → Tells (AreNamesWrong members test names) (Some wrong.Kind)
tells_refused members test names known refused = Tells-one (AreNamesWrong members test names) wrong.Kind (known, refused) only
  where
    only : (w : Wrong) → AreNamesWrong members test names w → w ≡ wrong.Kind
    only wrong.Field is = absurd (no_both (list_any (is_unknown members) names) is known)
    only wrong.Kind is = refl
    only _ is = absurd is

-- the same of a set, which has names
none_missed : (members : List Member) (names : List (List ℕ)) → HasUnknown members names → names ≡ [] → ⊥
none_missed members names missed none = false≢true (subst (λ (l : List (List ℕ)). HasUnknown members l) none missed)

to_set : (members : List Member) (names : List (List ℕ)) (w : Wrong) → AreNamesWrong members is_plain_kept names w → IsSetWrong members names w
to_set members names wrong.Field is = is
to_set members names wrong.Kind is = inr is
to_set members names _ is = absurd is

from_set : (members : List Member) (names : List (List ℕ)) → (names ≡ [] → ⊥) → (w : Wrong) → IsSetWrong members names w → AreNamesWrong members is_plain_kept names w
from_set members names some wrong.Field is = is
from_set members names some wrong.Kind (inl none) = absurd (some none)
from_set members names some wrong.Kind (inr is) = is
from_set members names some _ is = absurd is

pub tells_set : (members : List Member) (names : List (List ℕ)) (told : Option Wrong) → (names ≡ [] → ⊥) → Tells (AreNamesWrong members is_plain_kept names) told → Tells (IsSetWrong members names) told
tells_set members names told some tells = Tells-same (AreNamesWrong members is_plain_kept names) (IsSetWrong members names) told (to_set members names) (from_set members names some) tells

pub tells_set_missed : (members : List Member) (names : List (List ℕ)) → HasUnknown members names → Tells (IsSetWrong members names) (Some wrong.Field)
tells_set_missed members names missed = tells_set members names (Some wrong.Field) (none_missed members names missed) (tells_missed members is_plain_kept names missed)

pub tells_set_empty : (members : List Member) (names : List (List ℕ)) → names ≡ [] → Tells (IsSetWrong members names) (Some wrong.Kind)
tells_set_empty members names none = Tells-one (IsSetWrong members names) wrong.Kind (inl none) only
  where
    only : (w : Wrong) → IsSetWrong members names w → w ≡ wrong.Kind
    only wrong.Field is = absurd (none_missed members names is none)
    only wrong.Kind is = refl
    only _ is = absurd is

pub and_same : (b : Bool) → (b && true) ≡ b
and_same true = refl
and_same false = refl

-- of a set that isn't empty all are kept, or not
pub and_true : (a b : Bool) → (a && b) ≡ true → (a ≡ true) × (b ≡ true)
and_true true true e = (refl, refl)
and_true true false e = absurd (false≢true e)
and_true false b e = absurd (false≢true e)

pub tells_set_kept : (members : List Member) (names : List (List ℕ)) (begun : Bool) → list_any (is_unknown members) names ≡ false → (list_all (passes (λ x. x) members is_plain_kept) names && begun) ≡ true → (begun ≡ true → names ≡ [] → ⊥)
    → Tells (IsSetWrong members names) None
tells_set_kept members names begun known kept some =
    let both = and_true (list_all (passes (λ x. x) members is_plain_kept) names) begun kept in
    tells_set members names None (some both.1) (tells_passed members is_plain_kept names known both.0)

unkept : (members : List Member) (names : List (List ℕ)) (all begun : Bool) → list_all (passes (λ x. x) members is_plain_kept) names ≡ all → list_any (is_unknown members) names ≡ false → (all && begun) ≡ false → (begun ≡ false → names ≡ [])
    → (begun ≡ true → names ≡ [] → ⊥) → Tells (IsSetWrong members names) (Some wrong.Kind)
unkept members names all false is known none empty some = tells_set_empty members names (empty refl)
unkept members names true true is known none empty some = absurd (false≢true (sym none))
unkept members names false true is known none empty some = tells_set members names (Some wrong.Kind) (some refl) (tells_refused members is_plain_kept names known is)

pub tells_set_unkept : (members : List Member) (names : List (List ℕ)) (begun : Bool) → list_any (is_unknown members) names ≡ false → (list_all (passes (λ x. x) members is_plain_kept) names && begun) ≡ false → (begun ≡ false → names ≡ [])
    → (begun ≡ true → names ≡ [] → ⊥) → Tells (IsSetWrong members names) (Some wrong.Kind)
tells_set_unkept members names begun known none empty some = unkept members names (list_all (passes (λ x. x) members is_plain_kept) names) begun refl known none empty some

-- the same of an order's terms
to_order : (members : List Member) (text : List ℕ) (terms : List Term) → order_terms text ≡ Some terms → (w : Wrong) → AreNamesWrong members (λ m. orders_rows m.def) (names_of_terms terms) w → IsOrderWrong members text w
to_order members text terms e wrong.Field is = subst (λ (o : Option (List Term)). IsSomeAnd o (λ terms. HasUnknown members (names_of_terms terms))) (sym e) is
to_order members text terms e wrong.Kind is = inr (subst (λ (o : Option (List Term)). IsSomeAnd o (λ terms. HasRefused members (λ m. orders_rows m.def) (names_of_terms terms))) (sym e) is)
to_order members text terms e _ is = absurd is

no_order : (terms : List Term) (o : Option (List Term)) → o ≡ Some terms → o ≡ None → ⊥
no_order terms o e none = let both : ◌≡◌ {A = Option (List Term)} None (Some terms) = sym none ∙ e in cc

from_order : (members : List Member) (text : List ℕ) (terms : List Term) → order_terms text ≡ Some terms → (w : Wrong) → IsOrderWrong members text w → AreNamesWrong members (λ m. orders_rows m.def) (names_of_terms terms) w
from_order members text terms e wrong.Field is = subst (λ (o : Option (List Term)). IsSomeAnd o (λ terms. HasUnknown members (names_of_terms terms))) e is
from_order members text terms e wrong.Kind (inl none) = absurd (no_order terms (order_terms text) e none)
from_order members text terms e wrong.Kind (inr is) = subst (λ (o : Option (List Term)). IsSomeAnd o (λ terms. HasRefused members (λ m. orders_rows m.def) (names_of_terms terms))) e is
from_order members text terms e _ is = absurd is

pub tells_order : (members : List Member) (text : List ℕ) (terms : List Term) (told : Option Wrong) → order_terms text ≡ Some terms → Tells (AreNamesWrong members (λ m. orders_rows m.def) (names_of_terms terms)) told
    → Tells (IsOrderWrong members text) told
tells_order members text terms told e tells =
    Tells-same (AreNamesWrong members (λ m. orders_rows m.def) (names_of_terms terms)) (IsOrderWrong members text) told (to_order members text terms e) (from_order members text terms e) tells

pub tells_no_order : (members : List Member) (text : List ℕ) → order_terms text ≡ None → Tells (IsOrderWrong members text) (Some wrong.Kind)
tells_no_order members text none = Tells-one (IsOrderWrong members text) wrong.Kind (inl none) only
  where
    only : (w : Wrong) → IsOrderWrong members text w → w ≡ wrong.Kind
    only wrong.Field is = absurd (subst (λ (o : Option (List Term)). IsSomeAnd o (λ terms. HasUnknown members (names_of_terms terms))) none is)
    only wrong.Kind is = refl
    only _ is = absurd is

-- members among which the same names find the same
module _ (these those : List Member) (same : (name : List ℕ) → named these name ≡ named those name) where
  all_same : named these ≡ named those
  all_same = λ i name. same name i

  missed_on : (names : List (List ℕ)) → HasUnknown these names → HasUnknown those names
  missed_on names is = subst (λ (f : List ℕ → Option Member). list_any (λ name. is_none (f name)) names ≡ true) all_same is

  refused_on : (test : Member → Bool) (names : List (List ℕ)) → HasRefused these test names → HasRefused those test names
  refused_on test names is = subst (λ (f : List ℕ → Option Member). (list_any (λ name. is_none (f name)) names ≡ false) × (list_all (λ name. option_map_or test (f name) false) names ≡ false)) all_same is

  pub set_wrong_on : (names : List (List ℕ)) (w : Wrong) → IsSetWrong these names w → IsSetWrong those names w
  set_wrong_on names wrong.Field is = missed_on names is
  set_wrong_on names wrong.Kind (inl none) = inl none
  set_wrong_on names wrong.Kind (inr is) = inr (refused_on is_plain_kept names is)
  set_wrong_on names _ is = absurd is

  pub order_wrong_on : (text : List ℕ) (w : Wrong) → IsOrderWrong these text w → IsOrderWrong those text w
  order_wrong_on text wrong.Field is = known_on (order_terms text) (λ terms. HasUnknown these (names_of_terms terms)) (λ terms. HasUnknown those (names_of_terms terms)) (λ terms _ is. missed_on (names_of_terms terms) is) is
  order_wrong_on text wrong.Kind (inl none) = inl none
  order_wrong_on text wrong.Kind (inr is) =
      inr (known_on (order_terms text) (λ terms. HasRefused these (λ m. orders_rows m.def) (names_of_terms terms)) (λ terms. HasRefused those (λ m. orders_rows m.def) (names_of_terms terms))
      (λ terms _ is. refused_on (λ m. orders_rows m.def) (names_of_terms terms) is) is)
  order_wrong_on text _ is = absurd is
