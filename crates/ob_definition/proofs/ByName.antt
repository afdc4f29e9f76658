-- The names that stand beside a list, as it grows.
use Rattle.std.proofs.Common.{map, ◌≡◌, ℕ, Bool, true, false, cond, ◌||◌, List, [], ◌∷◌, ◌++◌, refl, sym, ap, ◌∙◌}
use Rattle.std.specs.BTreeSet.{BTreeSet, contains_text}
use Rattle.std.specs.List.{list_any}
use Rattle.std.specs.Str.{bytes_eq}
use Rattle.std.specs.declared.alloc.Global.{Global}
use Rattle.std.specs.declared.string.String.{String}
use Rattle.ob_definition.specs.ByName.{AreCheckNames, AreFieldNames}
use Rattle.ob_definition.specs.Gathered.{Declared, DeclaredCheck}

-- whether one of a list passes, with one more
pub any-push : {X : Type 0} (p : X → Bool) (xs : List X) (y : X) → list_any p (xs ++ y ∷ []) ≡ cond (p y) true (list_any p xs)
any-push p [] y = by (p y)
  where
    by : (b : Bool) → b || false ≡ cond b true false
    by true = refl
    by false = refl
any-push p (x ∷ xs) y = ap (λ (b : Bool). p x || b) (any-push p xs y) ∙ by (p x) (p y)
  where
    by : (a b : Bool) → a || cond b true (list_any p xs) ≡ cond b true (a || list_any p xs)
    by true true = refl
    by true false = refl
    by false true = refl
    by false false = refl

pub AreFieldNames-push : (names new : BTreeSet (String Global)) (fields : List Declared) (f : Declared) → AreFieldNames names fields
    → ((name : List ℕ) → contains_text new name ≡ cond (bytes_eq f.def.name name) true (contains_text names name)) → AreFieldNames new (fields ++ f ∷ [])
AreFieldNames-push names new fields f are updates name =
    updates name ∙ ap (λ (b : Bool). cond (bytes_eq f.def.name name) true b) (are name) ∙ sym (any-push (λ g. bytes_eq g.def.name name) fields f)

pub AreCheckNames-push : (names new : BTreeSet (String Global)) (checks : List DeclaredCheck) (k : DeclaredCheck) → AreCheckNames names checks
    → ((name : List ℕ) → contains_text new name ≡ cond (bytes_eq k.check.name name) true (contains_text names name)) → AreCheckNames new (checks ++ k ∷ [])
AreCheckNames-push names new checks k are updates name =
    updates name ∙ ap (λ (b : Bool). cond (bytes_eq k.check.name name) true b) (are name) ∙ sym (any-push (λ g. bytes_eq g.check.name name) checks k)

pub map-push : {X Y : Type 0} (f : X → Y) (xs : List X) (x : X) → map f (xs ++ x ∷ []) ≡ map f xs ++ f x ∷ []
map-push f [] x = refl
map-push f (y ∷ xs) x = ap (λ (ys : List _). f y ∷ ys) (map-push f xs x)
