-- Modules by their numbers and by their names.
use Rattle.std.proofs.Common.{◌≡◌, ℕ, zero, suc, ◌<◌, ◌||◌, Bool, true, false, List, [], ◌∷◌, ◌++◌, length, Contains, Option, None, Some, refl, sym, ap, ◌∙◌, arith}
use Rattle.std.specs.Prelude.{slice_get}
use Rattle.std.specs.Str.{bytes_eq}
use Rattle.std.proofs.lemmas.Bool.{false≢true}
use Rattle.std.proofs.lemmas.List.Folds.{list_any-append}
use Rattle.std.proofs.lemmas.Option.{same_Some}
use Rattle.std.proofs.lemmas.Slice.Eq.{bytes_eq-Decides}
use Rattle.ob_module.specs.Modules.{Module, has_module, numbered}

-- ---- elements by their numbers

pub Contains-at : {X : Type 0} (xs : List X) (n : ℕ) (x : X) → slice_get xs n ≡ Some x → Contains xs x
Contains-at {X} [] n x at = absurd (let e : ◌≡◌ {A = Option X} None (Some x) = at in cc)
Contains-at (y ∷ xs) zero x at = (0, omega arith, same_Some y x at)
Contains-at (y ∷ xs) (suc n) x at = let held = Contains-at xs n x at in (suc held.0, omega (arith, held.1), held.2)

pub element-at : {X : Type 0} (xs : List X) (n : ℕ) → n < length xs → (x : X) × (slice_get xs n ≡ Some x)
element-at [] n low = absurd (omega (arith, low))
element-at (x ∷ xs) zero low = (x, refl)
element-at (x ∷ xs) (suc n) low = element-at xs n (omega (arith, low))

pub number-of : {X : Type 0} (xs : List X) (x : X) → Contains xs x → (n : ℕ) × (slice_get xs n ≡ Some x)
number-of [] x (k, lt, is) = absurd (omega (arith, lt))
number-of (y ∷ xs) x (zero, lt, is) = (0, ap Some is)
number-of (y ∷ xs) x (suc k, lt, is) = let held = number-of xs x (k, omega (arith, lt), is) in (suc held.0, held.1)

-- ---- modules by their names

pub same_name : (a b : List ℕ) → bytes_eq a b ≡ true → a ≡ b
same_name a b e = (bytes_eq-Decides a b).0 e

or-true : (a b : Bool) → b ≡ true → (a || b) ≡ true
or-true true b e = refl
or-true false b e = e

pub has-at : (modules : List Module) (m : Module) (name : List ℕ) → Contains modules m → m.name ≡ name → has_module modules name ≡ true
has-at [] m name (k, lt, is) named = absurd (omega (arith, lt))
has-at (x ∷ modules) m name (zero, lt, is) named = ap (λ (b : Bool). b || has_module modules name) ((bytes_eq-Decides name x.name).1 (sym (ap (λ (y : Module). y.name) is ∙ named)))
has-at (x ∷ modules) m name (suc k, lt, is) named = or-true (bytes_eq name x.name) (has_module modules name) (has-at modules m name (k, omega (arith, lt), is) named)

pub has-from : (modules : List Module) (name : List ℕ) → has_module modules name ≡ true → (m : Module) × Contains modules m × (m.name ≡ name)
has-from [] name has = absurd (false≢true has)
has-from (x ∷ modules) name has = by (bytes_eq name x.name) refl has (λ rest. has-from modules name rest)
  where
    by : (b : Bool) → bytes_eq name x.name ≡ b → (b || has_module modules name) ≡ true → (has_module modules name ≡ true → (m : Module) × Contains modules m × (m.name ≡ name))
        → (m : Module) × Contains (x ∷ modules) m × (m.name ≡ name)
    by true e has rest = (x, (0, omega arith, refl), sym (same_name name x.name e))
    by false e has rest = let held = rest has in (held.0, (suc held.1.0, omega (arith, held.1.1), held.1.2), held.2)

-- a module more
pub has-more : (modules more : List Module) (name : List ℕ) → has_module modules name ≡ true → has_module (modules ++ more) name ≡ true
has-more modules more name has = list_any-append (λ (m : Module). bytes_eq name m.name) modules more ∙ ap (λ (b : Bool). b || has_module more name) has

pub has-pushed : (modules : List Module) (m : Module) → has_module (modules ++ m ∷ []) m.name ≡ true
has-pushed modules m = has-at (modules ++ m ∷ []) m m.name (pushed modules m) refl
  where
    pushed : (modules : List Module) (m : Module) → Contains (modules ++ m ∷ []) m
    pushed [] m = (0, omega arith, refl)
    pushed (x ∷ modules) m = let held = pushed modules m in (suc held.0, omega (arith, held.1), held.2)

-- ---- numbers of modules

module _ (modules : List Module) where
  pub numbered-push : (numbers : List ℕ) (found : List Module) (n : ℕ) (m : Module) → numbered modules numbers found → slice_get modules n ≡ Some m → numbered modules (numbers ++ n ∷ []) (found ++ m ∷ [])
  numbered-push [] [] n m all at = (at, tt)
  numbered-push [] (y ∷ found) n m all at = absurd all
  numbered-push (x ∷ numbers) [] n m all at = absurd all
  numbered-push (x ∷ numbers) (y ∷ found) n m all at = (all.0, numbered-push numbers found n m all.1 at)

  pub numbered-has : (numbers : List ℕ) (found : List Module) (n : ℕ) (m : Module) → numbered modules numbers found → Contains numbers n → slice_get modules n ≡ Some m → Contains found m
  numbered-has [] found n m all (k, lt, is) at = absurd (omega (arith, lt))
  numbered-has (x ∷ numbers) [] n m all held at = absurd all
  numbered-has (x ∷ numbers) (y ∷ found) n m all (zero, lt, is) at = (0, omega arith, same_Some y m (sym all.0 ∙ ap (slice_get modules) is ∙ at))
  numbered-has (x ∷ numbers) (y ∷ found) n m all (suc k, lt, is) at = let held = numbered-has numbers found n m all.1 (k, omega (arith, lt), is) at in (suc held.0, omega (arith, held.1), held.2)

  pub numbered-number : (numbers : List ℕ) (found : List Module) (m : Module) → numbered modules numbers found → Contains found m → (n : ℕ) × Contains numbers n × (slice_get modules n ≡ Some m)
  numbered-number [] [] m all (k, lt, is) = absurd (omega (arith, lt))
  numbered-number [] (y ∷ found) m all held = absurd all
  numbered-number (x ∷ numbers) [] m all (k, lt, is) = absurd (omega (arith, lt))
  numbered-number (x ∷ numbers) (y ∷ found) m all (zero, lt, is) = (x, (0, omega arith, refl), all.0 ∙ ap Some is)
  numbered-number (x ∷ numbers) (y ∷ found) m all (suc k, lt, is) = let held = numbered-number numbers found m all.1 (k, omega (arith, lt), is) in (held.0, (suc held.1.0, omega (arith, held.1.1), held.1.2), held.2)

  -- numbers tell which modules they are
  pub numbered-same : (numbers : List ℕ) (a b : List Module) → numbered modules numbers a → numbered modules numbers b → a ≡ b
  numbered-same [] [] [] h k = refl
  numbered-same [] [] (y ∷ b) h k = absurd k
  numbered-same [] (x ∷ a) b h k = absurd h
  numbered-same (n ∷ numbers) [] b h k = absurd h
  numbered-same (n ∷ numbers) (x ∷ a) [] h k = absurd k
  numbered-same (n ∷ numbers) (x ∷ a) (y ∷ b) h k = let first = same_Some x y (sym h.0 ∙ k.0) in let rest = numbered-same numbers a b h.1 k.1 in cc
