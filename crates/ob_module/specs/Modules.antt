-- Modules that are read: their names and documents, and which of them are named.
use Rattle.std.specs.Prelude.{◌≡◌, ℕ, List, ◌∷◌, codes, Bool, Some, slice_get}
use Rattle.std.specs.List.{AllZip, list_any}
use Rattle.std.specs.Str.{bytes_eq}
use Rattle.toml.specs.Data.{Members}

-- a module that was read, with its document
pub record Module : Type 0 where
  pub name : List ℕ
  pub document : Members

-- whether a module of the name is among these
abbrev pub has_module : List Module → List ℕ → Bool
has_module modules name = list_any (λ m. bytes_eq name m.name) modules

-- no two modules have one name
abbrev pub AreApart : List Module → Type 0
AreApart modules = (a b : ℕ) (m n : Module) → slice_get modules a ≡ Some m → slice_get modules b ≡ Some n → m.name ≡ n.name → a ≡ b

-- modules by their numbers in the order of reading
abbrev pub numbered : List Module → List ℕ → List Module → Type 0
numbered modules numbers found = AllZip (λ n m. slice_get modules n ≡ Some m) numbers found

-- the modules that are loaded in any case, and then those that are named
abbrev pub wanted : List (List ℕ) → List (List ℕ)
wanted names = codes "base" ∷ codes "stock" ∷ names
