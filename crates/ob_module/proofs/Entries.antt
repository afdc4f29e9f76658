-- Modules as a map of documents by their names has them.
use Rattle.std.proofs.Common.{◌≡◌, ◌≢◌, ℕ, zero, suc, ◌||◌, Bool, false, List, [], ◌∷◌, ◌++◌, map, position, option_map, Option, None, Some, is_some, refl, sym, ap, ◌∙◌}
use Rattle.std.specs.Prelude.{slice_get, string_bytes, String}
use Rattle.std.specs.declared.alloc.Global.{Global}
use Rattle.std.specs.List.{AllByRecursion, IsDistinct, list_any}
use Rattle.std.specs.Map.{keys_of, lookup, lookup_key}
use Rattle.std.specs.Str.{bytes_eq}
use Rattle.std.specs.String.{string_eq}
use Rattle.std.proofs.lemmas.Bool.{false≢true}
use Rattle.std.proofs.lemmas.List.{map-append}
use Rattle.std.proofs.lemmas.Map.Made.{is_some-lookup, lookup_key_passes}
use Rattle.std.proofs.lemmas.Option.{same_Some, slice_get-map}
use Rattle.std.proofs.lemmas.Slice.Eq.{bytes_eq-Decides}
use Rattle.indexmap.proofs.MapLemmas.{Found-position}
use Rattle.ob_module.specs.Modules.{AreApart, Module, has_module}
use Rattle.toml.specs.Data.{Members}
use Rattle.ob_module.proofs.Numbered.{element-at, same_name}

module _ {V : Type 0} (shown : V → Members) where
  -- a module as an entry has it
  abbrev pub as_module : String Global × V → Module
  as_module e = record { name = string_bytes e.0; document = shown e.1 }

  -- a module is there where its key is
  has-any : (es : List (String Global × V)) (name : List ℕ) → has_module (map as_module es) name ≡ list_any (λ k. bytes_eq name (string_bytes k)) (keys_of es)
  has-any [] name = refl
  has-any (e ∷ es) name = ap (λ (b : Bool). bytes_eq name (string_bytes e.0) || b) (has-any es name)

  pub has-lookup : (es : List (String Global × V)) (name : List ℕ) → has_module (map as_module es) name ≡ is_some (lookup (λ k. bytes_eq name (string_bytes k)) es)
  has-lookup es name = has-any es name ∙ sym (is_some-lookup (λ k. bytes_eq name (string_bytes k)) es)

  -- a key whose name has no module isn't there
  pub not_there : (es : List (String Global × V)) (key : String Global) (name : List ℕ) → string_bytes key ≡ name → has_module (map as_module es) name ≡ false → lookup (string_eq key) es ≡ None
  not_there es key name named none = by (lookup (string_eq key) es) refl
    where
      by : (o : Option V) → lookup (string_eq key) es ≡ o → lookup (string_eq key) es ≡ None
      by None is = is
      by (Some v) is = absurd (false≢true (sym none ∙ ap (λ (l : List ℕ). has_module (map as_module es) l) (sym named) ∙ has-lookup es (string_bytes key) ∙ ap is_some is))

  -- the number of a name is that of its module
  pub numbered-name : (es : List (String Global × V)) (name : List ℕ) (n : ℕ) → position (λ k. bytes_eq name (string_bytes k)) (keys_of es) ≡ Some n
      → (m : Module) × (slice_get (map as_module es) n ≡ Some m) × (m.name ≡ name)
  numbered-name es name n is =
      let test : String Global → Bool = λ k. bytes_eq name (string_bytes k) in
      let found = Found-position test es n is in
      let held = element-at es n found.within in
      let key : lookup_key test es ≡ Some held.0.0 = found.key ∙ slice_get-map (λ (e : String Global × V). e.0) es n ∙ ap (λ (o : Option (String Global × V)). option_map (λ e. e.0) o) held.1 in
      (as_module held.0, slice_get-map as_module es n ∙ ap (λ (o : Option (String Global × V)). option_map as_module o) held.1, sym (same_name name (string_bytes held.0.0) (lookup_key_passes test es held.0.0 key)))

  -- a name more
  pub modules-push : (es new : List (String Global × V)) (key : String Global) (value : V) (name : List ℕ) → new ≡ es ++ (key, value) ∷ [] → string_bytes key ≡ name
      → map as_module new ≡ map as_module es ++ record { name = name; document = shown value } ∷ []
  modules-push es new key value name is named =
      ap (map as_module) is ∙ map-append as_module es ((key, value) ∷ [])
      ∙ ap (λ (l : List ℕ). map as_module es ++ record { name = l; document = shown value } ∷ []) named

  -- keys that differ pairwise are names that do
  never : (k : String Global) (es : List (String Global × V)) → AllByRecursion (λ y. string_eq k y ≡ false) (keys_of es) → (n : ℕ) (m : Module) → slice_get (map as_module es) n ≡ Some m → string_bytes k ≢ m.name
  never k [] all n m at same = absurd (let e : ◌≡◌ {A = Option Module} None (Some m) = at in cc)
  never k (e ∷ es) all zero m at same =
      let own : as_module e ≡ m = same_Some (as_module e) m at in
      absurd (false≢true (sym all.0 ∙ (bytes_eq-Decides (string_bytes k) (string_bytes e.0)).1 (same ∙ ap (λ (x : Module). x.name) (sym own))))
  never k (e ∷ es) all (suc n) m at same = never k es all.1 n m at same

  pub modules-apart : (es : List (String Global × V)) → IsDistinct string_eq (keys_of es) → AreApart (map as_module es)
  unfolding IsDistinct
  modules-apart [] apart a b m n at there same = absurd (let e : ◌≡◌ {A = Option Module} None (Some m) = at in cc)
  modules-apart (e ∷ es) apart zero zero m n at there same = refl
  modules-apart (e ∷ es) apart zero (suc b) m n at there same = absurd (never e.0 es apart.0 b n there (ap (λ (x : Module). x.name) (same_Some (as_module e) m at) ∙ same))
  modules-apart (e ∷ es) apart (suc a) zero m n at there same = absurd (never e.0 es apart.0 a m at (ap (λ (x : Module). x.name) (same_Some (as_module e) n there) ∙ sym same))
  modules-apart (e ∷ es) apart (suc a) (suc b) m n at there same = ap suc (modules-apart es apart.1 a b m n at there same)
