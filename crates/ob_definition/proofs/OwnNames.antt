-- The names that a model has without its links: automatic ones, declared ones, and that of the path in its tree.
use Rattle.std.proofs.Common.{◌≡◌, ℕ, Bool, true, false, cond, ◌||◌, ◌&&◌, List, [], ◌∷◌, ◌++◌, map, Option, Some, None, option_map, is_some, refl, sym, ap, ◌∙◌}
use Rattle.std.specs.Borrow.{Bor}
use Rattle.std.specs.List.{list_any}
use Rattle.std.specs.Str.{bytes_eq}
use Rattle.std.proofs.lemmas.List.Folds.{list_any-append}
use Rattle.std.proofs.lemmas.Slice.Eq.{bytes_eq-Decides}
use Rattle.ob_definition.specs.Definitions.{is_automatic, is_one_of}
use Rattle.ob_definition.specs.Gathered.{Declared, Gathered, is_declared}
use Rattle.ob_definition.specs.Members.{Member, automatic_defs, given_members, names_of, own_member, path_def, path_members, path_name}
use Rattle.ob_definition.proofs.ListTests.{list_any-map}

-- two texts are equal in either order
pub bytes_eq-sym : (a b : List ℕ) → bytes_eq a b ≡ bytes_eq b a
bytes_eq-sym a b = by (bytes_eq a b) (bytes_eq b a) refl refl
  where
    by : (x y : Bool) → bytes_eq a b ≡ x → bytes_eq b a ≡ y → x ≡ y
    by true true e f = refl
    by false false e f = refl
    by true false e f = absurd (let s : ◌≡◌ {A = Bool} true false = sym ((bytes_eq-Decides b a).1 (sym ((bytes_eq-Decides a b).0 e))) ∙ f in cc)
    by false true e f = absurd (let s : ◌≡◌ {A = Bool} true false = sym ((bytes_eq-Decides a b).1 (sym ((bytes_eq-Decides b a).0 f))) ∙ e in cc)

-- a declared name is one of the names of the fields
members-declared : (fields : List Declared) (name : List ℕ) → list_any (λ (m : Member). bytes_eq name m.def.name) (map (λ (f : Declared). own_member f.entry f.def) fields) ≡ is_declared fields name
members-declared [] name = refl
members-declared (f ∷ fields) name =
    ap (λ (b : Bool). b || list_any (λ (m : Member). bytes_eq name m.def.name) (map (λ (g : Declared). own_member g.entry g.def) fields)) (bytes_eq-sym name f.def.name)
    ∙ ap (λ (b : Bool). bytes_eq f.def.name name || b) (members-declared fields name)

-- the path's name is taken in one way or the other
path-named : (g : Gathered) (parent : Option (List ℕ)) (name : List ℕ)
    → (is_declared g.fields name || list_any (λ (m : Member). bytes_eq name m.def.name) (path_members g parent)) ≡ (is_declared g.fields name || (is_some parent && bytes_eq name path_name))
path-named g None name = refl
path-named g (Some parent) name = by (is_declared g.fields path_name) (bytes_eq name path_name) refl refl
  where
    or_none : (b : Bool) → ((b || false) ≡ b)
    or_none true = refl
    or_none false = refl

    by : (declared same : Bool) → is_declared g.fields path_name ≡ declared → bytes_eq name path_name ≡ same
        → (is_declared g.fields name || list_any (λ (m : Member). bytes_eq name m.def.name) (cond declared [] (own_member g.entry (path_def parent) ∷ []))) ≡ (is_declared g.fields name || same)
    by true true e f =
        let there : is_declared g.fields name ≡ true = ap (is_declared g.fields) ((bytes_eq-Decides name path_name).0 f) ∙ e in
        ap (λ (b : Bool). b || false) there ∙ sym (ap (λ (b : Bool). b || true) there)
    by true false e f = refl
    by false same e f = ap (λ (b : Bool). is_declared g.fields name || b) (or_none (bytes_eq name path_name) ∙ f)

or_assoc : (a b c : Bool) → (a || (b || c)) ≡ (a || b || c)
or_assoc true b c = refl
or_assoc false b c = refl

-- whether a model has a field of a name, by the tests in turn
pub own_names : (g : Gathered) (name : List ℕ) → is_one_of (names_of (given_members g)) name ≡ (is_automatic name || is_declared g.fields name || (is_some g.parent && bytes_eq name path_name))
own_names g name =
    let test : Member → Bool = λ m. bytes_eq name m.def.name in
    let given = map (own_member g.entry) automatic_defs in
    let fields = map (λ (f : Declared). own_member f.entry f.def) g.fields in
    let path = path_members g g.parent in
    list_any-map (bytes_eq name) (λ (m : Member). m.def.name) (given_members g)
    ∙ list_any-append test (given ++ fields) path
    ∙ ap (λ (b : Bool). b || list_any test path) (list_any-append test given fields)
    ∙ sym (or_assoc (list_any test given) (list_any test fields) (list_any test path))
    ∙ ap (λ (b : Bool). is_automatic name || (b || list_any test path)) (members-declared g.fields name)
    ∙ ap (λ (b : Bool). is_automatic name || b) (path-named g g.parent name)
    ∙ or_assoc (is_automatic name) (is_declared g.fields name) (is_some g.parent && bytes_eq name path_name)

-- whether a model is a tree, by what the program holds of it
pub is_some-held : (g : Gathered) (held : Option (Bor (List ℕ))) → option_map (λ text. text.now) held ≡ g.parent → is_some held ≡ is_some g.parent
is_some-held g held is = by held ∙ ap (λ (o : Option (List ℕ)). is_some o) is
  where
    by : (o : Option (Bor (List ℕ))) → is_some o ≡ is_some (option_map (λ (text : Bor (List ℕ)). text.now) o)
    by None = refl
    by (Some text) = refl
