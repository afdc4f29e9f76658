-- The path of a row in its tree, and what is found of a declared field that takes its name.
use Rattle.std.proofs.Common.{◌≡◌, ℕ, ◌<◌, ◌+◌, Bool, true, false, cond, List, [], ◌∷◌, ◌++◌, length, get_or, take, Option, Some, None, option_map, is_some, sym, ap, subst, ◌∙◌, arith}
use Rattle.std.specs.Bool.{then_some}
use Rattle.std.specs.Borrow.{Bor}
use Rattle.std.specs.Str.{bytes_eq}
use Rattle.std.proofs.lemmas.List.Folds.{list_any_at}
use Rattle.std.proofs.lemmas.Slice.Eq.{bytes_eq-Decides}
use Rattle.ob_definition.specs.declared.by_name.FieldEntry.{FieldEntry}
use Rattle.ob_definition.specs.declared.definition.FieldDef.{FieldDef}
use Rattle.ob_definition.specs.declared.fault.SchemaFault.{SchemaFault}
use Rattle.ob_definition.specs.declared.fault.SchemaFault.TheVariants as fault
use Rattle.ob_definition.specs.declared.wrong.Wrong.TheVariants as wrong
use Rattle.ob_definition.specs.ByName.{declared_fields}
use Rattle.ob_definition.specs.Findings.{Adds, IsAt}
use Rattle.ob_definition.specs.Gathered.{Declared, Gathered, field_at, is_declared}
use Rattle.ob_definition.specs.Making.{IsPathFault, TakesPath, path_for, path_made}
use Rattle.ob_definition.specs.Members.{path_def, path_name}
use Rattle.ob_definition.specs.Rooms.{spot_at}
use Rattle.ob_definition.proofs.Adding.{Adds-none, Adds-same}
use Rattle.ob_definition.proofs.ByName.{map-push}
use Rattle.ob_definition.proofs.Copies.{next_front}
use Rattle.ob_definition.proofs.Rooms.{Adds-when, IsTold}
use Rattle.ob_definition.proofs.Tellings.{Adds-more}

-- one declared field takes the name
abbrev OneTakes : Declared → SchemaFault → Type 0
OneTakes f why = (f.def.name ≡ path_name) × (why ≡ fault.Twice (spot_at f.entry path_name))

-- of one field more
pub taken-more : (fields : List FieldEntry) (i : ℕ) (f : FieldEntry) (test : Bool) (a b c : Option SchemaFault) → i < length fields → f ≡ get_or fields i f → test ≡ bytes_eq f.def.now.name path_name
    → Adds (TakesPath (declared_fields (take i fields))) a b → Adds (IsAt (then_some test wrong.Twice) (spot_at f.entry path_name)) b c → Adds (TakesPath (declared_fields (take (i + 1) fields))) a c
taken-more fields i f test a b c within is tests before now =
    let one = field_at f.entry f.def.now in
    let grown : declared_fields (take (i + 1) fields) ≡ declared_fields (take i fields) ++ one ∷ [] =
    ap declared_fields (sym (next_front fields i f within is)) ∙ map-push (λ (e : FieldEntry). field_at e.entry e.def.now) (take i fields) f in
    let told : Adds (OneTakes one) b c =
    Adds-same (IsTold test (fault.Twice (spot_at f.entry path_name))) (OneTakes one) b c (λ why w. ((bytes_eq-Decides f.def.now.name path_name).0 (sym tests ∙ w.0), w.1))
    (λ why w. (tests ∙ (bytes_eq-Decides f.def.now.name path_name).1 w.0, w.1)) (Adds-when test wrong.Twice (spot_at f.entry path_name) b c now) in
    subst (λ (ds : List Declared). Adds (TakesPath ds) a c) (sym grown) (Adds-more OneTakes (declared_fields (take i fields)) one a b c before told)

-- of none
pub taken-none : (a : Option SchemaFault) → Adds (TakesPath []) a a
taken-none a = Adds-none (TakesPath []) a (λ why w. absurd (omega (arith, w.2)))

-- a model that is no tree, one that declares no such field, and one that does
pub path-none : (g : Gathered) (a : Option SchemaFault) → g.parent ≡ None → Adds (IsPathFault g) a a
path-none g a e = Adds-none (IsPathFault g) a (λ why w. absurd (let s : ◌≡◌ {A = Bool} false true = sym (ap (λ (o : Option (List ℕ)). is_some o) e) ∙ w.0 in cc))

pub path-free : (g : Gathered) (a : Option SchemaFault) → is_declared g.fields path_name ≡ false → Adds (IsPathFault g) a a
path-free g a free = Adds-none (IsPathFault g) a none
  where
    none : (why : SchemaFault) → IsPathFault g why → ⊥
    none why (is, (k, f, within, at, takes)) =
        let yes : bytes_eq (get_or g.fields k f).def.name path_name ≡ true = ap (λ (d : Declared). bytes_eq d.def.name path_name) at ∙ (bytes_eq-Decides f.def.name path_name).1 takes.0 in
        let there : is_declared g.fields path_name ≡ true = list_any_at (λ d. bytes_eq d.def.name path_name) g.fields k f within yes in
        absurd (let s : ◌≡◌ {A = Bool} true false = sym there ∙ free in cc)

pub path-taken : (g : Gathered) (parent : List ℕ) (fields : List Declared) (a b : Option SchemaFault) → g.parent ≡ Some parent → fields ≡ g.fields → Adds (TakesPath fields) a b → Adds (IsPathFault g) a b
path-taken g parent fields a b e same adds =
    let is : is_some g.parent ≡ true = ap (λ (o : Option (List ℕ)). is_some o) e in
    let own : Adds (TakesPath g.fields) a b = subst (λ (ds : List Declared). Adds (TakesPath ds) a b) same adds in
    Adds-same (TakesPath g.fields) (IsPathFault g) a b (λ why w. (is, w)) (λ why w. w.1) own

-- the path that is made, likewise
pub path_made-none : (g : Gathered) → g.parent ≡ None → path_made g ≡ None
path_made-none g e = ap (path_for g) e

pub path_made-taken : (g : Gathered) (parent : List ℕ) → g.parent ≡ Some parent → is_declared g.fields path_name ≡ true → path_made g ≡ None
path_made-taken g parent e taken = ap (path_for g) e ∙ ap (λ (b : Bool). cond {A = Option FieldDef} b None (Some (path_def parent))) taken

-- a model's parent, by what the program holds of it
pub parent-none : (g : Gathered) (held : Option (Bor (List ℕ))) → option_map (λ text. text.now) held ≡ g.parent → held ≡ None → g.parent ≡ None
parent-none g held is none = sym is ∙ ap (option_map (λ (text : Bor (List ℕ)). text.now)) none

pub parent-some : (g : Gathered) (held : Option (Bor (List ℕ))) (text : Bor (List ℕ)) → option_map (λ text. text.now) held ≡ g.parent → held ≡ Some text → g.parent ≡ Some text.now
parent-some g held text is some = sym is ∙ ap (option_map (λ (text : Bor (List ℕ)). text.now)) some
