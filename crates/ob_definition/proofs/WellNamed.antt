-- Names of the models that entries make: distinct, as are those of a model's fields and of its checks.
use Rattle.std.proofs.Common.{◌≡◌, ◌≢◌, ℕ, zero, suc, ◌<◌, Bool, true, false, cond, ◌||◌, List, [], ◌∷◌, ◌++◌, map, length, get_or, Option, Some, None, is_some, refl, sym, subst, ◌∙◌, arith}
use Rattle.std.specs.List.{All, AllPairs, find, list_any}
use Rattle.std.specs.Prelude.{option_and_then}
use Rattle.std.specs.Str.{bytes_eq}
use Rattle.std.proofs.lemmas.List.{get_or-map, length-map}
use Rattle.std.proofs.lemmas.List.Elements.{All-cons, All-head, All-map, All-push, All-tail, All-weaker}
use Rattle.std.proofs.lemmas.List.Kept.{AllPairs-cons}
use Rattle.std.proofs.lemmas.List.Quantifiers.{all_pairs_push}
use Rattle.std.proofs.lemmas.Slice.Eq.{bytes_eq-Decides}
use Rattle.ob_definition.specs.declared.definition.Check.{Check}
use Rattle.ob_definition.specs.declared.definition.FieldDef.{FieldDef}
use Rattle.ob_definition.specs.declared.definition.ModelDef.{ModelDef}
use Rattle.ob_definition.specs.Definitions.{is_automatic}
use Rattle.ob_definition.specs.Gathered.{AreWellNamed, Declared, DeclaredCheck, Gathered, IsWellNamed, added, begun, begun_new, blank, check_at, copied, field_at, gathered, gathered_from, is_check, is_declared, is_taken}
use Rattle.ob_definition.specs.Gathered.{model_of, opened, opened_by, put, with_check, with_checks, with_entry, with_field, with_fields, with_opened}

-- ---- lists

or_false : (a b : Bool) → a || b ≡ false → (a ≡ false) × (b ≡ false)
or_false true b e = absurd (let s : ◌≡◌ {A = Bool} true false = e in cc)
or_false false b e = (refl, e)

-- where none passes, each fails
none_passes : {X : Type 0} (p : X → Bool) (xs : List X) → list_any p xs ≡ false → (k : ℕ) (d : X) → k < length xs → p (get_or xs k d) ≡ false
none_passes p [] none k d within = absurd (omega (arith, within))
none_passes p (x ∷ xs) none zero d within = (or_false (p x) (list_any p xs) none).0
none_passes p (x ∷ xs) none (suc k) d within = none_passes p xs (or_false (p x) (list_any p xs) none).1 k d (omega (arith, within))

all-none : {X : Type 0} (P : X → Type 0) → All P []
all-none P k d within = absurd (omega (arith, within))

pairs-none : {X : Type 0} (R : X → X → Type 0) → AllPairs R []
pairs-none R i j d less within = absurd (omega (arith, within))

pairs-head : {X : Type 0} (R : X → X → Type 0) (x : X) (xs : List X) → AllPairs R (x ∷ xs) → All (R x) xs
pairs-head R x xs pairs k d within = pairs 0 (suc k) d (omega arith) (omega (arith, within))

pairs-tail : {X : Type 0} (R : X → X → Type 0) (x : X) (xs : List X) → AllPairs R (x ∷ xs) → AllPairs R xs
pairs-tail R x xs pairs i j d less within = pairs (suc i) (suc j) d (omega (arith, less)) (omega (arith, within))

pub pairs-map : {X Y : Type 0} (R : Y → Y → Type 0) (g : X → Y) (xs : List X) → AllPairs (λ a b. R (g a) (g b)) xs → AllPairs R (map g xs)
pairs-map R g [] pairs = pairs-none R
pairs-map R g (x ∷ xs) pairs =
    AllPairs-cons R (g x) (map g xs) (All-map (R (g x)) g xs (pairs-head (λ a b. R (g a) (g b)) x xs pairs)) (pairs-map R g xs (pairs-tail (λ a b. R (g a) (g b)) x xs pairs))

-- what holds of each two values holds of each two items
pub pairs-unmap : {X Y : Type 0} (R : Y → Y → Type 0) (g : X → Y) (xs : List X) → AllPairs R (map g xs) → AllPairs (λ a b. R (g a) (g b)) xs
pairs-unmap {X} {Y} R g xs pairs i j d less within =
    let size : length (map g xs) ≡ length xs = length-map xs g in
    let both : R (get_or (map g xs) i (g d)) (get_or (map g xs) j (g d)) = pairs i j (g d) less (omega (arith, within, size)) in
    let early : get_or (map g xs) i (g d) ≡ g (get_or xs i d) = get_or-map g xs i d (g d) (omega (arith, less, within)) in
    let late : get_or (map g xs) j (g d) ≡ g (get_or xs j d) = get_or-map g xs j d (g d) within in
    subst (λ (y : Y). R (g (get_or xs i d)) y) late (subst (λ (y : Y). R y (get_or (map g xs) j (g d))) early both)

-- what holds of all holds of one that is found
found-holds : {X : Type 0} (P : X → Type 0) (p : X → Bool) (xs : List X) → All P xs → (x : X) → find p xs ≡ Some x → P x
found-holds {X} P p [] all x e = absurd (let s : ◌≡◌ {A = Option X} None (Some x) = e in cc)
found-holds {X} P p (y ∷ ys) all x e = by (p y) e (λ f. found-holds P p ys (All-tail P y ys all) x f)
  where
    by : (b : Bool) → cond b (Some y) (find p ys) ≡ Some x → (find p ys ≡ Some x → P x) → P x
    by true f rest =
        let same : y ≡ x = let s : ◌≡◌ {A = Option X} (Some y) (Some x) = f in cc in
        subst P same (All-head P y ys all)
    by false f rest = rest f

-- ---- the fields and checks of a model

abbrev AreNamed : List Declared → Type 0
AreNamed fields = AllPairs (λ a b. a.def.name ≢ b.def.name) fields × All (λ f. is_automatic f.def.name ≡ false) fields

with_field-named : (n : ℕ) (fields : List Declared) (f : FieldDef) → AreNamed fields → AreNamed (with_field n fields f)
with_field-named n fields f named = by (is_taken fields f.name) refl
  where
    by : (b : Bool) → is_taken fields f.name ≡ b → AreNamed (cond b fields (fields ++ field_at n f ∷ []))
    by true e = named
    by false e =
        let free = or_false (is_automatic f.name) (is_declared fields f.name) e in
        let new : (k : ℕ) (d : Declared) → k < length fields → (get_or fields k d).def.name ≡ f.name → ⊥ =
        λ k d within same. absurd
        (let s : ◌≡◌ {A = Bool} true false = sym ((bytes_eq-Decides (get_or fields k d).def.name f.name).1 same) ∙ none_passes (λ g. bytes_eq g.def.name f.name) fields free.1 k d within in cc) in
        (all_pairs_push (λ a b. a.def.name ≢ b.def.name) fields (field_at n f) named.0 new, All-push (λ g. is_automatic g.def.name ≡ false) fields (field_at n f) named.1 free.0)

with_fields-named : (n : ℕ) (fields : List Declared) (fs : List FieldDef) → AreNamed fields → AreNamed (with_fields n fields fs)
with_fields-named n fields [] named = named
with_fields-named n fields (f ∷ fs) named = with_fields-named n (with_field n fields f) fs (with_field-named n fields f named)

abbrev AreChecksNamed : List DeclaredCheck → Type 0
AreChecksNamed checks = AllPairs (λ a b. a.check.name ≢ b.check.name) checks

-- checks with one more, whose name is free
pub apart-push : (checks : List DeclaredCheck) (k : DeclaredCheck) → is_check checks k.check.name ≡ false → AreChecksNamed checks → AreChecksNamed (checks ++ k ∷ [])
apart-push checks k free named = all_pairs_push (λ a b. a.check.name ≢ b.check.name) checks k named new
  where
    new : (j : ℕ) (d : DeclaredCheck) → j < length checks → (get_or checks j d).check.name ≡ k.check.name → ⊥
    new j d within same =
        absurd
        (let s : ◌≡◌ {A = Bool} true false = sym ((bytes_eq-Decides (get_or checks j d).check.name k.check.name).1 same) ∙ none_passes (λ g. bytes_eq g.check.name k.check.name) checks free j d within in cc)

with_check-named : (n : ℕ) (checks : List DeclaredCheck) (c : Check) → AreChecksNamed checks → AreChecksNamed (with_check n checks c)
with_check-named n checks c named = by (is_check checks c.name) refl
  where
    by : (b : Bool) → is_check checks c.name ≡ b → AreChecksNamed (cond b checks (checks ++ check_at n c ∷ []))
    by true e = named
    by false e = apart-push checks (check_at n c) e named

with_checks-named : (n : ℕ) (checks : List DeclaredCheck) (cs : List Check) → AreChecksNamed checks → AreChecksNamed (with_checks n checks cs)
with_checks-named n checks [] named = named
with_checks-named n checks (c ∷ cs) named = with_checks-named n (with_check n checks c) cs (with_check-named n checks c named)

added-named : (n : ℕ) (def : ModelDef) (g : Gathered) → IsWellNamed g → IsWellNamed (added n def g)
added-named n def g named =
    let fields = with_fields-named n g.fields def.fields (named.fields, named.free) in
    record { fields = fields.0; free = fields.1; checks = with_checks-named n g.checks def.checks named.checks }

begun-named : (def : ModelDef) (g : Gathered) → IsWellNamed g → IsWellNamed (begun def g)
begun-named def g named = record { fields = named.fields; free = named.free; checks = named.checks }

blank-named : (n : ℕ) (name : List ℕ) → IsWellNamed (blank n name)
blank-named n name = record {
  fields = pairs-none (λ a b. a.def.name ≢ b.def.name);
  free = all-none (λ f. is_automatic f.def.name ≡ false);
  checks = pairs-none (λ a b. a.check.name ≢ b.check.name);
}

copied-named : (n : ℕ) (name : List ℕ) (g : Gathered) → IsWellNamed g → IsWellNamed (copied n name g)
copied-named n name g named = record {
  fields = pairs-map (λ a b. a.def.name ≢ b.def.name) (λ f. field_at n f.def) g.fields named.fields;
  free = All-map (λ f. is_automatic f.def.name ≡ false) (λ (f : Declared). field_at n f.def) g.fields named.free;
  checks = pairs-map (λ a b. a.check.name ≢ b.check.name) (λ c. check_at n c.check) g.checks named.checks;
}

-- ---- the models

abbrev AreApart : Gathered → Gathered → Type 0
AreApart a b = a.name ≢ b.name

all-put : (P : Gathered → Type 0) (model : Gathered) (models : List Gathered) → P model → All P models → All P (put model models)
all-put P model [] own all = All-cons P model [] own (all-none P)
all-put P model (m ∷ models) own all = by (bytes_eq m.name model.name) (all-put P model models own (All-tail P m models all))
  where
    by : (b : Bool) → All P (put model models) → All P (cond b (model ∷ models) (m ∷ put model models))
    by true rest = All-cons P model models own (All-tail P m models all)
    by false rest = All-cons P m (put model models) (All-head P m models all) rest

put-apart : (model : Gathered) (models : List Gathered) → AllPairs AreApart models → AllPairs AreApart (put model models)
put-apart model [] pairs = AllPairs-cons AreApart model [] (all-none (AreApart model)) (pairs-none AreApart)
put-apart model (m ∷ models) pairs = by (bytes_eq m.name model.name) refl (put-apart model models (pairs-tail AreApart m models pairs))
  where
    by : (b : Bool) → bytes_eq m.name model.name ≡ b → AllPairs AreApart (put model models) → AllPairs AreApart (cond b (model ∷ models) (m ∷ put model models))
    by true e rest =
        let same : m.name ≡ model.name = (bytes_eq-Decides m.name model.name).0 e in
        AllPairs-cons AreApart model models (All-weaker (AreApart m) (AreApart model) (λ g apart is. apart (same ∙ is)) models (pairs-head AreApart m models pairs)) (pairs-tail AreApart m models pairs)
    by false e rest =
        let apart : m.name ≡ model.name → ⊥ = λ is. absurd (let s : ◌≡◌ {A = Bool} true false = sym ((bytes_eq-Decides m.name model.name).1 is) ∙ e in cc) in
        AllPairs-cons AreApart m (put model models) (all-put (AreApart m) model models apart (pairs-head AreApart m models pairs)) rest

put-named : (model : Gathered) (models : List Gathered) → IsWellNamed model → AreWellNamed models → AreWellNamed (put model models)
put-named model models own named = record { distinct = put-apart model models named.distinct; each = all-put IsWellNamed model models own named.each }

-- an optional model is well named
abbrev IsNamed : Option Gathered → Type 0
IsNamed o = (g : Gathered) → o ≡ Some g → IsWellNamed g

none-named : IsNamed None
none-named g e = absurd (let s : ◌≡◌ {A = Option Gathered} None (Some g) = e in cc)

some-named : (m : Gathered) → IsWellNamed m → IsNamed (Some m)
some-named m own g e =
    let same : m ≡ g = let s : ◌≡◌ {A = Option Gathered} (Some m) (Some g) = e in cc in
    subst IsWellNamed same own

begun_new-named : (models : List Gathered) (def : ModelDef) (g : Gathered) → IsWellNamed g → IsNamed (begun_new models def g)
begun_new-named models def g own = by (is_some (model_of models g.name))
  where
    by : (b : Bool) → IsNamed (cond b None (Some (begun def g)))
    by true = none-named
    by false = some-named (begun def g) (begun-named def g own)

opened-named : (models : List Gathered) (n : ℕ) (def : ModelDef) (name inherit : Option (List ℕ)) → AreWellNamed models → IsNamed (opened_by models n def name inherit)
opened-named models n def None None named = none-named
opened-named models n def None (Some base) named = found-holds IsWellNamed (λ m. bytes_eq m.name base) models named.each
opened-named models n def (Some name) None named = begun_new-named models def (blank n name) (blank-named n name)
opened-named models n def (Some name) (Some base) named = by (model_of models base) (found-holds IsWellNamed (λ m. bytes_eq m.name base) models named.each)
  where
    by : (o : Option Gathered) → IsNamed o → IsNamed (option_and_then (λ m. begun_new models def (copied n name m)) o)
    by None own = none-named
    by (Some m) own = begun_new-named models def (copied n name m) (copied-named n name m (own m refl))

with_opened-named : (n : ℕ) (def : ModelDef) (o : Option Gathered) (models : List Gathered) → IsNamed o → AreWellNamed models → AreWellNamed (with_opened n def o models)
with_opened-named n def None models own named = named
with_opened-named n def (Some m) models own named = put-named (added n def m) models (added-named n def m (own m refl)) named

gathered_from-named : (n : ℕ) (models : List Gathered) (defs : List ModelDef) → AreWellNamed models → AreWellNamed (gathered_from n models defs)
gathered_from-named n models [] named = named
gathered_from-named n models (def ∷ defs) named =
    gathered_from-named (suc n) (with_entry n models def) defs (with_opened-named n def (opened models n def) models (opened-named models n def def.name def.inherit named) named)

-- the models of definitions are well named
pub gathered-named : (defs : List ModelDef) → AreWellNamed (gathered defs)
gathered-named defs = gathered_from-named 0 [] defs (record { distinct = pairs-none AreApart; each = all-none IsWellNamed })
