-- A model as it is made: what its keys name has its number.
use Rattle.std.proofs.Common.{◌≡◌, ℕ, zero, suc, Bool, true, Option, Some, None, List, [], ◌∷◌, map, refl, sym, ap, subst, ◌∙◌, ◌||◌}
use Rattle.std.specs.Prelude.{All, Contains, IsSomeAnd, option_map, slice_get}
use Rattle.std.specs.Option.{is_none}
use Rattle.std.specs.List.{AllZip, list_any}
use Rattle.std.proofs.lemmas.List.Elements.{All-head, All-tail}
use Rattle.ob_base.specs.declared.id.FieldNo.{FieldNo}
use Rattle.ob_base.specs.declared.id.ModelNo.{ModelNo}
use Rattle.ob_definition.specs.Gathered.{DeclaredSet, Gathered}
use Rattle.ob_definition.specs.Members.{Member, members_of, hidden_members, hidden_number, named, number_named, number_of}
use Rattle.ob_definition.specs.Orders.{Term}
use Rattle.ob_schema.specs.declared.info.FieldInfo.{FieldInfo}
use Rattle.ob_schema.specs.declared.info.OrderTerm.{OrderTerm}
use Rattle.ob_registry.specs.declared.model.Model.{Model as KeptModel}
use Rattle.ob_registry.specs.Building.{AreFieldsOf, AreNumbers}
use Rattle.ob_schema.specs.Built.{IsFieldOf, numbered}
use Rattle.ob_registry.specs.Faults.{HasUnknown, is_unknown, names_of_terms}
use Rattle.ob_registry.specs.ModelFields.{members_in, named_in, number_in}
use Rattle.ob_registry.specs.Modelling.{IsModelled}
use Rattle.ob_registry.proofs.NameOrder.{named_found}
use Rattle.ob_registry.proofs.NamedFields.{member_hidden, member_named, named_modelled, number_modelled}
use Rattle.ob_registry.proofs.Somes.{none_passes}

-- the same values, each in a `Some`
somes_same : {X : Type 0} (xs ys : List X) → map (λ (x : X). Some x) xs ≡ map (λ (y : X). Some y) ys → xs ≡ ys
somes_same [] [] e = refl
somes_same [] (y ∷ ys) e = absurd (cc)
somes_same (x ∷ xs) [] e = absurd (cc)
somes_same {X = X} (x ∷ xs) (y ∷ ys) e =
    let head : x ≡ y = cc in
    let tails : map (λ (x : X). Some x) xs ≡ map (λ (y : X). Some y) ys = cc in
    let tail : xs ≡ ys = somes_same xs ys tails in
    ap (λ (z : X). z ∷ xs) head ∙ ap (λ (l : List X). y ∷ l) tail

pub agree_all : {X Y : Type 0} (f h : X → Y) (xs : List X) → All (λ x. f x ≡ h x) xs → map f xs ≡ map h xs
agree_all f h [] agree = refl
agree_all {Y = Y} f h (x ∷ xs) agree =
    ap (λ (z : Y). z ∷ map f xs) (All-head (λ x. f x ≡ h x) x xs agree) ∙ ap (λ (l : List Y). h x ∷ l) (agree_all f h xs (All-tail (λ x. f x ≡ h x) x xs agree))

map_after : {A B C : Type 0} (f : A → B) (g : B → C) (xs : List A) → map g (map f xs) ≡ map (λ x. g (f x)) xs
map_after f g [] = refl
map_after {C = C} f g (x ∷ xs) = ap (λ (l : List C). g (f x) ∷ l) (map_after f g xs)

any_agree : {X : Type 0} (p q : X → Bool) → ((x : X) → p x ≡ q x) → (xs : List X) → list_any p xs ≡ list_any q xs
any_agree p q agree [] = refl
any_agree p q agree (x ∷ xs) = ap (λ (b : Bool). b || list_any p xs) (agree x) ∙ ap (λ (b : Bool). q x || b) (any_agree p q agree xs)

module _ (models : List Gathered) (g : Gathered) (model : KeptModel) (is : IsModelled models g model) where
  abbrev front : List Member
  front = named_in model.named model.members.items

  pub unknown_front : (names : List (List ℕ)) → list_any (is_unknown front) names ≡ list_any (is_unknown (members_of models g)) names
  unknown_front names = any_agree (is_unknown front) (is_unknown (members_of models g)) (λ name. ap is_none (named_modelled models g model is name)) names

  -- a known name has its number
  pub known_number : (name : List ℕ) → (is_unknown (members_of models g) name ≡ true → ⊥) → number_named models g name ≡ Some (number_of models g name)
  known_number name known = by (named (members_of models g) name) refl
    where
      by : (o : Option Member) → named (members_of models g) name ≡ o → option_map (λ m. number_of models g m.def.name) o ≡ Some (number_of models g name)
      by None e = absurd (known (ap is_none e))
      by (Some m) e = ap (λ (n : List ℕ). Some (number_of models g n)) (named_found (members_of models g) name m e).1

  -- the numbers of known names
  pub numbers_known : (names : List (List ℕ)) (numbers : List FieldNo) → AreNumbers front names numbers → (HasUnknown (members_of models g) names → ⊥) → numbers ≡ map (number_of models g) names
  numbers_known names numbers are known =
      let own : HasUnknown front names → ⊥ = λ e. known (sym (unknown_front names) ∙ e) in
      let each : All (λ name. number_in front name ≡ Some (number_of models g name)) names = λ k d within.
      number_modelled models g model is _ ∙ known_number _ (none_passes (is_unknown (members_of models g)) names known k d within) in
      somes_same numbers (map (number_of models g) names)
      (are own ∙ agree_all (number_in front) (λ name. Some (number_of models g name)) names each ∙ sym (map_after (number_of models g) (λ (n : FieldNo). Some n) names))

  -- sets of known names
  pub sets_known : (sets : List DeclaredSet) (unique : List (List FieldNo)) → AllZip (λ u. AreNumbers front u.names) sets unique → All (λ u. HasUnknown (members_of models g) u.names → ⊥) sets
      → unique ≡ map (λ (u : DeclaredSet). map (number_of models g) u.names) sets
  sets_known [] [] zip known = refl
  sets_known [] (u ∷ us) zip known = absurd zip
  sets_known (s ∷ ss) [] zip known = absurd zip
  sets_known (s ∷ ss) (u ∷ us) zip known =
      let P : DeclaredSet → Type 0 = λ u. HasUnknown (members_of models g) u.names → ⊥ in
      ap (λ (l : List FieldNo). l ∷ us) (numbers_known s.names u zip.0 (All-head P s ss known)) ∙ ap (λ (l : List (List FieldNo)). map (number_of models g) s.names ∷ l) (sets_known ss us zip.1 (All-tail P s ss known))

  -- the fields of a model stand at their numbers
  stands : (infos : List FieldInfo) (number : ModelNo) → AreFieldsOf models model g number infos → (m : Member) (field : FieldNo) → numbered (members_in model.members.items) field.0 ≡ Some m
      → IsSomeAnd (numbered infos field.0) (IsFieldOf (record { models = models; number = number; member = m }) g field)
  stands infos number of m field at = by field.0 refl at
    where
      by : (n : ℕ) → field.0 ≡ n → numbered (members_in model.members.items) n ≡ Some m → IsSomeAnd (numbered infos n) (IsFieldOf (record { models = models; number = number; member = m }) g field)
      by zero e at = absurd (cc)
      by (suc k) e at =
          let own : FieldNo = record { 0 = suc k } in
          let same : own ≡ field = ap (λ (n : ℕ). let f : FieldNo = record { 0 = n } in f) (sym e) in
          subst (λ (f : FieldNo). IsSomeAnd (slice_get infos k) (IsFieldOf (record { models = models; number = number; member = m }) g f)) same (of k m at)

  pub named_stand : (infos : List FieldInfo) (number : ModelNo) → AreFieldsOf models model g number infos → (m : Member) → Contains (members_of models g) m
      → IsSomeAnd (numbered infos (number_of models g m.def.name).0) (IsFieldOf (record { models = models; number = number; member = m }) g (number_of models g m.def.name))
  named_stand infos number of m here = stands infos number of m (number_of models g m.def.name) (member_named models g model is m here)

  pub hidden_stand : (infos : List FieldInfo) (number : ModelNo) → AreFieldsOf models model g number infos → (m : Member) → Contains (hidden_members g) m
      → IsSomeAnd (numbered infos (hidden_number models g m.def.name).0) (IsFieldOf (record { models = models; number = number; member = m }) g (hidden_number models g m.def.name))
  hidden_stand infos number of m here = stands infos number of m (hidden_number models g m.def.name) (member_hidden models g model is m here)

-- terms by their parts
pub terms_same : (terms : List OrderTerm) (given : List Term) (number : List ℕ → FieldNo) → map (λ (t : OrderTerm). t.field) terms ≡ map number (names_of_terms given)
    → map (λ (t : OrderTerm). t.descending) terms ≡ map (λ (t : Term). t.descending) given
    → terms ≡ map (λ (t : Term). let o : OrderTerm = record { field = number t.name; descending = t.descending } in o) given
terms_same [] [] number e f = refl
terms_same [] (t ∷ ts) number e f = absurd (cc)
terms_same (o ∷ os) [] number e f = absurd (cc)
terms_same (o ∷ os) (t ∷ ts) number e f =
    let field : o.field ≡ number t.name = cc in
    let direction : o.descending ≡ t.descending = cc in
    let others : map (λ (t : OrderTerm). t.field) os ≡ map number (names_of_terms ts) = cc in
    let directions : map (λ (t : OrderTerm). t.descending) os ≡ map (λ (t : Term). t.descending) ts = cc in
    let built : Term → OrderTerm = λ t. record { field = number t.name; descending = t.descending } in
    let first : o ≡ built t = ap (λ (n : FieldNo). let r : OrderTerm = record { field = n; descending = o.descending } in r) field ∙ ap (λ (d : Bool). let r : OrderTerm = record { field = number t.name; descending = d } in r) direction in
    ap (λ (r : OrderTerm). r ∷ os) first ∙ ap (λ (l : List OrderTerm). built t ∷ l) (terms_same os ts number others directions)
