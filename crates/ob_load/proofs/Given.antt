-- What values give to fields: a row that is named stands before, and the field leads to its model.
use Rattle.std.proofs.Common.{◌≡◌, inl, inr, ℕ, ◌+◌, ◌<◌, Bool, true, false, List, [], ◌∷◌, length, All, Option, None, Some, refl, sym, ap, subst, ◌∙◌, arith}
use Rattle.std.specs.Prelude.{◌⊎◌, ◌^◌, IsSomeAnd, codes, fold, if◌then◌else◌, is_none, nat_eq, nat_lt, option_and_then, option_map, position, slice_get}
use Rattle.std.specs.BTreeSet.{insert_key}
use Rattle.std.specs.Option.{option_map_or}
use Rattle.std.specs.Ordering.{nat_cmp}
use Rattle.std.specs.Str.{bytes_eq}
use Rattle.std.proofs.lemmas.Bool.{eqb-true, false≢true}
use Rattle.std.proofs.lemmas.List.Elements.{All-append, All-cons, All-head, All-nil, All-tail}
use Rattle.std.proofs.lemmas.List.Quantifiers.{position-Some}
use Rattle.std.proofs.lemmas.Map.Views.{All-insert_key}
use Rattle.std.proofs.lemmas.Option.{same_Some}
use Rattle.toml.specs.Data.{Data, array}
use Rattle.ob_base.specs.declared.id.ModelNo.{ModelNo}
use Rattle.ob_definition.specs.Definitions.{first_of}
use Rattle.ob_definition.specs.declared.field_type.FieldType.{FieldType}
use Rattle.ob_definition.specs.declared.field_type.FieldType.TheVariants as type
use Rattle.ob_module.specs.Keys.{reference_table}
use Rattle.ob_module.specs.Meaning.{listed, text_at}
use Rattle.ob_load.specs.Preset.{Ref, given_as, group_model, group_row_named, in_32_bits, is_to, ref_named, reference, references, rising, row_named, rows_given, scalar, target_of}
use Rattle.ob_load.specs.Rooms.{HaveRows, IsBehind, IsPlainHeld}
use Rattle.ob_schema.specs.Presets.{IsPresetOf, IsTargetOf}
use Rattle.ob_schema.specs.declared.info.FieldInfo.{FieldInfo}
use Rattle.ob_schema.specs.declared.info.ModelInfo.{ModelInfo}
use Rattle.ob_schema.specs.declared.preset.PresetRow.{PresetRow}
use Rattle.ob_schema.specs.declared.preset.PresetValue.{PresetValue}
use Rattle.ob_schema.specs.declared.preset.PresetValue.TheVariants as preset

-- ---- what is found, by what it was found of

pub some-weaker : {X : Type 0} (P Q : X → Type 0) → ((x : X) → P x → Q x) → (o : Option X) → IsSomeAnd o P → IsSomeAnd o Q
some-weaker P Q f None is = absurd is
some-weaker P Q f (Some x) is = f x is

pub then-some : {X Y : Type 0} (f : X → Option Y) (o : Option X) (y : Y) → option_and_then f o ≡ Some y → (x : X) × (o ≡ Some x) × (f x ≡ Some y)
then-some {X} {Y} f None y is = absurd (let e : ◌≡◌ {A = Option Y} None (Some y) = is in cc)
then-some f (Some x) y is = (x, refl, is)

pub map-some : {X Y : Type 0} (f : X → Y) (o : Option X) (y : Y) → option_map f o ≡ Some y → (x : X) × (o ≡ Some x) × (f x ≡ y)
map-some {X} {Y} f None y is = absurd (let e : ◌≡◌ {A = Option Y} None (Some y) = is in cc)
map-some f (Some x) y is = (x, refl, same_Some (f x) y is)

pub if-some : {X : Type 0} (b : Bool) (o : Option X) (x : X) → (if b then o else None) ≡ Some x → (b ≡ true) × (o ≡ Some x)
if-some true o x is = (refl, is)
if-some {X} false o x is = absurd (let e : ◌≡◌ {A = Option X} None (Some x) = is in cc)

either-some : {X : Type 0} (a b : Option X) (x : X) → first_of a b ≡ Some x → (a ≡ Some x) ⊎ (b ≡ Some x)
either-some None b x is = inr is
either-some (Some y) b x is = inl is

none-of : {X : Type 0} (o : Option X) → is_none o ≡ true → o ≡ None
none-of None is = refl
none-of (Some x) is = absurd (false≢true is)

-- a field that leads to rows of the model
leads-by : (relation : Option ModelNo) (model : ModelNo) → option_map_or (λ own. nat_eq own.0 model.0) relation false ≡ true → relation ≡ Some model
leads-by None model is = absurd (false≢true is)
leads-by (Some own) model is = ap (λ (n : ℕ). let m : ModelNo = record { 0 = n } in Some m) (eqb-true own.0 model.0 is)

-- numbers that rise are those that were put in
fold-all : (P : ℕ → Type 0) (numbers so_far : List ℕ) → All P so_far → All P numbers → All P (fold (insert_key nat_cmp) so_far numbers)
fold-all P [] so_far held all = held
fold-all P (n ∷ more) so_far held all = fold-all P more (insert_key nat_cmp so_far n) (All-insert_key nat_cmp n P so_far held (All-head P n more all)) (All-tail P n more all)

module _ (models : List ModelInfo) (groups : List (List ℕ)) (first : ℕ) (refs : List Ref) (have : HaveRows models groups first) (before : List PresetRow) (behind : IsBehind models first refs before) where
  -- a row so far
  ref-target : (name : List ℕ) (found : ℕ × ModelNo) → ref_named refs name ≡ Some found → IsSomeAnd (slice_get before (first + found.0)) (λ (row : PresetRow). row.model ≡ found.1)
  ref-target name found is =
      let place = then-some (λ (i : ℕ). option_map (λ (r : Ref). (i, r.1)) (slice_get refs i)) (position (λ (r : Ref). bytes_eq r.0 name) refs) found is in
      let own = map-some (λ (r : Ref). (place.0, r.1)) (slice_get refs place.0) found place.2 in
      subst (λ (f : ℕ × ModelNo). IsSomeAnd (slice_get before (first + f.0)) (λ (row : PresetRow). row.model ≡ f.1)) own.2 (behind.placed place.0 own.0 own.1)

  -- the row of a group
  group-target : (name : List ℕ) (found : ℕ × ModelNo) → group_row_named models groups name ≡ Some found → IsSomeAnd (slice_get before found.0) (λ (row : PresetRow). row.model ≡ found.1)
  group-target name found is =
      let model = then-some (λ (model : ModelNo). option_map (λ (i : ℕ). (i, model)) (position (λ own. bytes_eq own name) groups)) (group_model models) found is in
      let own = map-some (λ (i : ℕ). (i, model.0)) (position (λ own. bytes_eq own name) groups) found model.2 in
      let low : own.0 < length groups = (position-Some (λ own. bytes_eq own name) groups own.0 [] own.1).0 in
      let few = have model.0 model.1 in
      subst (λ (f : ℕ × ModelNo). IsSomeAnd (slice_get before f.0) (λ (row : PresetRow). row.model ≡ f.1)) own.2 (behind.grouped own.0 model.0 (omega (arith, low, few)) model.1)

  -- either
  named-target : (name : List ℕ) (found : ℕ × ModelNo) → first_of (option_map (λ f. (first + f.0, f.1)) (ref_named refs name)) (group_row_named models groups name) ≡ Some found
      → IsSomeAnd (slice_get before found.0) (λ (row : PresetRow). row.model ≡ found.1)
  named-target name found is =
      elim (either-some (option_map (λ (f : ℕ × ModelNo). (first + f.0, f.1)) (ref_named refs name)) (group_row_named models groups name) found is) as (λ _. IsSomeAnd (slice_get before found.0) (λ (row : PresetRow). row.model ≡ found.1)) [
        | inl own ↦ by_ref (map-some (λ (f : ℕ × ModelNo). (first + f.0, f.1)) (ref_named refs name) found own)
        | inr own ↦ group-target name found own
      ]
    where
      by_ref : (f : ℕ × ModelNo) × (ref_named refs name ≡ Some f) × (◌≡◌ {A = ℕ × ModelNo} (first + f.0, f.1) found) → IsSomeAnd (slice_get before found.0) (λ (row : PresetRow). row.model ≡ found.1)
      by_ref (f, own, same) = subst (λ (g : ℕ × ModelNo). IsSomeAnd (slice_get before g.0) (λ (row : PresetRow). row.model ≡ g.1)) same (ref-target name f own)

  row-target : (name : List ℕ) (found : ℕ × ModelNo) → row_named models groups first refs name ≡ Some found → IsSomeAnd (slice_get before found.0) (λ (row : PresetRow). row.model ≡ found.1)
  row-target name found is =
      let any = then-some in_32_bits (first_of (option_map (λ (f : ℕ × ModelNo). (first + f.0, f.1)) (ref_named refs name)) (group_row_named models groups name)) found is in
      let same : any.0 ≡ found = same_Some any.0 found (if-some (nat_lt any.0.0 (2 ^ 32)) (Some any.0) found any.2).1 in
      subst (λ (g : ℕ × ModelNo). IsSomeAnd (slice_get before g.0) (λ (row : PresetRow). row.model ≡ g.1)) same (named-target name any.0 any.1)

  -- what a reference names is a row to which the field leads
  pub reference-target : (field : FieldInfo) (d : Data) (n : ℕ) → reference models groups first refs field d ≡ Some n → IsTargetOf before field n
  reference-target field d n is =
      let inner = (if-some (is_none (reference_table d)) (option_and_then (target_of field) (option_and_then (row_named models groups first refs) (text_at (codes "ref") d))) n is).1 in
      let target = then-some (target_of field) (option_and_then (row_named models groups first refs) (text_at (codes "ref") d)) n inner in
      let name = then-some (row_named models groups first refs) (text_at (codes "ref") d) target.0 target.1 in
      let leads = if-some (is_to field target.0.1) (Some target.0.0) n target.2 in
      let to : field.relation ≡ Some target.0.1 = leads-by field.relation target.0.1 leads.0 in
      subst (λ (k : ℕ). IsTargetOf before field k) (same_Some target.0.0 n leads.1)
      (some-weaker (λ (row : PresetRow). row.model ≡ target.0.1) (λ (row : PresetRow). field.relation ≡ Some row.model) (λ row held. to ∙ ap (λ (m : ModelNo). Some m) (sym held)) (slice_get before target.0.0)
      (row-target name.0 target.0 name.2))

  module _ (field : FieldInfo) where
    one-target : (o : Option ℕ) → ((n : ℕ) → o ≡ Some n → IsTargetOf before field n) → All (IsTargetOf before field) (option_map_or (λ n. n ∷ []) o [])
    one-target None held = All-nil (IsTargetOf before field)
    one-target (Some n) held = All-cons (IsTargetOf before field) n [] (held n refl) (All-nil (IsTargetOf before field))

    references-targets : (items : List Data) → All (IsTargetOf before field) (references models groups first refs field items)
    references-targets [] = All-nil (IsTargetOf before field)
    references-targets (d ∷ items) =
        All-append (IsTargetOf before field) (option_map_or (λ n. n ∷ []) (reference models groups first refs field d) []) (references models groups first refs field items)
        (one-target (reference models groups first refs field d) (reference-target field d)) (references-targets items)

    -- rows that a list names
    rows-fit : (d : Data) → field.field_type ≡ type.Many2many → (v : PresetValue) → rows_given models groups first refs field d ≡ Some v → IsPresetOf before field v
    rows-fit (array items) is v given =
        let own = if-some (is_none field.mirror) (Some (preset.Rows (rising (references models groups first refs field (listed items))))) v given in
        subst (IsPresetOf before field) (same_Some (preset.Rows (rising (references models groups first refs field (listed items)))) v own.1)
        (is, none-of field.mirror own.0, fold-all (IsTargetOf before field) (references models groups first refs field (listed items)) [] (All-nil (IsTargetOf before field)) (references-targets (listed items)))
    rows-fit _ is v given = absurd (let e : ◌≡◌ {A = Option PresetValue} None (Some v) = given in cc)

    -- a plain value
    plain-fit : (d : Data) (v : PresetValue) → option_map preset.Plain (scalar field d) ≡ Some v → IsPlainHeld field v → IsPresetOf before field v
    plain-fit d v given held =
        let own = map-some preset.Plain (scalar field d) v given in
        subst (IsPresetOf before field) own.2 (subst (IsPlainHeld field) (sym own.2) held)

    -- what is given to the field fits it
    pub given-fits : (d : Data) (t : FieldType) → field.field_type ≡ t → (v : PresetValue) → given_as models groups first refs t field d ≡ Some v → IsPlainHeld field v → IsPresetOf before field v
    given-fits d type.Many2one is v given held = let own = map-some preset.Row (reference models groups first refs field d) v given in subst (IsPresetOf before field) own.2 (is, reference-target field d own.0 own.1)
    given-fits d type.Many2many is v given held = rows-fit d is v given
    given-fits d type.One2many is v given held = absurd (let e : ◌≡◌ {A = Option PresetValue} None (Some v) = given in cc)
    given-fits d _ is v given held = plain-fit d v given held
