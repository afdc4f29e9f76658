-- The values of a row's kept fields as they are gathered, field by field.
use Rattle.std.proofs.Common.{◌≡◌, ◌+◌, ◌<◌, ◌≤◌, ◌++◌, ℕ, Bool, true, false, cond, List, [], ◌∷◌, drop, take, length, get_or, map, min}
use Rattle.std.proofs.Common.{Option, Some, None, is_some, IsSome, Result, Ok, refl, sym, ap, subst, ◌∙◌, append-nil, append_assoc, arith}
use Rattle.std.specs.Prelude.{IfSome, option_map}
use Rattle.std.specs.List.{flat_map}
use Rattle.std.specs.Option.{option_map_or}
use Rattle.std.specs.Result.{result_unwrap_or}
use Rattle.std.proofs.lemmas.List.{at_drop_all, at_drop_more, get_or_default, take_all, take_more}
use Rattle.std.proofs.lemmas.Option.{same_Some}
use Rattle.ob_base.specs.declared.id.ModelNo.{ModelNo}
use Rattle.ob_base.specs.declared.id.RecId.{RecId}
use Rattle.ob_base.specs.declared.value.Value.{Value}
use Rattle.ob_base.specs.declared.value.Value.TheVariants as value
use Rattle.ob_cache.specs.Kept.{kept_columns, kept_value}
use Rattle.ob_cache.specs.Reading.{entries, links_for}
use Rattle.ob_cache.specs.Rooms.{AreReadable}
use Rattle.ob_cache.proofs.KeptForms.{kept_ones}
use Rattle.ob_cache.proofs.SoundForms.{forms-hold}
use Rattle.ob_codec.specs.RowForm.{HoldAll, row_form}
use Rattle.ob_expr.specs.Computing.{Lack}
use Rattle.ob_io.specs.declared.store.KeptRow.{KeptRow}
use Rattle.ob_schema.specs.Fields.{Column, is_kept, kept_fields}
use Rattle.ob_schema.specs.Models.{HasModel, IsRegistry, kept_at, model_at}
use Rattle.ob_schema.specs.Tables.{Standing, row_at}
use Rattle.ob_schema.specs.Val.{val}
use Rattle.ob_schema.specs.declared.info.FieldInfo.{FieldInfo}
use Rattle.ob_schema.specs.declared.info.ModelInfo.{ModelInfo}
use Rattle.ob_tables.proofs.CallerLemmas.{is_there, known_if}

-- the values so far, and those of the fields that are left, are all
abbrev pub GivenTo : (Column → Value) → List FieldInfo → ℕ → List Value → Type 0
GivenTo g fields place values = values ++ map g (kept_ones (place + 1) (drop place fields)) ≡ map g (kept_ones 1 fields)

module _ (g : Column → Value) (fields : List FieldInfo) where
  -- none so far
  pub given-none : GivenTo g fields 0 []
  given-none = refl

  module _ (place : ℕ) (f : FieldInfo) (low : place < length fields) (at : f ≡ get_or fields place f) (values : List Value) (so_far : GivenTo g fields place values) where
    later : List Column
    later = kept_ones (place + 1 + 1) (drop (place + 1) fields)

    step : (b : Bool) → is_kept f ≡ b → map g (kept_ones (place + 1) (drop place fields)) ≡ map g (cond b ((place + 1, f) ∷ kept_ones (place + 1 + 1) (drop (place + 1) fields)) (kept_ones (place + 1 + 1) (drop (place + 1) fields)))
    step b is =
        at_drop_more (λ (l : List FieldInfo). map g (kept_ones (place + 1) l)) fields place f low
        ∙ ap (λ (x : FieldInfo). map g (kept_ones (place + 1) (x ∷ drop (place + 1) fields))) (sym at)
        ∙ ap (λ (t : Bool). map g (cond t ((place + 1, f) ∷ kept_ones (place + 1 + 1) (drop (place + 1) fields)) (kept_ones (place + 1 + 1) (drop (place + 1) fields)))) is

    -- one more that is kept
    pub given-more : is_kept f ≡ true → (v : Value) → v ≡ g (place + 1, f) → GivenTo g fields (place + 1) (values ++ v ∷ [])
    given-more kept v is =
        append_assoc values (v ∷ []) (map g (kept_ones (place + 1 + 1) (drop (place + 1) fields)))
        ∙ ap (λ (x : Value). values ++ x ∷ map g (kept_ones (place + 1 + 1) (drop (place + 1) fields))) is
        ∙ ap (λ (l : List Value). values ++ l) (sym (step true kept)) ∙ so_far

    -- one that isn't
    pub given-passed : is_kept f ≡ false → GivenTo g fields (place + 1) values
    given-passed kept = ap (λ (l : List Value). values ++ l) (sym (step false kept)) ∙ so_far

  -- all
  pub given-all : (place : ℕ) → length fields ≤ place → (values : List Value) → GivenTo g fields place values → values ≡ map g (kept_ones 1 fields)
  given-all place long values so_far =
      sym (append-nil values) ∙ sym (ap (λ (l : List Value). values ++ l) (at_drop_all (λ (l : List FieldInfo). map g (kept_ones (place + 1) l)) fields place long)) ∙ so_far

-- a value from scratch is the one that is kept
pub scratch-kept : (s : Standing) (model : ModelNo) (id : RecId) (q : ℕ) (f : FieldInfo) (v : Value) → val s.models s.tables (record { model = model; id = id; field = record { 0 = q } }) ≡ Ok v
    → v ≡ kept_value s.models s.tables model id (q, f)
scratch-kept s model id q f v is = sym (ap (λ (r : Result Value Lack). result_unwrap_or r value.Nil) is)

module _ (s : Standing) (model : ModelNo) (id : RecId) (fields : List FieldInfo) (same : option_map (λ info. info.fields) (model_at s.models model) ≡ Some fields) (values : List Value) where
  -- the values of a row's kept fields, by its model
  pub are-kept : HasModel s.models model → values ≡ map (kept_value s.models s.tables model id) (kept_ones 1 fields)
      → option_map (λ info. map (kept_value s.models s.tables model id) (kept_columns info)) (model_at s.models model) ≡ Some values
  are-kept has is =
      let info = is_there (model_at s.models model) has in
      let own : info.0.fields ≡ fields = same_Some info.0.fields fields (sym (ap (option_map (λ i. i.fields)) info.1) ∙ same) in
      ap (option_map (λ i. map (kept_value s.models s.tables model id) (kept_columns i))) info.1
      ∙ ap (λ (l : List FieldInfo). Some (map (kept_value s.models s.tables model id) (kept_ones 1 l))) own ∙ ap Some (sym is)

-- they are such as their fields may hold
pub kept-hold : (s : Standing) (registry : IsRegistry s.models) (known : AreReadable s.models s.tables) (model : ModelNo) (id : RecId) → HasModel s.models model → IsSome (row_at s.tables model id) → (values : List Value)
    → option_map (λ info. map (kept_value s.models s.tables model id) (kept_columns info)) (model_at s.models model) ≡ Some values → HoldAll (kept_at s.models model) values
kept-hold s registry known model id has there values are =
    let info = is_there (model_at s.models model) has in
    let row = is_there (row_at s.tables model id) there in
    let own : map (kept_value s.models s.tables model id) (kept_columns info.0) ≡ values =
    same_Some (map (kept_value s.models s.tables model id) (kept_columns info.0)) values (sym (ap (option_map (λ i. map (kept_value s.models s.tables model id) (kept_columns i))) info.1) ∙ are) in
    subst (λ (o : Option ModelInfo). HoldAll (option_map_or kept_fields o []) values) (sym info.1)
    (subst (HoldAll (kept_fields info.0)) own (forms-hold s.models s.tables registry known.sound model id info.0 row.0 info.1 row.1 known.typed known.valued known.native))

-- lists that begin alike
pub alike-more : (a b : List Value) (n m : ℕ) (x y : Value) → n < length a → n < length b → x ≡ get_or a n x → y ≡ get_or b n y → m ≡ n + 1 → x ≡ y → take n a ≡ take n b → take m a ≡ take m b
alike-more a b n m x y in_a in_b at_a at_b is same before =
    ap (λ (k : ℕ). take k a) is ∙ take_more a n x in_a ∙ ap (λ (v : Value). take n a ++ v ∷ []) (sym at_a ∙ same ∙ at_b) ∙ ap (λ (l : List Value). l ++ get_or b n y ∷ []) before
    ∙ sym (take_more b n y in_b) ∙ sym (ap (λ (k : ℕ). take k b) is)

pub alike-all : (a b : List Value) (n : ℕ) → length a ≡ length b → n ≡ min (length a) (length b) → take n a ≡ take n b → a ≡ b
alike-all a b n long is before = sym (take_all n a (omega arith)) ∙ before ∙ take_all n b (omega arith)

-- they differ where an item does
pub apart-at : (a b : List Value) (n : ℕ) (x y : Value) → x ≡ get_or a n x → y ≡ get_or b n y → n < length b → (x ≡ y → ⊥) → a ≡ b → ⊥
apart-at a b n x y at_a at_b low apart same = apart (at_a ∙ ap (λ (l : List Value). get_or l n x) same ∙ get_or_default b n x y low ∙ sym at_b)

-- what is found is there
pub found-there : {X Y : Type 0} (f : X → Y) (o : Option X) (p : Option Y) → option_map f o ≡ p → is_some o ≡ true → IsSome p
found-there f None p is some = cc
found-there f (Some x) p is some = ap is_some (sym is)

pub found-none : {X Y : Type 0} (f : X → Y) (o : Option X) (p : Option Y) → option_map f o ≡ p → is_some o ≡ false → p ≡ None
found-none f None p is none = sym is
found-none f (Some x) p is none = absurd cc

pub none-there : {X : Type 0} (o : Option X) → is_some o ≡ false → o ≡ None
none-there None is = refl
none-there (Some x) is = absurd cc

-- the kept form of a row by the values of its kept fields
abbrev pub form_by : List ModelInfo → ModelNo → ModelInfo → RecId → List Value → KeptRow
form_by models model info id values = record { id = id; body = row_form (kept_at models model) values; links = flat_map links_for (entries info.fields values) }

pub form-of : (s : Standing) (models : List ModelInfo) → s.models ≡ models → (model : ModelNo) (info : ModelInfo) → model_at s.models model ≡ Some info → (id : RecId) (values : List Value)
    → option_map (λ info. map (kept_value s.models s.tables model id) (kept_columns info)) (model_at s.models model) ≡ Some values → (row : KeptRow)
    → IfSome (model_at models model) (λ info. row ≡ form_by models model info id values)
    → row ≡ form_by s.models model info id (map (kept_value s.models s.tables model id) (kept_columns info))
form-of s models over model info is id values are row told =
    let own : map (kept_value s.models s.tables model id) (kept_columns info) ≡ values =
    same_Some (map (kept_value s.models s.tables model id) (kept_columns info)) values (sym (ap (option_map (λ i. map (kept_value s.models s.tables model id) (kept_columns i))) is) ∙ are) in
    subst (λ (l : List Value). row ≡ form_by s.models model info id l) (sym own)
    (known_if (model_at s.models model) info (λ i. row ≡ form_by s.models model i id values) is
    (subst (λ (m : List ModelInfo). IfSome (model_at m model) (λ i. row ≡ form_by m model i id values)) (sym over) told))

-- the values of a row in other tables are the same
pub values-alike : (old new : Standing) (same : old.models ≡ new.models) (model : ModelNo) (info : ModelInfo) → model_at old.models model ≡ Some info → (id : RecId) (values : List Value)
    → option_map (λ info. map (kept_value old.models old.tables model id) (kept_columns info)) (model_at old.models model) ≡ Some values
    → option_map (λ info. map (kept_value new.models new.tables model id) (kept_columns info)) (model_at new.models model) ≡ Some values
    → map (kept_value old.models old.tables model id) (kept_columns info) ≡ map (kept_value new.models new.tables model id) (kept_columns info)
values-alike old new same model info is id values are_old are_new =
    let is_new : model_at new.models model ≡ Some info = ap (λ (m : List ModelInfo). model_at m model) (sym same) ∙ is in
    same_Some (map (kept_value old.models old.tables model id) (kept_columns info)) values (sym (ap (option_map (λ i. map (kept_value old.models old.tables model id) (kept_columns i))) is) ∙ are_old)
    ∙ sym (same_Some (map (kept_value new.models new.tables model id) (kept_columns info)) values (sym (ap (option_map (λ i. map (kept_value new.models new.tables model id) (kept_columns i))) is_new) ∙ are_new))
