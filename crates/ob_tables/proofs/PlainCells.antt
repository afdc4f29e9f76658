-- What single cells break by what rows keep.
use Rattle.std.proofs.Common.{◌≡◌, ◌<◌, ◌⊎◌, ◌↔◌, ◌&&◌, ℕ, zero, suc, Bool, true, false, not, List, [], ◌∷◌, ◌++◌, length, Option, Some, None, is_some, is_none, IsSome, option_and_then, refl, sym, ap, subst, ◌∙◌, inl, inr, ⊎_elim, arith}
use Rattle.std.specs.Prelude.{All, IsTrue, slice_get}
use Rattle.std.proofs.lemmas.List.Elements.{All-head, All-tail}
use Rattle.std.specs.Option.{IsSomeAnd, option_or, unwrap_or}
use Rattle.std.specs.FinMap as finite
use Rattle.std.proofs.lemmas.Option.{none-some, same_Some}
use Rattle.ob_base.specs.Limits.{max_id, max_targets}
use Rattle.ob_base.specs.declared.id.Cell.{Cell}
use Rattle.ob_base.specs.declared.id.FieldNo.{FieldNo}
use Rattle.ob_base.specs.declared.id.ModelNo.{ModelNo}
use Rattle.ob_base.specs.declared.id.RecId.{RecId}
use Rattle.ob_base.specs.declared.refusal.Broken.{Broken}
use Rattle.ob_base.specs.declared.refusal.BrokenKind.{BrokenKind}
use Rattle.ob_base.specs.declared.refusal.BrokenKind.TheVariants as kind
use Rattle.ob_base.specs.declared.value.Value.{Value}
use Rattle.ob_base.specs.declared.value.Value.TheVariants as value
use Rattle.ob_definition.specs.Keys.{is_many2many}
use Rattle.ob_definition.specs.Types.{is_one2many}
use Rattle.ob_definition.specs.declared.field_type.FieldType.{FieldType}
use Rattle.ob_definition.specs.declared.field_type.FieldType.TheVariants as type
use Rattle.ob_schema.specs.declared.info.FieldInfo.{FieldInfo}
use Rattle.ob_schema.specs.declared.info.ModelInfo.{ModelInfo}
use Rattle.ob_schema.specs.declared.info.Origin.{Origin}
use Rattle.ob_schema.specs.declared.info.Origin.TheVariants as origin
use Rattle.ob_schema.specs.Fields.{is_own, is_plain_from, is_plain_kept}
use Rattle.ob_schema.specs.Built.{numbered}
use Rattle.ob_schema.specs.Models.{HasModel, IsCondition, IsField, IsModel, IsRegistry, field_at, fields_of, is_computed_from, is_id_from, model_at}
use Rattle.ob_schema.specs.Broken.{BreaksAs, IsTooFull}
use Rattle.ob_tables.specs.Finding.{BreaksIn, Counts, Is, is_mirror, is_of_plain}
use Rattle.ob_schema.specs.Plain.{names, naming, plain_at, plain_by}
use Rattle.ob_schema.specs.Plain.{targets_of}
use Rattle.ob_schema.specs.Tables.{Fits, PlainRow, Tables, kept_at, row_at}
use Rattle.ob_schema.specs.Tied.{AtCell}
use Rattle.ob_tables.proofs.FitTables.{known_at}
use Rattle.ob_tables.proofs.Sources.{from-naming, has-kept, has-relation, its_law, not_one2many, plain-there}

contrary : {P : Type 0} → false ≡ true → P
contrary e = cc

some_of : {X : Type 0} (o : Option X) → IsSome o → (x : X) × (o ≡ Some x)
some_of None h = cc
some_of (Some x) h = (x, refl)

some_at : {X : Type 0} (o : Option X) (P : X → Type 0) → IsSomeAnd o P → (x : X) × (o ≡ Some x)
some_at None P h = absurd h
some_at (Some x) P h = (x, refl)

-- what holds of all holds of that at a place
pub all-at : {X : Type 0} (P : X → Type 0) (xs : List X) (k : ℕ) (x : X) → All P xs → slice_get xs k ≡ Some x → P x
all-at P [] k x h is = cc
all-at P (y ∷ xs) zero x h is = subst P (same_Some y x is) (All-head P y xs h)
all-at P (y ∷ xs) (suc k) x h is = all-at P xs k x (All-tail P y xs h) is

-- a field that is plain isn't the row's id
not_id : (from : Origin) → is_plain_from from ≡ true → is_id_from from ≡ true → ⊥
not_id origin.Id plain id = cc
not_id origin.Plain plain id = cc
not_id (origin.Delegated at) plain id = cc
not_id (origin.Computed f) plain id = cc

first_of : (a b : Bool) → (a && b) ≡ true → a ≡ true
first_of true b h = refl
first_of false b h = h

-- more than one target are those of a list
long_list : (v : Value) → max_targets < length (targets_of v) → (ids : List RecId) × (v ≡ value.Refs ids) × (targets_of v ≡ ids)
long_list (value.Refs ids) h = (ids, refl, refl)
long_list value.Nil h = absurd (omega arith)
long_list (value.Bool b) h = absurd (omega arith)
long_list (value.Int n) h = absurd (omega arith)
long_list (value.Word t) h = absurd (omega arith)
long_list (value.Day n) h = absurd (omega arith)
long_list (value.Moment n) h = absurd (omega arith)
long_list (value.Ref id) h = absurd (omega arith)

module _ (models : List ModelInfo) (tables : Tables) (cell : Cell) (info : FieldInfo) (field : field_at models cell.model cell.field ≡ Some info) (there : IsSome (row_at tables cell.model cell.id)) where
  at-cell : (P : FieldInfo → Type 0) → P info → AtCell models tables cell P
  at-cell P p = (there, subst (λ o. IsSomeAnd o P) (sym field) p)

  of-cell : (P : FieldInfo → Type 0) → AtCell models tables cell P → P info
  of-cell P h = subst (λ o. IsSomeAnd o P) field h.1

  abbrev broken_as : BrokenKind → Broken
  broken_as k = record { kind = k; cell = cell }

  -- what is found in a cell breaks it, by kinds
  abbrev Breaks : BrokenKind → Type 0
  Breaks k = BreaksAs models tables k cell

  -- a fact of the cell, as one of what is broken there
  here : (k : BrokenKind) → is_of_plain k ≡ true → Breaks k → (b : Broken) → b ≡ broken_as k → BreaksIn models tables is_of_plain (Is cell) b
  here k such breaks b e = subst (λ x. BreaksIn models tables is_of_plain (Is cell) x) (sym e) (such, refl, breaks)

  -- and back
  there_by : (Q : BrokenKind → Type 0) → (Breaks kind.Required → Q kind.Required) → (Breaks kind.MissingRef → Q kind.MissingRef) → (Breaks kind.Limit → Q kind.Limit)
      → (k : BrokenKind) → is_of_plain k ≡ true → Breaks k → Q k
  there_by Q required missing limit kind.Required such h = required h
  there_by Q required missing limit kind.MissingRef such h = missing h
  there_by Q required missing limit kind.Limit such h = limit h
  there_by Q required missing limit _ such h = contrary such

  in_cell : (b : Broken) → BreaksIn models tables is_of_plain (Is cell) b → (b ≡ broken_as b.kind) × Breaks b.kind
  in_cell b h = (ap (λ c. record { kind = b.kind; cell = c }) h.1, subst (λ c. BreaksAs models tables b.kind c) h.1 h.2)

  abbrev pub Found : Bool → BrokenKind → Broken → Type 0
  Found is k b = (b ≡ record { kind = k; cell = cell }) × IsTrue is

  module _ (v : Value) (plain : plain_at tables models cell ≡ Some v) where
    full : (count : ℕ) → count ≡ length (targets_of v) → (info.field_type ≡ type.Many2many) × (max_targets < count) → IsTooFull models tables cell
    full count is h =
        let long = long_list v (subst (λ n. max_targets < n) is h.1) in
        at-cell (λ info. (info.field_type ≡ type.Many2many) × ((ids : List RecId) × (plain_at tables models cell ≡ Some (value.Refs ids)) × (max_targets < length ids)))
        (h.0, (long.0, plain ∙ ap Some long.1, subst (λ ids. max_targets < length ids) long.2 (subst (λ n. max_targets < n) is h.1)))

    full-back : (count : ℕ) → count ≡ length (targets_of v) → IsTooFull models tables cell → (info.field_type ≡ type.Many2many) × (max_targets < count)
    full-back count is h =
        let f = of-cell (λ info. (info.field_type ≡ type.Many2many) × ((ids : List RecId) × (plain_at tables models cell ≡ Some (value.Refs ids)) × (max_targets < length ids))) h in
        let same = same_Some v (value.Refs f.1.0) (sym plain ∙ f.1.1) in
        (f.0, subst (λ n. max_targets < n) (sym (is ∙ ap (λ w. length (targets_of w)) same)) f.1.2)

    module _ (kept : is_plain_kept info ≡ true) (w d f : Bool)
        (wanting : IsTrue w ↔ ((info.required ≡ true) × (v ≡ value.Nil)))
        (dangling : IsTrue d ↔ ((id : RecId) × (names id v ≡ true) × IsSomeAnd info.relation (λ target. row_at tables target id ≡ None)))
        (too_full : IsTrue f ↔ ((info.field_type ≡ type.Many2many) × (max_targets < length (targets_of v)))) where
      abbrev pub KeptFound : Broken → Type 0
      KeptFound b = (Found w kind.Required b ⊎ Found d kind.MissingRef b) ⊎ Found f kind.Limit b

      abbrev by_kind : BrokenKind → Type 0
      by_kind k = KeptFound (broken_as k)

      required : Breaks kind.Required → by_kind kind.Required
      required h =
          let r = of-cell (λ info. (is_plain_kept info ≡ true) × (info.required ≡ true) × (plain_at tables models cell ≡ Some value.Nil)) h in
          inl (inl (refl, wanting.1 (r.1, same_Some v value.Nil (sym plain ∙ r.2))))

      missing : Breaks kind.MissingRef → by_kind kind.MissingRef
      missing h =
          let r = of-cell (λ info. (is_plain_kept info ≡ true) × IsSomeAnd (plain_at tables models cell) (λ v. (id : RecId) × (names id v ≡ true) × IsSomeAnd info.relation (λ target. row_at tables target id ≡ None))) h in
          inl (inr (refl, dangling.1 (subst (λ o. IsSomeAnd o (λ v. (id : RecId) × (names id v ≡ true) × IsSomeAnd info.relation (λ target. row_at tables target id ≡ None))) plain r.1)))

      limit : Breaks kind.Limit → by_kind kind.Limit
      limit h = inr (
        refl,
        too_full.1 (⊎_elim
            (λ past. absurd (not_id info.origin (first_of (is_plain_from info.origin) _ kept) (of-cell (λ info. (is_id_from info.origin ≡ true) × ((cell.id.0 ≡ 0) ⊎ (max_id < cell.id.0))) past).0))
            (λ full. full-back (length (targets_of v)) refl full)
            h),
      )

      pub kept-to : (b : Broken) → KeptFound b → BreaksIn models tables is_of_plain (Is cell) b
      kept-to b h = ⊎_elim
          (λ g. ⊎_elim
          (λ r. let is = wanting.0 r.1 in
          here kind.Required refl (at-cell (λ info. (is_plain_kept info ≡ true) × (info.required ≡ true) × (plain_at tables models cell ≡ Some value.Nil)) (kept, is.0, plain ∙ ap Some is.1)) b r.0)
          (λ r. let is = dangling.0 r.1 in
          here kind.MissingRef refl
          (at-cell (λ info. (is_plain_kept info ≡ true) × IsSomeAnd (plain_at tables models cell) (λ v. (id : RecId) × (names id v ≡ true) × IsSomeAnd info.relation (λ target. row_at tables target id ≡ None)))
          (kept, subst (λ o. IsSomeAnd o (λ v. (id : RecId) × (names id v ≡ true) × IsSomeAnd info.relation (λ target. row_at tables target id ≡ None))) (sym plain) is)) b r.0)
          g)
          (λ r. here kind.Limit refl (inr (full (length (targets_of v)) refl (too_full.0 r.1))) b r.0)
          h

      pub kept-back : (b : Broken) → BreaksIn models tables is_of_plain (Is cell) b → KeptFound b
      kept-back b h = let in_it = in_cell b h in subst KeptFound (sym in_it.0) (there_by by_kind required missing limit b.kind h.0 in_it.1)

-- what is broken so is of a row that is there
pub row-of-broken : (models : List ModelInfo) (t : Tables) (k : BrokenKind) (cell : Cell) → is_of_plain k ≡ true → BreaksAs models t k cell → IsSome (row_at t cell.model cell.id)
row-of-broken models t kind.Required cell such h = h.0
row-of-broken models t kind.MissingRef cell such h = h.0
row-of-broken models t kind.Limit cell such h = ⊎_elim (λ past. past.0) (λ full. full.0) h
row-of-broken models t _ cell such h = contrary such

-- a field that is a plain one in the row
own_of : (info : FieldInfo) → is_plain_kept info ≡ true → (not (is_one2many info.field_type) ≡ true) × (is_none info.mirror ≡ true)
own_of info kept = let own = second_of (is_plain_from info.origin) _ kept in (first_of (not (is_one2many info.field_type)) (is_none info.mirror) own, second_of (not (is_one2many info.field_type)) (is_none info.mirror) own)
  where
    second_of : (a b : Bool) → (a && b) ≡ true → b ≡ true
    second_of true b h = h
    second_of false b h = contrary h

is_plain : (from : Origin) → is_plain_from from ≡ true → from ≡ origin.Plain
is_plain origin.Id h = contrary h
is_plain origin.Plain h = refl
is_plain (origin.Delegated at) h = contrary h
is_plain (origin.Computed f) h = contrary h

no_back : (inverse mirror : Option FieldNo) (one : Bool) → is_some inverse ≡ one → not one ≡ true → is_none mirror ≡ true → option_or inverse mirror ≡ None
no_back None None one is h g = refl
no_back None (Some m) one is h g = contrary g
no_back (Some i) mirror true is h g = contrary h
no_back (Some i) mirror false is h g = cc

-- a field of a model that is there
pub model-of : (models : List ModelInfo) (model : ModelNo) (number : FieldNo) (info : FieldInfo) → field_at models model number ≡ Some info → (m : ModelInfo) × (model_at models model ≡ Some m)
model-of models model number info field = by (model_at models model) field
  where
    by : (o : Option ModelInfo) → option_and_then (λ i. numbered (fields_of i) number.0) o ≡ Some info → (m : ModelInfo) × (o ≡ Some m)
    by None e = cc
    by (Some m) e = (m, refl)

module _ (models : List ModelInfo) (t : Tables) (cell : Cell) (info : FieldInfo) (registry : IsRegistry models) (field : field_at models cell.model cell.field ≡ Some info) (there : IsSome (row_at t cell.model cell.id)) where
  owner : (m : ModelInfo) × (model_at models cell.model ≡ Some m)
  owner = model-of models cell.model cell.field info field

  law : IsModel models cell.model owner.0
  law = registry.each cell.model owner.0 owner.1

  of_field : IsField models cell.model owner.0 info
  of_field = its_law models t cell owner.0 info owner.1 law field

  abbrev there_row : (row : PlainRow) × (row_at t cell.model cell.id ≡ Some row)
  there_row = some_of (row_at t cell.model cell.id) there

  no_back_of : is_plain_kept info ≡ true → option_or info.inverse info.mirror ≡ None
  no_back_of kept = let own = own_of info kept in no_back info.inverse info.mirror (is_one2many info.field_type) of_field.inverse own.0 own.1

  -- a field that the row keeps has a value there
  pub has-kept-value : Fits models t → is_plain_kept info ≡ true → is_some (kept_at t cell) ≡ true
  has-kept-value fits kept = has-kept models t cell owner.0 info owner.1 law field fits (is_plain info.origin (first_of (is_plain_from info.origin) _ kept)) there (no_back_of kept)

  by_none : (inverse mirror : Option FieldNo) (row : PlainRow) (v : Value) → option_or inverse mirror ≡ None → finite.get row cell.field.0 ≡ Some v → plain_by t inverse mirror info cell.field cell.id row ≡ v
  by_none None None row v none e = ap (λ o. unwrap_or o value.Nil) e
  by_none None (Some m) row v none e = cc
  by_none (Some i) mirror row v none e = cc

  -- and that is the cell's
  pub kept-value : is_plain_kept info ≡ true → (v : Value) → kept_at t cell ≡ Some v → plain_at t models cell ≡ Some v
  kept-value kept v e =
      let row = there_row in
      plain-there models t cell owner.0 info owner.1 law field (is_plain info.origin (first_of (is_plain_from info.origin) _ kept)) row.0 row.1
      ∙ ap Some (by_none info.inverse info.mirror row.0 v (no_back_of kept) (sym (ap (option_and_then (λ r. finite.get r cell.field.0)) row.1) ∙ e))

  -- a plain field without a field back is kept
  pub kept-by-none : info.origin ≡ origin.Plain → option_or info.inverse info.mirror ≡ None → is_plain_kept info ≡ true
  kept-by-none plain none = ap (λ from. is_plain_from from && is_own info) plain ∙ not_one2many models t cell owner.0 info owner.1 law field info.inverse info.mirror none of_field.inverse

  no_inverse : (inverse : Option FieldNo) (one : Bool) → is_some inverse ≡ one → one ≡ false → inverse ≡ None
  no_inverse None one is none = refl
  no_inverse (Some i) one is none = cc

  many_one : (f : FieldType) → is_many2many f ≡ true → is_one2many f ≡ false
  many_one type.Many2many h = refl
  many_one type.One2many h = contrary h
  many_one type.Boolean h = contrary h
  many_one type.Integer h = contrary h
  many_one type.Char h = contrary h
  many_one type.Text h = contrary h
  many_one type.Date h = contrary h
  many_one type.Datetime h = contrary h
  many_one type.Selection h = contrary h
  many_one type.Many2one h = contrary h

  -- the list of a mirror is made of the rows that name this one
  pub mirror-value : info.origin ≡ origin.Plain → (back : FieldNo) (model : ModelNo) → info.mirror ≡ Some back → info.relation ≡ Some model
      → HasModel models model × (plain_at t models cell ≡ Some (value.Refs (naming t model back cell.id)))
  mirror-value plain back model is leads =
      let none = no_inverse info.inverse (is_one2many info.field_type) of_field.inverse (many_one info.field_type (of_field.mirror (ap is_some is))) in
      from-naming models t cell owner.0 info owner.1 law field plain there back model (ap (λ o. option_or o info.mirror) none ∙ is) leads

  mirror_by : (inverse mirror : Option FieldNo) (back : FieldNo) (one : Bool) → option_or inverse mirror ≡ Some back → is_some inverse ≡ one → one ≡ false → is_some mirror ≡ true
  mirror_by None mirror back one e is none = ap is_some e
  mirror_by (Some i) mirror back one e is none = cc

  mirrored : info.origin ≡ origin.Plain → (back : FieldNo) → option_or info.inverse info.mirror ≡ Some back → info.field_type ≡ type.Many2many → is_mirror info ≡ true
  mirrored plain back e many = ap (λ from. is_plain_from from && is_some info.mirror) plain ∙ mirror_by info.inverse info.mirror back (is_one2many info.field_type) e of_field.inverse (ap is_one2many many)

  not_kept : (back : FieldNo) → option_or info.inverse info.mirror ≡ Some back → is_plain_kept info ≡ true → ⊥
  not_kept back e kept = let none = no_back_of kept in none-some back (sym none ∙ e)

  module _ (plain : info.origin ≡ origin.Plain) (back : FieldNo) (by_back : option_or info.inverse info.mirror ≡ Some back) (holders : ℕ) (f : Bool)
      (counts : is_mirror info ≡ true → Counts models t holders cell) (full : IsTrue f ↔ ((info.field_type ≡ type.Many2many) × (max_targets < holders))) where
    P : Broken → Type 0
    P b = Found models t cell info field there f kind.Limit b

    listed : (leads : Option ModelNo) → info.relation ≡ leads → is_some leads ≡ true → (ids : List RecId) × (plain_at t models cell ≡ Some (value.Refs ids))
    listed None is some = contrary some
    listed (Some model) is some = (naming t model back cell.id, (from-naming models t cell owner.0 info owner.1 law field plain there back model by_back is).1)

    -- what a list of other rows breaks
    pub listed-to : (b : Broken) → Found models t cell info field there f kind.Limit b → BreaksIn models t is_of_plain (Is cell) b
    listed-to b h =
        let is = full.0 h.1 in
        let ids = listed info.relation refl (has-relation models t cell owner.0 info owner.1 law field back by_back) in
        let count = counts (mirrored plain back by_back is.0) ids.0 ids.1 in
        here models t cell info field there kind.Limit refl (inr (at-cell models t cell info field there
        (λ info. (info.field_type ≡ type.Many2many) × ((ids : List RecId) × (plain_at t models cell ≡ Some (value.Refs ids)) × (max_targets < length ids)))
        (is.0, (ids.0, ids.1, subst (λ n. max_targets < n) count is.1)))) b h.0

    pub listed-back : (b : Broken) → BreaksIn models t is_of_plain (Is cell) b → Found models t cell info field there f kind.Limit b
    listed-back b h =
        let in_it = in_cell models t cell info field there b h in
        subst (λ x. Found models t cell info field there f kind.Limit x) (sym in_it.0) (there_by models t cell info field there (λ k. Found models t cell info field there f kind.Limit (record { kind = k; cell = cell }))
        (λ r. absurd (not_kept back by_back (of-cell models t cell info field there (λ info. (is_plain_kept info ≡ true) × (info.required ≡ true) × (plain_at t models cell ≡ Some value.Nil)) r).0))
        (λ r. absurd (not_kept back by_back (of-cell models t cell info field there
        (λ info. (is_plain_kept info ≡ true) × IsSomeAnd (plain_at t models cell) (λ v. (id : RecId) × (names id v ≡ true) × IsSomeAnd info.relation (λ target. row_at t target id ≡ None))) r).0))
        (λ r. (
          refl,
          full.1 (⊎_elim (λ past. absurd (not_id info.origin (ap is_plain_from plain) (of-cell models t cell info field there (λ info. (is_id_from info.origin ≡ true) × ((cell.id.0 ≡ 0) ⊎ (max_id < cell.id.0))) past).0))
              (λ many. let r = of-cell models t cell info field there (λ info. (info.field_type ≡ type.Many2many) × ((ids : List RecId) × (plain_at t models cell ≡ Some (value.Refs ids)) × (max_targets < length ids))) many in
              (r.0, subst (λ n. max_targets < n) (sym (counts (mirrored plain back by_back r.0) r.1.0 r.1.1)) r.1.2)) r),
        ))
        b.kind h.0 in_it.1)

-- the model to which a field leads is there
pub relation-there : (models : List ModelInfo) (t : Tables) (cell : Cell) (info : FieldInfo) → IsRegistry models → field_at models cell.model cell.field ≡ Some info → (target : ModelNo)
    → info.relation ≡ Some target → HasModel models target
relation-there models t cell info registry field target leads =
    let m = model-of models cell.model cell.field info field in
    let law = its_law models t cell m.0 info m.1 (registry.each cell.model m.0 m.1) field in
    known_at info.relation (HasModel models) target leads (law.relation (sym law.relation_alone ∙ ap is_some leads))

slice_front : (fields hidden : List FieldInfo) (k : ℕ) (field : FieldInfo) → slice_get fields k ≡ Some field → slice_get (fields ++ hidden) k ≡ Some field
slice_front [] hidden k field h = cc
slice_front (f ∷ fields) hidden zero field h = h
slice_front (f ∷ fields) hidden (suc k) field h = slice_front fields hidden k field h

-- the named field at a place of a model
pub field-at-place : (models : List ModelInfo) (model : ModelNo) (m : ModelInfo) (k : ℕ) (field : FieldInfo) → model_at models model ≡ Some m → slice_get m.fields k ≡ Some field
    → field_at models model (record { 0 = suc k }) ≡ Some field
field-at-place models model m k field at is = ap (option_and_then (λ i. numbered (fields_of i) (suc k))) at ∙ slice_front m.fields m.hidden k field is

front_or : (fields hidden : List FieldInfo) (k : ℕ) (field : FieldInfo) → All IsCondition hidden → (IsCondition field → ⊥) → slice_get (fields ++ hidden) k ≡ Some field → slice_get fields k ≡ Some field
front_or [] hidden k field conditions none h = absurd (none (all-at IsCondition hidden k field conditions h))
front_or (f ∷ fields) hidden zero field conditions none h = h
front_or (f ∷ fields) hidden (suc k) field conditions none h = front_or fields hidden k field conditions none h

not_computed : (from : Origin) → is_plain_from from ≡ true → is_computed_from from ≡ true → ⊥
not_computed origin.Id plain computed = cc
not_computed origin.Plain plain computed = cc
not_computed (origin.Delegated at) plain computed = cc
not_computed (origin.Computed f) plain computed = cc

id_not_computed : (from : Origin) → is_id_from from ≡ true → is_computed_from from ≡ true → ⊥
id_not_computed origin.Id id computed = cc
id_not_computed origin.Plain id computed = cc
id_not_computed (origin.Delegated at) id computed = cc
id_not_computed (origin.Computed f) id computed = cc

-- what is broken so isn't of a condition
named_by : (models : List ModelInfo) (t : Tables) (k : BrokenKind) (cell : Cell) (info : FieldInfo) → field_at models cell.model cell.field ≡ Some info → is_of_plain k ≡ true → BreaksAs models t k cell → IsCondition info → ⊥
named_by models t kind.Required cell info field such h is =
    let r = known_at (field_at models cell.model cell.field) (λ info. (is_plain_kept info ≡ true) × (info.required ≡ true) × (plain_at t models cell ≡ Some value.Nil)) info field h.1 in
    not_computed info.origin (first_of (is_plain_from info.origin) _ r.0) is.computed
named_by models t kind.MissingRef cell info field such h is =
    let r = known_at (field_at models cell.model cell.field)
    (λ info. (is_plain_kept info ≡ true) × IsSomeAnd (plain_at t models cell) (λ v. (id : RecId) × (names id v ≡ true) × IsSomeAnd info.relation (λ target. row_at t target id ≡ None))) info field h.1 in
    not_computed info.origin (first_of (is_plain_from info.origin) _ r.0) is.computed
named_by models t kind.Limit cell info field such h is = ⊎_elim
    (λ past. id_not_computed info.origin (known_at (field_at models cell.model cell.field) (λ info. (is_id_from info.origin ≡ true) × ((cell.id.0 ≡ 0) ⊎ (max_id < cell.id.0))) info field past.1).0 is.computed)
    (λ full. let many = (known_at (field_at models cell.model cell.field)
    (λ info. (info.field_type ≡ type.Many2many) × ((ids : List RecId) × (plain_at t models cell ≡ Some (value.Refs ids)) × (max_targets < length ids))) info field full.1).0 in
    let e : type.Many2many ≡ type.Boolean = sym many ∙ is.boolean in cc)
    h
named_by models t _ cell info field such h is = contrary such

some_field : (models : List ModelInfo) (t : Tables) (k : BrokenKind) (cell : Cell) → is_of_plain k ≡ true → BreaksAs models t k cell → (info : FieldInfo) × (field_at models cell.model cell.field ≡ Some info)
some_field models t kind.Required cell such h = some_at (field_at models cell.model cell.field) _ h.1
some_field models t kind.MissingRef cell such h = some_at (field_at models cell.model cell.field) _ h.1
some_field models t kind.Limit cell such h = ⊎_elim (λ past. some_at (field_at models cell.model cell.field) _ past.1) (λ full. some_at (field_at models cell.model cell.field) _ full.1) h
some_field models t _ cell such h = contrary such

-- what is broken so is of a named field of its model
pub place-of-broken : (models : List ModelInfo) (t : Tables) (m : ModelInfo) (k : BrokenKind) (cell : Cell) → model_at models cell.model ≡ Some m → All IsCondition m.hidden → is_of_plain k ≡ true → BreaksAs models t k cell
    → (place : ℕ) × (info : FieldInfo) × (cell.field.0 ≡ suc place) × (slice_get m.fields place ≡ Some info)
place-of-broken models t m k cell at conditions such h =
    let info = some_field models t k cell such h in
    by cell.field.0 info.0 (sym (ap (option_and_then (λ i. numbered (fields_of i) cell.field.0)) at) ∙ info.1) (named_by models t k cell info.0 info.1 such h)
  where
    by : (n : ℕ) (info : FieldInfo) → numbered (fields_of m) n ≡ Some info → (IsCondition info → ⊥) → (place : ℕ) × (info : FieldInfo) × (n ≡ suc place) × (slice_get m.fields place ≡ Some info)
    by zero info is none = cc
    by (suc place) info is none = (place, info, refl, front_or m.fields m.hidden place info conditions none is)
