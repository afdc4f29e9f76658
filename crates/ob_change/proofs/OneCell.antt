-- What a cell breaks by itself, by its field and its value.
use Rattle.std.proofs.Common.{◌≡◌, ◌⊎◌, ◌<◌, true, List, length, Option, Some, None, refl, sym, ap, subst, ◌∙◌, arith}
use Rattle.std.specs.Prelude.{IsSome, IsSomeAnd}
use Rattle.std.proofs.lemmas.Option.{same_Some}
use Rattle.ob_base.specs.Limits.{max_id, max_targets}
use Rattle.ob_base.specs.declared.id.Cell.{Cell}
use Rattle.ob_base.specs.declared.id.RecId.{RecId}
use Rattle.ob_base.specs.declared.value.Value.{Value}
use Rattle.ob_base.specs.declared.value.Value.TheVariants as value
use Rattle.ob_change.specs.Testing.{BreaksNone}
use Rattle.ob_definition.specs.declared.field_type.FieldType.TheVariants as type
use Rattle.ob_schema.specs.Broken.{IsTooFull, IsWanting}
use Rattle.ob_schema.specs.Fields.{is_plain_kept}
use Rattle.ob_schema.specs.Models.{field_at, is_id_from}
use Rattle.ob_schema.specs.Plain.{names, plain_at, targets_of}
use Rattle.ob_schema.specs.Tables.{Tables, row_at}
use Rattle.ob_schema.specs.Tied.{Dangles}
use Rattle.ob_schema.specs.declared.info.FieldInfo.{FieldInfo}
use Rattle.ob_schema.specs.declared.info.ModelInfo.{ModelInfo}
use Rattle.ob_schema.specs.declared.info.Origin.{Origin}
use Rattle.ob_schema.specs.declared.info.Origin.TheVariants as origin
use Rattle.ob_tables.proofs.CallerLemmas.{known_at, tell_and}

id_is : (o : Origin) → is_id_from o ≡ true → o ≡ origin.Id
id_is origin.Id is = refl
id_is origin.Plain is = absurd cc
id_is (origin.Delegated at) is = absurd cc
id_is (origin.Computed formula) is = absurd cc

-- a list that is too long for one value is a list of many
many : (v : Value) → max_targets < length (targets_of v) → (ids : List RecId) × (v ≡ value.Refs ids) × (max_targets < length ids)
many (value.Refs ids) long = (ids, refl, long)
many (value.Ref id) long = absurd (omega arith)
many value.Nil long = absurd (omega arith)
many (value.Bool b) long = absurd (omega arith)
many (value.Int n) long = absurd (omega arith)
many (value.Word t) long = absurd (omega arith)
many (value.Day n) long = absurd (omega arith)
many (value.Moment n) long = absurd (omega arith)

module _ (models : List ModelInfo) (tables : Tables) (cell : Cell) where
  abbrev Wants : FieldInfo → Type 0
  Wants info = (is_plain_kept info ≡ true) × (info.required ≡ true) × (plain_at tables models cell ≡ Some value.Nil)

  abbrev NamesNone : FieldInfo → Value → Type 0
  NamesNone info v = (id : RecId) × (names id v ≡ true) × IsSomeAnd info.relation (λ target. row_at tables target id ≡ None)

  abbrev Dangling : FieldInfo → Type 0
  Dangling info = (is_plain_kept info ≡ true) × IsSomeAnd (plain_at tables models cell) (NamesNone info)

  abbrev Past : FieldInfo → Type 0
  Past info = (is_id_from info.origin ≡ true) × ((cell.id.0 ≡ 0) ⊎ (max_id < cell.id.0))

  abbrev Full : FieldInfo → Type 0
  Full info = (info.field_type ≡ type.Many2many) × ((ids : List RecId) × (plain_at tables models cell ≡ Some (value.Refs ids)) × (max_targets < length ids))

  module _ (info : FieldInfo) (field : field_at models cell.model cell.field ≡ Some info) (there : IsSome (row_at tables cell.model cell.id)) where
    of_field : (P : FieldInfo → Type 0) → IsSomeAnd (field_at models cell.model cell.field) P → P info
    of_field P known = known_at (field_at models cell.model cell.field) info P field known

    on_field : (P : FieldInfo → Type 0) → P info → IsSomeAnd (field_at models cell.model cell.field) P
    on_field P known = tell_and (field_at models cell.model cell.field) info P field known

    module _ (plain : info.origin ≡ origin.Plain) where
      not_id : is_id_from info.origin ≡ true → ⊥
      not_id is = let both : origin.Id ≡ origin.Plain = sym (id_is info.origin is) ∙ plain in cc

      -- a field whose values can break nothing
      pub untested : (is_plain_kept info ≡ true → ⊥) → (info.field_type ≡ type.Many2many → ⊥) → BreaksNone models tables cell
      untested not_kept not_many = record {
        value = λ h. not_kept (of_field Wants h.1).0;
        reference = λ h. not_kept (of_field Dangling h.1).0;
        id = λ h. not_id (of_field Past h.1).0;
        targets = λ h. not_many (of_field Full h.1).0;
      }

      pub no-value : plain_at tables models cell ≡ None → BreaksNone models tables cell
      no-value none = record {
        value = λ h. let both : None ≡ Some value.Nil = sym none ∙ (of_field Wants h.1).2 in cc;
        reference = λ h. let gone : IsSomeAnd None (NamesNone info) = subst (λ (o : Option Value). IsSomeAnd o (NamesNone info)) none (of_field Dangling h.1).1 in gone;
        id = λ h. not_id (of_field Past h.1).0;
        targets = λ h. let full = of_field Full h.1 in nothing full.1.0 (sym none ∙ full.1.1);
      }
        where
          nothing : (ids : List RecId) → None ≡ Some (value.Refs ids) → ⊥
          nothing ids is = cc

      module _ (v : Value) (has : plain_at tables models cell ≡ Some v) where
        -- a value that breaks nothing
        pub value-passes : ((info.field_type ≡ type.Many2many) × (max_targets < length (targets_of v)) → ⊥)
            → (is_plain_kept info ≡ true → (info.required ≡ true) × (v ≡ value.Nil) → ⊥) → (is_plain_kept info ≡ true → NamesNone info v → ⊥) → BreaksNone models tables cell
        value-passes short filled names_some = record {
          value = λ h. let wants = of_field Wants h.1 in filled wants.0 (wants.1, same_Some v value.Nil (sym has ∙ wants.2));
          reference = λ h. let dangling = of_field Dangling h.1 in names_some dangling.0 (known_at (plain_at tables models cell) v (NamesNone info) has dangling.1);
          id = λ h. not_id (of_field Past h.1).0;
          targets = λ h.
              let full = of_field Full h.1 in
              let is : v ≡ value.Refs full.1.0 = same_Some v (value.Refs full.1.0) (sym has ∙ full.1.1) in
              short (full.0, subst (λ (w : Value). max_targets < length (targets_of w)) (sym is) full.1.2);
        }

        -- and ones that break something
        pub full : (info.field_type ≡ type.Many2many) × (max_targets < length (targets_of v)) → IsTooFull models tables cell
        full is = let list = many v is.1 in (there, on_field Full (is.0, (list.0, has ∙ ap (λ (w : Value). Some w) list.1, list.2)))

        pub wanting : is_plain_kept info ≡ true → (info.required ≡ true) × (v ≡ value.Nil) → IsWanting models tables cell
        wanting kept is = (there, on_field Wants (kept, is.0, has ∙ ap (λ (w : Value). Some w) is.1))

        pub dangling : is_plain_kept info ≡ true → NamesNone info v → Dangles models tables cell
        dangling kept is = (there, on_field Dangling (kept, tell_and (plain_at tables models cell) v (NamesNone info) has is))
