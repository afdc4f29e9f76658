-- Edits that set values in rows that aren't there change nothing, and those of a row with its parents', one behind another.
use Rattle.std.proofs.Common.{◌≡◌, ◌∷◌, [], ◌++◌, false, List, Option, Some, None, is_some, refl, sym, ap, ◌∙◌}
use Rattle.std.specs.Prelude.{All}
use Rattle.std.specs.Option.{option_map_or}
use Rattle.std.specs.FinMap as finite
use Rattle.std.proofs.lemmas.Bool.{true≢false}
use Rattle.std.proofs.lemmas.List.Elements.{All-head, All-tail}
use Rattle.ob_base.specs.declared.id.ModelNo.{ModelNo}
use Rattle.ob_base.specs.declared.id.RecId.{RecId}
use Rattle.ob_rows.proofs.CallerLemmas.{after-then, set-there}
use Rattle.ob_orm.specs.NewRows.{Values, row_edits}
use Rattle.ob_orm.specs.WriteSteps.{SetsFit}
use Rattle.ob_schema.specs.Tables.{PlainRow, Tables, key_of, row_at}
use Rattle.ob_schema.specs.declared.info.ModelInfo.{ModelInfo}
use Rattle.ob_tables.specs.After.{after, edited}
use Rattle.ob_tables.specs.declared.edit.Edit.{Edit}
use Rattle.ob_tables.specs.declared.edit.Edit.TheVariants as edit

-- nothing is there
none_of : (o : Option PlainRow) → is_some o ≡ false → o ≡ None
none_of None is = refl
none_of (Some row) is = absurd (true≢false is)

module _ (models : List ModelInfo) where
  -- edits that set values make no row
  still-absent : (tables : Tables) (edits : List Edit) → All (SetsFit models) edits → (model : ModelNo) (id : RecId) → row_at tables model id ≡ None → row_at (after models tables edits) model id ≡ None
  still-absent tables [] sets model id absent = absent
  still-absent tables (edit.Set cell v ∷ edits) sets model id absent =
      still-absent (edited models tables (edit.Set cell v)) edits (All-tail (SetsFit models) (edit.Set cell v) edits sets) model id
      (none_of (row_at (edited models tables (edit.Set cell v)) model id) (set-there models tables cell v (key_of model id) ∙ ap (λ (o : Option PlainRow). is_some o) absent))
  still-absent tables (edit.Make m n values ∷ edits) sets model id absent = absurd (All-head (SetsFit models) (edit.Make m n values) edits sets)
  still-absent tables (edit.Gone m n ∷ edits) sets model id absent = absurd (All-head (SetsFit models) (edit.Gone m n) edits sets)

  -- in a row that isn't there they set nothing
  vain : (tables : Tables) (model : ModelNo) (id : RecId) (values : Values) → row_at tables model id ≡ None → after models tables (row_edits model values id.0) ≡ tables
  vain tables model id [] absent = refl
  vain tables model id (one ∷ values) absent =
      ap (λ (o : Option PlainRow). after models (option_map_or (λ row. record tables { rows = finite.insert tables.rows (key_of model id) (finite.insert row one.0.0 one.1) }) o tables) (row_edits model values id.0)) absent
      ∙ vain tables model id values absent

  -- nor behind others
  pub set-in_vain : (tables : Tables) (edits : List Edit) (model : ModelNo) (id : RecId) (values : Values) → All (SetsFit models) edits → row_at tables model id ≡ None
      → after models tables edits ≡ after models tables (edits ++ row_edits model values id.0)
  set-in_vain tables edits model id values sets absent =
      sym (after-then models tables edits (row_edits model values id.0) ∙ vain (after models tables edits) model id values (still-absent tables edits sets model id absent))

  -- more edits behind edits that make the same of tables
  pub same-then : (tables : Tables) (edits theirs : List Edit) (more : List Edit) → after models tables edits ≡ after models tables theirs → after models tables (edits ++ more) ≡ after models tables (theirs ++ more)
  same-then tables edits theirs more same = after-then models tables edits more ∙ ap (λ (t : Tables). after models t more) same ∙ sym (after-then models tables theirs more)
