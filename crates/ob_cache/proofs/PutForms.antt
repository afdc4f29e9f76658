-- The kept form of a row that came: a keeper may be handed it, and keeps it as it is.
use Rattle.std.proofs.Common.{◌≡◌, ◌^◌, ◌<◌, ◌≤◌, ℕ, List, [], map, Option, Some, IsSome, sym, ap, subst, ◌∙◌, arith}
use Rattle.std.specs.List.{flat_map}
use Rattle.std.specs.Option.{option_map_or}
use Rattle.ob_base.specs.declared.id.ModelNo.{ModelNo}
use Rattle.ob_base.specs.declared.id.RecId.{RecId}
use Rattle.ob_cache.specs.Changing.{form_of}
use Rattle.ob_cache.specs.Kept.{kept_columns, kept_row, kept_value, links_of}
use Rattle.ob_cache.specs.Opening.{plain_row}
use Rattle.ob_cache.specs.Reading.{entries, links_for}
use Rattle.ob_cache.proofs.Gathering.{form-at}
use Rattle.ob_cache.proofs.KeptForms.{links-are, links-plain}
use Rattle.ob_cache.proofs.MadeTables.{plain-hold}
use Rattle.ob_cache.proofs.OrderedLinks.{AreLinks, links-are-links, row-fit, row-in_order}
use Rattle.ob_cache.proofs.SoundForms.{forms-hold, forms-plain, id-within}
use Rattle.ob_cache.specs.Rooms.{AreReadable}
use Rattle.ob_codec.specs.RowForm.{row_form}
use Rattle.ob_io.specs.Store.{IsRowFit, in_order}
use Rattle.ob_io.specs.declared.store.KeptRow.{KeptRow}
use Rattle.ob_schema.specs.Fields.{kept_fields}
use Rattle.ob_schema.specs.Models.{IsRegistry, kept_at, model_at}
use Rattle.ob_schema.specs.Tables.{PlainRow, Standing, key_of, row_at}
use Rattle.ob_schema.specs.declared.info.ModelInfo.{ModelInfo}
use Rattle.ob_tables.proofs.CallerLemmas.{is_there}

module _ (s : Standing) (registry : IsRegistry s.models) (known : AreReadable s.models s.tables) (model : ModelNo) (info : ModelInfo) (is : model_at s.models model ≡ Some info) (id : RecId) (there : IsSome (row_at s.tables model id)) where
  abbrev row : PlainRow
  row = (is_there (row_at s.tables model id) there).0

  row_is : row_at s.tables model id ≡ Some row
  row_is = (is_there (row_at s.tables model id) there).1

  plain-same : plain_row info (map (kept_value s.models s.tables model id) (kept_columns info)) ≡ row
  plain-same = forms-plain s.models s.tables registry known.sound model id info row is row_is known.typed known.valued known.native

  form-is : form_of s (key_of model id) ≡ Some (kept_row s.models s.tables model info id row)
  form-is = form-at s (key_of model id) info is (Some row) row_is

  module _ (put : KeptRow) (put_is : put ≡ record {
    id = id;
    body = row_form (kept_at s.models model) (map (kept_value s.models s.tables model id) (kept_columns info));
    links = flat_map links_for (entries info.fields (map (kept_value s.models s.tables model id) (kept_columns info)));
  }) where
    links-right : AreLinks 1 put.links
    links-right =
        let holds = plain-hold (kept_value s.models s.tables model id) 1 info.fields (forms-hold s.models s.tables registry known.sound model id info row is row_is known.typed known.valued known.native) in
        subst (AreLinks 1) (sym (ap (λ (k : KeptRow). k.links) put_is ∙ links-plain info (kept_value s.models s.tables model id))) (links-are-links (kept_value s.models s.tables model id) info.fields holds)

    id-is : put.id ≡ id
    id-is = ap (λ (k : KeptRow). k.id) put_is

    id-low : put.id.0 < 2 ^ 63
    id-low = by put.id.0 id.0 (ap (λ (i : RecId). i.0) id-is) (id-within s.models s.tables registry known.sound model id there).1
      where
        by : (a b : ℕ) → a ≡ b → b ≤ 4294967295 → a < 2 ^ 63
        by a b same low = omega arith

    -- a keeper may be handed it
    pub put-fit : IsRowFit put
    put-fit = row-fit put id-low links-right

    pub put-id : put.id ≡ id
    put-id = id-is

    -- and keeps it as it is
    pub put-form : Some (in_order put) ≡ form_of s (key_of model id)
    put-form =
        let fields_are : kept_at s.models model ≡ kept_fields info = ap (λ (o : Option ModelInfo). option_map_or kept_fields o []) is in
        let links_are = links-are info (kept_value s.models s.tables model id) ∙ ap (links_of info) plain-same in
        let form : put ≡ kept_row s.models s.tables model info id row =
        put_is ∙ (λ i. record { id = id; body = row_form (fields_are i) (map (kept_value s.models s.tables model id) (kept_columns info)); links = links_are i }) in
        ap Some (row-in_order put links-right ∙ form) ∙ sym form-is

-- a row whose kept fields have the same values in both tables is kept in the same form
pub forms-alike : (old new : Standing) (registry : IsRegistry old.models) (known_old : AreReadable old.models old.tables) (known_new : AreReadable new.models new.tables) (same : old.models ≡ new.models)
    (model : ModelNo) (info : ModelInfo) (is : model_at old.models model ≡ Some info) (id : RecId) → IsSome (row_at old.tables model id) → IsSome (row_at new.tables model id)
    → map (kept_value old.models old.tables model id) (kept_columns info) ≡ map (kept_value new.models new.tables model id) (kept_columns info)
    → form_of old (key_of model id) ≡ form_of new (key_of model id)
forms-alike old new registry known_old known_new same model info is id there_old there_new values =
    let registry_new = subst IsRegistry same registry in
    let is_new : model_at new.models model ≡ Some info = ap (λ (models : List ModelInfo). model_at models model) (sym same) ∙ is in
    let rows : row old registry known_old model info is id there_old ≡ row new registry_new known_new model info is_new id there_new =
    sym (plain-same old registry known_old model info is id there_old) ∙ ap (plain_row info) values ∙ plain-same new registry_new known_new model info is_new id there_new in
    form-is old registry known_old model info is id there_old
    ∙ (λ i. Some (record { id = id; body = row_form (kept_fields info) (values i); links = links_of info (rows i) }))
    ∙ sym (form-is new registry_new known_new model info is_new id there_new)
