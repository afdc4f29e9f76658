-- The edits of a change, one after another.
use Rattle.std.proofs.Common.{◌≡◌, ◌+◌, ◌<◌, ℕ, List, [], ◌∷◌, ◌++◌, map, take, get_or, length, Option, Some, None, IsSomeAnd, append_assoc, sym, ap, subst, ◌∙◌}
use Rattle.std.specs.Prelude.{All, OnOk, Result, Ok, Err, option_and_then}
use Rattle.std.specs.List.{flat_map}
use Rattle.std.proofs.lemmas.List.{flat_map_more, map-append, take_more}
use Rattle.std.proofs.lemmas.List.Elements.{All-append, All-map, All-weaker}
use Rattle.ob_base.specs.declared.id.FieldNo.{FieldNo}
use Rattle.ob_base.specs.declared.id.ModelNo.{ModelNo}
use Rattle.ob_base.specs.declared.id.RecId.{RecId}
use Rattle.ob_base.specs.declared.value.Value.{Value}
use Rattle.ob_orm.specs.NewRows.{row_edits}
use Rattle.ob_orm.specs.WriteSteps.{SetsFit}
use Rattle.ob_schema.specs.Built.{numbered}
use Rattle.ob_schema.specs.Models.{FieldHas, fields_of, model_at}
use Rattle.ob_schema.specs.declared.info.ModelInfo.{ModelInfo}
use Rattle.ob_tables.specs.Changes.{MakesBelow}
use Rattle.ob_tables.specs.Fitting.{AreFitIn, AreFitValues, IsFitEdit, IsFitId, IsFitIn}
use Rattle.ob_tables.specs.declared.edit.Edit.{Edit}
use Rattle.ob_tables.specs.declared.edit.Edit.TheVariants as edit

-- the edit of one value of a row
abbrev pub one_edit : ModelNo → ℕ → FieldNo × Value → Edit
one_edit model id given = edit.Set (record { model = model; id = record { 0 = id }; field = given.0 }) given.1

-- one value more
pub row_more : (model : ModelNo) (values : List (FieldNo × Value)) (id i : ℕ) (given : FieldNo × Value) (old : List Edit) → i < length values → given ≡ get_or values i given
    → (old ++ row_edits model (take i values) id) ++ one_edit model id given ∷ [] ≡ old ++ row_edits model (take (i + 1) values) id
row_more model values id i given old lt is =
    let more : take (i + 1) values ≡ take i values ++ given ∷ [] = take_more values i given lt ∙ ap (λ (x : FieldNo × Value). take i values ++ x ∷ []) (sym is) in
    append_assoc old (row_edits model (take i values) id) (one_edit model id given ∷ [])
    ∙ ap (λ (es : List Edit). old ++ es) (sym (ap (map (one_edit model id)) more ∙ map-append (one_edit model id) (take i values) (given ∷ [])))

-- the edits of one more of several things, behind others
pub flat-more : {X : Type 0} (f : X → List Edit) (old : List Edit) (xs : List X) (i : ℕ) (d : X) → i < length xs → (old ++ flat_map f (take i xs)) ++ f (get_or xs i d) ≡ old ++ flat_map f (take (i + 1) xs)
flat-more {X = X} f old xs i d lt = flat_map_more f old (take i xs) (get_or xs i d) ∙ sym (ap (λ (ys : List X). old ++ flat_map f ys) (take_more xs i d lt))

module _ (models : List ModelInfo) (model : ModelNo) (values : List (FieldNo × Value)) where
  -- each value fits its field
  pub fits_each : AreFitIn models model values → All (λ given. FieldHas models (λ field. IsFitIn field given.1) model given.0) values
  fits_each fit = by (model_at models model) fit where
    by : (o : Option ModelInfo) → IsSomeAnd o (λ info. AreFitValues info values) → All (λ given. IsSomeAnd (option_and_then (λ info. numbered (fields_of info) given.0.0) o) (λ field. IsFitIn field given.1)) values
    by None fit = absurd fit
    by (Some info) fit = fit.0

  -- so the edits that set them do, in a row of an id with a next one
  pub row_fit : (id : RecId) → AreFitIn models model values → IsFitId id → All (SetsFit models) (row_edits model values id.0)
  row_fit id fit low =
      All-map (SetsFit models) (one_edit model id.0) values
      (All-weaker (λ given. FieldHas models (λ field. IsFitIn field given.1) model given.0) (λ given. SetsFit models (one_edit model id.0 given)) (λ given is. (low, is)) values (fits_each fit))

-- behind others too
pub row_pushed : {X E : Type 0} (r : Result X E) (models : List ModelInfo) (old added new : List Edit) → All (SetsFit models) added → OnOk r (new ≡ old ++ added) → OnOk r (All (SetsFit models) old → All (SetsFit models) new)
row_pushed (Ok x) models old added new fit is = λ before. subst (All (SetsFit models)) (sym is) (All-append (SetsFit models) old added before fit)
row_pushed (Err e) models old added new fit is = tt

-- such edits may be asked for
set-asked : (models : List ModelInfo) (one : Edit) → SetsFit models one → IsFitEdit models one
set-asked models (edit.Set cell v) fits = fits
set-asked models (edit.Make model id values) fits = absurd fits
set-asked models (edit.Gone model id) fits = absurd fits

pub sets-asked : (models : List ModelInfo) (edits : List Edit) → All (SetsFit models) edits → All (IsFitEdit models) edits
sets-asked models edits fit = All-weaker (SetsFit models) (IsFitEdit models) (set-asked models) edits fit

-- and make no row
set-below : (models : List ModelInfo) (of : ModelNo) (bound : ℕ) (one : Edit) → SetsFit models one → MakesBelow of bound one
set-below models of bound (edit.Set cell v) fits = tt
set-below models of bound (edit.Make model id values) fits = absurd fits
set-below models of bound (edit.Gone model id) fits = absurd fits

pub sets-below : (models : List ModelInfo) (of : ModelNo) (bound : ℕ) (edits : List Edit) → All (SetsFit models) edits → All (MakesBelow of bound) edits
sets-below models of bound edits fit = All-weaker (SetsFit models) (MakesBelow of bound) (set-below models of bound) edits fit
