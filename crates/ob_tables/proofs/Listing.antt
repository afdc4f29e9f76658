-- Lists of rows that name a row: they rise.
use Rattle.std.proofs.Common.{◌≡◌, ℕ, suc, ◌<◌, ◌++◌, List, ◌∷◌, get_or, length, take, drop, sym, ap, ◌∙◌}
use Rattle.std.specs.List.Sorted.{IsStrictlySortedBy}
use Rattle.std.proofs.lemmas.List.{take-append-drop}
use Rattle.std.proofs.Math.Seq.{drop-cons}
use Rattle.ob_base.specs.declared.id.FieldNo.{FieldNo}
use Rattle.ob_base.specs.declared.id.ModelNo.{ModelNo}
use Rattle.ob_base.specs.declared.id.RecId.{RecId}
use Rattle.ob_schema.specs.Plain.{names, naming}
use Rattle.ob_schema.specs.Tables.{PlainRow, Tables, kept_in, rows_in}
use Rattle.ob_tables.proofs.Rising.{chosen-rise, id_cmp, ids-rise}

-- the rows that name a row rise
pub naming-rises : (tables : Tables) (model : ModelNo) (field : FieldNo) (id : RecId) → IsStrictlySortedBy id_cmp (naming tables model field id)
naming-rises tables model field id = chosen-rise (λ (e : RecId × PlainRow). names id (kept_in e.1 field)) (rows_in tables model) (ids-rise model tables)

-- a list falls apart at each of its items
pub at-item : (ids : List RecId) (i : ℕ) (d : RecId) → i < length ids → take i ids ++ get_or ids i d ∷ drop (suc i) ids ≡ ids
at-item ids i d within = ap (λ (l : List RecId). take i ids ++ l) (sym (drop-cons ids i d within)) ∙ take-append-drop i ids
