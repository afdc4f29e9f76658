-- Rows and cells of the models that are taken one after another.
use Rattle.std.proofs.Common.{◌≡◌, ◌≤◌, ◌+◌, ◌++◌, ◌∷◌, [], List, Some, length, sym, ap, subst, arith}
use Rattle.std.specs.Prelude.{All}
use Rattle.std.specs.BTreeSet as sorted
use Rattle.std.proofs.lemmas.List.Elements.{All-push}
use Rattle.ob_base.specs.declared.id.Cell.{Cell}
use Rattle.ob_base.specs.declared.id.FieldNo.{FieldNo}
use Rattle.ob_base.specs.declared.id.ModelNo.{ModelNo}
use Rattle.ob_base.specs.declared.id.RowKey.{RowKey}
use Rattle.ob_effect.specs.Deletion.{IsFitCell, TakesFit}
use Rattle.ob_effect.specs.Relations.{IsRelation}
use Rattle.ob_effect.specs.declared.deletion.Deletion.{Deletion}
use Rattle.ob_effect.specs.declared.relations.KeptRelation.{KeptRelation}
use Rattle.ob_cache.specs.Stages.{IsKeptRelation}
use Rattle.ob_schema.specs.Models.{FieldHas, field_at}
use Rattle.ob_schema.specs.declared.info.ModelInfo.{ModelInfo}
use Rattle.ob_tables.proofs.CallerLemmas.{tell_and, told_and}
use Rattle.ob_tables.specs.Fitting.{IsFitId}

-- all of some with one behind them
pushed : {X : Type 0} (P : X → Type 0) (old new : List X) (x : X) → new ≡ old ++ x ∷ [] → P x → All P old → All P new
pushed P old new x is own all = subst (All P) (sym is) (All-push P old x all own)

-- the cell of a relation may be left with what stays of its value
pub relation_cell : (models : List ModelInfo) (r : KeptRelation) (cell : Cell) → IsRelation models r → cell.model ≡ r.model → cell.field ≡ r.field → IsFitId cell.id → IsFitCell models cell
relation_cell models r cell is model field id =
    let t = told_and (field_at models r.model r.field) (λ info. IsKeptRelation info × (info.relation ≡ Some r.target)) is.field in (
      subst (λ (m : ModelNo). FieldHas models IsKeptRelation m cell.field) (sym model)
          (subst (λ (f : FieldNo). FieldHas models IsKeptRelation r.model f) (sym field) (tell_and (field_at models r.model r.field) t.0 IsKeptRelation t.1 t.2.0)),
      id,
    )

module _ (models : List ModelInfo) where
  -- some, and then others
  pub takes_then : (a b c : Deletion) (x y z : List RowKey) → TakesFit models a b x y → TakesFit models b c y z → TakesFit models a c x z
  takes_then a b c x y z first then = record {
    rows = λ fit. then.rows (first.rows fit);
    cells = λ fit. then.cells (first.cells fit);
    count = let one = first.count in let two = then.count in let all : length z + length a.taken.keys ≡ length x + length c.taken.keys = omega (arith, one, two) in all;
    more = let one = first.more in let two = then.more in let all : length a.taken.keys ≤ length c.taken.keys = omega (arith, one, two) in all;
  }

  -- a cell is added
  pub takes_cell : (a b : Deletion) (x : List RowKey) (cell : Cell) → IsFitCell models cell → b.cells.items ≡ a.cells.items ++ cell ∷ [] → b.rows ≡ a.rows → b.taken ≡ a.taken → TakesFit models a b x x
  takes_cell a b x cell own cells rows taken = record {
    rows = λ fit. rw rows fit;
    cells = pushed (IsFitCell models) a.cells.items b.cells.items cell cells own;
    count = ap (λ (s : sorted.BTreeSet RowKey). length x + length s.keys) (sym taken);
    more = let same : length b.taken.keys ≡ length a.taken.keys = ap (λ (s : sorted.BTreeSet RowKey). length s.keys) taken in let all : length a.taken.keys ≤ length b.taken.keys = omega (arith, same) in all;
  }
