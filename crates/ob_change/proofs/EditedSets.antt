-- Rows that share a set of which a change edits a cell.
use Rattle.std.proofs.Common.{◌≡◌, ◌≢◌, ◌↔◌, ◌<◌, ℕ, List, get_or, [], ◌∷◌, length, Option, Some, refl, sym, subst}
use Rattle.std.specs.Prelude.{All, Any, Contains, IsSome, slice_get}
use Rattle.std.proofs.lemmas.List.Elements.{All-head, Contains-get_or}
use Rattle.ob_base.specs.declared.id.Cell.{Cell}
use Rattle.ob_base.specs.declared.id.FieldNo.{FieldNo}
use Rattle.ob_base.specs.declared.id.RecId.{RecId}
use Rattle.ob_base.specs.declared.value.Value.TheVariants as value
use Rattle.ob_schema.proofs.CallerLemmas.{Any-is, contains-none}
use Rattle.ob_schema.specs.Broken.{AreAlikeIn, IsSharedSet, SharesWith}
use Rattle.ob_schema.specs.Links.{Sides}
use Rattle.ob_schema.specs.Models.{model_at}
use Rattle.ob_schema.specs.Plain.{plain_at}
use Rattle.ob_schema.specs.Tables.{Tables, row_at}
use Rattle.ob_schema.specs.declared.info.ModelInfo.{ModelInfo}
use Rattle.ob_sound.specs.EditsBreak.{EditsSome, SharesEdited}
use Rattle.ob_tables.proofs.CallerLemmas.{known_at, tell_and, told_and}
use Rattle.ob_trigger.specs.Affected.{Edited}
use Rattle.ob_change.specs.Testing.{SharesAt, SharesFrom, TellsOne}
use Rattle.ob_change.proofs.KeptCells.{row-of-value}

module _ (models : List ModelInfo) (sides : Sides) where
  abbrev Shares : Cell → List FieldNo → Type 0
  Shares cell set = EditsSome models sides cell.model cell.id set × IsSharedSet models sides.behind cell set

  -- a row that shares a set is there
  shares_there : (cell : Cell) (set : List FieldNo) (first : FieldNo) (rest : List FieldNo) (other : RecId) → set ≡ first ∷ rest → SharesWith models sides.behind cell.model set cell.id other
      → IsSome (row_at sides.behind cell.model cell.id)
  shares_there cell set first rest other is shares =
      let alike = All-head (AreAlikeIn models sides.behind cell.model cell.id other) first rest (subst (λ (l : List FieldNo). All (AreAlikeIn models sides.behind cell.model cell.id other) l) is shares.2) in
      let own : Cell = record { model = cell.model; id = cell.id; field = first } in
      let v = told_and (plain_at sides.behind models own)
      (λ v. (v ≢ value.Nil) × (plain_at sides.behind models (record { model = cell.model; id = other; field = first }) ≡ Some v)) alike in
      row-of-value models sides.behind own v.0 v.1

  -- an edited cell whose row shares a set that has its field
  pub at-edited : (cell : Cell) (first : FieldNo) → Edited models sides cell → SharesAt models sides.behind cell first → SharesEdited models sides (record cell { field = first })
  at-edited cell first edited shares =
      let m = told_and (model_at models cell.model) (λ info. Any (λ set. SharesFrom models sides.behind cell set first) info.unique) shares in
      let any : Any (λ set. SharesFrom models sides.behind cell set first) m.0.unique = m.2 in
      let set = any.1 in
      let from : SharesFrom models sides.behind cell set first = any.4 in
      let shared : Cell = record cell { field = first } in
      let edits : EditsSome models sides cell.model cell.id set = Any-is (λ field. Edited models sides (record { model = cell.model; id = cell.id; field = field })) set cell.field from.0 edited in (
        shares_there cell set first from.1.0 from.2.0 from.1.1 from.2.1,
        tell_and (model_at models cell.model) m.0 (λ info. Any (Shares shared) info.unique) m.1 (any.0, set, any.2, any.3, (edits, (from.1, from.2))),
      )

  -- some row of a cell of these shares a set
  abbrev pub AnyShares : List Cell → Type 0
  AnyShares cells = Any (λ cell. (first : FieldNo) × SharesAt models sides.behind cell first) cells

  -- such a cell is among the edited ones
  pub edited-at : (cells : List Cell) → ((cell : Cell) → Contains cells cell ↔ Edited models sides cell) → (shared : Cell) → SharesEdited models sides shared → AnyShares cells
  edited-at cells are_edited shared (there, shares) =
      let m = told_and (model_at models shared.model) (λ info. Any (Shares shared) info.unique) shares in
      let any : Any (Shares shared) m.0.unique = m.2 in
      let edits : EditsSome models sides shared.model shared.id any.1 = any.4.0 in
      let set : IsSharedSet models sides.behind shared any.1 = any.4.1 in
      let cell : Cell = record { model = shared.model; id = shared.id; field = edits.1 } in
      Any-is (λ cell. (first : FieldNo) × SharesAt models sides.behind cell first) cells cell ((are_edited cell).1 edits.4) (
        shared.field,
        tell_and (model_at models shared.model) m.0 (λ info. Any (λ set. SharesFrom models sides.behind cell set shared.field) info.unique) m.1
            (any.0, any.1, any.2, any.3, ((edits.0, edits.2, edits.3), set.0, set.1)),
      )

  -- so is one at a place among the edited ones
  pub at-place : (cells : List Cell) → ((cell : Cell) → Contains cells cell ↔ Edited models sides cell) → (i : ℕ) (d : Cell) (first : FieldNo) → i < length cells → SharesAt models sides.behind (get_or cells i d) first
      → SharesEdited models sides (record (get_or cells i d) { field = first })
  at-place cells are_edited i d first low shares = at-edited (get_or cells i d) first ((are_edited (get_or cells i d)).0 (Contains-get_or cells i d low)) shares

-- the sets of the model of a cell, as a list
module _ (models : List ModelInfo) (tables : Tables) (cell : Cell) (info : ModelInfo) (sets : List (List FieldNo)) (at : model_at models cell.model ≡ Some info) (all : sets ≡ info.unique) where
  -- it shares one that begins with a field
  abbrev AnyShared : FieldNo → ModelInfo → Type 0
  AnyShared first info = Any (λ set. SharesFrom models tables cell set first) info.unique

  pub set-shared : (first : FieldNo) → Any (λ set. SharesFrom models tables cell set first) sets → SharesAt models tables cell first
  set-shared first any = tell_and (model_at models cell.model) info (AnyShared first) at (subst (λ (l : List (List FieldNo)). Any (λ set. SharesFrom models tables cell set first) l) all any)

  pub shared-set : (first : FieldNo) → SharesAt models tables cell first → Any (λ set. (from : FieldNo) × SharesFrom models tables cell set from) sets
  shared-set first shares =
      let any : Any (λ set. SharesFrom models tables cell set first) sets =
      subst (λ (l : List (List FieldNo)). Any (λ set. SharesFrom models tables cell set first) l) (sym all) (known_at (model_at models cell.model) info (AnyShared first) at shares) in
      (any.0, any.1, any.2, any.3, (first, any.4))

-- a set that is shared tells its first field
pub first-shared : (models : List ModelInfo) (tables : Tables) (cell : Cell) (set : List FieldNo) (o : Option FieldNo) → o ≡ slice_get set 0 → Contains set cell.field
    → ((other : RecId) × SharesWith models tables cell.model set cell.id other) → TellsOne (SharesFrom models tables cell set) o
first-shared models tables cell [] o is has shares = absurd (contains-none cell.field has)
first-shared models tables cell (first ∷ rest) o is has shares = subst (TellsOne (SharesFrom models tables cell (first ∷ rest))) (sym is) (has, (rest, refl), shares)
