-- What is kept for a cell, beside its value from scratch.
use Rattle.std.proofs.Common.{◌≡◌, ◌<◌, ◌++◌, ◌+◌, ℕ, suc, true, List, ◌∷◌, length, take, drop, get_or, Option, Some, None, is_some, Ok, Err, Result, refl, sym, ap, subst, ◌∙◌}
use Rattle.std.specs.Prelude.{All, IfSome, IsSomeAnd}
use Rattle.std.proofs.lemmas.Bool.{and_parts}
use Rattle.std.proofs.lemmas.List.Elements.{All-get_or}
use Rattle.ob_base.specs.declared.id.Cell.{Cell}
use Rattle.ob_base.specs.declared.value.Value.{Value}
use Rattle.ob_audit.specs.Comparing.{AreRightIn, FitDifference, IsFirstWrong, IsIn, IsJudged, IsOther, IsRight, cell_at}
use Rattle.ob_audit.specs.Reading.{IsFitStored, IsStoredCell}
use Rattle.ob_audit.specs.Report.{is_stored}
use Rattle.ob_audit.specs.declared.comparing.Difference.{Difference}
use Rattle.ob_audit.proofs.ReadPages.{all-more, parted}
use Rattle.ob_definition.specs.Values.{IsNative}
use Rattle.ob_expr.specs.Computing.{overflow, too_long, unread, zero_divisor}
use Rattle.ob_schema.specs.Broken.{AreSound}
use Rattle.ob_schema.specs.Fields.{Holds}
use Rattle.ob_schema.specs.Models.{FieldHas, IsRegistry, field_at, is_computed_from}
use Rattle.ob_schema.specs.Tables.{Standing, Tables}
use Rattle.ob_schema.specs.Val.{val, value_in}
use Rattle.ob_schema.specs.declared.info.FieldInfo.{FieldInfo}
use Rattle.ob_schema.specs.declared.info.ModelInfo.{ModelInfo}
use Rattle.ob_schema.specs.declared.info.Step.{Step}
use Rattle.ob_tables.specs.Faults.{HasNoValue}
use Rattle.ob_tables.specs.declared.fault.ScratchFault.{ScratchFault}
use Rattle.ob_tables.specs.declared.fault.ScratchFault.TheVariants as scratch
use Rattle.ob_tables.proofs.CallerLemmas.{known_at, tell_and, told_and, value_absent}

ok-same : {X E : Type 0} (x y : X) (r : Result X E) → r ≡ Ok x → r ≡ Ok y → x ≡ y
ok-same x y r one two = cc

ok-err : {X E : Type 0} (x : X) (e : E) (r : Result X E) → r ≡ Ok x → r ≡ Err e → ⊥
ok-err x e r one two = absurd cc

-- ---- one cell

-- its value is what is kept
pub none-other : (standing : Standing) (cell : Cell) (kept v : Value) → val standing.models standing.tables cell ≡ Ok v → v ≡ kept → IsOther standing cell kept None
none-other standing cell kept v is same w found other = other (ok-same w v (val standing.models standing.tables cell) found is ∙ same)

-- it has none
pub lacks-none : (standing : Standing) (cell : Cell) (kept : Value) (fault : ScratchFault) → (fault ≡ scratch.NoMemory → ⊥) → HasNoValue standing.models standing.tables cell fault → IsOther standing cell kept None
lacks-none standing cell kept scratch.Missing not lacks w found other =
    ok-err w (unread cell) (val standing.models standing.tables cell) found (value_absent standing.models standing.tables (value_in standing.models standing.tables 577) cell lacks)
lacks-none standing cell kept scratch.Overflow not lacks w found other = ok-err w overflow (val standing.models standing.tables cell) found lacks
lacks-none standing cell kept scratch.TooLong not lacks w found other = ok-err w too_long (val standing.models standing.tables cell) found lacks
lacks-none standing cell kept scratch.ZeroDivisor not lacks w found other = ok-err w zero_divisor (val standing.models standing.tables cell) found lacks
lacks-none standing cell kept scratch.NoMemory not lacks w found other = absurd (not refl)

-- the law of sound tables: a field may hold the values that its formula gives
abbrev pub AreTyped : Type 0
AreTyped = (models : List ModelInfo) (tables : Tables) → IsRegistry models → AreSound models tables → (cell : Cell) (info : FieldInfo) → field_at models cell.model cell.field ≡ Some info → is_computed_from info.origin ≡ true
    → (v : Value) → val models tables cell ≡ Ok v → IsNative v → Holds info v

pub scratch-fits : (models : List ModelInfo) (standing : Standing) → standing.models ≡ models → IsRegistry models → AreSound standing.models standing.tables → AreTyped → (cell : Cell) (v : Value) → IsStoredCell models cell
    → val standing.models standing.tables cell ≡ Ok v → IsNative v → IsFitStored models (cell, v)
scratch-fits models standing over registry sound typed cell v stored is native =
    let (info, at, known) = told_and (field_at models cell.model cell.field) (λ field. is_stored field ≡ true) stored in
    tell_and (field_at models cell.model cell.field) info (λ field. Holds field v) at
    (typed models standing.tables registry (subst (λ (m : List ModelInfo). AreSound m standing.tables) over sound) cell info at (and_parts (is_computed_from info.origin) info.store known).0 v
    (subst (λ (m : List ModelInfo). val m standing.tables cell ≡ Ok v) over is) native)

-- ---- a cell of a field

-- by the numbers
pub is-in : (at : Step) (cell : Cell) → cell.model.0 ≡ at.model.0 → cell.field.0 ≡ at.field.0 → IsIn at cell
is-in at cell model field = (ap (λ (n : ℕ). record { 0 = n }) model, ap (λ (n : ℕ). record { 0 = n }) field)

pub cell-is : (at : Step) (cell : Cell) → IsIn at cell → cell ≡ cell_at at cell.id
cell-is at cell within = λ i. record { model = within.0 i; id = cell.id; field = within.1 i }

pub stored-in : (models : List ModelInfo) (at : Step) (cell : Cell) → IsIn at cell → FieldHas models (λ info. is_stored info ≡ true) at.model at.field → IsStoredCell models cell
stored-in models at cell within stored = subst (IsStoredCell models) (sym (cell-is at cell within)) stored

pub both-fit : (models : List ModelInfo) (at : Step) (cell : Cell) (d : Difference) → IsIn at cell → IsFitStored models (cell, d.kept) → IsFitStored models (cell, d.scratch) → FitDifference models at d
both-fit models at cell d within kept scratch =
    let here = cell-is at cell within in
    let (info, is, holds) = told_and (field_at models at.model at.field) (λ field. Holds field d.kept) (subst (λ (c : Cell). IsFitStored models (c, d.kept)) here kept) in
    tell_and (field_at models at.model at.field) info (λ field. Holds field d.kept × Holds field d.scratch) is
    (holds, known_at (field_at models at.model at.field) info (λ field. Holds field d.scratch) is (subst (λ (c : Cell). IsFitStored models (c, d.scratch)) here scratch))

-- ---- all that is kept

module _ (standing : Standing) (at : Step) (stored : List (Cell × Value)) (i : ℕ) (item : Cell × Value) (low : i < length stored) (is : item ≡ get_or stored i item) (right : AreRightIn standing at (take i stored)) where
  pub right-more : IsJudged standing at item.0 item.1 None → AreRightIn standing at (take (i + 1) stored)
  right-more judged = all-more (λ s. IsIn at s.0 → IsRight standing s) stored i item low is right judged

  pub wrong-found : (d : Difference) → IsJudged standing at item.0 item.1 (Some d) → IsFirstWrong standing stored at d
  wrong-found d judged =
      let item_is : item ≡ (cell_at at d.id, d.kept) = λ j. (judged.0 j, sym judged.1 j) in
      record {
        front = take i stored;
        rest = drop (suc i) stored;
        split = parted stored i item low is ∙ ap (λ (s : Cell × Value). take i stored ++ s ∷ drop (suc i) stored) item_is;
        before = right;
        valued = subst (λ (c : Cell). val standing.models standing.tables c ≡ Ok d.scratch) judged.0 judged.2;
        other = λ same. judged.3 (same ∙ judged.1);
      }

-- one of all that fit
pub item-fits : (models : List ModelInfo) (stored : List (Cell × Value)) (i : ℕ) (item : Cell × Value) → i < length stored → item ≡ get_or stored i item → All (IsFitStored models) stored → IsFitStored models item
item-fits models stored i item low is all = subst (IsFitStored models) (sym is) (All-get_or (IsFitStored models) stored i item low all)

-- what is known of a field that is there is known of it, if it is there
pub if-there : {X : Type 0} (o : Option X) (P : X → Type 0) → IsSomeAnd o P → IfSome o P
if-there None P known = absurd known
if-there (Some x) P known = known

pub field-there : {X : Type 0} (o : Option X) (P : X → Type 0) → IsSomeAnd o P → is_some o ≡ true
field-there None P known = absurd known
field-there (Some x) P known = refl

-- what is judged over the same tables
pub some-judged : (standing now : Standing) (at : Step) (cell : Cell) (kept : Value) (found : Option Difference) (d : Difference) → now ≡ standing → found ≡ Some d → IsJudged now at cell kept found → IsJudged standing at cell kept (Some d)
some-judged standing now at cell kept found d same is judged = subst (λ (s : Standing). IsJudged s at cell kept (Some d)) same (subst (IsJudged now at cell kept) is judged)

pub none-judged : (standing now : Standing) (at : Step) (cell : Cell) (kept : Value) (found : Option Difference) → now ≡ standing → found ≡ None → IsJudged now at cell kept found → IsJudged standing at cell kept None
none-judged standing now at cell kept found same is judged = subst (λ (s : Standing). IsJudged s at cell kept None) same (subst (IsJudged now at cell kept) is judged)
