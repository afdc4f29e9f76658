-- What facts about rows tell: which rows are known, and what their cells hold.
use Rattle.std.specs.Prelude.{Bool, List, is_some, unwrap_or}
use Rattle.std.specs.Result.{result_ok}
use Rattle.ob_base.specs.declared.id.Cell.{Cell}
use Rattle.ob_base.specs.declared.id.ModelNo.{ModelNo}
use Rattle.ob_base.specs.declared.id.RecId.{RecId}
use Rattle.ob_base.specs.declared.value.Value.{Value}
use Rattle.ob_base.specs.declared.value.Value.TheVariants as value
use Rattle.ob_schema.specs.Tables.{Tables, row_at}
use Rattle.ob_schema.specs.Val.{val}
use Rattle.ob_schema.specs.declared.info.ModelInfo.{ModelInfo}

-- what is known about rows; what a cell holds is said of known rows alone
pub record Told : Type 0 where
  pub knows : ModelNo → RecId → Bool
  pub held : Cell → Value

-- what holds of all that is told
abbrev pub OfAllTold : {T : Type 0} → (T → Type 0) → (T → Type 0) → Type 0
OfAllTold {T} tells holds = (told : T) → tells told → holds told

-- one question behind another, or none, each of which changes whoever is asked so
pub data Asked {S : Type 0} (asks : S → S → Type 0) : S → S → Type 0 where
  nothing : (one : S) → Asked asks one one
  one_more : (first before now : S) → Asked asks first before → asks before now → Asked asks first now

-- questions behind questions
pub asked-then : {S : Type 0} {asks : S → S → Type 0} (first before now : S) → Asked asks first before → Asked asks before now → Asked asks first now
asked-then first before now were (nothing _) = were
asked-then first before now were (one_more _ mid _ more last) = one_more first mid now (asked-then first before mid were more) last

-- a question failed so, behind others that were answered
abbrev pub FailedBehind : {S Fault : Type 0} → (S → S → Type 0) → (S → S → Fault → Type 0) → S → S → Fault → Type 0
FailedBehind {S} asks has_failed first now why = (before : S) × Asked asks first before × has_failed before now why

-- what is known of a whole store: the rows of its tables, and what their cells have from scratch
abbrev pub told_by : List ModelInfo → Tables → Told
told_by models tables = record { knows = λ model id. is_some (row_at tables model id); held = λ cell. unwrap_or (result_ok (val models tables cell)) value.Nil }
