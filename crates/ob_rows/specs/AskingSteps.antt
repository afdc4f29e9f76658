-- What the code has of a caller, and what it finds of the rows that rules deny him.
use Rattle.std.specs.Prelude.{◌≡◌, ℕ, List, All, Bool, true, Option, Some, None, Result, Ok, Err, if◌then◌else◌}
use Rattle.std.specs.Ordering.{is_lt}
use Rattle.ob_access.specs.Rights.{field_right}
use Rattle.ob_base.specs.Ids.{row_key_cmp}
use Rattle.ob_base.specs.declared.id.FieldNo.{FieldNo}
use Rattle.ob_base.specs.declared.id.ModelNo.{ModelNo}
use Rattle.ob_base.specs.declared.id.RowKey.{RowKey}
use Rattle.ob_base.specs.declared.refusal.Op.{Op}
use Rattle.ob_base.specs.declared.refusal.Refusal.{Refusal}
use Rattle.ob_base.specs.declared.refusal.Refusal.TheVariants as refusal
use Rattle.ob_cache.specs.declared.fault.ReadFault.{ReadFault}
use Rattle.ob_cache.specs.declared.fault.ReadFault.TheVariants as read_fault
use Rattle.ob_domain.specs.declared.fault.HoldFault.{HoldFault}
use Rattle.ob_domain.specs.declared.fault.HoldFault.TheVariants as hold_fault
use Rattle.ob_rows.specs.Rights.{AreAdmitted, Asking, DeniesLeast, IsLeastDenied, denied_by, may}
use Rattle.ob_rows.specs.declared.asking.Caller.{Caller}
use Rattle.ob_rows.specs.declared.asking.Denied.{Denied}
use Rattle.ob_schema.specs.Facts.{Told}

module _ (by : Caller) where
  -- what he may do
  abbrev pub may_by : Asking → Bool
  may_by asking = may by.policy.now by.groups.now by.user asking

  -- he may give a field a value
  abbrev pub may_give : ModelNo → FieldNo → Bool
  may_give model field = field_right by.policy.now by.groups.now by.user model field true

  -- the rule that denies him a row, by what is told
  abbrev pub denied_rule : Told → Op → RowKey → Option (List ℕ)
  denied_rule told op row = denied_by by.policy.now told by.groups.now by.user op row

  -- rules admit each of some rows to him
  abbrev pub AdmitsBy : Told → Op → List RowKey → Type 0
  AdmitsBy told op rows = AreAdmitted by.policy.now told by.groups.now by.user op rows

  -- a refusal names the least that one denies him
  abbrev pub DeniesBy : Told → Op → List RowKey → Refusal → Type 0
  DeniesBy told op rows why = DeniesLeast by.policy.now told by.groups.now by.user op rows why

  -- the least of some rows that a rule denies him; or rules admit them all
  abbrev pub TellsDenied : Told → Op → List RowKey → Option Denied → Type 0
  TellsDenied told op rows None = AdmitsBy told op rows
  TellsDenied told op rows (Some denied) = IsLeastDenied by.policy.now told by.groups.now by.user op rows denied.row denied.rule

-- each of some rows is there
abbrev pub AreKnown : List RowKey → Told → Type 0
AreKnown rows told = All (λ row. told.knows row.model row.id ≡ true) rows

-- of a denied row and another, where a rule denies it, the lesser
abbrev pub lesser : Option Denied → RowKey → Option (List ℕ) → Option Denied
lesser least row None = least
lesser None row (Some rule) = Some (record { row = row; rule = rule })
lesser (Some first) row (Some rule) = if is_lt (row_key_cmp row first.row) then Some (record { row = row; rule = rule }) else Some first

-- an answer about rows, told apart: where nothing is told, this stands in for it
abbrev pub IsAnswered : {T : Type 0} → Result T (HoldFault ReadFault) → T → Result T Refusal → Type 0
IsAnswered (Ok x) other told = told ≡ Ok x
IsAnswered (Err (hold_fault.Fact read_fault.Missing)) other told = told ≡ Ok other
IsAnswered (Err (hold_fault.Fact read_fault.Keeper)) other told = told ≡ Err refusal.Keeper
IsAnswered (Err (hold_fault.Fact read_fault.NoMemory)) other told = told ≡ Err refusal.NoMemory
IsAnswered (Err hold_fault.NoMemory) other told = told ≡ Err refusal.NoMemory
