-- What a call may rely on in fields that it stamps or gives their defaults.
use Rattle.std.specs.Prelude.{◌≡◌, IfSome, Bool, true}
use Rattle.ob_base.specs.Times.{IsMoment}
use Rattle.ob_rows.specs.Author.{is_stamp, stamp}
use Rattle.ob_rows.specs.declared.author.Author.{Author}
use Rattle.ob_schema.specs.Fields.{Holds, IsGivable}
use Rattle.ob_schema.specs.declared.info.FieldInfo.{FieldInfo}

-- what a call may rely on in a field: it may be given what is stamped there, and its default fits
pub record IsMakeable (field : FieldInfo) : Type 0 where
  pub stamped : (made : Bool) (by : Author) → IsMoment by.now → is_stamp made field.name ≡ true → IsGivable field (stamp by field.name)
  pub default : IfSome field.default (Holds field)
