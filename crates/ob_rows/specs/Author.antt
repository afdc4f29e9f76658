-- Who makes or changes rows, and at which moment: the author, and what it stamps in them.
use Rattle.std.specs.Prelude.{ℕ, List, [], ◌∷◌, codes, if◌then◌else◌, Bool, ◌||◌, ◌&&◌}
use Rattle.ob_base.specs.declared.value.Value.{Value}
use Rattle.ob_base.specs.declared.value.Value.TheVariants as value
use Rattle.ob_call.specs.Called.{Called}
use Rattle.ob_call.specs.declared.call.Call.{Call}
use Rattle.ob_definition.specs.Definitions.{is_one_of}
use Rattle.ob_rows.specs.declared.author.Author.{Author}
use Rattle.ob_schema.specs.Models.{is_moment}

-- the author of a call: who calls, at its moment
abbrev pub author_of : Called → Author
author_of called = record { user = called.caller; now = called.now }

-- the same, of a call as the code has it
abbrev pub author_by : Call → Author
author_by call = record { user = call.caller; now = call.now }

-- what tells of the making of a row: when, and by whom
abbrev pub tells_making : List ℕ → Bool
tells_making name = is_one_of (codes "create_date" ∷ codes "create_uid" ∷ []) name

-- what tells of its last change
abbrev pub tells_change : List ℕ → Bool
tells_change name = is_one_of (codes "write_date" ∷ codes "write_uid" ∷ []) name

-- whether an author stamps a field of a row that it changes, or makes
abbrev pub is_stamp : Bool → List ℕ → Bool
is_stamp made name = made && tells_making name || tells_change name

-- the value of a stamp: the moment in a date, else the user
abbrev pub stamp : Author → List ℕ → Value
stamp by name = if is_moment name then value.Moment by.now else value.Ref by.user
