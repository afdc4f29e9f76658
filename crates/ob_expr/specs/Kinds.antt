-- Kinds: which may be unset and which have an order, and which values they have.
use Rattle.std.specs.Prelude.{⊤, ◌==◌, pos, [], Bool, true, false}
use Rattle.ob_base.specs.declared.value.Value.{Value}
use Rattle.ob_base.specs.declared.value.Value.TheVariants as value
use Rattle.ob_expr.specs.declared.kind.Kind.{Kind}
use Rattle.ob_expr.specs.declared.kind.Kind.TheVariants as kind

-- a Bool, an Int and a list are always set: the empty list stands for nothing
abbrev pub can_be_unset : Kind → Bool
can_be_unset kind.Bool = false
can_be_unset kind.Int = false
can_be_unset (kind.Refs model) = false
can_be_unset _ = true

-- numbers, days and moments by size, texts by bytes
abbrev pub is_ordered : Kind → Bool
is_ordered kind.Bool = false
is_ordered (kind.Ref model) = false
is_ordered (kind.Refs model) = false
is_ordered _ = true

abbrev pub same_kind : Kind → Kind → Bool
same_kind kind.Bool kind.Bool = true
same_kind kind.Int kind.Int = true
same_kind kind.Word kind.Word = true
same_kind kind.Day kind.Day = true
same_kind kind.Moment kind.Moment = true
same_kind (kind.Ref a) (kind.Ref b) = a.0 == b.0
same_kind (kind.Refs a) (kind.Refs b) = a.0 == b.0
same_kind _ _ = false

-- a value of the kind
abbrev pub HasKind : Kind → Value → Type 0
HasKind kind.Bool (value.Bool b) = ⊤
HasKind kind.Int (value.Int n) = ⊤
HasKind kind.Word value.Nil = ⊤
HasKind kind.Word (value.Word bytes) = ⊤
HasKind kind.Day value.Nil = ⊤
HasKind kind.Day (value.Day n) = ⊤
HasKind kind.Moment value.Nil = ⊤
HasKind kind.Moment (value.Moment n) = ⊤
HasKind (kind.Ref model) value.Nil = ⊤
HasKind (kind.Ref model) (value.Ref id) = ⊤
HasKind (kind.Refs model) (value.Refs ids) = ⊤
HasKind _ _ = ⊥

-- what stands for nothing: false, 0, the empty list, or unset
abbrev pub empty_value : Kind → Value
empty_value kind.Bool = value.Bool false
empty_value kind.Int = value.Int (pos 0)
empty_value (kind.Refs model) = value.Refs []
empty_value _ = value.Nil
