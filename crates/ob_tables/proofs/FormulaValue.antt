-- What a formula gives is what it means, if its field can hold that.
use Rattle.std.proofs.Common.{◌≡◌, ℕ, Bool, Option, Result, Ok, Err, sym, ap, ◌∙◌}
use Rattle.std.specs.Prelude.{if◌then◌else◌}
use Rattle.ob_base.specs.declared.id.Cell.{Cell}
use Rattle.ob_base.specs.declared.value.Value.{Value}
use Rattle.ob_definition.specs.declared.field_type.FieldType.{FieldType}
use Rattle.ob_expr.specs.Computing.{Lack, too_long}
use Rattle.ob_expr.specs.Outcome.{IsEvalFault}
use Rattle.ob_expr.specs.declared.fault.EvalFault.{EvalFault}
use Rattle.ob_expr.specs.declared.fault.EvalFault.TheVariants.{Overflow, TooLong, ZeroDivisor, Read, NoMemory}
use Rattle.ob_schema.specs.Limited.{is_short, limited, text_limit}

-- why it means nothing is why it gives nothing
pub limited-fault : {F : Type 0} (P : F → Cell → Type 0) (held : Cell → Option Value) (t : FieldType) (m : Result Value Lack) (e : EvalFault F) → IsEvalFault P held m e → IsEvalFault P held (limited t m) e
limited-fault P held t m Overflow told = ap (limited t) told
limited-fault P held t m TooLong told = ap (limited t) told
limited-fault P held t m ZeroDivisor told = ap (limited t) told
limited-fault P held t m (Read f) told = (told.0, told.1, λ none. ap (limited t) (told.2 none))
limited-fault P held t m NoMemory told = tt

-- a value that it means
pub limited-value : (t : FieldType) (m : Result Value Lack) (v w : Value) (limit : ℕ) (short : Bool) → m ≡ Ok w → v ≡ w → limit ≡ text_limit t → short ≡ is_short limit v → limited t m ≡ (if short then Ok v else Err too_long)
limited-value t m v w limit short means same limit_is is =
    ap (limited t) (means ∙ ap Ok (sym same)) ∙ ap (λ (b : Bool). if b then Ok v else Err too_long) (sym (is ∙ ap (λ n. is_short n v) limit_is))
