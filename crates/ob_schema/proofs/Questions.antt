-- Questions of questions are questions.
use Rattle.ob_schema.specs.Facts.{Asked, FailedBehind, asked-then, nothing, one_more}

-- one behind another, each of them some
pub asked-flat : {S : Type 0} {asks : S → S → Type 0} (first now : S) → Asked (Asked asks) first now → Asked asks first now
asked-flat first now (nothing one) = nothing one
asked-flat first now (one_more _ before _ more last) = asked-then first before now (asked-flat first before more) last

-- and the last of them failed
pub failed-flat : {S Fault : Type 0} (asks : S → S → Type 0) (has_failed : S → S → Fault → Type 0) (first now : S) (why : Fault)
    → FailedBehind (Asked asks) (FailedBehind asks has_failed) first now why → FailedBehind asks has_failed first now why
failed-flat asks has_failed first now why (before, more, (last, behind, failed)) = (last, asked-then first before last (asked-flat first before more) behind, failed)
