use Rattle.std.proofs.Common.{◌≡◌, Bool, true, false, not, List, [], ◌∷◌, is_some, refl, IsTrue}
use Rattle.std.specs.Prelude.{◌↔◌, slice_get}
use Rattle.ob_definition.proofs.gathering.has_parents.Goals as goal

some_first : {X : Type 0} (empty : Bool) (xs : List X) → IsTrue empty ↔ (xs ≡ []) → not empty ≡ is_some (slice_get xs 0)
some_first true [] iff = refl
some_first true (x ∷ xs) iff = absurd (let e : x ∷ xs ≡ [] = iff.0 refl in cc)
some_first false [] iff = absurd (let e : ◌≡◌ {A = Bool} false true = iff.1 refl in cc)
some_first false (x ∷ xs) iff = refl

pub returns : goal.returns
returns c = some_first c.is_empty.result c.args.def.now.inherits c.is_empty.ensures
