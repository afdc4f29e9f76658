-- What the expression of a row's path is in a scope where its names stand for fields.
use Rattle.std.proofs.Common.{◌≡◌, ℕ, Bool, true, false, List, Option, Some, None, Result, Ok, Err, refl, sym, ◌∙◌}
use Rattle.ob_base.specs.declared.id.FieldNo.{FieldNo}
use Rattle.ob_base.specs.declared.id.ModelNo.{ModelNo}
use Rattle.ob_definition.specs.Members.{path_name}
use Rattle.ob_expr.specs.declared.checker.TypeFault.{TypeFault}
use Rattle.ob_expr.specs.declared.checker.TypeFault.TheVariants as fault
use Rattle.ob_expr.specs.declared.kind.Found.{Found}
use Rattle.ob_expr.specs.declared.kind.Kind.{Kind}
use Rattle.ob_expr.specs.declared.kind.Kind.TheVariants as kind
use Rattle.ob_expr.specs.Checking.{typed_of}
use Rattle.ob_expr.specs.Functions.{function_of}
use Rattle.ob_expr.specs.TypedTree.{TypedTree}
use Rattle.ob_schema.specs.Models.{path_tree}
use Rattle.ob_registry.proofs.PathTokens.{tree_at}

abbrev typed_as : TypedTree → Result TypedTree TypeFault
typed_as typed = Ok typed

same_typed : (a b : TypedTree) → typed_as a ≡ typed_as b → a ≡ b
same_typed a b e = cc

no_typed : (why : TypeFault) (typed : TypedTree) → Err why ≡ typed_as typed → ⊥
no_typed why typed e = cc

-- a field of the model's own rows
abbrev pub own_found : FieldNo → Kind → Bool → Found
own_found field k usable = record { via = None; field = field; kind = k; usable = usable }

module _ (finds : ModelNo → List ℕ → Option Found) (number : ModelNo) (parent : List ℕ) (at : ℕ) (link own : FieldNo) (path_found : finds number path_name ≡ Some (own_found own kind.Word true)) where
  used : finds number parent ≡ Some (own_found link (kind.Ref number) true) → typed_of finds number (tree_at parent at) ≡ typed_as (path_tree number link own)
  unfolding function_of
  used found = rw (found, path_found) refl

  unused : finds number parent ≡ Some (own_found link (kind.Ref number) false) → typed_of finds number (tree_at parent at) ≡ Err (fault.Name 4)
  unfolding function_of
  unused found = rw found refl

  -- where it is right
  pub path-typed : (usable : Bool) → finds number parent ≡ Some (own_found link (kind.Ref number) usable) → (typed : TypedTree) → typed_of finds number (tree_at parent at) ≡ Ok typed → typed ≡ path_tree number link own
  path-typed true found typed is = sym (same_typed (path_tree number link own) typed (sym (used found) ∙ is))
  path-typed false found typed is = absurd (no_typed (fault.Name 4) typed (sym (unused found) ∙ is))
