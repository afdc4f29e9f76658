-- That a policy is over a registry holds in one way, so a value may keep that it does.
use Rattle.std.proofs.Common.{◌≡◌, List, [], ◌∷◌}
use Rattle.std.proofs.Math.Logic.{∥∥₁_elim}
use Rattle.std.proofs.Props.{props}
use Rattle.std.specs.Coded.{Coded-set, codes}
use Rattle.ob_base.specs.declared.id.ModelNo.{ModelNo}
use Rattle.ob_domain.specs.Over.{AreLinks, IsOver, IsTestOver, end_of}
use Rattle.ob_domain.specs.Trees.{Tree, constant, both, either, negation, criterion, any}
use Rattle.ob_domain.specs.declared.term.Test.{Test}
use Rattle.ob_domain.specs.declared.term.Test.TheVariants as test
use Rattle.ob_expr.specs.contracts.typed.Typed as typed
use Rattle.ob_expr.specs.declared.typed.Link.{Link}
use Rattle.ob_schema.specs.declared.info.ModelInfo.{ModelInfo}
use Rattle.ob_access.specs.Policies.{IsPolicyOver, PolicyData}
use Rattle.ob_access.specs.Views.{AreSeenBy}
use Rattle.ob_access.specs.declared.policy.FieldAccess.{FieldAccess}

module _ (models : List ModelInfo) where
  links-once : (model : ModelNo) (links : List Link) → IsProp (AreLinks models model links)
  links-once model [] = hlevel props
  links-once model (link ∷ links) = hlevel (props, links-once link.target links)

  test-once : (asked : Test) → IsProp (IsTestOver models asked)
  test-once (test.ChildOf tree operands) = hlevel props
  test-once (test.ParentOf tree operands) = hlevel props
  test-once _ = hlevel props

  over-once : (model : ModelNo) (tree : Tree) → IsProp (IsOver models model tree)
  over-once model (constant b) = hlevel props
  over-once model (both a b) = hlevel (props, over-once model a, over-once model b)
  over-once model (either a b) = hlevel (props, over-once model a, over-once model b)
  over-once model (negation a) = over-once model a
  over-once model (criterion field asked) = hlevel (props, test-once asked)
  over-once model (any links tree) = hlevel (props, links-once model links, over-once (end_of model links) tree)

fields-once : (a b : List (List FieldAccess)) → IsProp (a ≡ b)
fields-once = Coded-set (hlevel codes)

models-once : (a b : List ModelInfo) → IsProp (a ≡ b)
models-once = Coded-set (hlevel (codes, typed.the_row.coded))

policy-once : (models : List ModelInfo) (policy : PolicyData) → IsProp (IsPolicyOver models policy)
policy-once models policy = hlevel (props, over-once models, fields-once)

seen-once : (models : List ModelInfo) (policy : PolicyData) (schema : List ModelInfo) → IsProp (AreSeenBy models policy schema)
seen-once models policy schema = hlevel (props, policy-once models policy, models-once)

-- what a value keeps of its policy and registry
pub seen_by : (models : List ModelInfo) (policy : PolicyData) (schema : List ModelInfo) → ∥ AreSeenBy models policy schema ∥₁ → AreSeenBy models policy schema
seen_by models policy schema fit = ∥∥₁_elim fit (seen-once models policy schema) (λ h. h)
