use Rattle.std.proofs.Common.{◌≡◌, Option, Some, refl, subst}
use Rattle.std.specs.Prelude.{◌↔◌, IsTrue}
use Rattle.ob_expr.specs.contracts.kind.KindPartialEq.TheImpl.{eq-value}
use Rattle.ob_expr.specs.declared.kind.Kind.{Kind}
use Rattle.ob_expr.specs.declared.kind.Kind.TheVariants as kind
use Rattle.ob_expr.specs.Kinds.{same_kind}
use Rattle.ob_expr.specs.TypedTree.{kind_of, typed_tree_of}
use Rattle.ob_registry.proofs.KindTests.{kind_decides}
use Rattle.ob_registry.proofs.formulas.has_kind.Goals as goal

-- `==` tells kinds apart as their definition does
told_same : (a b : Kind) → eq-value.it a b ≡ same_kind a b
told_same kind.Bool kind.Bool = refl
told_same kind.Int kind.Int = refl
told_same kind.Word kind.Word = refl
told_same kind.Day kind.Day = refl
told_same kind.Moment kind.Moment = refl
told_same (kind.Ref a) (kind.Ref b) = refl
told_same (kind.Refs a) (kind.Refs b) = refl
told_same _ _ = refl

pub returns : goal.returns
returns c =
    let told = kind_decides eq-value.it told_same c.kind.result c.kind-2.result c.eq.result c.eq.ensures in
    let read = kind_of (typed_tree_of c.args.typed.now) in
    subst (λ (o : Option Kind). IsTrue c.eq.result ↔ (o ≡ Some read)) c.kind.ensures (subst (λ (k : Kind). IsTrue c.eq.result ↔ (c.kind.result ≡ Some k)) c.kind-2.ensures told)
