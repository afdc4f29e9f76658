-- Kinds are the same where the program says so.
use Rattle.std.proofs.Common.{◌≡◌, ℕ, Bool, true, false, eqb, Option, Some, None, refl, sym, ap, ◌∙◌}
use Rattle.std.specs.Bool.{Decides}
use Rattle.std.specs.Option.{option_eq}
use Rattle.std.proofs.lemmas.Bool.{false≢true}
use Rattle.std.proofs.lemmas.Bool.Decides.{Decides-eqb}
use Rattle.ob_base.specs.declared.id.ModelNo.{ModelNo}
use Rattle.ob_expr.specs.declared.kind.Kind.{Kind}
use Rattle.ob_expr.specs.declared.kind.Kind.TheVariants as kind
use Rattle.ob_expr.specs.Kinds.{same_kind}

model_same : (a b : ModelNo) → eqb a.0 b.0 ≡ true → a ≡ b
model_same a b is = ap (λ (n : ℕ). let m : ModelNo = record { 0 = n } in m) ((Decides-eqb a.0 b.0).0 is)

same_kind-is : (a b : Kind) → same_kind a b ≡ true → a ≡ b
same_kind-is kind.Bool kind.Bool is = refl
same_kind-is kind.Int kind.Int is = refl
same_kind-is kind.Word kind.Word is = refl
same_kind-is kind.Day kind.Day is = refl
same_kind-is kind.Moment kind.Moment is = refl
same_kind-is (kind.Ref a) (kind.Ref b) is = ap kind.Ref (model_same a b is)
same_kind-is (kind.Refs a) (kind.Refs b) is = ap kind.Refs (model_same a b is)
same_kind-is _ _ is = absurd (false≢true is)

same_kind-itself : (a : Kind) → same_kind a a ≡ true
same_kind-itself kind.Bool = refl
same_kind-itself kind.Int = refl
same_kind-itself kind.Word = refl
same_kind-itself kind.Day = refl
same_kind-itself kind.Moment = refl
same_kind-itself (kind.Ref a) = (Decides-eqb a.0 a.0).1 refl
same_kind-itself (kind.Refs a) = (Decides-eqb a.0 a.0).1 refl

module _ (eq : Kind → Kind → Bool) (is : (a b : Kind) → eq a b ≡ same_kind a b) where
  pub kind_same : (o : Option Kind) (k : Kind) → option_eq eq o (Some k) ≡ true → o ≡ Some k
  kind_same None k e = absurd (false≢true e)
  kind_same (Some j) k e = ap Some (same_kind-is j k (sym (is j k) ∙ e))

  pub kind_differs : (o : Option Kind) (k : Kind) → option_eq eq o (Some k) ≡ false → o ≡ Some k → ⊥
  kind_differs None k e same = let f : ◌≡◌ {A = Option Kind} None (Some k) = same in cc
  kind_differs (Some j) k e same =
      let alike : j ≡ k = cc in
      false≢true (sym e ∙ is j k ∙ ap (λ (x : Kind). same_kind x k) alike ∙ same_kind-itself k)

  pub kind_decides : (o : Option Kind) (k : Kind) (r : Bool) → r ≡ option_eq eq o (Some k) → Decides r (o ≡ Some k)
  kind_decides o k r e = by (option_eq eq o (Some k)) refl e
    where
      by : (b : Bool) → option_eq eq o (Some k) ≡ b → r ≡ b → Decides r (o ≡ Some k)
      by true is e = (λ _. kind_same o k is, λ _. e)
      by false fails e = (λ t. absurd (false≢true (sym e ∙ t)), λ same. absurd (kind_differs o k fails same))
