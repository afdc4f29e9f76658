-- Depths below a row add to its own, and each row has one.
use Rattle.std.proofs.Common.{◌≡◌, ◌+◌, ℕ, zero, suc, List, Option, Some, None, refl, sym, ap, subst, arith}
use Rattle.std.specs.Prelude.{IsSome, IsSomeAnd}
use Rattle.ob_base.specs.declared.id.FieldNo.{FieldNo}
use Rattle.ob_base.specs.declared.id.ModelNo.{ModelNo}
use Rattle.ob_base.specs.declared.id.RecId.{RecId}
use Rattle.ob_base.specs.declared.value.Value.TheVariants as value
use Rattle.ob_schema.specs.Chains.{ReachesOver}
use Rattle.ob_schema.specs.Tables.{PlainRow, Tables, kept_in, row_at}
use Rattle.ob_schema.specs.Tied.{HasDepth, IsParentIn}
use Rattle.ob_schema.specs.declared.info.ModelInfo.{ModelInfo}

module _ (models : List ModelInfo) (tables : Tables) (model : ModelNo) (parent : FieldNo) where
  abbrev Up : RecId → RecId → Type 0
  Up id other = IsParentIn models tables model parent id other

  abbrev Has : ℕ → RecId → Type 0
  Has depth id = HasDepth models tables model parent depth id

  -- a row has one parent
  up_once : (id a b : RecId) → Up id a → Up id b → a ≡ b
  up_once id a b first second = by (row_at tables model id) first second
    where
      by : (o : Option PlainRow) → IsSomeAnd o (λ row. (kept_in row parent ≡ value.Ref a) × IsSome (row_at tables model a)) → IsSomeAnd o (λ row. (kept_in row parent ≡ value.Ref b) × IsSome (row_at tables model b)) → a ≡ b
      by None first second = absurd first
      by (Some row) first second = cc (first.0, second.0)

  -- a child stands one deeper
  deeper : (depth : ℕ) (id other : RecId) → Has depth other → Up id other → Has (suc depth) id
  deeper zero id other has up = absurd has
  deeper (suc depth) id other has up = (other, up, has)

  at_depth : (between : ℕ) (top id : RecId) (depth all : ℕ) → depth + between + 1 ≡ all → Has depth top → ReachesOver Up between id top → Has all id
  at_depth zero top id depth all is has up = let same : suc depth ≡ all = omega (arith, is) in subst (λ (n : ℕ). Has n id) same (deeper depth id top has up)
  at_depth (suc between) top id depth all is has (other, up, on) =
      let same : suc (depth + between + 1) ≡ all = omega (arith, is) in
      subst (λ (n : ℕ). Has n id) same (deeper (depth + between + 1) id other (at_depth between top other depth (depth + between + 1) refl has on) up)

  pub depth_below : (top id : RecId) (depth between : ℕ) → Has depth top → ReachesOver Up between id top → Has (depth + between + 1) id
  depth_below top id depth between has on = at_depth between top id depth (depth + between + 1) refl has on

  pub depth_once : (id : RecId) (depth other : ℕ) → Has depth id → Has other id → depth ≡ other
  depth_once id zero other has there = absurd has
  depth_once id (suc depth) zero has there = absurd there
  depth_once id (suc zero) (suc zero) has there = refl
  depth_once id (suc zero) (suc (suc other)) has (above, up, there) = absurd (has above up)
  depth_once id (suc (suc depth)) (suc zero) (above, up, has) there = absurd (there above up)
  depth_once id (suc (suc depth)) (suc (suc other)) (above, up, has) (over, on, there) =
      ap (λ (n : ℕ). suc n) (depth_once above (suc depth) (suc other) has (subst (λ (x : RecId). Has (suc other) x) (sym (up_once id above over up on)) there))
