-- Trees over fields that there are.
use Rattle.std.proofs.Common.{ℕ, zero, suc, List, [], ◌∷◌, ◌++◌, drop}
use Rattle.std.specs.List.{AllByRecursion}
use Rattle.ob_base.specs.declared.id.ModelNo.{ModelNo}
use Rattle.ob_domain.specs.Over.{AreLinks, IsItemOver, IsOver, end_of}
use Rattle.ob_domain.specs.Trees.{Item, Tree, all_of, behind, first_of, joined, leaf, operator, signed, spelled}
use Rattle.ob_domain.specs.declared.operator.Logical.{Logical}
use Rattle.ob_domain.specs.declared.operator.Logical.TheVariants as logical
use Rattle.ob_domain.specs.declared.operator.Sense.{Sense}
use Rattle.ob_domain.specs.declared.operator.Sense.TheVariants.{Positive, Negative}
use Rattle.ob_schema.specs.declared.info.ModelInfo.{ModelInfo}
use Rattle.ob_expr.specs.declared.typed.Link.{Link}

module _ (models : List ModelInfo) where
  pub signed-over : (model : ModelNo) (sense : Sense) (tree : Tree) → IsOver models model tree → IsOver models model (signed sense tree)
  signed-over model Positive tree over = over
  signed-over model Negative tree over = over

  pub behind-over : (model : ModelNo) (links : List Link) (tree : Tree) → AreLinks models model links → IsOver models (end_of model links) tree → IsOver models model (behind links tree)
  behind-over model [] tree links over = over
  behind-over model (link ∷ rest) tree links over = (links, over)

  first_of-over : (model : ModelNo) (trees : List Tree) → AllByRecursion (IsOver models model) trees → IsOver models model (first_of trees)
  first_of-over model [] over = tt
  first_of-over model (tree ∷ trees) over = over.0

  drop-over : (model : ModelNo) (n : ℕ) (trees : List Tree) → AllByRecursion (IsOver models model) trees → AllByRecursion (IsOver models model) (drop n trees)
  drop-over model zero trees over = over
  drop-over model (suc n) [] over = tt
  drop-over model (suc n) (tree ∷ trees) over = drop-over model n trees over.1

  joined-over : (model : ModelNo) (op : Logical) (trees : List Tree) → AllByRecursion (IsOver models model) trees → AllByRecursion (IsOver models model) (joined op trees)
  joined-over model logical.And trees over = ((first_of-over model trees over, first_of-over model (drop 1 trees) (drop-over model 1 trees over)), drop-over model 2 trees over)
  joined-over model logical.Or trees over = ((first_of-over model trees over, first_of-over model (drop 1 trees) (drop-over model 1 trees over)), drop-over model 2 trees over)
  joined-over model logical.Not trees over = (first_of-over model trees over, drop-over model 1 trees over)

  pub spelled-over : (model : ModelNo) (items : List Item) → AllByRecursion (IsItemOver models model) items → AllByRecursion (IsOver models model) (spelled items)
  spelled-over model [] over = tt
  spelled-over model (operator op ∷ items) over = joined-over model op (spelled items) (spelled-over model items over.1)
  spelled-over model (leaf tree ∷ items) over = (over.0, spelled-over model items over.1)

  all_of-over : (model : ModelNo) (trees : List Tree) → AllByRecursion (IsOver models model) trees → IsOver models model (all_of trees)
  all_of-over model [] over = tt
  all_of-over model (tree ∷ []) over = over.0
  all_of-over model (tree ∷ next ∷ trees) over = (over.0, all_of-over model (next ∷ trees) over.1)

  -- what items spell is over what they are over
  pub whole-over : (model : ModelNo) (items : List Item) → AllByRecursion (IsItemOver models model) items → IsOver models model (all_of (spelled items))
  whole-over model items over = all_of-over model (spelled items) (spelled-over model items over)

  pub items-over-more : (model : ModelNo) (items : List Item) (last : Item) → AllByRecursion (IsItemOver models model) items → IsItemOver models model last
      → AllByRecursion (IsItemOver models model) (items ++ last ∷ [])
  items-over-more model [] last over more = (more, tt)
  items-over-more model (first ∷ items) last over more = (over.0, items-over-more model items last over.1 more)
