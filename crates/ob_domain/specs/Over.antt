-- Whether a tree asks only fields that there are.
use Rattle.std.specs.Prelude.{List, [], ◌∷◌, ⊤}
use Rattle.ob_base.specs.declared.id.ModelNo.{ModelNo}
use Rattle.ob_domain.specs.Trees.{Item, Tree, operator, leaf, constant, both, either, negation, criterion, any}
use Rattle.ob_domain.specs.declared.term.Test.{Test}
use Rattle.ob_domain.specs.declared.term.Test.TheVariants as test
use Rattle.ob_expr.specs.declared.typed.Link.{Link}
use Rattle.ob_schema.specs.Models.{HasField, HasModel}
use Rattle.ob_schema.specs.declared.info.ModelInfo.{ModelInfo}
use Rattle.ob_schema.specs.declared.info.Step.{Step}

-- the model to whose rows links lead
abbrev pub end_of : ModelNo → List Link → ModelNo
end_of model [] = model
end_of model (link ∷ links) = end_of link.target links

module _ (models : List ModelInfo) where
  -- the paths of a tree stand in a field that there is
  abbrev pub IsTreeOver : Step → Type 0
  IsTreeOver tree = HasModel models tree.model × HasField models tree.model tree.field

  abbrev pub IsTestOver : Test → Type 0
  IsTestOver (test.ChildOf tree operands) = IsTreeOver tree
  IsTestOver (test.ParentOf tree operands) = IsTreeOver tree
  IsTestOver _ = ⊤

  -- each link is a field of the model to which the ones before lead
  abbrev pub AreLinks : ModelNo → List Link → Type 0
  AreLinks model [] = ⊤
  AreLinks model (link ∷ links) = HasField models model link.field × HasModel models link.target × AreLinks link.target links

  -- the tree asks fields of the model, and behind links fields of theirs
  abbrev pub IsOver : ModelNo → Tree → Type 0
  IsOver model (both a b) = IsOver model a × IsOver model b
  IsOver model (either a b) = IsOver model a × IsOver model b
  IsOver model (negation a) = IsOver model a
  IsOver model (criterion field asked) = HasField models model field × IsTestOver asked
  IsOver model (any links tree) = AreLinks model links × IsOver (end_of model links) tree
  IsOver model (constant b) = ⊤

  abbrev pub IsItemOver : ModelNo → Item → Type 0
  IsItemOver model (operator op) = ⊤
  IsItemOver model (leaf tree) = IsOver model tree
