use Rattle.ob_sound.proofs.Found.{depth_found, tree_found}
use Rattle.ob_sound.proofs.edits.broken_trees_found.Goals as goal

pub returns-clause-tree : goal.returns-clause-tree
returns-clause-tree c = tree_found

pub returns-clause-depth : goal.returns-clause-depth
returns-clause-depth c = depth_found
