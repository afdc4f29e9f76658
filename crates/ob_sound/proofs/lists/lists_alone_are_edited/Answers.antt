use Rattle.ob_sound.proofs.Alone.{list_same, own_same}
use Rattle.ob_sound.proofs.lists.lists_alone_are_edited.Goals as goal

pub returns : goal.returns
returns c = record { own = own_same; listed = list_same }
