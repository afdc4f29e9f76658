-- What is made of models against which nothing stands is a registry.
use Rattle.ob_registry.proofs.FormulasIn.{formulas_in}
use Rattle.ob_registry.proofs.ModelsRight.{registry_right}
use Rattle.ob_registry.proofs.building.registry.Goals as goal

pub from_models-requires : goal.from_models-requires
from_models-requires c =
    let models = c.args.models.now in
    let infos = c.in_ok-infos.infos in
    registry_right models infos c.in_ok-infos.ensures.places c.in_ok-infos.ensures.of (formulas_in models infos c.in_ok-infos.ensures.places)
