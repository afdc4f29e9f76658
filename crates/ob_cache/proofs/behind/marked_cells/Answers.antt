use Rattle.std.proofs.Common.{◌≡◌, List, refl, subst, sym}
use Rattle.std.proofs.lemmas.List.Elements.{All-weaker}
use Rattle.ob_cache.specs.Behind.{AreMarked}
use Rattle.ob_change.specs.Changing.{models_of, sides_of}
use Rattle.ob_schema.specs.declared.info.ModelInfo.{ModelInfo}
use Rattle.ob_trigger.specs.Affected.{Affected, IsChange, IsComputedBehind}
use Rattle.ob_cache.proofs.behind.marked_cells.Goals as goal

pub returns-in-Ok : goal.returns-in-Ok
returns-in-Ok c =
    let change = c.args.change in
    let models = models_of change in
    let sides = sides_of change in
    let is : IsChange models sides c.args.edited.now = record { before = c.requires.before; behind = c.requires.behind; edited = c.requires.edited } in
    let over : c.args.triggers.now ≡ models = c.requires.triggers in
    let given : IsChange c.args.triggers.now sides c.args.edited.now = subst (λ (m : List ModelInfo). IsChange m sides c.args.edited.now) (sym over) is in
    subst (λ (m : List ModelInfo). AreMarked m sides c.in-Ok.cells) over (record {
      rising = c.in-Ok.ensures.rising;
      affected = c.in-Ok.ensures.affected sides refl given;
      behind = All-weaker (Affected c.args.triggers.now sides) (IsComputedBehind c.args.triggers.now sides) (λ cell affected. affected.0) c.in-Ok.cells (c.in-Ok.ensures.affected sides refl given);
      changed = c.in-Ok.ensures.changed sides refl given;
    })
