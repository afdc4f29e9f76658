use Rattle.std.proofs.Common.{List, subst}
use Rattle.serde_json.specs.Data.{Data}
use Rattle.ob_fields.specs.FieldsGetSteps.{AreAsked}
use Rattle.ob_fields.proofs.FieldsAsked.{texts_given}
use Rattle.ob_fields.proofs.fields.attributes.attributes_in.Goals as goal

pub returns-in-Array : goal.returns-in-Array
returns-in-Array c =
    subst (λ (texts : List Data). AreAsked texts c.attributes_of.result) (texts_given c.args.given.now c.in-Some.given c.in-Array.items c.in-Some.is c.in-Array.is)
    (rw c.as_slice.ensures.value at c.attributes_of.ensures)
