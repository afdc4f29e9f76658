-- Where the forms of a read's arguments are broken.
use Rattle.std.specs.Prelude.{List, Option, None}
use Rattle.ob_base.specs.declared.place.PathStep.{PathStep}
use Rattle.serde_json.specs.Data.{Data}
use Rattle.ob_call.specs.Forms.{fields_at, ids_fault, names_fault}
use Rattle.ob_query.specs.declared.reading.read_form.ReadForm.{ReadForm}
use Rattle.ob_query.specs.declared.reading.read_form.ReadForm.TheVariants as form

-- the place below an argument where it breaks its form
abbrev pub read_fault : ReadForm → Data → Option (List PathStep)
read_fault form.Ids d = ids_fault d
read_fault (form.Fields names) d = names_fault (fields_at names.schema.now names.model) d
read_fault form.Unread d = None
