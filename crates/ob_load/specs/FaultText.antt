-- How the fault of a module is told.
use Rattle.std.specs.Prelude.{ℕ, List, ◌++◌, codes}
use Rattle.ob_base.specs.PathText.{path_text}
use Rattle.ob_definition.specs.declared.fault.SchemaFault.{SchemaFault}
use Rattle.ob_definition.specs.declared.fault.SchemaFault.TheVariants as schema
use Rattle.ob_load.specs.declared.fault.FaultyModule.{FaultyModule}
use Rattle.ob_load.specs.declared.fault.ModuleFault.{ModuleFault}
use Rattle.ob_load.specs.declared.fault.ModuleFault.TheVariants as fault

-- a fault of models, as its variant is spelled
abbrev pub schema_name : SchemaFault → List ℕ
schema_name (schema.Model spot) = codes "Model"
schema_name (schema.Field spot) = codes "Field"
schema_name (schema.Kind spot) = codes "Kind"
schema_name (schema.Twice spot) = codes "Twice"
schema_name (schema.Cycle spot) = codes "Cycle"
schema_name (schema.Recursion spot) = codes "Recursion"
schema_name (schema.Path spot) = codes "Path"
schema_name (schema.Inverse spot) = codes "Inverse"
schema_name (schema.Inherits spot) = codes "Inherits"
schema_name (schema.Limit spot) = codes "Limit"
schema_name (schema.Text spot why) = codes "Text"
schema_name _ = codes "NoMemory"

-- a fault of a module, as its variant is spelled; of its models, as that fault is
abbrev pub kind_text : ModuleFault → List ℕ
kind_text fault.Limit = codes "Limit"
kind_text fault.Absent = codes "Absent"
kind_text fault.TooLong = codes "TooLong"
kind_text fault.Toml = codes "Toml"
kind_text fault.Form = codes "Form"
kind_text fault.Cycle = codes "Cycle"
kind_text (fault.Schema why) = schema_name why
kind_text (fault.Domain why) = codes "Domain"

-- `module NAME: KIND PLACE`
abbrev pub fault_text : FaultyModule → List ℕ
fault_text faulty = codes "module " ++ faulty.name ++ codes ": " ++ kind_text faulty.fault ++ codes " " ++ path_text faulty.place
