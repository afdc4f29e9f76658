-- What the requests of a run stand over, beside its rows.
use Rattle.std.specs.Prelude.{ℕ, List}
use Rattle.ob_access.specs.Policies.{PolicyData}
use Rattle.ob_schema.specs.declared.info.ModelInfo.{ModelInfo}
use Rattle.ob_server.specs.declared.terms.Terms.{Terms}

-- the models of the modules, who may ask for what of them, and the name of the database
pub record Setup : Type 0 where
  pub models : List ModelInfo
  pub policy : PolicyData
  pub database : List ℕ

-- what requests stand over that an engine of these models serves on these terms
abbrev pub over : Terms → List ModelInfo → Setup
over terms models = record { models = models; policy = terms.policy.now; database = terms.database.now }
