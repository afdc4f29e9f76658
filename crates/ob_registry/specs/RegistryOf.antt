-- Private: the registry of models. Each of its models and fields is one of these models', and each of theirs is there.
use Rattle.std.specs.Prelude.{◌≡◌, List, Some}
use Rattle.ob_base.specs.declared.id.FieldNo.{FieldNo}
use Rattle.ob_base.specs.declared.id.ModelNo.{ModelNo}
use Rattle.ob_definition.specs.Gathered.{Gathered}
use Rattle.ob_definition.specs.Members.{Member, model_at}
use Rattle.ob_schema.specs.declared.info.FieldInfo.{FieldInfo}
use Rattle.ob_schema.specs.declared.info.ModelInfo.{ModelInfo}
use Rattle.ob_registry.specs.Building.{AreResolved, HasNativeDefault}
use Rattle.ob_schema.specs.Built.{IsFieldOf, IsModelOf}
use Rattle.ob_schema.specs.Models.{field_at, model_at as info_at}
use Rattle.ob_schema.specs.Paths.{step_at}
use Rattle.ob_schema.specs.Strata.{IsMember}

-- the model of a number in the registry is that of this model
pub record HasInfo (models : List Gathered) (infos : List ModelInfo) (number : ModelNo) (g : Gathered) : Type 0 where
  pub info : ModelInfo
  pub at : info_at infos number ≡ Some info
  pub is : IsModelOf models g info
  pub same : is.number ≡ number

-- a model of the registry is one of these models
pub record IsInfoFrom (models : List Gathered) (number : ModelNo) (info : ModelInfo) : Type 0 where
  pub model : Gathered
  pub there : model_at models number.0 ≡ Some model
  pub is : IsModelOf models model info
  pub same : is.number ≡ number

-- the field of a number in the registry is that of this member
pub record HasFieldInfo (models : List Gathered) (infos : List ModelInfo) (number : ModelNo) (field : FieldNo) (g : Gathered) (m : Member) : Type 0 where
  pub info : FieldInfo
  pub at : field_at infos number field ≡ Some info
  pub is : IsFieldOf (record { models = models; number = number; member = m }) g field info

-- a field of the registry is one of a model's fields, named or hidden
pub record IsFieldFrom (models : List Gathered) (number : ModelNo) (field : FieldNo) (info : FieldInfo) : Type 0 where
  pub model : Gathered
  pub member : Member
  pub is_member : IsMember models (step_at number field) model member
  pub is : IsFieldOf (record { models = models; number = number; member = member }) model field info

-- the registry of models against which nothing stands
pub record IsRegistryOf (models : List Gathered) (infos : List ModelInfo) : Type 0 where
  pub resolved : AreResolved models
  pub model : (number : ModelNo) (g : Gathered) → model_at models number.0 ≡ Some g → HasInfo models infos number g
  pub model_back : (number : ModelNo) (info : ModelInfo) → info_at infos number ≡ Some info → IsInfoFrom models number info
  pub field : (number : ModelNo) (field : FieldNo) (g : Gathered) (m : Member) → IsMember models (step_at number field) g m → HasFieldInfo models infos number field g m
  pub field_back : (number : ModelNo) (field : FieldNo) (info : FieldInfo) → field_at infos number field ≡ Some info → IsFieldFrom models number field info
  pub native : (number : ModelNo) (field : FieldNo) (info : FieldInfo) → field_at infos number field ≡ Some info → HasNativeDefault info
