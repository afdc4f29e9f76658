pub mod FieldsGet
pub mod FieldsGetSteps
