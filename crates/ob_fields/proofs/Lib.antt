pub mod FieldsTold
pub mod FieldsAsked
pub mod FieldsObject
pub mod ReadableFields
pub mod FieldsAnswer
