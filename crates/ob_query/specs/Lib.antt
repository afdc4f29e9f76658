-- What contracts of public functions cite.
pub mod Views
pub mod ReadArguments
pub mod NamedFields
pub mod Denials
pub mod Read
pub mod SearchForms
pub mod SearchOrder
pub mod Search
pub mod Isolation
-- Private: the words by which the rooms of the crate are joined.
pub mod Callers
pub mod ReadForm
pub mod ReadParts
pub mod ReadRows
pub mod SearchKeys
pub mod SearchQuestions
pub mod SearchParts
