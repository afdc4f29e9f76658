-- What contracts of public functions cite.
pub mod Lines
pub mod Directory
pub mod Setup
pub mod Request
pub mod Texts
pub mod Machine
pub mod Isolation
pub mod Ending
pub mod Outside
pub mod Session
pub mod Reply
pub mod Body
pub mod Exchange
pub mod Reception
pub mod Opening
-- Private: the words by which the rooms of the crate are joined.
pub mod LineSteps
pub mod MethodCall
pub mod Service
pub mod SessionSteps
pub mod ExchangeSteps
pub mod ReceptionSteps
pub mod OpeningSteps
