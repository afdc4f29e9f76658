-- What contracts of public functions cite.
pub mod EditsBreak
pub mod FormulasBreak
pub mod Lists
pub mod Touched
