pub mod WordsAsked
pub mod ReportWritten
pub mod WholeCall
pub mod OpeningServed
