-- The printed form of an answer, and the text of an input.
pub mod AnswerText
pub mod RecordText
pub mod AnswerTextLaws
pub mod Report
pub mod ReportLaws
