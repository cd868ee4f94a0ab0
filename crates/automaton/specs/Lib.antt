pub mod Subjects
pub mod SubjectLemmas
