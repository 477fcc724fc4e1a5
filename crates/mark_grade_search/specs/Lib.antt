pub mod GradeSearch
