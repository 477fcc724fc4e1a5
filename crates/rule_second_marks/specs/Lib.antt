pub mod SecondMarks
