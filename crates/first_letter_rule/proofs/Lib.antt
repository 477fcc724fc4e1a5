pub mod FirstLetters
