pub mod RowsOfWords
