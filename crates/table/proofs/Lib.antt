-- The rows of the table, as the arms of `row_of` look them up.
pub mod Rows
