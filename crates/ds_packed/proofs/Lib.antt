mod NamesLemmas
mod RowsLemmas
