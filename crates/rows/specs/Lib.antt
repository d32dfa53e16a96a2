pub mod RowEdges
pub mod RowSets
pub mod Made
pub mod RowColumns
