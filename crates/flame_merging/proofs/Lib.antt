pub mod RowWeights
