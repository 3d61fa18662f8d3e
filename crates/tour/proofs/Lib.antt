pub mod SourceRows
