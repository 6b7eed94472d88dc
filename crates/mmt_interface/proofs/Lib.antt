pub mod Known
pub mod StructureRows
