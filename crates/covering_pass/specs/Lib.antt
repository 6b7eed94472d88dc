pub mod CoverTables
