mod NameTables
mod Identities
mod CoverLists
mod AllCovered
mod NextImages
