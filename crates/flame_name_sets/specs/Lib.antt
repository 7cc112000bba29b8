-- Tables in which something stands behind a name.
pub mod NameTables
