pub mod OneListing
pub mod EachRow
pub mod Listed
