pub mod Announcements
pub mod RowsTold
pub mod IndexedRows
pub mod ByNumber
pub mod SessionRange
