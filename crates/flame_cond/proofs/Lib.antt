pub mod PeriodLemmas
pub mod FormTruths
pub mod Lengths
pub mod EqualTruths
pub mod RowTruths
