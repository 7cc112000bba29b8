pub mod TokenLists
pub mod PassedLists
pub mod MoreDigits
pub mod MoreValues
pub mod DealtRows
pub mod BagLists
pub mod MoreConstants
